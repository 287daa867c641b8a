-- Which claims the workers have, and which jobs are live.
use Rattle.std.proofs.Common.{◌≡◌, ℕ, zero, suc, ◌-◌, Bool, true, false, not, cond, List, [], ◌∷◌, ◌++◌, get_or, refl, sym, ap, subst, ◌∙◌, inl, inr}
use Rattle.std.specs.Prelude.{slice_set}
use Rattle.std.proofs.lemmas.Bool.{true≢false}
use Rattle.lsm_key.specs.Sets.{IsIn}
use Rattle.lsm_key.proofs.AscendingEntries.{IsIn-filter}
use Rattle.lsm_key.proofs.Lists.{none_is}
use Rattle.lsm_key.proofs.Membership.{IsIn-append_cases, IsIn-append_left, IsIn-append_right}
use Rattle.lsm_claim.specs.declared.ending.Ending.{Ending}
use Rattle.lsm_claim.specs.declared.ending.Ending.TheVariants.{Installed, Returned}
use Rattle.lsm_claim.specs.declared.job.JobId.{JobId}
use Rattle.lsm_claim.specs.declared.job.LiveJob.{LiveJob}
use Rattle.lsm_claim.specs.declared.job.Want.{Want}
use Rattle.lsm_claim.specs.Book.{BookValue, after_claim, after_settling, holds, next_job, with_ending}
use Rattle.lsm_claim.specs.Jobs.{same_job_id, without_job}
use Rattle.lsm_msg.specs.declared.job.JobResult.{JobResult}
use Rattle.lsm_coord.specs.declared.coord.install.Install.TheVariants as became
use Rattle.lsm_coord.specs.Contract.Calls.{MayHaveStored, after_give_back}
use Rattle.lsm_coord.specs.Contract.Installing.{Became}
use Rattle.lsm_coord.specs.Contract.Value.{CoordValue}
use Rattle.lsm_coord.proofs.GiveBackSteps.{live_before, same_name, same_self}
use Rattle.lsm_coord.proofs.InstallOutcomes.{found_some}
use Rattle.lsm_dispatch.specs.declared.crew.WorkerState.{WorkerState}
use Rattle.lsm_dispatch.specs.declared.crew.WorkerState.TheVariants.{Gone, Idle, Busy}
use Rattle.lsm_dispatch.specs.Crews.{CrewHolds, Ends, after_leaving, busy_claim, busy_claims, has_busy, state_of, with_state}

-- ---- a name that has ended

module _ (b : BookValue) (id : JobId) (j : LiveJob) (same : j.id ≡ id) where
  not_without : IsIn j (without_job id b.live) → ⊥
  not_without m = let kept = (IsIn-filter (λ k. not (same_job_id k.id id)) j b.live m).1 in true≢false (sym kept ∙ ap not (same_self j.id id same))

  pub not_held : holds b id ≡ false → IsIn j b.live → ⊥
  not_held none m = true≢false (sym (same_self j.id id same) ∙ none_is (λ k. same_job_id k.id id) b.live none j m)

  gone_by : (h : Bool) (ending : Ending) → holds b id ≡ h → IsIn j (cond h (with_ending ending (record b { live = without_job id b.live })) b).live → ⊥
  gone_by true Installed e m = not_without m
  gone_by true Returned e m = not_without m
  gone_by false ending e m = not_held e m

  pub gone_after : (ending : Ending) → IsIn j (after_settling b id ending).live → ⊥
  gone_after ending m = gone_by (holds b id) ending refl m

pub ends_returned : (c : CoordValue) (id : JobId) → Ends c.book (id ∷ []) (after_give_back c id).book
ends_returned c id j m = (live_before c.book id Returned j m, λ i. elim i [ inl e ↦ gone_after c.book id j e Returned m | inr none ↦ absurd none ])

pub ends_leaving : (c : CoordValue) (s : WorkerState) → Ends c.book (busy_claim s) (after_leaving c s).book
ends_leaving c Gone j m = (m, λ i. i)
ends_leaving c Idle j m = (m, λ i. i)
ends_leaving c (Busy job) j m = ends_returned c job.id j m

-- ---- installs

pub ends_installed : (old new : CoordValue) (claim : LiveJob) (made : JobResult) (number : ℕ) (files : List ℕ) → Became old claim made (became.Done number files) new → Ends old.book (claim.id ∷ []) new.book
ends_installed old new claim made number files b j m =
    let named : (b.0).id ≡ claim.id = same_name (b.0).id claim.id (found_some (λ k. same_job_id k.id claim.id) old.book.live b.0 b.1).1 in
    let n = subst (λ (c : CoordValue). IsIn j c.book.live) (b.4).new_is m in
    (live_before old.book (b.0).id Installed j n, λ i. elim i [ inl e ↦ gone_after old.book (b.0).id j (e ∙ sym named) Installed n | inr none ↦ absurd none ])

pub ends_stale : (old new : CoordValue) (id : JobId) → holds old.book id ≡ false → new ≡ old → Ends old.book (id ∷ []) new.book
ends_stale old new id none same j m =
    let n = subst (λ (c : CoordValue). IsIn j c.book.live) same m in
    (n, λ i. elim i [ inl e ↦ not_held old.book id j e none n | inr never ↦ absurd never ])

pub ends_kept : {MayPut : ℕ → List ℕ → Type 0} (old mid new : CoordValue) (id : JobId) → MayHaveStored MayPut old mid → new ≡ after_give_back mid id → Ends old.book (id ∷ []) new.book
ends_kept old mid new id stored back =
    let same : mid.book ≡ old.book = ap (λ (c : CoordValue). c.book) stored.rest in
    subst (λ (b : BookValue). Ends b (id ∷ []) new.book) same (subst (λ (c : CoordValue). Ends mid.book (id ∷ []) c.book) (sym back) (ends_returned mid id))

pub ends_then : (a b c : BookValue) (xs ys : List JobId) → Ends a xs b → Ends b ys c → Ends a (xs ++ ys) c
ends_then a b c xs ys first second j m =
    let q = second j m in
    let p = first j q.0 in
    (p.0, λ i. elim (IsIn-append_cases j.id xs ys i) [ inl l ↦ p.1 l | inr r ↦ q.1 r ])

-- ---- the claims of a crew

claim_is_held : (crew : List WorkerState) (n : ℕ) (job : LiveJob) → get_or crew n Gone ≡ Busy job → IsIn job.id (busy_claims crew)
claim_is_held [] n job e = absurd cc
claim_is_held (s ∷ ss) zero job e = IsIn-append_left job.id (busy_claim s) (busy_claims ss) (subst (λ (x : WorkerState). IsIn job.id (busy_claim x)) (sym e) (inl refl))
claim_is_held (s ∷ ss) (suc n) job e = IsIn-append_right job.id (busy_claim s) (busy_claims ss) (claim_is_held ss n job e)

stays_held : (crew : List WorkerState) (n : ℕ) (x : WorkerState) (id : JobId) → IsIn id (busy_claims crew) → (IsIn id (busy_claim (get_or crew n Gone)) → ⊥) → IsIn id (busy_claims (slice_set crew n x))
stays_held [] n x id m other = absurd m
stays_held (s ∷ ss) zero x id m other = elim (IsIn-append_cases id (busy_claim s) (busy_claims ss) m) [
  | inl a ↦ absurd (other a)
  | inr b ↦ IsIn-append_right id (busy_claim x) (busy_claims ss) b
]
stays_held (s ∷ ss) (suc n) x id m other = elim (IsIn-append_cases id (busy_claim s) (busy_claims ss) m) [
  | inl a ↦ IsIn-append_left id (busy_claim s) (busy_claims (slice_set ss n x)) a
  | inr b ↦ IsIn-append_right id (busy_claim s) (busy_claims (slice_set ss n x)) (stays_held ss n x id b other)
]

-- a worker's job has ended, and it is in another state
pub held_after_end : (old new : BookValue) (crew : List WorkerState) (index : ℕ) (x : WorkerState) → CrewHolds old crew → Ends old (busy_claim (state_of crew index)) new → CrewHolds new (with_state crew index x)
held_after_end old new crew index x held ends j m = let e = ends j m in stays_held crew (index - 1) x j.id (held j e.0) e.1

-- an idle worker has the next job
pub held_after_pick : (old : BookValue) (want : Want) (crew : List WorkerState) (index : ℕ) → CrewHolds old crew → state_of crew index ≡ Idle → state_of (with_state crew index (Busy (next_job old want))) index ≡ Busy (next_job old want)
    → CrewHolds (after_claim old want) (with_state crew index (Busy (next_job old want)))
held_after_pick old want crew index held idle now j m = elim (IsIn-append_cases j old.live (next_job old want ∷ []) m) [
  | inl a ↦ stays_held crew (index - 1) (Busy (next_job old want)) j.id (held j a) (λ i. subst (λ (x : WorkerState). IsIn j.id (busy_claim x)) idle i)
  | inr b ↦ elim b [
    | inl e ↦ subst (λ (l : LiveJob). IsIn l.id (busy_claims (with_state crew index (Busy (next_job old want))))) (sym e) (claim_is_held (with_state crew index (Busy (next_job old want))) (index - 1) (next_job old want) now)
    | inr none ↦ absurd none
  ]
]

pub empty_of : (xs : List LiveJob) → ((j : LiveJob) → IsIn j xs → ⊥) → xs ≡ []
empty_of [] none = refl
empty_of (x ∷ xs) none = absurd (none x (inl refl))

-- all claims of the crew have ended
pub none_live : (old new : BookValue) (crew : List WorkerState) → CrewHolds old crew → Ends old (busy_claims crew) new → new.live ≡ []
none_live old new crew held ends = empty_of new.live (λ j m. let e = ends j m in e.1 (held j e.0))

pub held_at_first : (book : BookValue) (crew : List WorkerState) → book.live ≡ [] → CrewHolds book crew
held_at_first book crew none j m = absurd (subst (IsIn j) none m)

pub busy_there : (crew : List WorkerState) (n : ℕ) (job : LiveJob) → get_or crew n Gone ≡ Busy job → has_busy crew ≡ true
busy_there [] n job e = absurd cc
busy_there (s ∷ ss) zero job e = ap (λ (x : WorkerState). has_busy (x ∷ ss)) e
busy_there (Gone ∷ ss) (suc n) job e = busy_there ss n job e
busy_there (Idle ∷ ss) (suc n) job e = busy_there ss n job e
busy_there (Busy other ∷ ss) (suc n) job e = refl

-- ---- states one after another

pub set_twice : (crew : List WorkerState) (n : ℕ) (a b : WorkerState) → slice_set (slice_set crew n a) n b ≡ slice_set crew n b
set_twice [] n a b = refl
set_twice (s ∷ ss) zero a b = refl
set_twice (s ∷ ss) (suc n) a b = ap (λ (xs : List WorkerState). s ∷ xs) (set_twice ss n a b)

-- a worker has left its state, and its claim was given back
pub left_held : (old new : CoordValue) (crew crew_new : List WorkerState) (index : ℕ) (s x : WorkerState) → s ≡ state_of crew index → crew_new ≡ with_state crew index x → new ≡ after_leaving old s → CrewHolds old.book crew → CrewHolds new.book crew_new
left_held old new crew crew_new index s x was now left held =
    let ends : Ends old.book (busy_claim (state_of crew index)) new.book = subst (λ (t : WorkerState). Ends old.book (busy_claim t) new.book) was (subst (λ (c : CoordValue). Ends old.book (busy_claim s) c.book) (sym left) (ends_leaving old s)) in
    subst (CrewHolds new.book) (sym now) (held_after_end old.book new.book crew index x held ends)

settled_ends : (old new : CoordValue) (s : WorkerState) → new ≡ after_leaving old s → Ends old.book (busy_claim s) new.book
settled_ends old new s e = subst (λ (c : CoordValue). Ends old.book (busy_claim s) c.book) (sym e) (ends_leaving old s)

-- four workers have left their states
pub four_left : (c0 c1 c2 c3 c4 : CoordValue) (a b c d : WorkerState) (crew : List WorkerState) → crew ≡ a ∷ b ∷ c ∷ d ∷ [] → c1 ≡ after_leaving c0 a → c2 ≡ after_leaving c1 b → c3 ≡ after_leaving c2 c → c4 ≡ after_leaving c3 d → CrewHolds c0.book crew → c4.book.live ≡ []
four_left c0 c1 c2 c3 c4 a b c d crew is one two three four held =
    let last : Ends c3.book (busy_claim d ++ []) c4.book = ends_then c3.book c4.book c4.book (busy_claim d) [] (settled_ends c3 c4 d four) (λ j m. (m, λ i. i)) in
    let more : Ends c1.book (busy_claim b ++ (busy_claim c ++ (busy_claim d ++ []))) c4.book = ends_then c1.book c2.book c4.book (busy_claim b) (busy_claim c ++ (busy_claim d ++ [])) (settled_ends c1 c2 b two) (ends_then c2.book c3.book c4.book (busy_claim c) (busy_claim d ++ []) (settled_ends c2 c3 c three) last) in
    let all : Ends c0.book (busy_claims (a ∷ b ∷ c ∷ d ∷ [])) c4.book = ends_then c0.book c1.book c4.book (busy_claim a) (busy_claim b ++ (busy_claim c ++ (busy_claim d ++ []))) (settled_ends c0 c1 a one) more in
    none_live c0.book c4.book crew held (subst (λ (w : List WorkerState). Ends c0.book (busy_claims w) c4.book) (sym is) all)
