-- What stays along a run.
use Rattle.std.proofs.Common.{◌≡◌, ℕ, ◌-◌, ◌≤◌, List, [], ◌∷◌, ◌++◌, Option, None, Some, refl, sym, ap, subst, ◌∙◌, inl, inr, arith, length}
use Rattle.std.specs.List.{slice_get}
use Rattle.std.specs.Option.{option_and_then}
use Rattle.std.proofs.Math.Seq.{take-length}
use Rattle.std.proofs.lemmas.Option.{same_Some, slice_get-get_or}
use Rattle.lsm_key.specs.declared.op.Op.{Op}
use Rattle.lsm_key.specs.Sets.{IsIn}
use Rattle.lsm_key.specs.Writes.{last_write, value_of, answer}
use Rattle.lsm_key.proofs.WritesOverStored.{last_write-append}
use Rattle.lsm_coord.specs.Model.State.{State, Version, Place, empty_version, first_state}
use Rattle.lsm_coord.specs.Model.Event.{Event, Reply}
use Rattle.lsm_coord.specs.Model.Event as say
use Rattle.lsm_coord.specs.Model.Step.{Step, Lists, FollowerReads}
use Rattle.lsm_coord.specs.Model.Run.{Run}
use Rattle.lsm_coord.specs.Model.Laws.{VersionsStay, ListingsAgree, FollowersAgree, GetGivesTheWrite, FlushedAscends, FlushedRises, SparesKey}
use Rattle.lsm_coord.proofs.StepEffects.{Effect, stays, wrote, froze, flushed, versioned, effect}
use Rattle.lsm_coord.proofs.VersionsStay.{IsSound, step_sound, step_versions, step_writes, run_versions, first_sound, below_tip, tip}

pub versions_stay : VersionsStay
versions_stay s t steps h = run_versions s steps t h

-- ---- one run after another

pub run_then : (s : State) (steps more : List (Event × Reply)) (m t : State) → Run s steps m → Run m more t → Run s (steps ++ more) t
run_then s [] more m t h k = rw (← h) k
run_then s ((e, r) ∷ steps) more m t h k = (h.0, h.1, run_then h.0 steps more m t h.2 k)

pub run_parts : (s : State) (steps more : List (Event × Reply)) (t : State) → Run s (steps ++ more) t → (m : State) × Run s steps m × Run m more t
run_parts s [] more t h = (s, refl, h)
run_parts s ((e, r) ∷ steps) more t h =
    let p = run_parts h.0 steps more t h.2 in
    (p.0, (h.0, h.1, p.1), p.2)

pub same_step : (s t : State) (one other : Event × Reply) → one ≡ other → Step s other.0 other.1 t → Step s one.0 one.1 t
same_step s t one other is h = subst (λ (x : Event × Reply). Step s x.0 x.1 t) (sym is) h

-- ---- listings

shown_now : (s : State) (e : Event) (n seq : ℕ) (files : List Place) (t : State) → Step s e (say.Shown n seq files) t → Lists s n seq files
shown_now s (say.Show say.Coordinator) n seq files t h = h.1.1
shown_now s (say.Show (say.Follower i)) n seq files t h = h.1.1
shown_now s (say.Show (say.Worker i)) n seq files t h = absurd h.1
shown_now s (say.Restart say.Coordinator) n seq files t h = absurd h.1
shown_now s (say.Restart (say.Worker i)) n seq files t h = absurd h.1
shown_now s (say.Restart (say.Follower i)) n seq files t h = absurd h.1
shown_now s e n seq files t h = absurd h.1

shown : (s : State) (steps : List (Event × Reply)) (t : State) (f : Event) (n seq : ℕ) (files : List Place) → Run s steps t → IsIn (f, say.Shown n seq files) steps → Lists t n seq files
shown s [] t f n seq files h i = absurd i
shown s ((e, r) ∷ steps) t f n seq files h (inl i) =
    let lists = shown_now s f n seq files h.0 (same_step s h.0 (f, say.Shown n seq files) (e, r) i h.1) in
    run_versions h.0 steps t h.2 n _ (step_versions s e h.0 (effect s e r h.0 h.1) n _ lists)
shown s ((e, r) ∷ steps) t f n seq files h (inr i) = shown h.0 steps t f n seq files h.2 i

pub listings_agree : ListingsAgree
listings_agree s t steps h e f n a b files others x y =
    let v = same_Some _ _ (sym (shown s steps t e n a files h x) ∙ shown s steps t f n b others h y) in
    (ap (λ (w : Version). w.flushed) v, ap (λ (w : Version). w.files) v)

-- ---- reads at followers

step_gives : (s : State) (e : Event) (t : State) → Effect s e t → IsSound s → (n : ℕ) (key : List ℕ) (value : Option (List ℕ)) → FollowerReads s n key value → FollowerReads t n key value
step_gives s e t x sound n key value g =
    (g.0, step_versions s e t x n g.0 g.1, g.2 ∙ sym (ap (λ (ws : List Op). option_and_then value_of (last_write ws key)) (step_writes s e t x sound n g.0 g.1)))

run_gives : (s : State) (steps : List (Event × Reply)) (t : State) → Run s steps t → IsSound s → (n : ℕ) (key : List ℕ) (value : Option (List ℕ)) → FollowerReads s n key value → FollowerReads t n key value
run_gives s [] t h sound n key value g = rw h g
run_gives s ((e, r) ∷ steps) t h sound n key value g =
    let x = effect s e r h.0 h.1 in
    run_gives h.0 steps t h.2 (step_sound s e h.0 x sound) n key value (step_gives s e h.0 x sound n key value g)

read_at_end : (s : State) (steps : List (Event × Reply)) (t : State) (follower n : ℕ) (key : List ℕ) (value : Option (List ℕ)) → Run s steps t → IsSound s → IsIn (say.Read follower key, say.ReadAt n value) steps → FollowerReads t n key value
read_at_end s [] t follower n key value h sound i = absurd i
read_at_end s ((e, r) ∷ steps) t follower n key value h sound (inl i) =
    let x = effect s e r h.0 h.1 in
    let here = same_step s h.0 (say.Read follower key, say.ReadAt n value) (e, r) i h.1 in
    run_gives h.0 steps t h.2 (step_sound s e h.0 x sound) n key value (step_gives s e h.0 x sound n key value here.1.1)
read_at_end s ((e, r) ∷ steps) t follower n key value h sound (inr i) = read_at_end h.0 steps t follower n key value h.2 (step_sound s e h.0 (effect s e r h.0 h.1) sound) i

gives_one : (s : State) (n : ℕ) (key : List ℕ) (x y : Option (List ℕ)) → FollowerReads s n key x → FollowerReads s n key y → x ≡ y
gives_one s n key x y g h =
    let v = same_Some g.0 h.0 (sym g.1 ∙ h.1) in
    g.2 ∙ ap (λ (w : Version). answer s.writes w.flushed key) v ∙ sym h.2

pub followers_agree : FollowersAgree
followers_agree steps run follower other n key x y a b =
    gives_one run.0 n key x y (read_at_end first_state steps run.0 follower n key x run.1 first_sound a) (read_at_end first_state steps run.0 other n key y run.1 first_sound b)

-- ---- a get after a put

spared : (key : List ℕ) (e : Event) (ops : List Op) → e ≡ say.Write ops → SparesKey key e → last_write ops key ≡ None
spared key e ops h k = subst (SparesKey key) h k

step_last : (s : State) (e : Event) (t : State) (key : List ℕ) (w : Op) → Effect s e t → SparesKey key e → last_write s.writes key ≡ Some w → last_write t.writes key ≡ Some w
step_last s e t key w (stays a b c) k h = rw a h
step_last s e t key w (wrote ops f a b c) k h = rw (a, last_write-append s.writes ops key, spared key e ops f k) h
step_last s e t key w (froze a b c) k h = rw a h
step_last s e t key w (flushed v f a b c) k h = rw a h
step_last s e t key w (versioned v f a b c) k h = rw a h

run_last : (s : State) (steps : List (Event × Reply)) (t : State) (key : List ℕ) (w : Op) → Run s steps t → ((e : Event) (r : Reply) → IsIn (e, r) steps → SparesKey key e) → last_write s.writes key ≡ Some w → last_write t.writes key ≡ Some w
run_last s [] t key w h k q = rw h q
run_last s ((e, r) ∷ steps) t key w h k q =
    run_last h.0 steps t key w h.2 (λ f x i. k f x (inr i)) (step_last s e h.0 key w (effect s e r h.0 h.1) (k e r (inl refl)) q)

pub get_gives_the_write : GetGivesTheWrite
get_gives_the_write s t before between after ops key write first last found h is spares =
    let p = run_parts s before ((say.Write ops, say.Wrote first last) ∷ (between ++ (say.Get key None, say.Got found) ∷ after)) t h in
    let q = run_parts p.2.0 between ((say.Get key None, say.Got found) ∷ after) t p.2.2 in
    let written : p.2.0.writes ≡ p.0.writes ++ ops = ap (λ (x : State). x.writes) p.2.1.1.2 in
    let here : last_write p.2.0.writes key ≡ Some write = rw (written, last_write-append p.0.writes ops key, is) refl in
    let there : last_write q.0.writes key ≡ Some write = run_last p.2.0 between q.0 key write q.1 spares here in
    let answered : found ≡ answer q.0.writes (length q.0.writes) key = q.2.1.1.0 in
    answered ∙ rw (take-length q.0.writes, there) refl

-- ---- flushed sequences

run_sound : (s : State) (steps : List (Event × Reply)) (t : State) → Run s steps t → IsSound s → IsSound t
run_sound s [] t h x = rw h x
run_sound s ((e, r) ∷ steps) t h x = run_sound h.0 steps t h.2 (step_sound s e h.0 (effect s e r h.0 h.1) x)

pub ascends_of : (s : State) → IsSound s → FlushedAscends s
ascends_of s x = record { ascending = x.rising; written = λ n v q. let i = below_tip s.versions n v x.rising q in let w = x.within in omega arith; frozen = x.between }

tip_written : (vs : List Version) (last : ℕ) → ((n : ℕ) (v : Version) → slice_get vs n ≡ Some v → v.flushed ≤ last) → tip vs ≤ last
tip_written [] last written = omega arith
tip_written (v ∷ vs) last written = written (length (v ∷ vs) - 1) _ (slice_get-get_or (v ∷ vs) (length (v ∷ vs) - 1) empty_version (omega arith))

pub sound_of : (s : State) → FlushedAscends s → IsSound s
sound_of s x = record { rising = x.ascending; within = tip_written s.versions (length s.writes) x.written; between = x.frozen }

pub flushed_rises : FlushedRises
flushed_rises steps s h = ascends_of s (run_sound first_state steps s h first_sound)
