-- What a claim and its end make of what a book keeps.
use Rattle.std.proofs.Common.{◌≡◌, ℕ, ◌+◌, ◌<◌, ◌≤◌, Bool, true, false, not, cond, ◌||◌, List, [], ◌∷◌, ◌++◌, length, Option, None, Some, filter, refl, sym, ap, subst, ◌∙◌, arith, inl, inr, nat_eq, length-append}
use Rattle.std.specs.List.{list_any, find}
use Rattle.std.specs.Option.{option_map}
use Rattle.std.specs.Prelude.{nat_le, if◌then◌else◌}
use Rattle.std.proofs.lemmas.Bool.{and_parts, and_from, both_ways, eqb-true, leb-false}
use Rattle.std.proofs.lemmas.Grind.{common_steps}
use Rattle.std.proofs.lemmas.Option.{same_Some}
use Rattle.lsm_key.specs.declared.limits.TheConstants.{MAX_NUMBER, MAX_LIVE_CLAIMS}
use Rattle.lsm_key.specs.Sets.{IsIn}
use Rattle.lsm_key.proofs.Membership.{IsIn-append_cases, IsIn-one}
use Rattle.lsm_claim.specs.declared.ending.Ending.{Ending}
use Rattle.lsm_claim.specs.declared.ending.Ending.TheVariants.{Installed, Returned}
use Rattle.lsm_claim.specs.declared.error.ClaimError.{ClaimError}
use Rattle.lsm_claim.specs.declared.error.ClaimError.TheVariants.{Overlaps, BookFull, NumbersExhausted}
use Rattle.lsm_claim.specs.declared.job.JobId.{JobId}
use Rattle.lsm_claim.specs.declared.job.LiveJob.{LiveJob}
use Rattle.lsm_claim.specs.declared.job.Want.{Want}
use Rattle.lsm_claim.specs.Levels.{uses_level, shares_level}
use Rattle.lsm_claim.specs.Conflicts.{conflicts, hulls_meet}
use Rattle.lsm_claim.specs.Laws.{ConflictsGoBothWays}
use Rattle.lsm_claim.specs.Jobs.{JobNumbersRise, AreApart, ShareNoKey, IsLeastConflict, first_conflict, same_job_id, without_job}
use Rattle.lsm_claim.specs.Book.{BookValue, IsBook, IsGiven, NamesLeast, claim_fault, fault_by, fault_without_conflict, next_job, after_claim, holds, with_ending}
use Rattle.lsm_key.proofs.KeyRanges.{ranges_meet_from}

pub conflicts_sym : ConflictsGoBothWays
conflicts_sym w v = grind (arith, common_steps)

-- ---- jobs that are apart

pub both_use : (a b level : ℕ) → uses_level a level ≡ true → uses_level b level ≡ true → shares_level a b ≡ true
both_use a b level h k = grind (arith, common_steps)

pub no_shared_key : (jobs : List LiveJob) → AreApart jobs → ShareNoKey jobs
no_shared_key jobs apart j k mj mk level uj uk key ij ik =
    let h = j.want.hull in
    let g = k.want.hull in
    apart j k mj mk (and_from (shares_level j.want.level k.want.level) (hulls_meet h g) (both_use j.want.level k.want.level level uj uk) (ranges_meet_from h.lo h.hi g.lo g.hi key ij ik))

-- ---- a claim

no_fault : (o : Option JobId) (b : BookValue) → fault_by o b ≡ None → (o ≡ None) × (fault_without_conflict b ≡ None)
no_fault None b h = (refl, h)
no_fault (Some id) b h = absurd cc

with_room : (full exhausted : Bool) → (if full then Some BookFull else if exhausted then Some NumbersExhausted else None) ≡ None → (full ≡ false) × (exhausted ≡ false)
with_room true exhausted h = absurd cc
with_room false true h = absurd cc
with_room false false h = (refl, refl)

none_either : (t : Bool) (k : LiveJob) (rest : Option LiveJob) → option_map (λ (j : LiveJob). j.id) (cond t (Some k) rest) ≡ None → (t ≡ false) × (option_map (λ (j : LiveJob). j.id) rest ≡ None)
none_either true k rest h = absurd cc
none_either false k rest h = (refl, h)

-- where none is found, none conflicts
none_found : (want : Want) (jobs : List LiveJob) → first_conflict jobs want ≡ None → (j : LiveJob) → IsIn j jobs → conflicts j.want want ≡ false
none_found want [] h j m = absurd m
none_found want (k ∷ jobs) h j m =
    let parts = none_either (conflicts k.want want) k (find (λ x. conflicts x.want want) jobs) h in
    elim m [
      | inl e ↦ subst (λ (x : LiveJob). conflicts x.want want ≡ false) (sym e) parts.0
      | inr old ↦ none_found want jobs parts.1 j old
    ]

-- the first that conflicts is the least, where numbers rise
found_least : (want : Want) (jobs : List LiveJob) (id : JobId) → JobNumbersRise jobs → first_conflict jobs want ≡ Some id → IsLeastConflict jobs want id
found_least want [] id up h = absurd cc
found_least want (k ∷ jobs) id up h = by (conflicts k.want want) refl (found_least want jobs id up.1) h
  where
    here : conflicts k.want want ≡ true → k.id ≡ id → IsLeastConflict (k ∷ jobs) want id
    here t e = record {
      job = k;
      member = inl refl;
      named = e;
      conflicting = t;
      least = λ j m c. let same = ap (λ (x : JobId). x.number) e in elim m [
        | inl first ↦ (let number = ap (λ (x : LiveJob). x.id.number) first in omega (arith, same, number))
        | inr later ↦ (let more = up.0 j later in omega (arith, same, more))
      ];
    }

    later : conflicts k.want want ≡ false → IsLeastConflict jobs want id → IsLeastConflict (k ∷ jobs) want id
    later f is = record {
      job = is.job;
      member = inr is.member;
      named = is.named;
      conflicting = is.conflicting;
      least = λ j m c. elim m [
        | inl first ↦ absurd (both_ways (conflicts j.want want) (subst (λ (x : LiveJob). conflicts x.want want ≡ false) (sym first) f) c)
        | inr old ↦ is.least j old c
      ];
    }

    by : (t : Bool) → conflicts k.want want ≡ t → (first_conflict jobs want ≡ Some id → IsLeastConflict jobs want id) → option_map (λ (j : LiveJob). j.id) (cond t (Some k) (find (λ j. conflicts j.want want) jobs)) ≡ Some id → IsLeastConflict (k ∷ jobs) want id
    by true e rest h = here e (same_Some k.id id h)
    by false e rest h = later e (rest h)

overlaps_by : (o : Option JobId) (b : BookValue) (id : JobId) → fault_by o b ≡ Some (Overlaps id) → o ≡ Some id
overlaps_by (Some i) b id h = cc
overlaps_by None b id h = absurd (by (nat_le MAX_LIVE_CLAIMS (length b.live)) (nat_le MAX_NUMBER b.made) h)
  where
    by : (full exhausted : Bool) → (if full then Some BookFull else if exhausted then Some NumbersExhausted else None) ≡ Some (Overlaps id) → ⊥
    by true exhausted h = cc
    by false true h = cc
    by false false h = cc

pub names_least : (b : BookValue) (want : Want) (e : ClaimError) → JobNumbersRise b.live → claim_fault b want ≡ Some e → NamesLeast b want e
names_least b want e up h id is = found_least want b.live id up (overlaps_by (first_conflict b.live want) b id (h ∙ ap Some is))

NumbersRise-append : (jobs : List LiveJob) (new : LiveJob) → JobNumbersRise jobs → ((j : LiveJob) → IsIn j jobs → j.id.number < new.id.number) → JobNumbersRise (jobs ++ new ∷ [])
NumbersRise-append [] new up below = (λ k m. absurd m, tt)
NumbersRise-append (j ∷ jobs) new up below = (
  λ k m. elim (IsIn-append_cases k jobs (new ∷ []) m) [
    | inl old ↦ up.0 k old
    | inr one ↦ elim one [ inl e ↦ subst (λ (x : LiveJob). j.id.number < x.id.number) (sym e) (below j (inl refl)) | inr none ↦ absurd none ]
  ],
  NumbersRise-append jobs new up.1 (λ i m. below i (inr m)),
)

-- a job that conflicts with none joins those that are apart
AreApart-append : (jobs : List LiveJob) (new : LiveJob) → AreApart jobs → ((j : LiveJob) → IsIn j jobs → conflicts j.want new.want ≡ false) → AreApart (jobs ++ new ∷ [])
AreApart-append jobs new apart free j k mj mk h =
    elim (IsIn-append_cases j jobs (new ∷ []) mj) [
      | inl old_j ↦ elim (IsIn-append_cases k jobs (new ∷ []) mk) [
        | inl old_k ↦ apart j k old_j old_k h
        | inr one ↦ let e = IsIn-one k new one in
            let no : conflicts j.want k.want ≡ false = subst (λ (x : LiveJob). conflicts j.want x.want ≡ false) (sym e) (free j old_j) in
            absurd (both_ways (conflicts j.want k.want) no h)
      ]
      | inr new_j ↦ let d = IsIn-one j new new_j in elim (IsIn-append_cases k jobs (new ∷ []) mk) [
        | inl old_k ↦
            let no : conflicts k.want j.want ≡ false = subst (λ (x : LiveJob). conflicts k.want x.want ≡ false) (sym d) (free k old_k) in
            absurd (both_ways (conflicts j.want k.want) (conflicts_sym j.want k.want ∙ no) h)
        | inr one ↦ d ∙ sym (IsIn-one k new one)
      ]
    ]

pub IsBook-claimed : (b : BookValue) (want : Want) → claim_fault b want ≡ None → IsBook b → IsBook (after_claim b want)
IsBook-claimed b want free is =
    let parts = no_fault (first_conflict b.live want) b free in
    let room = with_room (nat_le MAX_LIVE_CLAIMS (length b.live)) (nat_le MAX_NUMBER b.made) parts.1 in
    let few : length b.live < MAX_LIVE_CLAIMS = leb-false MAX_LIVE_CLAIMS (length b.live) room.0 in
    let fits : b.made < MAX_NUMBER = leb-false MAX_NUMBER b.made room.1 in
    let new : LiveJob = next_job b want in
    let longer : length (b.live ++ new ∷ []) ≡ length b.live + 1 = length-append b.live (new ∷ []) in
    let counted : b.made ≡ b.installed + b.returned + length b.live = is.counted in
    record {
      counted = rw longer (omega arith);
      numbered = omega (arith, fits);
      few = rw longer (omega (arith, few));
      given = λ j m. elim (IsIn-append_cases j b.live (new ∷ []) m) [
        | inl old ↦ (let was = is.given j old in record { epoch = was.epoch; first = was.first; last = omega (arith, was.last) })
        | inr one ↦
            let e = IsIn-one j new one in
            subst (λ (x : LiveJob). IsGiven (after_claim b want) x.id) (sym e) (record { epoch = refl; first = omega arith; last = omega arith })
      ];
      rising = NumbersRise-append b.live new is.rising (λ j m. let was = is.given j m in omega (arith, was.last));
      apart = AreApart-append b.live new is.apart (none_found want b.live parts.0);
    }

-- ---- the end of a claim

-- of what stays, each stood there before
IsIn-filter : (test : LiveJob → Bool) (jobs : List LiveJob) (j : LiveJob) → IsIn j (filter test jobs) → IsIn j jobs
IsIn-filter test [] j m = absurd m
IsIn-filter test (k ∷ jobs) j m = by (test k) (IsIn-filter test jobs j) m
  where
    by : (t : Bool) → (IsIn j (filter test jobs) → IsIn j jobs) → IsIn j (cond t (k ∷ filter test jobs) (filter test jobs)) → IsIn j (k ∷ jobs)
    by true rest m = elim m [ inl e ↦ inl e | inr n ↦ inr (rest n) ]
    by false rest m = inr (rest m)

NumbersRise-filter : (test : LiveJob → Bool) (jobs : List LiveJob) → JobNumbersRise jobs → JobNumbersRise (filter test jobs)
NumbersRise-filter test [] up = tt
NumbersRise-filter test (j ∷ jobs) up = by (test j) (NumbersRise-filter test jobs up.1)
  where
    by : (t : Bool) → JobNumbersRise (filter test jobs) → JobNumbersRise (cond t (j ∷ filter test jobs) (filter test jobs))
    by true rest = (λ k m. up.0 k (IsIn-filter test jobs k m), rest)
    by false rest = rest

same_number : (a b : JobId) → same_job_id a b ≡ true → a.number ≡ b.number
same_number a b h = eqb-true a.number b.number (and_parts (nat_eq a.epoch b.epoch) (nat_eq a.number b.number) h).1

-- where all numbers are greater, none is taken out
none_of_later : (id : JobId) (jobs : List LiveJob) → ((j : LiveJob) → IsIn j jobs → id.number < j.id.number) → without_job id jobs ≡ jobs
none_of_later id [] later = refl
none_of_later id (j ∷ jobs) later = by (same_job_id j.id id) refl (none_of_later id jobs (λ k m. later k (inr m)))
  where
    by : (t : Bool) → same_job_id j.id id ≡ t → without_job id jobs ≡ jobs → cond (not t) (j ∷ without_job id jobs) (without_job id jobs) ≡ j ∷ jobs
    by true e rest = (let same = same_number j.id id e in let more = later j (inl refl) in absurd (omega (arith, same, more)))
    by false e rest = ap (λ (js : List LiveJob). j ∷ js) rest

-- one job is taken out
one_less : (id : JobId) (jobs : List LiveJob) → JobNumbersRise jobs → list_any (λ j. same_job_id j.id id) jobs ≡ true → length (without_job id jobs) + 1 ≡ length jobs
one_less id [] up live = absurd cc
one_less id (j ∷ jobs) up live = by (same_job_id j.id id) refl (one_less id jobs up.1) live
  where
    by : (t : Bool) → same_job_id j.id id ≡ t → (list_any (λ k. same_job_id k.id id) jobs ≡ true → length (without_job id jobs) + 1 ≡ length jobs) → (t || list_any (λ k. same_job_id k.id id) jobs) ≡ true
        → length (cond (not t) (j ∷ without_job id jobs) (without_job id jobs)) + 1 ≡ length (j ∷ jobs)
    by true e rest h =
        let same = same_number j.id id e in
        let all : without_job id jobs ≡ jobs = none_of_later id jobs (λ k m. let more = up.0 k m in omega (arith, same, more)) in
        rw all (omega arith)
    by false e rest h = (let one = rest h in omega (arith, one))

-- how a job ended changes nothing but the counts
IsBook-ended : (b : BookValue) (ending : Ending) → b.made ≡ b.installed + b.returned + length b.live + 1 → (b.made ≤ MAX_NUMBER) → (length b.live ≤ MAX_LIVE_CLAIMS)
    → ((j : LiveJob) → IsIn j b.live → IsGiven b j.id) → JobNumbersRise b.live → AreApart b.live → IsBook (with_ending ending b)
IsBook-ended b Installed count numbered few given rising apart = record { counted = omega (arith, count); numbered = numbered; few = few; given = given_by b given; rising = rising; apart = apart }
  where
    given_by : (b : BookValue) → ((j : LiveJob) → IsIn j b.live → IsGiven b j.id) → (j : LiveJob) → IsIn j b.live → IsGiven (with_ending Installed b) j.id
    given_by b given j m = (let was = given j m in record { epoch = was.epoch; first = was.first; last = was.last })
IsBook-ended b Returned count numbered few given rising apart = record { counted = omega (arith, count); numbered = numbered; few = few; given = given_by b given; rising = rising; apart = apart }
  where
    given_by : (b : BookValue) → ((j : LiveJob) → IsIn j b.live → IsGiven b j.id) → (j : LiveJob) → IsIn j b.live → IsGiven (with_ending Returned b) j.id
    given_by b given j m = (let was = given j m in record { epoch = was.epoch; first = was.first; last = was.last })

pub IsBook-settled : (b : BookValue) (id : JobId) (ending : Ending) → holds b id ≡ true → IsBook b → IsBook (with_ending ending (record b { live = without_job id b.live }))
IsBook-settled b id ending live is =
    let test : LiveJob → Bool = λ j. not (same_job_id j.id id) in
    let less : length (without_job id b.live) + 1 ≡ length b.live = one_less id b.live is.rising live in
    let count = is.counted in
    let few = is.few in
    IsBook-ended (record b { live = without_job id b.live }) ending
    (omega (arith, less, count))
    is.numbered
    (omega (arith, less, few))
    (λ j m. let was = is.given j (IsIn-filter test b.live j m) in record { epoch = was.epoch; first = was.first; last = was.last })
    (NumbersRise-filter test b.live is.rising)
    (λ j k mj mk h. is.apart j k (IsIn-filter test b.live j mj) (IsIn-filter test b.live k mk) h)
