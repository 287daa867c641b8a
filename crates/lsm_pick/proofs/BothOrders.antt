-- Lists of the same candidates have outcomes alike.
use Rattle.std.proofs.Common.{List, [], ◌∷◌, ◌⊎◌, inl, inr, refl, sym, ap, subst, ◌∙◌}
use Rattle.std.proofs.lemmas.Bool.{true≢false}
use Rattle.lsm_key.specs.Sets.{IsIn, SameMembers}
use Rattle.lsm_key.proofs.Membership.{IsIn-append_right, SameMembers-sym}
use Rattle.lsm_claim.specs.declared.job.LiveJob.{LiveJob}
use Rattle.lsm_claim.specs.declared.job.Want.{Want}
use Rattle.lsm_edit.specs.declared.file.FileMeta.{FileMeta}
use Rattle.lsm_pick.specs.After.{candidates_after}
use Rattle.lsm_pick.specs.Closure.{Candidate}
use Rattle.lsm_pick.specs.Laws.{BothOrdersAreAlike}
use Rattle.lsm_pick.specs.Outcome.{CanPick}
use Rattle.lsm_pick.specs.Rule.{AreBlocked, AreTooLarge, IsEligible, IsSkipped, candidates, fits_limits, is_free}
use Rattle.lsm_pick.proofs.CandidateLevels.{candidate_listed}
use Rattle.lsm_pick.proofs.ClosureExists.{tried}
use Rattle.lsm_pick.proofs.OneWant.{one_want}
use Rattle.lsm_pick.proofs.Outcomes.{first_later}
use Rattle.lsm_pick.proofs.SameCandidates.{same_candidates}

module _ (files : List FileMeta) (live : List LiveJob) where
  not_both : (t : Candidate) (want : Want) → IsEligible files live t want → IsSkipped files live t → ⊥
  not_both t want taken skipped = elim skipped [
    | inl blocked ↦ true≢false (sym taken.free ∙ ap (is_free live) (one_want files t want blocked.0 taken.asks blocked.1) ∙ blocked.2)
    | inr wide ↦ true≢false (sym taken.within ∙ ap (fits_limits files) (one_want files t want wide.0 taken.asks wide.1) ∙ wide.3)
  ]

  -- where one is eligible, one is the first
  first_of : (ts : List Candidate) → ((t : Candidate) → IsIn t ts → ((want : Want) × IsEligible files live t want) ⊎ IsSkipped files live t)
      → (t : Candidate) → IsIn t ts → (want : Want) → IsEligible files live t want → CanPick files live ts
  first_of [] all t m want taken = absurd m
  first_of (u ∷ ts) all t m want taken = elim (all u (inl refl)) [
    | inl here ↦ (here.0, record { before = []; candidate = u; after = ts; order = refl; skipped = λ x none. absurd none; taken = here.1 })
    | inr skipped ↦ elim m [
      | inl same ↦ absurd (not_both t want taken (subst (IsSkipped files live) (sym same) skipped))
      | inr later ↦
          let rest = first_of ts (λ x n. all x (inr n)) t later want taken in
          (rest.0, first_later files live (u ∷ []) ts rest.0 (λ x n. elim n [ inl e ↦ subst (IsSkipped files live) (sym e) skipped | inr none ↦ absurd none ]) rest.1)
    ]
  ]

  module _ (ts us : List Candidate) (same : SameMembers ts us) where
    blocked_too : AreBlocked files live ts → AreBlocked files live us
    blocked_too all t m = all t ((same t).1 m)

    too_large_too : AreTooLarge files live ts → AreTooLarge files live us
    too_large_too all = (λ t m. all.0 t ((same t).1 m), ((all.1).0, (same (all.1).0).0 (all.1).1, (all.1).2))

    can_pick_too : ((t : Candidate) → IsIn t us → ((want : Want) × IsEligible files live t want) ⊎ IsSkipped files live t) → CanPick files live ts → CanPick files live us
    can_pick_too all can =
        let first = can.1 in
        let here : IsIn first.candidate ts = subst (IsIn first.candidate) (sym first.order) (IsIn-append_right first.candidate first.before (first.candidate ∷ first.after) (inl refl)) in
        first_of us all first.candidate ((same first.candidate).0 here) can.0 first.taken

pub both_orders : BothOrdersAreAlike
both_orders pointers limits s live sound version =
    let files = s.version.files in
    let ts = candidates_after pointers limits s in
    let us = candidates limits files in
    let same : SameMembers ts us = same_candidates limits s sound pointers in
    let back : SameMembers us ts = SameMembers-sym ts us same in
    let all = λ (t : Candidate) (m : IsIn t us). tried files version.rising version.files t (candidate_listed limits files t m) live in
    record {
      members = same;
      some = (can_pick_too files live ts us same all, can_pick_too files live us ts back (λ t m. all t ((same t).0 m)));
      none = (blocked_too files live ts us same, blocked_too files live us ts back);
      too_large = (too_large_too files live ts us same, too_large_too files live us ts back);
    }
