-- Claims beside the history: what is known of the value under the lock stays known when one is given back.
use Rattle.std.proofs.Common.{◌≡◌, ℕ, true, List, ap, subst, ◌∙◌, arith}
use Rattle.lsm_claim.specs.declared.ending.Ending.TheVariants.{Returned}
use Rattle.lsm_claim.specs.declared.job.JobId.{JobId}
use Rattle.lsm_claim.specs.Book.{holds}
use Rattle.lsm_coord.specs.Model.Changes.{IsIndex}
use Rattle.lsm_coord.specs.Model.Event as say
use Rattle.lsm_coord.specs.Model.State.{State}
use Rattle.lsm_coord.specs.Contract.Calls.{after_give_back}
use Rattle.lsm_coord.specs.Contract.Shows.{Follows, Shows}
use Rattle.lsm_coord.specs.Contract.Sound.{KeepsSound}
use Rattle.lsm_coord.specs.Contract.Value.{CoordValue}
use Rattle.lsm_coord.proofs.GiveBackSteps.{held_before, made_after}
use Rattle.lsm_nodes.specs.Histories.{IsShared, WitnessedValue, installs_in}

pub shared_back : (start : CoordValue) (c d : CoordValue) (id : JobId) (history : List WitnessedValue) (total : ℕ) → IsShared start (record { coord = c; history = history }) total → d ≡ after_give_back c id
    → ((dispatcher : ℕ) → IsIndex dispatcher → Follows c (say.GiveUp dispatcher) say.Other d) → KeepsSound c d → IsShared start (record { coord = d; history = history }) total
shared_back start c d id history total k is goes keeps = record {
  counted = k.counted;
  installed = ap (λ (x : CoordValue). installs_in x.stored.edits) is ∙ k.installed;
  given = λ job p. (let before = k.given job p in let made = ap (λ (x : CoordValue). x.book.made) is ∙ made_after c.book id Returned in omega (arith, before, made));
  run = λ h s shown.
      let r = k.run h s shown in
      let f = goes 1 (omega arith, omega arith) r.0 r.2 in (r.0, r.1, subst (λ (s : State). Shows d s) f.1.1.1 f.2);
  sound = λ h s shown job p live. keeps job (k.sound h s shown job p (held_before c.book id job.id Returned (subst (λ (x : CoordValue). holds x.book job.id ≡ true) is live))) live;
}
