use Rattle.std.proofs.Common.{◌≡◌, ◌∙◌, ◌+◌, Bool, true, false, List, ℕ, sym, subst, arith, take, eqb, refl}
use Rattle.std.proofs.lemmas.Bool.{eq-eqb, eqb-true}
use Rattle.lsm_key.specs.Sets.{IsIn}
use Rattle.lsm_key.proofs.Membership.{IsIn-at}
use Rattle.lsm_edit.specs.declared.file.FileMeta.{FileMeta}
use Rattle.lsm_pick.specs.Closure.{Candidate}
use Rattle.lsm_pick.specs.Rule.{level_candidates, file_candidates}
use Rattle.lsm_pick.specs.Outcome.{HasOutcome, CanPick}
use Rattle.lsm_pick.proofs.Outcomes.{all_outcomes, next_or, next_same, next_can_pick, taken_whole, told}
use Rattle.lsm_pick.proofs.rule.try_level.Goals as goal
use Rattle.lsm_pick.proofs.rule.try_level.Goals.{then-file-level+in_ok-here+else-is_picked, else-file-level}

pub try_file-requires-clause-listed : goal.try_file-requires-clause-listed
try_file-requires-clause-listed c =
    subst (IsIn c.file-item.result) c.listing.ensures.files (subst (λ (f : FileMeta). IsIn f c.listing.result.files.now) (sym c.file-item.is) (IsIn-at c.listing.result.files.now c.loop-file.file-index c.file-item.result c.loop-file-test.true))

pub returns-in_err-here-clause-err : goal.returns-in_err-here-clause-err
returns-in_err-here-clause-err c =
    let files = c.args.served.now.version.files in
    let live = c.args.live.now in
    let here = next_can_pick files live (λ (f : FileMeta). eqb f.level c.args.level) file_candidates c.listing.result.files.now c.loop-file.file-index c.file-item.result c.loop-file-test.true c.file-item.is
    c.loop-file.outcome (eq-eqb c.file-item.result.level c.args.level c.if-file-level.true) c.loop-file.invariant c.in_err-here.ensures.err in
    told c.from_residual.result (subst (λ (fs : List FileMeta). CanPick files live (level_candidates fs c.args.level)) c.listing.ensures.files here)

pub returns-then-is_picked-clause-ok : goal.returns-then-is_picked-clause-ok
returns-then-is_picked-clause-ok c =
    let files = c.args.served.now.version.files in
    let live = c.args.live.now in
    let test = λ (f : FileMeta). eqb f.level c.args.level in
    let items = c.listing.result.files.now in
    let here = next_or files live test file_candidates items c.loop-file.file-index c.file-item.result c.loop-file-test.true c.file-item.is
    c.loop-file.outcome c.in_ok-here.here (eq-eqb c.file-item.result.level c.args.level c.if-file-level.true) c.loop-file.invariant c.in_ok-here.ensures.ok in
    let all = taken_whole files live test file_candidates items (c.loop-file.file-index + 1) c.or-outcome.result (sym c.is_picked.ensures ∙ c.if-is_picked.true)
    (subst (HasOutcome files live (level_candidates (take (c.loop-file.file-index + 1) items) c.args.level)) (sym c.or-outcome.ensures) here) in
    subst (λ (fs : List FileMeta). HasOutcome files live (level_candidates fs c.args.level) c.or-outcome.result) c.listing.ensures.files all

pub loop-file-preserved : goal.loop-file-preserved
loop-file-preserved c =
    let files = c.args.served.now.version.files in
    let live = c.args.live.now in
    let test = λ (f : FileMeta). eqb f.level c.args.level in
    let items = c.listing.result.files.now in
    let now = level_candidates (take (c.loop-file.file-index + 1) items) c.args.level in
    elim c.if-file-level.branch [
      | then-file-level+in_ok-here+else-is_picked w ↦
          let here = next_or files live test file_candidates items c.loop-file.file-index c.file-item.result c.loop-file-test.true c.file-item.is
          c.loop-file.outcome w.in_ok-here.here (eq-eqb c.file-item.result.level c.args.level w.if-file-level.true) c.loop-file.invariant w.in_ok-here.ensures.ok in
          subst (HasOutcome files live now) (sym w.outcome-is) (subst (HasOutcome files live now) (sym w.or-outcome.ensures) here)
      | else-file-level w ↦
          let same = next_same files live test file_candidates items c.loop-file.file-index c.file-item.result c.loop-file-test.true c.file-item.is (other (eqb c.file-item.result.level c.args.level) refl w.if-file-level.false) in
          subst (HasOutcome files live now) (sym w.outcome-is) (subst (λ (ts : List Candidate). HasOutcome files live ts c.loop-file.outcome) (sym same) c.loop-file.invariant)
    ]
  where
    other : {n m : ℕ} (b : Bool) → eqb n m ≡ b → (n ≡ m → ⊥) → eqb n m ≡ false
    other {n} {m} true e h = absurd (h (eqb-true n m e))
    other false e h = e

pub returns-clause-ok : goal.returns-clause-ok
returns-clause-ok c =
    let files = c.args.served.now.version.files in
    let live = c.args.live.now in
    let all = all_outcomes files live (λ (f : FileMeta). eqb f.level c.args.level) file_candidates c.listing.result.files.now c.loop-file.file-index c.loop-file.outcome (omega (arith, c.loop-file-test.false)) c.loop-file.invariant in
    subst (λ (fs : List FileMeta). HasOutcome files live (level_candidates fs c.args.level) c.loop-file.outcome) c.listing.ensures.files all
