-- The numbers of what a candidate proposes are those that an edit may remove.
use Rattle.std.proofs.Common.{ℕ, ◌+◌, ◌≤◌, List, [], ◌∷◌, inl, inr, refl, sym, ap, subst, ◌∙◌, arith, map, length, eqb}
use Rattle.std.specs.List.{list_any}
use Rattle.std.proofs.lemmas.Bool.{leb-true, and_parts}
use Rattle.std.proofs.lemmas.List.{length-map}
use Rattle.lsm_key.specs.Sets.{IsIn}
use Rattle.lsm_key.proofs.AscendingEntries.{IsIn-filter}
use Rattle.lsm_key.proofs.Lists.{some_in}
use Rattle.lsm_claim.specs.declared.job.LiveJob.{LiveJob}
use Rattle.lsm_claim.specs.declared.job.Want.{Want}
use Rattle.lsm_edit.specs.declared.edit.EditKind.TheVariants.{Install}
use Rattle.lsm_edit.specs.declared.file.FileMeta.{FileMeta}
use Rattle.lsm_edit.specs.Edit.{AreRemoved, after_number}
use Rattle.lsm_edit.specs.File.{IsFile}
use Rattle.lsm_edit.specs.Version.{FileNumbersRise}
use Rattle.lsm_edit.proofs.Ascending.{IsNumberFrom, removed_of_turn}
use Rattle.lsm_edit.proofs.ItemsInTurn.{AreInTurn}
use Rattle.lsm_edit.proofs.VersionLaws.{rise-filter}
use Rattle.lsm_key.specs.declared.limits.TheConstants.{MAX_INPUTS, MAX_NUMBER}
use Rattle.lsm_pick.specs.Closure.{Candidate}
use Rattle.lsm_pick.specs.Rule.{IsEligible, inputs_of}

in_turn : (least : ℕ) (files : List FileMeta) → FileNumbersRise files → ((f : FileMeta) → IsIn f files → IsFile f) → ((f : FileMeta) → IsIn f files → least ≤ f.number) → AreInTurn (IsNumberFrom MAX_NUMBER) after_number least (map (λ (f : FileMeta). f.number) files)
in_turn least [] rise each low = tt
in_turn least (f ∷ files) rise each low =
    ((low f (inl refl), (each f (inl refl)).last), in_turn (f.number + 1) files rise.1 (λ g m. each g (inr m)) (λ g m. let lt = rise.0 g m in omega (arith, lt)))

pub removable : (files : List FileMeta) → FileNumbersRise files → ((f : FileMeta) → IsIn f files → IsFile f) → (live : List LiveJob) (t : Candidate) (want : Want) → IsEligible files live t want → AreRemoved Install want.files
removable files rise each live t want taken =
    let inputs = inputs_of files want in
    let is = (taken.asks).files_are in
    let test = λ (f : FileMeta). list_any (eqb f.number) want.files in
    let count = ap length is ∙ length-map inputs (λ (f : FileMeta). f.number) in
    let few = leb-true (length inputs) MAX_INPUTS (and_parts _ _ taken.within).0 in
    let some = some_in t.first inputs ((taken.asks).closure).has in
    removed_of_turn Install want.files (omega (arith, some, count)) (omega (arith, few, count))
    (subst (AreInTurn (IsNumberFrom MAX_NUMBER) after_number 1) (sym is) (in_turn 1 inputs (rise-filter test files rise) (λ f m. each f (IsIn-filter test f files m).0) (λ f m. (each f (IsIn-filter test f files m).0).first)))
