use Rattle.std.proofs.Common.{◌+◌, ◌∙◌, ◌∷◌, [], sym, ap, arith, take, eqb}
use Rattle.std.specs.List.{sum_by}
use Rattle.std.proofs.lemmas.Bool.{eq-eqb, lt-ltb}
use Rattle.std.proofs.lemmas.List.Sums.{sum_by-append}
use Rattle.lsm_edit.specs.declared.file.FileMeta.{FileMeta}
use Rattle.lsm_pick.proofs.CountedInLists.{passed, sum_within}
use Rattle.lsm_pick.specs.Due.{of_level}
use Rattle.lsm_pick.proofs.due.exceeds.Goals as goal

pub returns-then-total-most : goal.returns-then-total-most
returns-then-total-most c =
    let i = c.loop-file.file-index in
    let test = λ (f : FileMeta). eqb f.level c.args.level in
    let bytes = λ (f : FileMeta). f.bytes in
    let one = passed test c.args.files.now i c.file-item.result c.loop-file-test.true c.file-item.is (eq-eqb c.file-item.result.level c.args.level c.if-file-level.true) in
    let now = ap (sum_by bytes) one ∙ sum_by-append bytes (of_level c.args.level (take i c.args.files.now)) (c.file-item.result ∷ []) in
    let most = sum_within test c.args.files.now (i + 1) bytes in
    sym (lt-ltb c.args.most (sum_by bytes (of_level c.args.level c.args.files.now)) (omega (arith, now, most, c.loop-file.invariant.0, c.if-total-most.true)))
