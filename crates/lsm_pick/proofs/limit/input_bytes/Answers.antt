use Rattle.std.proofs.Common.{◌+◌, ◌∙◌, ◌∷◌, [], None, Some, cond, sym, ap, arith, length, length-append, take, Bool}
use Rattle.std.specs.List.{sum_by, filter}
use Rattle.std.proofs.lemmas.Bool.{lt-leb}
use Rattle.lsm_edit.specs.declared.file.FileMeta.{FileMeta}
use Rattle.lsm_key.specs.declared.limits.TheConstants.{MAX_INPUTS}
use Rattle.lsm_pick.proofs.CountedInLists.{passed, length_within}
use Rattle.lsm_pick.specs.Reach.{is_taken, candidate_of}
use Rattle.lsm_pick.proofs.limit.input_bytes.Goals as goal

pub returns-then-inputs-eq-MAX_INPUTS : goal.returns-then-inputs-eq-MAX_INPUTS
returns-then-inputs-eq-MAX_INPUTS c =
    let i = c.loop-file.file-index in
    let test = is_taken (candidate_of c.args.first.now c.args.older_only) c.args.reach.lo.now c.args.reach.hi.now in
    let files = c.args.files.now in
    let one = passed test files i c.file-item.result c.loop-file-test.true c.file-item.is (sym c.takes.ensures ∙ c.if-takes.true) in
    let now = ap length one ∙ length-append (filter test (take i files)) (c.file-item.result ∷ []) in
    let most = length_within test files (i + 1) in
    ap (λ (b : Bool). cond b (Some (sum_by (λ (f : FileMeta). f.bytes) (filter test files))) None) (sym (lt-leb (length (filter test files)) MAX_INPUTS (omega (arith, now, most, c.loop-file.invariant.0, c.if-inputs-eq-MAX_INPUTS.true))))
