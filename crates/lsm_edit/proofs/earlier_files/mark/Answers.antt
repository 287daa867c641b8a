use Rattle.std.proofs.Common.{◌≡◌, ◌<◌, List, ℕ, Some, ap, subst, arith}
use Rattle.std.specs.BTreeMap.{Updates}
use Rattle.lsm_edit.specs.EarlierFiles.{begin_cmp}
use Rattle.lsm_edit.proofs.EarlierFiles.{indexed_zero, indexed_with}
use Rattle.lsm_edit.proofs.earlier_files.mark.Goals as goal

pub returns-then-file-eq0 : goal.returns-then-file-eq0
returns-then-file-eq0 c = λ files are apart. indexed_zero files c.args.file.now c.requires.ordered apart c.args.ends.now are c.if-file-eq0.true

pub returns : goal.returns
returns c = λ files are apart.
    let f = c.args.file.now in
    let deep : 0 < f.level = omega (arith, c.if-file-eq0.false) in
    let begin : (f.level, c.in_ok-clone.field-0) ≡ (f.level, f.smallest) = ap (λ (key : List ℕ). (f.level, key)) c.in_ok-clone.ensures.cases in
    let updates : Updates begin_cmp c.args.ends.now c.insert.new.self (f.level, c.in_ok-clone.field-0) (Some f.largest) = subst (λ (end : List ℕ). Updates begin_cmp c.args.ends.now c.insert.new.self (f.level, c.in_ok-clone.field-0) (Some end)) c.in_ok-clone-2.ensures.cases c.in_ok-insert.ensures.updates in
    indexed_with files f c.requires.ordered apart c.args.ends.now are c.insert.new.self deep (subst (λ (begin : ℕ × List ℕ). Updates begin_cmp c.args.ends.now c.insert.new.self begin (Some f.largest)) begin updates)
