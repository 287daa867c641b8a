use Rattle.std.proofs.Common.{◌≡◌, ◌∙◌, ℕ, ◌+◌, ◌-◌, List, Ok, Result, length, sym, ap, subst, arith}
use Rattle.std.proofs.lemmas.List.{length-drop}
use Rattle.std.proofs.lemmas.Result.{err_from_is_err_and}
use Rattle.lsm_key.specs.declared.entry.Entry.{Entry}
use Rattle.lsm_key.specs.Reading.{Fails}
use Rattle.lsm_table.specs.declared.fault.TableFault.{TableFault}
use Rattle.lsm_table.specs.Index.{index_entry}
use Rattle.lsm_table.specs.TableReading.{block_at, blocks_at, sum_at}
use Rattle.lsm_table.proofs.ReadingLoops.{sum_more, blocks_none, blocks_more, index_fails, block_fails, next_within, none_left}
use Rattle.lsm_table.proofs.reading.read_blocks.Goals as goal

pub returns-in-Err-clause-err : goal.returns-in-Err-clause-err
returns-in-Err-clause-err c =
    let r = c.loop-left.reader in
    c.loop-left.invariant.1 ∙ index_fails c.args.max_key c.args.target c.loop-left.left c.loop-left.rest.now r.entries r.rest c.in-Err.fault c.loop-left-test.true c.in-Err.ensures

pub read_block-requires : goal.read_block-requires
read_block-requires c =
    let i = c.loop-left.invariant.0 in
    next_within c.args.max_key c.loop-left.left i.0 c.loop-left.rest.now (index_entry c.in-Ok.found.0) c.in-Ok.found.1.now i.2 i.1 (length c.loop-left.reader.rest) c.loop-left-test.true c.in-Ok.ensures i.3 i.4

pub returns-in_err-read_block-clause-err : goal.returns-in_err-read_block-clause-err
returns-in_err-read_block-clause-err c =
    let r = c.loop-left.reader in
    let p = err_from_is_err_and c.from_residual.result c.from_residual.ensures.1 in
    rw (p.1, p.2) (subst (λ (read : Result (List Entry) TableFault). Fails c.in_err-read_block.field-0.0 read) (sym c.loop-left.invariant.1)
    (block_fails c.args.max_key c.args.target c.loop-left.left c.loop-left.rest.now r.entries r.rest (index_entry c.in-Ok.found.0) c.in-Ok.found.1.now c.in_err-read_block.field-0.0 c.loop-left-test.true c.in-Ok.ensures
    (subst (λ (n : ℕ). Fails c.in_err-read_block.field-0.0 (block_at n c.args.target (c.loop-left.left - 1) (index_entry c.in-Ok.found.0) r.entries r.rest)) c.loop-left.invariant.2 c.in_err-read_block.ensures.err)))

pub loop-left-preserved : goal.loop-left-preserved
loop-left-preserved c =
    let i = c.loop-left.invariant.0 in
    let r = c.loop-left.reader in
    let len = c.in-Ok.found.0.len in
    let within = next_within c.args.max_key c.loop-left.left i.0 c.loop-left.rest.now (index_entry c.in-Ok.found.0) c.in-Ok.found.1.now i.2 i.1 (length r.rest) c.loop-left-test.true c.in-Ok.ensures i.3 i.4 in
    let ok = c.in_ok-read_block.ensures.ok in
    let read = subst (λ (n : ℕ). block_at n c.args.target (c.loop-left.left - 1) (index_entry c.in-Ok.found.0) r.entries r.rest ≡ Ok c.read_block.new.reader.entries) c.loop-left.invariant.2 ok.0 in
    let long : length c.read_block.new.reader.rest ≡ length r.rest - len = ap (λ (bytes : List ℕ). length bytes) ok.1 ∙ length-drop len r.rest in (
      (i.0 + len, i.1, i.2, sym (sum_more c.args.max_key c.loop-left.left i.0 c.loop-left.rest.now (index_entry c.in-Ok.found.0) c.in-Ok.found.1.now c.loop-left-test.true c.in-Ok.ensures) ∙ i.3, omega (arith, i.4, long, within)),
      c.loop-left.invariant.1
          ∙ blocks_more c.args.max_key c.args.target c.loop-left.left c.loop-left.rest.now r.entries r.rest (index_entry c.in-Ok.found.0) c.in-Ok.found.1.now c.read_block.new.reader.entries c.loop-left-test.true c.in-Ok.ensures read
          ∙ ap (λ (bytes : List ℕ). blocks_at c.args.max_key c.args.target (c.loop-left.left - 1) c.in-Ok.found.1.now c.read_block.new.reader.entries bytes) (sym ok.1),
      c.read_block.ensures.limit ∙ c.loop-left.invariant.2,
    )

pub returns-clause-ok : goal.returns-clause-ok
returns-clause-ok c =
    let i = c.loop-left.invariant.0 in
    let r = c.loop-left.reader in
    let none : c.loop-left.left ≡ 0 = (let no = c.loop-left-test.false in omega (arith, no)) in (
      c.loop-left.invariant.1 ∙ ap (λ (n : ℕ). blocks_at c.args.max_key c.args.target n c.loop-left.rest.now r.entries r.rest) none ∙ blocks_none c.args.max_key c.args.target c.loop-left.rest.now r.entries r.rest,
      none_left c.args.max_key i.0 c.loop-left.rest.now i.2 i.1 r.rest (ap (λ (n : ℕ). sum_at c.args.max_key n i.0 c.loop-left.rest.now) (sym none) ∙ i.3) i.4,
    )
