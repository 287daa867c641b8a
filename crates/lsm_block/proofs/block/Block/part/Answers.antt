use Rattle.std.proofs.Common.{List, ℕ, arith, sym, subst}
use Rattle.lsm_key.specs.declared.entry.Entry.{Entry}
use Rattle.lsm_key.specs.declared.limits.TheConstants.{MAX_KEY_BYTES}
use Rattle.lsm_block.specs.Blocks.{IsBlock}
use Rattle.lsm_block.specs.Handles.{IsPartAt}
use Rattle.lsm_block.specs.Indexed.{block_entries}
use Rattle.lsm_block.proofs.BlockRuns.{block_one}
use Rattle.lsm_block.proofs.HandleParts.{part_within, part_block}
use Rattle.lsm_block.proofs.block.Block.part.Goals as goal

pub overflow_add-end : goal.overflow_add-end
overflow_add-end c =
    let bytes = c.self.inside.bytes in
    let at = subst (λ (es : List Entry). IsPartAt es c.args.handle c.requires.part) (sym c.self.view_is) c.requires.at in
    omega (arith, c.len-most.type_inv, c.len-most.ensures, part_within bytes (block_entries bytes) c.args.handle c.requires.part c.self.invariant.block at)

pub slice-requires-clause-in_bounds : goal.slice-requires-clause-in_bounds
slice-requires-clause-in_bounds c =
    let bytes = c.self.inside.bytes in
    let at = subst (λ (es : List Entry). IsPartAt es c.args.handle c.requires.part) (sym c.self.view_is) c.requires.at in
    part_within bytes (block_entries bytes) c.args.handle c.requires.part c.self.invariant.block at

pub returns-in-Ok : goal.returns-in-Ok
returns-in-Ok c =
    let bytes = c.self.inside.bytes in
    let at = subst (λ (es : List Entry). IsPartAt es c.args.handle c.requires.part) (sym c.self.view_is) c.requires.at in
    let block : IsBlock MAX_KEY_BYTES c.in_ok-bytes.bytes c.requires.part = subst (λ (b : List ℕ). IsBlock MAX_KEY_BYTES b c.requires.part) (sym c.in_ok-bytes.ensures.ok) (part_block bytes (block_entries bytes) c.args.handle c.requires.part c.self.invariant.block at c.requires.some) in
    subst (IsPartAt c.args.self.now c.args.handle) (block_one MAX_KEY_BYTES c.in_ok-bytes.bytes c.requires.part c.in-Ok.part block c.in-Ok.ensures) c.requires.at
