use Rattle.std.proofs.Common.{List, sym, subst, ◌∙◌}
use Rattle.lsm_key.specs.declared.entry.Entry.{Entry}
use Rattle.lsm_block.specs.Handles.{IsHandleFor}
use Rattle.lsm_cache.specs.declared.cache.BlockPlace.{BlockPlace}
use Rattle.lsm_cache.proofs.HeldBlocks.{held_there, place_same, shows_there}
use Rattle.lsm_cache.proofs.table.CachedTable.seek.Goals as goal

pub returns-in-Some : goal.returns-in-Some
returns-in-Some c =
    let es = c.args.self.now.table.now.entries in
    let place : BlockPlace = record { file = c.args.self.now.number; handle = c.handle.result } in
    let is = held_there _ place_same es c.args.cache.now place c.in-Some.block.now c.requires (sym c.in-Some.ensures) in
    c.seek.ensures ∙ shows_there es c.args.key.now c.handle.result c.in-Some.block.now c.args.at (subst (λ (xs : List Entry). IsHandleFor xs c.args.key.now c.handle.result) c.contents.ensures c.handle.ensures) is
