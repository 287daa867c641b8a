use Rattle.std.proofs.Common.{Less, Greater, sym}
use Rattle.std.specs.Cmp.{ranked}
use Rattle.std.specs.List.{slice_range}
use Rattle.lsm_block.specs.Lent.{front_entry}
use Rattle.lsm_block.proofs.LentEntries.{less_first, greater_later}
use Rattle.lsm_block.proofs.block_entry.BlockEntry.precedes.Goals as goal

pub returns-in-Less : goal.returns-in-Less
returns-in-Less c =
    let one = c.self.invariant.lent in
    let other = c.other.invariant.lent in
    let mine = c.self.inside in
    let its = c.other.inside in
    let lt = ranked c.self.inside.prefix c.other.inside.prefix Less c.in-Less.ensures in
    rw (← c.self.view_is, ← c.other.view_is) (sym (less_first (front_entry (slice_range mine.block.now mine.place mine.end)) (front_entry (slice_range its.block.now its.place its.end)) other.fits (rw (← one.prefixed, ← other.prefixed) lt)))

pub returns-in-Greater : goal.returns-in-Greater
returns-in-Greater c =
    let one = c.self.invariant.lent in
    let other = c.other.invariant.lent in
    let mine = c.self.inside in
    let its = c.other.inside in
    let lt = ranked c.self.inside.prefix c.other.inside.prefix Greater c.in-Greater.ensures in
    rw (← c.self.view_is, ← c.other.view_is) (sym (greater_later (front_entry (slice_range mine.block.now mine.place mine.end)) (front_entry (slice_range its.block.now its.place its.end)) one.fits (rw (← one.prefixed, ← other.prefixed) lt)))
