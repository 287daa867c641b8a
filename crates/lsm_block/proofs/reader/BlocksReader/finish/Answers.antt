use Rattle.std.proofs.Common.{◌≡◌, ◌<◌, [], length, sym, subst}
use Rattle.lsm_block.specs.Reader.{ReaderValue}
use Rattle.lsm_block.proofs.ReadBlocks.{read_all, all_entries}
use Rattle.lsm_block.proofs.reader.BlocksReader.finish.Goals as goal

pub with_index-requires : goal.with_index-requires
with_index-requires c =
    let same = sym c.self.view_is in
    read_all c.self.inside.bytes c.self.inside.read c.self.inside.index c.self.invariant.0 (subst (λ (v : ReaderValue). 0 < length v.entries) same c.requires.some) (subst (λ (v : ReaderValue). v.rest ≡ []) same c.requires.all)

pub returns : goal.returns
returns c =
    let same = sym c.self.view_is in
    let none = subst (λ (v : ReaderValue). v.rest ≡ []) same c.requires.all in
    rw (← c.self.view_is, ← all_entries c.self.inside.bytes c.self.inside.read none) c.with_index.ensures
