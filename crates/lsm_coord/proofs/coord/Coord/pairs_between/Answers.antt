use Rattle.std.proofs.Common.{List, subst}
use Rattle.std.proofs.lemmas.Result.{IfOk-weaker}
use Rattle.lsm_key.specs.declared.entry.Entry.{Entry}
use Rattle.lsm_key.specs.Places.{all_entries}
use Rattle.lsm_key.specs.Sets.{SameMembers}
use Rattle.lsm_key.proofs.Membership.{SameMembers-permutation}
use Rattle.lsm_coord.specs.Inner.Sources.{source_lists}
use Rattle.lsm_coord.proofs.ShownRanges.{scans_first}
use Rattle.lsm_coord.proofs.coord.Coord.pairs_between.Goals as goal

pub returns : goal.returns
returns g c =
    let sources = c.in_ok-sources.sources.items in
    let left : List Entry = all_entries (source_lists c.in_ok-heads.heads) in
    let same = SameMembers-permutation (all_entries (source_lists sources)) left c.in_ok-heads.ensures.all in
    IfOk-weaker c.first_pairs.result _ _ (λ pairs h. scans_first c.args.self.now c.args.point c.args.lo.now c.args.hi.now c.args.limit left pairs.items c.requires c.in_ok-sources.ensures.sound (subst (λ (es : List Entry). SameMembers es left) c.in_ok-sources.ensures.all same) h) c.first_pairs.ensures
