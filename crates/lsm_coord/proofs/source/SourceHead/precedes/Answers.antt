use Rattle.std.proofs.Common.{◌≡◌, sym, ap, ◌∙◌}
use Rattle.std.specs.declared.cmp.Ordering.{Ordering}
use Rattle.std.specs.declared.cmp.Ordering.TheVariants.{Less, Equal, Greater}
use Rattle.std.specs.Ordering.{is_gt, is_lt, ordering_reverse}
use Rattle.lsm_key.specs.declared.entry.Entry.{Entry}
use Rattle.lsm_key.specs.Order.{place_cmp, precedes}
use Rattle.lsm_key.proofs.EntryOrder.{pair_total}
use Rattle.lsm_coord.specs.Inner.Sources.{source_entry}
use Rattle.lsm_coord.proofs.source.SourceHead.precedes.Goals as goal

turned : (o p : Ordering) → p ≡ ordering_reverse o → is_gt o ≡ is_lt p
turned Less p e = ap is_lt (sym e)
turned Equal p e = ap is_lt (sym e)
turned Greater p e = ap is_lt (sym e)

pub returns-in-Tables-Memtable : goal.returns-in-Tables-Memtable
returns-in-Tables-Memtable c =
    let one : Entry = c.in-Tables-Memtable.one.entry in
    let two : Entry = c.in-Tables-Memtable.two.entry.now in
    let told = c.is_gt.ensures ∙ ap is_gt c.compare_place.ensures ∙ ap (λ (e : Entry). is_gt (place_cmp two.ikey.key two.ikey.seq e.ikey.key e.ikey.seq)) c.entry-one.ensures in
    told
    ∙ turned (place_cmp two.ikey.key two.ikey.seq one.ikey.key one.ikey.seq) (precedes_cmp one two) (pair_total.antisymm (one.ikey.key, one.ikey.seq) (two.ikey.key, two.ikey.seq))
    ∙ (λ i. precedes (source_entry (sym c.in-Tables-Memtable.is-0 i)) (source_entry (sym c.in-Tables-Memtable.is-1 i)))
  where
    precedes_cmp : Entry → Entry → Ordering
    precedes_cmp a b = place_cmp a.ikey.key a.ikey.seq b.ikey.key b.ikey.seq
