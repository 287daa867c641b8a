use Rattle.std.proofs.Common.{◌≡◌, ◌+◌, ◌-◌, length, sym, ap, ◌∙◌, arith}
use Rattle.std.specs.List.{slice_range}
use Rattle.lsm_key.specs.declared.entry.Entry.{Entry}
use Rattle.lsm_key.specs.Visible.{lent_entry}
use Rattle.lsm_block.specs.Lent.{front_entry}
use Rattle.lsm_block.proofs.EntryParts.{key_stands, value_fits, value_stands}
use Rattle.lsm_block.proofs.block_entry.BlockEntry.shared.Goals as goal

pub overflow_sub-self-inside : goal.overflow_sub-self-inside
overflow_sub-self-inside c =
    let i = c.self.inside in
    let h = c.self.invariant in
    let e : Entry = front_entry (slice_range i.block.now i.place i.end) in
    let own : lent_entry c.entry-entry.result ≡ e = c.entry-entry.ensures ∙ sym c.self.view_is in
    omega (arith, h.order, value_fits i.block.now i.place i.end e h.order h.within h.lent.spelled, ap (λ (x : Entry). length x.value) own)

pub returns : goal.returns
returns c =
    let i = c.self.inside in
    let h = c.self.invariant in
    let e : Entry = front_entry (slice_range i.block.now i.place i.end) in
    let own : lent_entry c.entry-entry.result ≡ e = c.entry-entry.ensures ∙ sym c.self.view_is in
    let key : c.in_ok-key.key ≡ e.ikey.key = c.in_ok-key.ensures.ok ∙ ap (λ (x : Entry). slice_range i.block.now (i.place + 2) (i.place + 2 + length x.ikey.key)) own ∙ key_stands i.block.now i.place i.end e h.order h.within h.lent.spelled in
    let value : c.in_ok-value.value ≡ e.value = c.in_ok-value.ensures.ok ∙ ap (λ (x : Entry). slice_range i.block.now (i.end - length x.value) i.end) own ∙ value_stands i.block.now i.place i.end e h.order h.within h.lent.spelled in
    (λ j. record { ikey = record { key = key j; seq = (own j).ikey.seq; kind = (own j).ikey.kind }; value = value j }) ∙ c.self.view_is
