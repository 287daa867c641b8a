use Rattle.std.proofs.Common.{◌≡◌, ◌++◌, [], List, true, append-nil, sym, ap, subst, ◌∙◌}
use Rattle.std.specs.Ordering.{is_ge}
use Rattle.std.specs.List.{filter}
use Rattle.lsm_key.specs.declared.entry.Entry.{Entry}
use Rattle.lsm_key.proofs.AscendingEntries.{Falls, ascending_falls, falls-filter}
use Rattle.lsm_mem.proofs.ChainsOfMap.{key_cmp}
use Rattle.lsm_mem.proofs.EntriesFrom.{from_and_before, is_before, is_from, none_before, not_lt}
use Rattle.lsm_mem.proofs.memtable.Memtable.range.Goals.{in-None, in-Some+then-is_ge}
use Rattle.lsm_mem.proofs.memtable.Memtable.range.Goals as goal

pub loop-entry-init : goal.loop-entry-init
loop-entry-init c =
    let lo = c.args.lo.now in
    let hi = c.args.hi.now in
    let all = c.args.self.now in
    let given : c.into_iter-entry-iterator.result ≡ filter (is_from lo) all = c.into_iter-entry-iterator.ensures.into_iter_gives ∙ c.in_ok-entry-items.ensures.all in
    record {
      so_far = (λ i. c.new-copies.ensures.items i ++ filter (is_before hi) (given i)) ∙ from_and_before lo hi all;
      falls = subst Falls (sym given) (falls-filter (is_from lo) all (ascending_falls all c.in_ok-entry-items.ensures.sound.ascending));
    }

pub returns-clause-all : goal.returns-clause-all
returns-clause-all c =
    let hi = c.args.hi.now in
    let copies = c.loop-entry.copies.items in
    let none : filter (is_before hi) c.loop-entry.entry-iterator ≡ [] =
    elim c.match-next.branch [
      | in-None w ↦ ap (filter (is_before hi)) w.in-None.ensures.steps.0
      | in-Some+then-is_ge w ↦
          let e = w.in-Some.entry.now in
          let ge : is_ge (key_cmp e.ikey.key hi) ≡ true = sym (w.is_ge.ensures ∙ ap is_ge (w.cmp.ensures ∙ ap (λ key. key_cmp key hi) w.as_slice.ensures)) ∙ w.if-is_ge.true in
          ap (filter (is_before hi)) w.in-Some.ensures.steps
          ∙ none_before hi e c.next.new.self (subst Falls w.in-Some.ensures.steps c.loop-entry.invariant.falls) (not_lt (key_cmp e.ikey.key hi) ge)
    ] in
    sym (append-nil copies) ∙ ap (λ (es : List Entry). copies ++ es) (sym none) ∙ c.loop-entry.invariant.so_far
