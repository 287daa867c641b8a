use Rattle.std.proofs.Common.{◌≡◌, ◌++◌, ◌∷◌, List, refl, sym, ap, subst, ◌∙◌, inl}
use Rattle.lsm_key.specs.declared.entry.Entry.{Entry}
use Rattle.lsm_key.specs.Sets.{IsIn}
use Rattle.lsm_key.specs.Order.{IsAscending}
use Rattle.lsm_key.proofs.Membership.{IsIn-append_right}
use Rattle.lsm_block.proofs.EntriesGrow.{follows}
use Rattle.lsm_mem.proofs.table.table_of.Goals as goal

pub add_next-requires-clause-sound : goal.add_next-requires-clause-sound
add_next-requires-clause-sound c =
    let e : Entry = c.in-Some.entry.now in
    let built : List Entry = c.loop-entry.builder.entries in
    let whole : built ++ e ∷ c.next.new.self ≡ c.args.cursor = ap (λ (es : List Entry). built ++ es) (sym c.in-Some.ensures.steps) ∙ c.loop-entry.invariant.so_far in
    c.requires.sound e (subst (λ (es : List Entry). IsIn e es) whole (IsIn-append_right e built (e ∷ c.next.new.self) (inl refl)))

pub add_next-requires-clause-after : goal.add_next-requires-clause-after
add_next-requires-clause-after c =
    let e : Entry = c.in-Some.entry.now in
    let built : List Entry = c.loop-entry.builder.entries in
    let whole : built ++ e ∷ c.next.new.self ≡ c.args.cursor = ap (λ (es : List Entry). built ++ es) (sym c.in-Some.ensures.steps) ∙ c.loop-entry.invariant.so_far in
    follows built e c.next.new.self (subst IsAscending (sym whole) c.requires.ascending)
