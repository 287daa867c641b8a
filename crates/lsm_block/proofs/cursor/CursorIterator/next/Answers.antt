use Rattle.std.proofs.Common.{◌≡◌, ℕ, ◌+◌, ◌-◌, List, ◌∷◌, length, take, drop, Ok, refl, sym, ap, subst, ◌∙◌, arith}
use Rattle.std.specs.List.{slice_range}
use Rattle.std.proofs.lemmas.List.{length-drop, nil_from_length, take_rest}
use Rattle.lsm_key.specs.declared.entry.Entry.{Entry}
use Rattle.lsm_key.specs.Visible.{lent_entry}
use Rattle.lsm_block.specs.BlockReading.{entry_at}
use Rattle.lsm_block.specs.Cursors.{IsPlaceIn, entries_from}
use Rattle.lsm_block.specs.Lent.{IsLentAt, front_entry}
use Rattle.lsm_block.proofs.CursorPlaces.{none_from}
use Rattle.lsm_block.proofs.LentHeads.{fits, front, gives, lent, next_place}
use Rattle.lsm_block.proofs.SpanFronts.{faultless}
use Rattle.lsm_block.proofs.cursor.CursorIterator.next.Goals as goal

pub unreachable-requires : goal.unreachable-requires
unreachable-requires c =
    let i = c.self.inside in
    let rest = drop i.place i.bytes.now in
    let same = ap (λ (z : List ℕ). take (length z - i.place) (drop i.place z)) c.as_slice.ensures ∙ take_rest i.bytes.now i.place in
    let some : (length rest ≡ 0) → ⊥ = λ none. omega (arith, none, length-drop i.place i.bytes.now, c.if-self-len.false, c.len.ensures.value) in
    faultless rest (entries_from i.bytes.now i.place) c.self.invariant.span some c.in-Err.field-0 (ap entry_at (sym same) ∙ c.in-Err.ensures)

pub overflow_sub-end : goal.overflow_sub-end
overflow_sub-end c =
    let i = c.self.inside in
    let read = subst (λ (z : List ℕ). entry_at (take (length z - i.place) (drop i.place z)) ≡ Ok (lent_entry c.in-Ok.found.0, c.in-Ok.found.1.now)) c.as_slice.ensures c.in-Ok.ensures in
    rw c.as_slice.ensures (fits i.bytes.now i.place c.self.invariant (lent_entry c.in-Ok.found.0) c.in-Ok.found.1.now read)

pub new-requires : goal.new-requires
new-requires c =
    let i = c.self.inside in
    let read = subst (λ (z : List ℕ). entry_at (take (length z - i.place) (drop i.place z)) ≡ Ok (lent_entry c.in-Ok.found.0, c.in-Ok.found.1.now)) c.as_slice.ensures c.in-Ok.ensures in
    subst (λ (z : List ℕ). IsLentAt i.bytes.now i.place (i.place + (length (take (length z - i.place) (drop i.place z)) - length c.in-Ok.found.1.now)) c.prefix_of-prefix.result) (sym c.as_slice.ensures) (lent i.bytes.now i.place c.self.invariant (lent_entry c.in-Ok.found.0) c.in-Ok.found.1.now read c.prefix_of-prefix.result c.prefix_of-prefix.ensures.bytes c.prefix_of-prefix.ensures.value)

pub invariant_of-self : goal.invariant_of-self
invariant_of-self c =
    let i = c.self.inside in
    let read = subst (λ (z : List ℕ). entry_at (take (length z - i.place) (drop i.place z)) ≡ Ok (lent_entry c.in-Ok.found.0, c.in-Ok.found.1.now)) c.as_slice.ensures c.in-Ok.ensures in
    subst (λ (z : List ℕ). IsPlaceIn i.bytes.now (i.place + (length (take (length z - i.place) (drop i.place z)) - length c.in-Ok.found.1.now))) (sym c.as_slice.ensures) (next_place i.bytes.now i.place c.self.invariant (lent_entry c.in-Ok.found.0) c.in-Ok.found.1.now read)

pub returns-clause-steps : goal.returns-clause-steps
returns-clause-steps c =
    let i = c.self.inside in
    let e = lent_entry c.in-Ok.found.0 in
    let read = subst (λ (z : List ℕ). entry_at (take (length z - i.place) (drop i.place z)) ≡ Ok (lent_entry c.in-Ok.found.0, c.in-Ok.found.1.now)) c.as_slice.ensures c.in-Ok.ensures in
    let own = subst (λ (z : List ℕ). front_entry (slice_range i.bytes.now i.place (i.place + (length (take (length z - i.place) (drop i.place z)) - length c.in-Ok.found.1.now))) ≡ e) (sym c.as_slice.ensures) (front i.bytes.now i.place c.self.invariant e c.in-Ok.found.1.now read) in
    let left = subst (λ (z : List ℕ). entries_from i.bytes.now i.place ≡ e ∷ entries_from i.bytes.now (i.place + (length (take (length z - i.place) (drop i.place z)) - length c.in-Ok.found.1.now))) (sym c.as_slice.ensures) (gives i.bytes.now i.place c.self.invariant e c.in-Ok.found.1.now read) in
    let behind : List Entry = entries_from i.bytes.now (i.place + (length (take (length c.as_slice.result.now - i.place) (drop i.place c.as_slice.result.now)) - length c.in-Ok.found.1.now)) in
    sym c.self.view_is ∙ left ∙ ap (λ (x : Entry). x ∷ behind) (sym (c.new.ensures ∙ own))

pub returns-clause-goes : goal.returns-clause-goes
returns-clause-goes c =
    let i = c.self.inside in
    let e = lent_entry c.in-Ok.found.0 in
    let read = subst (λ (z : List ℕ). entry_at (take (length z - i.place) (drop i.place z)) ≡ Ok (lent_entry c.in-Ok.found.0, c.in-Ok.found.1.now)) c.as_slice.ensures c.in-Ok.ensures in
    let left = subst (λ (z : List ℕ). entries_from i.bytes.now i.place ≡ e ∷ entries_from i.bytes.now (i.place + (length (take (length z - i.place) (drop i.place z)) - length c.in-Ok.found.1.now))) (sym c.as_slice.ensures) (gives i.bytes.now i.place c.self.invariant e c.in-Ok.found.1.now read) in
    let fewer = ap length (sym c.self.view_is ∙ left) in
    record { on = λ f. (tt, tt, omega (arith, fewer)); keeps = tt; rests = λ f. tt }

pub returns-then-self-len-clause-steps : goal.returns-then-self-len-clause-steps
returns-then-self-len-clause-steps c =
    let i = c.self.inside in
    let none = nil_from_length (drop i.place i.bytes.now) (omega (arith, length-drop i.place i.bytes.now, c.if-self-len.true, c.len.ensures.value)) in
    (sym c.self.view_is ∙ none_from i.bytes.now i.place none, refl)
