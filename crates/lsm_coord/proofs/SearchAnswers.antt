-- A search of the memtables and then of the tables gives what the list of writes gives.
use Rattle.std.proofs.Common.{◌≡◌, ℕ, List, ◌∷◌, Option, None, Some, Result, Ok, Err, is_some, ap, ◌∙◌, inl, inr, sym, subst}
use Rattle.std.specs.Prelude.{IfOk, IfErr, IsSome, if◌then◌else◌}
use Rattle.std.specs.declared.alloc.AllocError.{AllocError}
use Rattle.std.specs.Option.{option_and_then}
use Rattle.lsm_key.specs.declared.entry.Entry.{Entry}
use Rattle.lsm_key.specs.Sets.{IsIn}
use Rattle.lsm_key.specs.Visible.{visible, entry_value}
use Rattle.lsm_key.specs.Writes.{answer}
use Rattle.lsm_key.specs.Places.{first_visible}
use Rattle.lsm_key.proofs.FirstVisible.{first_visible-is}
use Rattle.lsm_edit.specs.Served.{tables_of}
use Rattle.lsm_coord.specs.declared.snapshot.Snapshot.{Snapshot}
use Rattle.lsm_coord.specs.Model.State.{State}
use Rattle.lsm_coord.specs.Contract.Value.{CoordValue, frozen_entries, stored_entries}
use Rattle.lsm_coord.specs.Contract.Calls as calls
use Rattle.lsm_coord.specs.Contract.Shows.{Shows}
use Rattle.lsm_coord.proofs.ReadAnswers.{AreStored, IsPoint, reads, active_first, frozen_above}

-- a point of the coordinator is one of each state that it shows
pub point_is : (c : CoordValue) (s : State) (p : ℕ) → Shows c s → calls.IsPoint c p → IsPoint s p
point_is c s p h (inl now) = inl (now ∙ sym h.last)
point_is c s p h (inr live) = inr (live.0, subst (λ (xs : List Snapshot). IsIn live.0 xs) (sym h.snapshots) live.1, live.2)

pub found_right : (c : CoordValue) (p : ℕ) (key : List ℕ) → calls.IsPoint c p → (s : State) → Shows c s
    → option_and_then entry_value (first_visible (c.active ∷ frozen_entries c.frozen ∷ tables_of c.served.places) key p) ≡ answer s.writes p key
found_right c p key point s h =
    let stored_in : AreStored (stored_entries c.served) s = record { old = h.tables.old; answers = h.tables.answers } in
    let frozen = frozen_entries c.frozen in
    ap (option_and_then entry_value) (first_visible-is (c.active ∷ frozen ∷ tables_of c.served.places) key p (
      active_first c.active frozen (stored_entries c.served) s h.memtables stored_in,
      (frozen_above c.active frozen (stored_entries c.served) s h.memtables stored_in, h.tables.ordered),
    ))
    ∙ reads c.active frozen (stored_entries c.served) s h.memtables stored_in p key (point_is c s p h point)

-- ---- where the search ends, as the value that is searched sees it

module _ (v c : CoordValue) (is : v ≡ c) (p : ℕ) (key : List ℕ) (point : calls.IsPoint c p) where
  active : {o : Option Entry} → o ≡ visible v.active key p → o ≡ visible c.active key p
  active seen = seen ∙ ap (λ (x : CoordValue). visible x.active key p) is

  -- in the active memtable
  pub searched_first : (e : Entry) → Some e ≡ visible v.active key p → calls.Answers c p key (entry_value e)
  searched_first e found s h =
      ap (λ (o : Option Entry). option_and_then entry_value (if is_some o then o else first_visible (frozen_entries c.frozen ∷ tables_of c.served.places) key p)) (active found)
      ∙ found_right c p key point s h

  -- in the frozen one
  pub searched_second : (e : Entry) → None ≡ visible v.active key p → Some e ≡ visible (frozen_entries c.frozen) key p → calls.Answers c p key (entry_value e)
  searched_second e none found s h =
      ap (λ (o : Option Entry). option_and_then entry_value (if is_some o then o else first_visible (tables_of c.served.places) key p)) found
      ∙ ap (λ (o : Option Entry). option_and_then entry_value (if is_some o then o else first_visible (frozen_entries c.frozen ∷ tables_of c.served.places) key p)) (active none)
      ∙ found_right c p key point s h

  -- in the tables
  pub searched_last : None ≡ visible v.active key p → None ≡ visible (frozen_entries c.frozen) key p → calls.Answers c p key (option_and_then entry_value (first_visible (tables_of v.served.places) key p))
  searched_last none empty s h =
      ap (λ (x : CoordValue). option_and_then entry_value (first_visible (tables_of x.served.places) key p)) is
      ∙ ap (λ (o : Option Entry). option_and_then entry_value (if is_some o then o else first_visible (tables_of c.served.places) key p)) empty
      ∙ ap (λ (o : Option Entry). option_and_then entry_value (if is_some o then o else first_visible (frozen_entries c.frozen ∷ tables_of c.served.places) key p)) (active none)
      ∙ found_right c p key point s h

-- ---- what is copied of it

module _ (c : CoordValue) (p : ℕ) (key : List ℕ) (v : Option (List ℕ)) (r : Result (Option (List ℕ)) AllocError) (answers : calls.Answers c p key v) where
  pub answered : IfOk r (λ value. value ≡ v) → IfOk r (calls.Answers c p key)
  answered ok = by r ok
    where
      by : (r : Result (Option (List ℕ)) AllocError) → IfOk r (λ value. value ≡ v) → IfOk r (calls.Answers c p key)
      by (Ok value) same = λ s h. same ∙ answers s h
      by (Err e) same = tt

  pub has_value : IfErr r (λ _. IsSome v) → IfErr r (λ _. calls.HasValue c p key)
  has_value refused = by r refused
    where
      by : (r : Result (Option (List ℕ)) AllocError) → IfErr r (λ _. IsSome v) → IfErr r (λ _. calls.HasValue c p key)
      by (Ok value) some = tt
      by (Err e) some = λ s h. subst IsSome (answers s h) some
