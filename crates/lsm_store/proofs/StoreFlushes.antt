-- What the flushes of a store make, and why they are refused.
use Rattle.std.proofs.Common.{◌≡◌, ◌⊎◌, ◌≤◌, Bool, true, false, cond, List, [], ◌∷◌, Option, None, Some, length, refl, ap, subst, ◌∙◌, arith, inl, inr}
use Rattle.std.specs.Prelude.{is_none, nat_eq, nat_le, ◌&&◌, ◌||◌}
use Rattle.std.proofs.lemmas.Bool.{eqb-true}
use Rattle.lsm_key.specs.declared.entry.Entry.{Entry}
use Rattle.lsm_key.specs.declared.limits.TheConstants.{MAX_NUMBER}
use Rattle.lsm_coord.specs.declared.error.CoordError.{CoordError}
use Rattle.lsm_coord.specs.declared.error.CoordError.TheVariants as coord
use Rattle.lsm_coord.specs.declared.frozen.Frozen.{Frozen}
use Rattle.lsm_coord.specs.Contract.Calls.{Adds, FlushRefuses, active_after, flush_fault}
use Rattle.lsm_coord.specs.Contract.Value.{CoordValue}
use Rattle.lsm_coord.proofs.FreezeSteps.{start_at_flushed}
use Rattle.lsm_coord.proofs.ShownVersions.{flushed_is}
use Rattle.lsm_coord.proofs.WriteSteps.{active_count}
use Rattle.lsm_store.specs.Store.{FlushesNext, Keeps, OfCoord, RoomRefuses, StoreFlushRefuses, Stores}
use Rattle.lsm_store.specs.declared.error.StoreError.{StoreError}
use Rattle.lsm_store.specs.declared.error.StoreError.TheVariants.{Coord, Key}

-- ---- one flush

pub flushed_next : (old new : CoordValue) → Adds old new → FlushesNext old new
flushed_next old new adds =
    let is = adds.3.new_is in record {
      frozen = ap (λ (c : CoordValue). c.frozen) is;
      active = λ none. ap (λ (c : CoordValue). c.active) is ∙ ap (λ (f : Option Frozen). active_after old.active f) none;
      last = ap (λ (c : CoordValue). c.last) is;
    }

-- nothing is frozen, and the active memtable is empty
nothing_there : (a b : Bool) → cond a (Some coord.NothingToFlush) (cond b (Some coord.NumbersExhausted) None) ≡ Some coord.NothingToFlush → a ≡ true
nothing_there true b e = refl
nothing_there false true e = absurd cc
nothing_there false false e = absurd cc

both_so : (f : Option Frozen) (b : Bool) → (is_none f && b) ≡ true → (f ≡ None) × (b ≡ true)
both_so None true e = (refl, refl)
both_so None false e = absurd cc
both_so (Some f) b e = absurd cc

empty_of : (es : List Entry) → length es ≡ 0 → es ≡ []
empty_of [] e = refl
empty_of (x ∷ es) e = absurd (omega (arith, e))

pub nothing_flushed : (old new : CoordValue) (e : CoordError) → e ≡ coord.NothingToFlush → FlushRefuses old e new → FlushesNext old new
nothing_flushed old new e is refuses =
    let r = subst (λ (x : CoordError). FlushRefuses old x new) is refuses in
    let there = nothing_there (is_none old.frozen && nat_eq (length old.active) 0) (nat_le MAX_NUMBER old.served.version.number || nat_le MAX_NUMBER old.served.version.next_file) r.0 in
    let empty = both_so old.frozen (nat_eq (length old.active) 0) there in record {
      frozen = ap (λ (c : CoordValue). c.frozen) r.1 ∙ empty.0;
      active = λ none. ap (λ (c : CoordValue). c.active) r.1 ∙ empty_of old.active (eqb-true (length old.active) 0 empty.1);
      last = ap (λ (c : CoordValue). c.last) r.1;
    }

-- ---- all of them

-- where the memtables are empty, all is in tables
pub empty_stores : (old new : CoordValue) → new.frozen ≡ None → new.active ≡ [] → Keeps old new → Stores old new
empty_stores old new none empty keeps writes snapshots held =
    let h = keeps writes snapshots held in
    let count = active_count new h.state h.shown in
    let start = start_at_flushed new h.state h.shown none in
    let flushed = flushed_is new.stored.edits new.served h.state h.shown.tables in
    let zero : length new.active ≡ 0 = ap (λ (es : List Entry). length es) empty in
    let all : length h.state.writes ≡ length writes = ap length h.writes_are in
    (h, omega (arith, count, start, flushed, zero, all))

-- ---- why they are refused

pub flush_refuses : (old at new : CoordValue) (e : CoordError) → Keeps old at → old.failures ≤ at.failures → (e ≡ coord.NothingToFlush → ⊥) → FlushRefuses at e new → StoreFlushRefuses old new e
flush_refuses old at new coord.NothingToFlush keeps rose other h = absurd (other refl)
flush_refuses old at new e keeps rose other h = (at, keeps, rose, h)

flush_reasons : (a b : Bool) (e : CoordError) → cond a (Some coord.NothingToFlush) (cond b (Some coord.NumbersExhausted) None) ≡ Some e → (coord.NothingToFlush ≡ e) ⊎ (coord.NumbersExhausted ≡ e)
flush_reasons true b e is = inl cc
flush_reasons false true e is = inr cc
flush_reasons false false e is = absurd cc

-- no other reason of the state
no_reason : (c : CoordValue) (e : CoordError) → (coord.NothingToFlush ≡ e → ⊥) → (coord.NumbersExhausted ≡ e → ⊥) → flush_fault c ≡ Some e → ⊥
no_reason c e nothing numbers is =
    elim (flush_reasons (is_none c.frozen && nat_eq (length c.active) 0) (nat_le MAX_NUMBER c.served.version.number || nat_le MAX_NUMBER c.served.version.next_file) e is) [ inl a ↦ nothing a | inr b ↦ numbers b ]

pub flush_refuses_room : (old new : CoordValue) (e : StoreError) → OfCoord (StoreFlushRefuses old new) e → OfCoord (RoomRefuses old new) e
flush_refuses_room old new (Coord coord.OutOfMemory) h = tt
flush_refuses_room old new (Coord coord.Device) h = let rose = h.2 in let failed = h.3.1.1 in omega (arith, rose, failed)
flush_refuses_room old new (Coord coord.NumbersExhausted) h = inl h
flush_refuses_room old new (Coord coord.NothingToFlush) h = absurd h
flush_refuses_room old new (Coord e) h = absurd (no_reason h.0 e (λ x. cc) (λ x. cc) h.3.0)
flush_refuses_room old new (Key e) h = absurd h
