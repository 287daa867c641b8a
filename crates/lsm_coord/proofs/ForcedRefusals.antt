-- Why a coordinator refuses a call is what each state that it shows forces.
use Rattle.std.proofs.Common.{◌≡◌, ℕ, ◌+◌, Bool, true, false, cond, Option, None, Some, length, refl, sym, ap, ◌∙◌, arith, eqb, ltb, leb, List, ◌&&◌, is_none, is_some, inl, inr}
use Rattle.std.specs.Option.{option_map}
use Rattle.std.proofs.lemmas.Bool.{cases_Bool, eqb-true, eqb-false, eq-eqb, ne_eqb, leb-true, leb-false, le-ltb, lt-ltb}
use Rattle.lsm_key.specs.declared.op.Op.{Op}
use Rattle.lsm_key.specs.Limits.{batch_fault}
use Rattle.lsm_key.specs.declared.limits.TheConstants.{MAX_NUMBER}
use Rattle.lsm_coord.specs.declared.error.CoordError.{CoordError}
use Rattle.lsm_coord.specs.declared.error.CoordError.TheVariants as error
use Rattle.lsm_coord.specs.declared.frozen.Frozen.{Frozen}
use Rattle.lsm_coord.specs.declared.snapshot.SnapId.{SnapId}
use Rattle.lsm_coord.specs.Model.State.{State, last_seq, last_flushed}
use Rattle.lsm_coord.specs.Model.Event.{Refusal}
use Rattle.lsm_coord.specs.Model.Event as say
use Rattle.lsm_coord.specs.Model.Rules.{refusal}
use Rattle.lsm_coord.specs.Model.Step.{Step}
use Rattle.lsm_coord.specs.Contract.Value.{CoordValue}
use Rattle.lsm_coord.specs.Contract.Calls.{write_fault, freeze_fault, flush_fault, snapshot_fault, release_fault}
use Rattle.lsm_coord.specs.Contract.Replies.{refusal_of}
use Rattle.lsm_coord.specs.Contract.Shows.{Shows}
use Rattle.lsm_coord.proofs.ShownVersions.{version_count}
use Rattle.lsm_coord.proofs.WriteSteps.{active_weight, active_count}
use Rattle.lsm_coord.proofs.FreezeSteps.{start_at_flushed}

-- ---- tests of one another

eqb-shift : (a b l : ℕ) → a + b ≡ l → eqb l b ≡ eqb a 0
eqb-shift a b l sum = elim (cases_Bool (eqb a 0)) [
  | inl t ↦ (let zero_is = eqb-true a 0 t in eq-eqb l b (omega arith) ∙ sym t)
  | inr f ↦ (let some = eqb-false a 0 f in ne_eqb l b (λ e. some (omega arith)) ∙ sym f)
]

ltb-above : (a n : ℕ) → ltb a (n + 1) ≡ leb a n
ltb-above a n = elim (cases_Bool (leb a n)) [
  | inl t ↦ (let le = leb-true a n t in lt-ltb a (n + 1) (omega arith) ∙ sym t)
  | inr f ↦ (let gt = leb-false a n f in le-ltb a (n + 1) (omega arith) ∙ sym f)
]

one : (a : Bool) (e : CoordError) → cond a (Some (refusal_of e)) None ≡ option_map refusal_of (cond a (Some e) None)
one true e = refl
one false e = refl

two : (a b : Bool) (e f : CoordError) → cond a (Some (refusal_of e)) (cond b (Some (refusal_of f)) None) ≡ option_map refusal_of (cond a (Some e) (cond b (Some f) None))
two true b e f = refl
two false b e f = one b f

three : (a b d : Bool) (e f g : CoordError) → cond a (Some (refusal_of e)) (cond b (Some (refusal_of f)) (cond d (Some (refusal_of g)) None)) ≡ option_map refusal_of (cond a (Some e) (cond b (Some f) (cond d (Some g) None)))
three true b d e f g = refl
three false b d e f g = two b d f g

-- ---- what the state forces

pub write_forced : (c : CoordValue) (s : State) (ops : List Op) → Shows c s → batch_fault ops ≡ None → refusal s (say.Write ops) ≡ option_map refusal_of (write_fault c ops)
write_forced c s ops h good = rw (good, h.up, h.last, active_weight c s h) (three _ _ _ error.EmptyBatch error.SequenceExhausted error.MemtableFull)

frozen_is : (frozen : Option Frozen) (s : State) → s.frozen ≡ option_map (λ (f : Frozen). f.end) frozen → is_some s.frozen ≡ is_some frozen
frozen_is None s e = ap is_some e
frozen_is (Some f) s e = ap is_some e

none_is : (frozen : Option Frozen) (s : State) → s.frozen ≡ option_map (λ (f : Frozen). f.end) frozen → is_none s.frozen ≡ is_none frozen
none_is None s e = ap is_none e
none_is (Some f) s e = ap is_none e

nothing_new : (c : CoordValue) (s : State) → Shows c s → c.frozen ≡ None → eqb (last_seq s) (last_flushed s) ≡ eqb (length c.active) 0
nothing_new c s h none = eqb-shift (length c.active) (last_flushed s) (last_seq s) (ap (λ (n : ℕ). length c.active + n) (sym (start_at_flushed c s h none)) ∙ active_count c s h)

freeze_by : (c : CoordValue) (frozen : Option Frozen) (s : State) → Shows c s → c.frozen ≡ frozen → cond (is_some frozen) (Some say.FrozenWaiting) (cond (eqb (last_seq s) (last_flushed s)) (Some say.NothingToFreeze) None) ≡ option_map refusal_of (cond (is_some frozen) (Some error.FrozenWaiting) (cond (eqb (length c.active) 0) (Some error.NothingToFreeze) None))
freeze_by c None s h e = rw (nothing_new c s h e) (one (eqb (length c.active) 0) error.NothingToFreeze)
freeze_by c (Some f) s h e = refl

pub freeze_forced : (c : CoordValue) (s : State) → Shows c s → refusal s say.Freeze ≡ option_map refusal_of (freeze_fault c)
freeze_forced c s h = rw (h.up, frozen_is c.frozen s h.frozen) (freeze_by c c.frozen s h refl)

flush_by : (c : CoordValue) (frozen : Option Frozen) (s : State) → Shows c s → c.frozen ≡ frozen → (is_none frozen && eqb (last_seq s) (last_flushed s)) ≡ (is_none frozen && eqb (length c.active) 0)
flush_by c None s h e = nothing_new c s h e
flush_by c (Some f) s h e = refl

pub flush_forced : (c : CoordValue) (s : State) → Shows c s → refusal s say.Flush ≡ option_map refusal_of (flush_fault c)
flush_forced c s h = rw (h.up, none_is c.frozen s h.frozen, flush_by c c.frozen s h refl, version_count c.stored.edits c.served s h.tables, ltb-above MAX_NUMBER c.served.version.number, ltb-above MAX_NUMBER s.next_file, h.tables.next_file) (two _ _ error.NothingToFlush error.NumbersExhausted)

pub snapshot_forced : (c : CoordValue) (s : State) → Shows c s → refusal s say.Snap ≡ option_map refusal_of (snapshot_fault c)
snapshot_forced c s h = rw (h.up, h.snapshots, h.made, ltb-above MAX_NUMBER c.made) (two _ _ error.TooManySnapshots error.NumbersExhausted)

pub release_forced : (c : CoordValue) (s : State) (id : SnapId) → Shows c s → refusal s (say.Release id) ≡ option_map refusal_of (release_fault c id)
release_forced c s id h = rw (h.up, h.snapshots) (one _ error.NoSnapshot)

-- ---- a refusal that is forced is a step

pub write_refused : (s : State) (ops : List Op) (why : Refusal) → refusal s (say.Write ops) ≡ Some why → Step s (say.Write ops) (say.Refused why) s
write_refused s ops say.OutOfMemory h = (tt, refl)
write_refused s ops why h = (inl h, refl)

pub freeze_refused : (s : State) (why : Refusal) → refusal s say.Freeze ≡ Some why → Step s say.Freeze (say.Refused why) s
freeze_refused s say.OutOfMemory h = (tt, refl)
freeze_refused s why h = (inl h, refl)

pub flush_refused : (s : State) (why : Refusal) → refusal s say.Flush ≡ Some why → Step s say.Flush (say.Refused why) s
flush_refused s say.OutOfMemory h = (tt, refl)
flush_refused s why h = (inl h, refl)

pub snapshot_refused : (s : State) (why : Refusal) → refusal s say.Snap ≡ Some why → Step s say.Snap (say.Refused why) s
snapshot_refused s say.OutOfMemory h = (tt, refl)
snapshot_refused s why h = (inl h, refl)

pub release_refused : (s : State) (id : SnapId) (why : Refusal) → refusal s (say.Release id) ≡ Some why → Step s (say.Release id) (say.Refused why) s
release_refused s id say.OutOfMemory h = (tt, refl)
release_refused s id why h = (inl h, refl)
