-- When a state forces a refusal, and when none, over plain facts.
use Rattle.std.proofs.Common.{◌≡◌, ℕ, ◌+◌, ◌<◌, ◌≤◌, List, None, Some, refl, arith, Bool, true, false, length, nat_eq, ◌||◌, ◌&&◌, is_none, inl, inr, ◌⊎◌}
use Rattle.std.specs.Bool.{nat_lt}
use Rattle.std.proofs.lemmas.Bool.{and_right, lt-ltb, le-ltb, le-leb, lt-leb, ne_eqb}
use Rattle.std.proofs.lemmas.Bool.Decides.{Decides-eqb}
use Rattle.lsm_key.specs.declared.op.Op.{Op}
use Rattle.lsm_key.specs.declared.batch.KeyError.{KeyError}
use Rattle.lsm_key.specs.declared.limits.TheConstants.{MAX_NUMBER, MAX_MEMTABLE_WEIGHT, MAX_SNAPSHOTS}
use Rattle.lsm_key.specs.declared.seq.TheConstants.Seq as seq
use Rattle.lsm_key.specs.Limits.{batch_fault, total_weight}
use Rattle.lsm_coord.specs.Model.State.{State, last_seq, current, last_flushed, active, snapshot_at}
use Rattle.lsm_coord.specs.declared.snapshot.SnapId.{SnapId}
use Rattle.lsm_coord.specs.Model.Event as say
use Rattle.lsm_coord.specs.Model.Rules.{refusal, key_refusal}

-- ---- a write

pub write_of_bad_batch : (s : State) (ops : List Op) (e : KeyError) → batch_fault ops ≡ Some e → refusal s (say.Write ops) ≡ Some (key_refusal e)
write_of_bad_batch s ops e bad = rw bad refl

pub write_when_down : (s : State) (ops : List Op) → batch_fault ops ≡ None → s.up ≡ false → refusal s (say.Write ops) ≡ Some say.Down
write_when_down s ops good down = rw (good, down) refl

pub write_of_nothing : (s : State) (ops : List Op) → s.up ≡ true → batch_fault ops ≡ None → length ops ≡ 0 → refusal s (say.Write ops) ≡ Some say.EmptyBatch
write_of_nothing s ops up good none = rw (good, up, none) refl

-- a batch that is not refused for itself
pub record IsWritable (s : State) (ops : List Op) : Type 0 where
  pub up : s.up ≡ true
  pub good : batch_fault ops ≡ None
  pub some : 1 ≤ length ops

not_empty : (n : ℕ) → 1 ≤ n → nat_eq n 0 ≡ false
not_empty n h = ne_eqb n 0 (λ e. omega arith)

pub write_past_last : (s : State) (ops : List Op) → IsWritable s ops → seq.MAX < last_seq s + length ops → refusal s (say.Write ops) ≡ Some say.SequenceExhausted
write_past_last s ops h past = rw (h.good, h.up, not_empty (length ops) h.some, lt-ltb seq.MAX (last_seq s + length ops) past) refl

pub write_too_heavy : (s : State) (ops : List Op) → IsWritable s ops → last_seq s + length ops ≤ seq.MAX → MAX_MEMTABLE_WEIGHT < total_weight (active s) + total_weight ops → refusal s (say.Write ops) ≡ Some say.MemtableFull
write_too_heavy s ops h fits heavy =
    rw (h.good, h.up, not_empty (length ops) h.some, le-ltb seq.MAX (last_seq s + length ops) fits, lt-ltb MAX_MEMTABLE_WEIGHT (total_weight (active s) + total_weight ops) heavy) refl

pub write_may : (s : State) (ops : List Op) → IsWritable s ops → last_seq s + length ops ≤ seq.MAX → total_weight (active s) + total_weight ops ≤ MAX_MEMTABLE_WEIGHT → refusal s (say.Write ops) ≡ None
write_may s ops h fits light =
    rw (h.good, h.up, not_empty (length ops) h.some, le-ltb seq.MAX (last_seq s + length ops) fits, le-ltb MAX_MEMTABLE_WEIGHT (total_weight (active s) + total_weight ops) light) refl

-- ---- freeze and flush

same : (n : ℕ) → nat_eq n n ≡ true
same n = (Decides-eqb n n).1 refl

pub freeze_waits : (s : State) (z : ℕ) → s.up ≡ true → s.frozen ≡ Some z → refusal s say.Freeze ≡ Some say.FrozenWaiting
freeze_waits s z up frozen = rw (up, frozen) refl

pub freeze_of_nothing : (s : State) → s.up ≡ true → s.frozen ≡ None → last_seq s ≡ last_flushed s → refusal s say.Freeze ≡ Some say.NothingToFreeze
freeze_of_nothing s up frozen none = rw (up, frozen, none, same (last_flushed s)) refl

pub freeze_may : (s : State) → s.up ≡ true → s.frozen ≡ None → last_flushed s < last_seq s → refusal s say.Freeze ≡ None
freeze_may s up frozen some = rw (up, frozen, ne_eqb (last_seq s) (last_flushed s) (λ e. omega arith)) refl

pub flush_of_nothing : (s : State) → s.up ≡ true → s.frozen ≡ None → last_seq s ≡ last_flushed s → refusal s say.Flush ≡ Some say.NothingToFlush
flush_of_nothing s up frozen none = rw (up, frozen, none, same (last_flushed s)) refl

-- a frozen memtable, or writes after the last flush
abbrev pub IsFlushable : State → Type 0
IsFlushable s = ((z : ℕ) × (s.frozen ≡ Some z)) ⊎ (last_flushed s < last_seq s)

or-true : (b : Bool) → (b || true) ≡ true
or-true true = refl
or-true false = refl

flushable : (s : State) → IsFlushable s → (is_none s.frozen && nat_eq (last_seq s) (last_flushed s)) ≡ false
flushable s (inl frozen) = rw frozen.1 refl
flushable s (inr some) = rw (ne_eqb (last_seq s) (last_flushed s) (λ e. omega arith)) (and_right (is_none s.frozen) false refl)

past_one : (a b : ℕ) → (MAX_NUMBER < a) ⊎ (MAX_NUMBER < b) → (nat_lt MAX_NUMBER a || nat_lt MAX_NUMBER b) ≡ true
past_one a b (inl h) = rw (lt-ltb MAX_NUMBER a h) refl
past_one a b (inr h) = rw (lt-ltb MAX_NUMBER b h) (or-true (nat_lt MAX_NUMBER a))

past_none : (a b : ℕ) → a ≤ MAX_NUMBER → b ≤ MAX_NUMBER → (nat_lt MAX_NUMBER a || nat_lt MAX_NUMBER b) ≡ false
past_none a b h k = rw (le-ltb MAX_NUMBER a h, le-ltb MAX_NUMBER b k) refl

pub flush_past_last : (s : State) → s.up ≡ true → IsFlushable s → (MAX_NUMBER < length s.versions) ⊎ (MAX_NUMBER < s.next_file + 1) → refusal s say.Flush ≡ Some say.NumbersExhausted
flush_past_last s up some past = rw (up, flushable s some, past_one (length s.versions) (s.next_file + 1) past) refl

pub flush_may : (s : State) → s.up ≡ true → IsFlushable s → length s.versions ≤ MAX_NUMBER → s.next_file + 1 ≤ MAX_NUMBER → refusal s say.Flush ≡ None
flush_may s up some versions files = rw (up, flushable s some, past_none (length s.versions) (s.next_file + 1) versions files) refl

-- ---- snapshots and reads

pub snapshot_of_many : (s : State) → s.up ≡ true → MAX_SNAPSHOTS ≤ length s.snapshots → refusal s say.Snap ≡ Some say.TooManySnapshots
snapshot_of_many s up many = rw (up, le-leb MAX_SNAPSHOTS (length s.snapshots) many) refl

pub snapshot_past_last : (s : State) → s.up ≡ true → length s.snapshots < MAX_SNAPSHOTS → MAX_NUMBER < s.made + 1 → refusal s say.Snap ≡ Some say.NumbersExhausted
snapshot_past_last s up few past = rw (up, lt-leb MAX_SNAPSHOTS (length s.snapshots) few, lt-ltb MAX_NUMBER (s.made + 1) past) refl

pub snapshot_may : (s : State) → s.up ≡ true → length s.snapshots < MAX_SNAPSHOTS → s.made + 1 ≤ MAX_NUMBER → refusal s say.Snap ≡ None
snapshot_may s up few fits = rw (up, lt-leb MAX_SNAPSHOTS (length s.snapshots) few, le-ltb MAX_NUMBER (s.made + 1) fits) refl

pub release_of_absent : (s : State) (id : SnapId) → s.up ≡ true → snapshot_at s.snapshots id ≡ None → refusal s (say.Release id) ≡ Some say.NoSnapshot
release_of_absent s id up absent = rw (up, absent) refl

pub release_may : (s : State) (id : SnapId) (at : ℕ) → s.up ≡ true → snapshot_at s.snapshots id ≡ Some at → refusal s (say.Release id) ≡ None
release_may s id at up live = rw (up, live) refl

pub get_may : (s : State) (key : List ℕ) → s.up ≡ true → refusal s (say.Get key None) ≡ None
get_may s key up = rw up refl

pub get_at_absent : (s : State) (key : List ℕ) (id : SnapId) → s.up ≡ true → snapshot_at s.snapshots id ≡ None → refusal s (say.Get key (Some id)) ≡ Some say.NoSnapshot
get_at_absent s key id up absent = rw (up, absent) refl

pub get_at_may : (s : State) (key : List ℕ) (id : SnapId) (at : ℕ) → s.up ≡ true → snapshot_at s.snapshots id ≡ Some at → refusal s (say.Get key (Some id)) ≡ None
get_at_may s key id at up live = rw (up, live) refl

pub scan_may : (s : State) (lo hi : List ℕ) (limit : ℕ) → s.up ≡ true → refusal s (say.Scan lo hi None limit) ≡ None
scan_may s lo hi limit up = rw up refl

pub scan_at_absent : (s : State) (lo hi : List ℕ) (id : SnapId) (limit : ℕ) → s.up ≡ true → snapshot_at s.snapshots id ≡ None → refusal s (say.Scan lo hi (Some id) limit) ≡ Some say.NoSnapshot
scan_at_absent s lo hi id limit up absent = rw (up, absent) refl

pub scan_at_may : (s : State) (lo hi : List ℕ) (id : SnapId) (limit at : ℕ) → s.up ≡ true → snapshot_at s.snapshots id ≡ Some at → refusal s (say.Scan lo hi (Some id) limit) ≡ None
scan_at_may s lo hi id limit at up live = rw (up, live) refl

pub show_may : (s : State) → s.up ≡ true → refusal s (say.Show say.Coordinator) ≡ None
show_may s up = rw up refl

pub pick_may : (s : State) (dispatcher : ℕ) → s.up ≡ true → refusal s (say.Pick dispatcher) ≡ None
pick_may s dispatcher up = rw up refl

pub give_up_may : (s : State) (dispatcher : ℕ) → s.up ≡ true → refusal s (say.GiveUp dispatcher) ≡ None
give_up_may s dispatcher up = rw up refl

-- ---- the floor and restarts

pub trim_past_current : (s : State) (n : ℕ) → s.up ≡ true → current s < n → refusal s (say.Trim n) ≡ Some say.BadFloor
trim_past_current s n up past = rw (up, lt-ltb (current s) n past) refl

pub trim_may : (s : State) (n : ℕ) → s.up ≡ true → n ≤ current s → refusal s (say.Trim n) ≡ None
trim_may s n up fits = rw (up, le-ltb (current s) n fits) refl

pub restart_past_last : (s : State) → (MAX_NUMBER < s.epoch + 1) ⊎ (MAX_NUMBER < length s.versions) → refusal s (say.Restart say.Coordinator) ≡ Some say.NumbersExhausted
restart_past_last s past = rw (past_one (s.epoch + 1) (length s.versions) past) refl

pub restart_may : (s : State) → s.epoch + 1 ≤ MAX_NUMBER → length s.versions ≤ MAX_NUMBER → refusal s (say.Restart say.Coordinator) ≡ None
restart_may s epochs versions = rw (past_none (s.epoch + 1) (length s.versions) epochs versions) refl
