-- Where the memtables lie that a log holds.
use Rattle.std.proofs.Common.{◌≡◌, ℕ, ◌+◌, ◌-◌, ◌<◌, ◌≤◌, List, [], ◌∷◌, Option, None, Some, length, take, drop, refl, sym, ap, subst, ◌∙◌, arith}
use Rattle.std.specs.List.Sorted.{IsPermutation}
use Rattle.std.proofs.lemmas.List.{length-drop, length-take}
use Rattle.std.proofs.lemmas.List.Sorted.{length_permutation}
use Rattle.lsm_key.specs.declared.entry.Entry.{Entry}
use Rattle.lsm_key.specs.Places.{entries_after}
use Rattle.lsm_key.proofs.Membership.{SameMembers-permutation}
use Rattle.lsm_key.proofs.WritesOverStored.{entries_after-range, length-entries_after}
use Rattle.lsm_edit.specs.declared.log_record.LogRecord.{LogRecord}
use Rattle.lsm_edit.specs.declared.log_record.LogRecord.TheVariants.{Write, Freeze}
use Rattle.lsm_edit.specs.Log.{IsGood, end_of, log_frozen, log_ops}
use Rattle.lsm_edit.proofs.FlushedLogs.{frozen_above}
use Rattle.lsm_edit.proofs.GrownLogs.{end_after, freeze_within, good_count}
use Rattle.lsm_coord.specs.declared.frozen.Frozen.{Frozen}
use Rattle.lsm_coord.specs.Contract.Logs.{IsLogged}
use Rattle.lsm_coord.specs.Contract.Memory.{AreBetween}
use Rattle.lsm_coord.specs.Contract.Value.{frozen_entries, start_of}
use Rattle.lsm_coord.proofs.LoggedCalls.{end_in}

module _ (active : List Entry) (frozen : Option Frozen) (last flushed : ℕ) (log : List (List ℕ)) (l : IsLogged active frozen last flushed log) where
  -- the frozen end is above the flushed sequence, and up to the last one
  pub frozen_bounds : (f : Frozen) → frozen ≡ Some f → (flushed < f.end) × (f.end ≤ last)
  frozen_bounds f is = (frozen_above flushed l.records f.end at, by_records l.records refl)
    where
      at : log_frozen flushed l.records ≡ Some f.end
      at = sym l.holds.frozen_is ∙ ap end_in is

      by_records : (rs : List LogRecord) → l.records ≡ rs → f.end ≤ last
      by_records [] same = (let none : None ≡ Some f.end = ap (log_frozen flushed) (sym same) ∙ at in absurd cc)
      by_records (Freeze z ∷ rs) same = absurd ((subst (IsGood flushed) same l.holds.good).begun tt)
      by_records (Write first ops ∷ rs) same =
          let g = subst (IsGood flushed) same l.holds.good in
          let end : ℕ = end_after (first + length ops - 1) rs in
          let within : f.end ≤ end = freeze_within flushed (first + length ops - 1) rs f.end g.linked (ap (log_frozen flushed) (sym same) ∙ at) in
          let count = good_count flushed l.records l.holds.good l.sound end (ap end_of same) in
          let low = count.0 in
          let whole = count.1 in
          let long : length l.ops ≡ length (log_ops flushed l.records) = ap length l.holds.ops_are in
          let last_is = l.last_is in
          omega (arith, within, low, whole, long, last_is)

  -- the active memtable begins between them
  pub start_within : (o : Option Frozen) → frozen ≡ o → (flushed ≤ start_of o flushed) × (start_of o flushed ≤ last)
  start_within None is = (let last_is = l.last_is in (omega arith, omega (arith, last_is)))
  start_within (Some f) is = (let b = frozen_bounds f is in let low = b.0 in (omega (arith, low), b.1))

  pub start_low : flushed ≤ start_of frozen flushed
  start_low = (start_within frozen refl).0

  pub start_high : start_of frozen flushed ≤ last
  start_high = (start_within frozen refl).1

  -- its entries are from there on, up to the last sequence
  pub recent_between : AreBetween active (start_of frozen flushed) last
  recent_between e m =
      let own = drop (start_of frozen flushed - flushed) l.ops in
      let range = entries_after-range (start_of frozen flushed) own e ((SameMembers-permutation active (entries_after (start_of frozen flushed) own) l.active_is e).0 m) in
      let high = range.1 in
      let last_is = l.last_is in
      (range.0, omega (arith, high, last_is, start_low, start_high, length-drop (start_of frozen flushed - flushed) l.ops))

  -- and what is frozen has an entry
  pub frozen_some : (f : Frozen) → frozen ≡ Some f → 0 < length f.memtable
  frozen_some f is =
      let b = frozen_bounds f is in
      let low = b.0 in
      let high = b.1 in
      let last_is = l.last_is in
      let own = take (f.end - flushed) l.ops in
      let are : IsPermutation f.memtable (entries_after flushed own) = subst (λ (o : Option Frozen). IsPermutation (frozen_entries o) (entries_after flushed (take (start_of o flushed - flushed) l.ops))) is l.frozen_is in
      omega (arith, low, high, last_is, length_permutation f.memtable (entries_after flushed own) are, length-entries_after flushed own, length-take (f.end - flushed) l.ops)
