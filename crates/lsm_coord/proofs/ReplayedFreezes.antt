-- What a replay has made of records, with one freeze more.
use Rattle.std.proofs.Common.{◌≡◌, ℕ, ◌+◌, ◌-◌, ◌<◌, ◌≤◌, Bool, true, cond, List, [], ◌∷◌, ◌++◌, ◌⊎◌, Option, None, Some, length, take, drop, refl, sym, ap, subst, ◌∙◌, arith, inl, inr}
use Rattle.std.specs.Option.{option_map, option_or, unwrap_or}
use Rattle.std.specs.List.Sorted.{IsPermutation}
use Rattle.std.proofs.Math.Seq.{drop-length, take-length}
use Rattle.std.proofs.lemmas.Bool.{eqb-true, le-ltb, lt-ltb}
use Rattle.std.proofs.lemmas.List.{append-nil, length-append}
use Rattle.std.proofs.lemmas.List.Concat.{flat_map-append}
use Rattle.std.proofs.lemmas.List.Sorted.{IsPermutation-refl}
use Rattle.lsm_key.specs.declared.op.Op.{Op}
use Rattle.lsm_key.specs.declared.limits.TheConstants.{MAX_MEMTABLE_WEIGHT}
use Rattle.lsm_key.specs.Limits.{total_weight}
use Rattle.lsm_key.specs.Places.{entries_after}
use Rattle.lsm_key.specs.Sets.{IsIn}
use Rattle.lsm_key.proofs.Membership.{IsIn-append_cases}
use Rattle.lsm_edit.specs.declared.log_record.LogRecord.{LogRecord}
use Rattle.lsm_edit.specs.declared.log_record.LogRecord.TheVariants.{Write, Freeze}
use Rattle.lsm_edit.specs.LogRecord.{IsRecord}
use Rattle.lsm_edit.specs.Log.{BeginsLate, Linked, Straddles, active_ops, end_of, first_freeze, freeze_above, frozen_ops, log_freezes, log_frozen, log_ops, ops_above}
use Rattle.lsm_edit.specs.LogLaws.{AreRecords}
use Rattle.lsm_edit.proofs.GrownLogs.{linked_more}
use Rattle.lsm_edit.proofs.LogLaws.{end_freeze}
use Rattle.lsm_coord.specs.declared.frozen.Frozen.{Frozen}
use Rattle.lsm_coord.specs.declared.replay.Replayed.{Replayed}
use Rattle.lsm_coord.specs.Contract.Logs.{records_upto}
use Rattle.lsm_coord.specs.Contract.Value.{frozen_entries, start_of}
use Rattle.lsm_coord.specs.Inner.Replaying.{HasReplayed, is_at}
use Rattle.lsm_coord.proofs.LogCuts.{upto_more}
use Rattle.lsm_coord.proofs.ReplayedRecords.{held_count, upto_all}

-- a freeze at the last sequence of the last write
pub at_last : (o : Option ℕ) (at : ℕ) → is_at o at ≡ true → o ≡ Some at
at_last None at is = absurd cc
at_last (Some last) at is = ap Some (sym (eqb-true at last is))

pub no_first : (l : List ℕ) → first_freeze l ≡ None → l ≡ []
no_first [] h = refl
no_first (n ∷ ns) h = absurd cc

module _ (flushed : ℕ) (records : List LogRecord) (r : Replayed) (h : HasReplayed flushed records r) (at : ℕ) (own : IsRecord (Freeze at)) (there : is_at r.last at ≡ true) where
  abbrev with_freeze : List LogRecord
  with_freeze = records ++ Freeze at ∷ []

  ends_at : end_of records ≡ Some at
  ends_at = sym h.last_is ∙ at_last r.last at there

  ends_still : end_of with_freeze ≡ Some at
  ends_still = end_freeze records at ∙ ends_at

  reached : unwrap_or (end_of records) 0 ≡ at
  reached = ap (λ (o : Option ℕ). unwrap_or o 0) ends_at

  reached_more : unwrap_or (end_of with_freeze) 0 ≡ at
  reached_more = ap (λ (o : Option ℕ). unwrap_or o 0) ends_still

  sound_more : AreRecords with_freeze
  sound_more q m = by_place (IsIn-append_cases q records (Freeze at ∷ []) m)
    where
      by_place : IsIn q records ⊎ IsIn q (Freeze at ∷ []) → IsRecord q
      by_place (inl before) = h.sound q before
      by_place (inr (inl same)) = subst IsRecord (sym same) own
      by_place (inr (inr none)) = absurd none

  begun_more : (rs : List LogRecord) → records ≡ rs → BeginsLate flushed (rs ++ Freeze at ∷ []) → ⊥
  begun_more [] is late = (let none : None ≡ Some at = sym (ap end_of is) ∙ ends_at in absurd cc)
  begun_more (Write f os ∷ rs) is late = subst (λ (l : List LogRecord). BeginsLate flushed l → ⊥) is h.begun late
  begun_more (Freeze z ∷ rs) is late = subst (λ (l : List LogRecord). BeginsLate flushed l → ⊥) is h.begun tt

  linked_freeze : Linked None with_freeze
  linked_freeze = linked_more None records (Freeze at) h.linked (subst (λ (x : Option ℕ). Linked (option_or x None) (Freeze at ∷ [])) (sym ends_at) (refl, tt))

  apart_more : Straddles flushed with_freeze → ⊥
  apart_more s = by_place (IsIn-append_cases (Write s.first s.ops) records (Freeze at ∷ []) s.among)
    where
      by_place : IsIn (Write s.first s.ops) records ⊎ IsIn (Write s.first s.ops) (Freeze at ∷ []) → ⊥
      by_place (inl before) = h.apart (record { first = s.first; ops = s.ops; among = before; low = s.low; high = s.high })
      by_place (inr (inl same)) = cc
      by_place (inr (inr none)) = none

  held_same : log_ops flushed with_freeze ≡ log_ops flushed records
  held_same = flat_map-append (ops_above flushed) records (Freeze at ∷ []) ∙ append-nil (log_ops flushed records)

  all_more : (n : ℕ) → unwrap_or (end_of with_freeze) 0 ≤ n → records_upto n with_freeze ≡ length with_freeze
  all_more n le = (let low : at ≤ n = omega (arith, le, reached_more) in upto_all n records (Freeze at) (h.all_upto n (omega (arith, low, reached))) low)

  read_more : r.read + 1 ≡ length with_freeze
  read_more = let count = h.read_is in omega (arith, count, length-append records (Freeze at ∷ []))

  between_more : (f : Frozen) → r.frozen ≡ Some f → (flushed < f.end) × (f.end ≤ unwrap_or (end_of with_freeze) 0)
  between_more f is = let b = h.between f is in let end = b.1 in (b.0, omega (arith, end, reached, reached_more))

  -- ---- a freeze up to the flushed sequence: nothing is held that was not

  module _ (low : at ≤ flushed) where
    freezes_same : log_freezes flushed with_freeze ≡ log_freezes flushed records
    freezes_same =
        flat_map-append (freeze_above flushed) records (Freeze at ∷ [])
        ∙ ap (λ (b : Bool). log_freezes flushed records ++ (cond b (at ∷ []) [] ++ [])) (le-ltb flushed at low)
        ∙ append-nil (log_freezes flushed records)

    frozen_same : log_frozen flushed with_freeze ≡ log_frozen flushed records
    frozen_same = ap first_freeze freezes_same

    -- how many operations are up to the frozen end
    abbrev cut : ℕ
    cut = unwrap_or (log_frozen flushed records) flushed - flushed

    frozen_still : frozen_ops flushed with_freeze ≡ frozen_ops flushed records
    frozen_still = ap (λ (o : Option ℕ). take (unwrap_or o flushed - flushed) (log_ops flushed with_freeze)) frozen_same ∙ ap (take cut) held_same

    active_still : active_ops flushed with_freeze ≡ active_ops flushed records
    active_still = ap (λ (o : Option ℕ). drop (unwrap_or o flushed - flushed) (log_ops flushed with_freeze)) frozen_same ∙ ap (drop cut) held_same

    pub freeze_passed : HasReplayed flushed with_freeze (record r { read = r.read + 1; flushed_upto = r.read + 1 })
    freeze_passed = record {
      sound = sound_more;
      begun = begun_more records refl;
      linked = linked_freeze;
      apart = apart_more;
      once = let once = h.once in let same = ap length freezes_same in omega (arith, once, same);
      frozen_light = subst (λ (os : List Op). total_weight os ≤ MAX_MEMTABLE_WEIGHT) (sym frozen_still) h.frozen_light;
      active_light = subst (λ (os : List Op). total_weight os ≤ MAX_MEMTABLE_WEIGHT) (sym active_still) h.active_light;
      last_is = h.last_is ∙ sym (end_freeze records at);
      frozen_end = h.frozen_end ∙ sym frozen_same;
      active_is = subst (λ (os : List Op). IsPermutation r.active (entries_after (start_of r.frozen flushed) os)) (sym active_still) h.active_is;
      frozen_is = subst (λ (os : List Op). IsPermutation (frozen_entries r.frozen) (entries_after flushed os)) (sym frozen_still) h.frozen_is;
      between = between_more;
      read_is = read_more;
      all_upto = all_more;
      flushed_upto = read_more ∙ sym (all_more flushed (omega (arith, low, reached_more)));
      frozen_upto = λ f is. let b = h.between f is in let above = b.0 in let end = b.1 in absurd (omega (arith, low, above, end, reached));
    }

  -- ---- a freeze above it, where nothing is frozen: the active memtable is, and a new one is empty

  module _ (above : flushed < at) (free : r.frozen ≡ None) where
    none_frozen : log_freezes flushed records ≡ []
    none_frozen = no_first (log_freezes flushed records) (sym (ap (option_map (λ (f : Frozen). f.end)) (sym free) ∙ h.frozen_end))

    freezes_are : log_freezes flushed with_freeze ≡ at ∷ []
    freezes_are =
        flat_map-append (freeze_above flushed) records (Freeze at ∷ [])
        ∙ ap (λ (l : List ℕ). l ++ (freeze_above flushed (Freeze at) ++ [])) none_frozen
        ∙ ap (λ (b : Bool). cond b (at ∷ []) [] ++ []) (lt-ltb flushed at above)

    frozen_at : log_frozen flushed with_freeze ≡ Some at
    frozen_at = ap first_freeze freezes_are

    held_long : at - flushed ≡ length (log_ops flushed records)
    held_long = sym (held_count flushed records h.sound h.begun h.linked at ends_at)

    -- before it the active memtable had all that is held
    active_all : active_ops flushed records ≡ log_ops flushed records
    active_all = ap (λ (l : List ℕ). drop (unwrap_or (first_freeze l) flushed - flushed) (log_ops flushed records)) none_frozen ∙ ap (λ (n : ℕ). drop n (log_ops flushed records)) (zero_is flushed)
      where
        zero_is : (n : ℕ) → n - n ≡ 0
        zero_is n = omega arith

    frozen_all : frozen_ops flushed with_freeze ≡ log_ops flushed records
    frozen_all =
        ap (λ (o : Option ℕ). take (unwrap_or o flushed - flushed) (log_ops flushed with_freeze)) frozen_at
        ∙ ap (take (at - flushed)) held_same
        ∙ ap (λ (n : ℕ). take n (log_ops flushed records)) held_long
        ∙ take-length (log_ops flushed records)

    active_none : active_ops flushed with_freeze ≡ []
    active_none =
        ap (λ (o : Option ℕ). drop (unwrap_or o flushed - flushed) (log_ops flushed with_freeze)) frozen_at
        ∙ ap (drop (at - flushed)) held_same
        ∙ ap (λ (n : ℕ). drop n (log_ops flushed records)) held_long
        ∙ drop-length (log_ops flushed records)

    -- what is frozen
    abbrev memtable : Frozen
    memtable = record { memtable = r.active; end = at }

    ends_there : (f : Frozen) → Some memtable ≡ Some f → f.end ≡ at
    ends_there f is = sym (ap (λ (o : Option Frozen). unwrap_or (option_map (λ (x : Frozen). x.end) o) 0) is)

    pub frozen_now : HasReplayed flushed with_freeze (record r { active = []; frozen = Some memtable; read = r.read + 1; frozen_upto = r.read + 1 })
    frozen_now = record {
      sound = sound_more;
      begun = begun_more records refl;
      linked = linked_freeze;
      apart = apart_more;
      once = let count : length (log_freezes flushed with_freeze) ≡ 1 = ap length freezes_are in omega (arith, count);
      frozen_light = subst (λ (os : List Op). total_weight os ≤ MAX_MEMTABLE_WEIGHT) (active_all ∙ sym frozen_all) h.active_light;
      active_light = let none : total_weight (active_ops flushed with_freeze) ≡ 0 = ap total_weight active_none in omega (arith, none);
      last_is = h.last_is ∙ sym (end_freeze records at);
      frozen_end = sym frozen_at;
      active_is = subst (λ (os : List Op). IsPermutation [] (entries_after at os)) (sym active_none) (IsPermutation-refl []);
      frozen_is = subst (λ (os : List Op). IsPermutation r.active (entries_after flushed os)) (active_all ∙ sym frozen_all)
          (subst (λ (o : Option Frozen). IsPermutation r.active (entries_after (start_of o flushed) (active_ops flushed records))) free h.active_is);
      between = λ f is. let end = ends_there f is in (omega (arith, above, end), omega (arith, end, reached_more));
      read_is = read_more;
      all_upto = all_more;
      flushed_upto = h.flushed_upto ∙ sym (upto_more flushed records (Freeze at) above);
      frozen_upto = λ f is. let end = ends_there f is in read_more ∙ sym (all_more f.end (omega (arith, end, reached_more)));
    }
