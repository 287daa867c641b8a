-- What is noted of a memtable's entries.
use Rattle.std.proofs.Common.{◌≡◌, ℕ, ◌+◌, ◌<◌, ◌≤◌, List, [], ◌∷◌, ◌++◌, None, length, sum_by, refl, sym, ap, subst, ◌∙◌, ◌⊎◌, arith, inl, inr, length-append}
use Rattle.std.specs.List.Sorted.{IsPermutation}
use Rattle.std.proofs.lemmas.List.Sums.{sum_by-append, sum_by-cons}
use Rattle.std.proofs.lemmas.List.Sorted.{sum_by-IsPermutation, length_permutation}
use Rattle.lsm_key.specs.declared.op.Op.{Op}
use Rattle.lsm_key.specs.declared.entry.Entry.{Entry}
use Rattle.lsm_key.specs.declared.limits.TheConstants.{MAX_MEMTABLE_WEIGHT}
use Rattle.lsm_key.specs.Sets.{IsIn}
use Rattle.lsm_key.specs.Limits.{entry_weight, total_weight, batch_fault}
use Rattle.lsm_key.specs.Places.{entries_after}
use Rattle.lsm_key.proofs.Membership.{IsIn-append_cases, IsIn-append_right, SameMembers-permutation}
use Rattle.lsm_key.proofs.WritesOverStored.{entries_after-range, length-entries_after, weight-entries_after}
use Rattle.lsm_mem.specs.Chains.{Chain, entries_in, with_entries, IsNoted}
use Rattle.lsm_mem.specs.Memtable.{last_sequence, SequencesDiffer, IsMemtable}
use Rattle.lsm_mem.proofs.ChainOrder.{chained_ascend}
use Rattle.lsm_mem.proofs.VersionOrder.{rising_same}
use Rattle.lsm_mem.proofs.ChainsGrow.{with_entries-permuted, with_entries-chained}
use Rattle.lsm_mem.proofs.BatchEntries.{after_sound, after_rise, last_written}

-- ---- the greatest sequence

pub up_to_last : (es : List Entry) (e : Entry) → IsIn e es → e.ikey.seq ≤ last_sequence es
up_to_last [] e m = absurd m
up_to_last (x ∷ es) e m = elim m [
  | inl same ↦ (let s : e.ikey.seq ≡ x.ikey.seq = ap (λ (y : Entry). y.ikey.seq) same in omega arith)
  | inr n ↦ (let low : e.ikey.seq ≤ last_sequence es = up_to_last es e n in omega arith)
]

pub last_low : (es : List Entry) (n : ℕ) → ((e : Entry) → IsIn e es → e.ikey.seq ≤ n) → last_sequence es ≤ n
last_low [] n h = omega arith
last_low (x ∷ es) n h = let own : x.ikey.seq ≤ n = h x (inl refl) in let rest : last_sequence es ≤ n = last_low es n (λ e m. h e (inr m)) in omega arith

pub last_is : (es : List Entry) (n : ℕ) (e : Entry) → ((f : Entry) → IsIn f es → f.ikey.seq ≤ n) → IsIn e es → e.ikey.seq ≡ n → last_sequence es ≡ n
last_is es n e h m is = let low : last_sequence es ≤ n = last_low es n h in let high : e.ikey.seq ≤ last_sequence es = up_to_last es e m in omega arith

-- what a caller learns
pub noted_sound : (cs : List Chain) (weight count last : ℕ) → IsNoted cs weight count last → IsMemtable (entries_in cs)
noted_sound cs weight count last is =
    let weighed = is.weighed in
    let light = is.light in
    record { ascending = chained_ascend cs is.chained; sound = is.sound; apart = is.apart; light = omega arith }

-- ---- the entries of a batch join those of a memtable

module _ (cs : List Chain) (weight count last after : ℕ) (ops : List Op) (is : IsNoted cs weight count last) (newer : last ≤ after) (good : batch_fault ops ≡ None) where
  abbrev joined : List Chain
  joined = with_entries (entries_after after ops) cs

  permuted : IsPermutation (entries_in cs ++ entries_after after ops) (entries_in joined)
  permuted = with_entries-permuted (entries_after after ops) cs

  parts : (e : Entry) → IsIn e (entries_in joined) → IsIn e (entries_in cs) ⊎ IsIn e (entries_after after ops)
  parts e m = IsIn-append_cases e (entries_in cs) (entries_after after ops) ((SameMembers-permutation (entries_in cs ++ entries_after after ops) (entries_in joined) permuted e).1 m)

  low : (e : Entry) → IsIn e (entries_in cs) → e.ikey.seq ≤ after
  low e m = let up_to : e.ikey.seq ≤ last_sequence (entries_in cs) = up_to_last (entries_in cs) e m in let newest = is.newest in omega arith

  differ : SequencesDiffer (entries_in joined)
  differ e f m n same = elim (parts e m) [
    | inl a ↦ elim (parts f n) [
      | inl b ↦ is.apart e f a b same
      | inr b ↦ (let lt = entries_after-range after ops f b in let le = low e a in absurd (omega arith))
    ]
    | inr a ↦ elim (parts f n) [
      | inl b ↦ (let lt = entries_after-range after ops e a in let le = low f b in absurd (omega arith))
      | inr b ↦ rising_same (entries_after after ops) (after_rise after ops) e f a b same
    ]
  ]

  pub joined_noted : (newest : ℕ) → weight + total_weight ops ≤ MAX_MEMTABLE_WEIGHT → newest ≡ last_sequence (entries_in joined) → IsNoted joined (weight + total_weight ops) (count + length ops) newest
  joined_noted newest light newest_is = record {
    chained = with_entries-chained (entries_after after ops) cs is.chained (after_rise after ops) (λ e m f n. let lt = entries_after-range after ops e m in let le = low f n in omega arith);
    sound = λ e m. elim (parts e m) [ inl a ↦ is.sound e a | inr b ↦ after_sound [] ops after good e b ];
    apart = differ;
    weighed = (λ i. is.weighed i + sym (weight-entries_after after ops) i) ∙ sym (sum_by-append entry_weight (entries_in cs) (entries_after after ops)) ∙ sym (sum_by-IsPermutation entry_weight (entries_in cs ++ entries_after after ops) (entries_in joined) permuted);
    light = light;
    counted = (λ i. is.counted i + sym (length-entries_after after ops) i) ∙ sym (length-append (entries_in cs) (entries_after after ops)) ∙ sym (length_permutation (entries_in cs ++ entries_after after ops) (entries_in joined) permuted);
    newest = newest_is;
  }

  -- the newest is the last operation
  pub last_joined : (op : Op) (rest : List Op) → ops ≡ op ∷ rest → last_sequence (entries_in joined) ≡ after + length ops
  last_joined op rest some =
      let r = last_written after op rest in
      let member : IsIn r.0 (entries_after after ops) = subst (λ (os : List Op). IsIn r.0 (entries_after after os)) (sym some) r.1 in
      let seq : r.0.ikey.seq ≡ after + length ops = r.2 ∙ ap (λ (os : List Op). after + length os) (sym some) in
      last_is (entries_in joined) (after + length ops) r.0 (λ f m. elim (parts f m) [
        | inl a ↦ (let le = low f a in omega arith)
        | inr b ↦ (entries_after-range after ops f b).1
      ]) ((SameMembers-permutation (entries_in cs ++ entries_after after ops) (entries_in joined) permuted r.0).0 (IsIn-append_right r.0 (entries_in cs) (entries_after after ops) member)) seq

-- a batch of no operation
pub noted_none : (cs : List Chain) (weight count last after : ℕ) (ops : List Op) → IsNoted cs weight count last → last ≤ after → batch_fault ops ≡ None → weight + total_weight ops ≤ MAX_MEMTABLE_WEIGHT → length ops ≡ 0 → IsNoted (with_entries (entries_after after ops) cs) (weight + total_weight ops) (count + length ops) last
noted_none cs weight count last after [] is newer good light none = joined_noted cs weight count last after [] is newer good last light is.newest
noted_none cs weight count last after (op ∷ ops) is newer good light none = absurd (omega arith)

-- a batch of some operations
pub noted_some : (cs : List Chain) (weight count last after newest : ℕ) (ops : List Op) → IsNoted cs weight count last → last ≤ after → batch_fault ops ≡ None → weight + total_weight ops ≤ MAX_MEMTABLE_WEIGHT → 0 < length ops → newest ≡ after + length ops → IsNoted (with_entries (entries_after after ops) cs) (weight + total_weight ops) (count + length ops) newest
noted_some cs weight count last after newest [] is newer good light some seq = absurd (omega arith)
noted_some cs weight count last after newest (op ∷ ops) is newer good light some seq =
    joined_noted cs weight count last after (op ∷ ops) is newer good newest light (seq ∙ sym (last_joined cs weight count last after (op ∷ ops) is newer good op ops refl))

-- an entry weighs at least one
pub length-le-weight : (es : List Entry) → length es ≤ sum_by entry_weight es
length-le-weight [] = omega arith
length-le-weight (e ∷ es) = let rest : length es ≤ sum_by entry_weight es = length-le-weight es in let cons : sum_by entry_weight (e ∷ es) ≡ entry_weight e + sum_by entry_weight es = sum_by-cons entry_weight e es in omega arith
