-- Outputs that are cut from the front one after another.
use Rattle.std.proofs.Common.{◌≡◌, ℕ, zero, suc, ◌<◌, ◌≤◌, List, [], ◌∷◌, ◌++◌, length, get_or, append_assoc, sym, ap, ◌∙◌, subst, arith}
use Rattle.std.proofs.lemmas.List.{length-append}
use Rattle.std.proofs.lemmas.List.Elements.{All-cons}
use Rattle.std.proofs.lemmas.List.Kept.{AllPairs-cons}
use Rattle.lsm_key.specs.declared.entry.Entry.{Entry}
use Rattle.lsm_key.specs.Places.{all_entries}
use Rattle.lsm_key.specs.Sets.{IsIn}
use Rattle.lsm_key.proofs.Membership.{IsIn-append_left, IsIn-append_right}
use Rattle.lsm_table.specs.Tables.{IsTable, target_of}
use Rattle.lsm_edit.proofs.AllEntries.{all_entries-push}
use Rattle.lsm_merge.specs.declared.outputs.TheConstants.{OUTPUT_TARGET}
use Rattle.lsm_merge.specs.Outputs.{weight_of_entries, before_last_key, HasLowerKeys, AreCut, EncodeEntries}
use Rattle.lsm_merge.specs.Cutting.{AreFirstOutputs, IsFirstOutput}

pub cut_push : (lists : List (List Entry)) (es rest : List Entry) → AreFirstOutputs lists (es ++ rest) → IsFirstOutput es rest → AreFirstOutputs (lists ++ es ∷ []) rest
cut_push [] es rest h one = (one, tt)
cut_push (xs ∷ lists) es rest h one =
    let same : all_entries lists ++ (es ++ rest) ≡ all_entries (lists ++ es ∷ []) ++ rest = sym (append_assoc (all_entries lists) es rest) ∙ ap (λ (ys : List Entry). ys ++ rest) (sym (all_entries-push lists es)) in
    (subst (IsFirstOutput xs) same h.0, cut_push lists es rest h.1 one)

pub tables_push : (target : ℕ) (outputs : List (List ℕ)) (lists : List (List Entry)) (bytes : List ℕ) (es : List Entry) → EncodeEntries target outputs lists → IsTable bytes es → target_of bytes ≡ target → EncodeEntries target (outputs ++ bytes ∷ []) (lists ++ es ∷ [])
tables_push target [] [] bytes es h one of = (one, of, tt)
tables_push target [] (xs ∷ lists) bytes es h one of = absurd h
tables_push target (b ∷ outputs) [] bytes es h one of = absurd h
tables_push target (b ∷ outputs) (xs ∷ lists) bytes es h one of = (h.0, h.1, tables_push target outputs lists bytes es h.2 one of)

-- ---- the end

some_first : (lists : List (List Entry)) → AreFirstOutputs lists [] → (k : ℕ) → k < length lists → 0 < length (all_entries lists ++ [])
some_first [] h k lt = absurd (omega (arith, lt))
some_first (es ∷ lists) h k lt = let own = h.0.some in omega (arith, own, length-append (es ++ all_entries lists) [], length-append es (all_entries lists))

in_all : (lists : List (List Entry)) (k : ℕ) (d : List Entry) (e : Entry) → k < length lists → IsIn e (get_or lists k d) → IsIn e (all_entries lists)
in_all [] k d e lt m = absurd (omega (arith, lt))
in_all (es ∷ lists) zero d e lt m = IsIn-append_left e es (all_entries lists) m
in_all (es ∷ lists) (suc k) d e lt m = IsIn-append_right e es (all_entries lists) (in_all lists k d e (omega (arith, lt)) m)

pub all_cut : (lists : List (List Entry)) → AreFirstOutputs lists [] → AreCut lists
all_cut [] h = record { some = λ k d lt. absurd (omega (arith, lt)); late = λ k d lt. absurd (omega (arith, lt)); full = λ i j d lt within. absurd (omega (arith, within)); apart = λ i j d lt within. absurd (omega (arith, within)) }
all_cut (es ∷ lists) h =
    let rest = all_cut lists h.1 in
    record {
      some = All-cons (λ xs. 0 < length xs) es lists h.0.some rest.some;
      late = All-cons (λ xs. weight_of_entries (before_last_key xs) < OUTPUT_TARGET) es lists h.0.late rest.late;
      full = AllPairs-cons (λ xs later. OUTPUT_TARGET ≤ weight_of_entries xs) es lists (λ k d lt. h.0.full (some_first lists h.1 k lt)) rest.full;
      apart = AllPairs-cons HasLowerKeys es lists (λ k d lt e f m n. h.0.apart e f m (IsIn-append_left f (all_entries lists) [] (in_all lists k d f lt n))) rest.apart;
    }
