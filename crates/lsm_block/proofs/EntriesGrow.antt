-- Entries in order, one more at the end.
use Rattle.std.proofs.Common.{◌≡◌, ℕ, ◌+◌, ◌-◌, ◌<◌, ◌≤◌, true, List, [], ◌∷◌, ◌++◌, length, get_or, take, Option, Some, None, refl, sym, ap, subst, ◌∙◌, arith, inl, inr}
use Rattle.std.specs.Prelude.{slice_get}
use Rattle.std.specs.List.{AllByRecursion}
use Rattle.std.proofs.lemmas.Bool.{cases_lt}
use Rattle.std.proofs.lemmas.List.{length-append, get_or_append_left, get_or-append-add, take_all, take_more, append-nil, append_assoc}
use Rattle.std.proofs.lemmas.List.Concat.{flat_map-append}
use Rattle.std.proofs.lemmas.Option.{slice_get-get_or}
use Rattle.lsm_key.specs.declared.entry.Entry.{Entry}
use Rattle.lsm_key.specs.Order.{Precedes, IsAscending}
use Rattle.lsm_key.specs.Sets.{IsIn}
use Rattle.lsm_key.specs.Entries.{IsEntry}
use Rattle.lsm_block.specs.Blocks.{HasSequence, AreEntries, entry, entries}
use Rattle.lsm_block.specs.BlockReading.{may_follow, last_of}

pub no_entries : AreEntries []
no_entries = record { each = tt; sequences = tt; ascending = λ i d lt. absurd (omega (arith, lt)) }

-- entries that have bytes are some
pub has_some : (es : List Entry) → 0 < length (entries es) → 0 < length es
has_some [] lt = absurd (omega (arith, lt))
has_some (x ∷ es) lt = omega arith

pub last_at : (x : Entry) (es : List Entry) (d : Entry) → last_of (x ∷ es) ≡ Some (get_or (x ∷ es) (length es) d)
last_at x es d = (let k : length (x ∷ es) - 1 ≡ length es = omega arith in rw k (slice_get-get_or (x ∷ es) (length es) d (omega arith)))

-- the last entry, read by its index
pub last_is : (es : List Entry) (e : Entry) → 0 < length es → e ≡ get_or es (length es - 1) e → last_of es ≡ Some e
last_is es e some is = slice_get-get_or es (length es - 1) e (omega (arith, some)) ∙ ap (λ (x : Entry). Some x) (sym is)

pub last_added : (es : List Entry) (e : Entry) → last_of (es ++ e ∷ []) ≡ Some e
last_added es e =
    let len : length (es ++ e ∷ []) ≡ length es + 1 = length-append es (e ∷ []) in
    let n : length (es ++ e ∷ []) - 1 ≡ length es + 0 = omega (arith, len) in
    last_is (es ++ e ∷ []) e (omega (arith, len)) (sym (ap (λ (i : ℕ). get_or (es ++ e ∷ []) i e) n ∙ get_or-append-add es (e ∷ []) 0 e))

-- ---- one more entry at the end

next_taken : (es : List Entry) (i : ℕ) (e : Entry) → i < length es → e ≡ get_or es i e → take (i + 1) es ≡ take i es ++ e ∷ []
next_taken es i e lt is = take_more es i e lt ∙ ap (λ (x : Entry). take i es ++ x ∷ []) (sym is)

-- a loop that writes entries after a front: the next one stands at the end
pub one_written : (a : List ℕ) (es : List Entry) (i : ℕ) (e : Entry) (old new : List ℕ) → i < length es → e ≡ get_or es i e
    → old ≡ a ++ entries (take i es) → new ≡ old ++ entry e → new ≡ a ++ entries (take (i + 1) es)
one_written a es i e old new lt is before grown =
    let front = entries (take i es) in
    let more : entries (take (i + 1) es) ≡ front ++ entry e = ap (λ (xs : List Entry). entries xs) (next_taken es i e lt is) ∙ flat_map-append entry (take i es) (e ∷ []) ∙ ap (λ (bytes : List ℕ). front ++ bytes) (append-nil (entry e)) in
    grown
    ∙ ap (λ (bytes : List ℕ). bytes ++ entry e) before
    ∙ append_assoc a front (entry e)
    ∙ ap (λ (bytes : List ℕ). a ++ bytes) (sym more)

module _ (P : Entry → Type 0) where
  pub each_push : (es : List Entry) (e : Entry) → AllByRecursion P es → P e → AllByRecursion P (es ++ e ∷ [])
  each_push [] e h one = (one, tt)
  each_push (x ∷ es) e h one = (h.0, each_push es e h.1 one)

  pub each_rest : (es more : List Entry) → AllByRecursion P (es ++ more) → AllByRecursion P more
  each_rest [] more h = h
  each_rest (x ∷ es) more h = each_rest es more h.1

  pub each_more : (es : List Entry) (i : ℕ) (e : Entry) → i < length es → e ≡ get_or es i e → AllByRecursion P (take i es) → P e → AllByRecursion P (take (i + 1) es)
  each_more es i e lt is h one = subst (AllByRecursion P) (sym (next_taken es i e lt is)) (each_push (take i es) e h one)

  -- so many that all are
  pub each_whole : (es : List Entry) (i : ℕ) → length es ≤ i → AllByRecursion P (take i es) → AllByRecursion P es
  each_whole es i past h = subst (AllByRecursion P) (take_all i es past) h

  pub each_from : (es : List Entry) → ((e : Entry) → IsIn e es → P e) → AllByRecursion P es
  each_from [] h = tt
  each_from (x ∷ es) h = (h x (inl refl), each_from es (λ e m. h e (inr m)))

  -- each of them, read as a set
  pub each_in : (es : List Entry) (e : Entry) → AllByRecursion P es → IsIn e es → P e
  each_in [] e h m = absurd m
  each_in (x ∷ es) e h m = elim m [ inl same ↦ subst P (sym same) h.0 | inr later ↦ each_in es e h.1 later ]

last_precedes : (l : Option Entry) (d e : Entry) → l ≡ Some d → may_follow l e ≡ true → Precedes d e
last_precedes None d e is h = absurd cc
last_precedes (Some l) d e is h = let same : l ≡ d = cc in subst (λ (x : Entry). Precedes x e) same h

ascending_push : (es : List Entry) (e : Entry) → IsAscending es → may_follow (last_of es) e ≡ true → IsAscending (es ++ e ∷ [])
ascending_push es e up after i d lt =
    let len : length (es ++ e ∷ []) ≡ length es + 1 = length-append es (e ∷ []) in
    elim (cases_lt (i + 1) (length es)) [
      | inl inside ↦ rw (get_or_append_left es (e ∷ []) d i (omega (arith, inside)), get_or_append_left es (e ∷ []) d (i + 1) inside) (up i d inside)
      | inr outside ↦
          let at_end : i + 1 ≡ length es = omega (arith, outside, len, lt) in
          let within : i < length es = omega (arith, at_end) in
          let last_is : slice_get es (length es - 1) ≡ Some (get_or es i d) = (let k : length es - 1 ≡ i = omega (arith, at_end) in rw k (slice_get-get_or es i d within)) in
          let new_is : get_or (es ++ e ∷ []) (i + 1) d ≡ e = (let k : i + 1 ≡ length es + 0 = omega (arith, at_end) in rw k (get_or-append-add es (e ∷ []) 0 d)) in
          rw (get_or_append_left es (e ∷ []) d i within, new_is) (last_precedes (slice_get es (length es - 1)) (get_or es i d) e last_is after)
    ]

pub one_more : (es : List Entry) (e : Entry) → AreEntries es → IsEntry e → HasSequence e → may_follow (last_of es) e ≡ true → AreEntries (es ++ e ∷ [])
one_more es e sound one sequence after = record { each = each_push IsEntry es e sound.each one; sequences = each_push HasSequence es e sound.sequences sequence; ascending = ascending_push es e sound.ascending after }

-- the entry after those in front may follow
pub follows : (es : List Entry) (x : Entry) (more : List Entry) → IsAscending (es ++ x ∷ more) → may_follow (last_of es) x ≡ true
follows [] x more up = refl
follows (e ∷ es) x more up =
    let n : ℕ = length es in
    let whole : List Entry = (e ∷ es) ++ x ∷ more in
    let len : length whole ≡ length (e ∷ es) + length (x ∷ more) = length-append (e ∷ es) (x ∷ more) in
    let step : Precedes (get_or whole n x) (get_or whole (n + 1) x) = up n x (omega (arith, len)) in
    let here : get_or whole (n + 1) x ≡ x = (let k : n + 1 ≡ length (e ∷ es) + 0 = omega arith in rw k (get_or-append-add (e ∷ es) (x ∷ more) 0 x)) in
    let last_is : slice_get (e ∷ es) (length (e ∷ es) - 1) ≡ Some (get_or whole n x) = (let k : length (e ∷ es) - 1 ≡ n = omega arith in rw (k, get_or_append_left (e ∷ es) (x ∷ more) x n (omega arith)) (slice_get-get_or (e ∷ es) n x (omega arith))) in
    rw last_is (subst (λ (y : Entry). Precedes (get_or whole n x) y) here step)
