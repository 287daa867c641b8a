-- What a walk over the bytes of a block has found so far.
use Rattle.std.proofs.Common.{◌≡◌, ℕ, ◌+◌, ◌-◌, ◌<◌, ◌≤◌, Bool, true, cond, List, [], ◌∷◌, ◌++◌, length, drop, Option, Some, None, Result, Ok, Err, refl, sym, ap, subst, ◌∙◌, append_assoc, arith, inl, inr}
use Rattle.std.specs.Prelude.{MatchOption, OnOk, slice_index}
use Rattle.std.specs.Ordering.{is_lt}
use Rattle.std.proofs.lemmas.Bool.{cases_lt}
use Rattle.std.proofs.Math.Seq.{get_or-append_seam}
use Rattle.std.proofs.lemmas.List.{length-append, append-nil, get_or_append_left, nil_from_length, take-append-drop}
use Rattle.std.proofs.lemmas.List.Concat.{flat_map-append}
use Rattle.lsm_key.specs.declared.entry.Entry.{Entry}
use Rattle.lsm_key.specs.declared.limits.TheConstants.{MAX_KEY_BYTES}
use Rattle.lsm_key.specs.Order.{place_cmp}
use Rattle.lsm_key.specs.Prefix.{prefix_of}
use Rattle.lsm_block.specs.Blocks.{entry, entries}
use Rattle.lsm_block.specs.BlockReading.{last_of, may_follow, entry_within, next_at, entries_at}
use Rattle.lsm_block.specs.declared.fault.BlockFault.{BlockFault}
use Rattle.lsm_block.specs.declared.fault.BlockFault.TheVariants.{OutOfOrder}
use Rattle.lsm_block.specs.Fences.{AreFences, IsFence}
use Rattle.lsm_block.specs.Indexed.{IsLastAt, IsLastKey, IsReadTo, entries_before}
use Rattle.lsm_block.specs.Spans.{IsSpan}
use Rattle.lsm_block.specs.declared.indexing.Indexed.{Indexed}
use Rattle.lsm_block.proofs.BlockFields.{entry_takes}
use Rattle.lsm_block.proofs.EntriesGrow.{last_added}
use Rattle.lsm_block.proofs.BlockRuns.{ReadSoFar, starts, faulty, goes_on, next_takes, as_long}
use Rattle.lsm_key.specs.declared.refused.Refused.TheVariants.{Fault}
use Rattle.lsm_key.proofs.FieldLaws.{IsBytes, IsBytes-drop}

pub on_ok_from : {A E P Q : Type 0} (r : Result A E) → (P → Q) → OnOk r P → OnOk r Q
on_ok_from (Ok x) f h = f h
on_ok_from (Err e) f h = tt

-- ---- the order

-- before any key stands the empty one
empty_before : (key : List ℕ) (s t : ℕ) → 0 < length key → is_lt (place_cmp [] s key t) ≡ true
empty_before [] s t some = absurd (omega (arith, some))
empty_before (b ∷ key) s t some = refl

-- what a comparison with the last key says
pub may_follow_key : (es : List Entry) (key : List ℕ) (seq : ℕ) (e : Entry) → IsLastKey es key seq → 0 < length e.ikey.key → may_follow (last_of es) e ≡ is_lt (place_cmp key seq e.ikey.key e.ikey.seq)
may_follow_key es key seq e is some = by (last_of es) is
  where
    by : (o : Option Entry) → MatchOption o (key ≡ []) (λ l. (l.ikey.key ≡ key) × (l.ikey.seq ≡ seq)) → may_follow o e ≡ is_lt (place_cmp key seq e.ikey.key e.ikey.seq)
    by None empty = sym (ap (λ (k : List ℕ). is_lt (place_cmp k seq e.ikey.key e.ikey.seq)) empty ∙ empty_before e.ikey.key seq e.ikey.seq some)
    by (Some l) own = λ i. is_lt (place_cmp (own.0 i) (own.1 i) e.ikey.key e.ikey.seq)

-- the entry in front is the next one if it comes after the last key
pub next_read : (limit : ℕ) → limit ≤ MAX_KEY_BYTES → (es : List Entry) (key : List ℕ) (seq : ℕ) (rest : List ℕ) (e : Entry) (after : List ℕ) (b : Bool) → IsBytes rest → IsLastKey es key seq → entry_within limit rest ≡ Ok (e, after)
    → is_lt (place_cmp key seq e.ikey.key e.ikey.seq) ≡ b → next_at limit es rest ≡ cond b (Ok (e, after)) (Err OutOfOrder)
unfolding next_at
next_read limit le es key seq rest e after b fits is read h =
    let one = (entry_takes limit le rest (e, after) fits read).1 in
    let follows : may_follow (last_of es) e ≡ b = may_follow_key es key seq e is (omega (arith, one.key.0)) ∙ h in
    rw (read, follows) refl

pub next_faulty : (limit : ℕ) (es : List Entry) (rest : List ℕ) (f : BlockFault) → entry_within limit rest ≡ Err f → next_at limit es rest ≡ Err f
unfolding next_at
next_faulty limit es rest f h = rw h refl

-- ---- fences

-- of no entries
pub no_fences : (front : List ℕ) → AreFences front [] [] []
no_fences front = record { counted = refl; paired = refl; each = λ i lt. absurd (omega (arith, lt)) }

-- one more entry, with its fence
module _ (front : List ℕ) (es : List Entry) (prefixes places : List ℕ) (are : AreFences front es prefixes places) (e : Entry) (place : ℕ) (at_end : place ≡ length (entries es)) where
  fence_stays : (i n at : ℕ) → IsFence front es i n at → IsFence front (es ++ e ∷ []) i n at
  fence_stays i n at f = record {
    before = f.before;
    first = f.first;
    more = f.more ++ e ∷ [];
    parts = ap (λ (xs : List Entry). xs ++ e ∷ []) f.parts ∙ append_assoc f.before (f.first ∷ f.more) (e ∷ []);
    numbered = f.numbered;
    begins = f.begins;
    prefixed = f.prefixed;
  }

  abbrev n : ℕ
  n = prefix_of front e.ikey.key

  added : IsFence front (es ++ e ∷ []) (length es) n place
  added = record { before = es; first = e; more = []; parts = refl; numbered = refl; begins = at_end; prefixed = refl }

  each : (i : ℕ) → i < length (prefixes ++ n ∷ []) → IsFence front (es ++ e ∷ []) i (slice_index (prefixes ++ n ∷ []) i) (slice_index (places ++ place ∷ []) i)
  each i lt = elim (cases_lt i (length prefixes)) [
    | inl within ↦
        let other : i < length places = omega (arith, within, are.paired) in
        rw (get_or_append_left prefixes (n ∷ []) 0 i within, get_or_append_left places (place ∷ []) 0 i other) (fence_stays i (slice_index prefixes i) (slice_index places i) (are.each i within))
    | inr past ↦
        let here : i ≡ length prefixes = omega (arith, past, lt, length-append prefixes (n ∷ [])) in
        let there : i ≡ length places = omega (arith, here, are.paired) in
        let last : i ≡ length es = omega (arith, here, are.counted) in
        let p : slice_index (prefixes ++ n ∷ []) i ≡ n = ap (slice_index (prefixes ++ n ∷ [])) here ∙ get_or-append_seam prefixes n [] 0 in
        let q : slice_index (places ++ place ∷ []) i ≡ place = ap (slice_index (places ++ place ∷ [])) there ∙ get_or-append_seam places place [] 0 in
        rw (p, q) (subst (λ (m : ℕ). IsFence front (es ++ e ∷ []) m n place) (sym last) added)
  ]

  pub fence_added : AreFences front (es ++ e ∷ []) (prefixes ++ prefix_of front e.ikey.key ∷ []) (places ++ place ∷ [])
  fence_added = record {
    counted = omega (arith, are.counted, length-append prefixes (n ∷ []), length-append es (e ∷ []));
    paired = omega (arith, are.paired, length-append prefixes (n ∷ []), length-append places (place ∷ []));
    each = each;
  }

-- ---- the walk

-- entries read so far, the key of the last, their count and fences
pub record Walked (limit : ℕ) (given : Result (List Entry) BlockFault) (bytes : List ℕ) (es : List Entry) (rest key : List ℕ) (seq : ℕ) (front prefixes places : List ℕ) (count : ℕ) : Type 0 where
  pub so_far : ReadSoFar limit given es rest
  pub parts : bytes ≡ entries es ++ rest
  pub last : IsLastKey es key seq
  pub fenced : AreFences front es prefixes places
  pub counted : count ≡ length es
  pub few : length es ≤ length (entries es)

-- what was found before the place where the walk begins
pub walk_starts : (limit : ℕ) (bytes : List ℕ) (begin : ℕ) (found : Indexed) (key : List ℕ) (seq : ℕ) → IsBytes bytes → IsReadTo bytes begin found → IsLastKey (entries_before bytes begin) key seq
    → Walked limit (entries_at limit (length (drop begin bytes) + 1) (entries_before bytes begin) (drop begin bytes)) bytes (entries_before bytes begin) (drop begin bytes) key seq found.fences.front found.fences.prefixes.items found.fences.places.items found.count
walk_starts limit bytes begin found key seq fits known last =
    let es = entries_before bytes begin in
    record {
      so_far = starts limit es (drop begin bytes) known.span.sound (IsBytes-drop begin bytes fits);
      parts = sym (take-append-drop begin bytes) ∙ ap (λ (b : List ℕ). b ++ drop begin bytes) known.span.spelled;
      last = last;
      fenced = known.index.fenced;
      counted = known.index.counted;
      few = as_long es;
    }

module _ (limit : ℕ) (le : limit ≤ MAX_KEY_BYTES) (given : Result (List Entry) BlockFault) (bytes : List ℕ) (es : List Entry) (rest key : List ℕ) (seq : ℕ) (front prefixes places : List ℕ) (count : ℕ) (w : Walked limit given bytes es rest key seq front prefixes places count) where
  pub place_is : length bytes - length rest ≡ length (entries es)
  place_is = omega (arith, ap length w.parts, length-append (entries es) rest)

  pub walk_fails : (f : BlockFault) → next_at limit es rest ≡ Err f → given ≡ Err f
  walk_fails f h = faulty limit given es rest (Fault f) w.so_far h

  module _ (e : Entry) (after : List ℕ) (read : next_at limit es rest ≡ Ok (e, after)) where
    pub walk_shortens : length after < length rest
    walk_shortens = (goes_on limit le given es rest e after w.so_far read).0

    -- so many entries are no more than the bytes
    pub count_fits : count + 1 ≤ length bytes
    count_fits = omega (arith, walk_shortens, w.counted, w.few, ap length w.parts, length-append (entries es) rest)

    split : bytes ≡ entries (es ++ e ∷ []) ++ after
    split =
        let takes = (next_takes limit le es rest (e, after) w.so_far.fits w.so_far.sound read).0 in
        let more_is : entries (es ++ e ∷ []) ≡ entries es ++ entry e = flat_map-append entry es (e ∷ []) ∙ ap (λ (b : List ℕ). entries es ++ b) (append-nil (entry e)) in
        w.parts ∙ ap (λ (b : List ℕ). entries es ++ b) takes.parts ∙ sym (append_assoc (entries es) (entry e) after) ∙ ap (λ (b : List ℕ). b ++ after) (sym more_is)

    module _ (others : List ℕ) (more : List ℕ) (ahead : List ℕ) (fenced : AreFences others (es ++ e ∷ []) more ahead) where
      pub walk_goes_on : (length after ≡ 0 → ⊥) → Walked limit given bytes (es ++ e ∷ []) after e.ikey.key e.ikey.seq others more ahead (count + 1)
      walk_goes_on some = record {
        so_far = (goes_on limit le given es rest e after w.so_far read).2 some;
        parts = split;
        last = rw (last_added es e) (refl, refl);
        fenced = fenced;
        counted = omega (arith, w.counted, length-append es (e ∷ []));
        few = as_long (es ++ e ∷ []);
      }

      pub walk_ends : length after ≡ 0 → (given ≡ Ok (es ++ e ∷ [])) × IsSpan bytes (es ++ e ∷ [])
      walk_ends none = (
        (goes_on limit le given es rest e after w.so_far read).3 none,
        record {
          sound = (goes_on limit le given es rest e after w.so_far read).1;
          spelled = split ∙ ap (λ (b : List ℕ). entries (es ++ e ∷ []) ++ b) (nil_from_length after none) ∙ append-nil (entries (es ++ e ∷ []));
        },
      )

      pub counted_more : count + 1 ≡ length (es ++ e ∷ [])
      counted_more = omega (arith, w.counted, length-append es (e ∷ []))

      pub last_there : IsLastAt (es ++ e ∷ []) (length bytes - length rest)
      last_there = record { before = es; last = e; parts = refl; begins = place_is }
