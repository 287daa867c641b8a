-- The entries of a key are found at the first fence of its prefix.
use Rattle.std.proofs.Common.{◌≡◌, ◌≢◌, ℕ, suc, ◌+◌, ◌-◌, ◌<◌, ◌≤◌, Bool, true, false, List, [], ◌∷◌, ◌++◌, length, get_or, None, refl, sym, ap, subst, ◌∙◌, arith, inl, inr}
use Rattle.std.specs.Prelude.{slice_index}
use Rattle.std.specs.Bool.{nat_lt}
use Rattle.std.specs.Ordering.{is_lt}
use Rattle.std.specs.List.{All}
use Rattle.std.specs.List.Sorted.{IsNonDecreasing, IsPartitionPoint, IsPartitionedBy}
use Rattle.std.proofs.lemmas.Bool.{cases_lt, lt-ltb, ltb-true, ltb-false}
use Rattle.std.proofs.lemmas.Cmp.{tied_itself, nat_list_cmp_total}
use Rattle.std.proofs.lemmas.List.{get_or-append-add, get_or_append_left, get_or_default, length-append}
use Rattle.std.proofs.lemmas.List.Concat.{flat_map-append}
use Rattle.lsm_key.specs.declared.entry.Entry.{Entry}
use Rattle.lsm_key.specs.Order.{Precedes, key_lt}
use Rattle.lsm_key.specs.Prefix.{prefix_of}
use Rattle.lsm_key.specs.Visible.{is_seen, visible, newer}
use Rattle.lsm_key.proofs.EntryOrder.{far}
use Rattle.lsm_key.proofs.FieldLaws.{IsBytes}
use Rattle.lsm_key.proofs.LatestOfList.{is_seen-key, visible-append}
use Rattle.lsm_key.proofs.PrefixOrder.{prefix_before}
use Rattle.lsm_key.proofs.RangeSlices.{before_smaller}
use Rattle.lsm_block.specs.Blocks.{entry, entries}
use Rattle.lsm_block.specs.Fences.{AreFences, IsFence, IsFirstFence}
use Rattle.lsm_block.specs.Spans.{IsSpan}
use Rattle.lsm_block.proofs.FencedSpans.{Begins, rest_span}
use Rattle.lsm_block.proofs.HandleParts.{key_fits}

-- ---- entries of other prefixes

not_seen : (front : List ℕ) (e : Entry) (key : List ℕ) (at : ℕ) → prefix_of front e.ikey.key ≢ prefix_of front key → (b : Bool) → is_seen key at e ≡ b → b ≡ false
not_seen front e key at other false h = refl
not_seen front e key at other true h = absurd (other (ap (prefix_of front) (is_seen-key key at e h)))

unseen : (front : List ℕ) (xs : List Entry) (key : List ℕ) (at : ℕ) → ((k : ℕ) (d : Entry) → k < length xs → prefix_of front (get_or xs k d).ikey.key ≢ prefix_of front key) → visible xs key at ≡ None
unseen front [] key at others = refl
unseen front (x ∷ xs) key at others =
    rw (not_seen front x key at (others 0 x (omega arith)) (is_seen key at x) refl) (unseen front xs key at (λ k d lt. others (suc k) d (omega (arith, lt))))

-- ---- the entry of a fence

fence_entry : (front : List ℕ) (es : List Entry) (i n place : ℕ) (f : IsFence front es i n place) (d : Entry) → get_or es i d ≡ f.first
fence_entry front es i n place f d =
    let k : i ≡ length f.before + 0 = omega (arith, f.numbered) in
    ap (λ (xs : List Entry). get_or xs i d) f.parts ∙ ap (λ (j : ℕ). get_or (f.before ++ f.first ∷ f.more) j d) k ∙ get_or-append-add f.before (f.first ∷ f.more) 0 d

module _ (front bytes prefixes places : List ℕ) (es : List Entry) (span : IsSpan bytes es) (fenced : AreFences front es prefixes places) where
  pub prefix_at : (i : ℕ) (d : Entry) → i < length prefixes → slice_index prefixes i ≡ prefix_of front (get_or es i d).ikey.key
  prefix_at i d lt =
      let f = fenced.each i lt in
      f.prefixed ∙ ap (λ (e : Entry). prefix_of front e.ikey.key) (sym (fence_entry front es i (slice_index prefixes i) (slice_index places i) f d))

  -- the same of an entry before that of a fence
  pub before_at : (i : ℕ) (lt : i < length prefixes) (k : ℕ) (d : Entry) → k < length (fenced.each i lt).before → slice_index prefixes k ≡ prefix_of front (get_or (fenced.each i lt).before k d).ikey.key
  before_at i lt k d less =
      let f = fenced.each i lt in
      let own : get_or es k d ≡ get_or f.before k d = ap (λ (xs : List Entry). get_or xs k d) f.parts ∙ get_or_append_left f.before (f.first ∷ f.more) d k less in
      prefix_at k d (omega (arith, less, f.numbered, lt)) ∙ ap (λ (e : Entry). prefix_of front e.ikey.key) own

  module _ (fits : IsBytes bytes) where
    -- an entry of a smaller prefix does not come later
    ascends : (i j : ℕ) → i < j → j < length prefixes → slice_index prefixes j < slice_index prefixes i → ⊥
    ascends i j before lt less =
        let f = fenced.each i (omega (arith, before, lt)) in
        let g = fenced.each j lt in
        let x = f.first in
        let y = g.first in
        let here : get_or es i x ≡ x = fence_entry front es i (slice_index prefixes i) (slice_index places i) f x in
        let there : get_or es j x ≡ y = fence_entry front es j (slice_index prefixes j) (slice_index places j) g x in
        let gap : j ≡ i + 1 + (j - (i + 1)) = omega (arith, before) in
        let order : Precedes x y = subst (λ (z : Entry). Precedes x z) there (subst (λ (z : Entry). Precedes z (get_or es j x)) here (far es span.sound.ascending (j - (i + 1)) i j x gap (omega (arith, lt, fenced.counted)))) in
        let key_is : IsBytes x.ikey.key = key_fits bytes f.before x f.more fits (span.spelled ∙ ap (λ (xs : List Entry). entries xs) f.parts) in
        let lower : key_lt y.ikey.key x.ikey.key ≡ true = ap is_lt (prefix_before front y.ikey.key x.ikey.key key_is (omega (arith, less, f.prefixed, g.prefixed))) in
        let own : key_lt x.ikey.key x.ikey.key ≡ true = before_smaller x.ikey.key x.ikey.seq y.ikey.key y.ikey.seq x.ikey.key order lower in
        let bad : false ≡ true = sym (ap is_lt (tied_itself nat_list_cmp_total x.ikey.key)) ∙ own in absurd cc

    at_most : (i j : ℕ) → i ≤ j → j < length prefixes → slice_index prefixes i ≤ slice_index prefixes j
    at_most i j le lt = elim (cases_lt (slice_index prefixes j) (slice_index prefixes i)) [
      | inl less ↦ elim (cases_lt i j) [
        | inl before ↦ absurd (ascends i j before lt less)
        | inr past ↦ let same : i ≡ j = omega (arith, le, past) in absurd (omega (arith, less, ap (slice_index prefixes) same))
      ]
      | inr most ↦ omega (arith, most)
    ]

    pub prefixes_ascend : IsNonDecreasing prefixes
    prefixes_ascend i j d le lt =
        let small : i < length prefixes = omega (arith, le, lt) in
        omega (arith, at_most i j le lt, get_or_default prefixes i d 0 small, get_or_default prefixes j d 0 lt)

  -- what begins at the first fence of its prefix shows of the key what all show
  pub first_begins : (key : List ℕ) (at place : ℕ) → IsFirstFence front prefixes places key place → Begins bytes es key at place
  first_begins key at place is =
      let f = fenced.each is.number is.within in
      let begin_is : place ≡ length (entries f.before) = is.begins ∙ f.begins in
      let parted : IsSpan bytes (f.before ++ f.first ∷ f.more) = subst (IsSpan bytes) f.parts span in
      let long : length bytes ≡ length (entries f.before) + length (entries (f.first ∷ f.more)) = ap length (parted.spelled ∙ flat_map-append entry f.before (f.first ∷ f.more)) ∙ length-append (entries f.before) (entries (f.first ∷ f.more)) in
      let others : (k : ℕ) (d : Entry) → k < length f.before → prefix_of front (get_or f.before k d).ikey.key ≢ prefix_of front key = λ k d lt same.
      (let less : slice_index prefixes k < prefix_of front key = is.first k 0 (omega arith) (omega (arith, lt, f.numbered)) in
      omega (arith, less, before_at is.number is.within k d lt, same)) in
      record {
        more = f.first ∷ f.more;
        span = rw begin_is (rest_span bytes f.before (f.first ∷ f.more) parted);
        within = omega (arith, begin_is, long);
        shows = sym (ap (λ (xs : List Entry). visible xs key at) f.parts ∙ visible-append f.before (f.first ∷ f.more) key at ∙ ap (λ o. newer o (visible (f.first ∷ f.more) key at)) (unseen front f.before key at others));
      }

  -- and of a key of another prefix nothing is shown
  pub none_shows : (key : List ℕ) (at : ℕ) → All (λ n. n ≢ prefix_of front key) prefixes → visible es key at ≡ None
  none_shows key at others = unseen front es key at (λ k d lt same.
      let within : k < length prefixes = omega (arith, lt, fenced.counted) in
      others k 0 within (prefix_at k d within ∙ same))

-- ---- the search

pub parted : (prefixes : List ℕ) (p : ℕ) → IsNonDecreasing prefixes → IsPartitionedBy (λ n. nat_lt n p) prefixes
parted prefixes p up i j d le lt less = lt-ltb (get_or prefixes i d) p (let high = ltb-true (get_or prefixes j d) p less in omega (arith, high, up i j d le lt))

pub point_of : (prefixes : List ℕ) (p i : ℕ) → IsPartitionPoint (λ n. nat_lt n p ≡ true) (λ n. nat_lt n p ≡ false) prefixes i → IsPartitionPoint (λ n. n < p) (λ n. p ≤ n) prefixes i
point_of prefixes p i point = (λ k d low high. ltb-true (get_or prefixes k d) p (point.0 k d low high), λ k d low high. ltb-false (get_or prefixes k d) p (point.1 k d low high))

module _ (front prefixes places key : List ℕ) (p i : ℕ) (is : p ≡ prefix_of front key) (point : IsPartitionPoint (λ n. n < p) (λ n. p ≤ n) prefixes i) where
  pub first_found : i < length prefixes → slice_index prefixes i ≡ p → IsFirstFence front prefixes places key (slice_index places i)
  first_found lt same = record {
    number = i;
    within = lt;
    begins = refl;
    prefixed = same ∙ is;
    first = λ k d low high. omega (arith, is, point.0 k d low high);
  }

  pub none_found : IsNonDecreasing prefixes → (i < length prefixes → slice_index prefixes i ≢ p) → All (λ n. n ≢ prefix_of front key) prefixes
  none_found up other k d lt same = elim (cases_lt k i) [
    | inl before ↦ let less = point.0 k d (omega arith) before in omega (arith, less, same, is)
    | inr past ↦
        let within : i < length prefixes = omega (arith, past, lt) in
        let low = point.1 i d (omega arith) within in
        let later = up i k d (omega (arith, past)) lt in
        other within (omega (arith, low, later, same, is, get_or_default prefixes i d 0 within))
  ]
