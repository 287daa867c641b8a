-- The entries of a range, among entries in order: those after the place where it begins, up to the first whose key is not below its end.
use Rattle.std.proofs.Common.{◌≡◌, ℕ, Bool, true, false, cond, not, ◌&&◌, List, [], ◌∷◌, ◌++◌, refl, sym, ap, subst, ◌∙◌, inl, inr}
use Rattle.std.specs.List.{filter, AllByRecursion}
use Rattle.std.proofs.lemmas.Bool.{false≢true}
use Rattle.lsm_key.specs.declared.entry.Entry.{Entry}
use Rattle.lsm_key.specs.Order.{IsAscending, key_le, is_between}
use Rattle.lsm_key.specs.Sets.{IsIn}
use Rattle.lsm_key.proofs.AscendingEntries.{Falls, ascending_falls}
use Rattle.lsm_key.proofs.RangeSlices.{before_smaller, filter_alike, not_before}
use Rattle.lsm_block.specs.Blocks.{AreEntries}
use Rattle.lsm_block.specs.Ranges.{is_below, StartsFrom, IsLowerPlace}
use Rattle.lsm_block.proofs.EntriesGrow.{each_from}
use Rattle.lsm_block.proofs.FencedSpans.{sound_rest}

-- ---- what a test keeps

module _ {X : Type 0} (p : X → Bool) where
  none_kept : (xs : List X) → AllByRecursion (λ x. p x ≡ false) xs → filter p xs ≡ []
  none_kept [] h = refl
  none_kept (x ∷ xs) h = ap (λ (b : Bool). cond b (x ∷ filter p xs) (filter p xs)) h.0 ∙ none_kept xs h.1

  all_kept : (xs : List X) → AllByRecursion (λ x. p x ≡ false) xs → filter (λ x. not (p x)) xs ≡ xs
  all_kept [] h = refl
  all_kept (x ∷ xs) h = ap (λ (b : Bool). cond (not b) (x ∷ filter (λ y. not (p y)) xs) (filter (λ y. not (p y)) xs)) h.0 ∙ ap (λ ys. x ∷ ys) (all_kept xs h.1)

  -- what stands before the range is left out
  later_kept : (xs ys : List X) → AllByRecursion (λ x. p x ≡ true) xs → filter (λ x. not (p x)) (xs ++ ys) ≡ filter (λ x. not (p x)) ys
  later_kept [] ys h = refl
  later_kept (x ∷ xs) ys h = ap (λ (b : Bool). cond (not b) (x ∷ filter (λ y. not (p y)) (xs ++ ys)) (filter (λ y. not (p y)) (xs ++ ys))) h.0 ∙ later_kept xs ys h.1

  both_kept : (q : X → Bool) (xs ys : List X) → AllByRecursion (λ x. p x ≡ true) xs → AllByRecursion (λ x. p x ≡ false) ys → filter (λ x. not (p x) && q x) (xs ++ ys) ≡ filter q ys
  both_kept q [] [] h k = refl
  both_kept q [] (y ∷ ys) h k = λ i. cond (not (k.0 i) && q y) (y ∷ both_kept q [] ys tt k.1 i) (both_kept q [] ys tt k.1 i)
  both_kept q (x ∷ xs) ys h k = ap (λ (b : Bool). cond (not b && q x) (x ∷ filter (λ z. not (p z) && q z) (xs ++ ys)) (filter (λ z. not (p z) && q z) (xs ++ ys))) h.0 ∙ both_kept q xs ys h.1 k

-- ---- entries in order

-- no key after one that is not below another is below it
stays : (e : Entry) (es : List Entry) (key : List ℕ) → Falls (e ∷ es) → is_below key e ≡ false → (f : Entry) → IsIn f (e ∷ es) → is_below key f ≡ false
stays e es key falls stop f (inl same) = ap (is_below key) same ∙ stop
stays e es key falls stop f (inr later) = by (is_below key f) refl
  where
    by : (b : Bool) → is_below key f ≡ b → b ≡ false
    by false h = refl
    by true h = absurd (false≢true (sym stop ∙ before_smaller e.ikey.key e.ikey.seq f.ikey.key f.ikey.seq key (falls.0 f later) h))

all_stay : (es : List Entry) (key : List ℕ) → IsAscending es → StartsFrom key es → AllByRecursion (λ e. is_below key e ≡ false) es
all_stay [] key up stop = tt
all_stay (e ∷ es) key up stop = each_from (λ f. is_below key f ≡ false) (e ∷ es) (stays e es key (ascending_falls (e ∷ es) up) stop)

-- none is in the range from one on whose key is not below its end
pub none_left : (es : List Entry) (hi : List ℕ) → IsAscending es → StartsFrom hi es → filter (is_below hi) es ≡ []
none_left es hi up stop = none_kept (is_below hi) es (all_stay es hi up stop)

module _ (es : List Entry) (lo : List ℕ) (place : ℕ) (sound : AreEntries es) (l : IsLowerPlace es lo place) where
  after : AllByRecursion (λ e. is_below lo e ≡ false) l.skips.more
  after = all_stay l.skips.more lo (sound_rest l.skips.before l.skips.more (subst AreEntries l.skips.parts sound)).ascending l.stops

  pub from_place : filter (λ e. key_le lo e.ikey.key) es ≡ l.skips.more
  from_place =
      filter_alike (λ e. key_le lo e.ikey.key) (λ e. not (is_below lo e)) (λ e. not_before lo e.ikey.key) es
      ∙ ap (filter (λ e. not (is_below lo e))) l.skips.parts
      ∙ later_kept (is_below lo) l.skips.before l.skips.more l.skips.below
      ∙ all_kept (is_below lo) l.skips.more after

  pub between_place : (hi : List ℕ) → filter (is_between lo hi) es ≡ filter (is_below hi) l.skips.more
  between_place hi =
      filter_alike (is_between lo hi) (λ e. not (is_below lo e) && is_below hi e) (λ e. ap (λ (b : Bool). b && is_below hi e) (not_before lo e.ikey.key)) es
      ∙ ap (filter (λ e. not (is_below lo e) && is_below hi e)) l.skips.parts
      ∙ both_kept (is_below lo) (is_below hi) l.skips.before l.skips.more l.skips.below after
