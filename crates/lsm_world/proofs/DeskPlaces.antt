-- The places of a desk after one of them changed, and who holds claims then.
use Rattle.std.proofs.Common.{◌≡◌, ℕ, zero, suc, ◌-◌, ◌<◌, ◌≤◌, List, [], ◌∷◌, Some, length, get_or, refl, sym, ap, subst, ◌∙◌, ◌⊎◌, inl, inr, arith}
use Rattle.std.specs.Prelude.{slice_get, slice_set}
use Rattle.std.proofs.lemmas.Bool.{cases_eq}
use Rattle.std.proofs.lemmas.Option.{same_Some}
use Rattle.lsm_key.specs.Sets.{IsIn}
use Rattle.lsm_claim.specs.declared.job.JobId.{JobId}
use Rattle.lsm_claim.specs.declared.job.LiveJob.{LiveJob}
use Rattle.lsm_claim.specs.Book.{BookValue}
use Rattle.lsm_coord.specs.declared.dispatcher.Dispatcher.{Dispatcher}
use Rattle.lsm_coord.specs.declared.dispatcher.Dispatcher.TheVariants.{Idle, Busy}
use Rattle.lsm_coord.specs.Contract.Desks.{dispatcher_of}
use Rattle.lsm_world.specs.History.{History, HoldsClaim, AreClaims}

-- ---- one element in the place of another

module _ {X : Type 0} where
  pub get_set_here : (xs : List X) (i : ℕ) (x old : X) → slice_get xs i ≡ Some old → slice_get (slice_set xs i x) i ≡ Some x
  get_set_here [] i x old h = absurd cc
  get_set_here (y ∷ xs) zero x old h = refl
  get_set_here (y ∷ xs) (suc i) x old h = get_set_here xs i x old h

  pub get_set_there : (xs : List X) (i j : ℕ) (x : X) → (j ≡ i → ⊥) → slice_get (slice_set xs i x) j ≡ slice_get xs j
  get_set_there [] i j x other = refl
  get_set_there (y ∷ xs) zero zero x other = absurd (other refl)
  get_set_there (y ∷ xs) zero (suc j) x other = refl
  get_set_there (y ∷ xs) (suc i) zero x other = refl
  get_set_there (y ∷ xs) (suc i) (suc j) x other = get_set_there xs i j x (λ same. other (ap suc same))

  -- an element is the new one, or stands at another place
  pub get_set_cases : (xs : List X) (i j : ℕ) (x y : X) → slice_get (slice_set xs i x) j ≡ Some y → ((j ≡ i) × (x ≡ y)) ⊎ ((j ≡ i → ⊥) × (slice_get xs j ≡ Some y))
  get_set_cases xs i j x y h = elim (cases_eq j i) [
    | inl same ↦ inl (same, at_place xs i x y (subst (λ (k : ℕ). slice_get (slice_set xs i x) k ≡ Some y) same h))
    | inr other ↦ inr (other, sym (get_set_there xs i j x other) ∙ h)
  ]
    where
      at_place : (zs : List X) (k : ℕ) (x y : X) → slice_get (slice_set zs k x) k ≡ Some y → x ≡ y
      at_place [] k x y h = absurd cc
      at_place (z ∷ zs) zero x y h = same_Some x y h
      at_place (z ∷ zs) (suc k) x y h = at_place zs k x y h

  pub as_many_after : (xs : List X) (i : ℕ) (x : X) → length (slice_set xs i x) ≡ length xs
  as_many_after [] i x = refl
  as_many_after (y ∷ xs) zero x = refl
  as_many_after (y ∷ xs) (suc i) x = ap suc (as_many_after xs i x)

  -- the last that is put in a place counts
  pub set_again : (xs : List X) (i : ℕ) (x y : X) → slice_set (slice_set xs i x) i y ≡ slice_set xs i y
  set_again [] i x y = refl
  set_again (z ∷ xs) zero x y = refl
  set_again (z ∷ xs) (suc i) x y = ap (λ (ys : List X). z ∷ ys) (set_again xs i x y)

  -- and what was there may be put back
  pub set_back : (xs : List X) (i : ℕ) (x : X) → slice_get xs i ≡ Some x → slice_set xs i x ≡ xs
  set_back [] i x h = refl
  set_back (z ∷ xs) zero x h = ap (λ (y : X). y ∷ xs) (sym (same_Some z x h))
  set_back (z ∷ xs) (suc i) x h = ap (λ (ys : List X). z ∷ ys) (set_back xs i x h)

-- ---- dispatchers

-- one of four is there
pub is_there : (desk : List Dispatcher) (index : ℕ) (d : Dispatcher) → length desk ≡ 4 → index ≤ 4 → dispatcher_of desk index ≡ d → slice_get desk (index - 1) ≡ Some d
is_there desk index d four within is = by desk (index - 1) (omega (arith, four, within)) is
  where
    by : (xs : List Dispatcher) (i : ℕ) → i < length xs → get_or xs i Idle ≡ d → slice_get xs i ≡ Some d
    by [] i lt e = absurd (omega (arith, lt))
    by (x ∷ xs) zero lt e = ap (λ (y : Dispatcher). Some y) e
    by (x ∷ xs) (suc i) lt e = by xs i (omega (arith, lt)) e

-- one that holds a claim is not idle
pub idle_holds_none : (claim : LiveJob) → Idle ≡ Busy claim → ⊥
idle_holds_none claim h = absurd cc

pub same_claim : (claim other : LiveJob) → Busy claim ≡ Busy other → claim ≡ other
same_claim claim other h = cc

-- a place has one dispatcher
pub one_at : {X : Type 0} (xs : List X) (i j : ℕ) (x y : X) → slice_get xs i ≡ Some x → slice_get xs j ≡ Some y → j ≡ i → x ≡ y
one_at xs i j x y a b same = same_Some x y (sym a ∙ subst (λ (k : ℕ). slice_get xs k ≡ Some y) same b)

-- ---- a claim that a dispatcher lets go

-- the live claims are those of before, but for the one of this name
pub record LetsGo (old new : BookValue) (id : JobId) : Type 0 where
  pub epoch : new.epoch ≡ old.epoch
  pub before : (j : LiveJob) → IsIn j new.live → IsIn j old.live
  pub gone : (j : LiveJob) → IsIn j new.live → j.id ≡ id → ⊥
  pub others : (j : LiveJob) → IsIn j old.live → (j.id ≡ id → ⊥) → IsIn j new.live

pub claims_let_go : (h : History) (old new : BookValue) (desk : List Dispatcher) (place : ℕ) (claim : LiveJob) → HoldsClaim desk place claim → LetsGo old new claim.id → AreClaims h old desk → AreClaims h new (slice_set desk place Idle)
claims_let_go h old new desk place claim held lets are = record {
  four = as_many_after desk place Idle ∙ are.four;
  live = λ j m.
      let at = are.live j (lets.before j m) in
      let other : at.0 ≡ place → ⊥ = λ same. lets.gone j m (ap (λ (x : LiveJob). x.id) (sym (same_claim claim j (one_at desk place at.0 (Busy claim) (Busy j) held at.1 same)))) in
      (at.0, get_set_there desk place at.0 Idle other ∙ at.1);
  current = λ p j now same. elim (get_set_cases desk place p Idle (Busy j) now) [
    | inl here ↦ absurd (idle_holds_none j here.1)
    | inr there ↦ lets.others j (are.current p j there.1 (same ∙ lets.epoch)) (λ named. there.0 (are.one p place j claim there.1 held named))
  ];
  picked = λ p j now. are.picked p j (held_before p j now);
  one = λ a b j k x y. are.one a b j k (held_before a j x) (held_before b k y);
}
  where
    held_before : (p : ℕ) (j : LiveJob) → HoldsClaim (slice_set desk place Idle) p j → HoldsClaim desk p j
    held_before p j now = elim (get_set_cases desk place p Idle (Busy j) now) [ inl here ↦ absurd (idle_holds_none j here.1) | inr there ↦ there.1 ]
