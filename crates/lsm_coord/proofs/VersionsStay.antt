-- Versions stay once they are there, and so do the writes that they hold.
use Rattle.std.proofs.Common.{◌≡◌, ℕ, zero, suc, ◌-◌, ◌≤◌, ◌<◌, List, [], ◌∷◌, ◌++◌, Option, None, Some, refl, sym, ap, ◌∙◌, inl, inr, arith, length, take, get_or, length-append}
use Rattle.std.specs.List.{slice_get}
use Rattle.std.specs.Option.{unwrap_or}
use Rattle.std.proofs.Math.Seq.{get_or-append_seam}
use Rattle.std.proofs.lemmas.List.{take-append-le}
use Rattle.std.proofs.lemmas.Option.{same_Some, slice_get_within, slice_get-get_or}
use Rattle.lsm_key.proofs.Lists.{slice_get-front}
use Rattle.lsm_versions.proofs.GrownLists.{at_grown}
use Rattle.lsm_coord.specs.Model.State.{State, Version, empty_version, first_state}
use Rattle.lsm_coord.specs.Model.Event.{Event, Reply}
use Rattle.lsm_coord.specs.Model.Run.{Run}
use Rattle.lsm_coord.proofs.StepEffects.{Effect, stays, wrote, froze, flushed, versioned, effect}

-- ---- lists of versions

-- the flushed sequence of the last one
abbrev pub tip : List Version → ℕ
tip vs = (get_or vs (length vs - 1) empty_version).flushed

pub tip-grown : (vs : List Version) (v : Version) → tip (vs ++ v ∷ []) ≡ v.flushed
tip-grown vs v =
    let e : length (vs ++ v ∷ []) - 1 ≡ length vs = omega (arith, length-append vs (v ∷ [])) in
    ap (λ i. (get_or (vs ++ v ∷ []) i empty_version).flushed) e ∙ ap (λ (x : Version). x.flushed) (get_or-append_seam vs v [] empty_version)

abbrev pub IsRising : List Version → Type 0
IsRising vs = (m n : ℕ) (v w : Version) → m ≤ n → slice_get vs m ≡ Some v → slice_get vs n ≡ Some w → v.flushed ≤ w.flushed

pub below_tip : (vs : List Version) (n : ℕ) (v : Version) → IsRising vs → slice_get vs n ≡ Some v → v.flushed ≤ tip vs
below_tip vs n v rising h =
    let i : n < length vs = slice_get_within vs n v h in
    rising n (length vs - 1) v (get_or vs (length vs - 1) empty_version) (omega arith) h (slice_get-get_or vs (length vs - 1) empty_version (omega arith))

rising-grown : (vs : List Version) (x : Version) → IsRising vs → tip vs ≤ x.flushed → IsRising (vs ++ x ∷ [])
rising-grown vs x rising up m n v w le a b =
    elim (at_grown vs x n w b) [
      | inl inside ↦ elim (at_grown vs x m v a) [
        | inl also ↦ rising m n v w le also inside
        | inr outside ↦ let i = slice_get_within vs n w inside in absurd (omega (arith, outside.0))
      ]
      | inr added ↦ elim (at_grown vs x m v a) [
        | inl inside ↦ let i = below_tip vs m v rising inside in let e = ap (λ (y : Version). y.flushed) added.1 in omega arith
        | inr same ↦ let e = ap (λ (y : Version). y.flushed) added.1 in let f = ap (λ (y : Version). y.flushed) same.1 in omega arith
      ]
    ]

-- ---- what each state of a run of a new store has

pub record Sound (n : ℕ) (vs : List Version) (frozen : Option ℕ) : Type 0 where
  pub rising : IsRising vs
  pub within : tip vs ≤ n
  pub between : (z : ℕ) → frozen ≡ Some z → (tip vs ≤ z) × (z ≤ n)

abbrev pub IsSound : State → Type 0
IsSound s = Sound (length s.writes) s.versions s.frozen

no_frozen : (lo hi z : ℕ) → None ≡ Some z → (lo ≤ z) × (z ≤ hi)
no_frozen lo hi z h = absurd cc

longer : (n m : ℕ) (vs : List Version) (frozen : Option ℕ) → n ≤ m → Sound n vs frozen → Sound m vs frozen
longer n m vs frozen le x = record { rising = x.rising; within = let w = x.within in omega arith; between = λ z h. let b = x.between z h in (b.0, omega (arith, b.1)) }

frozen_now : (n : ℕ) (vs : List Version) (frozen : Option ℕ) → Sound n vs frozen → Sound n vs (Some n)
frozen_now n vs frozen x = record { rising = x.rising; within = x.within; between = λ z h. let e = same_Some n z h in let w = x.within in (omega arith, omega arith) }

with_flushed : (n : ℕ) (vs : List Version) (frozen : Option ℕ) (v : Version) → v.flushed ≡ unwrap_or frozen n → Sound n vs frozen → Sound n (vs ++ v ∷ []) None
with_flushed n vs None v e x =
    let w = x.within in
    record { rising = rising-grown vs v x.rising (omega arith); within = omega (arith, tip-grown vs v); between = no_frozen _ _ }
with_flushed n vs (Some z) v e x =
    let b = x.between z refl in
    record { rising = rising-grown vs v x.rising (omega (arith, b.0)); within = omega (arith, tip-grown vs v, b.1); between = no_frozen _ _ }

with_same : (n : ℕ) (vs : List Version) (frozen : Option ℕ) (v : Version) → v.flushed ≡ tip vs → Sound n vs frozen → Sound n (vs ++ v ∷ []) frozen
with_same n vs frozen v e x = record {
  rising = rising-grown vs v x.rising (omega arith);
  within = let w = x.within in omega (arith, tip-grown vs v);
  between = λ z h. let b = x.between z h in (omega (arith, tip-grown vs v, b.0), b.1);
}

pub step_sound : (s : State) (e : Event) (t : State) → Effect s e t → IsSound s → IsSound t
step_sound s e t (stays a b c) x = rw (a, b, c) x
step_sound s e t (wrote ops k a b c) x = rw (a, b, c) (longer (length s.writes) (length (s.writes ++ ops)) s.versions s.frozen (omega (arith, length-append s.writes ops)) x)
step_sound s e t (froze a b c) x = rw (a, b, c) (frozen_now (length s.writes) s.versions s.frozen x)
step_sound s e t (flushed v k a b c) x = rw (a, b, c) (with_flushed (length s.writes) s.versions s.frozen v k x)
step_sound s e t (versioned v k a b c) x = rw (a, b, c) (with_same (length s.writes) s.versions s.frozen v k x)

-- ---- what stays

pub step_versions : (s : State) (e : Event) (t : State) → Effect s e t → (n : ℕ) (v : Version) → slice_get s.versions n ≡ Some v → slice_get t.versions n ≡ Some v
step_versions s e t (stays a b c) n v h = rw b h
step_versions s e t (wrote ops k a b c) n v h = rw b h
step_versions s e t (froze a b c) n v h = rw b h
step_versions s e t (flushed x k a b c) n v h = rw b (slice_get-front s.versions (x ∷ []) n v h)
step_versions s e t (versioned x k a b c) n v h = rw b (slice_get-front s.versions (x ∷ []) n v h)

pub run_versions : (s : State) (steps : List (Event × Reply)) (t : State) → Run s steps t → (n : ℕ) (v : Version) → slice_get s.versions n ≡ Some v → slice_get t.versions n ≡ Some v
run_versions s [] t h n v q = rw h q
run_versions s ((e, r) ∷ steps) t h n v q = run_versions h.0 steps t h.2 n v (step_versions s e h.0 (effect s e r h.0 h.1) n v q)

-- the writes up to a flushed sequence stay
pub step_writes : (s : State) (e : Event) (t : State) → Effect s e t → IsSound s → (n : ℕ) (v : Version) → slice_get s.versions n ≡ Some v → take v.flushed t.writes ≡ take v.flushed s.writes
step_writes s e t (stays a b c) x n v h = ap (take v.flushed) a
step_writes s e t (wrote ops k a b c) x n v h = let i = below_tip s.versions n v x.rising h in let w = x.within in ap (take v.flushed) a ∙ take-append-le v.flushed s.writes ops (omega arith)
step_writes s e t (froze a b c) x n v h = ap (take v.flushed) a
step_writes s e t (flushed y k a b c) x n v h = ap (take v.flushed) a
step_writes s e t (versioned y k a b c) x n v h = ap (take v.flushed) a

first_flushed : (n : ℕ) (v : Version) → slice_get first_state.versions n ≡ Some v → v.flushed ≡ 0
first_flushed zero v h = ap (λ (x : Version). x.flushed) (sym (same_Some empty_version v h))
first_flushed (suc zero) v h = ap (λ (x : Version). x.flushed) (sym (same_Some empty_version v h))
first_flushed (suc (suc n)) v h = absurd cc

pub first_sound : IsSound first_state
first_sound = record {
  rising = λ m n v w le a b. let x = first_flushed m v a in omega arith;
  within = omega arith;
  between = no_frozen _ _;
}
