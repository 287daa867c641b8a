-- Both orders have the same candidates.
use Rattle.std.proofs.Common.{◌≡◌, ℕ, Bool, true, false, cond, ◌&&◌, List, [], ◌∷◌, Option, None, Some, inl, inr, refl, ap, subst, eqb}
use Rattle.std.specs.Bool.{beq}
use Rattle.std.specs.List.{flat_map}
use Rattle.std.proofs.lemmas.Bool.{and_parts, and_from, eq-eqb, eqb-true}
use Rattle.lsm_key.specs.Order.{key_lt}
use Rattle.lsm_key.specs.Sets.{IsIn, SameMembers}
use Rattle.lsm_key.specs.declared.limits.Limits.{Limits}
use Rattle.lsm_key.proofs.AscendingEntries.{IsIn-filter}
use Rattle.lsm_key.proofs.Lists.{IsIn-kept}
use Rattle.lsm_key.proofs.Membership.{IsIn-append_cases, IsIn-append_left, IsIn-append_right, IsIn-map, IsIn-mapped}
use Rattle.lsm_edit.specs.declared.file.FileMeta.{FileMeta}
use Rattle.lsm_edit.specs.declared.served.Placed.{Placed}
use Rattle.lsm_edit.specs.Served.{IsServed, ServedValue}
use Rattle.lsm_pick.specs.After.{CompactPointersValue, candidates_after, candidates_in, level_after, level_candidates_after, level_candidates_in, part_of_level, pointer_at}
use Rattle.lsm_pick.specs.Closure.{Candidate}
use Rattle.lsm_pick.specs.Due.{due_levels, of_level}
use Rattle.lsm_pick.specs.Rule.{candidates, file_candidates, level_candidates}
use Rattle.lsm_pick.proofs.CandidateLevels.{in_part}

-- ---- lists

in_flat : {X Y : Type 0} (f : X → List Y) (xs : List X) (x : X) (y : Y) → IsIn x xs → IsIn y (f x) → IsIn y (flat_map f xs)
in_flat f [] x y m n = absurd m
in_flat f (z ∷ xs) x y m n = elim m [
  | inl same ↦ IsIn-append_left y (f z) (flat_map f xs) (subst (λ w. IsIn y (f w)) same n)
  | inr later ↦ IsIn-append_right y (f z) (flat_map f xs) (in_flat f xs x y later n)
]

-- ---- a level

-- of the level, and above its pointer or not
abbrev pub is_in_part : ℕ → List ℕ → Bool → Placed → Bool
is_in_part level pointer above p = eqb p.meta.level level && beq (key_lt pointer p.meta.smallest) above

-- the candidates of a file with its table
abbrev pub placed_candidates : Placed → List Candidate
placed_candidates p = file_candidates p.meta

module _ (s : ServedValue) (sound : IsServed s) (level : ℕ) (pointer : List ℕ) where
  part_within : (above : Bool) (p : Placed) → IsIn p (part_of_level level pointer above s.places) → IsIn p.meta (of_level level s.version.files)
  part_within above p m =
      let parts = IsIn-filter (is_in_part level pointer above) p s.places m in
      IsIn-kept (λ (f : FileMeta). eqb f.level level) p.meta s.version.files ((sound.listed p.meta).0 (IsIn-map (λ (q : Placed). q.meta) p s.places parts.0))
      (and_parts (eqb p.meta.level level) (beq (key_lt pointer p.meta.smallest) above) parts.1).0

  after_within : (p : Placed) → IsIn p (level_after level pointer s.places) → IsIn p.meta (of_level level s.version.files)
  after_within p m = elim (IsIn-append_cases p (part_of_level level pointer true s.places) (part_of_level level pointer false s.places) m) [
    | inl a ↦ part_within true p a
    | inr b ↦ part_within false p b
  ]

  in_after_by : (p : Placed) → IsIn p s.places → eqb p.meta.level level ≡ true → (b : Bool) → key_lt pointer p.meta.smallest ≡ b → IsIn p (level_after level pointer s.places)
  in_after_by p m own true e = IsIn-append_left p (part_of_level level pointer true s.places) (part_of_level level pointer false s.places)
      (IsIn-kept (is_in_part level pointer true) p s.places m (and_from (eqb p.meta.level level) (beq (key_lt pointer p.meta.smallest) true) own (ap (λ (b : Bool). beq b true) e)))
  in_after_by p m own false e = IsIn-append_right p (part_of_level level pointer true s.places) (part_of_level level pointer false s.places)
      (IsIn-kept (is_in_part level pointer false) p s.places m (and_from (eqb p.meta.level level) (beq (key_lt pointer p.meta.smallest) false) own (ap (λ (b : Bool). beq b false) e)))

  in_after : (f : FileMeta) → IsIn f (of_level level s.version.files) → (p : Placed) × IsIn p (level_after level pointer s.places) × (f ≡ p.meta)
  in_after f m =
      let parts = IsIn-filter (λ (g : FileMeta). eqb g.level level) f s.version.files m in
      let at = IsIn-mapped (λ (p : Placed). p.meta) f s.places ((sound.listed f).1 parts.0) in
      (at.0, in_after_by at.0 at.1 (subst (λ (g : FileMeta). eqb g.level level ≡ true) at.2 parts.1) (key_lt pointer (at.0).meta.smallest) refl, at.2)

  pub same_level : (b : Bool) → SameMembers (cond b (level_candidates s.version.files level) (flat_map placed_candidates (level_after level pointer s.places))) (level_candidates s.version.files level)
  same_level true t = (λ m. m, λ m. m)
  same_level false t = (
    λ m.
        let at = in_part placed_candidates (level_after level pointer s.places) t m in
        in_flat file_candidates (of_level level s.version.files) (at.0).meta t (after_within at.0 at.1) at.2,
    λ m.
        let at = in_part file_candidates (of_level level s.version.files) t m in
        let place = in_after at.0 at.1 in
        in_flat placed_candidates (level_after level pointer s.places) place.0 t place.1 (subst (λ (f : FileMeta). IsIn t (file_candidates f)) place.2 at.2),
  )

-- ---- all levels

module _ (limits : Limits) (s : ServedValue) (sound : IsServed s) where
  pub same_candidates : (pointers : CompactPointersValue) → SameMembers (candidates_after pointers limits s) (candidates limits s.version.files)
  same_candidates pointers t = (
    λ m.
        let at = in_part (level_candidates_after pointers s) (due_levels limits s.version.files) t m in
        in_flat (level_candidates s.version.files) (due_levels limits s.version.files) at.0 t at.1 ((same_level s sound at.0 (pointer_at pointers at.0) (eqb at.0 0) t).0 at.2),
    λ m.
        let at = in_part (level_candidates s.version.files) (due_levels limits s.version.files) t m in
        in_flat (level_candidates_after pointers s) (due_levels limits s.version.files) at.0 t at.1 ((same_level s sound at.0 (pointer_at pointers at.0) (eqb at.0 0) t).1 at.2),
  )

  pub in_rule : (pointers : Option CompactPointersValue) (t : Candidate) → IsIn t (candidates_in pointers limits s) → IsIn t (candidates limits s.version.files)
  in_rule None t m = m
  in_rule (Some pointers) t m = (same_candidates pointers t).0 m

-- level by level
pub by_level : (pointers : Option CompactPointersValue) (limits : Limits) (s : ServedValue) → candidates_in pointers limits s ≡ flat_map (level_candidates_in pointers s) (due_levels limits s.version.files)
by_level None limits s = refl
by_level (Some pointers) limits s = refl

-- level 0 has its own order
pub in_level_zero : (pointers : Option CompactPointersValue) (s : ServedValue) (level : ℕ) → level ≡ 0 → level_candidates_in pointers s level ≡ level_candidates s.version.files level
in_level_zero None s level zero = refl
in_level_zero (Some pointers) s level zero =
    ap (λ (b : Bool). cond b (level_candidates s.version.files level) (flat_map placed_candidates (level_after level (pointer_at pointers level) s.places))) (eq-eqb level 0 zero)

-- a deeper level goes on after its pointer
pub in_deeper_level : (pointers : CompactPointersValue) (s : ServedValue) (level : ℕ) → (level ≡ 0 → ⊥) → level_candidates_in (Some pointers) s level ≡ flat_map placed_candidates (level_after level (pointer_at pointers level) s.places)
in_deeper_level pointers s level deep = by (eqb level 0) refl
  where
    by : (b : Bool) → eqb level 0 ≡ b → cond b (level_candidates s.version.files level) (flat_map placed_candidates (level_after level (pointer_at pointers level) s.places)) ≡ flat_map placed_candidates (level_after level (pointer_at pointers level) s.places)
    by true e = absurd (deep (eqb-true level 0 e))
    by false e = refl
