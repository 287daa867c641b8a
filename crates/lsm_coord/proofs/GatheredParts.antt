-- How the parts of a job are gathered.
use Rattle.std.proofs.Common.{◌≡◌, ℕ, suc, ◌+◌, ◌-◌, ◌<◌, Bool, true, false, cond, List, ◌∷◌, ◌++◌, length, get_or, drop, map, refl, sym, ap, subst, ◌∙◌, arith}
use Rattle.std.specs.Prelude.{flat_map, nat_eq}
use Rattle.std.specs.List.{range_with_len, list_any}
use Rattle.std.proofs.lemmas.Bool.{eq-eqb}
use Rattle.std.proofs.lemmas.List.{drop_more, length-drop, append_assoc, map-append}
use Rattle.lsm_key.specs.Sets.{IsIn}
use Rattle.lsm_key.proofs.Lists.{any_from}
use Rattle.lsm_key.proofs.Membership.{IsIn-at}
use Rattle.lsm_claim.specs.declared.job.Want.{Want}
use Rattle.lsm_table.proofs.TableCuts.{same_first, same_rest}
use Rattle.lsm_edit.specs.declared.file.FileMeta.{FileMeta}
use Rattle.lsm_pick.specs.Rule.{inputs_of}

-- ---- the inputs, by the numbers that are left

module _ (want : Want) (next : ℕ) (f : FileMeta) (rest : List FileMeta) (left : drop next want.files ≡ map (λ (g : FileMeta). g.number) (inputs_of (f ∷ rest) want)) where
  pub input_is_next : next < length want.files → get_or want.files next 0 ≡ f.number
      → (inputs_of (f ∷ rest) want ≡ f ∷ inputs_of rest want) × (drop (next + 1) want.files ≡ map (λ (g : FileMeta). g.number) (inputs_of rest want))
  input_is_next lt here =
      let member : IsIn f.number want.files = subst (λ (n : ℕ). IsIn n want.files) here (IsIn-at want.files next 0 lt) in
      let taken : list_any (nat_eq f.number) want.files ≡ true = any_from (nat_eq f.number) want.files f.number member (eq-eqb f.number f.number refl) in
      let first : inputs_of (f ∷ rest) want ≡ f ∷ inputs_of rest want = ap (λ (b : Bool). cond b (f ∷ inputs_of rest want) (inputs_of rest want)) taken in
      let both : get_or want.files next 0 ∷ drop (next + 1) want.files ≡ f.number ∷ map (λ (g : FileMeta). g.number) (inputs_of rest want) =
      sym (drop_more want.files next 0 lt) ∙ left ∙ ap (map (λ (g : FileMeta). g.number)) first in
      (first, same_rest (get_or want.files next 0) f.number (drop (next + 1) want.files) (map (λ (g : FileMeta). g.number) (inputs_of rest want)) both)

  skipped : (b : Bool) → list_any (nat_eq f.number) want.files ≡ b → ((next < length want.files) × (get_or want.files next 0 ≡ f.number) → ⊥) → inputs_of (f ∷ rest) want ≡ inputs_of rest want
  skipped false e none = ap (λ (b : Bool). cond b (f ∷ inputs_of rest want) (inputs_of rest want)) e
  skipped true e none =
      let first : inputs_of (f ∷ rest) want ≡ f ∷ inputs_of rest want = ap (λ (b : Bool). cond b (f ∷ inputs_of rest want) (inputs_of rest want)) e in
      let one : drop next want.files ≡ f.number ∷ map (λ (g : FileMeta). g.number) (inputs_of rest want) = left ∙ ap (map (λ (g : FileMeta). g.number)) first in
      let long : length (drop next want.files) ≡ suc (length (map (λ (g : FileMeta). g.number) (inputs_of rest want))) = ap (λ (ns : List ℕ). length ns) one in
      let lt : next < length want.files = omega (arith, length-drop next want.files) in
      absurd (none (lt, same_first (get_or want.files next 0) f.number (drop (next + 1) want.files) (map (λ (g : FileMeta). g.number) (inputs_of rest want)) (sym (drop_more want.files next 0 lt) ∙ one)))

  pub input_is_not_next : ((next < length want.files) × (get_or want.files next 0 ≡ f.number) → ⊥) → inputs_of (f ∷ rest) want ≡ inputs_of rest want
  input_is_not_next none = skipped (list_any (nat_eq f.number) want.files) refl none

-- ---- the levels, one after another

levels_left : (level : ℕ) → level < 7 → range_with_len level (7 - level) ≡ level ∷ range_with_len (level + 1) (7 - (level + 1))
levels_left level lt = let one : 7 - level ≡ suc (7 - (level + 1)) = omega arith in ap (range_with_len level) one

pub next_level_of : {X Y : Type 0} (range : X → Y) (of : ℕ → List X) (level : ℕ) (before : List Y) → level < 7
    → (before ++ map range (of level)) ++ map range (flat_map of (range_with_len (level + 1) (7 - (level + 1)))) ≡ before ++ map range (flat_map of (range_with_len level (7 - level)))
next_level_of range of level before lt =
    append_assoc before (map range (of level)) (map range (flat_map of (range_with_len (level + 1) (7 - (level + 1)))))
    ∙ ap (λ ys. before ++ ys) (sym (map-append range (of level) (flat_map of (range_with_len (level + 1) (7 - (level + 1))))) ∙ ap (λ levels. map range (flat_map of levels)) (sym (levels_left level lt)))
