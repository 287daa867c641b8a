-- The trials of one file.
use Rattle.std.proofs.Common.{◌≡◌, Bool, true, false, cond, List, [], ◌∷◌, ◌++◌, refl, ap, eqb}
use Rattle.std.proofs.lemmas.Bool.{eq-eqb, eqb-true}
use Rattle.lsm_edit.specs.declared.file.FileMeta.{FileMeta}
use Rattle.lsm_pick.specs.Closure.{Candidate}
use Rattle.lsm_pick.specs.Reach.{candidate_of}
use Rattle.lsm_pick.specs.Rule.{file_candidates}

pub candidates_zero : (f : FileMeta) → f.level ≡ 0 → file_candidates f ≡ candidate_of f false ∷ candidate_of f true ∷ []
candidates_zero f e = ap (λ (b : Bool). cond b (candidate_of f false ∷ candidate_of f true ∷ []) (candidate_of f false ∷ [])) (eq-eqb f.level 0 e)

pub candidates_deep : (f : FileMeta) → (f.level ≡ 0 → ⊥) → file_candidates f ≡ candidate_of f false ∷ []
candidates_deep f deep = by (eqb f.level 0) refl
  where
    by : (b : Bool) → eqb f.level 0 ≡ b → cond b (candidate_of f false ∷ candidate_of f true ∷ []) (candidate_of f false ∷ []) ≡ candidate_of f false ∷ []
    by true e = absurd (deep (eqb-true f.level 0 e))
    by false e = refl

-- the wide one comes first
pub wide_first : (f : FileMeta) → (more : List Candidate) × (file_candidates f ≡ (candidate_of f false ∷ []) ++ more)
wide_first f = by (eqb f.level 0)
  where
    by : (b : Bool) → (more : List Candidate) × (cond b (candidate_of f false ∷ candidate_of f true ∷ []) (candidate_of f false ∷ []) ≡ (candidate_of f false ∷ []) ++ more)
    by true = (candidate_of f true ∷ [], refl)
    by false = ([], refl)
