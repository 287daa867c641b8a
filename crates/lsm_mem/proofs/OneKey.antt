-- The versions of one key, seen as chains.
use Rattle.std.proofs.Common.{◌≡◌, ℕ, true, false, List, [], ◌∷◌, sym, ap, ◌∙◌, inl, inr}
use Rattle.std.specs.Ordering.{is_eq}
use Rattle.lsm_key.specs.declared.entry.Entry.{Entry}
use Rattle.lsm_key.specs.Sets.{IsIn}
use Rattle.lsm_mem.specs.Chains.{Chain}
use Rattle.lsm_mem.specs.Buckets.{are_of, chain_of_versions}
use Rattle.lsm_mem.proofs.ChainsOfMap.{same_key, key_cmp, tied_keys}

pub own_chain : (key : List ℕ) (versions : List Entry) → are_of versions key ≡ true → IsIn (record { key = key; versions = versions }) (chain_of_versions versions)
own_chain key [] h = absurd cc
own_chain key (e ∷ es) h = inl (λ i. record { key = tied_keys key e.ikey.key h i; versions = e ∷ es })

pub other_chain : (key : List ℕ) (versions : List Entry) → are_of versions key ≡ false → (c : Chain) → IsIn c (chain_of_versions versions) → c.key ≡ key → ⊥
other_chain key [] h c m same = absurd m
other_chain key (e ∷ es) h c m same = elim m [
  | inl is ↦
      let own : e.ikey.key ≡ key = sym (ap (λ (d : Chain). d.key) is) ∙ same in
      let tied : is_eq (key_cmp key e.ikey.key) ≡ true = ap (λ (k : List ℕ). is_eq (key_cmp key k)) own ∙ ap is_eq (same_key key) in
      cc
  | inr none ↦ absurd none
]
