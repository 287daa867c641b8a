-- The versions of a format that has keys: which there are, and which keys fit into each.
use Rattle.std.proofs.Common.{inl, inr, ◌≡◌, ℕ, ◌^◌, ◌<◌, ◌≤◌, ◌||◌, Bool, true, false, cond, eqb, List, ◌++◌, length, refl, sym, ap, subst, ◌∙◌, arith}
use Rattle.std.specs.List.{list_any}
use Rattle.std.proofs.lemmas.Bool.{cases_Bool, ltb-false, le-ltb}
use Rattle.std.proofs.lemmas.List.Folds.{list_any-append}
use Rattle.lsm_key.specs.declared.limits.TheConstants.{MAX_KEY_BYTES, MAX_SHORT_KEY_BYTES}
use Rattle.lsm_key.specs.Sets.{IsIn}
use Rattle.lsm_key.specs.Spelling.{IsKey}
use Rattle.lsm_key.specs.Versions.{is_long, version_of, key_limit}
use Rattle.lsm_key.proofs.Lists.{none_from, none_is}

-- ---- versions

module _ (keys : List (List ℕ)) where
  pub version_is : (1 ≤ version_of keys) × (version_of keys ≤ 2)
  version_is = elim (cases_Bool (list_any is_long keys)) [
    | inl some ↦ subst (λ (b : Bool). (1 ≤ cond b 2 1) × (cond b 2 1 ≤ 2)) (sym some) (omega arith, omega arith)
    | inr none ↦ subst (λ (b : Bool). (1 ≤ cond b 2 1) × (cond b 2 1 ≤ 2)) (sym none) (omega arith, omega arith)
  ]

  pub version_long : list_any is_long keys ≡ true → version_of keys ≡ 2
  version_long some = ap (λ (b : Bool). cond b 2 1) some

  pub version_short : list_any is_long keys ≡ false → version_of keys ≡ 1
  version_short none = ap (λ (b : Bool). cond b 2 1) none

-- all keys together are of version 2 if the last ones have a long one, and else of the version of the first ones
pub version_of-append : (keys others : List (List ℕ)) → version_of (keys ++ others) ≡ cond (list_any is_long others) 2 (version_of keys)
version_of-append keys others = ap (λ (b : Bool). cond b 2 1) (list_any-append is_long keys others) ∙ by (list_any is_long keys) (list_any is_long others)
  where
    numbered : Bool → ℕ
    numbered some = cond some 2 1

    by : (b c : Bool) → numbered (b || c) ≡ cond c 2 (numbered b)
    by true true = refl
    by true false = refl
    by false true = refl
    by false false = refl

-- ---- limits

pub limit_low : (version : ℕ) → key_limit version ≤ MAX_KEY_BYTES
limit_low version = elim (cases_Bool (eqb version 1)) [
  | inl one ↦ subst (λ (b : Bool). cond b MAX_SHORT_KEY_BYTES MAX_KEY_BYTES ≤ MAX_KEY_BYTES) (sym one) (omega arith)
  | inr two ↦ subst (λ (b : Bool). cond b MAX_SHORT_KEY_BYTES MAX_KEY_BYTES ≤ MAX_KEY_BYTES) (sym two) (omega arith)
]

-- a key's length is two bytes
pub limit_short : (version : ℕ) → key_limit version < 2 ^ 16
limit_short version = let low = limit_low version in omega (arith, low)

-- ---- keys

pub key_is : (version : ℕ) (k : List ℕ) → IsKey (key_limit version) k → IsKey MAX_KEY_BYTES k
key_is version k is = (is.0, let low = limit_low version in let most = is.1 in omega (arith, low, most))

pub long_false : (k : List ℕ) → length k ≤ MAX_SHORT_KEY_BYTES → is_long k ≡ false
long_false k short = le-ltb MAX_SHORT_KEY_BYTES (length k) short

-- a key fits into version 2, and into version 1 if it is short
pub key_fits : (k : List ℕ) (some : Bool) → IsKey MAX_KEY_BYTES k → (some ≡ false → is_long k ≡ false) → IsKey (key_limit (cond some 2 1)) k
key_fits k true is short = is
key_fits k false is short = (is.0, ltb-false MAX_SHORT_KEY_BYTES (length k) (short refl))

-- each key fits into the version of all
pub keys_fit : (keys : List (List ℕ)) (k : List ℕ) → IsIn k keys → IsKey MAX_KEY_BYTES k → IsKey (key_limit (version_of keys)) k
keys_fit keys k member is = key_fits k (list_any is_long keys) is (λ none. none_is is_long keys none k member)

pub all_fit : (keys : List (List ℕ)) → ((k : List ℕ) → IsIn k keys → IsKey MAX_KEY_BYTES k) → (k : List ℕ) → IsIn k keys → IsKey (key_limit (version_of keys)) k
all_fit keys are k member = keys_fit keys k member (are k member)

-- short keys are of version 1
pub version_one : (keys : List (List ℕ)) → ((k : List ℕ) → IsIn k keys → length k ≤ MAX_SHORT_KEY_BYTES) → version_of keys ≡ 1
version_one keys short = version_short keys (none_from is_long keys (λ k member. long_false k (short k member)))
