-- How many of the keys so far have a value.
use Rattle.std.proofs.Common.{◌≡◌, ◌≤◌, ◌<◌, ℕ, ◌+◌, List, [], ◌∷◌, ◌++◌, Bool, true, false, length, get_or, take, drop, refl, sym, arith, subst}
use Rattle.std.proofs.lemmas.List.{at_drop_all}
use Rattle.std.specs.Borrow.{Bor}
use Rattle.std.specs.Int.{from_bool}
use Rattle.lsm_coord.specs.Contract.Value.{CoordValue}
use Rattle.lsm_key.specs.declared.op.Op.TheVariants.{Delete}
use Rattle.lsm_resp.specs.Requests.{words_of}
use Rattle.lsm_store.specs.declared.error.StoreError.{StoreError}
use Rattle.lsm_store.specs.Store.{Keeps, OpRefuses}
use Rattle.lsm_serve.specs.Answers.{CountsKeys, DeletesFirst, DeletesKey, DeletesKeys, KeyHasValue}
use Rattle.lsm_serve.proofs.WordsSoFar.{next_word, one_more, parted}

pub at_most_one : (b : Bool) → from_bool b ≤ 1
at_most_one true = omega arith
at_most_one false = omega arith

-- a count and what is left of the keys: whatever is counted of these completes the count
pub record CountsFrom (c : CoordValue) (keys : List (List ℕ)) (count : ℕ) (left : List (List ℕ)) : Type 0 where
  pub completes : (n : ℕ) → CountsKeys c left n → CountsKeys c keys (count + n)

pub counts_next : (c : CoordValue) (keys : List (List ℕ)) (count more : ℕ) (key : List ℕ) (left : List (List ℕ)) (has : Bool) → CountsFrom c keys count (key ∷ left) → KeyHasValue c key has → more ≡ count + from_bool has → CountsFrom c keys more left
counts_next c keys count more key left has so is e = record {
  completes = λ n rest. (let sum : count + (from_bool has + n) ≡ more + n = omega (arith, e) in subst (λ (m : ℕ). CountsKeys c keys m) sum (so.completes (from_bool has + n) (has, n, is, rest, refl)));
}

pub counts_more : (c now : CoordValue) (words : List (Bor (List ℕ))) (i count more : ℕ) (d : Bor (List ℕ)) (has : Bool) → now ≡ c → i < length words → CountsFrom c (words_of words) count (words_of (drop i words)) → KeyHasValue now (get_or words i d).now has → more ≡ count + from_bool has → CountsFrom c (words_of words) more (words_of (drop (i + 1) words))
counts_more c now words i count more d has same below so is e = counts_next c (words_of words) count more (get_or words i d).now (words_of (drop (i + 1) words)) has (subst (λ (left : List (List ℕ)). CountsFrom c (words_of words) count left) (next_word words i (get_or words i d) d below refl) so) (subst (λ (s : CoordValue). KeyHasValue s (get_or words i d).now has) same is) e

pub counts_all : (c : CoordValue) (keys : List (List ℕ)) (count : ℕ) → CountsFrom c keys count [] → CountsKeys c keys count
counts_all c keys count so = let e : count + 0 ≡ count = omega arith in subst (λ (m : ℕ). CountsKeys c keys m) e (so.completes 0 refl)

pub counts_done : (c : CoordValue) (words : List (Bor (List ℕ))) (i count : ℕ) → length words ≤ i → CountsFrom c (words_of words) count (words_of (drop i words)) → CountsKeys c (words_of words) count
counts_done c words i count above so = counts_all c (words_of words) count (subst (λ (left : List (List ℕ)). CountsFrom c (words_of words) count left) (at_drop_all words_of words i above) so)

-- ---- deletions, which the store is changed by

-- one more key is deleted
pub deletes_push : (old now mid : CoordValue) (keys : List (List ℕ)) (count more : ℕ) (key : List ℕ) (had : Bool) → DeletesKeys old keys count now → DeletesKey now key had mid → more ≡ count + from_bool had → DeletesKeys old (keys ++ key ∷ []) more mid
deletes_push old now mid [] count more key had (none, same) is e = (mid, had, 0, subst (λ (c : CoordValue). DeletesKey c key had mid) same is, (refl, refl), omega (arith, none, e))
deletes_push old now mid (first ∷ keys) count more key had (next, has, rest, is_first, are, sum) is e = (next, has, rest + from_bool had, is_first, deletes_push next now mid keys rest (rest + from_bool had) key had are is refl, omega (arith, sum, e))

pub deletes_more : (old now mid : CoordValue) (words : List (Bor (List ℕ))) (i count more : ℕ) (d : Bor (List ℕ)) (had : Bool) → i < length words → DeletesKeys old (words_of (take i words)) count now → DeletesKey now (get_or words i d).now had mid → more ≡ count + from_bool had → DeletesKeys old (words_of (take (i + 1) words)) more mid
deletes_more old now mid words i count more d had below are is e = subst (λ (keys : List (List ℕ)). DeletesKeys old keys more mid) (sym (one_more words i (get_or words i d) d below refl)) (deletes_push old now mid (words_of (take i words)) count more (get_or words i d).now had are is e)

pub deletes_first : (old now new : CoordValue) (words : List (Bor (List ℕ))) (i count : ℕ) (d : Bor (List ℕ)) (why : StoreError) → i < length words → DeletesKeys old (words_of (take i words)) count now → OpRefuses now (Delete (get_or words i d).now) new why → Keeps now new → DeletesFirst old (words_of words) new why
deletes_first old now new words i count d why below are refuses keeps = (words_of (take i words), (get_or words i d).now, words_of (drop (i + 1) words), count, now, parted words i (get_or words i d) d below refl, are, refuses, keeps)
