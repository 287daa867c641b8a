-- The tables of a vault once those are removed that no file needs.
use Rattle.std.proofs.Common.{subst, ◌≡◌, ℕ, ◌+◌, ◌<◌, Bool, true, false, cond, not, ◌||◌, ◌&&◌, List, [], ◌∷◌, Option, None, Some, is_some, filter, take, get_or, length, eqb, refl, sym, ap, ◌∙◌, inl, inr, arith}
use Rattle.std.specs.List.{list_any}
use Rattle.std.specs.Ordering.{nat_cmp, eq_by_cmp}
use Rattle.std.specs.FinMap.{contains_key-keys, get, get-remove, get-retain_keys, keys, nat_cmp-IsAntisymmetric, remove, retain_keys, same_map}
use Rattle.std.specs.Cmp.{nat_cmp_total}
use Rattle.std.proofs.lemmas.Bool.{eq-eqb, eqb-true, false≢true, not-true, or_left, or_right, true≢false}
use Rattle.std.proofs.lemmas.Bool.Decides.{nat_tests}
use Rattle.std.proofs.lemmas.List.Folds.{list_any_more}
use Rattle.lsm_key.specs.Sets.{IsIn}
use Rattle.lsm_key.proofs.AscendingEntries.{IsIn-filter}
use Rattle.lsm_key.proofs.Lists.{any_from}
use Rattle.lsm_edit.specs.declared.file.FileMeta.{FileMeta}
use Rattle.lsm_edit.specs.declared.served.Placed.{Placed}
use Rattle.lsm_edit.specs.Version.{has_number}
use Rattle.lsm_vault.specs.Stored.{TableMap}
use Rattle.lsm_versions.specs.declared.retired.Retired.{Retired}
use Rattle.lsm_versions.specs.Kept.{AreKept, MayHaveRemoved}
use Rattle.lsm_versions.specs.Opening.{MayHaveLost, is_live_file}
use Rattle.lsm_versions.specs.Retention.{retired_at}

-- the numbers but these
abbrev pub all_but : List ℕ → ℕ → Bool
all_but ns n = not (list_any (eqb n) ns)

get_retained : (kept : TableMap) (stays : ℕ → Bool) (q : ℕ) → get (retain_keys kept stays) q ≡ cond (stays q) (get kept q) None
get_retained kept stays q = get-retain_keys kept stays q (λ x tied. ap stays (sym (nat_cmp-IsAntisymmetric q x tied)))

same_tests : (q k : ℕ) → eq_by_cmp nat_cmp q k ≡ eqb q k
same_tests q k = grind (arith, nat_tests)

removed_then : (e l : Bool) (x : Option (List ℕ)) → cond e None (cond (not l) x None) ≡ cond (not (l || e)) x None
removed_then true true x = refl
removed_then true false x = refl
removed_then false true x = refl
removed_then false false x = refl

-- one of the numbers more
pub one_fewer : (old before after : TableMap) (ns : List ℕ) (i k : ℕ) → i < length ns → k ≡ get_or ns i k → before ≡ retain_keys old (all_but (take i ns)) → after ≡ remove before k → after ≡ retain_keys old (all_but (take (i + 1) ns))
one_fewer old before after ns i k lt at was now = same_map nat_cmp_total nat_cmp-IsAntisymmetric _ _ (λ q.
    let more : list_any (eqb q) (take (i + 1) ns) ≡ (list_any (eqb q) (take i ns) || eq_by_cmp nat_cmp q k) =
    list_any_more (eqb q) ns i k lt ∙ ap (λ (n : ℕ). list_any (eqb q) (take i ns) || eqb q n) (sym at) ∙ ap (λ (b : Bool). list_any (eqb q) (take i ns) || b) (sym (same_tests q k)) in
    ap (λ (m : TableMap). get m q) now
    ∙ get-remove nat_cmp_total before k q
    ∙ ap (λ (m : TableMap). cond (eq_by_cmp nat_cmp q k) None (get m q)) was
    ∙ ap (λ (x : Option (List ℕ)). cond (eq_by_cmp nat_cmp q k) None x) (get_retained old (all_but (take i ns)) q)
    ∙ removed_then (eq_by_cmp nat_cmp q k) (list_any (eqb q) (take i ns)) (get old q)
    ∙ ap (λ (b : Bool). cond (not b) (get old q) None) (sym more)
    ∙ sym (get_retained old (all_but (take (i + 1) ns)) q))

-- none as yet
pub none_fewer : (old : TableMap) → old ≡ retain_keys old (all_but [])
none_fewer old = same_map nat_cmp_total nat_cmp-IsAntisymmetric _ _ (λ q. sym (get_retained old (all_but []) q))

-- ---- all numbers that are not needed

any_step : (nx e nq l f : Bool) → f ≡ (not nq && l) → (e ≡ true → nq ≡ nx) → cond (not nx) (e || f) f ≡ (not nq && (e || l))
any_step true true true l f p h = p
any_step true true false l f p h = absurd (true≢false (sym (h refl)))
any_step true false nq l f p h = p
any_step false true true l f p h = absurd (true≢false (h refl))
any_step false true false l f p h = refl
any_step false false nq l f p h = p

any_kept : (test : ℕ → Bool) (b : Bool) (x : ℕ) (xs : List ℕ) → list_any test (cond b (x ∷ xs) xs) ≡ cond b (test x || list_any test xs) (list_any test xs)
any_kept test true x xs = refl
any_kept test false x xs = refl

none_and : (b : Bool) → false ≡ (b && false)
none_and true = refl
none_and false = refl

any_where : (needed : ℕ → Bool) (q : ℕ) (xs : List ℕ) → list_any (eqb q) (filter (λ n. not (needed n)) xs) ≡ (not (needed q) && list_any (eqb q) xs)
any_where needed q [] = none_and (not (needed q))
any_where needed q (x ∷ xs) =
    any_kept (eqb q) (not (needed x)) x (filter (λ n. not (needed n)) xs)
    ∙ any_step (needed x) (eqb q x) (needed q) (list_any (eqb q) xs) _ (any_where needed q xs) (λ same. ap needed (eqb-true q x same))

others_out : (b : Bool) (o : Option (List ℕ)) → cond (not (not b && is_some o)) o None ≡ cond b o None
others_out true None = refl
others_out true (Some t) = refl
others_out false None = refl
others_out false (Some t) = refl

-- the tables that are left are those that are needed
pub others_gone : (old : TableMap) (needed : ℕ → Bool) → retain_keys old (all_but (filter (λ n. not (needed n)) (keys old))) ≡ retain_keys old needed
others_gone old needed = same_map nat_cmp_total nat_cmp-IsAntisymmetric _ _ (λ q.
    let there : list_any (eqb q) (keys old) ≡ is_some (get old q) = ap (λ (f : ℕ → Bool). list_any f (keys old)) (λ i k. sym (same_tests q k) i) ∙ sym (contains_key-keys old q) in
    get_retained old (all_but (filter (λ n. not (needed n)) (keys old))) q
    ∙ ap (λ (b : Bool). cond (not b) (get old q) None) (any_where needed q (keys old) ∙ ap (λ (b : Bool). not (needed q) && b) there)
    ∙ others_out (needed q) (get old q)
    ∙ sym (get_retained old needed q))

-- of removals that were begun, only those that are not needed may be gone
pub others_lost : (old mid new : TableMap) (needed : ℕ → Bool) (ns : List ℕ) → ns ≡ filter (λ n. not (needed n)) (keys old) → mid ≡ old → MayHaveRemoved ns mid new → MayHaveLost needed old new
others_lost old mid new needed ns are same may n = elim (may n) [
  | inl stays ↦ inl (stays ∙ ap (λ (m : TableMap). get m n) same)
  | inr gone ↦ inr (not-true (needed n) (IsIn-filter (λ (k : ℕ). not (needed k)) n (keys old) (subst (IsIn n) are gone.0)).1, gone.1)
]

-- ---- what a version set needs

retired_there : (rs : List Retired) (r : Retired) → IsIn r rs → is_some (retired_at rs r.number) ≡ true
retired_there [] r m = absurd m
retired_there (x ∷ rs) r (inl same) = ap (λ (b : Bool). is_some (cond b (Some x.bytes) (retired_at rs r.number))) (eq-eqb x.number r.number (ap (λ (z : Retired). z.number) (sym same)))
retired_there (x ∷ rs) r (inr later) = elim (eqb x.number r.number) as (λ b. is_some (cond b (Some x.bytes) (retired_at rs r.number)) ≡ true) [ true ↦ refl | false ↦ retired_there rs r later ]

-- they are kept if what they need is
pub kept_needed : (places : List Placed) (files : List FileMeta) (retired : List Retired) (old new : TableMap) → ((p : Placed) → IsIn p places → IsIn p.meta files) → MayHaveLost (is_live_file files retired) old new → AreKept old places retired → AreKept new places retired
kept_needed places files retired old new among lost kept = record {
  listed = λ p m. elim (lost p.meta.number) [
    | inl stays ↦ stays ∙ kept.listed p m
    | inr gone ↦ absurd (false≢true (sym gone.0 ∙ or_left _ _ (any_from (has_number p.meta.number) files p.meta (among p m) (eq-eqb p.meta.number p.meta.number refl))))
  ];
  removed = λ r m. elim (lost r.number) [
    | inl stays ↦ stays ∙ kept.removed r m
    | inr gone ↦ absurd (false≢true (sym gone.0 ∙ or_right (list_any (has_number r.number) files) _ (retired_there retired r m)))
  ];
}
