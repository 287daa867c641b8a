-- Files that are left out of lists.
use Rattle.std.proofs.Common.{◌≡◌, ℕ, zero, suc, ◌+◌, ◌<◌, ◌≤◌, Bool, true, false, not, cond, ◌||◌, List, [], ◌∷◌, ◌++◌, filter, get_or, length, take, refl, sym, ap, ◌∙◌, arith, inl, inr}
use Rattle.std.specs.List.{list_any, remove}
use Rattle.std.proofs.lemmas.Bool.{cases_Bool, eq-eqb, false_from_ne_true, true≢false}
use Rattle.std.proofs.lemmas.List.Edits.{length-remove}
use Rattle.std.proofs.lemmas.List.Elements.{filter_more}
use Rattle.lsm_key.specs.Sets.{IsIn}
use Rattle.lsm_key.proofs.Membership.{IsIn-at}
use Rattle.lsm_edit.specs.declared.file.FileMeta.{FileMeta}
use Rattle.lsm_edit.specs.declared.served.Placed.{Placed}
use Rattle.lsm_edit.specs.File.{same_file}
use Rattle.lsm_edit.specs.Version.{FileNumbersRise, has_number, is_listed}
use Rattle.lsm_edit.proofs.AdvancedPlaces.{or-left, or-right}
use Rattle.lsm_edit.proofs.SameFiles.{file_Decides}
use Rattle.lsm_follow.specs.Followers.{files_in}

pub or_none : (b : Bool) → (b || false) ≡ b
or_none true = refl
or_none false = refl

-- what neither of two tests holds of
pub neither : (a b c : FileMeta → Bool) (fs : List FileMeta) → ((f : FileMeta) → IsIn f fs → a f ≡ false → b f ≡ c f) → filter (λ f. not (a f || b f)) fs ≡ filter (λ f. not (c f)) (filter (λ f. not (a f)) fs)
neither a b c [] same = refl
neither a b c (f ∷ fs) same =
    let rest = neither a b c fs (λ g m. same g (inr m)) in
    elim (cases_Bool (a f)) [
      | inl held ↦
          ap (λ (x : Bool). cond (not (x || b f)) (f ∷ filter (λ g. not (a g || b g)) fs) (filter (λ g. not (a g || b g)) fs)) held
          ∙ rest
          ∙ ap (λ (x : Bool). filter (λ g. not (c g)) (cond (not x) (f ∷ filter (λ g. not (a g)) fs) (filter (λ g. not (a g)) fs))) (sym held)
      | inr free ↦
          ap (λ (x : Bool). cond (not (x || b f)) (f ∷ filter (λ g. not (a g || b g)) fs) (filter (λ g. not (a g || b g)) fs)) free
          ∙ ap (λ (x : Bool). cond (not x) (f ∷ filter (λ g. not (a g || b g)) fs) (filter (λ g. not (a g || b g)) fs)) (same f (inl refl) free)
          ∙ ap (λ (gs : List FileMeta). cond (not (c f)) (f ∷ gs) gs) rest
          ∙ ap (λ (x : Bool). filter (λ g. not (c g)) (cond (not x) (f ∷ filter (λ g. not (a g)) fs) (filter (λ g. not (a g)) fs))) (sym free)
    ]

-- ---- one file less

pub get_same : (fs : List FileMeta) (k : ℕ) (d e : FileMeta) → k < length fs → get_or fs k d ≡ get_or fs k e
get_same [] k d e lt = absurd (omega (arith, lt))
get_same (f ∷ fs) zero d e lt = refl
get_same (f ∷ fs) (suc k) d e lt = get_same fs k d e (omega (arith, lt))

none_of : (f : FileMeta) (fs : List FileMeta) → ((g : FileMeta) → IsIn g fs → f.number < g.number) → filter (λ g. not (same_file g f)) fs ≡ fs
none_of f [] above = refl
none_of f (g ∷ fs) above =
    let other : same_file g f ≡ false = false_from_ne_true (same_file g f) (λ h. let e = ap (λ (x : FileMeta). x.number) ((file_Decides g f).0 h) in let lt = above g (inl refl) in omega (arith, e, lt)) in
    ap (λ (b : Bool). cond (not b) (g ∷ filter (λ x. not (same_file x f)) fs) (filter (λ x. not (same_file x f)) fs)) other
    ∙ ap (λ (gs : List FileMeta). g ∷ gs) (none_of f fs (λ x m. above x (inr m)))

-- a file whose number no other one has is taken out
pub removed_is : (fs : List FileMeta) (at : ℕ) (f : FileMeta) → FileNumbersRise fs → at < length fs → get_or fs at f ≡ f → remove fs at ≡ filter (λ g. not (same_file g f)) fs
removed_is [] at f up lt is = absurd (omega (arith, lt))
removed_is (g ∷ fs) zero f up lt is =
    let same : same_file g f ≡ true = (file_Decides g f).1 is in
    sym (none_of f fs (λ x m. let less = up.0 x m in let e = ap (λ (y : FileMeta). y.number) is in omega (arith, less, e)))
    ∙ ap (λ (b : Bool). cond (not b) (g ∷ filter (λ x. not (same_file x f)) fs) (filter (λ x. not (same_file x f)) fs)) (sym same)
removed_is (g ∷ fs) (suc at) f up lt is =
    let less = up.0 (get_or fs at f) (IsIn-at fs at f (omega (arith, lt))) in
    let other : same_file g f ≡ false = false_from_ne_true (same_file g f) (λ h. let e = ap (λ (x : FileMeta). x.number) ((file_Decides g f).0 h ∙ sym is) in omega (arith, e, less)) in
    ap (λ (gs : List FileMeta). g ∷ gs) (removed_is fs at f up.1 (omega (arith, lt)) is)
    ∙ ap (λ (b : Bool). cond (not b) (g ∷ filter (λ x. not (same_file x f)) fs) (filter (λ x. not (same_file x f)) fs)) (sym other)

-- ---- places of listed files

-- of a listed file, a place stays
pub kept_listed : (files : List FileMeta) (ps : List Placed) (f : FileMeta) → is_listed files f ≡ true → is_listed (files_in (filter (λ p. is_listed files p.meta) ps)) f ≡ is_listed (files_in ps) f
kept_listed files [] f there = refl
kept_listed files (p ∷ ps) f there =
    let rest = kept_listed files ps f there in
    elim (cases_Bool (is_listed files p.meta)) [
      | inl held ↦
          ap (λ (b : Bool). is_listed (files_in (cond b (p ∷ filter (λ q. is_listed files q.meta) ps) (filter (λ q. is_listed files q.meta) ps))) f) held
          ∙ ap (λ (b : Bool). same_file f p.meta || b) rest
      | inr free ↦
          let other : same_file f p.meta ≡ false = false_from_ne_true (same_file f p.meta) (λ h. true≢false (sym there ∙ ap (is_listed files) ((file_Decides f p.meta).0 h) ∙ free)) in
          ap (λ (b : Bool). is_listed (files_in (cond b (p ∷ filter (λ q. is_listed files q.meta) ps) (filter (λ q. is_listed files q.meta) ps))) f) free
          ∙ rest
          ∙ ap (λ (b : Bool). b || is_listed (files_in ps) f) (sym other)
    ]

pub has_there : (fs : List FileMeta) (f : FileMeta) (n : ℕ) → IsIn f fs → f.number ≡ n → list_any (has_number n) fs ≡ true
has_there [] f n m e = absurd m
has_there (g ∷ fs) f n m e = elim m [
  | inl one ↦ or-left (has_number n g) (list_any (has_number n) fs) (eq-eqb g.number n (ap (λ (x : FileMeta). x.number) (sym one) ∙ e))
  | inr later ↦ or-right (has_number n g) (list_any (has_number n) fs) (has_there fs f n later e)
]

-- ---- few files

few-if : {X : Type 0} (b : Bool) (x : X) (kept xs : List X) → length kept ≤ length xs → length (cond b (x ∷ kept) kept) ≤ length (x ∷ xs)
few-if true x kept xs h = omega (arith, h)
few-if false x kept xs h = omega (arith, h)

pub filter_few : {X : Type 0} (test : X → Bool) (xs : List X) → length (filter test xs) ≤ length xs
filter_few test [] = omega arith
filter_few test (x ∷ xs) = few-if (test x) x (filter test xs) xs (filter_few test xs)

-- the only file goes
pub last_goes : (fs : List FileMeta) (at : ℕ) (f : FileMeta) → length fs ≤ 1 → at < length fs → get_or fs at f ≡ f → filter (λ g. not (same_file g f)) fs ≡ []
last_goes [] at f few lt is = refl
last_goes (g ∷ []) zero f few lt is = ap (λ (b : Bool). cond (not b) (g ∷ []) []) ((file_Decides g f).1 is)
last_goes (g ∷ []) (suc at) f few lt is = absurd (omega (arith, lt))
last_goes (g ∷ h ∷ fs) at f few lt is = absurd (omega (arith, few))

-- of more than one file, some stay
pub some_stay : (fs : List FileMeta) (at : ℕ) (f : FileMeta) → FileNumbersRise fs → 1 < length fs → at < length fs → get_or fs at f ≡ f → filter (λ g. not (same_file g f)) fs ≡ [] → ⊥
some_stay fs at f up many lt is none =
    let one = ap (λ (gs : List FileMeta). length gs) (removed_is fs at f up lt is ∙ none) in
    let less = length-remove fs at lt in
    omega (arith, one, less, many)

-- one file further
pub filter_further : (test : FileMeta → Bool) (fs kept : List FileMeta) (k : ℕ) (f : FileMeta) (b : Bool) → k < length fs → f ≡ get_or fs k f → b ≡ test f → kept ≡ filter test (take k fs) → kept ++ cond b (f ∷ []) [] ≡ filter test (take (k + 1) fs)
filter_further test fs kept k f b lt at is was =
    ap (λ (ks : List FileMeta). ks ++ cond b (f ∷ []) []) was
    ∙ ap (λ (x : Bool). filter test (take k fs) ++ cond x (f ∷ []) []) is
    ∙ ap (λ (g : FileMeta). filter test (take k fs) ++ cond (test g) (g ∷ []) []) at
    ∙ sym (filter_more test fs k f lt)
