-- Along edits that apply in turn no number comes back: what a later version lists was listed before, or has a number that was not given yet.
use Rattle.std.proofs.Common.{◌≡◌, ℕ, ◌<◌, ◌≤◌, true, false, not, List, [], ◌∷◌, None, refl, sym, subst, ◌∙◌, arith, inl, inr, ◌⊎◌, leb}
use Rattle.std.specs.List.{list_any}
use Rattle.std.proofs.lemmas.Bool.{eqb-true, eq-eqb, leb-false, ltb-false, not-false, not-true, or_parts}
use Rattle.lsm_key.specs.Sets.{IsIn}
use Rattle.lsm_key.proofs.Lists.{any_is, none_is}
use Rattle.lsm_key.proofs.Membership.{IsIn-append_cases}
use Rattle.lsm_key.proofs.AscendingEntries.{IsIn-filter}
use Rattle.lsm_edit.specs.declared.file.FileMeta.{FileMeta}
use Rattle.lsm_edit.specs.declared.edit.Edit.{Edit}
use Rattle.lsm_edit.specs.Version.{VersionValue, IsVersion, apply_fault, after_apply, files_after, has_number, files_without}
use Rattle.lsm_edit.specs.Edits.{Apply, IsEditHistory, RemovedOnce, versions_from}
use Rattle.lsm_edit.specs.Laws.{NoFileIsRemovedTwice, ANumberNamesOneFile}
use Rattle.lsm_edit.proofs.ServedPlaces.{one_number}
use Rattle.lsm_edit.proofs.VersionLaws.{passes, stays, fresh_added, applied_is}

-- ---- one edit

abbrev AreBelow : VersionValue → Type 0
AreBelow v = (f : FileMeta) → IsIn f v.files → f.number < v.next_file

module _ (v : VersionValue) (e : Edit) (ok : apply_fault v e ≡ None) where
  rises : v.next_file ≤ e.next_file
  rises = ltb-false e.next_file v.next_file (or_parts _ _ (passes v e ok).counted).0

  -- what an edit removes is a file of the version
  listed : (n : ℕ) → IsIn n e.removed → (f : FileMeta) × IsIn f v.files × (f.number ≡ n)
  listed n m =
      let there : list_any (has_number n) v.files ≡ true = not-false (list_any (has_number n) v.files) (none_is (λ k. not (list_any (has_number k) v.files)) e.removed (passes v e ok).present n m) in
      let found = any_is (has_number n) v.files there in
      (found.0, found.1, eqb-true found.0.number n found.2)

  came : (f : FileMeta) → IsIn f (files_after v.files e) → IsIn f v.files ⊎ (v.next_file ≤ f.number)
  came f m = elim (IsIn-append_cases f (files_without e.removed v.files) e.added m) [
    | inl a ↦ inl (IsIn-filter (stays e.removed) f v.files a).0
    | inr b ↦ inr (fresh_added v e ok f b)
  ]

  below_after : AreBelow v → AreBelow (after_apply v e)
  below_after below f m = elim (IsIn-append_cases f (files_without e.removed v.files) e.added m) [
    | inl a ↦ let lt = below f (IsIn-filter (stays e.removed) f v.files a).0 in let up = rises in omega (arith, lt, up)
    | inr b ↦ leb-false e.next_file f.number (none_is (λ (g : FileMeta). leb e.next_file g.number) e.added (or_parts _ _ (passes v e ok).counted).1 f b)
  ]

  -- a file that goes is not there afterwards
  gone : AreBelow v → (f : FileMeta) → IsIn f.number e.removed → IsIn f (files_after v.files e) → ⊥
  gone below f r m = elim (IsIn-append_cases f (files_without e.removed v.files) e.added m) [
    | inl a ↦
        let kept : not (list_any (λ n. has_number n f) e.removed) ≡ true = (IsIn-filter (stays e.removed) f v.files a).1 in
        let other : has_number f.number f ≡ false = none_is (λ n. has_number n f) e.removed (not-true (list_any (λ n. has_number n f) e.removed) kept) f.number r in
        let bad : true ≡ false = sym (eq-eqb f.number f.number refl) ∙ other in
        absurd cc
    | inr b ↦
        let was = listed f.number r in
        let lt = below was.0 was.1 in
        let new = fresh_added v e ok f b in
        let same = was.2 in
        absurd (omega (arith, lt, new, same))
  ]

-- ---- edits in turn

since : (v : VersionValue) (es : List Edit) → Apply v es → (w : VersionValue) → IsIn w (versions_from v es) → (f : FileMeta) → IsIn f w.files → IsIn f v.files ⊎ (v.next_file ≤ f.number)
since v [] ok w m f i = elim m [ inl same ↦ inl (subst (λ (x : VersionValue). IsIn f x.files) same i) | inr none ↦ absurd none ]
since v (e ∷ es) ok w m f i = elim m [
  | inl same ↦ inl (subst (λ (x : VersionValue). IsIn f x.files) same i)
  | inr later ↦ elim (since (after_apply v e) es ok.1 w later f i) [
    | inl there ↦ came v e ok.0 f there
    | inr new ↦ inr (let up = rises v e ok.0 in omega (arith, up, new))
  ]
]

-- an edit of the list applies to one of the versions
its_version : (v : VersionValue) (es : List Edit) → Apply v es → (e : Edit) → IsIn e es → (w : VersionValue) × IsIn w (versions_from v es) × (apply_fault w e ≡ None)
its_version v [] ok e m = absurd m
its_version v (x ∷ es) ok e m = elim m [
  | inl same ↦ (v, inl refl, subst (λ (y : Edit). apply_fault v y ≡ None) (sym same) ok.0)
  | inr later ↦ let found = its_version (after_apply v x) es ok.1 e later in (found.0, inr found.1, found.2)
]

-- ---- no file is removed twice

module _ (v : VersionValue) (e : Edit) (es : List Edit) (below : AreBelow v) (ok : apply_fault v e ≡ None) (rest : Apply (after_apply v e) es) where
  once : (n : ℕ) → IsIn n e.removed → (later : Edit) → IsIn later es → IsIn n later.removed → ⊥
  once n m later i k =
      let was = listed v e ok n m in
      let at = its_version (after_apply v e) es rest later i in
      let file = listed at.0 later at.2 n k in
      let number : file.0.number ≡ n = file.2 in
      elim (since (after_apply v e) es rest at.0 at.1 file.0 file.1) [
        | inl there ↦ gone v e ok below file.0 (subst (λ (k : ℕ). IsIn k e.removed) (sym number) m) there
        | inr new ↦ let lt = below was.0 was.1 in let same = was.2 in let up = rises v e ok in absurd (omega (arith, lt, same, number, new, up))
      ]

once_from : (v : VersionValue) (es : List Edit) → AreBelow v → Apply v es → RemovedOnce es
once_from v [] below ok = tt
once_from v (e ∷ es) below ok = (once v e es below ok.0 ok.1, once_from (after_apply v e) es (below_after v e ok.0 below) ok.1)

pub removed_once : NoFileIsRemovedTwice
removed_once v es is ok = once_from v es is.below ok

-- ---- a number names one file

-- one file is of the first version
from_the_first : (v : VersionValue) (es : List Edit) → IsVersion v → Apply v es → (w : VersionValue) → IsIn w (versions_from v es) → (f g : FileMeta) → IsIn f v.files → IsIn g w.files → f.number ≡ g.number → f ≡ g
from_the_first v es is ok w m f g i k same = elim (since v es ok w m g k) [
  | inl there ↦ one_number v.files is.rising f g i there same
  | inr new ↦ let lt = is.below f i in absurd (omega (arith, lt, new, same))
]

rest_of : (v : VersionValue) (e : Edit) (es : List Edit) → IsEditHistory v (e ∷ es) → IsEditHistory (after_apply v e) es
rest_of v e es h = record {
  start = applied_is v e h.start (h.each e (inl refl)) h.apply.0;
  each = λ x m. h.each x (inr m);
  apply = h.apply.1;
}

pub one_file : ANumberNamesOneFile
one_file v [] h one other m n f g i k same = elim m [
  | inl a ↦ from_the_first v [] h.start h.apply other n f g (subst (λ (x : VersionValue). IsIn f x.files) a i) k same
  | inr none ↦ absurd none
]
one_file v (e ∷ es) h one other m n f g i k same = elim m [
  | inl a ↦ from_the_first v (e ∷ es) h.start h.apply other n f g (subst (λ (x : VersionValue). IsIn f x.files) a i) k same
  | inr a ↦ elim n [
    | inl b ↦ sym (from_the_first v (e ∷ es) h.start h.apply one (inr a) g f (subst (λ (x : VersionValue). IsIn g x.files) b k) i (sym same))
    | inr b ↦ one_file (after_apply v e) es (rest_of v e es h) one other a b f g i k same
  ]
]
