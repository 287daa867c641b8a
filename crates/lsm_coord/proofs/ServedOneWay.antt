-- A version with its tables has one list of places for its files and the bytes of their tables.
use Rattle.std.proofs.Common.{◌≡◌, ℕ, true, List, [], ◌∷◌, Some, inl, inr, refl, sym, ap, subst, ◌∙◌}
use Rattle.std.specs.FinMap.{get}
use Rattle.std.proofs.lemmas.Option.{same_Some}
use Rattle.lsm_key.specs.Sets.{IsIn}
use Rattle.lsm_key.specs.Order.{key_le}
use Rattle.lsm_key.proofs.Membership.{IsIn-map, IsIn-mapped}
use Rattle.lsm_table.specs.Tables.{IsTable}
use Rattle.lsm_table.proofs.TableContents.{table_one}
use Rattle.lsm_edit.specs.declared.file.FileMeta.{FileMeta}
use Rattle.lsm_edit.specs.declared.served.Placed.{Placed}
use Rattle.lsm_edit.specs.Served.{AreInSearchOrder, IsAsRecorded, IsServed, ServedValue, is_before}
use Rattle.lsm_edit.specs.Version.{IsVersion}
use Rattle.lsm_edit.proofs.SearchOrder.{before_of, before_trans}
use Rattle.lsm_edit.proofs.ServedPlaces.{not_itself}
use Rattle.lsm_vault.specs.Stored.{TableMap}
use Rattle.lsm_versions.specs.Opening.{ArePlacesKept}

-- ---- two lists in search order that have the same members are one

-- the range of the file is in order
abbrev pub IsWhole : Placed → Type 0
IsWhole p = key_le p.meta.smallest p.meta.largest ≡ true

-- of two files only one comes before the other
never_both : (p q : Placed) → IsWhole p → IsWhole q → is_before p.meta q.meta ≡ true → is_before q.meta p.meta ≡ true → ⊥
never_both p q wp wq h k = not_itself p.meta wp (before_trans p.meta q.meta p.meta wq (before_of p.meta q.meta h) (before_of q.meta p.meta k))

-- the first places are the same
same_heads : (p q : Placed) (ps qs : List Placed) → ((r : Placed) → IsIn r (p ∷ ps) → IsWhole r) → AreInSearchOrder (p ∷ ps) → AreInSearchOrder (q ∷ qs) → IsIn p (q ∷ qs) → IsIn q (p ∷ ps) → p ≡ q
same_heads p q ps qs whole up down m n = elim m [
  | inl same ↦ same
  | inr later ↦ elim n [
    | inl same ↦ sym same
    | inr rest ↦ absurd (never_both p q (whole p (inl refl)) (whole q (inr rest)) (up.0 q rest) (down.0 p later))
  ]
]

-- a later place of the one list is a later one of the other
without_head : (p q r : Placed) (ps qs : List Placed) → IsWhole r → p ≡ q → AreInSearchOrder (p ∷ ps) → IsIn r ps → IsIn r (q ∷ qs) → IsIn r qs
without_head p q r ps qs whole same up m n = elim n [
  | inl head ↦ absurd (let self : is_before r.meta r.meta ≡ true = subst (λ (x : Placed). is_before x.meta r.meta ≡ true) (same ∙ sym head) (up.0 r m) in not_itself r.meta whole (before_of r.meta r.meta self))
  | inr rest ↦ rest
]

-- with the same members they are one list
pub same_list : (ps qs : List Placed) → ((r : Placed) → IsIn r ps → IsWhole r) → AreInSearchOrder ps → AreInSearchOrder qs → ((r : Placed) → IsIn r ps → IsIn r qs) → ((r : Placed) → IsIn r qs → IsIn r ps) → ps ≡ qs
same_list [] [] whole up down there back = refl
same_list [] (q ∷ qs) whole up down there back = absurd (back q (inl refl))
same_list (p ∷ ps) [] whole up down there back = absurd (there p (inl refl))
same_list (p ∷ ps) (q ∷ qs) whole up down there back =
    let first = same_heads p q ps qs whole up down (there p (inl refl)) (back q (inl refl)) in
    let rest = same_list ps qs (λ r m. whole r (inr m)) up.1 down.1
    (λ r m. without_head p q r ps qs (whole r (inr m)) first up m (there r (inr m)))
    (λ r m. without_head q p r qs ps (whole r (back r (inr m))) (sym first) down m (back r (inr m))) in
    λ i. first i ∷ rest i

-- ---- the places of one version over the same tables

-- a table's bytes have one list of entries, so two places of one file are one
same_place : (kept : TableMap) (p q : Placed) → p.meta ≡ q.meta → IsAsRecorded p.meta p.table → IsAsRecorded q.meta q.table → get kept p.meta.number ≡ Some p.table.bytes → get kept q.meta.number ≡ Some q.table.bytes → p ≡ q
same_place kept p q meta one other first second =
    let bytes : p.table.bytes ≡ q.table.bytes = same_Some _ _ (sym first ∙ ap (λ (f : FileMeta). get kept f.number) meta ∙ second) in
    let entries : p.table.entries ≡ q.table.entries = table_one q.table.bytes p.table.entries q.table.entries (subst (λ (b : List ℕ). IsTable b p.table.entries) bytes one.table) other.table in
    λ i. record { meta = meta i; table = record { bytes = bytes i; entries = entries i } }

-- a place of the one is a place of the other
placed_too : (kept : TableMap) (s t : ServedValue) → IsServed s → IsServed t → s.version.files ≡ t.version.files → ArePlacesKept kept s.places → ArePlacesKept kept t.places → (p : Placed) → IsIn p s.places → IsIn p t.places
placed_too kept s t one other files first second p m =
    let file : IsIn p.meta t.version.files = subst (IsIn p.meta) files ((one.listed p.meta).0 (IsIn-map (λ (q : Placed). q.meta) p s.places m)) in
    let found = IsIn-mapped (λ (q : Placed). q.meta) p.meta t.places ((other.listed p.meta).1 file) in
    let same = same_place kept p found.0 found.2 (one.recorded p m) (other.recorded found.0 found.1) (first p m) (second found.0 found.1) in
    subst (λ (q : Placed). IsIn q t.places) (sym same) found.1

-- Two versions of the same files, each with the tables of one vault, have the same places.
pub same_places : (kept : TableMap) (s t : ServedValue) → IsServed s → IsServed t → IsVersion s.version → s.version.files ≡ t.version.files → ArePlacesKept kept s.places → ArePlacesKept kept t.places → s.places ≡ t.places
same_places kept s t one other version files first second =
    same_list s.places t.places
    (λ p m. (version.files p.meta ((one.listed p.meta).0 (IsIn-map (λ (q : Placed). q.meta) p s.places m))).ordered)
    one.ordered other.ordered
    (placed_too kept s t one other files first second)
    (placed_too kept t s other one (sym files) second first)
