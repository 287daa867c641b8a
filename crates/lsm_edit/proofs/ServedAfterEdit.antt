-- A version with its tables after an edit: each file has its table, and the places stay in the order of a search.
use Rattle.std.proofs.Common.{◌≡◌, ℕ, ◌<◌, Bool, true, false, cond, List, [], ◌∷◌, ◌++◌, None, filter, map, refl, sym, ap, subst, ◌∙◌, arith, inl, inr, ◌⊎◌}
use Rattle.std.specs.List.{list_any}
use Rattle.std.proofs.lemmas.Bool.{or_parts}
use Rattle.lsm_key.specs.Sets.{IsIn}
use Rattle.lsm_key.specs.Order.{key_le}
use Rattle.lsm_key.proofs.AscendingEntries.{IsIn-filter}
use Rattle.lsm_key.proofs.Lists.{IsIn-kept}
use Rattle.lsm_key.proofs.Membership.{IsIn-map, IsIn-mapped, IsIn-append_cases, IsIn-append_left, IsIn-append_right}
use Rattle.lsm_table.specs.Tables.{Opened}
use Rattle.lsm_edit.specs.declared.file.FileMeta.{FileMeta}
use Rattle.lsm_edit.specs.declared.edit.Edit.{Edit}
use Rattle.lsm_edit.specs.declared.served.Placed.{Placed}
use Rattle.lsm_edit.specs.Edit.{IsEdit}
use Rattle.lsm_edit.specs.Version.{IsVersion, FileNumbersRise, files_without, files_after, has_overlap, clashes, apply_fault, after_apply}
use Rattle.lsm_edit.specs.Served.{AreAsRecorded, AreInSearchOrder, ServedValue, is_before, placed_of, put_all, places_without, after_advance, IsServed}
use Rattle.lsm_edit.proofs.VersionLaws.{stays, fresh_added, applied_is, added_rises}
use Rattle.lsm_edit.proofs.SearchOrder.{Apart, apart}
use Rattle.lsm_edit.proofs.AdvancedPlaces.{listed_below}
use Rattle.lsm_edit.proofs.PlacesInOrder.{AreWhole, StandsApart, AreApart, put_members, put_ordered, placed_meta, placed_in, placed_recorded, placed_apart, clear_of}

-- ---- places put among others

pub put_all-members : (ps qs : List Placed) (x : Placed) → (IsIn x (put_all ps qs) → IsIn x ps ⊎ IsIn x qs) × (IsIn x ps ⊎ IsIn x qs → IsIn x (put_all ps qs))
put_all-members [] qs x = (λ m. inr m, λ m. elim m [ inl a ↦ absurd a | inr b ↦ b ])
put_all-members (p ∷ ps) qs x = (
  λ m. elim ((put_members p (put_all ps qs) x).0 m) [ inl e ↦ inl (inl e) | inr n ↦ elim ((put_all-members ps qs x).0 n) [ inl a ↦ inl (inr a) | inr b ↦ inr b ] ],
  λ m. (put_members p (put_all ps qs) x).1 (elim m [
    | inl a ↦ elim a [ inl e ↦ inl e | inr n ↦ inr ((put_all-members ps qs x).1 (inl n)) ]
    | inr b ↦ inr ((put_all-members ps qs x).1 (inr b))
  ]),
)

pub put_all-ordered : (ps qs : List Placed) → AreWhole ps → AreWhole qs → AreApart ps → ((p : Placed) → IsIn p ps → StandsApart p qs) → AreInSearchOrder qs → AreInSearchOrder (put_all ps qs)
put_all-ordered [] qs whole wholes out outs up = up
put_all-ordered (p ∷ ps) qs whole wholes out outs up =
    put_ordered p (put_all ps qs) (λ q m. elim ((put_all-members ps qs q).0 m) [ inl a ↦ whole q (inr a) | inr b ↦ wholes q b ])
    (λ q m. elim ((put_all-members ps qs q).0 m) [ inl a ↦ out.0 q a | inr b ↦ outs p (inl refl) q b ])
    (put_all-ordered ps qs (λ q m. whole q (inr m)) wholes out.1 (λ q m. outs q (inr m)) up)

-- ---- places that stay

ordered-if : (b : Bool) (p : Placed) (kept : List Placed) → ((q : Placed) → IsIn q kept → is_before p.meta q.meta ≡ true) → AreInSearchOrder kept → AreInSearchOrder (cond b (p ∷ kept) kept)
ordered-if true p kept first up = (first, up)
ordered-if false p kept first up = up

pub ordered-filter : (test : Placed → Bool) (ps : List Placed) → AreInSearchOrder ps → AreInSearchOrder (filter test ps)
ordered-filter test [] up = tt
ordered-filter test (p ∷ ps) up = ordered-if (test p) p (filter test ps) (λ q m. up.0 q (IsIn-filter test q ps m).0) (ordered-filter test ps up.1)

ordered-without : (numbers : List ℕ) (ps : List Placed) → AreInSearchOrder ps → AreInSearchOrder (places_without numbers ps)
ordered-without numbers ps up = ordered-filter (λ p. stays numbers p.meta) ps up

-- ---- files of one version

pub apart_in : (fs : List FileMeta) → FileNumbersRise fs → has_overlap fs ≡ false → (f g : FileMeta) → IsIn f fs → IsIn g fs → f.number < g.number → Apart f g
apart_in [] up none f g m n lt = absurd m
apart_in (x ∷ fs) up none f g m n lt =
    let parts = or_parts (list_any (clashes x) fs) (has_overlap fs) none in
    elim m [
      | inl first ↦ elim n [
        | inl both ↦ let same : f.number ≡ g.number = ap (λ (h : FileMeta). h.number) (first ∙ sym both) in absurd (omega arith)
        | inr later ↦ apart f g lt (subst (λ (h : FileMeta). clashes h g ≡ false) (sym first) (clear_of x fs parts.0 g later))
      ]
      | inr in_rest ↦ elim n [
        | inl first ↦ let more = up.0 f in_rest in let same : g.number ≡ x.number = ap (λ (h : FileMeta). h.number) first in absurd (omega arith)
        | inr later ↦ apart_in fs up.1 parts.1 f g in_rest later lt
      ]
    ]

overlap-right : (fs gs : List FileMeta) → has_overlap (fs ++ gs) ≡ false → has_overlap gs ≡ false
overlap-right [] gs none = none
overlap-right (f ∷ fs) gs none = overlap-right fs gs (or_parts (list_any (clashes f) (fs ++ gs)) (has_overlap (fs ++ gs)) none).1

pub either_way : (f g : FileMeta) → Apart f g → Apart g f
either_way f g (inl a) = inr a
either_way f g (inr b) = inl b

-- ---- the version and its places after an edit

module _ (s : ServedValue) (edit : Edit) (tables : List Opened) (ver : IsVersion s.version) (is : IsServed s) (ok : IsEdit edit) (rec : AreAsRecorded edit.added tables) (none : apply_fault s.version edit ≡ None) where
  abbrev files : List FileMeta
  files = files_after s.version.files edit

  after : IsVersion (after_apply s.version edit)
  after = applied_is s.version edit ver ok none

  abbrev added : List Placed
  added = placed_of edit.added tables

  abbrev kept : List Placed
  kept = places_without edit.removed s.places

  added_file : (p : Placed) → IsIn p added → IsIn p.meta files
  added_file p m = IsIn-append_right p.meta (files_without edit.removed s.version.files) edit.added (placed_meta edit.added tables p m)

  kept_file : (p : Placed) → IsIn p kept → IsIn p.meta files
  kept_file p m =
      let k = IsIn-filter (λ (x : Placed). stays edit.removed x.meta) p s.places m in
      IsIn-append_left p.meta (files_without edit.removed s.version.files) edit.added (IsIn-kept (stays edit.removed) p.meta s.version.files ((is.listed p.meta).0 (IsIn-map (λ (x : Placed). x.meta) p s.places k.0)) k.1)

  whole_file : (f : FileMeta) → IsIn f files → key_le f.smallest f.largest ≡ true
  whole_file f m = (after.files f m).ordered

  apart_places : (p : Placed) → IsIn p added → StandsApart p kept
  apart_places p m q n =
      let low = listed_below s ver is q (IsIn-filter (λ (x : Placed). stays edit.removed x.meta) q s.places n).0 in
      let high = fresh_added s.version edit none p.meta (placed_meta edit.added tables p m) in
      either_way q.meta p.meta (apart_in files after.rising after.disjoint q.meta p.meta (kept_file q n) (added_file p m) (omega arith))

  listed_there : (f : FileMeta) → IsIn f (map (λ (p : Placed). p.meta) (put_all added kept)) → IsIn f files
  listed_there f m =
      let p = IsIn-mapped (λ (q : Placed). q.meta) f (put_all added kept) m in
      subst (λ (g : FileMeta). IsIn g files) (sym p.2) (elim ((put_all-members added kept p.0).0 p.1) [ inl a ↦ added_file p.0 a | inr b ↦ kept_file p.0 b ])

  listed_back : (f : FileMeta) → IsIn f files → IsIn f (map (λ (p : Placed). p.meta) (put_all added kept))
  listed_back f m = elim (IsIn-append_cases f (files_without edit.removed s.version.files) edit.added m) [
    | inl a ↦
        let k = IsIn-filter (stays edit.removed) f s.version.files a in
        let p = IsIn-mapped (λ (q : Placed). q.meta) f s.places ((is.listed f).1 k.0) in
        let there : IsIn p.0 kept = IsIn-kept (λ (x : Placed). stays edit.removed x.meta) p.0 s.places p.1 (subst (λ (g : FileMeta). stays edit.removed g ≡ true) p.2 k.1) in
        subst (λ (g : FileMeta). IsIn g (map (λ (q : Placed). q.meta) (put_all added kept))) (sym p.2) (IsIn-map (λ (q : Placed). q.meta) p.0 (put_all added kept) ((put_all-members added kept p.0).1 (inr there)))
    | inr b ↦
        let p = IsIn-mapped (λ (q : Placed). q.meta) f added (placed_in edit.added tables f rec b) in
        subst (λ (g : FileMeta). IsIn g (map (λ (q : Placed). q.meta) (put_all added kept))) (sym p.2) (IsIn-map (λ (q : Placed). q.meta) p.0 (put_all added kept) ((put_all-members added kept p.0).1 (inl p.1)))
  ]

  pub served_after : IsServed (after_advance s edit tables)
  served_after = record {
    ordered = put_all-ordered added kept (λ p m. whole_file p.meta (added_file p m)) (λ p m. whole_file p.meta (kept_file p m))
        (placed_apart edit.added tables (added_rises edit ok) (overlap-right (files_without edit.removed s.version.files) edit.added after.disjoint))
        apart_places (ordered-without edit.removed s.places is.ordered);
    listed = λ f. (listed_there f, listed_back f);
    recorded = λ p m. elim ((put_all-members added kept p).0 m) [
      | inl a ↦ placed_recorded edit.added tables rec p a
      | inr b ↦ is.recorded p (IsIn-filter (λ (x : Placed). stays edit.removed x.meta) p s.places b).0
    ];
  }
