-- The files of a version with their tables, put in the order of a search.
use Rattle.std.proofs.Common.{◌≡◌, suc, Bool, true, false, cond, List, [], ◌∷◌, ◌++◌, length, map, refl, sym, ap, subst, ◌∙◌, arith, inl, inr, ◌⊎◌}
use Rattle.std.specs.List.{list_any}
use Rattle.std.proofs.lemmas.Bool.{or_parts}
use Rattle.lsm_key.specs.Sets.{IsIn, SameMembers}
use Rattle.lsm_key.proofs.Membership.{IsIn-map, IsIn-mapped}
use Rattle.lsm_key.specs.Order.{key_le}
use Rattle.lsm_table.specs.Tables.{Opened}
use Rattle.lsm_edit.specs.declared.file.FileMeta.{FileMeta}
use Rattle.lsm_edit.specs.declared.served.Placed.{Placed}
use Rattle.lsm_edit.specs.Version.{VersionValue, IsVersion, FileNumbersRise, has_overlap, clashes}
use Rattle.lsm_edit.specs.Served.{IsAsRecorded, AreAsRecorded, AllRecorded, is_before, AreInSearchOrder, placed_of, put_in_order, put_all, in_order, IsServed}
use Rattle.lsm_edit.proofs.SearchOrder.{Apart, apart, before_of, before_is, before_trans}

-- ---- a place put among others in order

-- the members are p and those of qs
abbrev pub Adds : Placed → List Placed → List Placed → Type 0
Adds p qs rs = (x : Placed) → (IsIn x rs → (x ≡ p) ⊎ IsIn x qs) × ((x ≡ p) ⊎ IsIn x qs → IsIn x rs)

adds_later : (p q : Placed) (qs rs : List Placed) → Adds p qs rs → Adds p (q ∷ qs) (q ∷ rs)
adds_later p q qs rs h x = (
  λ m. elim m [ inl e ↦ inr (inl e) | inr n ↦ elim ((h x).0 n) [ inl e ↦ inl e | inr k ↦ inr (inr k) ] ],
  λ m. elim m [ inl e ↦ inr ((h x).1 (inl e)) | inr n ↦ elim n [ inl e ↦ inl e | inr k ↦ inr ((h x).1 (inr k)) ] ],
)

adds_either : (b : Bool) (p : Placed) (qs rs ss : List Placed) → Adds p qs rs → Adds p qs ss → Adds p qs (cond b rs ss)
adds_either true p qs rs ss h k = h
adds_either false p qs rs ss h k = k

pub put_members : (p : Placed) (qs : List Placed) → Adds p qs (put_in_order p qs)
put_members p [] = λ x. (λ m. m, λ m. m)
put_members p (q ∷ qs) = adds_either (is_before p.meta q.meta) p (q ∷ qs) (p ∷ q ∷ qs) (q ∷ put_in_order p qs) (λ x. (λ m. m, λ m. m)) (adds_later p q qs (put_in_order p qs) (put_members p qs))

abbrev pub AreWhole : List Placed → Type 0
AreWhole ps = (p : Placed) → IsIn p ps → key_le p.meta.smallest p.meta.largest ≡ true

-- p stands apart from the others
abbrev pub StandsApart : Placed → List Placed → Type 0
StandsApart p qs = (q : Placed) → IsIn q qs → Apart p.meta q.meta

-- p comes first
put_here : (p q : Placed) (qs : List Placed) → AreWhole (q ∷ qs) → is_before p.meta q.meta ≡ true → AreInSearchOrder (q ∷ qs) → AreInSearchOrder (p ∷ q ∷ qs)
put_here p q qs whole first up = (
  λ r m. elim m [
    | inl e ↦ subst (λ (x : Placed). is_before p.meta x.meta ≡ true) (sym e) first
    | inr n ↦ before_is p.meta r.meta (before_trans p.meta q.meta r.meta (whole q (inl refl)) (before_of p.meta q.meta first) (before_of q.meta r.meta (up.0 r n)))
  ],
  up,
)

the_other : (a b : Bool) → a ≡ false → (a ≡ true) ⊎ (b ≡ true) → b ≡ true
the_other a b h (inl e) = absurd (cc (e, h))
the_other a b h (inr e) = e

-- p comes among the others
put_later : (p q : Placed) (qs : List Placed) → Apart p.meta q.meta → is_before p.meta q.meta ≡ false → AreInSearchOrder (q ∷ qs) → AreInSearchOrder (put_in_order p qs) → AreInSearchOrder (q ∷ put_in_order p qs)
put_later p q qs out later up rest = (
  λ r m. elim ((put_members p qs r).0 m) [
    | inl e ↦ subst (λ (x : Placed). is_before q.meta x.meta ≡ true) (sym e) (the_other (is_before p.meta q.meta) (is_before q.meta p.meta) later out)
    | inr n ↦ up.0 r n
  ],
  rest,
)

ordered_either : (b : Bool) (rs ss : List Placed) → (b ≡ true → AreInSearchOrder rs) → (b ≡ false → AreInSearchOrder ss) → AreInSearchOrder (cond b rs ss)
ordered_either true rs ss h k = h refl
ordered_either false rs ss h k = k refl

pub put_ordered : (p : Placed) (qs : List Placed) → AreWhole qs → StandsApart p qs → AreInSearchOrder qs → AreInSearchOrder (put_in_order p qs)
put_ordered p [] whole out up = (λ q m. absurd m, tt)
put_ordered p (q ∷ qs) whole out up =
    let rest = put_ordered p qs (λ r m. whole r (inr m)) (λ r m. out r (inr m)) up.1 in
    ordered_either (is_before p.meta q.meta) (p ∷ q ∷ qs) (q ∷ put_in_order p qs) (λ first. put_here p q qs whole first up) (λ later. put_later p q qs (out q (inl refl)) later up rest)

-- ---- all places put in order

pub in_order-members : (ps : List Placed) → SameMembers (in_order ps) ps
in_order-members [] x = (λ m. m, λ m. m)
in_order-members (p ∷ ps) x = (
  λ m. elim ((put_members p (in_order ps) x).0 m) [ inl e ↦ inl e | inr n ↦ inr ((in_order-members ps x).0 n) ],
  λ m. (put_members p (in_order ps) x).1 (elim m [ inl e ↦ inl e | inr n ↦ inr ((in_order-members ps x).1 n) ]),
)

abbrev pub AreApart : List Placed → Type 0
AreApart [] = Unit {0}
AreApart (p ∷ ps) = StandsApart p ps × AreApart ps

in_order-ordered : (ps : List Placed) → AreWhole ps → AreApart ps → AreInSearchOrder (in_order ps)
in_order-ordered [] whole out = tt
in_order-ordered (p ∷ ps) whole out =
    put_ordered p (in_order ps) (λ q m. whole q (inr ((in_order-members ps q).0 m))) (λ q m. out.0 q ((in_order-members ps q).0 m))
    (in_order-ordered ps (λ q m. whole q (inr m)) out.1)

-- ---- the files of a version with their tables

pub placed_meta : (fs : List FileMeta) (ts : List Opened) (p : Placed) → IsIn p (placed_of fs ts) → IsIn p.meta fs
placed_meta [] ts p m = absurd m
placed_meta (f ∷ fs) [] p m = absurd m
placed_meta (f ∷ fs) (t ∷ ts) p m = elim m [ inl e ↦ inl (ap (λ (x : Placed). x.meta) e) | inr n ↦ inr (placed_meta fs ts p n) ]

pub placed_in : (fs : List FileMeta) (ts : List Opened) (f : FileMeta) → AreAsRecorded fs ts → IsIn f fs → IsIn f (map (λ (p : Placed). p.meta) (placed_of fs ts))
placed_in [] ts f rec m = absurd m
placed_in (g ∷ fs) [] f rec m = absurd rec
placed_in (g ∷ fs) (t ∷ ts) f rec m = elim m [ inl e ↦ inl e | inr n ↦ inr (placed_in fs ts f rec.1 n) ]

pub placed_recorded : (fs : List FileMeta) (ts : List Opened) → AreAsRecorded fs ts → AllRecorded (placed_of fs ts)
placed_recorded [] ts rec p m = absurd m
placed_recorded (f ∷ fs) [] rec p m = absurd m
placed_recorded (f ∷ fs) (t ∷ ts) rec p m = elim m [ inl e ↦ subst (λ (x : Placed). IsAsRecorded x.meta x.table) (sym e) rec.0 | inr n ↦ placed_recorded fs ts rec.1 p n ]

pub clear_of : (f : FileMeta) (fs : List FileMeta) → list_any (clashes f) fs ≡ false → (g : FileMeta) → IsIn g fs → clashes f g ≡ false
clear_of f [] h g m = absurd m
clear_of f (x ∷ fs) h g m =
    let parts = or_parts (clashes f x) (list_any (clashes f) fs) h in
    elim m [ inl e ↦ subst (λ (y : FileMeta). clashes f y ≡ false) (sym e) parts.0 | inr n ↦ clear_of f fs parts.1 g n ]

pub placed_apart : (fs : List FileMeta) (ts : List Opened) → FileNumbersRise fs → has_overlap fs ≡ false → AreApart (placed_of fs ts)
placed_apart [] ts up none = tt
placed_apart (f ∷ fs) [] up none = tt
placed_apart (f ∷ fs) (t ∷ ts) up none =
    let parts = or_parts (list_any (clashes f) fs) (has_overlap fs) none in
    (λ q m. let n = placed_meta fs ts q m in apart f q.meta (up.0 q.meta n) (clear_of f fs parts.0 q.meta n), placed_apart fs ts up.1 parts.1)

pub rebased : (v : VersionValue) (ts : List Opened) → IsVersion v → AreAsRecorded v.files ts → IsServed (record { version = v; places = in_order (placed_of v.files ts) })
rebased v ts is rec =
    let ps = placed_of v.files ts in
    record {
      ordered = in_order-ordered ps (λ p m. (is.files p.meta (placed_meta v.files ts p m)).ordered) (placed_apart v.files ts is.rising is.disjoint);
      listed = λ f. (
        λ m. let p = IsIn-mapped (λ (q : Placed). q.meta) f (in_order ps) m in subst (λ (g : FileMeta). IsIn g v.files) (sym p.2) (placed_meta v.files ts p.0 ((in_order-members ps p.0).0 p.1)),
        λ m. let p = IsIn-mapped (λ (q : Placed). q.meta) f ps (placed_in v.files ts f rec m) in subst (λ (g : FileMeta). IsIn g (map (λ (q : Placed). q.meta) (in_order ps))) (sym p.2) (IsIn-map (λ (q : Placed). q.meta) p.0 (in_order ps) ((in_order-members ps p.0).1 p.1)),
      );
      recorded = λ p m. placed_recorded v.files ts rec p ((in_order-members ps p).0 m);
    }

pub as_many : (fs : List FileMeta) (ts : List Opened) → AreAsRecorded fs ts → length fs ≡ length ts
as_many [] [] rec = refl
as_many [] (t ∷ ts) rec = absurd rec
as_many (f ∷ fs) [] rec = absurd rec
as_many (f ∷ fs) (t ∷ ts) rec = ap suc (as_many fs ts rec.1)

-- ---- places put one after another

pub put_all-last : (ps : List Placed) (p : Placed) (qs : List Placed) → put_all (ps ++ p ∷ []) qs ≡ put_all ps (put_in_order p qs)
put_all-last [] p qs = refl
put_all-last (x ∷ ps) p qs = ap (put_in_order x) (put_all-last ps p qs)

placed_last : (fs : List FileMeta) (ts : List Opened) (f : FileMeta) (t : Opened) → length fs ≡ length ts → placed_of (fs ++ f ∷ []) (ts ++ t ∷ []) ≡ placed_of fs ts ++ record { meta = f; table = t } ∷ []
placed_last [] [] f t same = refl
placed_last [] (u ∷ ts) f t same = absurd (omega (arith, same))
placed_last (g ∷ fs) [] f t same = absurd (omega (arith, same))
placed_last (g ∷ fs) (u ∷ ts) f t same = ap (λ (ps : List Placed). record { meta = g; table = u } ∷ ps) (placed_last fs ts f t (omega (arith, same)))

-- the last file and its table are put first
pub put_last : (fs : List FileMeta) (ts : List Opened) (f : FileMeta) (t : Opened) (qs : List Placed) → length fs ≡ length ts
    → put_all (placed_of (fs ++ f ∷ []) (ts ++ t ∷ [])) qs ≡ put_all (placed_of fs ts) (put_in_order (record { meta = f; table = t }) qs)
put_last fs ts f t qs same = ap (λ (ps : List Placed). put_all ps qs) (placed_last fs ts f t same) ∙ put_all-last (placed_of fs ts) (record { meta = f; table = t }) qs

put_length-if : (b : Bool) (p q : Placed) (qs rs : List Placed) → length rs ≡ suc (length qs) → length (cond b (p ∷ q ∷ qs) (q ∷ rs)) ≡ suc (suc (length qs))
put_length-if true p q qs rs h = refl
put_length-if false p q qs rs h = ap suc h

pub put_length : (p : Placed) (qs : List Placed) → length (put_in_order p qs) ≡ suc (length qs)
put_length p [] = refl
put_length p (q ∷ qs) = put_length-if (is_before p.meta q.meta) p q qs (put_in_order p qs) (put_length p qs)
