-- A version with its tables after another version took its place: each file has its table, and the places stay in the order of a search.
use Rattle.std.proofs.Common.{◌≡◌, Bool, true, not, List, [], ◌∷◌, filter, map, refl, sym, ap, subst, ◌∙◌, inl, inr, ◌⊎◌}
use Rattle.std.proofs.lemmas.Bool.{cases_Bool, cases_order, not-true, true≢false}
use Rattle.lsm_key.specs.Sets.{IsIn}
use Rattle.lsm_key.specs.Order.{key_le}
use Rattle.lsm_key.proofs.AscendingEntries.{IsIn-filter}
use Rattle.lsm_key.proofs.Lists.{IsIn-kept}
use Rattle.lsm_key.proofs.Membership.{IsIn-map, IsIn-mapped}
use Rattle.lsm_edit.specs.declared.file.FileMeta.{FileMeta}
use Rattle.lsm_edit.specs.declared.served.Placed.{Placed}
use Rattle.lsm_edit.specs.Version.{IsVersion, VersionValue, is_listed}
use Rattle.lsm_edit.specs.Served.{AreDistinct, AreLacking, IsServed, ServedValue, after_rebase, put_all}
use Rattle.lsm_edit.proofs.ListedFiles.{in_listed, listed_in}
use Rattle.lsm_edit.proofs.PlacesInOrder.{AreApart, StandsApart}
use Rattle.lsm_edit.proofs.SearchOrder.{Apart}
use Rattle.lsm_edit.proofs.ServedAfterEdit.{apart_in, either_way, ordered-filter, put_all-members, put_all-ordered}
use Rattle.lsm_edit.proofs.ServedPlaces.{one_number}

-- the places that stay, and among them those that came
pub places_after : (s : ServedValue) (v : VersionValue) (received : List Placed) {old kept : List Placed} → old ≡ s.places → kept ≡ filter (λ p. is_listed v.files p.meta) old → put_all received kept ≡ (after_rebase s v received).places
places_after s v received was stay = ap (put_all received) (stay ∙ ap (filter (λ p. is_listed v.files p.meta)) was)

module _ (s : ServedValue) (v : VersionValue) (received : List Placed) (ver : IsVersion v) (is : IsServed s) (lacks : AreLacking s.version v received) where
  abbrev stays : Placed → Bool
  stays p = is_listed v.files p.meta

  abbrev kept : List Placed
  kept = filter stays s.places

  -- a file that came is one of those that were lacking
  lacked : (p : Placed) → IsIn p received → IsIn p.meta v.files × (not (is_listed s.version.files p.meta) ≡ true)
  lacked p m = IsIn-filter (λ (f : FileMeta). not (is_listed s.version.files f)) p.meta v.files ((lacks.files p.meta).0 (IsIn-map (λ (q : Placed). q.meta) p received m))

  kept_file : (p : Placed) → IsIn p kept → IsIn p.meta v.files
  kept_file p m = listed_in v.files p.meta (IsIn-filter stays p s.places m).1

  was_listed : (p : Placed) → IsIn p kept → is_listed s.version.files p.meta ≡ true
  was_listed p m = in_listed s.version.files p.meta ((is.listed p.meta).0 (IsIn-map (λ (q : Placed). q.meta) p s.places (IsIn-filter stays p s.places m).0))

  whole : (f : FileMeta) → IsIn f v.files → key_le f.smallest f.largest ≡ true
  whole f m = (ver.files f m).ordered

  -- two files of the version are apart
  two_apart : (f g : FileMeta) → IsIn f v.files → IsIn g v.files → (f ≡ g → ⊥) → Apart f g
  two_apart f g m n differ = elim (cases_order f.number g.number) [
    | inl same ↦ absurd (differ (one_number v.files ver.rising f g m n same))
    | inr (inl less) ↦ apart_in v.files ver.rising ver.disjoint f g m n less
    | inr (inr more) ↦ either_way g f (apart_in v.files ver.rising ver.disjoint g f n m more)
  ]

  all_apart : (ps : List Placed) → ((p : Placed) → IsIn p ps → IsIn p.meta v.files) → AreDistinct ps → AreApart ps
  all_apart [] listed once = tt
  all_apart (p ∷ ps) listed once = (λ q m. two_apart p.meta q.meta (listed p (inl refl)) (listed q (inr m)) (once.0 q m), all_apart ps (λ q m. listed q (inr m)) once.1)

  kept_apart : (p : Placed) → IsIn p received → StandsApart p kept
  kept_apart p m q n = two_apart p.meta q.meta (lacked p m).0 (kept_file q n) (λ same.
      true≢false (sym (was_listed q n) ∙ ap (is_listed s.version.files) (sym same) ∙ not-true (is_listed s.version.files p.meta) (lacked p m).1))

  abbrev places : List Placed
  places = put_all received kept

  from : (p : Placed) → IsIn p places → IsIn p received ⊎ IsIn p kept
  from p = (put_all-members received kept p).0

  placed_there : (f : FileMeta) (p : Placed) → f ≡ p.meta → IsIn p received ⊎ IsIn p kept → IsIn f (map (λ (q : Placed). q.meta) places)
  placed_there f p e m = subst (λ (g : FileMeta). IsIn g (map (λ (q : Placed). q.meta) places)) (sym e) (IsIn-map (λ (q : Placed). q.meta) p places ((put_all-members received kept p).1 m))

  listed_there : (f : FileMeta) → IsIn f (map (λ (p : Placed). p.meta) places) → IsIn f v.files
  listed_there f m =
      let p = IsIn-mapped (λ (q : Placed). q.meta) f places m in
      subst (λ (g : FileMeta). IsIn g v.files) (sym p.2) (elim (from p.0 p.1) [ inl came ↦ (lacked p.0 came).0 | inr stayed ↦ kept_file p.0 stayed ])

  listed_back : (f : FileMeta) → IsIn f v.files → IsIn f (map (λ (p : Placed). p.meta) places)
  listed_back f m = elim (cases_Bool (is_listed s.version.files f)) [
    | inl held ↦
        let p = IsIn-mapped (λ (q : Placed). q.meta) f s.places ((is.listed f).1 (listed_in s.version.files f held)) in
        placed_there f p.0 p.2 (inr (IsIn-kept stays p.0 s.places p.1 (in_listed v.files p.0.meta (subst (λ (g : FileMeta). IsIn g v.files) p.2 m))))
    | inr other ↦
        let p = IsIn-mapped (λ (q : Placed). q.meta) f received ((lacks.files f).1 (IsIn-kept (λ (g : FileMeta). not (is_listed s.version.files g)) f v.files m (ap not other))) in
        placed_there f p.0 p.2 (inl p.1)
  ]

  pub served_after_rebase : IsServed (after_rebase s v received)
  served_after_rebase = record {
    ordered = put_all-ordered received kept (λ p m. whole p.meta (lacked p m).0) (λ p m. whole p.meta (kept_file p m))
        (all_apart received (λ p m. (lacked p m).0) lacks.once) kept_apart (ordered-filter stays s.places is.ordered);
    listed = λ f. (listed_there f, listed_back f);
    recorded = λ p m. elim (from p m) [ inl came ↦ lacks.recorded p came | inr stayed ↦ is.recorded p (IsIn-filter stays p s.places stayed).0 ];
  }
