-- What an edit makes of a version with its tables.
use Rattle.std.proofs.Common.{◌≡◌, ℕ, ◌<◌, ◌≤◌, Bool, true, false, not, cond, ◌&&◌, ◌||◌, List, [], ◌∷◌, ◌++◌, None, refl, sym, ap, subst, ◌∙◌, arith, inl, inr, ◌⊎◌, eqb, ltb}
use Rattle.std.proofs.lemmas.Bool.{lt-ltb, eq-eqb, cases_order}
use Rattle.std.proofs.lemmas.List.{nil_from_length}
use Rattle.lsm_key.specs.Sets.{IsIn}
use Rattle.lsm_key.proofs.Membership.{IsIn-map}
use Rattle.lsm_key.specs.Order.{key_le}
use Rattle.lsm_table.specs.Tables.{Opened}
use Rattle.lsm_edit.specs.declared.file.FileMeta.{FileMeta}
use Rattle.lsm_edit.specs.declared.edit.Edit.{Edit}
use Rattle.lsm_edit.specs.declared.edit.EditKind.{EditKind}
use Rattle.lsm_edit.specs.declared.edit.EditKind.TheVariants.{Flush, Install, Epoch}
use Rattle.lsm_edit.specs.declared.served.Placed.{Placed}
use Rattle.lsm_edit.specs.Version.{IsVersion, apply_fault}
use Rattle.lsm_edit.proofs.VersionLaws.{fresh_added}
use Rattle.lsm_edit.specs.Edit.{IsEdit, AreRemoved, AreAdded}
use Rattle.lsm_edit.specs.Served.{AreAsRecorded, ServedValue, is_before, placed_of, put_in_order, put_all, places_without, after_advance, IsServed}

pub places_without-none : (ps : List Placed) → places_without [] ps ≡ ps
places_without-none [] = refl
places_without-none (p ∷ ps) = ap (λ (qs : List Placed). p ∷ qs) (places_without-none ps)

pub or-left : (a b : Bool) → a ≡ true → (a || b) ≡ true
or-left true b h = refl
or-left false b h = absurd cc

pub or-right : (a b : Bool) → b ≡ true → (a || b) ≡ true
or-right true b h = refl
or-right false b h = h

pub and-both : (a b : Bool) → a ≡ true → b ≡ true → (a && b) ≡ true
and-both true b h k = k
and-both false b h k = absurd cc

-- a new file of level 0 is searched first
pub newest_first : (f g : FileMeta) → f.level ≡ 0 → g.number < f.number → is_before f g ≡ true
newest_first f g level lt = by (cases_order f.level g.level)
  where
    same_level : f.level ≡ g.level → is_before f g ≡ true
    same_level e = or-right (ltb f.level g.level) _ (and-both _ _ (eq-eqb f.level g.level e) (ap (λ (n : ℕ). cond (eqb n 0) (ltb g.number f.number) (not (key_le g.smallest f.largest))) level ∙ lt-ltb g.number f.number lt))

    by : (f.level ≡ g.level) ⊎ ((f.level < g.level) ⊎ (g.level < f.level)) → is_before f g ≡ true
    by (inl e) = same_level e
    by (inr (inl less)) = or-left (ltb f.level g.level) _ (lt-ltb f.level g.level less)
    by (inr (inr more)) = absurd (omega arith)

pub put_first : (p : Placed) (ps : List Placed) → ((q : Placed) → IsIn q ps → is_before p.meta q.meta ≡ true) → put_in_order p ps ≡ p ∷ ps
put_first p [] h = refl
put_first p (q ∷ ps) h = ap (λ (b : Bool). cond b (p ∷ q ∷ ps) (q ∷ put_in_order p ps)) (h q (inl refl))

-- ---- the file that an edit other than an install adds

-- nothing is added, or one file of level 0 with its table
data Adds (files : List FileMeta) (tables : List Opened) : List Placed → Type 0 where
  nothing : files ≡ [] → Adds files tables []
  newest : (p : Placed) → files ≡ p.meta ∷ [] → p.meta.level ≡ 0 → Adds files tables (p ∷ [])

adds : (kind : EditKind) (files : List FileMeta) (tables : List Opened) → (kind ≡ Install → ⊥) → AreAdded kind files → AreAsRecorded files tables → Adds files tables (placed_of files tables)
adds Install files tables plain is rec = absurd (plain refl)
adds Epoch [] [] plain is rec = nothing refl
adds Epoch [] (t ∷ tables) plain is rec = absurd rec
adds Epoch (f ∷ files) tables plain is rec = absurd (let most = is.1 in omega arith)
adds Flush [] tables plain is rec = absurd (let least = is.0 in omega arith)
adds Flush (f ∷ []) [] plain is rec = absurd rec
adds Flush (f ∷ []) (t ∷ []) plain is rec = newest (record { meta = f; table = t }) refl (let level = (is.3 0 f (omega arith)).1 in omega arith)
adds Flush (f ∷ []) (t ∷ u ∷ tables) plain is rec = absurd rec.1
adds Flush (f ∷ g ∷ files) tables plain is rec = absurd (let most = is.1 in omega arith)

none_removed : (kind : EditKind) (numbers : List ℕ) → (kind ≡ Install → ⊥) → AreRemoved kind numbers → numbers ≡ []
none_removed Install numbers plain is = absurd (plain refl)
none_removed Epoch numbers plain is = nil_from_length numbers (let most = is.1 in omega arith)
none_removed Flush numbers plain is = nil_from_length numbers (let most = is.1 in omega arith)

-- ---- the places after such an edit

-- the number of a file that has a place is below the next
pub listed_below : (s : ServedValue) → IsVersion s.version → IsServed s → (q : Placed) → IsIn q s.places → q.meta.number < s.version.next_file
listed_below s ver is q m = ver.below q.meta ((is.listed q.meta).0 (IsIn-map (λ (p : Placed). p.meta) q s.places m))

-- what advancing makes of the places: the added file comes first
put_is : (s : ServedValue) (files : List FileMeta) (tables : List Opened) (added : List Placed) → Adds files tables added → IsVersion s.version → IsServed s
    → ((f : FileMeta) → IsIn f files → s.version.next_file ≤ f.number) → put_all added s.places ≡ added ++ s.places
put_is s files tables added (nothing none) ver is fresh = refl
put_is s files tables added (newest p one level) ver is fresh =
    put_first p s.places (λ q m.
    let low = listed_below s ver is q m in
    let high : s.version.next_file ≤ p.meta.number = fresh p.meta (subst (λ (fs : List FileMeta). IsIn p.meta fs) (sym one) (inl refl)) in
    newest_first p.meta q.meta level (omega arith))

pub places_are : (s : ServedValue) (edit : Edit) (tables : List Opened) → IsVersion s.version → IsServed s → IsEdit edit → (edit.kind ≡ Install → ⊥) → AreAsRecorded edit.added tables → apply_fault s.version edit ≡ None
    → (after_advance s edit tables).places ≡ placed_of edit.added tables ++ s.places
places_are s edit tables ver is ok plain rec none =
    ap (λ (numbers : List ℕ). put_all (placed_of edit.added tables) (places_without numbers s.places)) (none_removed edit.kind edit.removed plain ok.removed)
    ∙ ap (λ (ps : List Placed). put_all (placed_of edit.added tables) ps) (places_without-none s.places)
    ∙ put_is s edit.added tables (placed_of edit.added tables) (adds edit.kind edit.added tables plain ok.added rec) ver is (fresh_added s.version edit none)
