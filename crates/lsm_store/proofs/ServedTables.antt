-- The tables that the coordinator serves.
use Rattle.std.proofs.Common.{◌≡◌, ℕ, Bool, true, false, cond, List, [], ◌∷◌, ◌++◌, Option, Some, refl, sym, ap, subst, ◌∙◌, inl, inr, map, unwrap_or, append_assoc}
use Rattle.std.specs.Prelude.{nat_eq}
use Rattle.std.proofs.lemmas.Bool.{eqb-true, eq-eqb}
use Rattle.lsm_key.specs.Sets.{IsIn}
use Rattle.lsm_table.specs.Tables.{Opened}
use Rattle.lsm_edit.specs.declared.file.FileMeta.{FileMeta}
use Rattle.lsm_edit.specs.declared.served.Placed.{Placed}
use Rattle.lsm_edit.specs.Served.{AreAsRecorded, IsAsRecorded, IsServed, ServedValue, table_at}
use Rattle.lsm_edit.specs.Version.{IsVersion}
use Rattle.lsm_edit.proofs.ServedPlaces.{one_place, place_of}
use Rattle.lsm_store.specs.Compacting.{list_of_option, tables_at}

-- ---- one table

-- the place that a table is found in
pub record FoundIn (ps : List Placed) (n : ℕ) (t : Opened) : Type 0 where
  pub place : Placed
  pub member : IsIn place ps
  pub table : place.table ≡ t
  pub number : place.meta.number ≡ n

found_by : (p : Placed) (ps : List Placed) (n : ℕ) (t : Opened) (b : Bool) → nat_eq p.meta.number n ≡ b → (table_at ps n ≡ Some t → FoundIn ps n t) → cond b (Some p.table) (table_at ps n) ≡ Some t → FoundIn (p ∷ ps) n t
found_by p ps n t true e rest h = record { place = p; member = inl refl; table = ap (λ (o : Option Opened). unwrap_or o t) h; number = eqb-true p.meta.number n e }
found_by p ps n t false e rest h = let r = rest h in record { place = r.place; member = inr r.member; table = r.table; number = r.number }

pub found_in : (ps : List Placed) (n : ℕ) (t : Opened) → table_at ps n ≡ Some t → FoundIn ps n t
found_in [] n t h = absurd cc
found_in (p ∷ ps) n t h = found_by p ps n t (nat_eq p.meta.number n) refl (found_in ps n t) h

-- one with the number is found
there_by : (p : Placed) (ps : List Placed) (n : ℕ) (b : Bool) → nat_eq p.meta.number n ≡ b → (b ≡ false → (t : Opened) × (table_at ps n ≡ Some t)) → (t : Opened) × (cond b (Some p.table) (table_at ps n) ≡ Some t)
there_by p ps n true e rest = (p.table, refl)
there_by p ps n false e rest = rest refl

pub is_there : (ps : List Placed) (n : ℕ) (p : Placed) → IsIn p ps → p.meta.number ≡ n → (t : Opened) × (table_at ps n ≡ Some t)
is_there [] n p m e = absurd m
is_there (q ∷ ps) n p m e = there_by q ps n (nat_eq q.meta.number n) refl (λ other. elim m [
  | inl same ↦ let bad : true ≡ false = sym (eq-eqb q.meta.number n (ap (λ (x : Placed). x.meta.number) (sym same) ∙ e)) ∙ other in absurd cc
  | inr rest ↦ is_there ps n p rest e
])

-- ---- places of which a number names one

abbrev pub NameOne : List Placed → Type 0
NameOne ps = (p q : Placed) → IsIn p ps → IsIn q ps → p.meta.number ≡ q.meta.number → p ≡ q

one_found : (ps : List Placed) → NameOne ps → (p : Placed) → IsIn p ps → table_at ps p.meta.number ≡ Some p.table
one_found ps one p m =
    let t = is_there ps p.meta.number p m refl in
    let found = found_in ps p.meta.number t.0 t.1 in
    t.1 ∙ ap (λ (x : Opened). Some x) (sym found.table ∙ ap (λ (q : Placed). q.table) (one found.place p found.member m found.number))

-- the tables of places among others
pub tables_found : (ps : List Placed) → NameOne ps → (qs : List Placed) → ((q : Placed) → IsIn q qs → IsIn q ps) → tables_at ps (map (λ q. q.meta) qs) ≡ map (λ q. q.table) qs
tables_found ps one [] among = refl
tables_found ps one (q ∷ qs) among =
    let first = one_found ps one q (among q (inl refl)) in
    let rest = tables_found ps one qs (λ r m. among r (inr m)) in
    λ i. list_of_option (first i) ++ rest i

-- the tables of files that have a place in both lists
pub tables_among : (ps qs : List Placed) → NameOne qs → ((p : Placed) → IsIn p ps → IsIn p qs) → (fs : List FileMeta) → ((f : FileMeta) → IsIn f fs → (p : Placed) × IsIn p ps × (p.meta ≡ f)) → tables_at qs fs ≡ tables_at ps fs
tables_among ps qs one among [] all = refl
tables_among ps qs one among (f ∷ fs) all =
    let p = all f (inl refl) in
    let here = one_found ps (λ x y mx my e. one x y (among x mx) (among y my) e) p.0 p.1 in
    let both = one_found qs one p.0 (among p.0 p.1) ∙ sym here in
    let first : table_at qs f.number ≡ table_at ps f.number = subst (λ (g : FileMeta). table_at qs g.number ≡ table_at ps g.number) p.2 both in
    let rest = tables_among ps qs one among fs (λ g m. all g (inr m)) in
    λ i. list_of_option (first i) ++ rest i

-- ---- all tables

pub tables_at-append : (ps : List Placed) (fs gs : List FileMeta) → tables_at ps (fs ++ gs) ≡ tables_at ps fs ++ tables_at ps gs
tables_at-append ps [] gs = refl
tables_at-append ps (f ∷ fs) gs = ap (λ (ts : List Opened). list_of_option (table_at ps f.number) ++ ts) (tables_at-append ps fs gs) ∙ sym (append_assoc (list_of_option (table_at ps f.number)) (tables_at ps fs) (tables_at ps gs))

module _ (s : ServedValue) (ver : IsVersion s.version) (is : IsServed s) where
  -- the table of a file of the version is that of its place
  pub at_place : (f : FileMeta) → IsIn f s.version.files → (p : Placed) × IsIn p s.places × (f ≡ p.meta) × (table_at s.places f.number ≡ Some p.table)
  at_place f m =
      let own = place_of s ver is f m in
      (own.0, own.1, own.2, ap (λ (g : FileMeta). table_at s.places g.number) own.2 ∙ one_found s.places (one_place s ver is) own.0 own.1)

  pub next_table : (f : FileMeta) (fs : List FileMeta) (t : Opened) → table_at s.places f.number ≡ Some t → tables_at s.places (f ∷ fs) ≡ t ∷ tables_at s.places fs
  next_table f fs t e = ap (λ (o : Option Opened). list_of_option o ++ tables_at s.places fs) e

  pub are_recorded : (fs : List FileMeta) → ((f : FileMeta) → IsIn f fs → IsIn f s.version.files) → AreAsRecorded fs (tables_at s.places fs)
  are_recorded [] all = tt
  are_recorded (f ∷ fs) all =
      let p = at_place f (all f (inl refl)) in
      subst (λ (ts : List Opened). AreAsRecorded (f ∷ fs) ts) (sym (next_table f fs p.0.table p.3))
      (subst (λ (g : FileMeta). IsAsRecorded g p.0.table) (sym p.2) (is.recorded p.0 p.1), are_recorded fs (λ g m. all g (inr m)))
