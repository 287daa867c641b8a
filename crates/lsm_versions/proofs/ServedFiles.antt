-- The files whose bytes a version set has are those that some version from the floor on lists.
use Rattle.std.proofs.Common.{◌≡◌, ℕ, ◌≤◌, Bool, true, false, List, [], ◌∷◌, ◌⊎◌, inl, inr, Option, None, Some, refl, sym, ap, subst, ◌∙◌, map, cond, eqb}
use Rattle.std.specs.Option.{option_map, option_or}
use Rattle.std.proofs.lemmas.Bool.{eqb-true, eq-eqb}
use Rattle.lsm_key.specs.Sets.{IsIn}
use Rattle.lsm_key.proofs.Membership.{IsIn-map, IsIn-mapped}
use Rattle.lsm_table.specs.Tables.{Opened}
use Rattle.lsm_edit.specs.declared.file.FileMeta.{FileMeta}
use Rattle.lsm_edit.specs.declared.served.Placed.{Placed}
use Rattle.lsm_edit.specs.Served.{IsServed, ServedValue, table_at}
use Rattle.lsm_edit.specs.Version.{IsVersion}
use Rattle.lsm_edit.proofs.ServedPlaces as served
use Rattle.lsm_versions.specs.declared.retired.Retired.{Retired}
use Rattle.lsm_versions.specs.Manifest.{Folds, versions_of}
use Rattle.lsm_versions.specs.Retention.{AreRetired, IsListed, ListsFile, bytes_at, retired_at}
use Rattle.lsm_versions.proofs.ManifestReplay.{current_at}

-- ---- what is found by number

place_by : (p : Placed) (ps : List Placed) (n : ℕ) (b : Bool) → eqb p.meta.number n ≡ b → IsIn n (map (λ (q : Placed). q.meta.number) (p ∷ ps)) → cond b (Some p.table) (table_at ps n) ≡ None → IsIn n (map (λ (q : Placed). q.meta.number) ps) × (table_at ps n ≡ None)
place_by p ps n true e m none = absurd cc
place_by p ps n false e m none = elim m [ inl same ↦ absurd (let bad : true ≡ false = sym (eq-eqb p.meta.number n (sym same)) ∙ e in cc) | inr later ↦ (later, none) ]

-- a file with a place has its table there
no_place : (ps : List Placed) (n : ℕ) → IsIn n (map (λ (q : Placed). q.meta.number) ps) → table_at ps n ≡ None → ⊥
no_place [] n m none = absurd m
no_place (p ∷ ps) n m none = let rest = place_by p ps n (eqb p.meta.number n) refl m none in no_place ps n rest.0 rest.1

some_by : (p : Placed) (ps : List Placed) (n : ℕ) (t : Opened) (b : Bool) → eqb p.meta.number n ≡ b → (table_at ps n ≡ Some t → IsIn n (map (λ (q : Placed). q.meta.number) ps)) → cond b (Some p.table) (table_at ps n) ≡ Some t → IsIn n (map (λ (q : Placed). q.meta.number) (p ∷ ps))
some_by p ps n t true e rest h = inl (sym (eqb-true p.meta.number n e))
some_by p ps n t false e rest h = inr (rest h)

pub some_place : (ps : List Placed) (n : ℕ) (t : Opened) → table_at ps n ≡ Some t → IsIn n (map (λ (q : Placed). q.meta.number) ps)
some_place [] n t h = absurd cc
some_place (p ∷ ps) n t h = some_by p ps n t (eqb p.meta.number n) refl (some_place ps n t) h

retired_by : (r : Retired) (rs : List Retired) (n : ℕ) (b : Bool) → eqb r.number n ≡ b → IsIn n (map (λ (x : Retired). x.number) (r ∷ rs)) → cond b (Some r.bytes) (retired_at rs n) ≡ None → IsIn n (map (λ (x : Retired). x.number) rs) × (retired_at rs n ≡ None)
retired_by r rs n true e m none = absurd cc
retired_by r rs n false e m none = elim m [ inl same ↦ absurd (let bad : true ≡ false = sym (eq-eqb r.number n (sym same)) ∙ e in cc) | inr later ↦ (later, none) ]

no_retired : (rs : List Retired) (n : ℕ) → IsIn n (map (λ (x : Retired). x.number) rs) → retired_at rs n ≡ None → ⊥
no_retired [] n m none = absurd m
no_retired (r ∷ rs) n m none = let rest = retired_by r rs n (eqb r.number n) refl m none in no_retired rs n rest.0 rest.1

found_by : (r : Retired) (rs : List Retired) (n : ℕ) (bytes : List ℕ) (b : Bool) → eqb r.number n ≡ b → (retired_at rs n ≡ Some bytes → IsIn n (map (λ (x : Retired). x.number) rs)) → cond b (Some r.bytes) (retired_at rs n) ≡ Some bytes → IsIn n (map (λ (x : Retired). x.number) (r ∷ rs))
found_by r rs n bytes true e rest h = inl (sym (eqb-true r.number n e))
found_by r rs n bytes false e rest h = inr (rest h)

pub some_retired : (rs : List Retired) (n : ℕ) (bytes : List ℕ) → retired_at rs n ≡ Some bytes → IsIn n (map (λ (x : Retired). x.number) rs)
some_retired [] n bytes h = absurd cc
some_retired (r ∷ rs) n bytes h = found_by r rs n bytes (eqb r.number n) refl (some_retired rs n bytes) h

-- the table is one of a place or a retired file's
pub found_in : (o : Option Opened) (q : Option (List ℕ)) (bytes : List ℕ) → option_or (option_map (λ (t : Opened). t.bytes) o) q ≡ Some bytes → ((t : Opened) × (o ≡ Some t)) ⊎ (q ≡ Some bytes)
found_in None q bytes h = inr h
found_in (Some t) q bytes h = inl (t, refl)

none_in : (o : Option Opened) (q : Option (List ℕ)) → option_or (option_map (λ (t : Opened). t.bytes) o) q ≡ None → (o ≡ None) × (q ≡ None)
none_in None q h = (refl, h)
none_in (Some t) q h = absurd cc

-- ---- what versions list

module _ (texts : List (List ℕ)) (s : ServedValue) (retired : List Retired) (floor : ℕ) (is : IsServed s) (version_is : IsVersion s.version) (folds : Folds texts s.version) (are : AreRetired (versions_of texts) s.version retired floor) where
  placed : (n : ℕ) → IsListed s.version n → IsIn n (map (λ (q : Placed). q.meta.number) s.places)
  placed n l =
      let p = served.place_of s version_is is l.0 l.1 in
      subst (λ (i : ℕ). IsIn i (map (λ (q : Placed). q.meta.number) s.places)) (ap (λ (f : FileMeta). f.number) (sym p.2) ∙ l.2) (IsIn-map (λ (q : Placed). q.meta.number) p.0 s.places p.1)

  pub has_bytes : (n : ℕ) (bytes : List ℕ) → bytes_at s.places retired n ≡ Some bytes → (k : ℕ) × (floor ≤ k) × ListsFile (versions_of texts) k n
  has_bytes n bytes found = elim (found_in (table_at s.places n) (retired_at retired n) bytes found) [
    | inl here ↦
        let p = IsIn-mapped (λ (q : Placed). q.meta.number) n s.places (some_place s.places n here.0 here.1) in
        (s.version.number, are.low, (s.version, current_at texts s.version folds, (p.0.meta, served.file_of s version_is is p.0 p.1, sym p.2)))
    | inr before ↦
        let r = IsIn-mapped (λ (x : Retired). x.number) n retired (some_retired retired n bytes before) in
        let old = are.each r.0 r.1 in
        (r.0.until, are.served r.0 r.1, (old.version, old.at, (old.file, old.listed, old.named ∙ sym r.2)))
  ]

  pub has_none : (n : ℕ) → bytes_at s.places retired n ≡ None → (k : ℕ) → floor ≤ k → ListsFile (versions_of texts) k n → ⊥
  has_none n none k le l =
      let parts = none_in (table_at s.places n) (retired_at retired n) none in
      elim (are.whole k n le l) [
        | inl now ↦ no_place s.places n (placed n now) parts.0
        | inr before ↦ no_retired retired n (subst (λ (i : ℕ). IsIn i (map (λ (x : Retired). x.number) retired)) before.2 (IsIn-map (λ (x : Retired). x.number) before.0 retired before.1)) parts.1
      ]
