-- The files whose tables are served are those that some version from the floor on lists.
use Rattle.std.proofs.Common.{◌≡◌, ℕ, ◌≤◌, List, ◌⊎◌, inl, inr, Option, None, Some, refl, sym, ap, subst, ◌∙◌}
use Rattle.std.specs.List.{slice_get}
use Rattle.std.specs.Option.{option_map}
use Rattle.std.proofs.lemmas.Option.{same_Some, slice_get-map}
use Rattle.lsm_key.specs.Sets.{IsIn}
use Rattle.lsm_key.proofs.Membership.{IsIn-map, IsIn-mapped}
use Rattle.lsm_edit.specs.Served.{IsServed}
use Rattle.lsm_edit.specs.Version.{IsVersion}
use Rattle.lsm_msg.specs.declared.message.Body.TheVariants as body
use Rattle.lsm_versions.specs.Manifest.{Folds, versions_of}
use Rattle.lsm_versions.specs.Retention.{AreRetired, ListsFile, bytes_at}
use Rattle.lsm_versions.proofs.ServedFiles.{has_bytes, has_none}
use Rattle.lsm_coord.specs.Model.State.{Place, State, Version}
use Rattle.lsm_coord.specs.Contract.Serving.{HasTable, IsListedSince, table_body}
use Rattle.lsm_coord.specs.Contract.Shows.{Shows, listing_of, place_of}
use Rattle.lsm_coord.specs.Contract.Value.{CoordValue}

-- ---- what versions list

pub was_mapped : {X Y : Type 0} (f : X → Y) (o : Option X) (y : Y) → option_map f o ≡ Some y → (x : X) × (o ≡ Some x) × (f x ≡ y)
was_mapped f None y h = absurd cc
was_mapped f (Some x) y h = (x, refl, same_Some (f x) y h)

module _ (c : CoordValue) (s : State) (h : Shows c s) (is : IsServed c.served) (version_is : IsVersion c.served.version) (folds : Folds c.stored.edits c.served.version) (are : AreRetired (versions_of c.stored.edits) c.served.version c.retired c.floor) where
  shown : (k n : ℕ) → c.floor ≤ k → ListsFile (versions_of c.stored.edits) k n → IsListedSince s n
  shown k n le l =
      let at : slice_get s.versions k ≡ Some (listing_of l.0) = ap (λ (vs : List Version). slice_get vs k) h.tables.versions ∙ slice_get-map listing_of (versions_of c.stored.edits) k ∙ ap (option_map listing_of) l.1 in
      (k, subst (λ (i : ℕ). i ≤ k) (sym h.floor) le, listing_of l.0, at, place_of l.2.0, IsIn-map place_of l.2.0 l.0.files l.2.1, l.2.2)

  of_shown : (n : ℕ) → IsListedSince s n → (k : ℕ) × (c.floor ≤ k) × ListsFile (versions_of c.stored.edits) k n
  of_shown n l =
      let at = sym (slice_get-map listing_of (versions_of c.stored.edits) l.0) ∙ ap (λ (vs : List Version). slice_get vs l.0) (sym h.tables.versions) ∙ l.3 in
      let v = was_mapped listing_of (slice_get (versions_of c.stored.edits) l.0) l.2 at in
      let f = IsIn-mapped place_of l.4 v.0.files (subst (λ (x : Version). IsIn l.4 x.files) (sym v.2) l.5) in
      (l.0, subst (λ (i : ℕ). i ≤ l.0) h.floor l.1, (v.0, v.1, (f.0, f.1, ap (λ (p : Place). p.file) (sym f.2) ∙ l.6)))

  listed : (n : ℕ) (bytes : List ℕ) → bytes_at c.served.places c.retired n ≡ Some bytes → IsListedSince s n
  listed n bytes found = let l = has_bytes c.stored.edits c.served c.retired c.floor is version_is folds are n bytes found in shown l.0 n l.1 l.2

  unlisted : (n : ℕ) → bytes_at c.served.places c.retired n ≡ None → IsListedSince s n → ⊥
  unlisted n none l = let at = of_shown n l in has_none c.stored.edits c.served c.retired c.floor is version_is folds are n none at.0 at.1 at.2

  answers : (n : ℕ) (o : Option (List ℕ)) → bytes_at c.served.places c.retired n ≡ o → (IsListedSince s n × HasTable n (table_body n o)) ⊎ ((IsListedSince s n → ⊥) × (table_body n o ≡ body.Gone n))
  answers n None none = inr (unlisted n none, refl)
  answers n (Some bytes) found = inl (listed n bytes found, (bytes, refl))

  -- a fetch is answered with the table exactly if some version from the floor on lists the file
  pub serves : (n : ℕ) → (IsListedSince s n × HasTable n (table_body n (bytes_at c.served.places c.retired n))) ⊎ ((IsListedSince s n → ⊥) × (table_body n (bytes_at c.served.places c.retired n) ≡ body.Gone n))
  serves n = answers n (bytes_at c.served.places c.retired n) refl
