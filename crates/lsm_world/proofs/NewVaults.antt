-- An opening over a vault that has nothing: why it is refused, and what is left.
use Rattle.std.proofs.Common.{◌≡◌, ◌⊎◌, ℕ, Bool, true, false, cond, List, [], Option, None, ap, arith, inl, inr, refl, sym, nat_cmp, ◌∙◌}
use Rattle.std.proofs.lemmas.Cmp.{nat_cmp_total}
use Rattle.std.specs.FinMap as map
use Rattle.lsm_key.specs.declared.limits.Limits.{Limits}
use Rattle.lsm_claim.specs.Book.{new_book}
use Rattle.lsm_edit.specs.Next.{epoch_edit}
use Rattle.lsm_edit.specs.Version.{VersionValue, after_apply, first_version}
use Rattle.lsm_edit.proofs.WorkedLogs.{empty_holds}
use Rattle.lsm_vault.specs.Stored.{TableMap, VaultValue, empty_vault}
use Rattle.lsm_versions.specs.declared.error.OpenError.{OpenError}
use Rattle.lsm_versions.specs.declared.error.OpenError.TheVariants.{OutOfMemory, BadManifest, MissingTable, BadLog, Device, NumbersExhausted}
use Rattle.lsm_versions.specs.Manifest.{Folds}
use Rattle.lsm_versions.specs.Opening.{MayHaveDropped, MayHaveLost, MayHaveLostObsolete, OpenRefuses, is_live_file, manifest_version}
use Rattle.lsm_coord.specs.Contract.Seats.{OpensCoord}
use Rattle.lsm_coord.specs.Contract.Value.{CoordValue}

folds_none : Folds [] first_version
folds_none = record { spelled = λ text m. absurd m; apply = tt; makes = refl }

-- only memory or the device can be the reason
pub new_refused : (why : OpenError) → OpenRefuses empty_vault why → (why ≡ OutOfMemory) ⊎ (why ≡ Device)
new_refused OutOfMemory h = inl refl
new_refused Device h = inr refl
new_refused BadManifest h = absurd (h folds_none)
new_refused MissingTable h = absurd (h.1).1
new_refused BadLog h = absurd ((empty_holds (manifest_version []).flushed).good h.2)
new_refused NumbersExhausted h = elim h.2 [ inl number ↦ absurd (omega arith) | inr epoch ↦ absurd (omega arith) ]

-- of no table none is lost
lost_none : (needed : ℕ → Bool) (new : TableMap) → MayHaveLost needed map.empty new → new ≡ map.empty
lost_none needed new lost = map.same_map nat_cmp_total map.nat_cmp-IsAntisymmetric new map.empty (λ n. elim (lost n) [ inl same ↦ same | inr gone ↦ gone.1 ∙ sym (map.get-empty nat_cmp n) ])

none_lost : (new : VaultValue) → MayHaveLostObsolete empty_vault new → new ≡ empty_vault
none_lost new lost = lost.rest ∙ ap (λ (t : TableMap). record empty_vault { tables = t }) (lost_none _ new.tables lost.lost)

pub none_dropped : (why : OpenError) (new : VaultValue) → MayHaveDropped why empty_vault new → new ≡ empty_vault
none_dropped OutOfMemory new h = elim h [ inl same ↦ same | inr lost ↦ none_lost new lost ]
none_dropped Device new h = elim h [ inl same ↦ same | inr lost ↦ none_lost new lost ]
none_dropped BadManifest new h = h
none_dropped MissingTable new h = h
none_dropped BadLog new h = h
none_dropped NumbersExhausted new h = h

-- ---- an opening that succeeds

either_none : (b : Bool) (o : Option (List ℕ)) → o ≡ None → cond b o None ≡ None
either_none true o none = none
either_none false o none = refl

keeps_none : (kept : TableMap) (stays : ℕ → Bool) → kept ≡ map.empty → map.retain_keys kept stays ≡ map.empty
keeps_none kept stays none =
    lost_none stays (map.retain_keys kept stays)
    (λ n. inl (map.get-retain_keys kept stays n (λ x tied. ap stays (sym (map.nat_cmp-IsAntisymmetric n x tied))) ∙ either_none (stays n) (map.get kept n) (ap (λ (k : TableMap). map.get k n) none ∙ map.get-empty nat_cmp n) ∙ sym (map.get-empty nat_cmp n)))

-- the vault of a store that was opened over nothing has no table
pub opened_kept : (vault : VaultValue) (limits : Limits) (c : CoordValue) → OpensCoord vault limits c → vault ≡ empty_vault → c.stored.tables ≡ map.empty
opened_kept vault limits c opened none =
    ap (λ (x : CoordValue). x.stored.tables) opened.is ∙ ap (λ (v : VaultValue). v.tables) opened.opens.stored ∙ keeps_none vault.tables (is_live_file (manifest_version vault.edits).files []) (ap (λ (v : VaultValue). v.tables) none)

-- its book is that of the first epoch
pub opened_book : (vault : VaultValue) (limits : Limits) (c : CoordValue) → OpensCoord vault limits c → vault ≡ empty_vault → c.book ≡ new_book 1
opened_book vault limits c opened none =
    ap (λ (x : CoordValue). x.book) opened.is ∙ ap (λ (x : VersionValue). new_book x.epoch) opened.opens.version ∙ ap (λ (v : VaultValue). new_book (after_apply (manifest_version v.edits) (epoch_edit (manifest_version v.edits))).epoch) none
