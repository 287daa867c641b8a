-- What the coordinator tells a follower of its version is known, and may be sent.
use Rattle.std.proofs.Common.{◌≡◌, ℕ, ◌+◌, ◌-◌, ◌<◌, ◌≤◌, Bool, true, false, cond, List, Option, None, Some, length, refl, sym, ap, subst, ◌∙◌, arith, leb}
use Rattle.std.specs.List.{slice_get}
use Rattle.std.specs.Option.{option_map}
use Rattle.std.proofs.lemmas.Bool.{leb-false}
use Rattle.std.proofs.lemmas.Option.{same_Some}
use Rattle.lsm_key.specs.declared.limits.TheConstants.{MAX_NUMBER}
use Rattle.lsm_edit.specs.declared.edit.Edit.{Edit}
use Rattle.lsm_edit.specs.Base.{IsBase}
use Rattle.lsm_edit.specs.Edit.{IsEdit}
use Rattle.lsm_edit.specs.Version.{VersionValue, after_apply, first_version}
use Rattle.lsm_msg.specs.declared.message.Body.{Body}
use Rattle.lsm_msg.specs.declared.message.Body.TheVariants as body
use Rattle.lsm_msg.specs.Messages.{IsBody}
use Rattle.lsm_versions.specs.Manifest.{read_edits, versions_of}
use Rattle.lsm_versions.proofs.EditsInTurn.{edit_at, edit_sound, length-read_edits, next_version, version_there}
use Rattle.lsm_versions.proofs.ManifestReplay.{current_at}
use Rattle.lsm_coord.specs.Contract.Memory.{IsFit}
use Rattle.lsm_coord.specs.Contract.Serving.{after_version}
use Rattle.lsm_coord.specs.Contract.Value.{CoordValue}
use Rattle.lsm_coord.proofs.ServedFiles.{was_mapped}
use Rattle.lsm_world.specs.History.{History, IsKnown, AreFiles}
use Rattle.lsm_world.proofs.FourPlaces.{in_place}
use Rattle.lsm_world.proofs.LoggedHistories.{versions_are}

-- ---- the current version as a whole

module _ (c : CoordValue) (fit : IsFit c) where
  -- it was made by an edit, unless it is version 0
  made_by : 1 ≤ c.served.version.number → (e : Edit) × IsEdit e × (c.served.version.epoch ≡ e.epoch)
  made_by some =
      let v = c.served.version in
      let k = v.number - 1 in
      let count = length-read_edits c.stored.edits v fit.manifest in
      let e = edit_at c.stored.edits v fit.manifest k (omega (arith, some)) in
      let w = version_there first_version (read_edits c.stored.edits) k (omega (arith, some, count)) in
      let next = (next_version first_version (read_edits c.stored.edits) k e.0 w.0 fit.manifest.apply e.1 w.1).1 in
      let place : k + 1 ≡ v.number = omega (arith, some) in
      let same : after_apply w.0 e.0 ≡ v = same_Some (after_apply w.0 e.0) v (sym next ∙ ap (slice_get (versions_of c.stored.edits)) place ∙ current_at c.stored.edits v fit.manifest) in
      (e.0, edit_sound c.stored.edits v fit.manifest e.0 (in_place (read_edits c.stored.edits) k e.0 e.1), ap (λ (x : VersionValue). x.epoch) (sym same))

  is_base : 1 ≤ c.served.version.number → IsBase c.served.version
  is_base some = let made = made_by some in let low = made.1.some_epoch in let same = made.2 in record { number = some; epoch = omega (arith, low, same); version = fit.version }

-- ---- the answer to an ask

-- it is known, and may be sent
abbrev pub IsSendable : History → Body → Type 0
IsSendable h said = IsKnown h said × IsBody said

module _ (h : History) (c : CoordValue) (files : AreFiles h c) (fit : IsFit c) (n : ℕ) (said : Body) where
  abbrev current : VersionValue
  current = c.served.version

  count : length h.edits ≡ current.number
  count = ap (λ (es : List Edit). length es) files.edits ∙ length-read_edits c.stored.edits current fit.manifest

  up_to_date : IsSendable h (body.Current current.number)
  up_to_date = let same = count in let most = fit.version.number in (omega (arith, same), omega (arith, most))

  next_edit : option_map body.Edit (slice_get (read_edits c.stored.edits) n) ≡ Some said → IsSendable h said
  next_edit told =
      let e = was_mapped body.Edit (slice_get (read_edits c.stored.edits) n) said told in
      subst (IsSendable h) e.2 (
        (n, ap (λ (es : List Edit). slice_get es n) files.edits ∙ e.1),
        edit_sound c.stored.edits current fit.manifest e.0 (in_place (read_edits c.stored.edits) n e.0 e.1),
      )

  whole : 1 ≤ current.number → IsSendable h (body.Base current)
  whole some = (ap (λ (vs : List VersionValue). slice_get vs current.number) (versions_are h c.stored.edits files.edits) ∙ current_at c.stored.edits current fit.manifest, is_base c fit some)

  behind : n < current.number → (b : Bool) → cond b (option_map body.Edit (slice_get (read_edits c.stored.edits) n)) (Some (body.Base current)) ≡ Some said → IsSendable h said
  behind less true told = next_edit told
  behind less false told = subst (IsSendable h) (same_Some (body.Base current) said told) (whole (omega (arith, less)))

  by_number : (b : Bool) → leb current.number n ≡ b → cond b (Some (body.Current current.number)) (cond (leb c.floor (n + 1)) (option_map body.Edit (slice_get (read_edits c.stored.edits) n)) (Some (body.Base current))) ≡ Some said → IsSendable h said
  by_number true is told = subst (IsSendable h) (same_Some (body.Current current.number) said told) up_to_date
  by_number false is told = behind (leb-false current.number n is) (leb c.floor (n + 1)) told

  -- WHAT A FOLLOWER IS TOLD IS KNOWN, AND MAY BE SENT.
  pub asked_known : after_version c n ≡ Some said → IsSendable h said
  asked_known told = by_number (leb current.number n) refl told

-- an ask is always answered
pub asked_answered : (c : CoordValue) → IsFit c → (n : ℕ) → (after_version c n ≡ None) → ⊥
asked_answered c fit n none = by (leb c.served.version.number n) refl none
  where
    behind : n < c.served.version.number → (b : Bool) → cond b (option_map body.Edit (slice_get (read_edits c.stored.edits) n)) (Some (body.Base c.served.version)) ≡ None → ⊥
    behind less true is = let e = edit_at c.stored.edits c.served.version fit.manifest n less in let told = ap (option_map body.Edit) (sym e.1) ∙ is in cc
    behind less false is = cc

    by : (b : Bool) → leb c.served.version.number n ≡ b → cond b (Some (body.Current c.served.version.number)) (cond (leb c.floor (n + 1)) (option_map body.Edit (slice_get (read_edits c.stored.edits) n)) (Some (body.Base c.served.version))) ≡ None → ⊥
    by true is e = cc
    by false is e = behind (leb-false c.served.version.number n is) (leb c.floor (n + 1)) e
