-- What a follower is told is what the model says of its version.
use Rattle.std.proofs.Common.{◌≡◌, ℕ, ◌+◌, ◌<◌, Bool, true, false, cond, Some, inl, inr, refl, sym, ap, ◌∙◌, arith, leb}
use Rattle.std.specs.List.{slice_get}
use Rattle.std.specs.Option.{option_map}
use Rattle.std.proofs.lemmas.Bool.{leb-false, leb-true}
use Rattle.std.proofs.lemmas.Option.{same_Some}
use Rattle.lsm_edit.specs.Version.{first_version}
use Rattle.lsm_msg.specs.declared.message.Body.{Body}
use Rattle.lsm_msg.specs.declared.message.Body.TheVariants as body
use Rattle.lsm_versions.specs.Manifest.{read_edits}
use Rattle.lsm_versions.proofs.EditsInTurn.{edit_number}
use Rattle.lsm_coord.specs.Model.State.{State, current}
use Rattle.lsm_coord.specs.Contract.Serving.{HasEdit, Tells, after_version}
use Rattle.lsm_coord.specs.Contract.Shows.{Shows}
use Rattle.lsm_coord.specs.Contract.Value.{CoordValue}
use Rattle.lsm_coord.proofs.ServedFiles.{was_mapped}
use Rattle.lsm_coord.proofs.ShownVersions.{current_is, version_count}

module _ (c : CoordValue) (s : State) (h : Shows c s) (n : ℕ) (said : Body) where
  latest : current s ≡ c.served.version.number
  latest = let count = version_count c.stored.edits c.served s h.tables in omega (arith, count)

  next_edit : option_map body.Edit (slice_get (read_edits c.stored.edits) n) ≡ Some said → HasEdit (n + 1) said
  next_edit told =
      let e = was_mapped body.Edit (slice_get (read_edits c.stored.edits) n) said told in
      let at = edit_number first_version (read_edits c.stored.edits) n e.0 h.tables.manifest.apply e.1 in
      (e.0, omega (arith, at), sym e.2)

  behind : n < c.served.version.number → (b : Bool) → leb c.floor (n + 1) ≡ b → cond b (option_map body.Edit (slice_get (read_edits c.stored.edits) n)) (Some (body.Base c.served.version)) ≡ Some said → Tells s n said
  behind lt true is told = let low = leb-true c.floor (n + 1) is in let same = h.floor in inr (inl (omega (arith, latest), omega (arith, low, same), next_edit told))
  behind lt false is told =
      let low = leb-false c.floor (n + 1) is in
      let same = h.floor in
      inr (inr (omega (arith, latest), omega (arith, low, same), (c.served.version, sym latest, sym (current_is c.stored.edits c.served s h.tables), sym (same_Some _ said told))))

  by_number : (b : Bool) → leb c.served.version.number n ≡ b → cond b (Some (body.Current c.served.version.number)) (cond (leb c.floor (n + 1)) (option_map body.Edit (slice_get (read_edits c.stored.edits) n)) (Some (body.Base c.served.version))) ≡ Some said → Tells s n said
  by_number true is told = let low = leb-true c.served.version.number n is in inl (omega (arith, latest, low), sym (same_Some _ said told) ∙ ap body.Current (sym latest))
  by_number false is told = behind (leb-false c.served.version.number n is) (leb c.floor (n + 1)) refl told

  -- a follower is told what comes after its version
  pub tells : after_version c n ≡ Some said → Tells s n said
  tells told = by_number (leb c.served.version.number n) refl told
