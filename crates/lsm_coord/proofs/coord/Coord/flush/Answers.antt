use Rattle.std.proofs.Common.{◌≡◌, None, Some, sym, ap, subst, ◌∙◌, refl, arith}
use Rattle.std.specs.Prelude.{nat_le}
use Rattle.std.proofs.lemmas.Bool.{leb-false, or_parts}
use Rattle.std.specs.Option.{option_map}
use Rattle.lsm_key.specs.declared.limits.TheConstants.{MAX_NUMBER}
use Rattle.lsm_edit.specs.declared.edit.Edit.{Edit}
use Rattle.lsm_edit.specs.Edit.{IsSpelledEdit}
use Rattle.lsm_edit.specs.Version.{VersionValue, apply_fault}
use Rattle.lsm_vault.specs.declared.error.VaultError.TheVariants.{OutOfMemory}
use Rattle.lsm_coord.specs.Model.Changes.{after_flush}
use Rattle.lsm_coord.specs.Contract.Value.{CoordValue}
use Rattle.lsm_coord.specs.Contract.Shows.{Shows}
use Rattle.lsm_coord.specs.Contract.Calls.{AddsTable, flush_fault, flush_source}
use Rattle.lsm_coord.specs.Contract.Logs.{IsLogged}
use Rattle.lsm_coord.specs.Contract.Memory.{IsCoord}
use Rattle.lsm_coord.specs.Contract.Replies.{refusal_of}
use Rattle.lsm_coord.specs.Model.Rules.{refusal}
use Rattle.lsm_coord.specs.Model.Event as say
use Rattle.lsm_coord.proofs.ForcedRefusals.{flush_forced, flush_refused}
use Rattle.lsm_coord.proofs.FlushSteps.{end_of, shows_after}
use Rattle.lsm_coord.proofs.ShownVersions.{version_count}
use Rattle.lsm_coord.proofs.CoordInvariant.{flush_free, taken_newer}
use Rattle.lsm_coord.proofs.VaultRefusals.{flush_failed, stored_keeps, stored_shows}
use Rattle.lsm_coord.proofs.GiveBackSteps.{Shows-beside}
use Rattle.lsm_coord.proofs.coord.Coord.flush.Goals as goal

pub returns-in-Some-clause-step : goal.returns-in-Some-clause-step
returns-in-Some-clause-step g c = λ s h.
    let forced : refusal s say.Flush ≡ Some (refusal_of c.in-Some.why) = flush_forced c.args.self.now s h ∙ ap (option_map refusal_of) (sym c.flush_fault.ensures ∙ c.in-Some.is) in
    (s, flush_refused s (refusal_of c.in-Some.why) forced, h)

pub add_table-requires-clause-room : goal.add_table-requires-clause-room
add_table-requires-clause-room g c =
    let v = c.args.self.now.served.version in
    let none : flush_fault c.args.self.now ≡ None = sym c.flush_fault.ensures ∙ c.in-None.is in
    let free = or_parts (nat_le MAX_NUMBER v.number) (nat_le MAX_NUMBER v.next_file) (flush_free _ _ none).1 in
    record { number = omega (arith, leb-false MAX_NUMBER v.number free.0); next_file = omega (arith, leb-false MAX_NUMBER v.next_file free.1) }

pub add_table-requires-clause-newer : goal.add_table-requires-clause-newer
add_table-requires-clause-newer g c =
    let none : flush_fault c.args.self.now ≡ None = sym c.flush_fault.ensures ∙ c.in-None.is in
    let free = flush_free _ _ (ap flush_fault c.self.view_is ∙ none) in
    rw (c.flush_end-seq.ensures, ← c.self.view_is) (taken_newer c.self.inside.active c.self.inside.frozen c.self.inside.newest c.self.inside.versions.served c.self.inside.book c.self.inside.live.items c.self.invariant.0 free.0).0

pub add_table-requires-clause-whole : goal.add_table-requires-clause-whole
add_table-requires-clause-whole g c = c.in_ok-table.ensures.0 ∙ c.flushable.ensures

pub add_table-requires-clause-cut : goal.add_table-requires-clause-cut
add_table-requires-clause-cut g c = c.in_ok-table.ensures.1 ∙ ap (λ (x : CoordValue). x.limits.block) c.self.view_is

pub returns-in_err-meta-clause-step : goal.returns-in_err-meta-clause-step
returns-in_err-meta-clause-step g c = λ s h.
    let none : flush_fault c.args.self.now ≡ None = sym c.flush_fault.ensures ∙ c.in-None.is in
    let may : refusal s say.Flush ≡ None = flush_forced c.args.self.now s h ∙ ap (option_map refusal_of) none in
    (s, flush_failed s c.from_residual-in_err-meta.result OutOfMemory c.from_residual-in_err-meta.ensures.1 may, h)

pub returns-clause-step : goal.returns-clause-step
returns-clause-step g c = λ s h.
    let v : CoordValue = c.args.self.now in
    let none : flush_fault v ≡ None = sym c.flush_fault.ensures ∙ c.in-None.is in
    let may : refusal s say.Flush ≡ None = flush_forced v s h ∙ ap (option_map refusal_of) none in
    let versions = version_count v.stored.edits v.served s h.tables in
    let number : c.number-number.result ≡ v.served.version.number = c.number-number.ensures.value ∙ ap (λ (x : VersionValue). x.number) c.version.ensures ∙ ap (λ (x : CoordValue). x.served.version.number) c.self.view_is in
    let file : c.next_file-file.result ≡ v.served.version.next_file = c.next_file-file.ensures.value ∙ ap (λ (x : VersionValue). x.next_file) c.version-2.ensures ∙ ap (λ (x : CoordValue). x.served.version.next_file) c.self.view_is in
    let adds : AddsTable v c.in_ok-meta.meta c.in_ok-table.table c.add_table.new.self = c.in_ok-add_table.ensures.ok in
    let whole : c.in_ok-table.table.entries ≡ (flush_source v).memtable = c.in_ok-table.ensures.0 ∙ c.flushable.ensures in
    let spelled = subst (IsSpelledEdit adds.text) adds.edit_is adds.spelled in
    let applies = subst (λ (e : Edit). apply_fault v.served.version e ≡ None) adds.edit_is adds.applies in
    let l = subst (λ (x : CoordValue). IsLogged x.active x.frozen x.last x.served.version.flushed x.stored.log) c.self.view_is c.self.invariant.1 in
    let is = subst (λ (x : CoordValue). IsCoord x.active x.frozen x.last x.served x.book x.snapshots) c.self.view_is c.self.invariant.0 in
    let some = (taken_newer v.active v.frozen v.last v.served v.book v.snapshots is (flush_free _ _ none).0).1 in
    let shows = shows_after v v.frozen s c.in_ok-meta.meta c.in_ok-table.table adds.text c.add_table.new.self.stored.log h refl whole (c.in_ok-meta.ensures.place.0 ∙ file) c.in_ok-meta.ensures.place.1 spelled applies l adds.cut some in
    (after_flush s, (may, (omega (arith, versions, number, c.new.ensures), c.flush_end-seq.ensures ∙ sym (end_of v v.frozen s h refl), c.new-2.ensures ∙ file ∙ sym h.tables.next_file, refl)), subst (λ (x : CoordValue). Shows x (after_flush s)) (sym adds.new_is) (Shows-beside _ _ _ _ (after_flush s) shows))

pub returns-clause-ok : goal.returns-clause-ok
returns-clause-ok g c = (sym c.flush_fault.ensures ∙ c.in-None.is, (c.in_ok-meta.meta, c.in_ok-table.table, c.in_ok-table.ensures.0 ∙ c.flushable.ensures, c.in_ok-add_table.ensures.ok, c.in_ok-table.ensures.1 ∙ ap (λ (x : CoordValue). x.limits.block) c.self.view_is))

pub returns-in_err-add_table-clause-step : goal.returns-in_err-add_table-clause-step
returns-in_err-add_table-clause-step g c = λ s h.
    let none : flush_fault c.args.self.now ≡ None = sym c.flush_fault.ensures ∙ c.in-None.is in
    let may : refusal s say.Flush ≡ None = flush_forced c.args.self.now s h ∙ ap (option_map refusal_of) none in
    (s, flush_failed s c.from_residual-in_err-add_table.result c.in_err-add_table.field-0.0 c.from_residual-in_err-add_table.ensures.1 may, stored_shows _ _ c.in_err-add_table.ensures.err s h)

pub returns-in_err-add_table-clause-sound : goal.returns-in_err-add_table-clause-sound
returns-in_err-add_table-clause-sound g c = stored_keeps _ _ c.in_err-add_table.ensures.err
