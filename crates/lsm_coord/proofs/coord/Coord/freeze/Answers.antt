use Rattle.std.proofs.Common.{◌≡◌, ℕ, Option, None, Some, Err, List, [], ◌∷◌, ◌++◌, sym, ap, subst, ◌∙◌, refl, arith}
use Rattle.std.specs.Option.{option_map}
use Rattle.lsm_edit.specs.declared.log_record.LogRecord.TheVariants as logged
use Rattle.lsm_edit.specs.LogRecord.{record_bytes}
use Rattle.lsm_vault.specs.Failures.{CountsFailures}
use Rattle.lsm_versions.specs.Manifest.{VersionSetValue}
use Rattle.lsm_coord.specs.declared.frozen.Frozen.{Frozen}
use Rattle.lsm_coord.specs.Model.State.{last_seq}
use Rattle.lsm_coord.specs.Contract.Memory.{IsCoord}
use Rattle.lsm_coord.specs.Contract.Calls.{AppendRefuses, freeze_fault}
use Rattle.lsm_coord.specs.Contract.Logs.{IsLogged}
use Rattle.lsm_coord.specs.Contract.Replies.{refusal_of}
use Rattle.lsm_coord.specs.Contract.Shows.{Shows}
use Rattle.lsm_coord.specs.Contract.Sound.{KeepsSound}
use Rattle.lsm_coord.specs.Contract.Value.{CoordValue, version_set}
use Rattle.lsm_coord.specs.Model.Rules.{refusal}
use Rattle.lsm_coord.specs.Model.Event as say
use Rattle.lsm_coord.proofs.ForcedRefusals.{freeze_forced, freeze_refused}
use Rattle.lsm_coord.proofs.CoordInvariant.{after_freeze, freezable, some_newer}
use Rattle.lsm_coord.proofs.FreezeSteps.{Shows-froze}
use Rattle.lsm_coord.proofs.GiveBackSteps.{Shows-beside}
use Rattle.lsm_coord.proofs.JobsStaySound.{same_keeps}
use Rattle.lsm_coord.proofs.LogCounts.{freeze_counted}
use Rattle.lsm_coord.proofs.LoggedCalls.{freeze_logged}
use Rattle.lsm_coord.proofs.VaultRefusals.{append_refused, append_refused_by, failed_keeps, failed_shows, freeze_failed, with_versions}
use Rattle.lsm_coord.proofs.coord.Coord.freeze.Goals as goal

pub returns-in-Some-clause-step : goal.returns-in-Some-clause-step
returns-in-Some-clause-step g c = λ s h.
    let forced : refusal s say.Freeze ≡ Some (refusal_of c.in-Some.why) = freeze_forced c.args.self.now s h ∙ ap (option_map refusal_of) (sym c.freeze_fault.ensures ∙ c.in-Some.is) in
    (s, freeze_refused s (refusal_of c.in-Some.why) forced, h)

pub encode_freeze-requires : goal.encode_freeze-requires
encode_freeze-requires g c =
    let m = c.self.inside in
    let none : freeze_fault c.args.self.now ≡ None = sym c.freeze_fault.ensures ∙ c.in-None.is in
    let free = freezable m.active m.frozen (ap freeze_fault c.self.view_is ∙ none) in
    let is : IsCoord m.active None m.newest m.versions.served m.book m.live.items = subst (λ (f : Option Frozen). IsCoord m.active f m.newest m.versions.served m.book m.live.items) free.0 c.self.invariant.0 in
    let newer = some_newer m.active m.newest m.versions.served m.book m.live.items is free.1 in
    omega (arith, newer)

pub returns-in_err-append_log-clause-step : goal.returns-in_err-append_log-clause-step
returns-in_err-append_log-clause-step g c = λ s h.
    let none : freeze_fault c.args.self.now ≡ None = sym c.freeze_fault.ensures ∙ c.in-None.is in
    let old : CoordValue = c.args.self.now in
    let vs : VersionSetValue = c.append_log.new.self in
    let same : vs ≡ record (version_set old) { failures = vs.failures } = subst (λ (x : CoordValue). vs ≡ record (version_set x) { failures = vs.failures }) c.self.view_is c.in_err-append_log.ensures.err in
    let may : refusal s say.Freeze ≡ None = freeze_forced old s h ∙ ap (option_map refusal_of) none in
    (s, freeze_failed s c.from_residual-in_err-append_log.result c.in_err-append_log.field-0.0 c.from_residual-in_err-append_log.ensures.1 may, subst (λ (x : CoordValue). Shows x s) (λ i. with_versions (sym c.self.view_is i) vs) (failed_shows old vs same s h))

pub returns-in_err-append_log-clause-refused : goal.returns-in_err-append_log-clause-refused
returns-in_err-append_log-clause-refused g c =
    let none : freeze_fault c.args.self.now ≡ None = sym c.freeze_fault.ensures ∙ c.in-None.is in
    let old : CoordValue = c.args.self.now in
    let vs : VersionSetValue = c.append_log.new.self in
    let same : vs ≡ record (version_set old) { failures = vs.failures } = subst (λ (x : CoordValue). vs ≡ record (version_set x) { failures = vs.failures }) c.self.view_is c.in_err-append_log.ensures.err in
    let counted = subst (λ (x : CoordValue). CountsFailures {T = Unit {0}} (Err c.in_err-append_log.field-0.0) x.failures vs.failures) c.self.view_is c.in_err-append_log.ensures.counted in
    append_refused_by c.from_residual-in_err-append_log.result _ (λ e is. subst (AppendRefuses (freeze_fault old) old e) (λ i. with_versions (sym c.self.view_is i) vs) (append_refused old vs same (freeze_fault old) c.in_err-append_log.field-0.0 e is none counted)) c.from_residual-in_err-append_log.ensures.1

pub returns-in_err-append_log-clause-sound : goal.returns-in_err-append_log-clause-sound
returns-in_err-append_log-clause-sound g c =
    let old : CoordValue = c.args.self.now in
    let vs : VersionSetValue = c.append_log.new.self in
    let same : vs ≡ record (version_set old) { failures = vs.failures } = subst (λ (x : CoordValue). vs ≡ record (version_set x) { failures = vs.failures }) c.self.view_is c.in_err-append_log.ensures.err in
    subst (KeepsSound old) (λ i. with_versions (sym c.self.view_is i) vs) (failed_keeps old vs same)

pub invariant_of-self-2 : goal.invariant_of-self-2
invariant_of-self-2 g c =
    let m = c.self.inside in
    let none : freeze_fault c.args.self.now ≡ None = sym c.freeze_fault.ensures ∙ c.in-None.is in
    let free = freezable m.active m.frozen (ap freeze_fault c.self.view_is ∙ none) in
    let flushed : ℕ = m.versions.served.version.flushed in
    let log : List (List ℕ) = m.versions.stored.log in
    let l : IsLogged m.active None m.newest flushed log = subst (λ (f : Option Frozen). IsLogged m.active f m.newest flushed log) free.0 c.self.invariant.1 in
    let is : IsCoord m.active None m.newest m.versions.served m.book m.live.items = subst (λ (f : Option Frozen). IsCoord m.active f m.newest m.versions.served m.book m.live.items) free.0 c.self.invariant.0 in
    let text : List ℕ = record_bytes (logged.Freeze m.newest) in
    let now = freeze_logged m.active m.newest flushed log l free.1 in
    rw (c.in_ok-append_log.ensures.ok, c.in_ok-logged.ensures, c.replace-memtable.ensures.value, c.replace-memtable.ensures.after, c.successor-next.ensures) (
      after_freeze m.active m.newest m.versions.served m.book m.live.items is free.1,
      now,
      freeze_counted [] (record { memtable = m.active; end = m.newest }) m.newest flushed log (log ++ text ∷ []) text m.logged c.one_more-self-inside.result refl refl now c.self.invariant.2.all c.one_more-self-inside.ensures,
    )

pub returns-clause-step : goal.returns-clause-step
returns-clause-step g c =
    let m = c.self.inside in
    let none : freeze_fault c.args.self.now ≡ None = sym c.freeze_fault.ensures ∙ c.in-None.is in
    let free = freezable m.active m.frozen (ap freeze_fault c.self.view_is ∙ none) in
    let flushed : ℕ = m.versions.served.version.flushed in
    let log : List (List ℕ) = m.versions.stored.log in
    let l : IsLogged m.active None m.newest flushed log = subst (λ (f : Option Frozen). IsLogged m.active f m.newest flushed log) free.0 c.self.invariant.1 in
    rw (c.in_ok-append_log.ensures.ok, c.in_ok-logged.ensures, c.replace-memtable.ensures.value, c.replace-memtable.ensures.after, c.successor-next.ensures, ← c.self.view_is) (λ s h.
    let may : refusal s say.Freeze ≡ None = freeze_forced _ s h ∙ ap (option_map refusal_of) (ap freeze_fault c.self.view_is ∙ none) in
    (record s { frozen = Some (last_seq s) }, (may, (sym h.last, refl)), Shows-beside _ _ _ _ (record s { frozen = Some (last_seq s) }) (Shows-froze _ s h free.0 l free.1)))

pub returns-clause-ok : goal.returns-clause-ok
returns-clause-ok g c =
    let none : freeze_fault c.args.self.now ≡ None = sym c.freeze_fault.ensures ∙ c.in-None.is in
    rw (c.in_ok-append_log.ensures.ok, c.in_ok-logged.ensures, c.replace-memtable.ensures.value, c.replace-memtable.ensures.after, c.successor-next.ensures, ← c.self.view_is) (ap freeze_fault c.self.view_is ∙ none, record { rest = refl; counted = c.in_ok-append_log.ensures.counted })

pub returns-clause-sound : goal.returns-clause-sound
returns-clause-sound g c = rw (c.in_ok-append_log.ensures.ok, ← c.self.view_is) (same_keeps _ _ refl refl refl refl)
