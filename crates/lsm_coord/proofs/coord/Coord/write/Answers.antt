use Rattle.std.proofs.Common.{◌≡◌, ℕ, ◌+◌, ◌-◌, ◌<◌, None, Some, Err, List, ◌++◌, length, sym, ap, subst, ◌∙◌, arith, refl}
use Rattle.std.specs.List.Sorted.{IsPermutation}
use Rattle.std.specs.Option.{option_map}
use Rattle.lsm_key.specs.declared.op.Op.{Op}
use Rattle.lsm_key.specs.Places.{entries_after}
use Rattle.lsm_mem.specs.Memtable.{last_sequence}
use Rattle.lsm_mem.proofs.UndoneBatches.{batch_taken_back}
use Rattle.lsm_edit.specs.declared.log_record.LogRecord.TheVariants as logged
use Rattle.lsm_edit.specs.LogRecord.{record_bytes}
use Rattle.lsm_vault.specs.Failures.{CountsFailures}
use Rattle.lsm_versions.specs.Manifest.{VersionSetValue}
use Rattle.lsm_coord.specs.Model.State.{last_seq}
use Rattle.lsm_coord.specs.Contract.Calls.{AppendRefuses, write_fault}
use Rattle.lsm_coord.specs.Contract.Replies.{refusal_of}
use Rattle.lsm_coord.specs.Contract.Shows.{Shows}
use Rattle.lsm_coord.specs.Contract.Sound.{KeepsSound}
use Rattle.lsm_coord.specs.Contract.Value.{CoordValue, version_set}
use Rattle.lsm_coord.specs.Model.Rules.{refusal}
use Rattle.lsm_coord.specs.Model.Event as say
use Rattle.lsm_coord.proofs.ForcedRefusals.{write_forced, write_refused}
use Rattle.lsm_coord.proofs.CoordInvariant.{HasRoom, after_write, end_low, last_below, start_low, writable}
use Rattle.lsm_coord.proofs.GiveBackSteps.{Shows-beside}
use Rattle.lsm_coord.proofs.LogCounts.{write_counted}
use Rattle.lsm_coord.proofs.LoggedCalls.{write_holds, write_logged, written_is}
use Rattle.lsm_coord.proofs.VaultRefusals.{append_refused, failed_keeps, failed_shows, with_versions, write_failed}
use Rattle.lsm_coord.proofs.WriteSteps.{Shows-written}
use Rattle.lsm_coord.proofs.JobsStaySound.{same_keeps}
use Rattle.lsm_coord.proofs.coord.Coord.write.Goals as goal

pub returns-in-Some-clause-step : goal.returns-in-Some-clause-step
returns-in-Some-clause-step g c = λ s h.
    let forced : refusal s (say.Write c.args.batch.now) ≡ Some (refusal_of c.in-Some.why) =
    write_forced c.args.self.now s c.args.batch.now h c.ops.ensures.within ∙ ap (option_map refusal_of) (sym c.write_fault.ensures ∙ c.in-Some.is) in
    (s, write_refused s c.args.batch.now (refusal_of c.in-Some.why) forced, h)

pub apply-requires-clause-newer : goal.apply-requires-clause-newer
apply-requires-clause-newer g c =
    let first : c.new-first.result ≡ c.self.inside.newest + 1 = omega (arith, c.new-first.ensures, c.number-before.ensures.value) in
    rw first (last_below c.self.inside.active c.self.inside.frozen c.self.inside.newest c.self.inside.versions.served c.self.inside.book c.self.inside.live.items c.self.invariant.0)

pub invariant_of-self-in-Err : goal.invariant_of-self-in-Err
invariant_of-self-in-Err g c =
    let m = c.self.inside in
    let ops = c.args.batch.now in
    let first : c.new-first.result ≡ m.newest + 1 = omega (arith, c.new-first.ensures, c.number-before.ensures.value) in
    let newer : last_sequence m.active < c.new-first.result = rw first (last_below m.active m.frozen m.newest m.versions.served m.book m.live.items c.self.invariant.0) in
    let left : c.undo.new.self ≡ m.active = c.undo.ensures.older ∙ batch_taken_back m.active c.apply.new.self c.new-first.result ops c.last_seq-last.ensures.sound.ascending c.undo.ensures.sound.ascending newer c.in_ok-logged.ensures.ok in
    let vs : VersionSetValue = c.append_log.new.self in
    let failed : vs ≡ record m.versions { failures = vs.failures } = c.in-Err.ensures.err in
    rw (left, failed) c.self.invariant

pub returns-in-Err-clause-step : goal.returns-in-Err-clause-step
returns-in-Err-clause-step g c =
    let m = c.self.inside in
    let ops = c.args.batch.now in
    let first : c.new-first.result ≡ m.newest + 1 = omega (arith, c.new-first.ensures, c.number-before.ensures.value) in
    let newer : last_sequence m.active < c.new-first.result = rw first (last_below m.active m.frozen m.newest m.versions.served m.book m.live.items c.self.invariant.0) in
    let left : c.undo.new.self ≡ m.active = c.undo.ensures.older ∙ batch_taken_back m.active c.apply.new.self c.new-first.result ops c.last_seq-last.ensures.sound.ascending c.undo.ensures.sound.ascending newer c.in_ok-logged.ensures.ok in
    let vs : VersionSetValue = c.append_log.new.self in
    let failed : vs ≡ record m.versions { failures = vs.failures } = c.in-Err.ensures.err in
    let old : CoordValue = c.args.self.now in
    let same : vs ≡ record (version_set old) { failures = vs.failures } = subst (λ (x : CoordValue). vs ≡ record (version_set x) { failures = vs.failures }) c.self.view_is failed in
    let none : write_fault c.args.self.now ops ≡ None = sym c.write_fault.ensures ∙ c.in-None.is in
    rw left (λ s h.
    let may : refusal s (say.Write ops) ≡ None = write_forced old s ops h c.ops.ensures.within ∙ ap (option_map refusal_of) none in
    (s, write_failed s ops c.from.result c.in-Err.why c.from.ensures may, subst (λ (x : CoordValue). Shows x s) (λ i. with_versions (sym c.self.view_is i) vs) (failed_shows old vs same s h)))

pub returns-in-Err-clause-refused : goal.returns-in-Err-clause-refused
returns-in-Err-clause-refused g c =
    let m = c.self.inside in
    let ops = c.args.batch.now in
    let first : c.new-first.result ≡ m.newest + 1 = omega (arith, c.new-first.ensures, c.number-before.ensures.value) in
    let newer : last_sequence m.active < c.new-first.result = rw first (last_below m.active m.frozen m.newest m.versions.served m.book m.live.items c.self.invariant.0) in
    let left : c.undo.new.self ≡ m.active = c.undo.ensures.older ∙ batch_taken_back m.active c.apply.new.self c.new-first.result ops c.last_seq-last.ensures.sound.ascending c.undo.ensures.sound.ascending newer c.in_ok-logged.ensures.ok in
    let vs : VersionSetValue = c.append_log.new.self in
    let failed : vs ≡ record m.versions { failures = vs.failures } = c.in-Err.ensures.err in
    let old : CoordValue = c.args.self.now in
    let same : vs ≡ record (version_set old) { failures = vs.failures } = subst (λ (x : CoordValue). vs ≡ record (version_set x) { failures = vs.failures }) c.self.view_is failed in
    let none : write_fault c.args.self.now ops ≡ None = sym c.write_fault.ensures ∙ c.in-None.is in
    let counted = subst (λ (x : CoordValue). CountsFailures {T = Unit {0}} (Err c.in-Err.why) x.failures vs.failures) c.self.view_is c.in-Err.ensures.counted in
    rw left (subst (AppendRefuses (write_fault old ops) old c.from.result) (λ i. with_versions (sym c.self.view_is i) vs) (append_refused old vs same (write_fault old ops) c.in-Err.why c.from.result c.from.ensures none counted))

pub returns-in-Err-clause-sound : goal.returns-in-Err-clause-sound
returns-in-Err-clause-sound g c =
    let m = c.self.inside in
    let ops = c.args.batch.now in
    let first : c.new-first.result ≡ m.newest + 1 = omega (arith, c.new-first.ensures, c.number-before.ensures.value) in
    let newer : last_sequence m.active < c.new-first.result = rw first (last_below m.active m.frozen m.newest m.versions.served m.book m.live.items c.self.invariant.0) in
    let left : c.undo.new.self ≡ m.active = c.undo.ensures.older ∙ batch_taken_back m.active c.apply.new.self c.new-first.result ops c.last_seq-last.ensures.sound.ascending c.undo.ensures.sound.ascending newer c.in_ok-logged.ensures.ok in
    let vs : VersionSetValue = c.append_log.new.self in
    let failed : vs ≡ record m.versions { failures = vs.failures } = c.in-Err.ensures.err in
    let old : CoordValue = c.args.self.now in
    let same : vs ≡ record (version_set old) { failures = vs.failures } = subst (λ (x : CoordValue). vs ≡ record (version_set x) { failures = vs.failures }) c.self.view_is failed in
    rw left (subst (KeepsSound old) (λ i. with_versions (sym c.self.view_is i) vs) (failed_keeps old vs same))

pub invariant_of-self-2 : goal.invariant_of-self-2
invariant_of-self-2 g c =
    let m = c.self.inside in
    let ops = c.args.batch.now in
    let first : c.new-first.result ≡ m.newest + 1 = omega (arith, c.new-first.ensures, c.number-before.ensures.value) in
    let count : length c.ops.result.now ≡ length ops = ap (λ (x : List Op). length x) c.ops.ensures.all in
    let last : c.new-self-inside.result ≡ m.newest + length ops = omega (arith, c.new-self-inside.ensures, count, c.number-before.ensures.value) in
    let before : c.new-first.result - 1 ≡ m.newest = omega (arith, c.new-first.ensures, c.number-before.ensures.value) in
    let perm : IsPermutation (m.active ++ entries_after m.newest ops) c.apply.new.self = subst (λ (n : ℕ). IsPermutation (m.active ++ entries_after n ops) c.apply.new.self) before c.in_ok-logged.ensures.ok in
    let bytes : c.in_ok-logged.logged ≡ record_bytes (logged.Write (m.newest + 1) ops) = c.in_ok-logged.ensures.logged ∙ ap (λ (n : ℕ). record_bytes (logged.Write n ops)) first in
    let none : write_fault c.args.self.now ops ≡ None = sym c.write_fault.ensures ∙ c.in-None.is in
    let free = subst (λ (v : CoordValue). HasRoom v ops) (sym c.self.view_is) (writable c.args.self.now ops none) in
    let flushed : ℕ = m.versions.served.version.flushed in
    let log = m.versions.stored.log in
    let is = c.self.invariant.0 in
    let l = c.self.invariant.1 in
    let low = start_low m.active m.frozen m.newest m.versions.served m.book m.live.items is in
    rw (c.in-Ok.ensures.ok, bytes, last) (
      after_write m.active c.apply.new.self m.frozen m.newest m.versions.served m.book m.live.items ops is perm,
      write_logged m.active m.frozen m.newest flushed log l low is.begun ops free.0 free.1 c.ops.ensures.within free.2 c.apply.new.self perm,
      write_counted m.frozen log l.records (logged.Write (m.newest + 1) ops) m.logged m.frozen_upto c.one_more-self-inside.result l.spelled l.sound (written_is m.active m.frozen m.newest flushed log l low is.begun ops free.0 free.1 c.ops.ensures.within free.2)
          (end_low m.active m.frozen m.newest m.versions.served m.book m.live.items is) c.self.invariant.2 c.one_more-self-inside.ensures,
    )

pub returns-clause-step : goal.returns-clause-step
returns-clause-step g c =
    let m = c.self.inside in
    let ops = c.args.batch.now in
    let first : c.new-first.result ≡ m.newest + 1 = omega (arith, c.new-first.ensures, c.number-before.ensures.value) in
    let count : length c.ops.result.now ≡ length ops = ap (λ (x : List Op). length x) c.ops.ensures.all in
    let last : c.new-self-inside.result ≡ m.newest + length ops = omega (arith, c.new-self-inside.ensures, count, c.number-before.ensures.value) in
    let before : c.new-first.result - 1 ≡ m.newest = omega (arith, c.new-first.ensures, c.number-before.ensures.value) in
    let perm : IsPermutation (m.active ++ entries_after m.newest ops) c.apply.new.self = subst (λ (n : ℕ). IsPermutation (m.active ++ entries_after n ops) c.apply.new.self) before c.in_ok-logged.ensures.ok in
    let bytes : c.in_ok-logged.logged ≡ record_bytes (logged.Write (m.newest + 1) ops) = c.in_ok-logged.ensures.logged ∙ ap (λ (n : ℕ). record_bytes (logged.Write n ops)) first in
    let none : write_fault c.args.self.now ops ≡ None = sym c.write_fault.ensures ∙ c.in-None.is in
    let free = subst (λ (v : CoordValue). HasRoom v ops) (sym c.self.view_is) (writable c.args.self.now ops none) in
    let flushed : ℕ = m.versions.served.version.flushed in
    let log = m.versions.stored.log in
    let is = c.self.invariant.0 in
    let l = c.self.invariant.1 in
    let low = start_low m.active m.frozen m.newest m.versions.served m.book m.live.items is in
    rw (c.in-Ok.ensures.ok, bytes, last, ← c.self.view_is) (λ s h.
    let may : refusal s (say.Write ops) ≡ None = write_forced _ s ops h c.ops.ensures.within ∙ ap (option_map refusal_of) (ap (λ (v : CoordValue). write_fault v ops) c.self.view_is ∙ none) in
    let begins : c.new-first.result ≡ last_seq s + 1 = omega (arith, h.last, first) in
    let end : m.newest + length ops ≡ last_seq s + length ops = omega (arith, h.last) in
    let held = write_holds m.active m.frozen m.newest flushed log l low is.begun ops free.0 free.1 c.ops.ensures.within free.2 in
    (record s { writes = s.writes ++ ops }, (may, (begins, end, refl)), Shows-beside _ _ _ _ (record s { writes = s.writes ++ ops }) (Shows-written _ c.apply.new.self s ops perm h l held)))

pub returns-clause-ok : goal.returns-clause-ok
returns-clause-ok g c =
    let m = c.self.inside in
    let ops = c.args.batch.now in
    let first : c.new-first.result ≡ m.newest + 1 = omega (arith, c.new-first.ensures, c.number-before.ensures.value) in
    let count : length c.ops.result.now ≡ length ops = ap (λ (x : List Op). length x) c.ops.ensures.all in
    let last : c.new-self-inside.result ≡ m.newest + length ops = omega (arith, c.new-self-inside.ensures, count, c.number-before.ensures.value) in
    let before : c.new-first.result - 1 ≡ m.newest = omega (arith, c.new-first.ensures, c.number-before.ensures.value) in
    let perm : IsPermutation (m.active ++ entries_after m.newest ops) c.apply.new.self = subst (λ (n : ℕ). IsPermutation (m.active ++ entries_after n ops) c.apply.new.self) before c.in_ok-logged.ensures.ok in
    let bytes : c.in_ok-logged.logged ≡ record_bytes (logged.Write (m.newest + 1) ops) = c.in_ok-logged.ensures.logged ∙ ap (λ (n : ℕ). record_bytes (logged.Write n ops)) first in
    let none : write_fault c.args.self.now ops ≡ None = sym c.write_fault.ensures ∙ c.in-None.is in
    rw (c.in-Ok.ensures.ok, bytes, last, ← c.self.view_is) (ap (λ (v : CoordValue). write_fault v ops) c.self.view_is ∙ none, record { active = perm; rest = refl; counted = c.in-Ok.ensures.counted })

pub returns-clause-sound : goal.returns-clause-sound
returns-clause-sound g c = rw (c.in-Ok.ensures.ok, ← c.self.view_is) (same_keeps _ _ refl refl refl refl)
