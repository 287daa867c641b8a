use Rattle.std.proofs.Common.{◌≡◌, ◌≤◌, ◌⊎◌, ◌∙◌, ◌++◌, ℕ, List, ◌∷◌, [], Option, None, Some, IfSome, drop, refl, ap, sym, subst, arith}
use Rattle.std.specs.FinMap as fin
use Rattle.lsm_key.specs.declared.entry.Entry.{Entry}
use Rattle.lsm_key.proofs.Results.{on_err}
use Rattle.lsm_edit.specs.Edit.{edit as spelling}
use Rattle.lsm_edit.specs.Log.{read_records}
use Rattle.lsm_edit.specs.Next.{flush_edit}
use Rattle.lsm_edit.specs.Version.{IsVersion}
use Rattle.lsm_msg.specs.Installs.{with_flushed}
use Rattle.lsm_msg.proofs.FlushKeepsJobs.{legal_flushed}
use Rattle.lsm_versions.specs.Manifest.{MayHavePut, VersionSetValue}
use Rattle.lsm_versions.proofs.PutTables.{never_falls}
use Rattle.lsm_coord.specs.Contract.Calls.{IsFlushTable, MayHaveStored, flush_source, flush_source_of, active_after}
use Rattle.lsm_coord.specs.Contract.Logs.{IsLogged, records_upto}
use Rattle.lsm_coord.specs.Contract.Memory.{AreLegal, IsCoord}
use Rattle.lsm_coord.specs.Contract.Value.{CoordValue, version_set}
use Rattle.lsm_coord.specs.Inner.Putting.{AddsFile, IsTableOfFile}
use Rattle.lsm_coord.proofs.CoordInvariant.{after_flush, frozen_from, none_from, start_low}
use Rattle.lsm_coord.proofs.InstallRefusals.{stored_left}
use Rattle.lsm_coord.proofs.VaultRefusals.{with_versions}
use Rattle.lsm_coord.proofs.JobsStaySound.{flush_keeps}
use Rattle.lsm_coord.proofs.LogCounts.{may_cut_by}
use Rattle.lsm_coord.proofs.LoggedCalls.{flush_logged}
use Rattle.lsm_coord.proofs.PutOutputs.{flush_put}
use Rattle.lsm_coord.proofs.coord.Coord.add_table.Goals as goal

pub invariant_of-self-then-is_some : goal.invariant_of-self-then-is_some
invariant_of-self-then-is_some g c =
    let m = c.self.inside in
    let from = flush_source_of m.active m.newest m.frozen in
    let new : VersionSetValue = c.put_table.new.versions in
    let adds : AddsFile m.versions c.args.end c.args.meta c.args.table new = c.in_ok-put_table.ensures.ok in
    let end : c.args.end ≡ from.end = c.requires.end ∙ ap (λ (v : CoordValue). (flush_source v).end) (sym c.self.view_is) in
    let some = frozen_from m.frozen (sym c.is_some.ensures ∙ c.if-is_some.true) in
    let version : IsVersion m.versions.served.version = subst IsVersion c.version.ensures c.files-files.ensures.sound in
    let number : c.args.meta.number ≡ m.versions.served.version.next_file = c.requires.place.0 ∙ ap (λ (v : CoordValue). v.served.version.next_file) (sym c.self.view_is) in
    let legal : AreLegal (with_flushed m.versions.served c.args.end c.args.meta c.args.table).version.files m.book.live = λ j live. legal_flushed m.versions.served c.args.end c.args.meta version c.requires.place.1 (omega (arith, number)) j.want (c.self.invariant.0.legal j live) in
    let vs : VersionSetValue = c.cut_log-self-inside.new.versions in
    let log : List (List ℕ) = m.versions.stored.log in
    let upto : Option ℕ = c.flush_records-upto.result in
    let known = subst (λ (v : CoordValue). IfSome upto (λ n. n ≡ records_upto (flush_source v).end (read_records v.stored.log))) (sym c.self.view_is) c.flush_records-upto.ensures in
    let kept : c.put_table.new.versions.stored.log ≡ log = ap (λ (v : VersionSetValue). v.stored.log) adds.new_is in
    let cut = may_cut_by from.end log vs.stored.log upto known (subst (λ (l : List (List ℕ)). (vs.stored.log ≡ l) ⊎ ((n : ℕ) × (upto ≡ Some n) × (vs.stored.log ≡ drop n l))) kept c.cut_log-self-inside.ensures.cut) in
    let is = c.self.invariant.0 in
    let low = start_low m.active m.frozen m.newest m.versions.served m.book m.live.items is in
    let now = flush_logged m.active m.frozen m.newest m.versions.served.version.flushed log vs.stored.log c.self.invariant.1 low is.begun cut in
    let done = after_flush m.active m.frozen m.newest m.versions.served (with_flushed m.versions.served c.args.end c.args.meta c.args.table) m.book m.live.items is end refl legal in
    let gone : active_after m.active m.frozen ≡ m.active = ap (active_after m.active) some.1 in
    rw (c.cut_log-self-inside.ensures.rest, adds.new_is) (
      subst (λ (es : List Entry). IsCoord es None m.newest (with_flushed m.versions.served c.args.end c.args.meta c.args.table) m.book m.live.items) gone done,
      subst (λ (es : List Entry). IsLogged es None m.newest c.args.end vs.stored.log) gone (subst (λ (n : ℕ). IsLogged (active_after m.active m.frozen) None m.newest n vs.stored.log) (sym end) now),
      record { all = c.cut_log-self-inside.ensures.left; frozen_part = tt },
    )

pub invariant_of-self-2 : goal.invariant_of-self-2
invariant_of-self-2 g c =
    let m = c.self.inside in
    let from = flush_source_of m.active m.newest m.frozen in
    let new : VersionSetValue = c.put_table.new.versions in
    let adds : AddsFile m.versions c.args.end c.args.meta c.args.table new = c.in_ok-put_table.ensures.ok in
    let end : c.args.end ≡ from.end = c.requires.end ∙ ap (λ (v : CoordValue). (flush_source v).end) (sym c.self.view_is) in
    let none : m.frozen ≡ None = none_from m.frozen (sym c.is_some.ensures ∙ c.if-is_some.false) in
    let active : active_after m.active m.frozen ≡ c.successor.result = ap (active_after m.active) none ∙ sym c.successor.ensures in
    let version : IsVersion m.versions.served.version = subst IsVersion c.version.ensures c.files-files.ensures.sound in
    let number : c.args.meta.number ≡ m.versions.served.version.next_file = c.requires.place.0 ∙ ap (λ (v : CoordValue). v.served.version.next_file) (sym c.self.view_is) in
    let legal : AreLegal (with_flushed m.versions.served c.args.end c.args.meta c.args.table).version.files m.book.live = λ j live. legal_flushed m.versions.served c.args.end c.args.meta version c.requires.place.1 (omega (arith, number)) j.want (c.self.invariant.0.legal j live) in
    let vs : VersionSetValue = c.cut_log-self-inside.new.versions in
    let log : List (List ℕ) = m.versions.stored.log in
    let upto : Option ℕ = c.flush_records-upto.result in
    let known = subst (λ (v : CoordValue). IfSome upto (λ n. n ≡ records_upto (flush_source v).end (read_records v.stored.log))) (sym c.self.view_is) c.flush_records-upto.ensures in
    let kept : c.put_table.new.versions.stored.log ≡ log = ap (λ (v : VersionSetValue). v.stored.log) adds.new_is in
    let cut = may_cut_by from.end log vs.stored.log upto known (subst (λ (l : List (List ℕ)). (vs.stored.log ≡ l) ⊎ ((n : ℕ) × (upto ≡ Some n) × (vs.stored.log ≡ drop n l))) kept c.cut_log-self-inside.ensures.cut) in
    let is = c.self.invariant.0 in
    let low = start_low m.active m.frozen m.newest m.versions.served m.book m.live.items is in
    let now = flush_logged m.active m.frozen m.newest m.versions.served.version.flushed log vs.stored.log c.self.invariant.1 low is.begun cut in
    let done = after_flush m.active m.frozen m.newest m.versions.served (with_flushed m.versions.served c.args.end c.args.meta c.args.table) m.book m.live.items is end refl legal in
    rw (c.cut_log-self-inside.ensures.rest, adds.new_is, none) (
      subst (λ (es : List Entry). IsCoord es None m.newest (with_flushed m.versions.served c.args.end c.args.meta c.args.table) m.book m.live.items) active done,
      subst (λ (es : List Entry). IsLogged es None m.newest c.args.end vs.stored.log) active (subst (λ (n : ℕ). IsLogged (active_after m.active m.frozen) None m.newest n vs.stored.log) (sym end) now),
      record { all = c.cut_log-self-inside.ensures.left; frozen_part = tt },
    )

pub returns-in_err-put_table-clause-err : goal.returns-in_err-put_table-clause-err
returns-in_err-put_table-clause-err g c =
    let old = c.args.self.now in
    let meta = c.args.meta in
    let table = c.args.table in
    let new : VersionSetValue = c.put_table.new.versions in
    let may = subst (λ (x : CoordValue). MayHavePut (IsTableOfFile meta table) (version_set x) new) c.self.view_is c.in_err-put_table.ensures.err in
    let up = never_falls c.put_table.result _ _ c.put_table.ensures.counted in
    let counted : old.failures ≤ new.failures = subst (λ (x : CoordValue). x.failures ≤ new.failures) c.self.view_is up in
    let left = stored_left old new (flush_put old meta table (version_set old) new c.requires.place.0 c.requires.recorded c.requires.whole c.requires.cut may) counted in
    on_err c.from_residual.result _ (subst (MayHaveStored (IsFlushTable old) old) (λ i. with_versions (sym c.self.view_is i) new) left)

pub returns-then-is_some-clause-ok : goal.returns-then-is_some-clause-ok
returns-then-is_some-clause-ok g c =
    let m = c.self.inside in
    let s = m.versions.served in
    let from = flush_source_of m.active m.newest m.frozen in
    let adds : AddsFile m.versions c.args.end c.args.meta c.args.table c.put_table.new.versions = c.in_ok-put_table.ensures.ok in
    let end : c.args.end ≡ from.end = c.requires.end ∙ ap (λ (v : CoordValue). (flush_source v).end) (sym c.self.view_is) in
    let some = frozen_from m.frozen (sym c.is_some.ensures ∙ c.if-is_some.true) in
    let active : m.active ≡ active_after m.active m.frozen = ap (active_after m.active) (sym some.1) in
    let vs : VersionSetValue = c.cut_log-self-inside.new.versions in
    let log : List (List ℕ) = m.versions.stored.log in
    let upto : Option ℕ = c.flush_records-upto.result in
    let known = subst (λ (v : CoordValue). IfSome upto (λ n. n ≡ records_upto (flush_source v).end (read_records v.stored.log))) (sym c.self.view_is) c.flush_records-upto.ensures in
    let kept : c.put_table.new.versions.stored.log ≡ log = ap (λ (v : VersionSetValue). v.stored.log) adds.new_is in
    let cut = may_cut_by from.end log vs.stored.log upto known (subst (λ (l : List (List ℕ)). (vs.stored.log ≡ l) ⊎ ((n : ℕ) × (upto ≡ Some n) × (vs.stored.log ≡ drop n l))) kept c.cut_log-self-inside.ensures.cut) in
    let first = adds.counted in
    let second = c.cut_log-self-inside.ensures.failures in
    rw (← c.self.view_is, c.cut_log-self-inside.ensures.rest, adds.new_is) (record {
      edit = adds.edit;
      edit_is = adds.edit_is ∙ ap (λ (n : ℕ). flush_edit s.version n c.args.meta) end;
      applies = adds.applies;
      text = spelling adds.edit;
      spelled = record { sound = adds.valid; spelled = refl };
      new_is = λ i. record { limits = m.limits; active = active i; frozen = None; served = with_flushed s (end i) c.args.meta c.args.table; stored = record { edits = m.versions.stored.edits ++ spelling adds.edit ∷ []; tables = fin.insert m.versions.stored.tables c.args.meta.number c.args.table.bytes; log = vs.stored.log }; last = m.newest; snapshots = m.live.items; made = m.made; floor = m.versions.floor; retired = m.versions.retired; book = m.book; failures = vs.failures };
      cut = cut;
      counted = omega (arith, first, second);
    })

pub returns-clause-ok : goal.returns-clause-ok
returns-clause-ok g c =
    let m = c.self.inside in
    let s = m.versions.served in
    let from = flush_source_of m.active m.newest m.frozen in
    let adds : AddsFile m.versions c.args.end c.args.meta c.args.table c.put_table.new.versions = c.in_ok-put_table.ensures.ok in
    let end : c.args.end ≡ from.end = c.requires.end ∙ ap (λ (v : CoordValue). (flush_source v).end) (sym c.self.view_is) in
    let none : m.frozen ≡ None = none_from m.frozen (sym c.is_some.ensures ∙ c.if-is_some.false) in
    let active : c.successor.result ≡ active_after m.active m.frozen = c.successor.ensures ∙ ap (active_after m.active) (sym none) in
    let vs : VersionSetValue = c.cut_log-self-inside.new.versions in
    let log : List (List ℕ) = m.versions.stored.log in
    let upto : Option ℕ = c.flush_records-upto.result in
    let known = subst (λ (v : CoordValue). IfSome upto (λ n. n ≡ records_upto (flush_source v).end (read_records v.stored.log))) (sym c.self.view_is) c.flush_records-upto.ensures in
    let kept : c.put_table.new.versions.stored.log ≡ log = ap (λ (v : VersionSetValue). v.stored.log) adds.new_is in
    let cut = may_cut_by from.end log vs.stored.log upto known (subst (λ (l : List (List ℕ)). (vs.stored.log ≡ l) ⊎ ((n : ℕ) × (upto ≡ Some n) × (vs.stored.log ≡ drop n l))) kept c.cut_log-self-inside.ensures.cut) in
    let first = adds.counted in
    let second = c.cut_log-self-inside.ensures.failures in
    rw (← c.self.view_is, c.cut_log-self-inside.ensures.rest, adds.new_is) (record {
      edit = adds.edit;
      edit_is = adds.edit_is ∙ ap (λ (n : ℕ). flush_edit s.version n c.args.meta) end;
      applies = adds.applies;
      text = spelling adds.edit;
      spelled = record { sound = adds.valid; spelled = refl };
      new_is = λ i. record { limits = m.limits; active = active i; frozen = none i; served = with_flushed s (end i) c.args.meta c.args.table; stored = record { edits = m.versions.stored.edits ++ spelling adds.edit ∷ []; tables = fin.insert m.versions.stored.tables c.args.meta.number c.args.table.bytes; log = vs.stored.log }; last = m.newest; snapshots = m.live.items; made = m.made; floor = m.versions.floor; retired = m.versions.retired; book = m.book; failures = vs.failures };
      cut = cut;
      counted = omega (arith, first, second);
    })

pub returns-then-is_some-clause-sound : goal.returns-then-is_some-clause-sound
returns-then-is_some-clause-sound g c =
    let version : IsVersion c.args.self.now.served.version = subst (λ (v : CoordValue). IsVersion v.served.version) c.self.view_is (subst IsVersion c.version.ensures c.files-files.ensures.sound) in
    let legal : AreLegal c.args.self.now.served.version.files c.args.self.now.book.live = subst (λ (v : CoordValue). AreLegal v.served.version.files v.book.live) c.self.view_is c.self.invariant.0.legal in
    flush_keeps c.args.self.now _ c.args.meta c.args.table version c.requires.place.0 c.requires.place.1 legal (returns-then-is_some-clause-ok g c)

pub returns-clause-sound : goal.returns-clause-sound
returns-clause-sound g c =
    let version : IsVersion c.args.self.now.served.version = subst (λ (v : CoordValue). IsVersion v.served.version) c.self.view_is (subst IsVersion c.version.ensures c.files-files.ensures.sound) in
    let legal : AreLegal c.args.self.now.served.version.files c.args.self.now.book.live = subst (λ (v : CoordValue). AreLegal v.served.version.files v.book.live) c.self.view_is c.self.invariant.0.legal in
    flush_keeps c.args.self.now _ c.args.meta c.args.table version c.requires.place.0 c.requires.place.1 legal (returns-clause-ok g c)
