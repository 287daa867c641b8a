use Rattle.std.proofs.Common.{◌≡◌, ◌+◌, ◌∙◌, None, Some, List, ℕ, sym, ap, subst, arith, length, map}
use Rattle.std.proofs.lemmas.Grind.{common_steps}
use Rattle.lsm_key.specs.Sets.{IsIn}
use Rattle.lsm_edit.specs.declared.edit.Edit.{Edit}
use Rattle.lsm_edit.specs.declared.file.FileMeta.{FileMeta}
use Rattle.lsm_edit.specs.Served.{AreAsRecorded}
use Rattle.lsm_edit.specs.Version.{VersionValue, apply_fault}
use Rattle.lsm_coord.specs.Contract.Installing.{AreOutputTables, install_edit_of, number_fault}
use Rattle.lsm_coord.proofs.InstallEdits.{records_recorded}
use Rattle.lsm_coord.proofs.InstallRefusals.{has_numbers, lacks_numbers}
use Rattle.lsm_coord.proofs.OpenedOutputs.{tables_each, tables_length}
use Rattle.lsm_coord.proofs.PutOutputs.{outputs_left}
use Rattle.lsm_coord.proofs.coord.install.put_outputs.Goals as goal

pub edit_of-requires-clause-few : goal.edit_of-requires-clause-few
edit_of-requires-clause-few g c =
    let o = c.in_ok-tables.ensures.ok in
    let len = tables_length c.as_slice.result.now c.in_ok-tables.tables.items o.tables in
    let same = ap length c.deref.ensures.value in
    let few = o.few in
    omega (arith, len, same, few)

pub edit_of-requires-clause-sound : goal.edit_of-requires-clause-sound
edit_of-requires-clause-sound g c = λ t m.
    let o = c.in_ok-tables.ensures.ok in
    tables_each c.as_slice.result.now c.in_ok-tables.tables.items o.tables t (subst (IsIn t) c.deref.ensures.value m)

pub log_and_apply-requires-clause-recorded : goal.log_and_apply-requires-clause-recorded
log_and_apply-requires-clause-recorded g c =
    let o = c.in_ok-tables.ensures.ok in
    let is = ap (λ (e : Edit). e.added) (c.in_ok-edit.ensures.edit ∙ ap (install_edit_of c.version-version.result.now c.args.job.now.want) c.deref.ensures.value) in
    subst (λ (fs : List FileMeta). AreAsRecorded fs c.in_ok-tables.tables.items) (sym is)
    (records_recorded _ _ c.in_ok-tables.tables.items (tables_each c.as_slice.result.now c.in_ok-tables.tables.items o.tables))

pub returns-clause-ok : goal.returns-clause-ok
returns-clause-ok g c =
    let s = c.args.versions.now.served in
    let want = c.args.job.now.want in
    let ts = c.in_ok-tables.tables.items in
    let is : c.in_ok-edit.edit ≡ install_edit_of s.version want ts =
    c.in_ok-edit.ensures.edit ∙ (λ i. install_edit_of (c.version-version.ensures i) want (c.deref.ensures.value i)) in
    let len : c.len.result ≡ length ts = grind (arith, common_steps) in
    record {
      tables = ts;
      accepted = record {
        same_job = (c.are_same.ensures).0 c.if-not-are_same.false;
        outputs = subst (λ (texts : List (List ℕ)). AreOutputTables c.args.block want.hull texts ts) c.as_slice.ensures c.in_ok-tables.ensures.ok;
        numbers = has_numbers s.version ts ((λ i. number_fault (sym c.version-version.ensures i) (sym len i)) ∙ sym c.number_fault.ensures ∙ c.in-None.is);
      };
      edit = c.in_ok-edit.edit;
      edit_is = is;
      valid = c.in_ok-edit.ensures.sound;
      applies = subst (λ (v : VersionValue). apply_fault v c.in_ok-edit.edit ≡ None) c.version-version.ensures c.in_ok-edit.ensures.applies;
      new_is = c.in_ok-log_and_apply.ensures.ok;
      counted = c.in_ok-log_and_apply.ensures.counted;
      number_is = c.new-number.ensures ∙ ap (λ (n : ℕ). n + 1) (c.number.ensures.value ∙ ap (λ (v : VersionValue). v.number) c.version-version.ensures);
      files_are = c.from_vec.ensures ∙ c.in_ok-files.ensures ∙ ap (map (λ (f : FileMeta). f.number)) (c.as_slice-2.ensures ∙ ap (λ (e : Edit). e.added) is);
    }

pub returns-in_err-log_and_apply-clause-left : goal.returns-in_err-log_and_apply-clause-left
returns-in_err-log_and_apply-clause-left g c =
    let want = c.args.job.now.want in
    let ts = c.in_ok-tables.tables.items in
    let is : c.in_ok-edit.edit ≡ install_edit_of c.args.versions.now.served.version want ts =
    c.in_ok-edit.ensures.edit ∙ (λ i. install_edit_of (c.version-version.ensures i) want (c.deref.ensures.value i)) in
    let outputs : AreOutputTables c.args.block want.hull c.args.made.now.tables ts = subst (λ (texts : List (List ℕ)). AreOutputTables c.args.block want.hull texts ts) c.as_slice.ensures c.in_ok-tables.ensures.ok in
    outputs_left _ c.args.made.now c.from_residual-in_err-log_and_apply.result c.in_err-log_and_apply.field-0.0 c.args.versions.now c.log_and_apply.new.self want ts c.in_ok-edit.edit
    c.from_residual-in_err-log_and_apply.ensures.1 outputs.tables is c.in_err-log_and_apply.ensures.err c.in_err-log_and_apply.ensures.counted

pub returns-in-Some-clause-why : goal.returns-in-Some-clause-why
returns-in-Some-clause-why g c =
    let ts = c.in_ok-tables.tables.items in
    let len : c.len.result ≡ length ts = grind (arith, common_steps) in
    let outputs : AreOutputTables c.args.block c.args.job.now.want.hull c.args.made.now.tables ts = subst (λ (texts : List (List ℕ)). AreOutputTables c.args.block c.args.job.now.want.hull texts ts) c.as_slice.ensures c.in_ok-tables.ensures.ok in
    let some : number_fault c.args.versions.now.served.version (length ts) ≡ Some c.in-Some.why = (λ i. number_fault (sym c.version-version.ensures i) (sym len i)) ∙ sym c.number_fault.ensures ∙ c.in-Some.is in
    lacks_numbers c.args.block c.args.versions.now.served.version c.args.job.now c.args.made.now ts c.in-Some.why ((c.are_same.ensures).0 c.if-not-are_same.false) outputs some
