use Rattle.std.proofs.Common.{◌≡◌, ◌∙◌, ◌∷◌, ◌++◌, [], List, None, ap, subst}
use Rattle.lsm_key.proofs.Results.{on_err}
use Rattle.lsm_table.specs.Tables.{Opened}
use Rattle.lsm_edit.specs.declared.edit.Edit.{Edit}
use Rattle.lsm_edit.specs.Next.{flush_edit}
use Rattle.lsm_edit.specs.Served.{AreAsRecorded, IsServed, ServedValue}
use Rattle.lsm_edit.specs.Version.{VersionValue, IsVersion, apply_fault}
use Rattle.lsm_versions.specs.Manifest.{MayHavePut, VersionSetValue}
use Rattle.lsm_coord.specs.Inner.Putting.{IsTableOfFile}
use Rattle.lsm_coord.proofs.FlushSteps.{logged_is}
use Rattle.lsm_coord.proofs.PutOutputs.{file_put}
use Rattle.lsm_coord.proofs.coord.flush.put_table.Goals as goal

pub log_and_apply-requires-clause-recorded : goal.log_and_apply-requires-clause-recorded
log_and_apply-requires-clause-recorded g c =
    let files : c.in_ok-edit.edit.added ≡ c.args.meta ∷ [] = ap (λ (e : Edit). e.added) c.in_ok-edit.ensures.edit in
    let tables : c.push.new.self.items ≡ c.args.table ∷ [] = c.in_ok-push.ensures.items ∙ ap (λ (ts : List Opened). ts ++ c.args.table ∷ []) c.in_ok-tables.ensures.items in
    rw (files, tables) (c.requires.recorded, tt)

pub returns-in_err-log_and_apply-clause-err : goal.returns-in_err-log_and_apply-clause-err
returns-in_err-log_and_apply-clause-err g c =
    let files : c.in_ok-edit.edit.added ≡ c.args.meta ∷ [] = ap (λ (e : Edit). e.added) c.in_ok-edit.ensures.edit in
    let tables : c.push.new.self.items ≡ c.args.table ∷ [] = c.in_ok-push.ensures.items ∙ ap (λ (ts : List Opened). ts ++ c.args.table ∷ []) c.in_ok-tables.ensures.items in
    on_err c.from_residual-in_err-log_and_apply.result (MayHavePut (IsTableOfFile c.args.meta c.args.table) c.args.versions.now c.log_and_apply.new.self)
    (file_put c.args.meta c.args.table c.in_ok-edit.edit.added c.push.new.self.items c.args.versions.now c.log_and_apply.new.self files tables c.in_err-log_and_apply.ensures.err)

pub returns-clause-ok : goal.returns-clause-ok
returns-clause-ok g c =
    let old : VersionSetValue = c.args.versions.now in
    let s = old.served in
    let e = c.in_ok-edit.edit in
    let version_is : c.version.result.now ≡ s.version = c.version.ensures ∙ ap (λ (v : ServedValue). v.version) c.served.ensures.served in
    let is : e ≡ flush_edit s.version c.args.end c.args.meta = c.in_ok-edit.ensures.edit ∙ ap (λ (v : VersionValue). flush_edit v c.args.end c.args.meta) version_is in
    let tables : c.push.new.self.items ≡ c.args.table ∷ [] = c.in_ok-push.ensures.items ∙ ap (λ (ts : List Opened). ts ++ c.args.table ∷ []) c.in_ok-tables.ensures.items in
    let added : e.added ≡ c.args.meta ∷ [] = ap (λ (x : Edit). x.added) c.in_ok-edit.ensures.edit in
    let recorded : AreAsRecorded e.added c.push.new.self.items = rw (added, tables) (c.requires.recorded, tt) in
    let served : IsServed s = c.served.ensures.sound.0 in
    let version : IsVersion s.version = c.served.ensures.sound.1 in
    let applies : apply_fault s.version e ≡ None = subst (λ (v : VersionValue). apply_fault v e ≡ None) version_is c.in_ok-edit.ensures.applies in
    record {
      edit = e;
      edit_is = is;
      valid = c.in_ok-edit.ensures.sound;
      applies = applies;
      new_is =
          c.in_ok-log_and_apply.ensures.ok
          ∙ ap (λ (v : VersionSetValue). record v { failures = c.log_and_apply.new.self.failures }) (logged_is old c.args.end c.args.meta c.args.table c.push.new.self.items e version served c.in_ok-edit.ensures.sound recorded applies is tables);
      counted = c.in_ok-log_and_apply.ensures.counted;
    }
