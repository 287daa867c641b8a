use Rattle.std.proofs.Common.{List, subst}
use Rattle.lsm_edit.specs.declared.file.FileMeta.{FileMeta}
use Rattle.lsm_inspect.specs.declared.damage.Finding.{Finding}
use Rattle.lsm_inspect.specs.Check.{Finds}
use Rattle.lsm_inspect.proofs.Findings.{finds_whole}
use Rattle.lsm_inspect.proofs.checking.check.Goals as goal

pub returns-clause-whole : goal.returns-clause-whole
returns-clause-whole c none =
    let now = c.args.contents.now in
    let so = subst (λ (fs : List FileMeta). Finds now.tables now.damaged_tables.items fs c.in_ok-findings.findings.items) c.files.ensures.all c.in_ok-findings.ensures in
    finds_whole now.tables now.damaged_tables.items c.in_ok-version.version.files (subst (λ (xs : List Finding). Finds now.tables now.damaged_tables.items c.in_ok-version.version.files xs) none so)
