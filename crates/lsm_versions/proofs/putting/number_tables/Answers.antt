use Rattle.std.proofs.Common.{arith, ◌≡◌, ◌∙◌, ◌++◌, [], List, sym, ap}
use Rattle.std.proofs.lemmas.Grind.{common_steps}
use Rattle.std.proofs.lemmas.List.{append-nil}
use Rattle.lsm_edit.specs.declared.served.Placed.{Placed}
use Rattle.lsm_edit.specs.Served.{placed_of}
use Rattle.lsm_versions.specs.Putting.{numbered_tables}
use Rattle.lsm_versions.proofs.PutTables.{placed_none}
use Rattle.lsm_versions.proofs.putting.number_tables.Goals as goal

pub returns : goal.returns
returns c =
    let files = c.loop-table.next_files.now in
    let numbered = c.loop-table.numbered.items in
    let none : c.loop-table.next_tables.now ≡ [] = grind (arith, common_steps) in
    sym (append-nil numbered) ∙ ap (λ (ps : List Placed). numbered ++ numbered_tables ps) (sym (ap (placed_of files) none ∙ placed_none files)) ∙ c.loop-table.invariant.1
