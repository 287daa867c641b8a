use Rattle.std.proofs.Common.{◌≡◌, ◌+◌, true, List, drop, refl, sym, ap, ◌∙◌}
use Rattle.std.specs.List.{list_any}
use Rattle.std.proofs.lemmas.Bool.{true≢false}
use Rattle.std.proofs.lemmas.List.{take_rest}
use Rattle.lsm_table.specs.Tables.{Opened}
use Rattle.lsm_merge.proofs.InputTests.{in_one, share_is, share_from, same_at, same_after}
use Rattle.lsm_merge.proofs.inputs.have_same_entry.Goals as goal

pub returns-then-shares_entry : goal.returns-then-shares_entry
returns-then-shares_entry c =
    let tables = c.args.tables.now in
    let i = c.loop-i.i in
    let es = c.index-tables-i.result.entries in
    let later : list_any (in_one (drop (i + 1) tables)) es ≡ true = ap (λ (ts : List Opened). list_any (in_one ts) es) (sym (take_rest tables (i + 1))) ∙ sym c.shares_entry.ensures ∙ c.if-shares_entry.true in
    (λ _. same_at tables i c.index-tables-i.result c.loop-i-test.true c.index-tables-i.is (share_is es (drop (i + 1) tables) later), λ _. refl)

pub loop-i-preserved : goal.loop-i-preserved
loop-i-preserved c = λ h.
    let tables = c.args.tables.now in
    let i = c.loop-i.i in
    let es = c.index-tables-i.result.entries in
    same_after tables i c.index-tables-i.result c.loop-i-test.true c.index-tables-i.is (λ s.
    true≢false (sym (share_from es (drop (i + 1) tables) s) ∙ ap (λ (ts : List Opened). list_any (in_one ts) es) (sym (take_rest tables (i + 1))) ∙ sym c.shares_entry.ensures ∙ c.if-shares_entry.false)) (c.loop-i.invariant h)
