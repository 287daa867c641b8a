use Rattle.std.proofs.Common.{◌≡◌, true, false, ap, sym, ◌∙◌}
use Rattle.lsm_key.specs.declared.entry.Entry.{Entry}
use Rattle.lsm_key.specs.Versions.{is_long}
use Rattle.lsm_table.specs.Tables.{version_of_entries}
use Rattle.lsm_table.proofs.TableVersions.{version_goes_on, version_found}
use Rattle.lsm_table.proofs.reading.version_of.Goals as goal

pub loop-entry-init : goal.loop-entry-init
loop-entry-init c = ap version_of_entries (c.into_iter-entry-iterator.ensures.into_iter_gives ∙ c.cursor-entry-items.ensures)

pub returns-then-is_long : goal.returns-then-is_long
returns-then-is_long c =
    let long : is_long c.in-Some.entry.ikey.key ≡ true = sym (ap (λ (e : Entry). is_long e.ikey.key) c.entry.ensures) ∙ sym c.is_long.ensures ∙ c.if-is_long.true in
    version_found c.args.block.now c.loop-entry.entry-iterator c.in-Some.entry c.next.new.self c.loop-entry.invariant c.in-Some.ensures.steps long

pub loop-entry-preserved : goal.loop-entry-preserved
loop-entry-preserved c =
    let short : is_long c.in-Some.entry.ikey.key ≡ false = sym (ap (λ (e : Entry). is_long e.ikey.key) c.entry.ensures) ∙ sym c.is_long.ensures ∙ c.if-is_long.false in
    version_goes_on c.args.block.now c.loop-entry.entry-iterator c.in-Some.entry c.next.new.self c.loop-entry.invariant c.in-Some.ensures.steps short

pub returns : goal.returns
returns c = sym (ap version_of_entries c.in-None.ensures.steps.0) ∙ c.loop-entry.invariant
