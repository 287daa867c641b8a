use Rattle.std.proofs.Common.{◌≡◌, ℕ, ◌<◌, ◌≤◌, Bool, not, ◌&&◌, List, sym, ap, ◌∙◌, arith}
use Rattle.std.proofs.lemmas.Bool.{le-leb, lt-leb}
use Rattle.lsm_key.specs.declared.entry.Entry.{Entry}
use Rattle.lsm_key.specs.Visible.{has_key}
use Rattle.lsm_table.specs.Tables.{key_of_entry, largest_key}
use Rattle.lsm_table.proofs.TableWeights.{entries_weigh}
use Rattle.lsm_merge.specs.declared.outputs.TheConstants.{OUTPUT_TARGET}
use Rattle.lsm_merge.specs.Outputs.{weight_of_entries}
use Rattle.lsm_merge.proofs.OutputSteps.{ends_none}
use Rattle.lsm_merge.proofs.outputs.closes_before.Goals as goal

pub returns-then-weight-lt-OUTPUT_TARGET : goal.returns-then-weight-lt-OUTPUT_TARGET
returns-then-weight-lt-OUTPUT_TARGET c =
    let es : List Entry = c.args.taking.now.entries in
    let light : weight_of_entries es < OUTPUT_TARGET = omega (arith, c.if-weight-lt-OUTPUT_TARGET.true, c.weight.ensures, entries_weigh es) in
    sym (ap (λ (b : Bool). b && not (has_key (largest_key es) c.args.entry.now)) (lt-leb OUTPUT_TARGET (weight_of_entries es) light))

pub returns-in-Some : goal.returns-in-Some
returns-in-Some c =
    let es : List Entry = c.args.taking.now.entries in
    let heavy : OUTPUT_TARGET ≤ weight_of_entries es = omega (arith, c.if-weight-lt-OUTPUT_TARGET.false, c.weight.ensures, entries_weigh es) in
    let key : largest_key es ≡ c.in-Some.last.key.now = ap key_of_entry (sym c.in-Some.ensures) in
    c.ne.ensures
    ∙ ap (λ (e : Entry). not (has_key c.in-Some.last.key.now e)) c.entry.ensures
    ∙ ap (λ (k : List ℕ). not (has_key k c.args.entry.now)) (sym key)
    ∙ sym (ap (λ (b : Bool). b && not (has_key (largest_key es) c.args.entry.now)) (le-leb OUTPUT_TARGET (weight_of_entries es) heavy))

pub returns-in-None : goal.returns-in-None
returns-in-None c =
    let es : List Entry = c.args.taking.now.entries in
    let heavy : OUTPUT_TARGET ≤ weight_of_entries es = omega (arith, c.if-weight-lt-OUTPUT_TARGET.false, c.weight.ensures, entries_weigh es) in
    absurd (ends_none es heavy (sym c.in-None.ensures))
