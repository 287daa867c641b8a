use Rattle.std.proofs.Common.{◌≡◌, ◌+◌, ◌-◌, ◌<◌, ◌≤◌, ℕ, List, length, sum_by, None, sym, ap, ◌∙◌, arith}
use Rattle.std.proofs.lemmas.Bool.{eqb-true, eqb-false}
use Rattle.lsm_key.specs.declared.entry.Entry.{Entry}
use Rattle.lsm_key.specs.declared.op.Op.{Op}
use Rattle.lsm_key.specs.declared.limits.TheConstants.{MAX_MEMTABLE_WEIGHT}
use Rattle.lsm_key.specs.Limits.{entry_weight, total_weight, batch_fault}
use Rattle.lsm_key.specs.Places.{entries_after}
use Rattle.lsm_mem.specs.Chains.{Chain, entries_in, with_entries}
use Rattle.lsm_mem.specs.Memtable.{last_sequence}
use Rattle.lsm_mem.proofs.ChainsGrow.{with_entries-permuted}
use Rattle.lsm_mem.proofs.MemtableTotals.{noted_none, noted_some, length-le-weight}
use Rattle.lsm_mem.proofs.memtable.Memtable.apply.Goals as goal

pub overflow_add-self-2 : goal.overflow_add-self-2
overflow_add-self-2 c =
    let is = c.self.invariant in
    let weighed = is.weighed in
    let counted = is.counted in
    let light = is.light in
    let few = c.ops-ops.ensures.few in
    let ops = ap length c.ops-ops.ensures.all in
    let le = length-le-weight (entries_in c.self.inside.buckets) in
    omega arith

older_by_one : (cs : List Chain) (es : List Entry) (last first : ℕ) → entries_in cs ≡ es → last ≡ last_sequence (entries_in cs) → last_sequence es < first → last ≤ first - 1
older_by_one cs es last first view newest newer = let same : last ≡ last_sequence es = newest ∙ ap last_sequence view in omega arith

light_enough : (cs : List Chain) (es : List Entry) (weight : ℕ) (ops batch : List Op) → entries_in cs ≡ es → weight ≡ sum_by entry_weight (entries_in cs) → ops ≡ batch → sum_by entry_weight es + total_weight batch ≤ MAX_MEMTABLE_WEIGHT → weight + total_weight ops ≤ MAX_MEMTABLE_WEIGHT
light_enough cs es weight ops batch view weighed all room =
    let old : weight ≡ sum_by entry_weight es = weighed ∙ ap (sum_by entry_weight) view in
    let new : total_weight ops ≡ total_weight batch = ap total_weight all in
    omega arith

pub invariant_of-self-2 : goal.invariant_of-self-2
invariant_of-self-2 c =
    let is = c.self.invariant in
    let cs = c.self.inside.buckets in
    let ops = c.ops-ops.result.now in
    let after : ℕ = c.args.first_seq - 1 in
    let weight : c.weight.result ≡ total_weight ops = c.weight.ensures.value ∙ sym (ap total_weight c.ops-ops.ensures.all) in
    let later : c.self.inside.last ≤ after = older_by_one cs c.args.self.now c.self.inside.last c.args.first_seq c.self.view_is is.newest c.requires.newer in
    let light = light_enough cs c.args.self.now c.self.inside.weight ops c.args.batch.now c.self.view_is is.weighed c.ops-ops.ensures.all c.requires.room in
    let not_none = eqb-false (length ops) 0 (sym c.if-is_empty.ensures) in
    let some : 0 < length ops = omega (arith, not_none) in
    let newer = c.requires.newer in
    let number = c.number.ensures.value in
    let made = c.new-self-inside.ensures in
    let seq : c.new-self-inside.result ≡ after + length ops = omega (arith, newer, some, number, made) in
    let good : batch_fault ops ≡ None = ap batch_fault c.ops-ops.ensures.all ∙ c.ops-ops.ensures.within in
    let made = c.in_ok-logged.ensures.ok ∙ ap (λ (os : List Op). with_entries (entries_after after os) cs) (sym c.ops-ops.ensures.all) in
    rw (made, weight) (noted_some cs c.self.inside.weight c.self.inside.count c.self.inside.last after c.new-self-inside.result ops is later good light some seq)

pub invariant_of-self-then-is_empty : goal.invariant_of-self-then-is_empty
invariant_of-self-then-is_empty c =
    let is = c.self.invariant in
    let cs = c.self.inside.buckets in
    let ops = c.ops-ops.result.now in
    let after : ℕ = c.args.first_seq - 1 in
    let weight : c.weight.result ≡ total_weight ops = c.weight.ensures.value ∙ sym (ap total_weight c.ops-ops.ensures.all) in
    let later : c.self.inside.last ≤ after = older_by_one cs c.args.self.now c.self.inside.last c.args.first_seq c.self.view_is is.newest c.requires.newer in
    let light = light_enough cs c.args.self.now c.self.inside.weight ops c.args.batch.now c.self.view_is is.weighed c.ops-ops.ensures.all c.requires.room in
    let none = eqb-true (length ops) 0 (sym c.if-is_empty.ensures) in
    let good : batch_fault ops ≡ None = ap batch_fault c.ops-ops.ensures.all ∙ c.ops-ops.ensures.within in
    let made = c.in_ok-logged.ensures.ok ∙ ap (λ (os : List Op). with_entries (entries_after after os) cs) (sym c.ops-ops.ensures.all) in
    rw (made, weight) (noted_none cs c.self.inside.weight c.self.inside.count c.self.inside.last after ops is later good light none)

pub returns-then-is_empty-clause-ok : goal.returns-then-is_empty-clause-ok
returns-then-is_empty-clause-ok c =
    rw (← c.self.view_is, c.in_ok-logged.ensures.ok) (with_entries-permuted (entries_after (c.args.first_seq - 1) c.args.batch.now) c.self.inside.buckets)

pub returns-clause-ok : goal.returns-clause-ok
returns-clause-ok c =
    rw (← c.self.view_is, c.in_ok-logged.ensures.ok) (with_entries-permuted (entries_after (c.args.first_seq - 1) c.args.batch.now) c.self.inside.buckets)
