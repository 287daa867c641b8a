use Rattle.std.proofs.Common.{◌≡◌, ◌≤◌, ◌+◌, ◌++◌, ◌∷◌, [], ℕ, List, None, length, sym, ap, subst, ◌∙◌, arith, inl}
use Rattle.std.specs.Prelude.{IfErr}
use Rattle.std.proofs.lemmas.Result.{err_from_is_err_and}
use Rattle.lsm_key.specs.declared.entry.Entry.{Entry}
use Rattle.lsm_key.specs.declared.limits.TheConstants.{MAX_TABLE_BYTES}
use Rattle.lsm_block.specs.Indexed.{block_entries}
use Rattle.lsm_table.specs.declared.building.BuildError.TheVariants.{TableFull}
use Rattle.lsm_table.specs.Building.{BuilderRefuses, Draft, IsDraft, IsNextEntry, IsDraftWritten, add_fault}
use Rattle.lsm_table.proofs.BuilderDrafts.{draft_small, memory_refused, next_draft, next_full, next_room}
use Rattle.lsm_table.proofs.TableSizes.{parts_small}
use Rattle.lsm_block.proofs.ReadBlocks.{of_span}
use Rattle.lsm_table.proofs.WrittenTables.{blocks_grown, next_weighs, recounted, written_more}
use Rattle.lsm_table.proofs.written.Written.push.Goals as goal

pub grown-measure-requires-clause-small : goal.grown-measure-requires-clause-small
grown-measure-requires-clause-small c =
    let w = c.self.inside in
    draft_small w.target (block_entries w.blocks.items) w.measure c.self.invariant.draft.measured c.self.invariant.draft.small

pub table_len-requires-clause-light : goal.table_len-requires-clause-light
table_len-requires-clause-light c =
    let w = c.self.inside in
    let es : List Entry = block_entries w.blocks.items in
    let e : Entry = c.requires.0 in
    let next : IsNextEntry es c.args.bytes.now e = subst (λ (d : Draft). IsNextEntry d.entries c.args.bytes.now e) (sym c.self.view_is) c.requires.1 in
    (c.grown-measure.ensures.measured es e (c.key_len.ensures e next.sound next.spelled) (next_weighs es c.args.bytes.now e next) c.self.invariant.draft.measured).light

pub returns-then-table_len-gt-MAX_TABLE_BYTES-clause-refused : goal.returns-then-table_len-gt-MAX_TABLE_BYTES-clause-refused
returns-then-table_len-gt-MAX_TABLE_BYTES-clause-refused c =
    let w = c.self.inside in
    let es : List Entry = block_entries w.blocks.items in
    subst (λ (d : Draft). (e : Entry) → IsNextEntry d.entries c.args.bytes.now e → BuilderRefuses (add_fault d e) TableFull) c.self.view_is
    (λ e next. inl (next_full w.target es w.measure c.grown-measure.result c.self.invariant.draft c.args.bytes.now c.key_len.result c.table_len.result c.key_len.ensures c.grown-measure.ensures.measured c.table_len.ensures e next c.if-table_len-gt-MAX_TABLE_BYTES.true))

pub returns-in_err-reserve-clause-refused : goal.returns-in_err-reserve-clause-refused
returns-in_err-reserve-clause-refused c =
    let w = c.self.inside in
    let es : List Entry = block_entries w.blocks.items in
    let small : c.table_len.result ≤ MAX_TABLE_BYTES = omega (arith, c.if-table_len-gt-MAX_TABLE_BYTES.false) in
    subst (λ (d : Draft). (e : Entry) → IsNextEntry d.entries c.args.bytes.now e → IfErr c.from_residual.result (BuilderRefuses (add_fault d e))) c.self.view_is
    (λ e next. memory_refused c.from_residual.result (add_fault (record { target = w.target; entries = es }) e) (next_room w.target es w.measure c.grown-measure.result c.self.invariant.draft c.args.bytes.now c.key_len.result c.table_len.result c.key_len.ensures c.grown-measure.ensures.measured c.table_len.ensures e next small) (err_from_is_err_and c.from_residual.result c.from_residual.ensures.1))

pub returns-in_err-close_full-clause-refused : goal.returns-in_err-close_full-clause-refused
returns-in_err-close_full-clause-refused c =
    let w = c.self.inside in
    let es : List Entry = block_entries w.blocks.items in
    let small : c.table_len.result ≤ MAX_TABLE_BYTES = omega (arith, c.if-table_len-gt-MAX_TABLE_BYTES.false) in
    let r = c.from_residual-in_err-close_full in
    subst (λ (d : Draft). (e : Entry) → IsNextEntry d.entries c.args.bytes.now e → IfErr r.result (BuilderRefuses (add_fault d e))) c.self.view_is
    (λ e next. memory_refused r.result (add_fault (record { target = w.target; entries = es }) e) (next_room w.target es w.measure c.grown-measure.result c.self.invariant.draft c.args.bytes.now c.key_len.result c.table_len.result c.key_len.ensures c.grown-measure.ensures.measured c.table_len.ensures e next small) (err_from_is_err_and r.result r.ensures.1))

pub overflow_add-self : goal.overflow_add-self
overflow_add-self c = let few = (parts_small c.self.inside.target (block_entries c.self.inside.blocks.items) c.self.invariant.draft.small).0 in omega (arith, few, c.self.invariant.counted)

pub invariant_of-self-2 : goal.invariant_of-self-2
invariant_of-self-2 c =
    let w = c.self.inside in
    let es : List Entry = block_entries w.blocks.items in
    let e : Entry = c.requires.0 in
    let grown : List ℕ = c.extend_reserved.new.self.items in
    let next : IsNextEntry es c.args.bytes.now e = subst (λ (d : Draft). IsNextEntry d.entries c.args.bytes.now e) (sym c.self.view_is) c.requires.1 in
    let small : c.table_len.result ≤ MAX_TABLE_BYTES = omega (arith, c.if-table_len-gt-MAX_TABLE_BYTES.false) in
    let draft : IsDraft w.target (es ++ e ∷ []) c.grown-measure.result = next_draft w.target es w.measure c.grown-measure.result c.self.invariant.draft c.args.bytes.now c.key_len.result c.table_len.result c.key_len.ensures c.grown-measure.ensures.measured c.table_len.ensures e next small in
    let lent : IsDraftWritten w.target es (length es) w.index.items c.as_slice.result.now w.last w.measure =
    subst (λ (b : List ℕ). IsDraftWritten w.target es (length es) w.index.items b w.last w.measure) (sym (c.as_slice.ensures ∙ c.reserve.ensures.items)) (recounted w.target es w.count w.index.items w.blocks.items w.last w.measure c.self.invariant) in
    let more : IsDraftWritten w.target (es ++ e ∷ []) (w.count + 1) c.close_full.new.index.items grown c.len-self-inside.result c.grown-measure.result =
    written_more w.target es w.count w.index.items w.blocks.items w.last w.measure c.self.invariant c.args.bytes.now e next c.grown-measure.result c.close_full.new.index.items c.in_ok-close_full.ensures.room (c.in_ok-close_full.ensures.full es lent) c.grown-measure.ensures.room c.grown-measure.ensures.full
    grown c.len-self-inside.result (c.extend_reserved.ensures.items ∙ ap (λ (b : List ℕ). b ++ c.args.bytes.now) c.reserve.ensures.items) (c.len-self-inside.ensures.value ∙ ap length c.reserve.ensures.items) draft in
    subst (λ (zs : List Entry). IsDraftWritten w.target zs (w.count + 1) c.close_full.new.index.items grown c.len-self-inside.result c.grown-measure.result)
    (sym (of_span grown (es ++ e ∷ []) (record { sound = draft.sound; spelled = more.spelled }))) more

pub returns-clause-ok : goal.returns-clause-ok
returns-clause-ok c =
    let w = c.self.inside in
    let es : List Entry = block_entries w.blocks.items in
    let grown : List ℕ = c.extend_reserved.new.self.items in
    let small : c.table_len.result ≤ MAX_TABLE_BYTES = omega (arith, c.if-table_len-gt-MAX_TABLE_BYTES.false) in
    let now : List Entry → Draft = λ zs. record { target = w.target; entries = zs } in
    subst (λ (d : Draft). (e : Entry) → IsNextEntry d.entries c.args.bytes.now e → (add_fault d e ≡ None) × (now (block_entries grown) ≡ record { target = d.target; entries = d.entries ++ e ∷ [] })) c.self.view_is
    (λ e next.
    let draft : IsDraft w.target (es ++ e ∷ []) c.grown-measure.result = next_draft w.target es w.measure c.grown-measure.result c.self.invariant.draft c.args.bytes.now c.key_len.result c.table_len.result c.key_len.ensures c.grown-measure.ensures.measured c.table_len.ensures e next small in
    let spelled = blocks_grown w.target es w.count w.index.items w.blocks.items w.last w.measure c.self.invariant c.args.bytes.now e next grown (c.extend_reserved.ensures.items ∙ ap (λ (b : List ℕ). b ++ c.args.bytes.now) c.reserve.ensures.items) in (
      next_room w.target es w.measure c.grown-measure.result c.self.invariant.draft c.args.bytes.now c.key_len.result c.table_len.result c.key_len.ensures c.grown-measure.ensures.measured c.table_len.ensures e next small,
      ap now (of_span grown (es ++ e ∷ []) (record { sound = draft.sound; spelled = spelled })),
    ))
