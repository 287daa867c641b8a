use Rattle.std.proofs.Common.{◌-◌, List, length, slice_get, sym, ap, ◌∙◌}
use Rattle.std.proofs.lemmas.Result.{IfOk-weaker}
use Rattle.lsm_coord.proofs.ScansAgree.{Pair}
use Rattle.lsm_store.specs.Ranges.{next_key}
use Rattle.lsm_store.proofs.RangeParts.{end_of_some}
use Rattle.lsm_store.proofs.store.range.Part.end.Goals as goal

pub returns-in-Some : goal.returns-in-Some
returns-in-Some c =
    let last = c.in-Some.ensures.value ∙ ap (λ (ps : List Pair). slice_get ps (length ps - 1)) c.deref.ensures.value in
    let is = end_of_some c.args.self.now.from.items c.args.self.now.pairs.items c.in-Some.field-0.now last in
    IfOk-weaker c.key_after.result _ _ (λ after h. h ∙ ap next_key c.deref-in-Some.ensures ∙ sym is) c.key_after.ensures
