use Rattle.std.proofs.Common.{◌≡◌, ◌<◌, [], ℕ, List, length, slice_index_or, subst, sym, arith}
use Rattle.lsm_edit.specs.Served.{ServedValue}
use Rattle.std.proofs.lemmas.List.Elements.{All-push}
use Rattle.lsm_readers.proofs.start.readers.Goals as goal

pub loop-i-preserved : goal.loop-i-preserved
loop-i-preserved g c = (
  omega (arith, c.push_reserved.ensures.len, c.reserve.ensures.len, c.loop-i.invariant.0),
  (let P : List (List ServedValue) → Type 0 = λ xs. (k : ℕ) (d : List ServedValue) → k < length xs → slice_index_or xs k d ≡ [] in subst P (sym c.push_reserved.ensures.items) (All-push (λ (x : List ServedValue). x ≡ []) c.reserve.new.self.items c.in_ok-reader.reader (subst P (sym c.reserve.ensures.items) c.loop-i.invariant.1) c.in_ok-reader.ensures)),
  c.loop-i.invariant.2,
)
