use Rattle.std.proofs.Common.{◌≡◌, ◌≤◌, true, false, List, length, ap, ◌∙◌, subst, arith}
use Rattle.std.specs.Cmp.Lexicographic.{slice_cmp}
use Rattle.std.specs.List.Sorted.{IsPartitionPoint}
use Rattle.std.specs.Ordering.{nat_cmp, is_le}
use Rattle.std.proofs.lemmas.Bool.{le-ltb}
use Rattle.lsm_key.specs.Order.{key_le}
use Rattle.lsm_key.specs.declared.range.KeyRange.{KeyRange}
use Rattle.lsm_msg.specs.Merge.{is_in_ranges}
use Rattle.lsm_merge.proofs.DeeperKeys.{le_is, none_begun, last_tells}
use Rattle.lsm_merge.proofs.deeper.DeeperKeys.have.Goals as goal

pub index-requires : goal.index-requires
index-requires c = omega (arith, c.if-place-gt0.true, c.begun_at-place.ensures.within, c.deref.ensures.len)

pub returns-then-place-gt0 : goal.returns-then-place-gt0
returns-then-place-gt0 c =
    let ranges = c.self.inside.ranges.items in
    let key = c.args.key.now in
    let place = c.begun_at-place.result in
    let point = subst (λ (rs : List KeyRange). IsPartitionPoint (λ r. key_le r.lo key ≡ true) (λ r. key_le r.lo key ≡ false) rs place) c.deref.ensures.value c.begun_at-place.ensures.point in
    let within = subst (λ (rs : List KeyRange). place ≤ length rs) c.deref.ensures.value c.begun_at-place.ensures.within in
    let tells = last_tells ranges key place c.self.invariant point c.index.result.now c.if-place-gt0.true within c.index.ensures in
    c.is_le.ensures ∙ ap is_le (c.cmp.ensures ∙ ap (slice_cmp nat_cmp key) c.as_slice.ensures) ∙ le_is key c.index.result.now.hi ∙ tells ∙ ap (λ (rs : List KeyRange). is_in_ranges rs key) c.self.view_is

pub returns-else-place-gt0 : goal.returns-else-place-gt0
returns-else-place-gt0 c =
    let ranges = c.self.inside.ranges.items in
    let key = c.args.key.now in
    let place = c.begun_at-place.result in
    let point = subst (λ (rs : List KeyRange). IsPartitionPoint (λ r. key_le r.lo key ≡ true) (λ r. key_le r.lo key ≡ false) rs place) c.deref.ensures.value c.begun_at-place.ensures.point in
    le-ltb 0 place (omega (arith, c.if-place-gt0.false)) ∙ none_begun ranges key place c.self.invariant point (omega (arith, c.if-place-gt0.false)) ∙ ap (λ (rs : List KeyRange). is_in_ranges rs key) c.self.view_is
