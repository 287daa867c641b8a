use Rattle.std.proofs.Common.{◌≡◌, ◌+◌, ◌++◌, ◌∷◌, [], Bool, List, cond, drop, map, filter, false, true, eqb, sym, ap, ◌∙◌}
use Rattle.std.specs.List.{list_any}
use Rattle.std.proofs.lemmas.List.{drop_more, append_assoc}
use Rattle.lsm_edit.specs.declared.served.Placed.{Placed}
use Rattle.lsm_versions.specs.declared.retired.Retired.{Retired}
use Rattle.lsm_versions.specs.Retention.{retire}
use Rattle.lsm_versions.proofs.retired.retired_by.Goals as goal

pub loop-placed-preserved-then-not-is_among : goal.loop-placed-preserved-then-not-is_among
loop-placed-preserved-then-not-is_among c =
    let ps = c.places-placed-items.result.now in
    let removed = c.removed_by-removed.result.now in
    let p = c.placed-item.result in
    let rest = drop (c.loop-placed.placed-index + 1) ps in
    let test = λ (q : Placed). list_any (λ n. eqb q.meta.number n) removed in
    let listed : List Placed → List Retired = λ qs. c.loop-placed.retired.items ++ map (retire c.new-until.result) qs in
    let here : drop c.loop-placed.placed-index ps ≡ p ∷ rest = drop_more ps c.loop-placed.placed-index p c.loop-placed-test.true ∙ ap (λ (q : Placed). q ∷ rest) (sym c.placed-item.is) in
    let no : test p ≡ false = sym c.is_among.ensures ∙ c.if-not-is_among.true in
    ap (λ (b : Bool). listed (cond b (p ∷ filter test rest) (filter test rest))) (sym no) ∙ ap (λ (qs : List Placed). listed (filter test qs)) (sym here) ∙ c.loop-placed.invariant

pub loop-placed-preserved : goal.loop-placed-preserved
loop-placed-preserved c =
    let ps = c.places-placed-items.result.now in
    let removed = c.removed_by-removed.result.now in
    let p = c.placed-item.result in
    let rest = drop (c.loop-placed.placed-index + 1) ps in
    let test = λ (q : Placed). list_any (λ n. eqb q.meta.number n) removed in
    let until = c.new-until.result in
    let done = c.loop-placed.retired.items in
    let listed : List Placed → List Retired = λ qs. done ++ map (retire until) qs in
    let here : drop c.loop-placed.placed-index ps ≡ p ∷ rest = drop_more ps c.loop-placed.placed-index p c.loop-placed-test.true ∙ ap (λ (q : Placed). q ∷ rest) (sym c.placed-item.is) in
    let yes : test p ≡ true = sym c.is_among.ensures ∙ c.if-not-is_among.false in
    let pushed : c.push.new.self.items ≡ done ++ retire until p ∷ [] = c.in_ok-push.ensures.items ∙ ap (λ (r : Retired). done ++ r ∷ []) c.in_ok-retire.ensures in
    ap (λ (rs : List Retired). rs ++ map (retire until) (filter test rest)) pushed
    ∙ append_assoc done (retire until p ∷ []) (map (retire until) (filter test rest))
    ∙ ap (λ (b : Bool). listed (cond b (p ∷ filter test rest) (filter test rest))) (sym yes) ∙ ap (λ (qs : List Placed). listed (filter test qs)) (sym here) ∙ c.loop-placed.invariant
