use Rattle.std.proofs.Common.{◌≡◌, ◌∙◌, ◌-◌, sym, ap, length, get_or, arith}
use Rattle.std.proofs.lemmas.Bool.{eqb-false}
use Rattle.lsm_key.proofs.Membership.{IsIn-at}
use Rattle.lsm_edit.specs.declared.served.Placed.{Placed}
use Rattle.lsm_edit.proofs.CoveredFiles.{deepest_last}
use Rattle.lsm_edit.proofs.served.search.deepest_level.Goals as goal

pub returns-clause-deepest : goal.returns-clause-deepest
returns-clause-deepest c p m =
    let places = c.args.places.now in
    let last = c.index-places-places.result in
    let some = eqb-false (length places) 0 (sym c.is_empty.ensures ∙ c.if-is_empty.false) in
    omega (arith, deepest_last places c.requires.ordered last (omega (arith, some)) c.index-places-places.is p m, ap (λ (x : Placed). x.meta.level) c.index-places-places.is)

pub returns-clause-small : goal.returns-clause-small
returns-clause-small c =
    let places = c.args.places.now in
    let some = eqb-false (length places) 0 (sym c.is_empty.ensures ∙ c.if-is_empty.false) in
    c.requires.levels (get_or places (length places - 1) c.index-places-places.result) (IsIn-at places (length places - 1) c.index-places-places.result (omega (arith, some)))
