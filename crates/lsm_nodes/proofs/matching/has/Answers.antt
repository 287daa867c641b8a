-- A search by position.
use Rattle.std.proofs.Common.{◌∙◌, ap, sym, get_or, refl, rules, is_ok}
use Rattle.std.specs.Prelude.{nat_eq}
use Rattle.std.proofs.lemmas.Bool.{eq-eqb, eqb-true, false_from_ne_true, true≢false}
use Rattle.std.proofs.lemmas.Cmp.{ranked}
use Rattle.std.proofs.lemmas.List.Sorted.{answers_always}
use Rattle.lsm_key.proofs.Lists.{any_from}
use Rattle.lsm_key.proofs.Membership.{IsIn-at}
use Rattle.lsm_edit.proofs.NumberSearch.{searched}
use Rattle.lsm_nodes.specs.declared.shared.tally.Record.{Record}
use Rattle.lsm_nodes.specs.Tallies.{record_at}
use Rattle.lsm_nodes.proofs.MatchedRecords.{found_there, positions_rise}
use Rattle.lsm_nodes.proofs.matching.has.Goals as goal

pub returns-in-Ok : goal.returns-in-Ok
returns-in-Ok c =
    let rs = c.args.records.now in
    let r : Record = get_or rs c.in-Ok.at c.index-records-at.result in
    let found = c.in-Ok.ensures.position (λ (q : Record). q.position) (answers_always _ _ _ (λ f a r g called. search rules)) in
    found_there rs r c.args.position c.args.exchange.now c.same.result c.requires (IsIn-at rs c.in-Ok.at c.index-records-at.result c.in-Ok.ensures.bound) (ranked _ c.args.position _ (sym (found c.index-records-at.result))) c.same.ensures

pub returns-in-Err : goal.returns-in-Err
returns-in-Err c =
    let rs = c.args.records.now in
    let n = c.args.position in
    let found = c.binary_search_by_key.ensures in
    let by_position = found.position (λ (q : Record). q.position) (answers_always _ _ _ (λ f a r g called. search rules)) in
    let none = searched (λ (q : Record). q.position) n (λ q. nat_eq q.position n) (λ q e. eq-eqb q.position n e) (λ q differ. false_from_ne_true (nat_eq q.position n) (λ h. differ (eqb-true q.position n h))) rs c.binary_search_by_key.result (positions_rise 0 rs c.requires) found.bound by_position in (
      λ t. absurd (true≢false (sym t)),
      λ m. absurd (true≢false (sym (any_from (λ q. nat_eq q.position n) rs (record_at n c.args.exchange.now) m (eq-eqb n n refl)) ∙ sym none ∙ ap is_ok c.in-Err.is)),
    )
