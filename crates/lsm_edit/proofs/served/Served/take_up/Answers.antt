use Rattle.std.proofs.Common.{arith, ◌≡◌, ◌∙◌, ℕ, ap, sym, subst, rules, List, ◌++◌}
use Rattle.std.proofs.lemmas.Fn.{filter_same}
use Rattle.std.proofs.lemmas.Grind.{common_steps}
use Rattle.lsm_edit.specs.declared.served.Placed.{Placed}
use Rattle.lsm_edit.specs.Prepared.{PreparedValue, after_taking_up}
use Rattle.lsm_edit.specs.Served.{AreInSearchOrder, IsServed, ServedValue, placed_of, places_without, put_all}
use Rattle.lsm_edit.proofs.VersionLaws.{stays}
use Rattle.lsm_edit.proofs.served.Served.take_up.Goals as goal

-- the old places that stay, and the new ones among them
all_places : {s old : ServedValue} {p new : PreparedValue} {numbers : List ℕ} {kept : List Placed} {places : List Placed} → old ≡ s → new ≡ p → numbers ≡ p.removed → kept ≡ places_without numbers old.places → places ≡ kept
    → put_all (placed_of new.files new.tables) places ≡ (after_taking_up s p).places
all_places {s = s} {p = p} {new = new} old_is new_is numbers kept places =
    ap (put_all (placed_of new.files new.tables)) (places ∙ kept ∙ (λ i. places_without (numbers i) (old_is i).places))
    ∙ (λ i. put_all (placed_of (new_is i).files (new_is i).tables) (places_without p.removed s.places))

pub put_each-requires-clause-ordered : goal.put_each-requires-clause-ordered
put_each-requires-clause-ordered c =
    let kept : c.retain.new.self.items ≡ places_without c.removed-removed.result.now c.self.inside.placed.items = filter_same _ (λ (q : Placed). stays c.removed-removed.result.now q.meta) _ (λ x b f k. search rules) _ _ c.retain.ensures.filtered in
    let appended : c.append.new.self.items ≡ c.prepared.inside.places.items ++ c.retain.new.self.items = grind (arith, common_steps) in
    let moved : c.append.new.self.items ≡ c.retain.new.self.items = appended ∙ ap (λ (ps : List Placed). ps ++ c.retain.new.self.items) c.prepared.invariant.0 in
    let all = all_places c.self.view_is c.prepared.view_is c.removed-removed.ensures.all kept moved in
    subst AreInSearchOrder (sym all) c.requires.served.ordered

-- what stands then
taken_up : (c : goal.After-drop-prepared-inside) → record { version = c.prepared.inside.version; places = c.put_each.new.places.items } ≡ after_taking_up c.args.self.now c.args.prepared
taken_up c =
    let kept : c.retain.new.self.items ≡ places_without c.removed-removed.result.now c.self.inside.placed.items = filter_same _ (λ (q : Placed). stays c.removed-removed.result.now q.meta) _ (λ x b f k. search rules) _ _ c.retain.ensures.filtered in
    let appended : c.append.new.self.items ≡ c.prepared.inside.places.items ++ c.retain.new.self.items = grind (arith, common_steps) in
    let moved : c.append.new.self.items ≡ c.retain.new.self.items = appended ∙ ap (λ (ps : List Placed). ps ++ c.retain.new.self.items) c.prepared.invariant.0 in
    let all = c.put_each.ensures ∙ all_places c.self.view_is c.prepared.view_is c.removed-removed.ensures.all kept moved in
    λ i. record { version = (c.prepared.view_is i).version; places = all i }

pub invariant_of-self : goal.invariant_of-self
invariant_of-self c = subst IsServed (sym (taken_up c)) c.requires.served

pub returns : goal.returns
returns c = taken_up c
