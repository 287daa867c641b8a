use Rattle.std.proofs.Common.{◌≡◌, ◌∙◌, ◌++◌, List, arith, ap, sym, subst, rules}
use Rattle.std.proofs.lemmas.Fn.{filter_same}
use Rattle.std.proofs.lemmas.Grind.{common_steps}
use Rattle.lsm_edit.specs.declared.served.Placed.{Placed}
use Rattle.lsm_edit.specs.Version.{is_listed}
use Rattle.lsm_edit.specs.Served.{AreInSearchOrder, IsServed, ServedValue, after_rebase, put_all}
use Rattle.lsm_edit.proofs.ServedAfterRebase.{places_after, served_after_rebase}
use Rattle.lsm_edit.proofs.served.Served.rebase.Goals as goal

pub put_received-requires-clause-ordered : goal.put_received-requires-clause-ordered
put_received-requires-clause-ordered c =
    let s = c.args.self.now in
    let v = c.args.version in
    let stay = filter_same _ (λ (p : Placed). is_listed v.files p.meta) _ (λ x b f k. search rules) _ _ c.retain.ensures.filtered in
    let was : c.self.inside.placed.items ≡ s.places = ap (λ (t : ServedValue). t.places) c.self.view_is in
    let appended : c.append.new.self.items ≡ c.room.inside.places.items ++ c.retain.new.self.items = grind (arith, common_steps) in
    let moved : c.append.new.self.items ≡ c.retain.new.self.items = appended ∙ ap (λ (ps : List Placed). ps ++ c.retain.new.self.items) c.room.invariant in
    let all : put_all c.args.received.items c.append.new.self.items ≡ (after_rebase s v c.args.received.items).places = ap (put_all c.args.received.items) moved ∙ places_after s v c.args.received.items was stay in
    let served = served_after_rebase s v c.args.received.items c.number-number.ensures.sound (subst IsServed c.self.view_is c.self.invariant) c.requires.lacking in
    subst AreInSearchOrder (sym all) served.ordered

pub invariant_of-self : goal.invariant_of-self
invariant_of-self c =
    let s = c.args.self.now in
    let v = c.args.version in
    let stay = filter_same _ (λ (p : Placed). is_listed v.files p.meta) _ (λ x b f k. search rules) _ _ c.retain.ensures.filtered in
    let was : c.self.inside.placed.items ≡ s.places = ap (λ (t : ServedValue). t.places) c.self.view_is in
    let appended : c.append.new.self.items ≡ c.room.inside.places.items ++ c.retain.new.self.items = grind (arith, common_steps) in
    let moved : c.append.new.self.items ≡ c.retain.new.self.items = appended ∙ ap (λ (ps : List Placed). ps ++ c.retain.new.self.items) c.room.invariant in
    let all : put_all c.args.received.items c.append.new.self.items ≡ (after_rebase s v c.args.received.items).places = ap (put_all c.args.received.items) moved ∙ places_after s v c.args.received.items was stay in
    let served = served_after_rebase s v c.args.received.items c.number-number.ensures.sound (subst IsServed c.self.view_is c.self.invariant) c.requires.lacking in
    subst IsServed (λ i. record { version = v; places = sym (c.put_received.ensures ∙ all) i }) served

pub returns : goal.returns
returns c =
    let s = c.args.self.now in
    let v = c.args.version in
    let stay = filter_same _ (λ (p : Placed). is_listed v.files p.meta) _ (λ x b f k. search rules) _ _ c.retain.ensures.filtered in
    let was : c.self.inside.placed.items ≡ s.places = ap (λ (t : ServedValue). t.places) c.self.view_is in
    let appended : c.append.new.self.items ≡ c.room.inside.places.items ++ c.retain.new.self.items = grind (arith, common_steps) in
    let moved : c.append.new.self.items ≡ c.retain.new.self.items = appended ∙ ap (λ (ps : List Placed). ps ++ c.retain.new.self.items) c.room.invariant in
    let all : put_all c.args.received.items c.append.new.self.items ≡ (after_rebase s v c.args.received.items).places = ap (put_all c.args.received.items) moved ∙ places_after s v c.args.received.items was stay in
    λ i. record { version = v; places = (c.put_received.ensures ∙ all) i }
