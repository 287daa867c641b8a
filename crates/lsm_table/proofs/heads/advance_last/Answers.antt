use Rattle.std.proofs.Common.{◌++◌, ◌∙◌, ◌-◌, sym, ap, subst, refl}
use Rattle.std.specs.List.{insert, slice_index_or, slice_set}
use Rattle.std.specs.Vec.{vec_len}
use Rattle.std.specs.Option.{option_to_list}
use Rattle.lsm_table.specs.Heads.{AreTurned, AdvancesHeads, first_of}
use Rattle.lsm_table.proofs.TurnedHeads.{advances_last, advances_on, advances_same, first_lent, parts_same, turned_front}
use Rattle.lsm_table.proofs.heads.advance_last.Goals as goal

pub returns-then-not-advance-clause-turned : goal.returns-then-not-advance-clause-turned
returns-then-not-advance-clause-turned g c =
    let f = g.H.Head.entry in
    let some = c.in-Some.ensures.variant.0 refl in
    let t = first_lent c.args.heads.now.items c.args.heads.now.len c.in-Some.first.now c.args.heads.now.ok.0 some c.in-Some.ensures.value in
    let rest = parts_same t.0 c.pop.new.self.items c.advance.new.self (slice_index_or (slice_set c.args.heads.now.items (vec_len c.args.heads.now - 1) c.advance.new.self) (vec_len c.args.heads.now - 1) c.in-Some.first.now) (sym (t.2 c.advance.new.self) ∙ c.pop.ensures.items ∙ ap (λ o. c.pop.new.self.items ++ option_to_list o) (c.pop.ensures.value c.in-Some.first.now some)) in
    subst (AreTurned f) rest.0 (turned_front f t.0 c.in-Some.first.now (subst (AreTurned f) t.1 c.requires))

pub returns-then-not-advance-clause-advances : goal.returns-then-not-advance-clause-advances
returns-then-not-advance-clause-advances g c =
    let f = g.H.Head.entry in
    let r = g.H.Head.left in
    let some = c.in-Some.ensures.variant.0 refl in
    let t = first_lent c.args.heads.now.items c.args.heads.now.len c.in-Some.first.now c.args.heads.now.ok.0 some c.in-Some.ensures.value in
    let rest = parts_same t.0 c.pop.new.self.items c.advance.new.self (slice_index_or (slice_set c.args.heads.now.items (vec_len c.args.heads.now - 1) c.advance.new.self) (vec_len c.args.heads.now - 1) c.in-Some.first.now) (sym (t.2 c.advance.new.self) ∙ c.pop.ensures.items ∙ ap (λ o. c.pop.new.self.items ++ option_to_list o) (c.pop.ensures.value c.in-Some.first.now some)) in
    subst (AdvancesHeads f r c.args.heads.now.items (first_of c.args.heads.now.items)) rest.0 (advances_last f r t.0 c.in-Some.first.now c.args.heads.now.items t.1 c.requires c.if-not-advance.ensures)

pub returns-then-not-is_overtaken-clause-turned : goal.returns-then-not-is_overtaken-clause-turned
returns-then-not-is_overtaken-clause-turned g c =
    let f = g.H.Head.entry in
    let t = first_lent c.args.heads.now.items c.args.heads.now.len c.in-Some.first.now c.args.heads.now.ok.0 (c.in-Some.ensures.variant.0 refl) c.in-Some.ensures.value in
    subst (AreTurned f) c.as_slice.ensures.value (c.is_overtaken.ensures c.if-not-is_overtaken.true c.advance.new.self t.0 (c.as_slice.ensures.value ∙ t.2 c.advance.new.self) (turned_front f t.0 c.in-Some.first.now (subst (AreTurned f) t.1 c.requires)))

pub returns-then-not-is_overtaken-clause-advances : goal.returns-then-not-is_overtaken-clause-advances
returns-then-not-is_overtaken-clause-advances g c =
    let f = g.H.Head.entry in
    let r = g.H.Head.left in
    let t = first_lent c.args.heads.now.items c.args.heads.now.len c.in-Some.first.now c.args.heads.now.ok.0 (c.in-Some.ensures.variant.0 refl) c.in-Some.ensures.value in
    subst (AdvancesHeads f r c.args.heads.now.items (first_of c.args.heads.now.items)) (sym (t.2 c.advance.new.self)) (advances_same f r t.0 c.in-Some.first.now c.advance.new.self c.args.heads.now.items t.1 c.requires c.if-not-advance.ensures)

pub put_head-requires : goal.put_head-requires
put_head-requires g c =
    let f = g.H.Head.entry in
    let t = first_lent c.args.heads.now.items c.args.heads.now.len c.in-Some.first.now c.args.heads.now.ok.0 (c.in-Some.ensures.variant.0 refl) c.in-Some.ensures.value in
    let rest = parts_same t.0 c.pop-2.new.self.items c.advance.new.self c.in-Some-pop.head (sym (t.2 c.advance.new.self) ∙ c.in-Some-pop.ensures.items) in
    subst (AreTurned f) rest.0 (turned_front f t.0 c.in-Some.first.now (subst (AreTurned f) t.1 c.requires))

pub returns-clause-advances : goal.returns-clause-advances
returns-clause-advances g c =
    let f = g.H.Head.entry in
    let r = g.H.Head.left in
    let all = c.args.heads.now.items in
    let t = first_lent all c.args.heads.now.len c.in-Some.first.now c.args.heads.now.ok.0 (c.in-Some.ensures.variant.0 refl) c.in-Some.ensures.value in
    let rest = parts_same t.0 c.pop-2.new.self.items c.advance.new.self c.in-Some-pop.head (sym (t.2 c.advance.new.self) ∙ c.in-Some-pop.ensures.items) in
    let put = c.in-Ok.ensures.put in
    let made = advances_on f r t.0 c.in-Some.first.now c.advance.new.self put.0 all t.1 c.requires c.if-not-advance.ensures in
    subst (AdvancesHeads f r all (first_of all)) (ap (λ hs. insert hs put.0 c.advance.new.self) rest.0 ∙ ap (λ h. insert c.pop-2.new.self.items put.0 h) rest.1 ∙ sym put.1) made
