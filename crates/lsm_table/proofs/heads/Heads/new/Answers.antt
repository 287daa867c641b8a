use Rattle.std.proofs.Common.{◌≡◌, [], ◌∷◌, ◌++◌, ◌∙◌, sym, ap, subst}
use Rattle.std.proofs.lemmas.List.{append-nil, append_assoc, nil_from_length}
use Rattle.lsm_table.specs.Heads.{PutInOrder, AreTurned}
use Rattle.lsm_table.proofs.TurnedHeads.{none_placed, one_placed}
use Rattle.lsm_table.proofs.heads.Heads.new.Goals as goal

pub loop-head-init : goal.loop-head-init
loop-head-init g c = record {
  all = c.into_iter-head-iterator.ensures.into_iter_gives.0;
  so = subst (PutInOrder g.H.Head.entry g.H.Head.left []) (sym c.in_ok-placed.ensures.items) (none_placed g.H.Head.entry g.H.Head.left);
  turned = subst (AreTurned g.H.Head.entry) (sym c.in_ok-placed.ensures.items) tt;
}

pub put_head-requires : goal.put_head-requires
put_head-requires g c = c.loop-head.invariant.turned

pub loop-head-preserved : goal.loop-head-preserved
loop-head-preserved g c =
    let put = c.in_ok-put_head.ensures.put in
    let f = g.H.Head.entry in
    let r = g.H.Head.left in
    record {
      all = append_assoc c.loop-head.yielded (c.in-Some.head ∷ []) c.next.new.self.rest.items ∙ ap (λ ls. c.loop-head.yielded ++ ls) (sym c.in-Some.ensures.steps.0) ∙ c.loop-head.invariant.all;
      so = subst (PutInOrder f r (c.loop-head.yielded ++ c.in-Some.head ∷ [])) (sym put.1) (one_placed f r c.loop-head.yielded c.loop-head.placed.items put.0 c.in-Some.head c.loop-head.invariant.so);
      turned = put.2;
    }

pub invariant_of-result : goal.invariant_of-result
invariant_of-result g c = c.loop-head.invariant.turned

pub returns : goal.returns
returns g c =
    let none = nil_from_length c.loop-head.head-iterator.rest.items (sym c.loop-head.head-iterator.rest.ok.0 ∙ c.in-None.ensures.steps.0) in
    let all : c.loop-head.yielded ≡ c.args.heads.items = sym (append-nil c.loop-head.yielded) ∙ ap (λ ls. c.loop-head.yielded ++ ls) (sym none) ∙ c.loop-head.invariant.all in
    subst (λ ls. PutInOrder g.H.Head.entry g.H.Head.left ls c.loop-head.placed.items) all c.loop-head.invariant.so
