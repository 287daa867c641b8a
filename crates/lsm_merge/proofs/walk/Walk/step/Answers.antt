use Rattle.std.proofs.Common.{◌≡◌, ◌≤◌, arith, List, [], ◌∷◌, ◌++◌, Option, Some, None, true, false, ap, refl, subst, sym, ◌∙◌}
use Rattle.std.specs.Option.{option_map}
use Rattle.lsm_key.specs.declared.entry.Entry.{Entry}
use Rattle.lsm_key.specs.Visible.{lent_entry}
use Rattle.lsm_merge.specs.declared.cursor_head.CursorHead.{CursorHead}
use Rattle.lsm_merge.specs.Keeping.{stays}
use Rattle.lsm_merge.specs.Walks.{Took, WalkValue, follows, left_to_merge}
use Rattle.lsm_merge.proofs.TakenHeads.{one_fewer}
use Rattle.lsm_merge.proofs.WalkSteps.{lent_copied, not_refused, seen, took_more, took_none}
use Rattle.lsm_merge.proofs.walk.Walk.step.Goals as goal

pub loop-found-init : goal.loop-found-init
loop-found-init c =
    let i = c.self.inside in
    let v : WalkValue = seen i.heads (option_map lent_entry i.before) i.points.now i.deeper i.refused in
    let none = subst (λ (w : WalkValue). w.refused ≡ None) c.self.view_is c.in-None.is in
    (([], subst (λ (w : WalkValue). Took w [] [] v) c.self.view_is (took_none v)), c.in-None.is, none, subst (λ (w : WalkValue). left_to_merge i.heads ≤ left_to_merge w.heads) c.self.view_is (omega arith))

pub returns-then-not-may_follow-clause-steps : goal.returns-then-not-may_follow-clause-steps
returns-then-not-may_follow-clause-steps c =
    let w = c.loop-found.self-inside in
    let inv = c.loop-found.invariant in
    let was : Option Entry = option_map lent_entry w.before in
    let same = lent_copied c.as_ref.result ∙ ap (option_map lent_entry) c.as_ref.ensures.value in
    let not : follows was c.in-Some-take_next.found ≡ false = sym (c.if-not-may_follow.ensures ∙ (λ i. follows (same i) (c.entry-entry.ensures i))) in (
      λ why is. absurd (not_refused c.args.self.now.refused why inv.2 is),
      λ is. (inv.0.0, seen w.heads was w.points.now w.deeper w.refused, c.in-Some-take_next.found, inv.0.1, (c.take_next.new.heads, c.in-Some-take_next.ensures, refl), not, refl, refl),
    )

pub returns-then-keeps-clause-steps : goal.returns-then-keeps-clause-steps
returns-then-keeps-clause-steps c =
    let w = c.loop-found.self-inside in
    let inv = c.loop-found.invariant in
    let was : Option Entry = option_map lent_entry w.before in
    let found = c.in-Some-take_next.found in
    let own = c.entry-entry.ensures in
    let first = lent_copied c.as_ref.result ∙ ap (option_map lent_entry) c.as_ref.ensures.value in
    let second = lent_copied c.as_ref-in-Some-take_next.result ∙ ap (option_map lent_entry) c.as_ref-in-Some-take_next.ensures.value in
    let follow : follows was found ≡ true = sym (c.if-not-may_follow.ensures ∙ (λ i. follows (first i) (own i))) in
    let kept : stays w.points.now w.deeper was found ≡ true = sym (c.if-keeps.ensures ∙ (λ i. stays w.points.now w.deeper (second i) (own i))) in
    let now : WalkValue = seen w.heads was w.points.now w.deeper w.refused in
    let after : WalkValue = seen c.take_next.new.heads (Some (lent_entry c.entry-entry.result)) w.points.now w.deeper w.refused in (
      λ why is. absurd (not_refused c.args.self.now.refused why inv.2 is),
      λ is. (inv.0.0 ++ found ∷ [], took_more c.args.self.now now after inv.0.0 found true inv.0.1 c.in-Some-take_next.ensures follow kept (ap (λ (e : Entry). Some e) own) refl refl, inv.1),
    )

pub loop-found-smaller : goal.loop-found-smaller
loop-found-smaller c = one_fewer c.loop-found.self-inside.heads c.take_next.new.heads c.in-Some-take_next.found c.in-Some-take_next.ensures

pub loop-found-preserved : goal.loop-found-preserved
loop-found-preserved c =
    let w = c.loop-found.self-inside in
    let inv = c.loop-found.invariant in
    let was : Option Entry = option_map lent_entry w.before in
    let found = c.in-Some-take_next.found in
    let own = c.entry-entry.ensures in
    let first = lent_copied c.as_ref.result ∙ ap (option_map lent_entry) c.as_ref.ensures.value in
    let second = lent_copied c.as_ref-in-Some-take_next.result ∙ ap (option_map lent_entry) c.as_ref-in-Some-take_next.ensures.value in
    let follow : follows was found ≡ true = sym (c.if-not-may_follow.ensures ∙ (λ i. follows (first i) (own i))) in
    let kept : stays w.points.now w.deeper was found ≡ false = sym (c.if-keeps.ensures ∙ (λ i. stays w.points.now w.deeper (second i) (own i))) in
    let now : WalkValue = seen w.heads was w.points.now w.deeper w.refused in
    let after : WalkValue = seen c.take_next.new.heads (Some (lent_entry c.entry-entry.result)) w.points.now w.deeper w.refused in
    ((inv.0.0 ++ found ∷ [], took_more c.args.self.now now after inv.0.0 found false inv.0.1 c.in-Some-take_next.ensures follow kept (ap (λ (e : Entry). Some e) own) refl refl), inv.1, inv.2, omega (arith, one_fewer w.heads c.take_next.new.heads found c.in-Some-take_next.ensures, inv.3))

pub returns-clause-steps : goal.returns-clause-steps
returns-clause-steps c =
    let w = c.loop-found.self-inside in
    let inv = c.loop-found.invariant in
    let ended = c.in_default.ensures in
    let seen_of : List CursorHead → WalkValue = λ heads. seen heads (option_map lent_entry w.before) w.points.now w.deeper w.refused in (
      λ why is. absurd (not_refused c.args.self.now.refused why inv.2 is),
      λ is. (inv.0.0, subst (λ (heads : List CursorHead). Took c.args.self.now inv.0.0 [] (seen_of heads)) (ended.0 ∙ sym ended.1) inv.0.1, ended.1, inv.1),
    )

pub returns-then-keeps-clause-fewer : goal.returns-then-keeps-clause-fewer
returns-then-keeps-clause-fewer c = omega (arith, one_fewer c.loop-found.self-inside.heads c.take_next.new.heads c.in-Some-take_next.found c.in-Some-take_next.ensures, c.loop-found.invariant.3)
