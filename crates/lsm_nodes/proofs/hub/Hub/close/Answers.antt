use Rattle.std.proofs.Common.{◌≡◌, ◌↔◌, Bool, true, false, ◌∷◌, length, refl, sym, ap, subst, ◌∙◌}
use Rattle.lsm_nodes.specs.Closing.{IsPartedInto}
use Rattle.lsm_nodes.specs.Histories.{SharedValue, installed_in, installs_in}
use Rattle.lsm_nodes.proofs.TalliedRecords.{more_installs}
use Rattle.lsm_nodes.proofs.hub.Hub.close.Goals as goal

-- what a test says exactly is not so if it fails
not_so : (P : Type 0) (test : Bool) → (test ≡ true) ↔ P → test ≡ false → P → ⊥
not_so P test exact fails holds = let passes = exact.1 holds in cc (passes, fails)

pub returns-then-not-matches-clause-wrong : goal.returns-then-not-matches-clause-wrong
returns-then-not-matches-clause-wrong g c = λ whole. (
  refl,
  record {
    history = c.into_inner-shared.result.history;
    as_many = c.matches.ensures.counted;
    missed = not_so _ c.matches.result c.matches.ensures.exact c.if-not-matches.true;
  },
)

pub returns-clause-history : goal.returns-clause-history
returns-clause-history g c = subst (λ (s : SharedValue). IsPartedInto s.history (c.args.tally.mine ∷ c.args.tally.others)) (sym c.matches.ensures.same.0) (c.matches.ensures.exact.0 c.if-not-matches.false)

pub returns-clause-edits : goal.returns-clause-edits
returns-clause-edits g c =
    let history = c.history-history.result.now in
    more_installs (installs_in c.matches.new.self.coord.stored.edits) (installs_in g.J.Start.start.stored.edits) (installed_in history) c.args.tally.installed c.history-history.ensures.installs
    (ap (λ h. length (installed_in h)) (c.history-history.ensures.all ∙ ap (λ s. s.history) c.matches.ensures.same.0) ∙ c.matches.ensures.installs c.if-not-matches.false)
