use Rattle.lsm_dispatch.proofs.HeldClaims.{ends_installed, ends_stale}
use Rattle.lsm_dispatch.proofs.KeptSteps.{installed_keeps}
use Rattle.lsm_dispatch.proofs.SettledResults.{kept_ended, kept_settles}
use Rattle.lsm_dispatch.proofs.install.install.Goals as goal

pub returns-in-Done-clause-ended : goal.returns-in-Done-clause-ended
returns-in-Done-clause-ended g c = ends_installed c.args.coord.now c.install.new.self c.args.claim c.args.made.now c.in-Done.number c.in-Done._files c.in-Done.ensures.became

pub returns-in-Done-clause-merged : goal.returns-in-Done-clause-merged
returns-in-Done-clause-merged g c = λ holds. installed_keeps c.args.coord.now c.install.new.self 0 c.in-Done.number c.in-Done._files (c.in-Done.ensures.step 0 (λ done. holds))

pub returns-in-Stale-clause-ended : goal.returns-in-Stale-clause-ended
returns-in-Stale-clause-ended g c = ends_stale c.args.coord.now c.install.new.self c.args.claim.id c.in-Stale.ensures.became.0 c.in-Stale.ensures.became.3

pub returns-in-Kept-clause-settles : goal.returns-in-Kept-clause-settles
returns-in-Kept-clause-settles g c = kept_settles c.args.coord.now c.install.new.self c.give_back.new.self c.args.claim c.in-Kept.claim c.args.made.now c.in-Kept.why c.in-Kept.ensures.became c.give_back.ensures.book

pub returns-in-Kept-clause-ended : goal.returns-in-Kept-clause-ended
returns-in-Kept-clause-ended g c = kept_ended c.args.coord.now c.install.new.self c.give_back.new.self c.args.claim c.in-Kept.claim c.args.made.now c.in-Kept.why c.in-Kept.ensures.became c.give_back.ensures.book
