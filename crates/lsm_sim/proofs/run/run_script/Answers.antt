use Rattle.std.proofs.Common.{rules}
use Rattle.std.proofs.lemmas.Result.{on_ok_weaker}
use Rattle.lsm_sim.proofs.RunSteps.{prints_script}
use Rattle.lsm_sim.proofs.StoppedRuns.{stops_in_run}
use Rattle.lsm_sim.proofs.run.run_script.Goals as goal

pub returns-clause-ok : goal.returns-clause-ok
returns-clause-ok g c = on_ok_weaker c.run-ran.result (λ ran. prints_script c.args.limits c.in_ok-world.world c.run-ran.new.world.nodes c.in_ok-events.events.items c.in_ok-text.text.items (g.R.Read.remaining c.args.reader.now) (g.W.Write.contents c.args.writer.now) (g.W.Write.contents c.run-ran.new.writer) c.in_ok-world.ensures (search rules) c.in_ok-text.ensures.bytes (search rules)) c.run-ran.ensures.ok

pub returns-clause-err : goal.returns-clause-err
returns-clause-err g c =
    let was = g.W.Write.contents c.args.writer.now in
    let held = g.W.Write.contents c.run-ran.new.writer in
    stops_in_run c.args.limits c.in_ok-world.world c.run-ran.new.world.nodes c.in_ok-events.events.items c.in_ok-text.text.items c.run-ran.result (g.R.Read.remaining c.args.reader.now) was held c.in_ok-world.ensures (search rules) c.in_ok-text.ensures.bytes c.run-ran.ensures.err c.run-ran.ensures.errors
