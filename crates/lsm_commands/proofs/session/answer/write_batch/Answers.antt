use Rattle.std.proofs.Common.{◌≡◌, ◌+◌, arith}
use Rattle.std.specs.Prelude.{min}
use Rattle.lsm_commands.proofs.SessionSteps.{next_sequences}
use Rattle.lsm_commands.proofs.session.answer.write_batch.Goals as goal

pub returns-in-Ok : goal.returns-in-Ok
returns-in-Ok g c =
    let done = c.in-Ok.ensures.ok in
    let made = c.new-first.ensures in
    let least = c.min.ensures in
    let before = c.number.ensures.value in
    let last = c.number-in-Ok.ensures.value in
    let first : c.new-first.result ≡ min (c.latest_sequence-before.result + 1) c.latest_sequence-last.result = omega (arith, made, least, before, last) in
    (done.1, next_sequences _ _ _ _ _ _ done.0 done.1 c.latest_sequence-before.ensures c.latest_sequence-last.ensures first)
