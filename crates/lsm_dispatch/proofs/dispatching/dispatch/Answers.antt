use Rattle.std.proofs.Common.{◌≡◌, List, [], subst, inr, rules}
use Rattle.std.proofs.lemmas.Result.{err_from_is_err_and}
use Rattle.lsm_store.specs.declared.due.Due.TheVariants as due
use Rattle.lsm_dispatch.specs.declared.crew.WorkerState.{WorkerState}
use Rattle.lsm_dispatch.specs.Crews.{new_crew}
use Rattle.lsm_dispatch.specs.Dispatching.{IsDue}
use Rattle.lsm_dispatch.specs.Turns.{RunEnds, RunStops}
use Rattle.lsm_dispatch.proofs.HeldClaims.{held_at_first}
use Rattle.lsm_dispatch.proofs.KeptSteps.{keeps_same}
use Rattle.lsm_dispatch.proofs.TakenResults.{ended_keeps, left_due}
use Rattle.lsm_dispatch.proofs.TurnSteps.{due_runs, ends_refused, run_ends}
use Rattle.lsm_dispatch.proofs.dispatching.dispatch.Goals as goal

-- the run stops
pub returns-in_err-ended-clause-refused : goal.returns-in_err-ended-clause-refused
returns-in_err-ended-clause-refused g c =
    let p = err_from_is_err_and c.from_residual.result c.from_residual.ensures.1 in
    let was = g.R.Source.remaining c.args.reader.now in
    let held = g.W.Sink.contents c.args.writer.now in
    let last = g.W.Sink.contents c.run-ended.new.writer in
    let stops : RunStops (new_crew c.args.count) c.args.coord.now was held last c.in_err-ended.field-0.0 = subst (λ (crew : List WorkerState). RunStops crew c.args.coord.now was held last c.in_err-ended.field-0.0) c.new-crew.ensures c.in_err-ended.ensures.refused in
    rw (p.1, p.2) (ends_refused (new_crew c.args.count) c.args.coord.now c.close.new.coord was (g.R.Source.remaining c.run-ended.new.reader) held last c.in_err-ended.field-0.0 stops)

pub returns-in_err-ended-clause-counted : goal.returns-in_err-ended-clause-counted
returns-in_err-ended-clause-counted g c =
    let p = err_from_is_err_and c.from_residual.result c.from_residual.ensures.1 in
    rw (p.1, p.2) c.in_err-ended.ensures.counted

pub returns-in_err-ended-clause-read_faults : goal.returns-in_err-ended-clause-read_faults
returns-in_err-ended-clause-read_faults g c =
    let p = err_from_is_err_and c.from_residual.result c.from_residual.ensures.1 in
    rw (p.1, p.2) c.in_err-ended.ensures.read_faults

pub returns-in_err-ended-clause-write_faults : goal.returns-in_err-ended-clause-write_faults
returns-in_err-ended-clause-write_faults g c =
    let p = err_from_is_err_and c.from_residual.result c.from_residual.ensures.1 in
    rw (p.1, p.2) c.in_err-ended.ensures.write_faults

pub returns-in_err-ended-clause-settled : goal.returns-in_err-ended-clause-settled
returns-in_err-ended-clause-settled g c = c.close.ensures.none (c.run-ended.ensures.keeps.held (held_at_first c.args.coord.now.book c.new-crew.result c.requires))

pub returns-in_err-ended-clause-keeps : goal.returns-in_err-ended-clause-keeps
returns-in_err-ended-clause-keeps g c = ended_keeps c.args.coord.now c.run-ended.new.coord c.close.new.coord c.close.new.coord (c.run-ended.ensures.keeps.results, c.run-ended.ensures.keeps.passes) c.close.ensures.keeps (keeps_same c.close.new.coord)

-- what is due can't be found out
pub returns-in_err-due-clause-refused : goal.returns-in_err-due-clause-refused
returns-in_err-due-clause-refused g c =
    let p = err_from_is_err_and c.from_residual-in_err-due.result c.from_residual-in_err-due.ensures.1 in
    let first : RunEnds c.new-crew.result c.args.coord.now (g.R.Source.remaining c.args.reader.now) (g.R.Source.remaining c.run-ended.new.reader) (g.W.Sink.contents c.args.writer.now) (g.W.Sink.contents c.run-ended.new.writer) c.close.new.coord = run_ends c.new-crew.result c.run-ended.new.crew c.args.coord.now c.run-ended.new.coord c.close.new.coord (g.R.Source.remaining c.args.reader.now) (g.R.Source.remaining c.run-ended.new.reader) (g.W.Sink.contents c.args.writer.now) (g.W.Sink.contents c.run-ended.new.writer) c.in_ok-ended.ensures.ok c.in_ok-ended.ensures.idle.0 c.in_ok-ended.ensures.idle.1 c.close.ensures.returned in
    let ends : RunEnds (new_crew c.args.count) c.args.coord.now (g.R.Source.remaining c.args.reader.now) (g.R.Source.remaining c.run-ended.new.reader) (g.W.Sink.contents c.args.writer.now) (g.W.Sink.contents c.run-ended.new.writer) c.close.new.coord = subst (λ (crew : List WorkerState). RunEnds crew c.args.coord.now (g.R.Source.remaining c.args.reader.now) (g.R.Source.remaining c.run-ended.new.reader) (g.W.Sink.contents c.args.writer.now) (g.W.Sink.contents c.run-ended.new.writer) c.close.new.coord) c.new-crew.ensures first in
    rw (p.1, p.2) (inr (c.close.new.coord, ends, c.in_err-due.ensures.refused))

pub returns-in_err-due-clause-settled : goal.returns-in_err-due-clause-settled
returns-in_err-due-clause-settled g c =
    let none : c.close.new.coord.book.live ≡ [] = c.close.ensures.none (c.run-ended.ensures.keeps.held (held_at_first c.args.coord.now.book c.new-crew.result c.requires)) in
    c.due_of.ensures.none none

pub returns-in_err-due-clause-keeps : goal.returns-in_err-due-clause-keeps
returns-in_err-due-clause-keeps g c = ended_keeps c.args.coord.now c.run-ended.new.coord c.close.new.coord c.due_of.new.coord (c.run-ended.ensures.keeps.results, c.run-ended.ensures.keeps.passes) c.close.ensures.keeps c.due_of.ensures.keeps

-- more is due
pub returns-in-More-clause-refused : goal.returns-in-More-clause-refused
returns-in-More-clause-refused g c =
    let first : RunEnds c.new-crew.result c.args.coord.now (g.R.Source.remaining c.args.reader.now) (g.R.Source.remaining c.run-ended.new.reader) (g.W.Sink.contents c.args.writer.now) (g.W.Sink.contents c.run-ended.new.writer) c.close.new.coord = run_ends c.new-crew.result c.run-ended.new.crew c.args.coord.now c.run-ended.new.coord c.close.new.coord (g.R.Source.remaining c.args.reader.now) (g.R.Source.remaining c.run-ended.new.reader) (g.W.Sink.contents c.args.writer.now) (g.W.Sink.contents c.run-ended.new.writer) c.in_ok-ended.ensures.ok c.in_ok-ended.ensures.idle.0 c.in_ok-ended.ensures.idle.1 c.close.ensures.returned in
    let ends : RunEnds (new_crew c.args.count) c.args.coord.now (g.R.Source.remaining c.args.reader.now) (g.R.Source.remaining c.run-ended.new.reader) (g.W.Sink.contents c.args.writer.now) (g.W.Sink.contents c.run-ended.new.writer) c.close.new.coord = subst (λ (crew : List WorkerState). RunEnds crew c.args.coord.now (g.R.Source.remaining c.args.reader.now) (g.R.Source.remaining c.run-ended.new.reader) (g.W.Sink.contents c.args.writer.now) (g.W.Sink.contents c.run-ended.new.writer) c.close.new.coord) c.new-crew.ensures first in
    (c.close.new.coord, ends, subst (IsDue c.close.new.coord c.due_of.new.coord) c.in-More.is c.in_ok-due.ensures.ok)

pub returns-in-More-clause-settled : goal.returns-in-More-clause-settled
returns-in-More-clause-settled g c =
    let none : c.close.new.coord.book.live ≡ [] = c.close.ensures.none (c.run-ended.ensures.keeps.held (held_at_first c.args.coord.now.book c.new-crew.result c.requires)) in
    c.due_of.ensures.none none

pub returns-in-More-clause-keeps : goal.returns-in-More-clause-keeps
returns-in-More-clause-keeps g c = ended_keeps c.args.coord.now c.run-ended.new.coord c.close.new.coord c.due_of.new.coord (c.run-ended.ensures.keeps.results, c.run-ended.ensures.keeps.passes) c.close.ensures.keeps c.due_of.ensures.keeps

-- what is left is returned
pub returns-in_default : goal.returns-in_default
returns-in_default g c =
    let none : c.close.new.coord.book.live ≡ [] = c.close.ensures.none (c.run-ended.ensures.keeps.held (held_at_first c.args.coord.now.book c.new-crew.result c.requires)) in
    let other : c.in_ok-due.due ≡ due.More → ⊥ = search rules in
    let first : RunEnds c.new-crew.result c.args.coord.now (g.R.Source.remaining c.args.reader.now) (g.R.Source.remaining c.run-ended.new.reader) (g.W.Sink.contents c.args.writer.now) (g.W.Sink.contents c.run-ended.new.writer) c.close.new.coord = run_ends c.new-crew.result c.run-ended.new.crew c.args.coord.now c.run-ended.new.coord c.close.new.coord (g.R.Source.remaining c.args.reader.now) (g.R.Source.remaining c.run-ended.new.reader) (g.W.Sink.contents c.args.writer.now) (g.W.Sink.contents c.run-ended.new.writer) c.in_ok-ended.ensures.ok c.in_ok-ended.ensures.idle.0 c.in_ok-ended.ensures.idle.1 c.close.ensures.returned in
    let ends : RunEnds (new_crew c.args.count) c.args.coord.now (g.R.Source.remaining c.args.reader.now) (g.R.Source.remaining c.run-ended.new.reader) (g.W.Sink.contents c.args.writer.now) (g.W.Sink.contents c.run-ended.new.writer) c.close.new.coord = subst (λ (crew : List WorkerState). RunEnds crew c.args.coord.now (g.R.Source.remaining c.args.reader.now) (g.R.Source.remaining c.run-ended.new.reader) (g.W.Sink.contents c.args.writer.now) (g.W.Sink.contents c.run-ended.new.writer) c.close.new.coord) c.new-crew.ensures first in
    record {
      due = left_due c.close.new.coord c.due_of.new.coord c.in_ok-due.due other c.in_ok-due.ensures.ok;
      runs = due_runs (new_crew c.args.count) c.args.coord.now c.close.new.coord c.due_of.new.coord (g.R.Source.remaining c.args.reader.now) (g.R.Source.remaining c.run-ended.new.reader) (g.W.Sink.contents c.args.writer.now) (g.W.Sink.contents c.run-ended.new.writer) c.in_ok-due.due ends other c.in_ok-due.ensures.ok;
      refused = tt;
      settled = c.due_of.ensures.none none;
      counted = c.in_ok-ended.ensures.counted;
      read_faults = c.in_ok-ended.ensures.read_faults;
      write_faults = c.in_ok-ended.ensures.write_faults;
      keeps = ended_keeps c.args.coord.now c.run-ended.new.coord c.close.new.coord c.due_of.new.coord (c.run-ended.ensures.keeps.results, c.run-ended.ensures.keeps.passes) c.close.ensures.keeps c.due_of.ensures.keeps;
    }
