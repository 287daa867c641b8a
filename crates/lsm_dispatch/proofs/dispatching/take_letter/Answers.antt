use Rattle.std.proofs.Common.{◌≡◌, None, refl, subst, inl, arith, rules}
use Rattle.std.proofs.KnownBytes.{Appends-nil}
use Rattle.std.proofs.lemmas.Result.{err_from_is_err_and}
use Rattle.lsm_pipe.specs.Frames.{ReadsFrame}
use Rattle.lsm_pipe.proofs.Counted.{frame_not_written}
use Rattle.lsm_dispatch.specs.declared.letter.Letter.TheVariants as letter
use Rattle.lsm_dispatch.specs.Letters.{IsLetter}
use Rattle.lsm_dispatch.specs.Turns.{Takes}
use Rattle.lsm_dispatch.proofs.CountedTurns.{both_counted, no_letter_counts, turns_counted, unread_counted}
use Rattle.lsm_dispatch.proofs.TurnSteps.{act_fails, ends_early, frame_fails, letter_fails, runs_one, take_ends, take_fails}
use Rattle.lsm_dispatch.proofs.dispatching.take_letter.Goals as goal

-- no letter
pub returns-in_err-payload-clause-refused : goal.returns-in_err-payload-clause-refused
returns-in_err-payload-clause-refused g c =
    let p = err_from_is_err_and c.from_residual.result c.from_residual.ensures.1 in
    rw (p.1, p.2) (frame_fails c.args.crew.now c.args.coord.now (g.R.Source.remaining c.args.reader.now) (g.W.Sink.contents c.args.writer.now) c.in_err-payload.field-0.0 c.requires c.in_err-payload.ensures.refused)

pub returns-in_err-payload-clause-counted : goal.returns-in_err-payload-clause-counted
returns-in_err-payload-clause-counted g c =
    let p = err_from_is_err_and c.from_residual.result c.from_residual.ensures.1 in
    rw (p.1, p.2) (c.in_err-payload.ensures.counted.0, omega arith, inl c.in_err-payload.ensures.counted.1)

pub returns-in_err-payload-clause-read_faults : goal.returns-in_err-payload-clause-read_faults
returns-in_err-payload-clause-read_faults g c =
    let p = err_from_is_err_and c.from_residual.result c.from_residual.ensures.1 in
    rw (p.1, p.2) c.in_err-payload.ensures.faults

pub returns-in_err-payload-clause-write_faults : goal.returns-in_err-payload-clause-write_faults
returns-in_err-payload-clause-write_faults g c =
    let p = err_from_is_err_and c.from_residual.result c.from_residual.ensures.1 in
    let none = frame_not_written (g.R.Source.remaining c.args.reader.now) c.in_err-payload.field-0.0 c.in_err-payload.ensures.refused in
    rw (p.1, p.2) (omega (arith, none))

pub returns-in_default-clause-refused : goal.returns-in_default-clause-refused
returns-in_default-clause-refused g c =
    let none : c.in_ok-payload.field-0 ≡ None = search rules in
    let end = (subst (ReadsFrame (g.R.Source.remaining c.args.reader.now) (g.R.Source.remaining c.read_frame.new.reader)) none c.in_ok-payload.ensures.ok).0 in
    ends_early c.args.crew.now c.args.coord.now (g.R.Source.remaining c.args.reader.now) (g.W.Sink.contents c.args.writer.now) end c.requires

pub returns-in_err-message-clause-refused : goal.returns-in_err-message-clause-refused
returns-in_err-message-clause-refused g c =
    let p = err_from_is_err_and c.from_residual-in_err-message.result c.from_residual-in_err-message.ensures.1 in
    let read = (subst (ReadsFrame (g.R.Source.remaining c.args.reader.now) (g.R.Source.remaining c.read_frame.new.reader)) c.in-Some.is c.in_ok-payload.ensures.ok).0 in
    rw (p.1, p.2) (letter_fails c.args.crew.now c.args.coord.now (g.R.Source.remaining c.args.reader.now) (g.R.Source.remaining c.read_frame.new.reader) (g.W.Sink.contents c.args.writer.now) c.in-Some.payload c.in_err-message.field-0.0 c.requires read c.in_err-message.ensures.refused)

pub returns-in_err-message-clause-counted : goal.returns-in_err-message-clause-counted
returns-in_err-message-clause-counted g c =
    let p = err_from_is_err_and c.from_residual-in_err-message.result c.from_residual-in_err-message.ensures.1 in
    let none = no_letter_counts c.in-Some.payload c.in_err-message.field-0.0 c.in_err-message.ensures.refused (g.R.Source.reads c.read_frame.new.reader) in
    rw (p.1, p.2) (c.in_ok-payload.ensures.counted, omega arith, inl none.2)

pub returns-in_err-message-clause-read_faults : goal.returns-in_err-message-clause-read_faults
returns-in_err-message-clause-read_faults g c =
    let p = err_from_is_err_and c.from_residual-in_err-message.result c.from_residual-in_err-message.ensures.1 in
    let none = no_letter_counts c.in-Some.payload c.in_err-message.field-0.0 c.in_err-message.ensures.refused 0 in
    rw (p.1, p.2) (omega (arith, c.in_ok-payload.ensures.faults, none.0))

pub returns-in_err-message-clause-write_faults : goal.returns-in_err-message-clause-write_faults
returns-in_err-message-clause-write_faults g c =
    let p = err_from_is_err_and c.from_residual-in_err-message.result c.from_residual-in_err-message.ensures.1 in
    let none = no_letter_counts c.in-Some.payload c.in_err-message.field-0.0 c.in_err-message.ensures.refused 0 in
    rw (p.1, p.2) (omega (arith, none.1))

-- a message
pub returns-in_err-answer-in-Message-clause-refused : goal.returns-in_err-answer-in-Message-clause-refused
returns-in_err-answer-in-Message-clause-refused g c =
    let p = err_from_is_err_and c.from_residual-in_err-answer-in-Message.result c.from_residual-in_err-answer-in-Message.ensures.1 in
    let read = (subst (ReadsFrame (g.R.Source.remaining c.args.reader.now) (g.R.Source.remaining c.read_frame.new.reader)) c.in-Some.is c.in_ok-payload.ensures.ok).0 in
    let is : IsLetter c.in-Some.payload (letter.Message c.in-Message.message) = subst (IsLetter c.in-Some.payload) c.in-Message.is c.in_ok-message.ensures.ok in
    rw (p.1, p.2) (act_fails c.args.crew.now c.on_message.new.self c.args.coord.now c.on_message.new.coord (g.R.Source.remaining c.args.reader.now) (g.R.Source.remaining c.read_frame.new.reader) (g.W.Sink.contents c.args.writer.now) c.in-Some.payload c.in-Message.message c.in_err-answer-in-Message.field-0.0 c.requires read is c.in_err-answer-in-Message.ensures.refused)

pub returns-in_ok-answer-in-Message-clause-ok : goal.returns-in_ok-answer-in-Message-clause-ok
returns-in_ok-answer-in-Message-clause-ok g c =
    let read = (subst (ReadsFrame (g.R.Source.remaining c.args.reader.now) (g.R.Source.remaining c.read_frame.new.reader)) c.in-Some.is c.in_ok-payload.ensures.ok).0 in
    let is : IsLetter c.in-Some.payload (letter.Message c.in-Message.message) = subst (IsLetter c.in-Some.payload) c.in-Message.is c.in_ok-message.ensures.ok in
    let said = c.in_ok-answer-in-Message.ensures in
    take_ends c.args.crew.now c.on_message.new.self c.args.coord.now c.on_message.new.coord c.in-Some.payload (letter.Message c.in-Message.message) c.in_ok-answer-in-Message.answer (g.R.Source.remaining c.args.reader.now) (g.R.Source.remaining c.read_frame.new.reader) (g.W.Sink.contents c.args.writer.now) (g.W.Sink.contents c.send_some.new.writer) c.requires read is (said.acts, said.answered) c.send_some.result c.send_some.ensures.ok

pub returns-in_ok-answer-in-Message-clause-refused : goal.returns-in_ok-answer-in-Message-clause-refused
returns-in_ok-answer-in-Message-clause-refused g c =
    let read = (subst (ReadsFrame (g.R.Source.remaining c.args.reader.now) (g.R.Source.remaining c.read_frame.new.reader)) c.in-Some.is c.in_ok-payload.ensures.ok).0 in
    let is : IsLetter c.in-Some.payload (letter.Message c.in-Message.message) = subst (IsLetter c.in-Some.payload) c.in-Message.is c.in_ok-message.ensures.ok in
    let said = c.in_ok-answer-in-Message.ensures in
    take_fails c.args.crew.now c.on_message.new.self c.args.coord.now c.on_message.new.coord c.in-Some.payload (letter.Message c.in-Message.message) c.in_ok-answer-in-Message.answer (g.R.Source.remaining c.args.reader.now) (g.R.Source.remaining c.read_frame.new.reader) (g.W.Sink.contents c.args.writer.now) (g.W.Sink.contents c.send_some.new.writer) c.requires read is (said.acts, said.answered) c.send_some.result c.send_some.ensures.refused

pub returns-in_ok-answer-in-Message-clause-turns : goal.returns-in_ok-answer-in-Message-clause-turns
returns-in_ok-answer-in-Message-clause-turns g c = turns_counted c.send_some.result (g.R.Source.reads c.args.reader.now) (g.R.Source.reads c.read_frame.new.reader) c.in_ok-payload.ensures.turns

pub returns-in_ok-answer-in-Message-clause-counted : goal.returns-in_ok-answer-in-Message-clause-counted
returns-in_ok-answer-in-Message-clause-counted g c = both_counted c.send_some.result (g.R.Source.reads c.args.reader.now) (g.R.Source.reads c.read_frame.new.reader) (g.W.Sink.writes c.args.writer.now) (g.W.Sink.writes c.send_some.new.writer) c.in_ok-payload.ensures.counted c.send_some.ensures.counted

pub returns-in_ok-answer-in-Message-clause-read_faults : goal.returns-in_ok-answer-in-Message-clause-read_faults
returns-in_ok-answer-in-Message-clause-read_faults g c = unread_counted c.send_some.result (g.R.Source.faults c.args.reader.now) (g.R.Source.faults c.read_frame.new.reader) c.in_ok-payload.ensures.faults c.send_some.ensures.unread

-- a worker that goes or comes
pub returns-in-Gone-clause-ok : goal.returns-in-Gone-clause-ok
returns-in-Gone-clause-ok g c =
    let read = (subst (ReadsFrame (g.R.Source.remaining c.args.reader.now) (g.R.Source.remaining c.read_frame.new.reader)) c.in-Some.is c.in_ok-payload.ensures.ok).0 in
    let is : IsLetter c.in-Some.payload (letter.Gone c.in-Gone.index) = subst (IsLetter c.in-Some.payload) c.in-Gone.is c.in_ok-message.ensures.ok in
    runs_one c.args.crew.now c.leave.new.self c.args.coord.now c.leave.new.coord (g.R.Source.remaining c.args.reader.now) (g.R.Source.remaining c.read_frame.new.reader) (g.W.Sink.contents c.args.writer.now) (g.W.Sink.contents c.args.writer.now) (Takes c.in-Some.payload None) (c.requires, letter.Gone c.in-Gone.index, is, (c.leave.ensures.gone, c.leave.ensures.returned, refl)) read (Appends-nil (g.W.Sink.contents c.args.writer.now))

pub returns-in-There-clause-ok : goal.returns-in-There-clause-ok
returns-in-There-clause-ok g c =
    let read = (subst (ReadsFrame (g.R.Source.remaining c.args.reader.now) (g.R.Source.remaining c.read_frame.new.reader)) c.in-Some.is c.in_ok-payload.ensures.ok).0 in
    let is : IsLetter c.in-Some.payload (letter.There c.in-There.index) = subst (IsLetter c.in-Some.payload) c.in-There.is c.in_ok-message.ensures.ok in
    runs_one c.args.crew.now c.come.new.self c.args.coord.now c.come.new.coord (g.R.Source.remaining c.args.reader.now) (g.R.Source.remaining c.read_frame.new.reader) (g.W.Sink.contents c.args.writer.now) (g.W.Sink.contents c.args.writer.now) (Takes c.in-Some.payload None) (c.requires, letter.There c.in-There.index, is, (c.come.ensures.there, c.come.ensures.returned, refl)) read (Appends-nil (g.W.Sink.contents c.args.writer.now))
