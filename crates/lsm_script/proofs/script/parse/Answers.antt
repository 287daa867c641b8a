use Rattle.std.proofs.Common.{◌≡◌, ◌+◌, ◌∷◌, ◌++◌, [], ℕ, List, Some, Err, ap, sym, ◌∙◌, length, map, rules, arith}
use Rattle.std.proofs.lemmas.List.{map-append}
use Rattle.lsm_line.specs.Text.{words, lines, lines_left}
use Rattle.lsm_world.specs.Events.{event_of}
use Rattle.lsm_coord.specs.Model.Event as say
use Rattle.lsm_script.specs.Script.{events_of_words, events_from}
use Rattle.lsm_line.proofs.BatchSteps.{after, after_none}
use Rattle.lsm_script.proofs.ScriptSteps.{one_line, at_fault, at_end, lines-few}
use Rattle.lsm_script.proofs.script.parse.Goals as goal

pub loop-line-init : goal.loop-line-init
loop-line-init c =
    let is : c.into_iter-line-iterator.result.rest ≡ Some c.args.text = search rules in
    record {
      can_next = tt;
      is_finite = tt;
      so_far = rw (is, c.new-events.ensures.items) (sym (after_none (events_from 1 (lines c.args.text.now))));
      count = rw is (omega (arith, lines-few c.args.text.now));
    }

pub loop-line-preserved : goal.loop-line-preserved
loop-line-preserved c =
    let n = c.loop-line.line_number + 1 in
    let ls = lines_left c.next.new.self.rest in
    let done = map event_of c.loop-line.events.items in
    let asked = map event_of c.in-Ok.asked.items in
    let next : lines_left c.loop-line.line-iterator.rest ≡ c.in-Some.line.now ∷ ls = c.in-Some.ensures.steps in
    let more : map event_of c.append.new.self.items ≡ done ++ asked = rw c.in_ok-append-in-Ok.ensures.items (map-append event_of c.loop-line.events.items c.in-Ok.asked.items) in
    record {
      can_next = tt;
      is_finite = tt;
      so_far = c.loop-line.invariant.so_far ∙ ap (λ (l : List (List ℕ)). after done (events_from n l)) next ∙ one_line n c.in-Some.line.now ls done asked c.in-Ok.ensures ∙ ap (λ (d : List say.Event). after d (events_from (n + 1) ls)) (sym more);
      count = omega (arith, c.loop-line.invariant.count, ap (λ (x : List (List ℕ)). length x) next);
    }

pub returns-in-Err-Fault : goal.returns-in-Err-Fault
returns-in-Err-Fault c =
    let n = c.loop-line.line_number + 1 in
    let ls = lines_left c.next.new.self.rest in
    let done = map event_of c.loop-line.events.items in
    let next : lines_left c.loop-line.line-iterator.rest ≡ c.in-Some.line.now ∷ ls = c.in-Some.ensures.steps in
    let fault : events_of_words (words c.in-Some.line.now) ≡ Err c.in-Err-Fault.reason = search rules in
    rw c.in-Err-Fault.reason-is (c.loop-line.invariant.so_far ∙ ap (λ (l : List (List ℕ)). after done (events_from n l)) next ∙ at_fault n c.in-Some.line.now ls done c.in-Err-Fault.reason fault)

pub returns : goal.returns
returns c =
    let n = c.loop-line.line_number + 1 in
    let done = map event_of c.loop-line.events.items in
    let none : lines_left c.loop-line.line-iterator.rest ≡ [] = c.in-None.ensures.steps.0 in
    c.loop-line.invariant.so_far ∙ ap (λ (l : List (List ℕ)). after done (events_from n l)) none ∙ at_end n done
