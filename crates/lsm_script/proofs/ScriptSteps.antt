-- How the events of a script grow by a line.
use Rattle.std.proofs.Common.{◌≡◌, ℕ, ◌+◌, ◌≤◌, List, [], ◌∷◌, ◌++◌, length, Ok, Err, refl, ap, append-nil, arith}
use Rattle.std.proofs.lemmas.List.Splits.{length-slice_split}
use Rattle.std.proofs.lemmas.List.Sums.{count_by-le-length}
use Rattle.lsm_line.specs.declared.fault.Reason.{Reason}
use Rattle.lsm_line.specs.Text.{lines, words, is_line_feed}
use Rattle.lsm_line.proofs.BatchSteps.{good, after, after_after}
use Rattle.lsm_coord.specs.Model.Event as say
use Rattle.lsm_script.specs.Script.{events_of_words, events_from}

pub one_line : (n : ℕ) (line : List ℕ) (ls : List (List ℕ)) (done asked : List say.Event) → events_of_words (words line) ≡ Ok asked → after done (events_from n (line ∷ ls)) ≡ after (done ++ asked) (events_from (n + 1) ls)
unfolding events_from
one_line n line ls done asked is = rw is (after_after done asked (events_from (n + 1) ls))

pub at_fault : (n : ℕ) (line : List ℕ) (ls : List (List ℕ)) (done : List say.Event) (reason : Reason) → events_of_words (words line) ≡ Err reason → after done (events_from n (line ∷ ls)) ≡ Err (record { line = n; reason = reason })
unfolding events_from
at_fault n line ls done reason is = rw is refl

pub at_end : (n : ℕ) (done : List say.Event) → after done (events_from n []) ≡ Ok done
unfolding events_from
at_end n done = ap good (append-nil done)

-- a text has no more lines than bytes, and one
pub lines-few : (text : List ℕ) → length (lines text) ≤ length text + 1
unfolding lines
lines-few text = omega (arith, length-slice_split is_line_feed text, count_by-le-length is_line_feed text)
