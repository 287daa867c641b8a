-- What claims that are given back to a seat leave: the states that it shows, and the jobs that are sound.
use Rattle.std.proofs.Common.{◌≡◌, List, [], ◌∷◌, ◌++◌, Option, None, Some, refl, sym, ap, subst, ◌∙◌}
use Rattle.lsm_claim.specs.declared.ending.Ending.TheVariants.{Returned}
use Rattle.lsm_claim.specs.declared.job.JobId.{JobId}
use Rattle.lsm_claim.specs.Book.{after_settling}
use Rattle.lsm_coord.specs.Model.State.{State}
use Rattle.lsm_coord.specs.Contract.Calls.{after_give_back}
use Rattle.lsm_coord.specs.Contract.Restarts.{CoreKeepsSound, after_return, after_returning_all, returned_to, up_seat}
use Rattle.lsm_coord.specs.Contract.Seats.{CoreShows, SeatValue, ShowsSeat}
use Rattle.lsm_coord.specs.Contract.Value.{CoordValue}
use Rattle.lsm_coord.proofs.GiveBackSteps.{Shows-beside, after_giving_back_all, all_given_back_keep}

-- one list of claims after another
pub returned_all-append : (seat : SeatValue) (ids others : List JobId) → after_returning_all seat (ids ++ others) ≡ after_returning_all (after_returning_all seat ids) others
returned_all-append seat [] others = refl
returned_all-append seat (id ∷ ids) others = returned_all-append (after_return seat id) ids others

-- four lists of claims
pub four_in_turn : (s s1 s2 s3 s4 : SeatValue) (one two three four : List JobId) → s1 ≡ after_returning_all s one → s2 ≡ after_returning_all s1 two → s3 ≡ after_returning_all s2 three → s4 ≡ after_returning_all s3 four
    → s4 ≡ after_returning_all s (one ++ (two ++ (three ++ four)))
four_in_turn s s1 s2 s3 s4 one two three four h1 h2 h3 h4 =
    h4
    ∙ ap (λ (x : SeatValue). after_returning_all x four) h3
    ∙ sym (returned_all-append s2 three four)
    ∙ ap (λ (x : SeatValue). after_returning_all x (three ++ four)) h2
    ∙ sym (returned_all-append s1 two (three ++ four))
    ∙ ap (λ (x : SeatValue). after_returning_all x (two ++ (three ++ four))) h1
    ∙ sym (returned_all-append s one (two ++ (three ++ four)))

-- ---- shown states

shown_return : (core : Option CoordValue) (seat : SeatValue) (id : JobId) (s : State) → seat.core ≡ core → CoreShows core seat.stored s → ShowsSeat (after_return seat id) s
shown_return None seat id s e h = subst (λ (o : Option CoordValue). ShowsSeat (returned_to o seat id) s) (sym e) h
shown_return (Some c) seat id s e h = subst (λ (o : Option CoordValue). ShowsSeat (returned_to o seat id) s) (sym e) (Shows-beside c (after_settling c.book id Returned) c.stored.tables c.failures s h)

pub shown_after_all : (seat : SeatValue) (ids : List JobId) (s : State) → ShowsSeat seat s → ShowsSeat (after_returning_all seat ids) s
shown_after_all seat [] s h = h
shown_after_all seat (id ∷ ids) s h = shown_after_all (after_return seat id) ids s (shown_return seat.core seat id s refl h)

-- ---- jobs

none_after : (seat : SeatValue) (ids : List JobId) → seat.core ≡ None → (after_returning_all seat ids).core ≡ None
none_after seat [] e = e
none_after seat (id ∷ ids) e = none_after (after_return seat id) ids (ap (λ (o : Option CoordValue). (returned_to o seat id).core) e)

up_after : (c : CoordValue) (ids : List JobId) → after_returning_all (up_seat c) ids ≡ up_seat (after_giving_back_all c ids)
up_after c [] = refl
up_after c (id ∷ ids) = up_after (after_give_back c id) ids

some_after : (c : CoordValue) (seat : SeatValue) (ids : List JobId) → seat.core ≡ Some c → (after_returning_all seat ids).core ≡ Some (after_giving_back_all c ids)
some_after c seat [] e = e
some_after c seat (id ∷ ids) e = ap (λ (o : Option CoordValue). (after_returning_all (returned_to o seat id) ids).core) e ∙ ap (λ (x : SeatValue). x.core) (up_after (after_give_back c id) ids)

keeps_by : (core : Option CoordValue) (seat : SeatValue) (ids : List JobId) → seat.core ≡ core → CoreKeepsSound core (after_returning_all seat ids).core
keeps_by None seat ids e = none_after seat ids e
keeps_by (Some c) seat ids e = (after_giving_back_all c ids, some_after c seat ids e, all_given_back_keep c ids)

pub all_returned_keep : (seat : SeatValue) (ids : List JobId) → CoreKeepsSound seat.core (after_returning_all seat ids).core
all_returned_keep seat ids = keeps_by seat.core seat ids refl
