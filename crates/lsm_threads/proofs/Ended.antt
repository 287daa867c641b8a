-- How the loops of a follower and of what answers it leave the follower and its writer.
use Rattle.std.proofs.Common.{◌≡◌, ◌<◌, ℕ}
use Rattle.lsm_edit.specs.Served.{ServedValue}
use Rattle.lsm_readers.specs.Writers.{WriterValue}
use Rattle.lsm_threads.specs.declared.ending.Ending.{Ending}
use Rattle.lsm_threads.specs.declared.ending.Ending.TheVariants.{AtGoal, Current, Dropped, Closed, NoMessage, TooLarge, OutOfMemory}
use Rattle.lsm_threads.specs.Endings.{IsOfMail, cause_of}
use Rattle.lsm_threads.specs.Following.{LeavesFollower, IsShown}

-- a loop that ends below the goal, by what came or was to be sent, while readers are shown the version
pub left_by_mail : (goal : ℕ) (served : ServedValue) (writer : WriterValue) (e : Ending) → IsShown served writer → served.version.number < goal → IsOfMail e → LeavesFollower goal served writer e
left_by_mail goal served writer AtGoal shown less mail = absurd mail
left_by_mail goal served writer Current shown less mail = absurd mail
left_by_mail goal served writer Dropped shown less mail = absurd mail
left_by_mail goal served writer Closed shown less mail = (less, λ _. shown)
left_by_mail goal served writer NoMessage shown less mail = (less, λ _. shown)
left_by_mail goal served writer TooLarge shown less mail = (less, λ _. shown)
left_by_mail goal served writer OutOfMemory shown less mail = (tt, λ _. shown)

-- the ending that is told of both loops
pub left_by_cause : (goal : ℕ) (served : ServedValue) (writer : WriterValue) (mine other : Ending) → LeavesFollower goal served writer mine → IsOfMail other → LeavesFollower goal served writer (cause_of mine other)
left_by_cause goal served writer AtGoal other left mail = left
left_by_cause goal served writer Current other left mail = left
left_by_cause goal served writer Dropped other left mail = left
left_by_cause goal served writer Closed other left mail = left_by_mail goal served writer other (left.1 (λ (q : Closed ≡ OutOfMemory). cc q)) left.0 mail
left_by_cause goal served writer NoMessage other left mail = left
left_by_cause goal served writer TooLarge other left mail = left
left_by_cause goal served writer OutOfMemory other left mail = left
