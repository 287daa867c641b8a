-- A follower whose versions are published to readers, one after another (the store's own).
use Rattle.std.specs.Prelude.{◌≡◌, ◌≢◌, ◌⊎◌, ℕ, List}
use Rattle.lsm_edit.specs.Served.{ServedValue}
use Rattle.lsm_readers.specs.Publications.{IsLater, last_published}
use Rattle.lsm_readers.specs.Writers.{WriterValue}
use Rattle.lsm_threads.specs.declared.ending.Ending.{Ending}
use Rattle.lsm_threads.specs.declared.ending.Ending.TheVariants.{OutOfMemory}
use Rattle.lsm_threads.specs.Endings.{EndsAt}

-- what was taken last is the follower's version, or the follower's version is later
abbrev pub IsInStep : ServedValue → List ServedValue → Type 0
IsInStep served taken = (last_published taken ≡ served) ⊎ IsLater taken served

-- readers are shown the follower's version, with all that was taken before it
abbrev pub IsShown : ServedValue → WriterValue → Type 0
IsShown served writer = (last_published writer.taken ≡ served) × (writer.published ≡ writer.taken)

-- how a follower's loop leaves it and its writer
abbrev pub LeavesFollower : ℕ → ServedValue → WriterValue → Ending → Type 0
LeavesFollower goal served writer ending = EndsAt goal served.version.number ending × (ending ≢ OutOfMemory → IsShown served writer)
