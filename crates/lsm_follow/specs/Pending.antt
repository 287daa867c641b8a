-- What a follower keeps of the version that it is to move to.
use Rattle.std.specs.Prelude.{◌≡◌, ◌<◌, ℕ, Bool, ◌||◌, List, [], IfSome, length, slice_index_or}
use Rattle.lsm_edit.specs.declared.file.FileMeta.{FileMeta}
use Rattle.lsm_key.specs.Sets.{IsIn}
use Rattle.lsm_edit.specs.declared.served.Placed.{Placed}
use Rattle.lsm_edit.specs.Version.{IsVersion, VersionValue, is_listed, lacking}
use Rattle.lsm_edit.specs.Served.{AllRecorded, AreDistinct}
use Rattle.lsm_follow.specs.Followers.{FollowerValue, PendingValue, files_in, missing_of, received_of}

-- tables have come of files that the served version does not list, each once; the others of these files are missing
pub record HasReceived (served : VersionValue) (to : PendingValue) : Type 0 where
  pub recorded : AllRecorded to.received
  pub lacked : (p : Placed) → IsIn p to.received → IsIn p.meta (lacking served to.target)
  pub once : AreDistinct to.received
  pub missing : to.missing ≡ missing_of served to.target to.received

-- a later version, of which some table is missing
pub record IsPending (served : VersionValue) (to : PendingValue) : Type 0 where
  pub version : IsVersion to.target
  pub later : served.number < to.target.number
  pub has : HasReceived served to
  pub some : to.missing ≡ [] → ⊥

-- what every follower keeps of the version that it is to move to, if there is one
abbrev pub IsFollower : FollowerValue → Type 0
IsFollower f = IfSome f.pending (IsPending f.served.version)

-- a file stands at a place
abbrev pub StandsAt : List FileMeta → ℕ → FileMeta → Type 0
StandsAt files at f = (at < length files) × (slice_index_or files at f ≡ f)

-- the table of the file is served or has come
abbrev pub has_come : FollowerValue → FileMeta → Bool
has_come follower f = is_listed follower.served.version.files f || is_listed (files_in (received_of follower.pending)) f
