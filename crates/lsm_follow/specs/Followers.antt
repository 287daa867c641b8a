-- What a follower does with a message (RocksDB wiki, Read-only and secondary instances: a secondary replays the manifest of the primary and serves reads).
use Rattle.std.specs.Prelude.{◌≡◌, ◌⊎◌, ℕ, not, List, [], ◌∷◌, ◌++◌, Option, None, Some, length, map, filter, min, nat_lt, if◌then◌else◌}
use Rattle.std.specs.List.{list_any}
use Rattle.lsm_edit.specs.declared.edit.Edit.{Edit}
use Rattle.lsm_edit.specs.declared.file.FileMeta.{FileMeta}
use Rattle.lsm_edit.specs.declared.served.Placed.{Placed}
use Rattle.lsm_edit.specs.Edit.{IsEdit}
use Rattle.lsm_edit.specs.File.{same_file}
use Rattle.lsm_edit.specs.Version.{VersionValue, after_apply, apply_fault, has_number, is_listed, lacking}
use Rattle.lsm_edit.specs.Served.{IsAwaited, ServedValue, after_rebase, first_served}
use Rattle.lsm_msg.specs.declared.message.Body.{Body}
use Rattle.lsm_msg.specs.declared.message.Body.TheVariants as body
use Rattle.lsm_msg.specs.declared.message.Message.{Message}
use Rattle.lsm_msg.specs.declared.node.Node.TheVariants.{Follower}
use Rattle.lsm_msg.specs.Messages.{fetches}
use Rattle.lsm_follow.specs.declared.change.FollowChange.{FollowChange}
use Rattle.lsm_follow.specs.declared.change.FollowChange.TheVariants.{Waiting, Version, Dropped, Current, Ignored}

-- the version to move to
pub record PendingValue : Type 0 where
  pub target : VersionValue
  pub missing : List FileMeta  -- the files whose tables have not come, by number
  pub received : List Placed  -- those that have come, with their tables, in the order in which they came

-- what contracts see of a follower
pub record FollowerValue : Type 0 where
  pub index : ℕ
  pub served : ServedValue
  pub pending : Option PendingValue

-- what comes of a message
pub record FollowOutcome : Type 0 where
  pub change : FollowChange
  pub sent : List Message
  pub follower : FollowerValue

-- it serves version 0
abbrev pub new_follower : ℕ → FollowerValue
new_follower index = record { index = index; served = first_served; pending = None }

-- ---- the version to move to

-- the records of the files
abbrev pub files_in : List Placed → List FileMeta
files_in places = map (λ p. p.meta) places

-- the files of another version that the served one does not list, and that have not come
abbrev pub missing_of : VersionValue → VersionValue → List Placed → List FileMeta
missing_of served target received = filter (λ f. not (is_listed (files_in received) f)) (lacking served target)

-- what has come
abbrev pub received_of : Option PendingValue → List Placed
received_of None = []
received_of (Some was) = was.received

-- what has come is kept as far as the version lists it
abbrev pub kept_for : VersionValue → Option PendingValue → List Placed
kept_for target was = filter (λ p. is_listed target.files p.meta) (received_of was)

-- a version takes the place of any other
abbrev pub pending_for : FollowerValue → VersionValue → PendingValue
pending_for f target =
    record { target = target; missing = missing_of f.served.version target (kept_for target f.pending); received = kept_for target f.pending }

-- one table more has come
abbrev pub with_table : Placed → PendingValue → PendingValue
with_table p was = record was { missing = filter (λ f. not (same_file f p.meta)) was.missing; received = was.received ++ p ∷ [] }

-- ---- what comes of a message

-- nothing changes, and nothing is sent
abbrev pub ignores_message : FollowerValue → FollowOutcome
ignores_message f = record { change = Ignored; sent = []; follower = f }

-- it serves the version that it was to move to
abbrev pub moves : FollowerValue → PendingValue → FollowOutcome
moves f to = record { change = Version to.target.number; sent = []; follower = record f { served = after_rebase f.served to.target to.received; pending = None } }

-- it waits for tables, of which it counts at most 2^32 - 1, and sends messages
abbrev pub waits : FollowerValue → PendingValue → List Message → FollowOutcome
waits f to sent = record { change = Waiting (min (length to.missing) 4294967295); sent = sent; follower = record f { pending = Some to } }

-- it moves if no table is missing, else it asks for each
abbrev pub begins : FollowerValue → PendingValue → List FileMeta → FollowOutcome
begins f to [] = moves f to
begins f to (g ∷ gs) = waits f to (fetches (Follower f.index) (g ∷ gs))

-- it is to move to this version, in place of any other: at once if no table is missing, else it asks for each
abbrev pub turns_to : FollowerValue → VersionValue → FollowOutcome
turns_to f target = begins f (pending_for f target) (pending_for f target).missing

-- it moves if no table is missing, else it waits on
abbrev pub goes_on : FollowerValue → PendingValue → List FileMeta → FollowOutcome
goes_on f to [] = moves f to
goes_on f to (g ∷ gs) = waits f to []

-- an edit: it counts only if it is one, and applies to the served version
abbrev pub TakesEdit : FollowerValue → Edit → FollowOutcome → Type 0
TakesEdit f e o =
    (IsEdit e × (apply_fault f.served.version e ≡ None) × (o ≡ turns_to f (after_apply f.served.version e)))
    ⊎ ((IsEdit e → apply_fault f.served.version e ≡ None → ⊥) × (o ≡ ignores_message f))

-- a full version: it counts only if it is later than the served one
abbrev pub after_base : FollowerValue → VersionValue → FollowOutcome
after_base f target = if nat_lt f.served.version.number target.number then turns_to f target else ignores_message f

-- a table: it counts only if it is awaited
abbrev pub TakesMissing : FollowerValue → ℕ → List ℕ → Option PendingValue → FollowOutcome → Type 0
TakesMissing f number bytes None o = o ≡ ignores_message f
TakesMissing f number bytes (Some to) o =
    ((p : Placed) × IsAwaited to.missing number bytes p × (o ≡ goes_on f (with_table p to) (with_table p to).missing))
    ⊎ (((p : Placed) → IsAwaited to.missing number bytes p → ⊥) × (o ≡ ignores_message f))

-- a file that is no longer served: where it is missing, the version is given up
abbrev pub after_gone_file : FollowerValue → ℕ → Option PendingValue → FollowOutcome
after_gone_file f number None = ignores_message f
after_gone_file f number (Some to) = if list_any (has_number number) to.missing then record { change = Dropped; sent = []; follower = record f { pending = None } } else ignores_message f

-- what comes of a message to a follower
abbrev pub TakesBody : FollowerValue → Body → FollowOutcome → Type 0
TakesBody f (body.Edit edit) o = TakesEdit f edit o
TakesBody f (body.Base version) o = o ≡ after_base f version
TakesBody f (body.Table number bytes) o = TakesMissing f number bytes f.pending o
TakesBody f (body.Gone number) o = o ≡ after_gone_file f number f.pending
TakesBody f (body.Current number) o = o ≡ record { change = Current; sent = []; follower = f }
TakesBody f (body.Job job) o = o ≡ ignores_message f
TakesBody f (body.Fetch number) o = o ≡ ignores_message f
TakesBody f (body.Result made) o = o ≡ ignores_message f
TakesBody f (body.Ask number) o = o ≡ ignores_message f
