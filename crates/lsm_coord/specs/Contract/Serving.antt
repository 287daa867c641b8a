-- What the coordinator replies to a message (RocksDB wiki, Remote Compaction: a worker reads the input files of its job; LevelDB, version_set.cc, AddLiveFiles: the files of every live version stay).
use Rattle.std.specs.Prelude.{◌≡◌, ◌⊎◌, ℕ, ◌+◌, ◌<◌, ◌≤◌, List, Option, None, Some, IsSome, nat_le, slice_get, if◌then◌else◌}
use Rattle.std.specs.Option.{option_map}
use Rattle.lsm_key.specs.Sets.{IsIn}
use Rattle.lsm_edit.specs.declared.edit.Edit.{Edit}
use Rattle.lsm_edit.specs.Version.{VersionValue}
use Rattle.lsm_msg.specs.declared.message.Body.{Body}
use Rattle.lsm_msg.specs.declared.message.Body.TheVariants as body
use Rattle.lsm_msg.specs.declared.message.Message.{Message}
use Rattle.lsm_msg.specs.declared.node.Node.TheVariants.{Coordinator}
use Rattle.lsm_versions.specs.Manifest.{read_edits}
use Rattle.lsm_versions.specs.Retention.{bytes_at}
use Rattle.lsm_coord.specs.Model.State.{State, Version, Place, current, current_version}
use Rattle.lsm_coord.specs.Contract.Shows.{listing_of}
use Rattle.lsm_coord.specs.Contract.Value.{CoordValue}

-- the table of a file, or that it is gone
abbrev pub table_body : ℕ → Option (List ℕ) → Body
table_body file None = body.Gone file
table_body file (Some bytes) = body.Table file bytes

-- what a follower at a version is told: that it is up to date, or the next edit if that is one from the floor on, otherwise the whole
-- current version
abbrev pub after_version : CoordValue → ℕ → Option Body
after_version c number =
    if nat_le c.served.version.number number then Some (body.Current c.served.version.number)
    else if nat_le c.floor (number + 1) then option_map body.Edit (slice_get (read_edits c.stored.edits) number)
    else Some (body.Base c.served.version)

-- a fetch is answered with the table if the file is of the current version or retired, otherwise with Gone; an ask with what comes
-- after the version; no other message is answered
abbrev pub answer_message : CoordValue → Message → Body → Option Message
answer_message c asked (body.Fetch file) = Some (record { src = Coordinator; dst = asked.src; body = table_body file (bytes_at c.served.places c.retired file) })
answer_message c asked (body.Ask number) = option_map (λ said. record { src = Coordinator; dst = asked.src; body = said }) (after_version c number)
answer_message c asked said = None

-- the answer is a table, an edit or a whole version
abbrev pub TakesMemory : CoordValue → Body → Type 0
TakesMemory c (body.Fetch file) = IsSome (bytes_at c.served.places c.retired file)
TakesMemory c (body.Ask number) = number < c.served.version.number
TakesMemory c said = ⊥

-- some version from the floor on lists the file
abbrev pub IsListedSince : State → ℕ → Type 0
IsListedSince s file = (number : ℕ) × (s.floor ≤ number) × (v : Version) × (slice_get s.versions number ≡ Some v) × (p : Place) × IsIn p v.files × (p.file ≡ file)

-- the body has the file's table
abbrev pub HasTable : ℕ → Body → Type 0
HasTable file said = (bytes : List ℕ) × (said ≡ body.Table file bytes)

-- the body has the edit that makes the version of this number
abbrev pub HasEdit : ℕ → Body → Type 0
HasEdit number said = (e : Edit) × (e.number ≡ number) × (said ≡ body.Edit e)

-- the body has the whole current version
abbrev pub HasCurrent : State → Body → Type 0
HasCurrent s said = (v : VersionValue) × (v.number ≡ current s) × (listing_of v ≡ current_version s) × (said ≡ body.Base v)

-- a follower at a version is told that it is up to date, or the next edit if that is one from the floor on, otherwise the whole
-- current version
abbrev pub Tells : State → ℕ → Body → Type 0
Tells s number said =
    ((current s ≤ number) × (said ≡ body.Current (current s)))
    ⊎ (((number < current s) × (s.floor ≤ number + 1) × HasEdit (number + 1) said)
    ⊎ ((number < current s) × (number + 1 < s.floor) × HasCurrent s said))

-- a fetch is answered with the table if some version from the floor on lists the file, otherwise with Gone; an ask with what comes
-- after the version
abbrev pub Serves : State → Body → Option Message → Type 0
Serves s (body.Fetch file) answer =
    (m : Message) × (answer ≡ Some m)
    × ((IsListedSince s file × HasTable file m.body) ⊎ ((IsListedSince s file → ⊥) × (m.body ≡ body.Gone file)))
Serves s (body.Ask number) answer = (m : Message) × (answer ≡ Some m) × Tells s number m.body
Serves s said answer = answer ≡ None
