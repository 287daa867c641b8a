-- Messages: what they may say, and how they are encoded (RocksDB wiki: remote compaction, secondary instances; the layout is the store's own).
use Rattle.std.specs.Prelude.{◌≡◌, ℕ, ◌<◌, ◌≤◌, ◌^◌, List, [], ◌∷◌, ◌++◌, length, map, All, Result, Ok, Err, nat_lt, if◌then◌else◌}
use Rattle.std.specs.Int.{w8, w16, w32, w64, to_be_bytes}
use Rattle.std.specs.List.{flat_map}
use Rattle.lsm_key.specs.declared.limits.TheConstants.{MAX_NODES, MAX_NUMBER, MAX_TABLE_BYTES}
use Rattle.lsm_key.specs.declared.range.KeyRange.{KeyRange}
use Rattle.lsm_key.specs.Spelling.{key}
use Rattle.lsm_key.specs.Versions.{version_of}
use Rattle.lsm_claim.specs.declared.job.JobId.{JobId}
use Rattle.lsm_edit.specs.declared.file.FileMeta.{FileMeta}
use Rattle.lsm_edit.specs.File.{file}
use Rattle.lsm_edit.specs.Edit.{IsEdit, edit}
use Rattle.lsm_edit.specs.Base.{IsBase, base}
use Rattle.lsm_msg.specs.declared.fault.MsgFault.{MsgFault}
use Rattle.lsm_msg.specs.declared.fault.MsgFault.TheVariants.{TooLarge}
use Rattle.lsm_msg.specs.declared.job.JobParts.{JobParts}
use Rattle.lsm_msg.specs.declared.kind.MessageKind.{MessageKind}
use Rattle.lsm_msg.specs.declared.kind.MessageKind.TheVariants as kind
use Rattle.lsm_msg.specs.declared.message.Body.{Body}
use Rattle.lsm_msg.specs.declared.message.Body.TheVariants as body
use Rattle.lsm_msg.specs.declared.message.Message.{Message}
use Rattle.lsm_msg.specs.declared.message.TheConstants.{MAX_MESSAGE_BYTES}
use Rattle.lsm_msg.specs.declared.node.Node.{Node}
use Rattle.lsm_msg.specs.declared.node.Node.TheVariants.{Coordinator, Worker, Follower}
use Rattle.lsm_msg.specs.Jobs.{IsJob}
use Rattle.lsm_msg.specs.Rules.{IsJobId}

-- ---- what messages may say

-- workers and followers are numbered from 1 to MAX_NODES
abbrev pub IsNode : Node → Type 0
IsNode Coordinator = Unit {0}
IsNode (Worker index) = (1 ≤ index) × (index ≤ MAX_NODES)
IsNode (Follower index) = (1 ≤ index) × (index ≤ MAX_NODES)

-- a number that a file may have
abbrev pub IsFileNumber : ℕ → Type 0
IsFileNumber number = (1 ≤ number) × (number ≤ MAX_NUMBER)

-- bytes that may be a table's: what they say is not looked at
abbrev pub AreTableBytes : List ℕ → Type 0
AreTableBytes bytes = (1 ≤ length bytes) × (length bytes ≤ MAX_TABLE_BYTES)

-- sequences are below 2^56
abbrev pub AreSequences : List ℕ → Type 0
AreSequences points = All (λ p. p < 2 ^ 56) points

-- a body within the rules of its kind
abbrev pub IsBody : Body → Type 0
IsBody (body.Job j) = IsJob j × AreSequences j.points
IsBody (body.Fetch n) = IsFileNumber n
IsBody (body.Table n bytes) = IsFileNumber n × AreTableBytes bytes
IsBody (body.Gone n) = IsFileNumber n
IsBody (body.Result r) = IsJobId r.job × All AreTableBytes r.tables
IsBody (body.Ask n) = n ≤ MAX_NUMBER
IsBody (body.Edit e) = IsEdit e
IsBody (body.Base v) = IsBase v
IsBody (body.Current n) = n ≤ MAX_NUMBER

-- a message whose sender, receiver and body are within their rules
pub record IsMessage (m : Message) : Type 0 where
  pub src : IsNode m.src
  pub dst : IsNode m.dst
  pub body : IsBody m.body

-- ---- messages to the coordinator

-- a message from the node to the coordinator, of this body
abbrev pub to_coordinator : Node → Body → Message
to_coordinator src said = record { src = src; dst = Coordinator; body = said }

-- the table of each file is asked for
abbrev pub fetches : Node → List FileMeta → List Message
fetches src files = map (λ f. to_coordinator src (body.Fetch f.number)) files

-- ---- how they are encoded

-- LSMM in ASCII
abbrev pub message_magic : ℕ
message_magic = 1280527693

-- one byte for the kind of node, and one for its number
abbrev pub node : Node → List ℕ
node Coordinator = to_be_bytes w8 0 ++ to_be_bytes w8 0
node (Worker index) = to_be_bytes w8 1 ++ to_be_bytes w8 index
node (Follower index) = to_be_bytes w8 2 ++ to_be_bytes w8 index

-- the name of a job: its epoch and its number, in eight bytes each
abbrev pub job_id : JobId → List ℕ
job_id id = to_be_bytes w64 id.epoch ++ to_be_bytes w64 id.number

-- one byte for how many points there are, and eight bytes for each
abbrev pub points : List ℕ → List ℕ
points ps = to_be_bytes w8 (length ps) ++ flat_map (to_be_bytes w64) ps

-- the least key of a range, and the greatest
abbrev pub range : KeyRange → List ℕ
range r = key r.lo ++ key r.hi

-- four bytes for how many ranges there are, and the keys of each
abbrev pub ranges : List KeyRange → List ℕ
ranges rs = to_be_bytes w32 (length rs) ++ flat_map range rs

-- the name of a job, its level, its block target, its points, its inputs and its deeper ranges
abbrev pub job : JobParts → List ℕ
job j =
    job_id j.id ++ to_be_bytes w8 j.level ++ to_be_bytes w32 j.block ++ points j.points
    ++ (to_be_bytes w16 (length j.inputs) ++ flat_map file j.inputs) ++ ranges j.deeper

-- four bytes of length, and the bytes
abbrev pub sized : List ℕ → List ℕ
sized bytes = to_be_bytes w32 (length bytes) ++ bytes

-- four bytes for how many tables there are, and the length and bytes of each
abbrev pub tables : List (List ℕ) → List ℕ
tables ts = to_be_bytes w32 (length ts) ++ flat_map sized ts

-- the kind of a message that has this body
abbrev pub kind_of : Body → MessageKind
kind_of (body.Job j) = kind.Job
kind_of (body.Fetch n) = kind.Fetch
kind_of (body.Table n bytes) = kind.Table
kind_of (body.Gone n) = kind.Gone
kind_of (body.Result r) = kind.Result
kind_of (body.Ask n) = kind.Ask
kind_of (body.Edit e) = kind.Edit
kind_of (body.Base v) = kind.Base
kind_of (body.Current n) = kind.Current

-- the code of a kind
abbrev pub message_kind_code : MessageKind → ℕ
message_kind_code kind.Job = 1
message_kind_code kind.Fetch = 2
message_kind_code kind.Table = 3
message_kind_code kind.Gone = 4
message_kind_code kind.Result = 5
message_kind_code kind.Ask = 6
message_kind_code kind.Edit = 7
message_kind_code kind.Base = 8
message_kind_code kind.Current = 9

-- the bytes of a body
abbrev pub body_text : Body → List ℕ
body_text (body.Job j) = job j
body_text (body.Fetch n) = to_be_bytes w64 n
body_text (body.Table n bytes) = to_be_bytes w64 n ++ sized bytes
body_text (body.Gone n) = to_be_bytes w64 n
body_text (body.Result r) = job_id r.job ++ tables r.tables
body_text (body.Ask n) = to_be_bytes w64 n
body_text (body.Edit e) = edit e
body_text (body.Base v) = base v
body_text (body.Current n) = to_be_bytes w64 n

-- the two keys of each file
abbrev pub keys_of_files : List FileMeta → List (List ℕ)
keys_of_files files = flat_map (λ f. f.smallest ∷ f.largest ∷ []) files

-- the two keys of each range
abbrev pub keys_of_ranges : List KeyRange → List (List ℕ)
keys_of_ranges rs = flat_map (λ r. r.lo ∷ r.hi ∷ []) rs

-- the keys in a body's own fields: those inside the bytes of a table do not count
abbrev pub own_keys : Body → List (List ℕ)
own_keys (body.Job j) = keys_of_files j.inputs ++ keys_of_ranges j.deeper
own_keys (body.Fetch n) = []
own_keys (body.Table n bytes) = []
own_keys (body.Gone n) = []
own_keys (body.Result r) = []
own_keys (body.Ask n) = []
own_keys (body.Edit e) = keys_of_files e.added
own_keys (body.Base v) = keys_of_files v.files
own_keys (body.Current n) = []

-- magic, the version that the body's own keys need, the kind, sender, receiver, body
abbrev pub message : Message → List ℕ
message m = to_be_bytes w32 message_magic ++ to_be_bytes w8 (version_of (own_keys m.body)) ++ to_be_bytes w8 (message_kind_code (kind_of m.body)) ++ node m.src ++ node m.dst ++ body_text m.body

-- the bytes are those of this message, and not too many
pub record IsSpelled (bytes : List ℕ) (m : Message) : Type 0 where
  pub sound : IsMessage m
  pub small : length bytes ≤ MAX_MESSAGE_BYTES
  pub spelled : bytes ≡ message m

-- the bytes of a message, unless they are too many
abbrev pub encoding : Message → Result (List ℕ) MsgFault
encoding m = if nat_lt MAX_MESSAGE_BYTES (length (message m)) then Err TooLarge else Ok (message m)
