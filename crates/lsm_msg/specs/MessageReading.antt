-- How a message is read, with the first fault from left to right. A rule over several fields is tested at the last of them.
use Rattle.std.specs.Prelude.{ℕ, ◌+◌, ◌-◌, ◌^◌, false, not, ◌&&◌, ◌||◌, List, [], length, Result, Ok, Err, ◌==◌, nat_eq, nat_lt, if◌then◌else◌}
use Rattle.std.specs.Int.{w8, w16, w32, w64}
use Rattle.lsm_key.specs.declared.limits.TheConstants.{MAX_DEEPER, MAX_INPUTS, MAX_JOB_LEVEL, MAX_NODES, MAX_NUMBER, MAX_POINTS, MAX_TABLE_BYTES}
use Rattle.lsm_key.specs.declared.range.KeyRange.{KeyRange}
use Rattle.lsm_key.specs.Order.{key_le}
use Rattle.lsm_key.specs.Reading.{◌>>=◌, number_at, ranged_number_at, piece_at, fixed_at, key_at}
use Rattle.lsm_key.specs.Versions.{key_limit, version_of}
use Rattle.lsm_claim.specs.declared.job.JobId.{JobId}
use Rattle.lsm_edit.specs.declared.file.FileBounds.{FileBounds}
use Rattle.lsm_edit.specs.declared.file.FileMeta.{FileMeta}
use Rattle.lsm_edit.specs.File.{file_at}
use Rattle.lsm_edit.specs.Edit.{items_at, numbers_at, edit_at}
use Rattle.lsm_edit.specs.Base.{base_at}
use Rattle.lsm_msg.specs.declared.fault.MsgFault.{MsgFault}
use Rattle.lsm_msg.specs.declared.fault.MsgFault.TheVariants.{Truncated, BadMagic, BadVersion, BadKind, BadField, TrailingBytes, TooLarge, NeedlessVersion}
use Rattle.lsm_msg.specs.declared.job.JobParts.{JobParts}
use Rattle.lsm_msg.specs.declared.job.JobResult.{JobResult}
use Rattle.lsm_msg.specs.declared.kind.MessageKind.{MessageKind}
use Rattle.lsm_msg.specs.declared.kind.MessageKind.TheVariants as kind
use Rattle.lsm_msg.specs.declared.message.Body.{Body}
use Rattle.lsm_msg.specs.declared.message.Body.TheVariants as body
use Rattle.lsm_msg.specs.declared.message.Message.{Message}
use Rattle.lsm_msg.specs.declared.message.TheConstants.{MAX_MESSAGE_BYTES}
use Rattle.lsm_msg.specs.declared.node.Node.{Node}
use Rattle.lsm_msg.specs.declared.node.Node.TheVariants.{Coordinator, Worker, Follower}
use Rattle.lsm_msg.specs.declared.reading.inputs.InputsLeft.{InputsLeft}
use Rattle.lsm_msg.specs.Messages.{message_magic, own_keys}

-- ---- kinds and nodes

-- the kind of a code from 1 to 9; no other code has one
abbrev pub message_kind_from : ℕ → Result MessageKind MsgFault
message_kind_from n =
    if n == 1 then Ok kind.Job
    else if n == 2 then Ok kind.Fetch
    else if n == 3 then Ok kind.Table
    else if n == 4 then Ok kind.Gone
    else if n == 5 then Ok kind.Result
    else if n == 6 then Ok kind.Ask
    else if n == 7 then Ok kind.Edit
    else if n == 8 then Ok kind.Base
    else if n == 9 then Ok kind.Current
    else Err BadKind

-- a kind from the front: its code, in one byte
abbrev pub message_kind_at : List ℕ → Result (MessageKind × List ℕ) MsgFault
message_kind_at bytes = do
  code ← number_at Truncated w8 bytes
  kind ← message_kind_from code.0
  Ok (kind, code.1)

-- the coordinator has the number 0, others have 1 to MAX_NODES
abbrev pub node_from : ℕ → ℕ → Result Node MsgFault
node_from role index =
    if role == 0 then (if index == 0 then Ok Coordinator else Err BadField)
    else if index == 0 || nat_lt MAX_NODES index then Err BadField
    else if role == 1 then Ok (Worker index) else Ok (Follower index)

-- a node from the front: its role and its number, in one byte each
unfoldable pub node_at : List ℕ → Result (Node × List ℕ) MsgFault
node_at bytes = do
  role ← ranged_number_at Truncated BadField w8 0 2 bytes
  index ← number_at Truncated w8 role.1
  node ← node_from role.0 index.0
  Ok (node, index.1)

-- ---- jobs

-- the name of a job from the front: its epoch and its number, each 1 to MAX_NUMBER, in eight bytes each
unfoldable pub job_id_at : List ℕ → Result (JobId × List ℕ) MsgFault
job_id_at bytes = do
  epoch ← ranged_number_at Truncated BadField w64 1 MAX_NUMBER bytes
  number ← ranged_number_at Truncated BadField w64 1 MAX_NUMBER epoch.1
  Ok (record { epoch = epoch.0; number = number.0 }, number.1)

-- the points of a job from the front: how many, in one byte, and that many ascending sequences below 2^56
unfoldable pub points_at : List ℕ → Result (List ℕ × List ℕ) MsgFault
points_at bytes = do
  count ← ranged_number_at Truncated BadField w8 0 MAX_POINTS bytes
  numbers_at Truncated BadField (2 ^ 56 - 1) count.0 0 count.1

-- the last input is of the job's level if no other is
abbrev pub input_bounds : InputsLeft → FileBounds
input_bounds s = record { least = s.least; most = MAX_NUMBER; lowest = s.level; deepest = if not s.own && s.left == 1 then s.level else s.level + 1 }

-- what is left to read of a job's inputs after this one
abbrev pub after_input : InputsLeft → FileMeta → InputsLeft
after_input s f = record { least = f.number + 1; level = s.level; left = s.left - 1; own = s.own || nat_eq f.level s.level }

-- count inputs, with keys of at most limit bytes
abbrev pub each_input_at : ℕ → ℕ → InputsLeft → List ℕ → Result (List FileMeta × List ℕ) MsgFault
each_input_at limit count s bytes = items_at (λ s. file_at limit Truncated BadField (input_bounds s) []) after_input count s bytes

-- the inputs of a job from the front: how many, 1 to MAX_INPUTS, in two bytes, and the record of each
unfoldable pub inputs_at : ℕ → ℕ → List ℕ → Result (List FileMeta × List ℕ) MsgFault
inputs_at limit level bytes = do
  count ← ranged_number_at Truncated BadField w16 1 MAX_INPUTS bytes
  each_input_at limit count.0 (record { least = 1; level = level; left = count.0; own = false }) count.1

-- two keys of at most limit bytes
unfoldable pub range_at : ℕ → List ℕ → Result (KeyRange × List ℕ) MsgFault
range_at limit bytes = do
  lo ← key_at limit Truncated BadField bytes
  hi ← key_at limit Truncated BadField lo.1
  if not (key_le lo.0 hi.0) then Err BadField else Ok (record { lo = lo.0; hi = hi.0 }, hi.1)

-- count items, all of them read in the same way
abbrev pub each_at : {X : Type 0} → (List ℕ → Result (X × List ℕ) MsgFault) → ℕ → List ℕ → Result (List X × List ℕ) MsgFault
each_at {X} read count bytes = items_at {S = Unit {0}} (λ s. read) (λ s x. s) count tt bytes

-- the deeper ranges of a job from the front: how many, at most MAX_DEEPER, in four bytes, and the keys of each
unfoldable pub ranges_at : ℕ → List ℕ → Result (List KeyRange × List ℕ) MsgFault
ranges_at limit bytes = do
  count ← ranged_number_at Truncated BadField w32 0 MAX_DEEPER bytes
  each_at (range_at limit) count.0 count.1

-- a job, with keys of at most limit bytes
unfoldable pub job_at : ℕ → List ℕ → Result (JobParts × List ℕ) MsgFault
job_at limit bytes = do
  id ← job_id_at bytes
  level ← ranged_number_at Truncated BadField w8 0 MAX_JOB_LEVEL id.1
  block ← ranged_number_at Truncated BadField w32 1 MAX_TABLE_BYTES level.1
  points ← points_at block.1
  inputs ← inputs_at limit level.0 points.1
  deeper ← ranges_at limit inputs.1
  Ok (record { id = id.0; level = level.0; block = block.0; points = points.0; inputs = inputs.0; deeper = deeper.0 }, deeper.1)

-- ---- tables and results

-- the bytes of a table from the front, after their length, 1 to MAX_TABLE_BYTES, in four bytes
unfoldable pub sized_at : List ℕ → Result (List ℕ × List ℕ) MsgFault
sized_at bytes = do
  n ← ranged_number_at Truncated BadField w32 1 MAX_TABLE_BYTES bytes
  piece_at Truncated n.0 n.1

-- the tables of a result from the front: how many, in four bytes, and the length and bytes of each
unfoldable pub result_tables_at : List ℕ → Result (List (List ℕ) × List ℕ) MsgFault
result_tables_at bytes = do
  count ← ranged_number_at Truncated BadField w32 0 4294967295 bytes
  each_at sized_at count.0 count.1

-- the result of a job from the front: the job's name, and the tables
unfoldable pub result_at : List ℕ → Result (JobResult × List ℕ) MsgFault
result_at bytes = do
  id ← job_id_at bytes
  tables ← result_tables_at id.1
  Ok (record { job = id.0; tables = tables.0 }, tables.1)

-- ---- whole messages

-- the number of a file from the front, 1 to MAX_NUMBER, in eight bytes
abbrev pub file_number_at : List ℕ → Result (ℕ × List ℕ) MsgFault
file_number_at bytes = ranged_number_at Truncated BadField w64 1 MAX_NUMBER bytes

-- the number of a version from the front, at most MAX_NUMBER, in eight bytes
abbrev pub version_number_at : List ℕ → Result (ℕ × List ℕ) MsgFault
version_number_at bytes = ranged_number_at Truncated BadField w64 0 MAX_NUMBER bytes

-- a number and a table
unfoldable pub table_body_at : List ℕ → Result (Body × List ℕ) MsgFault
table_body_at bytes = do
  number ← file_number_at bytes
  table ← sized_at number.1
  Ok (body.Table number.0 table.0, table.1)

-- what was read, as a body
abbrev pub as_body : {X : Type 0} → (X → Body) → Result (X × List ℕ) MsgFault → Result (Body × List ℕ) MsgFault
as_body make (Ok x) = Ok (make x.0, x.1)
as_body make (Err e) = Err e

-- a body of the kind, with keys of at most limit bytes
abbrev pub body_at : ℕ → MessageKind → List ℕ → Result (Body × List ℕ) MsgFault
body_at limit kind.Job bytes = as_body (λ j. body.Job j) (job_at limit bytes)
body_at limit kind.Fetch bytes = as_body (λ n. body.Fetch n) (file_number_at bytes)
body_at limit kind.Table bytes = table_body_at bytes
body_at limit kind.Gone bytes = as_body (λ n. body.Gone n) (file_number_at bytes)
body_at limit kind.Result bytes = as_body (λ r. body.Result r) (result_at bytes)
body_at limit kind.Ask bytes = as_body (λ n. body.Ask n) (version_number_at bytes)
body_at limit kind.Edit bytes = as_body (λ e. body.Edit e) (edit_at limit Truncated BadField bytes)
body_at limit kind.Base bytes = as_body (λ v. body.Base v) (base_at limit Truncated BadField bytes)
body_at limit kind.Current bytes = as_body (λ n. body.Current n) (version_number_at bytes)

-- a message from the front, with keys of at most what its version allows; a version that no key needs is told after the last field
unfoldable pub message_at : List ℕ → Result (Message × List ℕ) MsgFault
message_at bytes = do
  a ← fixed_at Truncated BadMagic w32 message_magic bytes
  version ← ranged_number_at Truncated BadVersion w8 1 2 a
  kind ← message_kind_at version.1
  src ← node_at kind.1
  dst ← node_at src.1
  body ← body_at (key_limit version.0) kind.0 dst.1
  if not (version_of (own_keys body.0) == version.0) then Err NeedlessVersion else Ok (record { src = src.0; dst = dst.0; body = body.0 }, body.1)

-- a message, all of the bytes
unfoldable pub read_message : List ℕ → Result Message MsgFault
read_message bytes =
    if nat_lt MAX_MESSAGE_BYTES (length bytes) then Err TooLarge else
    (do
      m ← message_at bytes
      if length m.1 == 0 then Ok m.0 else Err TrailingBytes)
