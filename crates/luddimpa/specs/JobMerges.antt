-- What a worker makes of the message of a job and the tables of its inputs (RocksDB wiki, Remote Compaction: the input of a compaction service goes in, its result comes out).
use Rattle.std.specs.Prelude.{◌≡◌, ℕ, ◌<◌, ◌≤◌, List, [], ◌∷◌, ◌++◌, length, take, drop, Ok, Err}
use Rattle.std.specs.List.{flat_map}
use Rattle.lsm_key.specs.declared.refused.Refused.{Refused}
use Rattle.lsm_key.specs.declared.refused.Refused.TheVariants as refused
use Rattle.lsm_table.specs.Tables.{Opened}
use Rattle.lsm_edit.specs.declared.file.FileMeta.{FileMeta}
use Rattle.lsm_edit.specs.Served.{AreAsRecorded, IsAsRecorded}
use Rattle.lsm_msg.specs.declared.fault.MsgFault.TheVariants as fault
use Rattle.lsm_msg.specs.declared.job.JobParts.{JobParts}
use Rattle.lsm_msg.specs.declared.message.Body.{Body}
use Rattle.lsm_msg.specs.declared.message.Body.TheVariants as body
use Rattle.lsm_msg.specs.declared.message.Message.{Message}
use Rattle.lsm_msg.specs.declared.node.Node.TheVariants.{Worker}
use Rattle.lsm_msg.specs.Messages.{IsSpelled, encoding, sized, to_coordinator}
use Rattle.lsm_msg.specs.MessageReading.{read_message}
use Rattle.lsm_merge.specs.Inputs.{CanMerge, HaveSameEntry, lists_of}
use Rattle.lsm_merge.specs.Outputs.{IsMerge}
use Rattle.luddimpa.specs.declared.merged_job.JobMerge.{JobMerge}
use Rattle.luddimpa.specs.declared.merged_job.JobMerge.TheVariants.{Result, Fault, NotAJob, WrongTable, SameEntry, TooLarge, OutOfMemory}
use Rattle.luddimpa.specs.declared.merged_job.MergedJob.{MergedJob}
use Rattle.luddimpa.specs.declared.status.Status.{Status}
use Rattle.luddimpa.specs.declared.status.Status.TheVariants as status
use Rattle.luddimpa.specs.Lookups.{copied}
use Rattle.luddimpa.specs.Statuses.{message_fault_code, status_code}

abbrev pub merge_status : JobMerge → Status
merge_status (Result size) = status.Ok
merge_status (Fault fault) = status.NotAJob
merge_status NotAJob = status.NotAJob
merge_status (WrongTable at) = status.WrongTable
merge_status SameEntry = status.SameEntry
merge_status TooLarge = status.TooLarge
merge_status OutOfMemory = status.OutOfMemory

abbrev pub merged_of : JobMerge → MergedJob
merged_of (Result size) = record { status = status_code status.Ok; fault = 0; table = 0; length = size }
merged_of (Fault fault) = record { status = status_code status.NotAJob; fault = message_fault_code fault; table = 0; length = 0 }
merged_of NotAJob = record { status = status_code status.NotAJob; fault = 0; table = 0; length = 0 }
merged_of (WrongTable at) = record { status = status_code status.WrongTable; fault = 0; table = at; length = 0 }
merged_of SameEntry = record { status = status_code status.SameEntry; fault = 0; table = 0; length = 0 }
merged_of TooLarge = record { status = status_code status.TooLarge; fault = 0; table = 0; length = 0 }
merged_of OutOfMemory = record { status = status_code status.OutOfMemory; fault = 0; table = 0; length = 0 }

-- ---- what is asked

-- the bytes are the message that takes the job to the worker of this index
pub record TakesJob (text : List ℕ) (index : ℕ) (job : JobParts) : Type 0 where
  pub message : Message
  pub spelled : IsSpelled text message
  pub worker : message.dst ≡ Worker index
  pub asked : message.body ≡ body.Job job

-- the bytes are a message that takes no job to a worker
pub record TakesNoJob (text : List ℕ) : Type 0 where
  pub message : Message
  pub spelled : IsSpelled text message
  pub other : (index : ℕ) (job : JobParts) → message.dst ≡ Worker index → message.body ≡ body.Job job → ⊥

-- each table behind its length
abbrev pub sized_tables : List Opened → List ℕ
sized_tables tables = flat_map (λ t. sized t.bytes) tables

-- the bytes are the tables of these files, as their records say, each behind its length
abbrev pub AreTablesOf : List FileMeta → List ℕ → List Opened → Type 0
AreTablesOf files text tables = AreAsRecorded files tables × (text ≡ sized_tables tables)

-- at the front stands the table of the file, as its record says
abbrev pub StandsAsRecorded : FileMeta → List ℕ → Type 0
StandsAsRecorded file rest = (t : Opened) × (more : List ℕ) × IsAsRecorded file t × (rest ≡ sized t.bytes ++ more)

-- at the front stands no table that is as the first record says; or bytes stand behind the last table
abbrev pub BeginsWrong : List FileMeta → List ℕ → Type 0
BeginsWrong [] rest = 0 < length rest
BeginsWrong (file ∷ files) rest = StandsAsRecorded file rest → ⊥

-- the tables before the place are those of the first files; the one at the place is wrong
pub record IsWrongAt (files : List FileMeta) (text : List ℕ) (at : ℕ) : Type 0 where
  pub within : at ≤ length files
  pub tables : List Opened
  pub rest : List ℕ
  pub before : AreAsRecorded (take at files) tables
  pub parts : text ≡ sized_tables tables ++ rest
  pub wrong : BeginsWrong (drop at files) rest

-- bytes are refused as the tables of these files
abbrev pub RefusesTables : List FileMeta → List ℕ → Refused ℕ → Type 0
RefusesTables files text (refused.Fault at) = IsWrongAt files text at
RefusesTables files text refused.OutOfMemory = Unit {0}

abbrev pub tables_refusal : Refused ℕ → JobMerge
tables_refusal (refused.Fault at) = WrongTable at
tables_refusal refused.OutOfMemory = OutOfMemory

-- ---- what comes of it

-- the worker's message of these outputs
abbrev pub result_message : ℕ → JobParts → List (List ℕ) → Message
result_message index job outputs = to_coordinator (Worker index) (body.Result (record { job = job.id; tables = outputs }))

-- the message has so many bytes, which are copied; or it has too many for a message
abbrev pub SendsResult : Message → List ℕ → List ℕ → JobMerge → Type 0
SendsResult message before after (Result size) = (text : List ℕ) × (encoding message ≡ Ok text) × (size ≡ length text) × (after ≡ copied text before)
SendsResult message before after TooLarge = (encoding message ≡ Err fault.TooLarge) × (after ≡ before)
SendsResult message before after OutOfMemory = after ≡ before
SendsResult message before after other = ⊥

-- what comes of a job's tables: the message of their merge, unless two of them share an entry
abbrev pub MergesTables : ℕ → JobParts → List Opened → List ℕ → List ℕ → JobMerge → Type 0
MergesTables index job tables before after SameEntry = HaveSameEntry (lists_of tables) × (after ≡ before)
MergesTables index job tables before after OutOfMemory = CanMerge tables job × (after ≡ before)
MergesTables index job tables before after other = CanMerge tables job × ((outputs : List (List ℕ)) × IsMerge tables job outputs × SendsResult (result_message index job outputs) before after other)

-- what comes of a job and of bytes: they are its tables, or one is wrong
abbrev pub MergesFor : ℕ → JobParts → List ℕ → List ℕ → List ℕ → JobMerge → Type 0
MergesFor index job text before after (WrongTable at) = IsWrongAt job.inputs text at × (after ≡ before)
MergesFor index job text before after OutOfMemory = after ≡ before
MergesFor index job text before after other = (tables : List Opened) × AreTablesOf job.inputs text tables × MergesTables index job tables before after other

-- what comes of the body of a message to a worker
abbrev pub MergesBody : ℕ → Body → List ℕ → List ℕ → List ℕ → JobMerge → Type 0
MergesBody index (body.Job job) text before after o = MergesFor index job text before after o
MergesBody index other text before after o = (o ≡ NotAJob) × (after ≡ before)

-- what comes of a message and of bytes, with the caller's memory before and after it
abbrev pub MergesJob : List ℕ → List ℕ → List ℕ → List ℕ → JobMerge → Type 0
MergesJob message text before after (Fault fault) = ((m : Message) → IsSpelled message m → ⊥) × (read_message message ≡ Err fault) × (after ≡ before)
MergesJob message text before after NotAJob = TakesNoJob message × (after ≡ before)
MergesJob message text before after OutOfMemory = after ≡ before
MergesJob message text before after other = (index : ℕ) × (job : JobParts) × TakesJob message index job × MergesFor index job text before after other
