-- The form in which a worker holds the inputs of its job: numbers beside tables, so that the tables can be merged where they are (the store's own).
use Rattle.std.specs.Prelude.{◌≡◌, ℕ, ◌<◌, ◌≤◌, Bool, true, false, if◌then◌else◌, List, Option, None, Some, length, map, filter}
use Rattle.std.specs.List.Sorted.{IsPartitionPoint}
use Rattle.lsm_key.specs.Sets.{IsIn, is_among}
use Rattle.lsm_table.specs.Tables.{Opened}
use Rattle.lsm_edit.specs.declared.file.FileMeta.{FileMeta}
use Rattle.lsm_edit.specs.declared.served.Placed.{Placed}
use Rattle.lsm_edit.specs.Served.{IsAsRecorded, AreAsRecorded, placed_of}
use Rattle.lsm_msg.specs.declared.job.JobParts.{JobParts}
use Rattle.lsm_msg.specs.Jobs.{IsJob}
use Rattle.lsm_work.specs.declared.change.WorkChange.{WorkChange}
use Rattle.lsm_work.specs.declared.change.WorkChange.TheVariants.{Collecting, Merged, Dropped, Ignored}
use Rattle.lsm_work.specs.Workers.{TaskValue, missing, numbers_of}

-- the files of these numbers
abbrev pub files_of : List ℕ → List FileMeta → List FileMeta
files_of numbers files = filter (λ f. is_among numbers f.number) files

-- the task of a job whose inputs of these numbers have come, with their tables
abbrev pub task_of : JobParts → List ℕ → List Opened → TaskValue
task_of job numbers tables = record { job = job; received = placed_of (files_of numbers job.inputs) tables }

-- the numbers are those of inputs, in their order, with their tables
pub record AreHeld (of : JobParts) (which : List ℕ) (tables : List Opened) : Type 0 where
  pub job : IsJob of
  pub numbers : map (λ f. f.number) (files_of which of.inputs) ≡ which
  pub recorded : AreAsRecorded (files_of which of.inputs) tables

-- after this change the worker has no task any more: its job was merged or dropped
abbrev pub ends_task : WorkChange → Bool
ends_task (Collecting count) = false
ends_task Merged = true
ends_task Dropped = true
ends_task Ignored = false

-- what is left of a task after a message
abbrev pub left_after : WorkChange → TaskValue → Option TaskValue
left_after change t = if ends_task change then None else Some t

-- the place of a number among others that ascend
pub record IsSpot (numbers : List ℕ) (number place : ℕ) : Type 0 where
  pub within : place ≤ length numbers
  pub parted : IsPartitionPoint (λ n. n < number) (λ n. number < n) numbers place

-- a missing input with its table, and its place among those that have come
pub record BelongsAt (t : TaskValue) (p : Placed) (place : ℕ) : Type 0 where
  pub input : IsIn p.meta (missing t)
  pub recorded : IsAsRecorded p.meta p.table
  pub spot : IsSpot (numbers_of t.received) p.meta.number place
