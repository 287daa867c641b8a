-- One input more: whether it is the last one.
use Rattle.std.proofs.Common.{◌≡◌, ℕ, ◌+◌, ◌<◌, ◌≤◌, List, Option, Some, IfSome, length, ap, sym, subst, arith}
use Rattle.lsm_table.specs.Tables.{Opened}
use Rattle.lsm_key.specs.Sets.{IsIn}
use Rattle.lsm_edit.specs.declared.file.FileMeta.{FileMeta}
use Rattle.lsm_edit.specs.declared.served.Placed.{Placed}
use Rattle.lsm_edit.specs.Served.{IsAsRecorded, AreAsRecorded, IsAwaited}
use Rattle.lsm_msg.specs.declared.job.JobParts.{JobParts}
use Rattle.lsm_work.specs.Held.{AreHeld, IsSpot, BelongsAt, task_of}
use Rattle.lsm_work.specs.Workers.{IsComplete, TaskValue, missing, numbers_of, received_tables, with_input}
use Rattle.lsm_work.proofs.HeldInputs.{missing_count, one_less, complete_more, recorded_all}

-- a table that was asked for, with its file and its place
pub record IsFound (t : TaskValue) (n : ℕ) (text : List ℕ) (p : Placed) (place : ℕ) : Type 0 where
  pub awaited : IsAwaited (missing t) n text p
  pub stands : BelongsAt t p place

pub found : (t : TaskValue) (n place : ℕ) (text : List ℕ) (f : FileMeta) (o : Option Opened) (u : Opened) → IsIn f (missing t) × (f.number ≡ n) → IsSpot (numbers_of t.received) n place → IfSome o (λ v. (v.bytes ≡ text) × IsAsRecorded f v) → o ≡ Some u
    → IsFound t n text (record { meta = f; table = u }) place
found t n place text f o u own spot some is =
    let taken = subst (λ (x : Option Opened). IfSome x (λ v. (v.bytes ≡ text) × IsAsRecorded f v)) is some in
    record {
      awaited = record { file = own.0; number = own.1; bytes = taken.0; recorded = taken.1 };
      stands = record { input = own.0; recorded = taken.1; spot = subst (λ (m : ℕ). IsSpot (numbers_of t.received) m place) (sym own.1) spot };
    }

-- a task as it is held, and as it is seen
module _ (job : JobParts) (ns : List ℕ) (ts : List Opened) (held : AreHeld job ns ts) (t : TaskValue) (seen : task_of job ns ts ≡ t) (p : Placed) (place : ℕ) (at : BelongsAt t p place) where
  inner : BelongsAt (task_of job ns ts) p place
  inner = subst (λ (u : TaskValue). BelongsAt u p place) (sym seen) at

  less : length (missing (with_input p t)) + 1 ≡ length (missing t)
  less = subst (λ (u : TaskValue). length (missing (with_input p u)) + 1 ≡ length (missing u)) seen (one_less job ns ts held p place inner)

  pub some_left : length ns + 1 < length job.inputs → 1 ≤ length (missing (with_input p t))
  some_left more = let many = missing_count job ns ts held in let shown = ap (λ (u : TaskValue). length (missing u)) seen in omega (arith, less, many, shown, more)

  module _ (last : length job.inputs ≤ length ns + 1) where
    pub none_left : length (missing (with_input p t)) ≡ 0
    none_left = let many = missing_count job ns ts held in let shown = ap (λ (u : TaskValue). length (missing u)) seen in omega (arith, less, many, shown, last)

    pub all_come : IsComplete (with_input p t)
    all_come = subst (λ (u : TaskValue). IsComplete (with_input p u)) seen (complete_more job ns ts held p place inner (let many = missing_count job ns ts held in omega (arith, many, last)))

    pub all_recorded : AreAsRecorded t.job.inputs (received_tables (with_input p t))
    all_recorded = subst (λ (u : TaskValue). AreAsRecorded u.job.inputs (received_tables (with_input p u))) seen (recorded_all job ns ts held p place inner (let many = missing_count job ns ts held in omega (arith, many, last)))
