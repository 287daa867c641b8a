-- What a worker does with a message that is known: its task is of the history again, and what it sends is known.
use Rattle.std.proofs.Common.{◌≡◌, ℕ, Bool, true, false, cond, List, [], ◌∷◌, Option, None, Some, map, refl, sym, ap, subst, ◌∙◌, inl, inr}
use Rattle.std.specs.Prelude.{not, nat_lt, filter, slice_get, slice_set}
use Rattle.lsm_key.specs.Sets.{IsIn, is_among}
use Rattle.lsm_key.proofs.AscendingEntries.{IsIn-filter}
use Rattle.lsm_key.proofs.Membership.{IsIn-append_cases}
use Rattle.lsm_claim.specs.Jobs.{same_job_id}
use Rattle.lsm_table.specs.Tables.{Opened}
use Rattle.lsm_edit.specs.declared.file.FileMeta.{FileMeta}
use Rattle.lsm_edit.specs.declared.served.Placed.{Placed}
use Rattle.lsm_msg.specs.declared.job.JobParts.{JobParts}
use Rattle.lsm_msg.specs.declared.message.Body.{Body}
use Rattle.lsm_msg.specs.declared.message.Body.TheVariants as body
use Rattle.lsm_msg.specs.declared.message.Message.{Message}
use Rattle.lsm_msg.specs.declared.node.Node.TheVariants.{Worker}
use Rattle.lsm_merge.specs.Outputs.{IsMerge}
use Rattle.lsm_store.specs.Compacting.{tables_at}
use Rattle.lsm_store.proofs.ServedTables.{tables_found}
use Rattle.lsm_work.specs.Workers.{IsComplete, MergesInputs, WorkOutcome, Proceeds, TakesTable, TaskValue, WorkerValue, Works, after_gone, after_job, drops, fetching, ignores, is_later, missing, new_task, numbers_of, received_tables, with_input}
use Rattle.lsm_world.specs.History.{AreFilesOf, AreJobsOf, History, IsFileOf, IsKnown, IsNetwork, IsTableAt, IsTaskOf}
use Rattle.lsm_world.specs.Nodes.{NetworkValue}
use Rattle.lsm_world.proofs.AwaitedTables.{awaited_is, fetched, file_numbered}
use Rattle.lsm_world.proofs.FourPlaces.{same_indices, set_cases}

-- the task that is left is of the history, and each message that is sent is known
abbrev pub Keeps : History → WorkOutcome → Type 0
Keeps h o = IsTaskOf h o.worker.task × ((m : Message) → IsIn m o.sent → IsKnown h m.body)

-- one of two outcomes
by_test : (P : WorkOutcome → Type 0) (b : Bool) (x y : WorkOutcome) → P x → P y → P (cond b x y)
by_test P true x y px py = px
by_test P false x y px py = py

module _ (h : History) (files : AreFilesOf h) (jobs : AreJobsOf h) where
  -- ---- jobs, and files that are gone

  -- a missing input is one of the job's
  is_input : (t : TaskValue) (f : FileMeta) → IsIn f (missing t) → IsIn f t.job.inputs
  is_input t f m = (IsIn-filter (λ (g : FileMeta). not (is_among (numbers_of t.received) g.number)) f t.job.inputs m).0

  input_is : (t : TaskValue) → IsTaskOf h (Some t) → (f : FileMeta) → IsIn f (missing t) → IsFileOf h f
  input_is t own f m = jobs.inputs t.job f own.0 (is_input t f m)

  fetching_keeps : (w : WorkerValue) (t : TaskValue) → IsTaskOf h (Some t) → Keeps h (fetching w t)
  fetching_keeps w t own = (own, fetched h (Worker w.index) (missing t) (λ f m. file_numbered h f (input_is t own f m)))

  ignores_keeps : (w : WorkerValue) → IsTaskOf h w.task → Keeps h (ignores w)
  ignores_keeps w own = (own, λ m sent. absurd sent)

  drops_keeps : (w : WorkerValue) → Keeps h (drops w)
  drops_keeps w = (tt, λ m sent. absurd sent)

  new_of : (j : JobParts) → IsIn j h.jobs → IsTaskOf h (Some (new_task j))
  new_of j m = (m, λ p none. absurd none)

  job_keeps : (w : WorkerValue) (j : JobParts) (t : Option TaskValue) → IsTaskOf h w.task → IsTaskOf h t → IsIn j h.jobs → Keeps h (after_job w j t)
  job_keeps w j None own has m = fetching_keeps w (new_task j) (new_of j m)
  job_keeps w j (Some t) own has m =
      by_test (Keeps h) (same_job_id j.id t.job.id) (fetching w t) (cond (is_later j.id t.job.id) (fetching w (new_task j)) (ignores w)) (fetching_keeps w t has)
      (by_test (Keeps h) (is_later j.id t.job.id) (fetching w (new_task j)) (ignores w) (fetching_keeps w (new_task j) (new_of j m)) (ignores_keeps w own))

  gone_keeps : (w : WorkerValue) (number : ℕ) (t : Option TaskValue) → IsTaskOf h w.task → Keeps h (after_gone w number t)
  gone_keeps w number None own = ignores_keeps w own
  gone_keeps w number (Some t) own = by_test (Keeps h) (is_among (map (λ f. f.number) (missing t)) number) (drops w) (ignores w) (drops_keeps w) (ignores_keeps w own)

  -- ---- tables

  module _ (t : TaskValue) (own : IsTaskOf h (Some t)) where
    more_of : (p : Placed) → IsIn p h.files → IsIn p.meta t.job.inputs → IsTaskOf h (Some (with_input p t))
    more_of p there input = (
      own.0,
      λ q m. elim (IsIn-append_cases q (filter (λ x. nat_lt x.meta.number p.meta.number) t.received) (p ∷ filter (λ x. nat_lt p.meta.number x.meta.number) t.received) m) [
        | inl below ↦ own.1 q (IsIn-filter (λ (x : Placed). nat_lt x.meta.number p.meta.number) q t.received below).0
        | inr (inl same) ↦ subst (λ (x : Placed). IsIn x h.files × IsIn x.meta t.job.inputs) (sym same) (there, input)
        | inr (inr above) ↦ own.1 q (IsIn-filter (λ (x : Placed). nat_lt p.meta.number x.meta.number) q t.received above).0
      ],
    )

    -- the tables of a complete task are those of the job's inputs
    tables_are : IsComplete t → received_tables t ≡ tables_at h.files t.job.inputs
    tables_are whole = sym (tables_found h.files files.one t.received (λ p m. (own.1 p m).0)) ∙ ap (tables_at h.files) whole

    merges_keeps : (w : WorkerValue) (o : WorkOutcome) → IsComplete t → MergesInputs w t o → Keeps h o
    merges_keeps w o whole (inl made) = subst (Keeps h) (sym made.3) (
      tt,
      λ m sent. elim sent [
        | inl same ↦ subst (λ (x : Message). IsKnown h x.body) (sym same) (t.job, own.0, refl, subst (λ (ts : List Opened). IsMerge ts t.job made.0) (tables_are whole) made.2)
        | inr none ↦ absurd none
      ],
    )
    merges_keeps w o whole (inr same) = subst (Keeps h) (sym same.1) (drops_keeps w)

    proceeds_keeps : (w : WorkerValue) (fs : List FileMeta) (o : WorkOutcome) → Proceeds w t fs o → Keeps h o
    proceeds_keeps w [] o goes = merges_keeps w o goes.0 goes.1
    proceeds_keeps w (f ∷ fs) o goes = subst (Keeps h) (sym goes) (own, λ m sent. absurd sent)

  table_keeps : (w : WorkerValue) (number : ℕ) (bytes : List ℕ) (t : Option TaskValue) (o : WorkOutcome) → IsTaskOf h w.task → IsTaskOf h t → IsTableAt h number bytes → TakesTable w number bytes t o → Keeps h o
  table_keeps w number bytes None o own has known goes = subst (Keeps h) (sym goes) (ignores_keeps w own)
  table_keeps w number bytes (Some t) o own has known (inl taken) =
      let p = taken.0 in
      let there = awaited_is h files (missing t) (input_is t has) number bytes p known taken.1 in
      proceeds_keeps (with_input p t) (more_of t has p there (is_input t p.meta taken.1.file)) w (missing (with_input p t)) o taken.2
  table_keeps w number bytes (Some t) o own has known (inr other) = subst (Keeps h) (sym other.1) (ignores_keeps w own)

  -- ---- any message

  -- A WORKER KEEPS THE HISTORY.
  pub works_known : (w : WorkerValue) (said : Body) (o : WorkOutcome) → IsTaskOf h w.task → IsKnown h said → Works w said o → Keeps h o
  works_known w (body.Job j) o own known works = subst (Keeps h) (sym works) (job_keeps w j w.task own own known)
  works_known w (body.Table number bytes) o own known works = table_keeps w number bytes w.task o own own known works
  works_known w (body.Gone number) o own known works = subst (Keeps h) (sym works) (gone_keeps w number w.task own)
  works_known w (body.Fetch number) o own known works = subst (Keeps h) (sym works) (ignores_keeps w own)
  works_known w (body.Result made) o own known works = subst (Keeps h) (sym works) (ignores_keeps w own)
  works_known w (body.Ask number) o own known works = subst (Keeps h) (sym works) (ignores_keeps w own)
  works_known w (body.Edit edit) o own known works = subst (Keeps h) (sym works) (ignores_keeps w own)
  works_known w (body.Base version) o own known works = subst (Keeps h) (sym works) (ignores_keeps w own)
  works_known w (body.Current number) o own known works = subst (Keeps h) (sym works) (ignores_keeps w own)

-- ---- the worker that is left

job_index : (w : WorkerValue) (j : JobParts) (t : Option TaskValue) → (after_job w j t).worker.index ≡ w.index
job_index w j None = refl
job_index w j (Some t) =
    by_test (λ o. o.worker.index ≡ w.index) (same_job_id j.id t.job.id) (fetching w t) (cond (is_later j.id t.job.id) (fetching w (new_task j)) (ignores w)) refl
    (by_test (λ o. o.worker.index ≡ w.index) (is_later j.id t.job.id) (fetching w (new_task j)) (ignores w) refl refl)

gone_index : (w : WorkerValue) (number : ℕ) (t : Option TaskValue) → (after_gone w number t).worker.index ≡ w.index
gone_index w number None = refl
gone_index w number (Some t) = by_test (λ o. o.worker.index ≡ w.index) (is_among (map (λ f. f.number) (missing t)) number) (drops w) (ignores w) refl refl

merges_index : (w : WorkerValue) (t : TaskValue) (o : WorkOutcome) → MergesInputs w t o → o.worker.index ≡ w.index
merges_index w t o (inl made) = ap (λ (x : WorkOutcome). x.worker.index) made.3
merges_index w t o (inr same) = ap (λ (x : WorkOutcome). x.worker.index) same.1

proceeds_index : (w : WorkerValue) (t : TaskValue) (fs : List FileMeta) (o : WorkOutcome) → Proceeds w t fs o → o.worker.index ≡ w.index
proceeds_index w t [] o goes = merges_index w t o goes.1
proceeds_index w t (f ∷ fs) o goes = ap (λ (x : WorkOutcome). x.worker.index) goes

table_index : (w : WorkerValue) (number : ℕ) (bytes : List ℕ) (t : Option TaskValue) (o : WorkOutcome) → TakesTable w number bytes t o → o.worker.index ≡ w.index
table_index w number bytes None o goes = ap (λ (x : WorkOutcome). x.worker.index) goes
table_index w number bytes (Some t) o (inl taken) = proceeds_index w (with_input taken.0 t) (missing (with_input taken.0 t)) o taken.2
table_index w number bytes (Some t) o (inr other) = ap (λ (x : WorkOutcome). x.worker.index) other.1

pub works_index : (w : WorkerValue) (said : Body) (o : WorkOutcome) → Works w said o → o.worker.index ≡ w.index
works_index w (body.Job j) o works = ap (λ (x : WorkOutcome). x.worker.index) works ∙ job_index w j w.task
works_index w (body.Table number bytes) o works = table_index w number bytes w.task o works
works_index w (body.Gone number) o works = ap (λ (x : WorkOutcome). x.worker.index) works ∙ gone_index w number w.task
works_index w (body.Fetch number) o works = ap (λ (x : WorkOutcome). x.worker.index) works
works_index w (body.Result made) o works = ap (λ (x : WorkOutcome). x.worker.index) works
works_index w (body.Ask number) o works = ap (λ (x : WorkOutcome). x.worker.index) works
works_index w (body.Edit edit) o works = ap (λ (x : WorkOutcome). x.worker.index) works
works_index w (body.Base version) o works = ap (λ (x : WorkOutcome). x.worker.index) works
works_index w (body.Current number) o works = ap (λ (x : WorkOutcome). x.worker.index) works

-- ---- one worker in the place of another

-- A WORKER WITH A TASK OF THE HISTORY TAKES THE PLACE OF ANOTHER.
pub with_worker : (h : History) (old : NetworkValue) (place : ℕ) (w new : WorkerValue) → slice_get old.workers place ≡ Some w → new.index ≡ w.index → IsTaskOf h new.task → IsNetwork h old → IsNetwork h (record old { workers = slice_set old.workers place new })
with_worker h old place w new at same task is = record {
  workers = same_indices (λ (x : WorkerValue). x.index) old.workers place w new at same ∙ is.workers;
  tasks = λ x m. elim (set_cases old.workers place new x m) [ inl here ↦ subst (λ (y : WorkerValue). IsTaskOf h y.task) (sym here) task | inr before ↦ is.tasks x before ];
  followers = is.followers;
  versions = is.versions;
  sent = is.sent;
}
