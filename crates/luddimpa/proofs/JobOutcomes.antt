-- What comes of a job, from its merge up to its message.
use Rattle.std.proofs.Common.{◌≡◌, ◌∙◌, ℕ, List, refl, sym, subst}
use Rattle.lsm_key.specs.declared.refused.Refused.{Refused}
use Rattle.lsm_key.specs.declared.refused.Refused.TheVariants as refused
use Rattle.lsm_table.specs.Tables.{Opened}
use Rattle.lsm_edit.specs.declared.edit.Edit.{Edit}
use Rattle.lsm_edit.specs.Version.{VersionValue}
use Rattle.lsm_msg.specs.declared.job.JobParts.{JobParts}
use Rattle.lsm_msg.specs.declared.job.JobResult.{JobResult}
use Rattle.lsm_msg.specs.declared.message.Body.{Body}
use Rattle.lsm_msg.specs.declared.message.Body.TheVariants as body
use Rattle.lsm_msg.specs.declared.message.Message.{Message}
use Rattle.lsm_msg.specs.declared.node.Node.TheVariants.{Coordinator, Worker, Follower}
use Rattle.lsm_msg.specs.Messages.{IsSpelled}
use Rattle.lsm_merge.specs.Inputs.{CanMerge}
use Rattle.lsm_merge.specs.Outputs.{IsMerge}
use Rattle.luddimpa.specs.declared.merged_job.JobMerge.{JobMerge}
use Rattle.luddimpa.specs.declared.merged_job.JobMerge.TheVariants.{Result, Fault, NotAJob, WrongTable, SameEntry, TooLarge, OutOfMemory}
use Rattle.luddimpa.specs.JobMerges.{AreTablesOf, MergesBody, MergesFor, MergesJob, MergesTables, RefusesTables, SendsResult, TakesJob, TakesNoJob, result_message, tables_refusal}

-- bodies of other kinds are no job
not_fetch : (n : ℕ) (job : JobParts) → body.Fetch n ≡ body.Job job → ⊥
not_fetch n job e = absurd cc

not_table : (n : ℕ) (bytes : List ℕ) (job : JobParts) → body.Table n bytes ≡ body.Job job → ⊥
not_table n bytes job e = absurd cc

not_gone : (n : ℕ) (job : JobParts) → body.Gone n ≡ body.Job job → ⊥
not_gone n job e = absurd cc

not_result : (r : JobResult) (job : JobParts) → body.Result r ≡ body.Job job → ⊥
not_result r job e = absurd cc

not_ask : (n : ℕ) (job : JobParts) → body.Ask n ≡ body.Job job → ⊥
not_ask n job e = absurd cc

not_edit : (edit : Edit) (job : JobParts) → body.Edit edit ≡ body.Job job → ⊥
not_edit edit job e = absurd cc

not_base : (v : VersionValue) (job : JobParts) → body.Base v ≡ body.Job job → ⊥
not_base v job e = absurd cc

not_current : (n : ℕ) (job : JobParts) → body.Current n ≡ body.Job job → ⊥
not_current n job e = absurd cc

coordinator_not : (i : ℕ) → Coordinator ≡ Worker i → ⊥
coordinator_not i e = absurd cc

follower_not : (index i : ℕ) → Follower index ≡ Worker i → ⊥
follower_not index i e = absurd cc

module _ (index : ℕ) (job : JobParts) (before after : List ℕ) where
  pub merged_sent : (tables : List Opened) (outputs : List (List ℕ)) (o : JobMerge) → CanMerge tables job → IsMerge tables job outputs → SendsResult (result_message index job outputs) before after o → MergesTables index job tables before after o
  merged_sent tables outputs (Result size) can is sent = (can, (outputs, is, sent))
  merged_sent tables outputs (Fault fault) can is sent = absurd sent
  merged_sent tables outputs NotAJob can is sent = absurd sent
  merged_sent tables outputs (WrongTable at) can is sent = absurd sent
  merged_sent tables outputs SameEntry can is sent = absurd sent
  merged_sent tables outputs TooLarge can is sent = (can, (outputs, is, sent))
  merged_sent tables outputs OutOfMemory can is sent = (can, sent)

  pub tables_merged : (text : List ℕ) (tables : List Opened) (o : JobMerge) → AreTablesOf job.inputs text tables → MergesTables index job tables before after o → MergesFor index job text before after o
  tables_merged text tables (Result size) are merged = (tables, are, merged)
  tables_merged text tables (Fault fault) are merged = (tables, are, merged)
  tables_merged text tables NotAJob are merged = (tables, are, merged)
  tables_merged text tables (WrongTable at) are merged = absurd merged.1.2
  tables_merged text tables SameEntry are merged = (tables, are, merged)
  tables_merged text tables TooLarge are merged = (tables, are, merged)
  tables_merged text tables OutOfMemory are merged = merged.1

  pub job_taken : (message text : List ℕ) (o : JobMerge) → TakesJob message index job → MergesFor index job text before after o → MergesJob message text before after o
  job_taken message text (Result size) takes merged = (index, job, takes, merged)
  job_taken message text (Fault fault) takes merged = absurd merged.2.1.2
  job_taken message text NotAJob takes merged = absurd merged.2.1.2
  job_taken message text (WrongTable at) takes merged = (index, job, takes, merged)
  job_taken message text SameEntry takes merged = (index, job, takes, merged)
  job_taken message text TooLarge takes merged = (index, job, takes, merged)
  job_taken message text OutOfMemory takes merged = merged

  -- tables that are refused
  pub refused_tables : (text : List ℕ) (r : Refused ℕ) → RefusesTables job.inputs text r → MergesFor index job text before before (tables_refusal r)
  refused_tables text (refused.Fault at) wrong = (wrong, refl)
  refused_tables text refused.OutOfMemory wrong = refl

-- the body of a message is no job
abbrev IsNoJob : Body → Type 0
IsNoJob b = (job : JobParts) → b ≡ body.Job job → ⊥

module _ (text tables before after : List ℕ) (index : ℕ) (m : Message) (spelled : IsSpelled text m) where
  no_job : IsNoJob m.body → (o : JobMerge) → (o ≡ NotAJob) × (after ≡ before) → MergesJob text tables before after o
  no_job none o h = subst (MergesJob text tables before after) (sym h.0) (record { message = m; spelled = spelled; other = λ i job to asked. none job asked }, h.1)

  -- a message to a worker
  pub to_worker : m.dst ≡ Worker index → (b : Body) → m.body ≡ b → (o : JobMerge) → MergesBody index b tables before after o → MergesJob text tables before after o
  to_worker to (body.Job job) is o h = job_taken index job before after text tables o (record { message = m; spelled = spelled; worker = to; asked = is }) h
  to_worker to (body.Fetch n) is o h = no_job (λ job asked. not_fetch n job (sym is ∙ asked)) o h
  to_worker to (body.Table n bytes) is o h = no_job (λ job asked. not_table n bytes job (sym is ∙ asked)) o h
  to_worker to (body.Gone n) is o h = no_job (λ job asked. not_gone n job (sym is ∙ asked)) o h
  to_worker to (body.Result r) is o h = no_job (λ job asked. not_result r job (sym is ∙ asked)) o h
  to_worker to (body.Ask n) is o h = no_job (λ job asked. not_ask n job (sym is ∙ asked)) o h
  to_worker to (body.Edit e) is o h = no_job (λ job asked. not_edit e job (sym is ∙ asked)) o h
  to_worker to (body.Base v) is o h = no_job (λ job asked. not_base v job (sym is ∙ asked)) o h
  to_worker to (body.Current n) is o h = no_job (λ job asked. not_current n job (sym is ∙ asked)) o h

  -- a message to another node
  pub to_coordinator : m.dst ≡ Coordinator → TakesNoJob text
  to_coordinator to = record { message = m; spelled = spelled; other = λ i job worker asked. coordinator_not i (sym to ∙ worker) }

  pub to_follower : m.dst ≡ Follower index → TakesNoJob text
  to_follower to = record { message = m; spelled = spelled; other = λ i job worker asked. follower_not index i (sym to ∙ worker) }
