-- What a merge makes of a sound job: a result that holds exactly what is kept of its inputs, and that may be installed.
use Rattle.std.proofs.Common.{◌≤◌, ◌^◌, List, refl, sym, subst, arith}
use Rattle.std.specs.Prelude.{sum_by}
use Rattle.std.proofs.lemmas.List.Sums.{sum_by-le}
use Rattle.lsm_key.specs.declared.entry.Entry.{Entry}
use Rattle.lsm_key.specs.Places.{all_entries}
use Rattle.lsm_key.specs.Sets.{IsIn}
use Rattle.lsm_claim.specs.declared.job.LiveJob.{LiveJob}
use Rattle.lsm_edit.specs.declared.file.FileMeta.{FileMeta}
use Rattle.lsm_edit.specs.Served.{IsServed, ServedValue}
use Rattle.lsm_edit.specs.Version.{IsVersion}
use Rattle.lsm_msg.specs.declared.job.JobParts.{JobParts}
use Rattle.lsm_msg.specs.declared.job.JobResult.{JobResult}
use Rattle.lsm_msg.specs.Jobs.{IsJob}
use Rattle.lsm_msg.specs.Merge.{HoldsKept}
use Rattle.lsm_merge.specs.Outputs as merge
use Rattle.lsm_coord.specs.Contract.Installing.{HasOutputs, HoldsMergeOf, IsLive}
use Rattle.lsm_coord.specs.Contract.Memory.{IsFit}
use Rattle.lsm_coord.specs.Contract.Sound.{IsSound}
use Rattle.lsm_coord.specs.Contract.Value.{CoordValue}
use Rattle.lsm_coord.proofs.InstallOutcomes.{live_is}
use Rattle.lsm_coord.proofs.InstallSteps.{job_of_live}
use Rattle.lsm_store.specs.Compacting.{tables_at}
use Rattle.lsm_store.proofs.JobEntries.{input_entries, from_input, in_inputs}
use Rattle.lsm_store.proofs.MergedOutputs.{opened_as, opened_entries, opened_tables, outputs_are}

-- a merge of files of the version holds what is kept of them
pub holds_merge : (s : ServedValue) → IsVersion s.version → IsServed s → (job : JobParts) → ((f : FileMeta) → IsIn f job.inputs → IsIn f s.version.files) → (made : JobResult) → merge.IsMerge (tables_at s.places job.inputs) job made.tables → HoldsMergeOf s job made
holds_merge s ver is job own made m = record {
  inputs = input_entries s.places job.inputs;
  are = λ e. (λ n. from_input s ver is job.inputs own e n, λ p. in_inputs s ver is job.inputs own p.0 e p.1 p.2 p.3);
  tables = opened_as made.tables m.entries;
  opened = opened_tables job.block made.tables m.entries m.spelled;
  kept = subst (λ (lists : List (List Entry)). HoldsKept (input_entries s.places job.inputs) job.points job.deeper (all_entries lists)) (sym (opened_entries job.block made.tables m.entries m.spelled)) m.kept;
}

-- the inputs of a job have at most 16 GiB
inputs_bytes : (job : JobParts) → IsJob job → sum_by (λ f. f.bytes) job.inputs ≤ 2 ^ 34
inputs_bytes job is =
    let few = is.inputs.few in
    let all = sum_by-le (λ (f : FileMeta). f.bytes) 16777216 job.inputs (λ i d within. (is.inputs.each i d within).file.most_bytes) in
    omega (arith, few, all)

module _ (c : CoordValue) (fit : IsFit c) (job : JobParts) (is_job : IsJob job) (sound : IsSound c job) where
  -- the inputs are the version's files
  pub inputs_served : (f : FileMeta) → IsIn f job.inputs → IsIn f c.served.version.files
  inputs_served f m = ((sound.claimed.of_want.inputs f).0 m).0

  module _ (made : JobResult) (m : merge.IsMerge (tables_at c.served.places job.inputs) job made.tables) where
    pub made_of_inputs : HoldsMergeOf c.served job made
    made_of_inputs = holds_merge c.served fit.version fit.served job inputs_served made m

    -- the outputs may be those of its claim
    pub made_outputs : (live : LiveJob) → IsLive c job.id live → HasOutputs c.limits.block live.want.hull made.tables
    made_outputs live is_live =
        let found = live_is c job.id live is_live in
        let of_want = job_of_live c job.id live job fit.book is_live refl sound in
        (opened_as made.tables m.entries, outputs_are c.served fit.version fit.served live.want (fit.legal live found.0) job of_want.inputs made.tables m c.limits.block sound.block (inputs_bytes job is_job))
