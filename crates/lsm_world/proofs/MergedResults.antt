-- A result that was sent for a live job: it holds what a merge keeps of the inputs as they are served, and may be installed.
use Rattle.std.proofs.Common.{◌≡◌, List, true, sym, subst}
use Rattle.lsm_key.specs.Sets.{IsIn}
use Rattle.lsm_claim.specs.declared.job.JobId.{JobId}
use Rattle.lsm_claim.specs.declared.job.LiveJob.{LiveJob}
use Rattle.lsm_claim.specs.Book.{holds}
use Rattle.lsm_table.specs.Tables.{Opened}
use Rattle.lsm_edit.specs.declared.file.FileMeta.{FileMeta}
use Rattle.lsm_edit.specs.declared.served.Placed.{Placed}
use Rattle.lsm_edit.proofs.ServedPlaces.{place_of}
use Rattle.lsm_msg.specs.declared.job.JobParts.{JobParts}
use Rattle.lsm_msg.specs.declared.job.JobResult.{JobResult}
use Rattle.lsm_msg.specs.declared.message.Body.TheVariants as body
use Rattle.lsm_msg.specs.Jobs.{IsJob}
use Rattle.lsm_merge.specs.Outputs.{IsMerge}
use Rattle.lsm_coord.specs.Contract.Installing.{HasOutputs, HoldsSoundMerge, IsLive}
use Rattle.lsm_coord.specs.Contract.Memory.{IsFit}
use Rattle.lsm_coord.specs.Contract.Sound.{IsSound}
use Rattle.lsm_coord.specs.Contract.Value.{CoordValue}
use Rattle.lsm_store.specs.Compacting.{tables_at}
use Rattle.lsm_store.proofs.ServedTables.{tables_among}
use Rattle.lsm_store.proofs.SoundJobs.{inputs_served, made_of_inputs, made_outputs}
use Rattle.lsm_world.specs.History.{AreFiles, History, IsHistory, IsKnown}
use Rattle.lsm_world.specs.Nodes.{NodesValue}

-- the tables of files that are served are those of the history
pub tables_agree : (h : History) (c : CoordValue) → AreFiles h c → (inputs : List FileMeta) → ((f : FileMeta) → IsIn f inputs → (p : Placed) × IsIn p c.served.places × (p.meta ≡ f)) → tables_at h.files inputs ≡ tables_at c.served.places inputs
tables_agree h c files inputs all = tables_among c.served.places h.files files.all.one files.served inputs all

module _ (h : History) (n : NodesValue) (is : IsHistory h n) (fit : IsFit n.core) (made : JobResult) (known : IsKnown h (body.Result made)) (held : holds n.core.book made.job ≡ true) where
  abbrev job : JobParts
  job = known.0

  is_job : IsJob job
  is_job = is.jobs.all.job job known.1

  sound : IsSound n.core job
  sound = is.jobs.sound job known.1 (subst (λ (id : JobId). holds n.core.book id ≡ true) known.2 held)

  at_place : (f : FileMeta) → IsIn f job.inputs → (p : Placed) × IsIn p n.core.served.places × (p.meta ≡ f)
  at_place f m = let p = place_of n.core.served fit.version fit.served f (inputs_served n.core fit job is_job sound f m) in (p.0, p.1, sym p.2)

  merged : IsMerge (tables_at n.core.served.places job.inputs) job made.tables
  merged = subst (λ (ts : List Opened). IsMerge ts job made.tables) (tables_agree h n.core is.files job.inputs at_place) known.3

  -- A RESULT THAT WAS SENT HOLDS WHAT A MERGE KEEPS, while its job's claim is live.
  pub result_holds : HoldsSoundMerge n.core made.job made
  result_holds = (job, sym known.2, sound, made_of_inputs n.core fit job is_job sound made merged)

  -- and it may be installed for that claim
  pub result_fits : (live : LiveJob) → IsLive n.core made.job live → HasOutputs n.core.limits.block live.want.hull made.tables
  result_fits live is_live = made_outputs n.core fit job is_job sound made merged live (subst (λ (id : JobId). IsLive n.core id live) known.2 is_live)
