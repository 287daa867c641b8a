use Rattle.std.proofs.Common.{Option, IfSome, subst, sym}
use Rattle.std.specs.Option.{option_copied}
use Rattle.std.proofs.lemmas.Result.{err_from_is_err_and}
use Rattle.lsm_claim.specs.declared.job.Want.{Want}
use Rattle.lsm_coord.specs.declared.error.CoordError.TheVariants.{OutOfMemory}
use Rattle.lsm_coord.specs.Contract.Value.{CoordValue}
use Rattle.lsm_coord.specs.Contract.Sound.{KeepsSound}
use Rattle.lsm_coord.specs.Contract.Picking.{MayClaim, PickRefuses}
use Rattle.lsm_coord.proofs.PickedJobs.{claim_keeps, picked_sound}
use Rattle.lsm_coord.proofs.coord.Coord.pick_after.Goals as goal

pub job_of-requires : goal.job_of-requires
job_of-requires g c = (option_copied c.args.pointers, subst (λ (o : Option Want). IfSome o (MayClaim (option_copied c.args.pointers) c.args.self.now)) c.in-Some.is c.in_ok-want.ensures.some)

pub claim-requires : goal.claim-requires
claim-requires g c = (option_copied c.args.pointers, subst (λ (o : Option Want). IfSome o (MayClaim (option_copied c.args.pointers) c.args.self.now)) c.in-Some.is c.in_ok-want.ensures.some)

pub returns-in_err-job-clause-refused : goal.returns-in_err-job-clause-refused
returns-in_err-job-clause-refused g c =
    let p = err_from_is_err_and c.from_residual-in_err-job.result c.from_residual-in_err-job.ensures.1 in
    rw (p.1, p.2) (subst (λ (o : Option Want). IfSome o (λ want. PickRefuses c.args.self.now OutOfMemory)) c.in-Some.is c.in_ok-want.ensures.memory)

pub returns-in_err-claim-clause-refused : goal.returns-in_err-claim-clause-refused
returns-in_err-claim-clause-refused g c =
    let p = err_from_is_err_and c.from_residual-in_err-claim.result c.from_residual-in_err-claim.ensures.1 in
    rw (p.1, p.2) (subst (λ (o : Option Want). IfSome o (λ want. PickRefuses c.args.self.now OutOfMemory)) c.in-Some.is c.in_ok-want.ensures.memory)

pub returns-clause-ok : goal.returns-clause-ok
returns-clause-ok g c = record {
  want = c.in-Some.want;
  may = subst (λ (o : Option Want). IfSome o (MayClaim (option_copied c.args.pointers) c.args.self.now)) c.in-Some.is c.in_ok-want.ensures.some;
  claim_is = c.in_ok-claim.ensures.claim;
  job_is = c.in_ok-job.ensures.job;
  new_is = c.in_ok-claim.ensures.ok;
}

pub returns-clause-job : goal.returns-clause-job
returns-clause-job g c = picked_sound c.args.self.now _ c.in_ok-claim.claim c.in_ok-job.job c.in_ok-job.ensures.sound.0 c.in_ok-job.ensures.sound.1 (returns-clause-ok g c)

pub returns-clause-sound : goal.returns-clause-sound
returns-clause-sound g c = subst (λ (v : CoordValue). KeepsSound c.args.self.now v) (sym c.in_ok-claim.ensures.ok) (claim_keeps c.args.self.now c.in-Some.want)
