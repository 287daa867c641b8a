-- How a round ends, by what it counts.
use Rattle.std.proofs.Common.{◌≡◌, ℕ, ◌+◌, Option, None, Result, Ok, Err, sym, ap, subst, ◌∙◌, inl, inr, arith}
use Rattle.lsm_claim.specs.declared.ending.Settled.{Settled}
use Rattle.lsm_claim.specs.declared.ending.Settled.TheVariants.{Live, Stale}
use Rattle.lsm_claim.specs.declared.job.LiveJob.{LiveJob}
use Rattle.lsm_msg.specs.declared.job.JobParts.{JobParts}
use Rattle.lsm_coord.specs.declared.answer.Answer.{Answer}
use Rattle.lsm_coord.specs.declared.answer.Answer.TheVariants as answer
use Rattle.lsm_coord.specs.declared.call.Call.{Call}
use Rattle.lsm_coord.specs.declared.call.Call.TheVariants as call
use Rattle.lsm_coord.specs.declared.error.CoordError.{CoordError}
use Rattle.lsm_coord.specs.declared.error.CoordError.TheVariants.{OutOfMemory}
use Rattle.lsm_nodes.specs.declared.rounds.RoundEnd.TheVariants as end
use Rattle.lsm_nodes.specs.declared.shared.tally.Record.{Record}
use Rattle.lsm_nodes.specs.Answers.{picked_answer}
use Rattle.lsm_nodes.specs.Tallies.{EndsRound, MayRecord, TallyValue, after_record, exchange_of, installs_by, record_at, with_return}

-- so many claims were counted, and so many of these as installed
pub record Counts (t u : TallyValue) (claims installs : ℕ) : Type 0 where
  pub picked : u.picked ≡ t.picked + claims
  pub installed : u.installed ≡ t.installed + installs

counts_record : (t u : TallyValue) (r : Record) (count : ℕ) → installs_by r.exchange.answer ≡ count → u ≡ after_record t r → Counts t u count count
counts_record t u r count by is = record {
  picked = ap (λ (x : TallyValue). x.picked) is ∙ ap (λ (n : ℕ). t.picked + n) by;
  installed = ap (λ (x : TallyValue). x.installed) is ∙ ap (λ (n : ℕ). t.installed + n) by;
}

-- a call that is no install which was done
pub counts_none : (t u : TallyValue) (asked : Call) (answered : Answer) (missed : Type 0) → installs_by answered ≡ 0 → MayRecord missed t u (exchange_of asked answered) → Counts t u 0 0
counts_none t u asked answered missed none (inl m) =
    let picked = ap (λ (x : TallyValue). x.picked) m.1 in
    let installed = ap (λ (x : TallyValue). x.installed) m.1 in
    record { picked = omega (arith, picked); installed = omega (arith, installed) }
counts_none t u asked answered missed none (inr r) = counts_record t u (record_at r.0 (exchange_of asked answered)) 0 none r.1

-- an install that was done
pub counts_install : (t u : TallyValue) (asked : Call) (answered : Answer) (missed : Type 0) → (missed → ⊥) → installs_by answered ≡ 1 → MayRecord missed t u (exchange_of asked answered) → Counts t u 1 1
counts_install t u asked answered missed never one (inl m) = absurd (never m.0)
counts_install t u asked answered missed never one (inr r) = counts_record t u (record_at r.0 (exchange_of asked answered)) 1 one r.1

-- a claim that is given back
pub counts_return : (t u : TallyValue) (settled : Settled) → u ≡ with_return t settled → Counts t u 1 0
counts_return t u Live is = let same = ap (λ (x : TallyValue). x.installed) is in record { picked = ap (λ (x : TallyValue). x.picked) is; installed = omega (arith, same) }
counts_return t u Stale is = let same = ap (λ (x : TallyValue). x.installed) is in record { picked = ap (λ (x : TallyValue). x.picked) is; installed = omega (arith, same) }

-- ---- how a round ends

pub ends_installed : (t u v : TallyValue) → Counts t u 0 0 → Counts u v 1 1 → EndsRound t v end.Installed
ends_installed t u v a b = (omega (arith, a.picked, b.picked), omega (arith, a.installed, b.installed))

pub ends_settled : (t u v w : TallyValue) → Counts t u 0 0 → Counts u v 0 0 → Counts v w 1 0 → EndsRound t w end.NotInstalled
ends_settled t u v w a b c = (omega (arith, a.picked, b.picked, c.picked), omega (arith, a.installed, b.installed, c.installed))

pub ends_idle : (t u : TallyValue) (given : Option (LiveJob × JobParts)) → given ≡ None → MayRecord (Ok given ≡ Err OutOfMemory) t u (exchange_of call.Pick (picked_answer given)) → EndsRound t u end.Idle
ends_idle t u given is (inl m) = absurd (cc (m.0))
ends_idle t u given is (inr r) = (r.0, subst (λ (x : Option (LiveJob × JobParts)). u ≡ after_record t (record_at r.0 (exchange_of call.Pick (picked_answer x)))) is r.1)

abbrev fault_of : Result (Option (LiveJob × JobParts)) CoordError → CoordError
fault_of (Ok given) = OutOfMemory
fault_of (Err why) = why

pub ends_refused : (t u : TallyValue) (why : CoordError) (r : Result (Option (LiveJob × JobParts)) CoordError) → r ≡ Err why → MayRecord (r ≡ Err OutOfMemory) t u (exchange_of call.Pick (answer.Refused why)) → EndsRound t u (end.Refused why)
ends_refused t u why r is (inl m) = inl (sym (ap fault_of is) ∙ ap fault_of m.0, m.1)
ends_refused t u why r is (inr x) = inr x
