-- The refusals of a write, a freeze, a flush, a pick and an install that a schedule can meet.
use Rattle.std.proofs.Common.{◌≡◌, ◌⊎◌, ℕ, ◌+◌, Bool, true, false, cond, List, None, Some, subst, sym, ◌∙◌, inl, inr}
use Rattle.std.specs.Prelude.{length, is_none, is_some, nat_eq, nat_le, nat_lt, sum_by, ◌&&◌, ◌||◌}
use Rattle.lsm_key.specs.declared.limits.TheConstants.{MAX_MEMTABLE_WEIGHT, MAX_NUMBER}
use Rattle.lsm_key.specs.declared.op.Op.{Op}
use Rattle.lsm_key.specs.declared.seq.TheConstants.Seq as seq
use Rattle.lsm_key.specs.Limits.{entry_weight, total_weight}
use Rattle.lsm_claim.specs.declared.job.LiveJob.{LiveJob}
use Rattle.lsm_msg.specs.declared.job.JobResult.{JobResult}
use Rattle.lsm_coord.specs.declared.coord.install.InstallError.{InstallError}
use Rattle.lsm_coord.specs.declared.coord.install.InstallError.TheVariants as kept
use Rattle.lsm_coord.specs.declared.error.CoordError.{CoordError}
use Rattle.lsm_coord.specs.declared.error.CoordError.TheVariants as error
use Rattle.lsm_coord.specs.Contract.Calls.{AppendRefuses, FlushRefuses, TrimRefuses, flush_fault, freeze_fault, trim_fault, write_fault}
use Rattle.lsm_coord.specs.Contract.Installing.{HasOutputs, IsLive, Rejects}
use Rattle.lsm_coord.specs.Contract.Picking.{PickRefuses}
use Rattle.lsm_coord.specs.Contract.Replies.{error_of}
use Rattle.lsm_coord.specs.Contract.Value.{CoordValue}
use Rattle.lsm_coord.proofs.InstallOutcomes.{live_is}
use Rattle.lsm_world.specs.declared.refusal.Refusal.TheVariants as why
use Rattle.lsm_world.specs.declared.reply.Reply.TheVariants as reply
use Rattle.lsm_world.specs.Schedules.{IsPlain}

-- no reason is left
none_left : (e : CoordError) → None ≡ Some e → ⊥
none_left e is = cc

-- the first reason that holds is one of them
pub one_reason : (s : Bool) (a e : CoordError) → cond s (Some a) None ≡ Some e → a ≡ e
one_reason true a e is = cc
one_reason false a e is = absurd (none_left e is)

pub two_reasons : (s t : Bool) (a b e : CoordError) → cond s (Some a) (cond t (Some b) None) ≡ Some e → (a ≡ e) ⊎ (b ≡ e)
two_reasons true t a b e is = inl cc
two_reasons false t a b e is = inr (one_reason t b e is)

three_reasons : (s t u : Bool) (a b c e : CoordError) → cond s (Some a) (cond t (Some b) (cond u (Some c) None)) ≡ Some e → (a ≡ e) ⊎ ((b ≡ e) ⊎ (c ≡ e))
three_reasons true t u a b c e is = inl cc
three_reasons false t u a b c e is = inr (two_reasons t u b c e is)

-- ---- a write and a freeze

write_reasons : (c : CoordValue) (ops : List Op) (e : CoordError) → write_fault c ops ≡ Some e → (error.EmptyBatch ≡ e) ⊎ ((error.SequenceExhausted ≡ e) ⊎ (error.MemtableFull ≡ e))
write_reasons c ops e is =
    three_reasons (nat_eq (length ops) 0) (nat_lt seq.MAX (c.last + length ops)) (nat_lt MAX_MEMTABLE_WEIGHT (sum_by entry_weight c.active + total_weight ops)) error.EmptyBatch error.SequenceExhausted error.MemtableFull e is

write_reasons_plain : (e : CoordError) → (error.EmptyBatch ≡ e) ⊎ ((error.SequenceExhausted ≡ e) ⊎ (error.MemtableFull ≡ e)) → IsPlain (reply.Refused (why.Coord e))
write_reasons_plain e (inl empty) = subst (λ (x : CoordError). IsPlain (reply.Refused (why.Coord x))) empty tt
write_reasons_plain e (inr (inl exhausted)) = subst (λ (x : CoordError). IsPlain (reply.Refused (why.Coord x))) exhausted tt
write_reasons_plain e (inr (inr full)) = subst (λ (x : CoordError). IsPlain (reply.Refused (why.Coord x))) full tt

pub write_plain : (c new : CoordValue) (ops : List Op) (e : CoordError) → AppendRefuses (write_fault c ops) c e new → IsPlain (reply.Refused (why.Coord e))
write_plain c new ops error.OutOfMemory is = tt
write_plain c new ops error.Device is = tt
write_plain c new ops e is = write_reasons_plain e (write_reasons c ops e is.0)

freeze_reasons : (c : CoordValue) (e : CoordError) → freeze_fault c ≡ Some e → (error.FrozenWaiting ≡ e) ⊎ (error.NothingToFreeze ≡ e)
freeze_reasons c e is = two_reasons (is_some c.frozen) (nat_eq (length c.active) 0) error.FrozenWaiting error.NothingToFreeze e is

freeze_reasons_plain : (e : CoordError) → (error.FrozenWaiting ≡ e) ⊎ (error.NothingToFreeze ≡ e) → IsPlain (reply.Refused (why.Coord e))
freeze_reasons_plain e (inl waiting) = subst (λ (x : CoordError). IsPlain (reply.Refused (why.Coord x))) waiting tt
freeze_reasons_plain e (inr nothing) = subst (λ (x : CoordError). IsPlain (reply.Refused (why.Coord x))) nothing tt

pub freeze_plain : (c new : CoordValue) (e : CoordError) → AppendRefuses (freeze_fault c) c e new → IsPlain (reply.Refused (why.Coord e))
freeze_plain c new error.OutOfMemory is = tt
freeze_plain c new error.Device is = tt
freeze_plain c new e is = freeze_reasons_plain e (freeze_reasons c e is.0)

-- ---- a flush

flush_reasons : (c : CoordValue) (e : CoordError) → flush_fault c ≡ Some e → (error.NothingToFlush ≡ e) ⊎ (error.NumbersExhausted ≡ e)
flush_reasons c e is =
    two_reasons (is_none c.frozen && nat_eq (length c.active) 0) (nat_le MAX_NUMBER c.served.version.number || nat_le MAX_NUMBER c.served.version.next_file) error.NothingToFlush error.NumbersExhausted e is

reasons_plain : (e : CoordError) → (error.NothingToFlush ≡ e) ⊎ (error.NumbersExhausted ≡ e) → IsPlain (reply.Refused (why.Coord e))
reasons_plain e (inl nothing) = subst (λ (x : CoordError). IsPlain (reply.Refused (why.Coord x))) nothing tt
reasons_plain e (inr numbers) = subst (λ (x : CoordError). IsPlain (reply.Refused (why.Coord x))) numbers tt

pub flush_plain : (c new : CoordValue) (e : CoordError) → FlushRefuses c e new → IsPlain (reply.Refused (why.Coord e))
flush_plain c new error.OutOfMemory is = tt
flush_plain c new error.Device is = tt
flush_plain c new e is = reasons_plain e (flush_reasons c e is.0)

-- ---- a trim

trim_reason : (c : CoordValue) (n : ℕ) (e : CoordError) → trim_fault c n ≡ Some e → error.BadFloor ≡ e
trim_reason c n e is = one_reason (nat_lt c.served.version.number n) error.BadFloor e is

pub trim_plain : (c new : CoordValue) (n : ℕ) (e : CoordError) → TrimRefuses c n e new → IsPlain (reply.Refused (why.Coord e))
trim_plain c new n error.OutOfMemory is = tt
trim_plain c new n error.Device is = tt
trim_plain c new n e is = subst (λ (x : CoordError). IsPlain (reply.Refused (why.Coord x))) (trim_reason c n e is.0) tt

-- ---- a pick and an install

pub pick_plain : (c : CoordValue) (e : CoordError) → PickRefuses c e → IsPlain (reply.Refused (why.Coord e))
pick_plain c error.BookFull refuses = tt
pick_plain c error.TooWide refuses = tt
pick_plain c error.NumbersExhausted refuses = tt
pick_plain c error.OutOfMemory refuses = tt
pick_plain c e refuses = absurd refuses

-- A result of the claim's own job, whose texts are tables that the job may have as outputs, is refused for want of numbers or
-- memory, or since the device failed.
pub kept_plain : (c : CoordValue) (claim live : LiveJob) (made : JobResult) (e : InstallError) → IsLive c claim.id live → claim.id ≡ made.job → HasOutputs c.limits.block live.want.hull made.tables → Rejects c.limits.block c.served.version live made e → IsPlain (reply.Refused (why.Coord (error_of e)))
kept_plain c claim live made kept.WrongJob found same outputs rejects = absurd (rejects (sym same ∙ sym (live_is c claim.id live found).1))
kept_plain c claim live made kept.BadResult found same outputs rejects = absurd (rejects.1 outputs)
kept_plain c claim live made kept.NumbersExhausted found same outputs rejects = tt
kept_plain c claim live made kept.OutOfMemory found same outputs rejects = tt
kept_plain c claim live made kept.Device found same outputs rejects = tt
