-- How the operations of a batch grow by one.
use Rattle.std.proofs.Common.{◌≡◌, ℕ, List, [], ◌∷◌, ◌++◌, Result, Ok, Err, refl, sym, ap, ◌∙◌, append_assoc, append-nil}
use Rattle.lsm_key.specs.declared.op.Op.{Op}
use Rattle.lsm_key.specs.declared.refused.Refused.{Refused}
use Rattle.lsm_key.specs.declared.refused.Refused.TheVariants as refused
use Rattle.lsm_key.specs.Reading.{◌>>=◌, Fails}
use Rattle.lsm_line.specs.declared.fault.Reason.{Reason}
use Rattle.lsm_coord.specs.Model.Event as say
use Rattle.lsm_line.specs.Commands.{with_first, operations, batch}

abbrev pub good : {A F : Type 0} → List A → Result (List A) F
good items = Ok items

-- what is done, before the rest
abbrev pub after : {A F : Type 0} → List A → Result (List A) F → Result (List A) F
after done rest = rest >>= λ items. Ok (done ++ items)

pub after_none : {A F : Type 0} (rest : Result (List A) F) → after [] rest ≡ rest
after_none (Ok items) = refl
after_none (Err fault) = refl

pub after_after : {A F : Type 0} (done : List A) (one : List A) (rest : Result (List A) F) → after done (after one rest) ≡ after (done ++ one) rest
after_after done one (Ok items) = ap good (sym (append_assoc done one items))
after_after done one (Err fault) = refl

-- an operation is read, and goes to the end of those that are done
pub one_operation : (done : List Op) (op : Op) (all rest : Result (List Op) Reason) → all ≡ with_first op rest → after done all ≡ after (done ++ op ∷ []) rest
one_operation done op all rest is = ap (after done) is ∙ after_after done (op ∷ []) rest

-- the fault of the operations that are left is that of the batch
pub batch_fails : (args left : List (List ℕ)) (done : List Op) (e : Refused Reason) → operations args ≡ after done (operations left) → Fails e (operations left) → Fails e (batch args)
batch_fails args left done refused.OutOfMemory so fails = tt
batch_fails args left done (refused.Fault reason) so fails = rw (so, fails) refl

-- with no words left the operations are those that are done
pub batch_ends : (args left : List (List ℕ)) (done : List Op) → operations args ≡ after done (operations left) → left ≡ [] → batch args ≡ Ok (say.Write done)
unfolding operations
batch_ends args left done so none = rw (so, none, append-nil) refl
