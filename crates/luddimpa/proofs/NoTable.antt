-- Bytes with a fault are no table.
use Rattle.std.proofs.Common.{◌≡◌, Result, Ok, Err, subst}
use Rattle.lsm_key.specs.Reading.{Fails}
use Rattle.lsm_key.specs.declared.refused.Refused.{Refused}
use Rattle.lsm_key.specs.declared.refused.Refused.TheVariants.{Fault}

module _ {A F : Type 0} where
  pub ok-err : (x : A) (fault : F) → (Ok x) ≡ (Err fault) → ⊥
  ok-err x fault e = absurd cc

  -- a refusal that is a fault is the fault of reading
  pub read_fault : (read : Result A F) (refused : Refused F) (fault : F) → refused ≡ Fault fault → Fails refused read → read ≡ Err fault
  read_fault read refused fault is h = subst (λ (r : Refused F). Fails r read) is h

  -- so nothing is read
  pub none_read : (x : A) (refused : Refused F) (fault : F) → refused ≡ Fault fault → Fails refused (Ok x) → ⊥
  none_read x refused fault is h = ok-err x fault (read_fault (Ok x) refused fault is h)
