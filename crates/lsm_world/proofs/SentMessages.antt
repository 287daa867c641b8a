-- Messages with their encodings, one by one.
use Rattle.std.proofs.Common.{◌≡◌, ℕ, Bool, true, false, List, [], ◌∷◌, ◌++◌, Ok, Err, ◌≤◌, refl, sym, subst, cond}
use Rattle.std.specs.Bool.{nat_lt}
use Rattle.std.specs.Prelude.{length}
use Rattle.std.proofs.lemmas.Bool.{ltb-false}
use Rattle.lsm_key.proofs.FieldLaws.{ok_is}
use Rattle.lsm_msg.specs.declared.fault.MsgFault.{MsgFault}
use Rattle.lsm_msg.specs.declared.fault.MsgFault.TheVariants.{TooLarge}
use Rattle.lsm_msg.specs.declared.message.Message.{Message}
use Rattle.lsm_msg.specs.declared.message.TheConstants.{MAX_MESSAGE_BYTES}
use Rattle.lsm_msg.specs.Messages.{IsMessage, IsSpelled, encoding, message}
use Rattle.lsm_world.specs.Asks.Messages.{AreSpelled}

pub none_spelled : AreSpelled [] []
none_spelled = tt

pub one_more_spelled : (texts : List (List ℕ)) (ms : List Message) (text : List ℕ) (m : Message) → AreSpelled texts ms → IsSpelled text m → AreSpelled (texts ++ text ∷ []) (ms ++ m ∷ [])
one_more_spelled [] [] text m all one = (one, tt)
one_more_spelled (t ∷ texts) (n ∷ ms) text m all one = (all.0, one_more_spelled texts ms text m all.1 one)
one_more_spelled [] (n ∷ ms) text m all one = absurd all
one_more_spelled (t ∷ texts) [] text m all one = absurd all

-- what is encoded is spelled
pub encoded : (m : Message) (text : List ℕ) → IsMessage m → encoding m ≡ Ok text → IsSpelled text m
encoded m text sound is = by (nat_lt MAX_MESSAGE_BYTES (length (message m))) refl is
  where
    by : (b : Bool) → nat_lt MAX_MESSAGE_BYTES (length (message m)) ≡ b → cond b (Err TooLarge) (Ok (message m)) ≡ Ok text → IsSpelled text m
    by true large e = absurd cc
    by false large e =
        let same : message m ≡ text = ok_is {F = MsgFault} (message m) text e in
        record { sound = sound; small = subst (λ (t : List ℕ). length t ≤ MAX_MESSAGE_BYTES) same (ltb-false MAX_MESSAGE_BYTES (length (message m)) large); spelled = sym same }
