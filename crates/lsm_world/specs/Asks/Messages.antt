-- What nodes send: the network has the bytes of each message, under its number (the store's own: the network is a model).
use Rattle.std.specs.Prelude.{◌≡◌, ℕ, ◌+◌, List, [], ◌∷◌, ◌++◌, Option, None, length, nat_eq, if◌then◌else◌}
use Rattle.lsm_msg.specs.declared.message.Message.{Message}
use Rattle.lsm_msg.specs.Messages.{IsSpelled}
use Rattle.lsm_world.specs.declared.reply.Sent.{Sent}
use Rattle.lsm_world.specs.declared.reply.Sent.TheVariants as sent
use Rattle.lsm_world.specs.Nodes.{at_index}

-- the bytes of the message of this number; numbers count from 1
abbrev pub stored_message : List (List ℕ) → ℕ → Option (List ℕ)
stored_message messages number = if nat_eq number 0 then None else at_index messages number

-- one by one, each text is the bytes of a message
abbrev pub AreSpelled : List (List ℕ) → List Message → Type 0
AreSpelled [] [] = Unit {0}
AreSpelled (bytes ∷ texts) (m ∷ ms) = IsSpelled bytes m × AreSpelled texts ms
AreSpelled [] (m ∷ ms) = ⊥
AreSpelled (bytes ∷ texts) [] = ⊥

-- Messages are sent, and `told` is what the reply says of it. None are to be sent: `Nothing`. Or all are lost together, and use no number. Or
-- all are stored, under the next numbers: those from `first` to `last`.
abbrev pub Sends : List (List ℕ) → List Message → Sent → List (List ℕ) → Type 0
Sends old [] told new = (told ≡ sent.Nothing) × (new ≡ old)
Sends old (m ∷ ms) sent.Nothing new = ⊥
Sends old (m ∷ ms) sent.Lost new = new ≡ old
Sends old (m ∷ ms) (sent.Messages first last) new =
    (texts : List (List ℕ)) × AreSpelled texts (m ∷ ms) × (new ≡ old ++ texts) × (first ≡ length old + 1) × (last ≡ length new)
