-- What comes through a port and goes through it, one message after another (the store's own).
use Rattle.std.specs.Prelude.{◌≡◌, List, [], ◌∷◌, ◌++◌, Option, None, Some}
use Rattle.lsm_msg.specs.declared.message.Message.{Message}

-- messages that are known have gained these at their end
abbrev pub GainsMessages : Option (List Message) → Option (List Message) → List Message → Type 0
GainsMessages None new more = Unit {0}
GainsMessages (Some xs) None more = ⊥
GainsMessages (Some xs) (Some ys) more = ys ≡ xs ++ more

-- What passes a port. These messages came, if what had come and has come is known; and those went, if what had gone and has gone is
pub record Traffic (was has held holds : Option (List Message)) (came went : List Message) : Type 0 where
  pub brought : GainsMessages was has came
  pub taken : GainsMessages held holds went

-- the first messages of a list, and not all of it
abbrev pub IsBegun : List Message → List Message → Type 0
IsBegun went all = (next : Message) × (rest : List Message) × (all ≡ went ++ next ∷ rest)

-- nothing came, and the first of these messages went, not all of them
pub record SendsPart (was has held holds : Option (List Message)) (all : List Message) : Type 0 where
  pub went : List Message
  pub begun : IsBegun went all
  pub passes : Traffic was has held holds [] went
