-- Which messages a line delivers: one, or those of a range of numbers in turn (the store's own).
use Rattle.std.specs.Prelude.{ℕ, zero, suc, ◌+◌, ◌-◌, ◌==◌, ◌&&◌, Bool, List, [], ◌∷◌, ◌++◌, Option, None, Some, Result, Ok, Err, nat_le, nat_lt, take, drop, position, if◌then◌else◌}
use Rattle.lsm_coord.specs.Model.Event as say
use Rattle.lsm_line.specs.declared.fault.Reason.{Reason}
use Rattle.lsm_line.specs.declared.fault.Reason.TheVariants.{WrongWordCount, BadNumber}
use Rattle.lsm_script.specs.declared.deliver.TheConstants.{MAX_DELIVERIES}
use Rattle.lsm_line.specs.Numbers.{number}

-- a dash
abbrev pub is_dash : ℕ → Bool
is_dash byte = byte == 45

-- the numbers from the first to the last, not too many: the first, and how many follow it
abbrev pub range_between : Option ℕ → Option ℕ → Option (ℕ × ℕ)
range_between (Some first) (Some last) = if nat_le first last && nat_lt (last - first) MAX_DELIVERIES then Some (first, last - first) else None
range_between first last = None

-- a number, or the numbers before and after the index of a dash
abbrev pub range_around : List ℕ → Option ℕ → Option (ℕ × ℕ)
range_around word None = range_between (number word) (number word)
range_around word (Some dash) = range_between (number (take dash word)) (number (drop (dash + 1) word))

-- the range of numbers that a word spells: the first, and how many follow it
abbrev pub read_range : List ℕ → Option (ℕ × ℕ)
read_range word = range_around word (position is_dash word)

-- the deliveries of this many messages, from the first number on
abbrev pub deliveries : ℕ → ℕ → List say.Event
deliveries first zero = []
deliveries first (suc count) = deliveries first count ++ say.Deliver (first + count) ∷ []

-- each message of a range is delivered in turn
abbrev pub deliver : List (List ℕ) → Result (List say.Event) Reason
deliver (word ∷ []) = elim (read_range word) [ None ↦ Err BadNumber | Some range ↦ Ok (deliveries range.0 (range.1 + 1)) ]
deliver args = Err WrongWordCount
