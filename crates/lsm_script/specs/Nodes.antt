-- How scripts name nodes: by an index, from 1, or by a letter and an index (the store's own).
use Rattle.std.specs.Prelude.{ℕ, ◌==◌, ◌&&◌, List, [], ◌∷◌, Option, None, Some, Result, Ok, Err, nat_le, if◌then◌else◌}
use Rattle.lsm_key.specs.declared.limits.TheConstants.{MAX_NODES}
use Rattle.lsm_line.specs.declared.fault.Reason.{Reason}
use Rattle.lsm_line.specs.declared.fault.Reason.TheVariants.{BadNumber}
use Rattle.lsm_line.specs.Numbers.{number}

-- the index of a dispatcher, a worker or a follower
abbrev pub index_of : Option ℕ → Option ℕ
index_of None = None
index_of (Some n) = if nat_le 1 n && nat_le n MAX_NODES then Some n else None

-- the name of a node: this letter, and which one it is
abbrev pub node_index : ℕ → List ℕ → Option ℕ
node_index letter [] = None
node_index letter (byte ∷ digits) = if byte == letter then index_of (number digits) else None

-- the index of a worker, whose name begins with w
abbrev pub worker_index : List ℕ → Option ℕ
worker_index word = node_index 119 word

-- the index of a follower, whose name begins with f
abbrev pub follower_index : List ℕ → Option ℕ
follower_index word = node_index 102 word

-- a word that must be an index
abbrev pub index_or_fault : Option ℕ → Result ℕ Reason
index_or_fault None = Err BadNumber
index_or_fault (Some index) = Ok index
