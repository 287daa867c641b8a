-- the bytes so far, and what the rest of the word encodes
use Rattle.std.proofs.Common.{◌≡◌, ◌++◌, length}
use Rattle.std.specs.Option.{option_map}
use Rattle.lsm_line.specs.Tokens.{read_bytes}
use Rattle.lsm_line.proofs.token.read_token.Given as goal

abbrev pub invariant-loop-rest : goal.invariant-loop-rest
invariant-loop-rest l = read_bytes l.initial.rest ≡ option_map (λ bs. l.bytes.items ++ bs) (read_bytes l.rest)

abbrev pub decreases-loop-rest : goal.decreases-loop-rest
decreases-loop-rest l = length l.rest
