-- what is written, and what is left to write
use Rattle.std.proofs.Common.{◌≡◌, ◌++◌, drop, map}
use Rattle.lsm_serve.specs.Serving.{error_text, in_line}
use Rattle.lsm_serve.proofs.serving.error_line.Given as goal

abbrev pub invariant-loop-byte : goal.invariant-loop-byte
invariant-loop-byte l = l.line.items ++ map in_line (drop l.byte-index l.text) ≡ error_text l.text
