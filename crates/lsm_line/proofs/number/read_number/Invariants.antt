-- the value so far and the digits that are left
use Rattle.std.proofs.Common.{◌≡◌, ◌<◌, ◌^◌, drop}
use Rattle.std.specs.Str.{all_ascii_digits}
use Rattle.lsm_line.specs.Numbers.{value_after}
use Rattle.lsm_line.proofs.number.read_number.Given as goal

abbrev pub invariant-loop-byte : goal.invariant-loop-byte
invariant-loop-byte l = record {
  value : value_after 0 l.word ≡ value_after l.value (drop l.byte-index l.word);
  digits : all_ascii_digits l.word ≡ all_ascii_digits (drop l.byte-index l.word);
  fits : l.value < 2 ^ 64;
}
