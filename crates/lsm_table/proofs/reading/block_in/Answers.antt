use Rattle.std.proofs.Common.{◌∙◌, ◌-◌, ℕ, length, drop, ap, arith}
use Rattle.std.proofs.lemmas.List.{take_rest}
use Rattle.lsm_table.proofs.ReadingLoops.{region_is}
use Rattle.lsm_table.proofs.TableFields.{header_ranges, header_takes}
use Rattle.lsm_table.proofs.reading.block_in.Goals as goal

pub overflow_sub-len : goal.overflow_sub-len
overflow_sub-len c =
    let rest = c.read_header.new.rest in
    let takes = header_takes c.args.bytes (c.in_ok-header.header, rest) c.know_bytes.ensures c.in_ok-header.ensures in
    let is = region_is c.key_limit-max_key.result _ 0 rest c.as_slice.result.now c.in-Ok.sum.total c.in-Ok.sum.rest.now takes.rest_fits c.as_slice.ensures c.in-Ok.ensures in
    omega (arith, is.0, c.len-2.ensures.value)

pub read_contents-requires-clause-region : goal.read_contents-requires-clause-region
read_contents-requires-clause-region c =
    let rest = c.read_header.new.rest in
    let takes = header_takes c.args.bytes (c.in_ok-header.header, rest) c.know_bytes.ensures c.in_ok-header.ensures in
    let is = region_is c.key_limit-max_key.result _ 0 rest c.as_slice.result.now c.in-Ok.sum.total c.in-Ok.sum.rest.now takes.rest_fits c.as_slice.ensures c.in-Ok.ensures in
    c.in_ok-region.ensures.ok ∙ take_rest rest (c.len-2.result - length c.in-Ok.sum.rest.now) ∙ ap (λ (n : ℕ). drop (n - length c.in-Ok.sum.rest.now) rest) c.len-2.ensures.value ∙ is.1

pub read_contents-requires-clause-some : goal.read_contents-requires-clause-some
read_contents-requires-clause-some c = (header_ranges c.args.bytes (c.in_ok-header.header, c.read_header.new.rest) c.know_bytes.ensures c.in_ok-header.ensures).1
