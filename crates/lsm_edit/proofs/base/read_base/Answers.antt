use Rattle.std.proofs.Common.{◌≡◌, arith, ◌-◌, ◌^◌, Ok, refl}
use Rattle.std.specs.Int.{w64}
use Rattle.lsm_key.specs.declared.limits.TheConstants.{MAX_NUMBER}
use Rattle.lsm_key.proofs.FieldLaws.{within_range}
use Rattle.lsm_edit.specs.Base.{base_at}
use Rattle.lsm_edit.specs.Version.{VersionValue}
use Rattle.lsm_edit.proofs.BaseLaws.{base_reads}
use Rattle.lsm_edit.proofs.base.read_base.Goals as goal

pub read_listed-requires : goal.read_listed-requires
read_listed-requires g c = within_range c.args.short c.args.bad w64 1 MAX_NUMBER c.read_ranged_u64-3.new.rest (c.in_ok-next_file.next_file, c.read_ranged_u64-4.new.rest) c.in_ok-next_file.ensures

pub new-requires : goal.new-requires
new-requires g c = let r = within_range c.args.short c.args.bad w64 0 (2 ^ 56 - 1) c.read_ranged_u64.new.rest (c.in_ok-flushed.flushed, c.read_ranged_u64-2.new.rest) c.in_ok-flushed.ensures in omega (arith, r.1)

pub from_parts-requires : goal.from_parts-requires
unfolding base_at
from_parts-requires g c =
    let made : VersionValue = record { number = c.in_ok-number.number; flushed = c.new.result; epoch = c.in_ok-epoch.epoch; next_file = c.in_ok-next_file.next_file; files = c.in_ok-files.files.items } in
    let read : base_at c.args.max_key c.args.short c.args.bad c.args.rest.now ≡ Ok (made, c.read_listed.new.rest) = rw (c.in_ok-number.ensures, c.in_ok-flushed.ensures, c.in_ok-epoch.ensures, c.in_ok-next_file.ensures, c.in_ok-files.ensures, c.new.ensures) refl in
    ((base_reads c.args.short c.args.bad c.args.max_key c.requires).takes c.args.rest.now (made, c.read_listed.new.rest) c.know_bytes.ensures read).1.0.0.version
