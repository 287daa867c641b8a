use Rattle.std.proofs.Common.{length, arith, ap}
use Rattle.std.proofs.lemmas.List.{drop_all}
use Rattle.lsm_table.proofs.headroom.WithHeadroom.make_room.Goals as goal

pub returns : goal.returns
returns c = record { items = drop_all c.args.room c.advance_mut.new.self.items (omega (arith, c.advance_mut.ensures.len, ap length c.reserve.ensures.items, ap length c.clear.ensures.items)) }
