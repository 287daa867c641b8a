use Rattle.lsm_key.specs.Visible.{lent_entry}
use Rattle.lsm_coord.proofs.SearchAnswers.{answered, has_value, searched_first, searched_second, searched_last}
use Rattle.lsm_coord.proofs.coord.Coord.value_of.Goals as goal

pub returns-in-Some-clause-ok : goal.returns-in-Some-clause-ok
returns-in-Some-clause-ok g c =
    answered _ c.args.point c.args.key.now _ c.copy_value.result (searched_first _ _ c.self.view_is c.args.point c.args.key.now c.requires (lent_entry c.in-Some.entry) c.in-Some.ensures) c.copy_value.ensures.ok

pub returns-in-Some-clause-refused : goal.returns-in-Some-clause-refused
returns-in-Some-clause-refused g c =
    has_value _ c.args.point c.args.key.now _ c.copy_value.result (searched_first _ _ c.self.view_is c.args.point c.args.key.now c.requires (lent_entry c.in-Some.entry) c.in-Some.ensures) c.copy_value.ensures.refused

pub returns-in-Some-frozen_entry-clause-ok : goal.returns-in-Some-frozen_entry-clause-ok
returns-in-Some-frozen_entry-clause-ok g c =
    answered _ c.args.point c.args.key.now _ c.copy_value-in-Some-frozen_entry.result (searched_second _ _ c.self.view_is c.args.point c.args.key.now c.requires (lent_entry c.in-Some-frozen_entry.entry) c.in-None.ensures c.in-Some-frozen_entry.ensures) c.copy_value-in-Some-frozen_entry.ensures.ok

pub returns-in-Some-frozen_entry-clause-refused : goal.returns-in-Some-frozen_entry-clause-refused
returns-in-Some-frozen_entry-clause-refused g c =
    has_value _ c.args.point c.args.key.now _ c.copy_value-in-Some-frozen_entry.result (searched_second _ _ c.self.view_is c.args.point c.args.key.now c.requires (lent_entry c.in-Some-frozen_entry.entry) c.in-None.ensures c.in-Some-frozen_entry.ensures) c.copy_value-in-Some-frozen_entry.ensures.refused

pub returns-in-None-frozen_entry-clause-ok : goal.returns-in-None-frozen_entry-clause-ok
returns-in-None-frozen_entry-clause-ok g c =
    answered _ c.args.point c.args.key.now _ c.value.result (searched_last _ _ c.self.view_is c.args.point c.args.key.now c.requires c.in-None.ensures c.in-None-frozen_entry.ensures) c.value.ensures.copied.0

pub returns-in-None-frozen_entry-clause-refused : goal.returns-in-None-frozen_entry-clause-refused
returns-in-None-frozen_entry-clause-refused g c =
    has_value _ c.args.point c.args.key.now _ c.value.result (searched_last _ _ c.self.view_is c.args.point c.args.key.now c.requires c.in-None.ensures c.in-None-frozen_entry.ensures) c.value.ensures.copied.1
