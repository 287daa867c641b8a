use Rattle.lsm_table.proofs.TableCuts.{cut_all, cut_sound, cut_one}
use Rattle.lsm_table.proofs.laws.entries_are_cut_in_one_way.Goals as goal

pub returns-clause-all : goal.returns-clause-all
returns-clause-all c = cut_all

pub returns-clause-cut : goal.returns-clause-cut
returns-clause-cut c = cut_sound

pub returns-clause-one : goal.returns-clause-one
returns-clause-one c = cut_one
