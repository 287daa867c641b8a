use Rattle.lsm_msg.proofs.PlacesAfterInstall.{installs_add_no_entry, installs_keep_order}
use Rattle.lsm_msg.proofs.laws.installs_keep_order.Goals as goal

pub returns : goal.returns
returns c = record { entries = installs_add_no_entry; order = installs_keep_order }
