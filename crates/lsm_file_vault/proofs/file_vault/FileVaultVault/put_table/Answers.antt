use Rattle.std.proofs.Common.{refl}
use Rattle.lsm_vault.proofs.Restoring.{put_same}
use Rattle.lsm_file_vault.proofs.file_vault.FileVaultVault.put_table.Goals as goal

pub put_back-requires : goal.put_back-requires
put_back-requires g c = rw (c.in_ok-before.ensures.ok, put_same c.args.self.now.tables c.args.number c.in_ok-shared.shared) refl
