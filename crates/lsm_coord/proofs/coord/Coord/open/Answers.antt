use Rattle.std.proofs.Common.{◌≡◌, ◌∙◌, ap, subst}
use Rattle.lsm_vault.specs.Stored.{VaultValue}
use Rattle.lsm_versions.specs.Opening.{EpochRefused, MayHaveDropped, Opens, RecoveredValue, manifest_version}
use Rattle.lsm_versions.proofs.Epochs.{epoch_refuses, recover_refuses, unchanged_dropped}
use Rattle.lsm_coord.specs.Inner.Replaying.{LogRefuses, ReplaysLog}
use Rattle.lsm_coord.proofs.OpenedCoords.{log_open_refuses, opens_coord, replayed_first}
use Rattle.lsm_coord.proofs.RestartOfNew.{opened_over_nothing}
use Rattle.lsm_coord.proofs.RestartRefusals.{open_refused_follows}
use Rattle.lsm_coord.proofs.RestartSteps.{open_follows}
use Rattle.lsm_coord.proofs.coord.Coord.open.Goals as goal

-- ---- the vault is not read

pub returns-in-Err-clause-refused : goal.returns-in-Err-clause-refused
returns-in-Err-clause-refused g c = recover_refuses (g.V.Vault.stored c.args.vault) c.in-Err.refused.0 c.in-Err.ensures.refused

pub returns-in-Err-clause-stays : goal.returns-in-Err-clause-stays
returns-in-Err-clause-stays g c =
    let vault = g.V.Vault.stored c.args.vault in
    let why = c.in-Err.refused.0 in
    let new = g.V.Vault.stored c.in-Err.refused.1 in
    open_refused_follows vault why new (recover_refuses vault why c.in-Err.ensures.refused) (unchanged_dropped why vault new c.in-Err.ensures.left)

-- ---- its log is refused

pub returns-in-Err-replay_log-clause-refused : goal.returns-in-Err-replay_log-clause-refused
returns-in-Err-replay_log-clause-refused g c =
    log_open_refuses (g.V.Vault.stored c.args.vault) c.in-Ok.ensures.whole c.in-Err-replay_log.why
    (subst (λ (v : VaultValue). LogRefuses (manifest_version v.edits).flushed v.log c.in-Err-replay_log.why) c.in-Ok.ensures.ok c.in-Err-replay_log.ensures.refused)

pub returns-in-Err-replay_log-clause-stays : goal.returns-in-Err-replay_log-clause-stays
returns-in-Err-replay_log-clause-stays g c =
    let vault = g.V.Vault.stored c.args.vault in
    let why = c.in-Err-replay_log.why in
    let new = g.V.Vault.stored c.close.result in
    let same : new ≡ vault = c.close.ensures.vault ∙ ap (λ (r : RecoveredValue). r.stored) c.in-Err-replay_log.ensures.same ∙ c.in-Ok.ensures.ok in
    open_refused_follows vault why new (returns-in-Err-replay_log-clause-refused g c) (unchanged_dropped why vault new same)

-- ---- the next epoch is refused

pub returns-in-Err-begin-clause-refused : goal.returns-in-Err-begin-clause-refused
returns-in-Err-begin-clause-refused g c =
    let same : c.replay_log.new.recovered.stored ≡ g.V.Vault.stored c.args.vault = ap (λ (r : RecoveredValue). r.stored) c.in-Ok-replay_log.ensures.same ∙ c.in-Ok.ensures.ok in
    epoch_refuses (g.V.Vault.stored c.args.vault) c.in-Ok.ensures.whole c.in-Err-begin.refused.0
    (subst (λ (v : VaultValue). EpochRefused (manifest_version v.edits) c.in-Err-begin.refused.0) same c.in-Err-begin.ensures.refused)

pub returns-in-Err-begin-clause-first : goal.returns-in-Err-begin-clause-first
returns-in-Err-begin-clause-first g c =
    let r = c.in-Ok-replay_log.replayed in
    replayed_first (g.V.Vault.stored c.args.vault) c.in-Err-begin.refused.0 r (subst (λ (v : VaultValue). ReplaysLog (manifest_version v.edits).flushed v.log r) c.in-Ok.ensures.ok c.in-Ok-replay_log.ensures.ok)

pub returns-in-Err-begin-clause-stays : goal.returns-in-Err-begin-clause-stays
returns-in-Err-begin-clause-stays g c =
    let vault = g.V.Vault.stored c.args.vault in
    let why = c.in-Err-begin.refused.0 in
    let new = g.V.Vault.stored c.in-Err-begin.refused.1 in
    let same : c.replay_log.new.recovered.stored ≡ vault = ap (λ (r : RecoveredValue). r.stored) c.in-Ok-replay_log.ensures.same ∙ c.in-Ok.ensures.ok in
    open_refused_follows vault why new (returns-in-Err-begin-clause-refused g c) (subst (λ (v : VaultValue). MayHaveDropped why v new) same c.in-Err-begin.ensures.left)

-- ---- the vault is opened

pub returns-clause-ok : goal.returns-clause-ok
returns-clause-ok g c =
    let vault = g.V.Vault.stored c.args.vault in
    let v = c.in-Ok-begin.versions in
    let r = c.in-Ok-replay_log.replayed in
    let same : c.replay_log.new.recovered.stored ≡ vault = ap (λ (x : RecoveredValue). x.stored) c.in-Ok-replay_log.ensures.same ∙ c.in-Ok.ensures.ok in
    opens_coord vault v (subst (λ (x : VaultValue). Opens x v) same c.in-Ok-begin.ensures.ok) c.args.limits r c.of.result c.of.ensures.set c.of.ensures.sound.0 c.of.ensures.sound.1
    (subst (λ (x : VaultValue). ReplaysLog (manifest_version x.edits).flushed x.log r) c.in-Ok.ensures.ok c.in-Ok-replay_log.ensures.ok) c.of.ensures.cut c.of.ensures.is c.of.ensures.failures

pub returns-clause-step : goal.returns-clause-step
returns-clause-step g c = open_follows (g.V.Vault.stored c.args.vault) c.args.limits c.of.result (returns-clause-ok g c)

pub returns-clause-new : goal.returns-clause-new
returns-clause-new g c = opened_over_nothing (g.V.Vault.stored c.args.vault) c.args.limits c.of.result (returns-clause-ok g c)
