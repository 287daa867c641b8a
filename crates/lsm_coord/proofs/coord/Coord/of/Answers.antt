use Rattle.std.proofs.Common.{◌≡◌, ◌∙◌, ap}
use Rattle.std.specs.Option.{unwrap_or}
use Rattle.lsm_claim.specs.Book.{new_book}
use Rattle.lsm_edit.specs.Version.{VersionValue}
use Rattle.lsm_versions.specs.Manifest.{VersionSetValue}
use Rattle.lsm_coord.proofs.OpenedCoords.{left_counted, left_logged, opened_keeps}
use Rattle.lsm_coord.proofs.coord.Coord.of.Goals as goal

pub invariant_of-result : goal.invariant_of-result
invariant_of-result g c =
    let v : VersionSetValue = c.args.versions in
    let r = c.args.replayed in
    let new = c.cut_log-logged.new.versions.stored.log in
    let served : c.cut_log-logged.new.versions.served ≡ v.served = ap (λ (x : VersionSetValue). x.served) c.cut_log-logged.ensures.rest in
    let newest : c.newest-newest.result ≡ unwrap_or r.last v.served.version.flushed = c.newest-newest.ensures ∙ ap (unwrap_or r.last) (c.flushed.ensures ∙ ap (λ (x : VersionValue). x.flushed) c.version.ensures) in
    let book = c.new-book.ensures ∙ ap new_book (c.epoch.ensures.value ∙ ap (λ (x : VersionValue). x.epoch) c.version-2.ensures) in
    rw (served, newest, c.frozen_left-frozen_upto.ensures) (
      opened_keeps v.served v.stored.log r c.new-book.result c.new.result.items c.requires.replays c.requires.opened book c.new.ensures.items,
      left_logged v.served.version.flushed v.stored.log new r c.requires.replays c.cut_log-logged.ensures.cut,
      left_counted v.served.version.flushed v.stored.log new r c.requires.replays c.cut_log-logged.ensures.cut c.cut_log-logged.result c.cut_log-logged.ensures.left,
    )
