use Rattle.std.proofs.Common.{◌≡◌, ◌⊎◌, ◌∙◌, Some, ap, sym, subst, refl}
use Rattle.lsm_edit.specs.Served.{IsServed}
use Rattle.lsm_edit.specs.Version.{IsVersion}
use Rattle.lsm_msg.specs.declared.message.Body.{Body}
use Rattle.lsm_msg.specs.declared.message.Body.TheVariants as body
use Rattle.lsm_msg.specs.declared.message.Message.{Message}
use Rattle.lsm_versions.specs.Manifest.{Folds, versions_of}
use Rattle.lsm_versions.specs.Retention.{AreRetired, bytes_at}
use Rattle.lsm_coord.specs.Contract.Serving.{HasTable, IsListedSince, Serves, Tells, table_body}
use Rattle.lsm_coord.specs.Contract.Value.{CoordValue}
use Rattle.lsm_coord.proofs.ServedFiles.{serves}
use Rattle.lsm_coord.proofs.ToldVersions.{tells}
use Rattle.lsm_coord.proofs.coord.Coord.serve.Goals as goal

pub returns-in_ok-file_body-in-Fetch-clause-listed : goal.returns-in_ok-file_body-in-Fetch-clause-listed
returns-in_ok-file_body-in-Fetch-clause-listed g c = λ s h.
    let v = c.args.self.now in
    let n = c.in-Fetch.file in
    let view = c.self.view_is in
    let folds : Folds v.stored.edits v.served.version = subst (λ (x : CoordValue). Folds x.stored.edits x.served.version) view c.served-served.ensures.set.folds in
    let retired : AreRetired (versions_of v.stored.edits) v.served.version v.retired v.floor = subst (λ (x : CoordValue). AreRetired (versions_of x.stored.edits) x.served.version x.retired x.floor) view c.served-served.ensures.set.retired in
    let sound : IsServed v.served × IsVersion v.served.version = subst (λ (x : CoordValue). IsServed x.served × IsVersion x.served.version) view (c.served-served.ensures.sound) in
    let answer = serves v s h sound.0 sound.1 folds retired n in
    let m = c.answer_to.result in
    let said : m.body ≡ table_body n (bytes_at v.served.places v.retired n) = ap (λ (x : Message). x.body) c.answer_to.ensures ∙ c.in_ok-file_body-in-Fetch.ensures.ok in
    subst (λ (b : Body). Serves s b (Some m)) (sym c.in-Fetch.is) (m, refl, subst (λ (b : Body). (IsListedSince s n × HasTable n b) ⊎ ((IsListedSince s n → ⊥) × (b ≡ body.Gone n))) (sym said) answer)

pub returns-in_ok-body_after-in-Ask-clause-listed : goal.returns-in_ok-body_after-in-Ask-clause-listed
returns-in_ok-body_after-in-Ask-clause-listed g c = λ s h.
    let m = c.answer_to-in-Ask.result in
    let said = ap (λ (x : Message). x.body) c.answer_to-in-Ask.ensures in
    let n = c.in-Ask.number in
    subst (λ (b : Body). Serves s b (Some m)) (sym c.in-Ask.is) (m, refl, subst (Tells s n) (sym said) (tells c.args.self.now s h n c.in_ok-body_after-in-Ask.field-0 c.in_ok-body_after-in-Ask.ensures.ok))
