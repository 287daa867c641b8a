use Rattle.std.proofs.Common.{◌≡◌, ◌∙◌, ◌+◌, ◌≤◌, ap, sym, subst, arith, length, vec_capacity}
use Rattle.lsm_edit.specs.Prepared.{PreparedValue, after_taking_up, prepared_by}
use Rattle.lsm_edit.specs.Served.{AreAsRecorded, IsServed}
use Rattle.lsm_edit.proofs.ServedAfterEdit.{served_after}
use Rattle.lsm_edit.proofs.PlacesInOrder.{as_many}
use Rattle.lsm_edit.proofs.served.Served.prepare.Goals as goal

pub returns-in-Ok-clause-ok : goal.returns-in-Ok-clause-ok
returns-in-Ok-clause-ok c =
    let s = c.args.self.now in
    let e = c.args.edit.now in
    let ts = c.args.tables.items in
    let p : PreparedValue = record { version = c.prepared.inside.version; removed = c.prepared.inside.removed.items; files = c.prepared.inside.files.items; tables = ts; room = vec_capacity c.prepared.inside.places } in
    let room : c.in-Ok.prepared.room ≡ p.room = sym (ap (λ (q : PreparedValue). q.room) c.prepared.view_is) in
    let made : p ≡ prepared_by s e ts p.room =
    ap (λ (q : PreparedValue). record q { tables = ts }) c.prepared.view_is ∙ ap (λ (q : PreparedValue). record q { tables = ts }) c.in-Ok.ensures.made ∙ ap (prepared_by s e ts) room in
    let enough : length s.places + length ts ≤ p.room = omega (arith, room, c.in-Ok.ensures.room, as_many e.added ts c.requires.recorded) in
    let served = served_after s e ts c.in-Ok.ensures.sound.1 c.in-Ok.ensures.sound.0 c.requires.sound c.requires.recorded c.requires.applies in
    record {
      ready = record {
        room = enough;
        recorded = subst (λ (q : PreparedValue). AreAsRecorded q.files q.tables) (sym made) c.requires.recorded;
        served = subst (λ (q : PreparedValue). IsServed (after_taking_up s q)) (sym made) served;
      };
      made = made;
    }
