use Rattle.std.proofs.Common.{◌≡◌, true, None, sym, subst}
use Rattle.lsm_table.specs.Building.{Draft, add_fault}
use Rattle.lsm_merge.specs.Cutting.{closes_before}
use Rattle.lsm_merge.proofs.OutputSteps.{stays_fault, stays_split, closes_fault, closes_split}
use Rattle.lsm_merge.proofs.outputs.Outputs.make_room.Goals as goal

pub returns-then-not-closes_before-clause-room : goal.returns-then-not-closes_before-clause-room
returns-then-not-closes_before-clause-room c =
    let r = c.requires in
    stays_fault r.0 r.1 c.args.self.now.closed.items c.args.self.now.taking c.args.entry.now r.2 r.3 (sym c.if-not-closes_before.ensures)

pub returns-then-not-closes_before-clause-split : goal.returns-then-not-closes_before-clause-split
returns-then-not-closes_before-clause-split c = λ target entries split may. stays_split target entries c.args.self.now.closed.items c.args.self.now.taking c.args.entry.now split may (sym c.if-not-closes_before.ensures)

pub returns-in_ok-push-in-Ok-clause-room : goal.returns-in_ok-push-in-Ok-clause-room
returns-in_ok-push-in-Ok-clause-room c =
    let r = c.requires in
    let closes : closes_before c.args.self.now.taking.entries c.args.entry.now ≡ true = sym c.if-not-closes_before.ensures in
    let own = c.in-Ok.ensures in
    subst (λ (d : Draft). add_fault d c.args.entry.now ≡ None) (sym own.empty) (closes_fault r.0 r.1 c.args.self.now.closed.items c.args.self.now.taking c.args.entry.now r.2 r.3 closes c.in-Ok.table own.found.0 own.found.1)

pub returns-in_ok-push-in-Ok-clause-split : goal.returns-in_ok-push-in-Ok-clause-split
returns-in_ok-push-in-Ok-clause-split c = λ target entries split may.
    let closes : closes_before c.args.self.now.taking.entries c.args.entry.now ≡ true = sym c.if-not-closes_before.ensures in
    let own = c.in-Ok.ensures in
    let made = closes_split target entries c.args.self.now.closed.items c.args.self.now.taking c.args.entry.now split may closes c.in-Ok.table own.found.0 own.found.1 in
    rw (own.empty, c.in_ok-push-in-Ok.ensures.items) made
