use Rattle.std.proofs.Common.{List, length, Option, IfSome, ap, subst, arith}
use Rattle.std.specs.Option.{option_copied}
use Rattle.lsm_claim.specs.declared.job.LiveJob.{LiveJob}
use Rattle.lsm_claim.specs.declared.job.Want.{Want}
use Rattle.lsm_msg.specs.Legal.{IsLegal}
use Rattle.lsm_coord.specs.Contract.Memory.{IsJobWant}
use Rattle.lsm_coord.specs.Contract.Picking.{NextCompactionAfter, SomethingToCompact}
use Rattle.lsm_coord.proofs.coord.Coord.wanted.Goals as goal

pub returns-in-Ok-None-clause-none : goal.returns-in-Ok-None-clause-none
returns-in-Ok-None-clause-none g c =
    let live = ap (λ (js : List LiveJob). length js) c.live.ensures.all in
    λ e. (rw (← c.self.view_is) (omega (arith, live, c.if-live-ge-MAX_LIVE_CLAIMS.false)), c.in-Ok-None.ensures.none c.in-Ok-None.field-0-is)

pub returns-in-Ok-Some-clause-refused : goal.returns-in-Ok-Some-clause-refused
returns-in-Ok-Some-clause-refused g c =
    let live = ap (λ (js : List LiveJob). length js) c.live.ensures.all in
    let some = subst (λ (o : Option Want). IfSome o (λ want. SomethingToCompact c.args.self.now)) c.in-Ok-Some.field-0-is c.in-Ok-Some.ensures.something in
    (rw (← c.self.view_is) (omega (arith, live, c.if-live-ge-MAX_LIVE_CLAIMS.false)), some, rw (← c.self.view_is) (omega (arith, c.made-exhausted.ensures.value, c.if-exhausted.true)))

pub returns-in-Err-TooWide-clause-refused : goal.returns-in-Err-TooWide-clause-refused
returns-in-Err-TooWide-clause-refused g c =
    let live = ap (λ (js : List LiveJob). length js) c.live.ensures.all in
    (rw (← c.self.view_is) (omega (arith, live, c.if-live-ge-MAX_LIVE_CLAIMS.false)), c.in-Err-TooWide.ensures.too_wide c.in-Err-TooWide.field-0-is)

pub returns-in-Err-OutOfMemory-clause-refused : goal.returns-in-Err-OutOfMemory-clause-refused
returns-in-Err-OutOfMemory-clause-refused g c =
    let live = ap (λ (js : List LiveJob). length js) c.live.ensures.all in
    (rw (← c.self.view_is) (omega (arith, live, c.if-live-ge-MAX_LIVE_CLAIMS.false)), c.in-Err-OutOfMemory.ensures.memory c.in-Err-OutOfMemory.field-0-is, rw (← c.self.view_is) (omega (arith, c.made-exhausted.ensures.value, c.if-exhausted-2.true)))

pub returns-in-Err-OutOfMemory-2-clause-refused : goal.returns-in-Err-OutOfMemory-2-clause-refused
returns-in-Err-OutOfMemory-2-clause-refused g c =
    let live = ap (λ (js : List LiveJob). length js) c.live.ensures.all in
    (rw (← c.self.view_is) (omega (arith, live, c.if-live-ge-MAX_LIVE_CLAIMS.false)), c.in-Err-OutOfMemory.ensures.memory c.in-Err-OutOfMemory.field-0-is, rw (← c.self.view_is) (omega (arith, c.made-exhausted.ensures.value, c.if-exhausted-2.false)))

pub returns-in-Ok-Some-2-clause-memory : goal.returns-in-Ok-Some-2-clause-memory
returns-in-Ok-Some-2-clause-memory g c =
    let live = ap (λ (js : List LiveJob). length js) c.live.ensures.all in
    let some = subst (λ (o : Option Want). IfSome o (λ want. SomethingToCompact c.args.self.now)) c.in-Ok-Some.field-0-is c.in-Ok-Some.ensures.something in
    (rw (← c.self.view_is) (omega (arith, live, c.if-live-ge-MAX_LIVE_CLAIMS.false)), some, rw (← c.self.view_is) (omega (arith, c.made-exhausted.ensures.value, c.if-exhausted.false)))

pub returns-in-Ok-Some-2-clause-some : goal.returns-in-Ok-Some-2-clause-some
returns-in-Ok-Some-2-clause-some g c =
    let live = ap (λ (js : List LiveJob). length js) c.live.ensures.all in
    let e = c.in-Ok-Some.ensures in
    let is = c.in-Ok-Some.field-0-is in
    let next = subst (λ (o : Option Want). IfSome o (NextCompactionAfter (option_copied c.args.pointers) c.args.self.now)) is e.some in
    let orderly = subst (λ (o : Option Want). IfSome o IsJobWant) is e.orderly in
    let legal = subst (λ (o : Option Want). IfSome o (IsLegal c.args.self.now.served.version.files)) is e.legal in
    record {
      free = rw (← c.self.view_is) (omega (arith, live, c.if-live-ge-MAX_LIVE_CLAIMS.false));
      fits = rw (← c.self.view_is) (omega (arith, c.made-exhausted.ensures.value, c.if-exhausted.false));
      next = next;
      orderly = orderly;
      legal = legal;
    }
