use Rattle.std.proofs.Common.{◌≡◌, ◌≤◌, ℕ, drop, length, List, ap, ◌∙◌, rules}
use Rattle.std.specs.Borrow.{Bor}
use Rattle.std.proofs.lemmas.List.{take_rest}
use Rattle.lsm_io.proofs.KnownStreams.{IsWritten-more, IsWritten-kept}
use Rattle.lsm_io.proofs.writing.write_all.Goals as goal
use Rattle.lsm_io.proofs.writing.write_all.Goals.{in-Ok, in-Err+else-ne}

pub loop-preserved : goal.loop-preserved
loop-preserved g c =
    let old = g.W.Write.contents c.args.writer.now in
    let mid = g.W.Write.contents c.loop.writer in
    let new = g.W.Write.contents c.write.new.self in
    elim c.match-write.branch [
      | in-Ok w ↦
          (let few : w.in-Ok.len ≤ length c.loop.rest.now = search rules in
          let after : c.match-write.rest.now ≡ drop w.in-Ok.len c.loop.rest.now = ap (λ (r : Bor (List ℕ)). r.now) w.rest-is ∙ take_rest c.loop.rest.now w.in-Ok.len in
          IsWritten-more old mid new c.args.bytes.now c.loop.rest.now c.match-write.rest.now w.in-Ok.len c.loop.invariant few w.in-Ok.ensures.bytes after)
      | in-Err+else-ne w ↦
          (let same : c.match-write.rest.now ≡ c.loop.rest.now = search rules in
          IsWritten-kept old mid new c.args.bytes.now c.loop.rest.now c.match-write.rest.now c.loop.invariant w.in-Err.ensures.bytes same)
    ]
