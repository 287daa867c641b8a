use Rattle.std.proofs.Common.{◌≡◌, ◌∙◌, ◌++◌, ◌<◌, ◌+◌, ℕ, List, [], ◌∷◌, ap, sym, length, take, get_or, add-one}
use Rattle.std.proofs.Math.Seq.{take-suc}
use Rattle.lsm_file_vault.specs.Frames.{frame, frames}
use Rattle.lsm_file_vault.proofs.FrameReading.{frames_more}
use Rattle.lsm_file_vault.proofs.frame.frames_of.Goals as goal

-- the frame of the next one is behind those of the ones before
frames_next : (held : List (List ℕ)) (i : ℕ) (next : List ℕ) → i < length held → next ≡ get_or held i next → frames (take (i + 1) held) ≡ frames (take i held) ++ frame next
frames_next held i next lt is = rw add-one (ap frames (take-suc held i next lt ∙ ap (λ (x : List ℕ). take i held ++ x ∷ []) (sym is)) ∙ frames_more (take i held) next)

pub loop-bytes-preserved : goal.loop-bytes-preserved
loop-bytes-preserved c =
    let next = c.bytes-item.result in
    c.in_ok-put_frame.ensures.ok ∙ rw (c.loop-bytes.invariant, c.as_slice.ensures) (sym (frames_next c.args.held.now c.loop-bytes.bytes-index next c.loop-bytes-test.true c.bytes-item.is))
