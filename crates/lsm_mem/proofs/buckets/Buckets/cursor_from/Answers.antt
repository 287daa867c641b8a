use Rattle.std.proofs.Common.{◌≡◌, ◌++◌, List, ℕ, refl, sym, ap, ◌∙◌}
use Rattle.lsm_key.specs.declared.entry.Entry.{Entry}
use Rattle.lsm_mem.specs.declared.bucket.Bucket.{Bucket}
use Rattle.lsm_mem.specs.Chains.{Chain, chains_from, entries_in}
use Rattle.lsm_mem.specs.Buckets.{bytes_of_front, chains_of_buckets}
use Rattle.lsm_mem.proofs.ChainsOfBuckets.{prefixed}
use Rattle.lsm_mem.proofs.BucketRanges.{onward, entries_of_range, entries_of_none}
use Rattle.lsm_mem.proofs.buckets.Buckets.cursor_from.Goals.{in-Some+in_ok-current-in-Some, in-None}
use Rattle.lsm_mem.proofs.buckets.Buckets.cursor_from.Goals as goal

pub returns : goal.returns
returns c =
    let front = bytes_of_front c.self.inside.front in
    let lo = c.args.lo.now in
    let ps = c.self.inside.by_prefix.entries in
    let first = c.prefix_of-first.result in
    let from = prefixed front first c.as_slice.result.now lo lo c.as_slice.ensures refl c.prefix_of-first.ensures.value c.prefix_of-first.ensures.bytes in
    let between : c.range-later.result ≡ onward first ps = c.range-later.ensures.between tt in
    let rest : List (ℕ × Bucket) = c.next.new.self in
    let left : c.match-next.current ++ entries_in (chains_of_buckets rest) ≡ entries_in (chains_from lo (chains_of_buckets ps)) =
    elim c.match-next.branch [
      | in-Some+in_ok-current-in-Some w ↦
          let p : ℕ × Bucket = (w.in-Some.field-0-0.now, w.in-Some.bucket.now) in
          ap (λ (es : List Entry). es ++ entries_in (chains_of_buckets rest)) (w.current-is ∙ w.in_ok-current-in-Some.ensures)
          ∙ entries_of_range front first lo from ps c.self.invariant c.range-later.ensures.ordered p rest (sym between ∙ w.in-Some.ensures.steps)
      | in-None w ↦
          (λ i. (w.current-is ∙ w.new-current.ensures) i ++ entries_in (chains_of_buckets (w.in-None.ensures.steps.1 i)))
          ∙ entries_of_none front first lo from ps c.self.invariant (sym between ∙ w.in-None.ensures.steps.0)
    ] in
    c.new.ensures ∙ left ∙ ap (λ (cs : List Chain). entries_in (chains_from lo cs)) c.self.view_is
