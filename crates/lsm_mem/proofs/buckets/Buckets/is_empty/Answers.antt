use Rattle.std.proofs.Common.{ap, ◌∙◌, sym, length}
use Rattle.std.proofs.lemmas.List.{nil_from_length}
use Rattle.lsm_mem.specs.Buckets.{bytes_of_front, chains_of_buckets}
use Rattle.lsm_mem.proofs.ChainsOfBuckets.{none_from_none}
use Rattle.lsm_mem.proofs.buckets.Buckets.is_empty.Goals as goal

pub returns : goal.returns
returns c = (
  λ t. sym c.self.view_is ∙ ap chains_of_buckets (nil_from_length c.self.inside.by_prefix.entries (c.is_empty.ensures.0 t)),
  λ e. c.is_empty.ensures.1 (ap length (none_from_none (bytes_of_front c.self.inside.front) c.self.inside.by_prefix.entries c.self.invariant (c.self.view_is ∙ e))),
)
