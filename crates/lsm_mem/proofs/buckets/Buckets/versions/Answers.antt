use Rattle.std.proofs.Common.{refl, sym}
use Rattle.lsm_mem.specs.Buckets.{HasPrefix, bytes_of_front}
use Rattle.lsm_mem.proofs.NumberedPairs.{Found, found, absent}
use Rattle.lsm_mem.proofs.ChainsOfBuckets.{prefixed, in_all, in_own, in_none, some_weaker, none_weaker}
use Rattle.lsm_mem.proofs.buckets.Buckets.versions.Goals as goal

pub returns-in_err-get-clause-none : goal.returns-in_err-get-clause-none
returns-in_err-get-clause-none c =
    let has : HasPrefix (bytes_of_front c.self.inside.front) c.prefix_of.result c.args.key.now = prefixed _ _ _ _ _ c.as_slice.ensures refl c.prefix_of.ensures.value c.prefix_of.ensures.bytes in
    rw c.from_residual.ensures (λ d m. in_none _ _ _ (absent _ _ c.len-count.ensures.ordered (sym c.in_err-get.ensures.value)) c.self.invariant c.args.key.now has d (rw c.self.view_is m))

module _ (c : goal.After-versions) where
  place : Found c.prefix_of.result c.self.inside.by_prefix.entries c.in_ok-get.field-0.now
  place = found _ _ _ c.len-count.ensures.ordered (sym c.in_ok-get.ensures.value)

pub returns-clause-found : goal.returns-clause-found
returns-clause-found c =
    some_weaker c.versions.result (λ versions m. rw (← c.self.view_is) (in_all (bytes_of_front c.self.inside.front) _ _ _ (place c) c.self.invariant (record { key = c.args.key.now; versions = versions.now }) m)) c.versions.ensures.found

pub returns-clause-none : goal.returns-clause-none
returns-clause-none c =
    let has : HasPrefix (bytes_of_front c.self.inside.front) c.prefix_of.result c.args.key.now = prefixed _ _ _ _ _ c.as_slice.ensures refl c.prefix_of.ensures.value c.prefix_of.ensures.bytes in
    none_weaker c.versions.result (λ h d m same. h d (in_own _ _ _ _ (place c) c.self.invariant c.args.key.now has d (rw c.self.view_is m) same) same) c.versions.ensures.none
