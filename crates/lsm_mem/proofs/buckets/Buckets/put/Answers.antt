use Rattle.std.proofs.Common.{◌≡◌, ℕ, BTreeMap, refl, sym, ap, subst, ◌∙◌}
use Rattle.std.specs.BTreeMap.{insert_entry}
use Rattle.std.specs.Ordering.{nat_cmp}
use Rattle.lsm_key.specs.Sets.{IsIn}
use Rattle.lsm_mem.specs.declared.bucket.Bucket.{Bucket}
use Rattle.lsm_mem.specs.declared.bucket.Bucket.TheVariants.{One}
use Rattle.lsm_mem.specs.Chains.{with_entry}
use Rattle.lsm_mem.specs.Buckets.{HasPrefix, bytes_of_front, chains_of_buckets}
use Rattle.lsm_mem.proofs.NumberedPairs.{Found, Absent, found, absent}
use Rattle.lsm_mem.proofs.ChainsOfBuckets.{prefixed, put_placed_either, put_if_ok, same_if_err, one_placed, new_in, new_placed}
use Rattle.lsm_mem.proofs.buckets.Buckets.put.Goals as goal

-- ---- a prefix that has a bucket

module _ (c : goal.After-self-in-Some-1) where
  has : HasPrefix (bytes_of_front c.self.inside.front) c.prefix_of-prefix.result c.args.entry.ikey.key
  has = prefixed _ _ _ _ _ c.as_slice.ensures c.as_slice-2.ensures c.prefix_of-prefix.ensures.value c.prefix_of-prefix.ensures.bytes

  place : Found c.prefix_of-prefix.result c.self.inside.by_prefix.entries c.in-Some.bucket.now
  place = found _ _ _ c.in-Some.ensures.ordered (sym c.in-Some.ensures.value)

pub invariant_of-self : goal.invariant_of-self
invariant_of-self c p m =
    put_placed_either _ _ c.args.entry (has c) _ _ _ (place c) c.self.invariant c.put.result c.put.ensures.ok c.put.ensures.err p (subst (IsIn p) (c.get_mut.follows.holds c.put.new.self).0 m)

pub returns-in-Some-clause-ok : goal.returns-in-Some-clause-ok
returns-in-Some-clause-ok c =
    put_if_ok _ _ c.args.entry (has c) _ _ _ (place c) c.self.invariant c.put.result _ _ (c.get_mut.follows.holds c.put.new.self).0 c.self.view_is c.put.ensures.ok

pub returns-in-Some-clause-err : goal.returns-in-Some-clause-err
returns-in-Some-clause-err c =
    same_if_err _ _ c.args.entry (has c) _ _ _ (place c) c.self.invariant c.put.result _ _ (c.get_mut.follows.holds c.put.new.self).0 c.self.view_is c.put.ensures.err

-- ---- a prefix that has none

pub invariant_of-self-in_err-insert : goal.invariant_of-self-in_err-insert
invariant_of-self-in_err-insert c p m = c.self.invariant p (subst (IsIn p) (c.in_err-insert.ensures.err ∙ ap (λ (m : BTreeMap ℕ Bucket). m.entries) c.get_mut.follows.holds-at-none) m)

module _ (c : goal.Joined-branch-2) where
  has_new : HasPrefix (bytes_of_front c.self.inside.front) c.prefix_of-prefix.result c.args.entry.ikey.key
  has_new = prefixed _ _ _ _ _ c.as_slice.ensures c.as_slice-2.ensures c.prefix_of-prefix.ensures.value c.prefix_of-prefix.ensures.bytes

  gap : Absent c.prefix_of-prefix.result c.self.inside.by_prefix.entries
  gap = absent _ _ c.in_default.ensures.ordered (sym c.in_default.ensures.value)

  now : c.insert.new.self.entries ≡ insert_entry nat_cmp c.self.inside.by_prefix.entries c.prefix_of-prefix.result (One c.args.entry)
  now = c.in_ok-insert.ensures.entries ∙ ap (λ (m : BTreeMap ℕ Bucket). insert_entry nat_cmp m.entries c.prefix_of-prefix.result (One c.args.entry)) c.get_mut.follows.holds-at-none

pub invariant_of-self-2 : goal.invariant_of-self-2
invariant_of-self-2 c p m = new_placed _ _ _ (gap c) c.self.invariant (One c.args.entry) (one_placed _ _ c.args.entry (One c.args.entry) (has_new c) refl) p (subst (IsIn p) (now c) m)

pub returns-clause-ok : goal.returns-clause-ok
returns-clause-ok c = ap chains_of_buckets (now c) ∙ new_in _ _ _ (gap c) c.self.invariant c.args.entry (One c.args.entry) (has_new c) refl ∙ ap (with_entry c.args.entry) c.self.view_is
