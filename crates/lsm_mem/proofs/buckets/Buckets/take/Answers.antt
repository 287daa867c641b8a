use Rattle.std.proofs.Common.{◌≡◌, [], ◌∙◌, ℕ, BTreeMap, refl, sym, ap, subst}
use Rattle.std.specs.Map.{remove_entry, set_value}
use Rattle.lsm_key.specs.Sets.{IsIn}
use Rattle.lsm_mem.specs.declared.bucket.Bucket.{Bucket}
use Rattle.lsm_mem.specs.Chains.{without_newest}
use Rattle.lsm_mem.specs.Buckets.{HasPrefix, bytes_of_front, chains_in, chains_of_buckets}
use Rattle.lsm_mem.proofs.NumberedPairs.{is_number, Found, found, absent}
use Rattle.lsm_mem.proofs.ChainsOfBuckets.{prefixed, none_taken, taken_in, gone_same, set_placed, gone_placed, taken_placed, some_left}
use Rattle.lsm_mem.proofs.buckets.Buckets.take.Goals as goal

-- ---- a prefix that has no bucket

pub invariant_of-self : goal.invariant_of-self
invariant_of-self c p m = c.self.invariant p (subst (IsIn p) (ap (λ (m : BTreeMap ℕ Bucket). m.entries) c.get_mut.follows.holds-at-none) m)

pub returns-in_default : goal.returns-in_default
returns-in_default c =
    ap (λ (m : BTreeMap ℕ Bucket). chains_of_buckets m.entries) c.get_mut.follows.holds-at-none
    ∙ sym (none_taken (bytes_of_front c.self.inside.front) _ _ (absent _ _ c.in_default.ensures.ordered (sym c.in_default.ensures.value)) c.self.invariant c.args.key.now (prefixed _ _ _ _ _ c.as_slice.ensures refl c.prefix_of-prefix.ensures.value c.prefix_of-prefix.ensures.bytes))
    ∙ ap (without_newest c.args.key.now) c.self.view_is

-- ---- a bucket that has nothing left

module _ (c : goal.After-drop) where
  place : Found c.prefix_of-prefix.result c.self.inside.by_prefix.entries c.in-Some.bucket.now
  place = found _ _ _ c.in-Some.ensures.ordered (sym c.in-Some.ensures.value)

  now : c.remove.new.self.entries ≡ remove_entry (is_number c.prefix_of-prefix.result) (set_value (is_number c.prefix_of-prefix.result) c.self.inside.by_prefix.entries c.take.new.self)
  now = c.remove.ensures.entries ∙ ap (remove_entry (is_number c.prefix_of-prefix.result)) (c.get_mut.follows.holds c.take.new.self).0

pub invariant_of-self-then-is_empty : goal.invariant_of-self-then-is_empty
invariant_of-self-then-is_empty c p m = gone_placed (bytes_of_front c.self.inside.front) _ _ _ (place c) c.self.invariant c.take.new.self p (subst (IsIn p) (now c) m)

pub returns-then-is_empty : goal.returns-then-is_empty
returns-then-is_empty c =
    let has : HasPrefix (bytes_of_front c.self.inside.front) c.prefix_of-prefix.result c.args.key.now = prefixed _ _ _ _ _ c.as_slice.ensures refl c.prefix_of-prefix.ensures.value c.prefix_of-prefix.ensures.bytes in
    let none : chains_in c.take.new.self ≡ [] = c.is_empty.ensures.0 c.if-is_empty.true in
    ap chains_of_buckets (now c)
    ∙ gone_same (bytes_of_front c.self.inside.front) _ _ _ (place c) c.self.invariant c.take.new.self none
    ∙ taken_in (bytes_of_front c.self.inside.front) _ _ _ (place c) c.self.invariant c.args.key.now c.take.new.self has c.take.ensures
    ∙ ap (without_newest c.args.key.now) c.self.view_is

-- ---- a bucket that has

module _ (c : goal.Else-is_empty) where
  place_left : Found c.prefix_of-prefix.result c.self.inside.by_prefix.entries c.in-Some.bucket.now
  place_left = found _ _ _ c.in-Some.ensures.ordered (sym c.in-Some.ensures.value)

pub invariant_of-self-else-is_empty : goal.invariant_of-self-else-is_empty
invariant_of-self-else-is_empty c p m =
    let some = some_left (chains_in c.take.new.self) c.is_empty.result c.is_empty.ensures.1 c.if-is_empty.false in
    set_placed (bytes_of_front c.self.inside.front) _ _ _ (place_left c) c.self.invariant c.take.new.self (taken_placed _ _ _ _ (place_left c) c.self.invariant c.args.key.now c.take.new.self some c.take.ensures) p (subst (IsIn p) (c.get_mut.follows.holds c.take.new.self).0 m)

pub returns-else-is_empty : goal.returns-else-is_empty
returns-else-is_empty c =
    let has : HasPrefix (bytes_of_front c.self.inside.front) c.prefix_of-prefix.result c.args.key.now = prefixed _ _ _ _ _ c.as_slice.ensures refl c.prefix_of-prefix.ensures.value c.prefix_of-prefix.ensures.bytes in
    ap chains_of_buckets (c.get_mut.follows.holds c.take.new.self).0
    ∙ taken_in (bytes_of_front c.self.inside.front) _ _ _ (place_left c) c.self.invariant c.args.key.now c.take.new.self has c.take.ensures
    ∙ ap (without_newest c.args.key.now) c.self.view_is
