-- In every state that is shown, a scan gives the first pairs of a range.
use Rattle.std.proofs.Common.{◌≡◌, ℕ, Bool, true, false, cond, ◌&&◌, is_none, List, [], ◌∷◌, ◌++◌, inl, inr, Option, None, Some, subst, refl, sym, ap, ◌∙◌, take}
use Rattle.std.specs.List.{filter}
use Rattle.std.specs.List.Sorted.{IsPermutation}
use Rattle.lsm_key.specs.declared.entry.Entry.{Entry}
use Rattle.std.specs.Prelude.{◌↔◌}
use Rattle.std.proofs.lemmas.Bool.{true≢false}
use Rattle.lsm_key.specs.Order.{key_le, key_lt, is_between}
use Rattle.lsm_key.specs.Sets.{IsIn, SameMembers}
use Rattle.lsm_key.specs.Visible.{IsUnique, value_at}
use Rattle.lsm_key.specs.Writes.{answer}
use Rattle.lsm_key.proofs.Membership.{SameMembers-permutation}
use Rattle.lsm_key.proofs.FirstVisible.{IsUnique-above}
use Rattle.lsm_key.proofs.WritesOverStored.{entries_after-unique}
use Rattle.lsm_edit.specs.Served.{IsServed}
use Rattle.std.specs.Option.{unwrap_or}
use Rattle.lsm_coord.specs.Model.State.{State, snapshot_at}
use Rattle.lsm_coord.specs.declared.snapshot.SnapId.{SnapId}
use Rattle.lsm_coord.specs.declared.snapshot.Snapshot.{Snapshot}
use Rattle.lsm_coord.specs.Model.Event as say
use Rattle.lsm_coord.specs.Model.Rules.{unless_down, read_refusal, release_refusal}
use Rattle.lsm_coord.specs.Model.Changes.{read_at}
use Rattle.lsm_coord.specs.Model.Range.{IsRange}
use Rattle.lsm_coord.specs.Inner.Scan.{AreBelow, AreFirstPairs, shown_pairs}
use Rattle.lsm_coord.specs.Contract.Value.{CoordValue, frozen_entries, stored_entries, everything}
use Rattle.lsm_edit.proofs.ServedPlaces.{stored_unique}
use Rattle.lsm_coord.specs.Contract.Calls as calls
use Rattle.lsm_coord.specs.Contract.Calls.{Scans, point_of}
use Rattle.lsm_coord.specs.Contract.Shows.{Shows, Follows}
use Rattle.lsm_coord.proofs.ScansAgree.{Pair}
use Rattle.lsm_coord.proofs.ReadAnswers.{AreStored, reads, active_first, frozen_above}
use Rattle.lsm_coord.proofs.SearchAnswers.{point_is}
use Rattle.lsm_coord.proofs.ScanRanges.{first_of_whole, same_range, whole_range}

-- ---- no two entries of one key and sequence

unique_same : (xs ys : List Entry) → IsPermutation xs ys → IsUnique ys → IsUnique xs
unique_same xs ys perm u e f me mf keys seqs = let m = SameMembers-permutation xs ys perm in u e f ((m e).0 me) ((m f).0 mf) keys seqs

-- ---- those from lo on and before hi

between_kept : (lo hi : List ℕ) (b : Bool) (e : Entry) (es : List Entry) → key_le lo e.ikey.key ≡ b → (x : Entry)
    → (IsIn x (filter (is_between lo hi) es) ↔ (IsIn x (filter (λ e. key_le lo e.ikey.key) es) × (key_lt x.ikey.key hi ≡ true)))
    → IsIn x (cond (b && key_lt e.ikey.key hi) (e ∷ filter (is_between lo hi) es) (filter (is_between lo hi) es))
    ↔ (IsIn x (cond b (e ∷ filter (λ e. key_le lo e.ikey.key) es) (filter (λ e. key_le lo e.ikey.key) es)) × (key_lt x.ikey.key hi ≡ true))
between_kept lo hi false e es is x h = h
between_kept lo hi true e es is x h = by (key_lt e.ikey.key hi) refl
  where
    by : (d : Bool) → key_lt e.ikey.key hi ≡ d
        → IsIn x (cond d (e ∷ filter (is_between lo hi) es) (filter (is_between lo hi) es)) ↔ (IsIn x (e ∷ filter (λ e. key_le lo e.ikey.key) es) × (key_lt x.ikey.key hi ≡ true))
    by true below = (
      λ m. elim m [
        | inl own ↦ (inl own, subst (λ (g : Entry). key_lt g.ikey.key hi ≡ true) (sym own) below)
        | inr other ↦ (let q = h.0 other in (inr q.0, q.1))
      ],
      λ q. elim q.0 [ inl own ↦ inl own | inr other ↦ inr (h.1 (other, q.1)) ],
    )
    by false below = (
      λ m. (let q = h.0 m in (inr q.0, q.1)),
      λ q. elim q.0 [
        | inl own ↦ absurd (true≢false (sym q.1 ∙ ap (λ (g : Entry). key_lt g.ikey.key hi) own ∙ below))
        | inr other ↦ h.1 (other, q.1)
      ],
    )

between_parts : (lo hi : List ℕ) (es : List Entry) (x : Entry) → IsIn x (filter (is_between lo hi) es) ↔ (IsIn x (filter (λ e. key_le lo e.ikey.key) es) × (key_lt x.ikey.key hi ≡ true))
between_parts lo hi [] x = (λ m. absurd m, λ q. q.0)
between_parts lo hi (e ∷ es) x = between_kept lo hi (key_le lo e.ikey.key) e es refl x (between_parts lo hi es x)

between_below : (lo hi : List ℕ) (es sorted : List Entry) → AreBelow hi (filter (λ e. key_le lo e.ikey.key) es) sorted → SameMembers (filter (is_between lo hi) es) sorted
between_below lo hi es sorted h x = (λ m. (h x).1 ((between_parts lo hi es x).0 m), λ m. (between_parts lo hi es x).1 ((h x).0 m))

module _ (c : CoordValue) (s : State) (h : Shows c s) (served : IsServed c.served) where
  stored_in : AreStored (stored_entries c.served) s
  stored_in = record { old = h.tables.old; answers = h.tables.answers }

  everything_unique : IsUnique (everything c)
  everything_unique =
      let m = h.memtables in
      let tables = stored_entries c.served in
      let frozen = frozen_entries c.frozen in
      IsUnique-above c.active (frozen ++ tables) (unique_same c.active _ m.active_is (entries_after-unique _ _))
      (IsUnique-above frozen tables (unique_same frozen _ m.frozen_is (entries_after-unique _ _)) (stored_unique c.served.places served.recorded h.tables.ordered) (frozen_above c.active frozen tables s m stored_in))
      (active_first c.active frozen tables s m stored_in)

  module _ (p : ℕ) (point : calls.IsPoint c p) where
    right_value : (key : List ℕ) → value_at (everything c) key p ≡ answer s.writes p key
    right_value key = reads c.active (frozen_entries c.frozen) (stored_entries c.served) s h.memtables stored_in p key (point_is c s p h point)

    first_shown : (lo hi : List ℕ) (limit : ℕ) (pairs : List Pair) → AreFirstPairs p hi limit (filter (λ e. key_le lo e.ikey.key) (everything c)) pairs → IsRange (answer s.writes p) lo hi limit pairs
    first_shown lo hi limit pairs h =
        let value_of : List ℕ → Option (List ℕ) = λ key. value_at (everything c) key p in
        subst (IsRange (answer s.writes p) lo hi limit) (sym h.first)
        (same_range value_of (answer s.writes p) lo hi limit (take limit (shown_pairs p None h.sorted)) right_value
        (first_of_whole value_of lo hi limit (shown_pairs p None h.sorted)
        (whole_range (everything c) h.sorted lo hi p everything_unique (between_below lo hi (everything c) h.sorted h.all) h.order)))

-- ---- the same, of each state

pub scans_first : (c : CoordValue) (p : ℕ) (lo hi : List ℕ) (limit : ℕ) (entries : List Entry) (pairs : List Pair) → calls.IsPoint c p → IsServed c.served
    → SameMembers (filter (λ e. key_le lo e.ikey.key) (everything c)) entries → AreFirstPairs p hi limit entries pairs → Scans c p lo hi limit pairs
scans_first c p lo hi limit entries pairs point served same h s shows =
    first_shown c s shows served p point lo hi limit pairs
    (record {
      sorted = h.sorted;
      all = λ e. (
        λ m. (let q = (h.all e).0 m in ((same e).1 q.0, q.1)),
        λ q. (h.all e).1 ((same e).0 q.0, q.1),
      );
      order = h.order;
      first = h.first;
    })

-- ---- the reply

point_at : (c : CoordValue) (s : State) (at : Option SnapId) (p : ℕ) → Shows c s → point_of c at ≡ Some p → read_at s at ≡ p
point_at c s None p h e = h.last ∙ (let same : c.last ≡ p = cc in same)
point_at c s (Some id) p h e = ap (λ (xs : List Snapshot). unwrap_or (snapshot_at xs id) 0) h.snapshots ∙ ap (λ (o : Option ℕ). unwrap_or o 0) e

not_refused : (c : CoordValue) (s : State) (at : Option SnapId) (p : ℕ) → Shows c s → point_of c at ≡ Some p → unless_down s (read_refusal s at) ≡ None
not_refused c s None p h e = ap (λ (b : Bool). cond b None (Some say.Down)) h.up
not_refused c s (Some id) p h e =
    ap (λ (b : Bool). cond b (release_refusal s id) (Some say.Down)) h.up
    ∙ ap (λ (xs : List Snapshot). cond (is_none (snapshot_at xs id)) (Some say.NoSnapshot) None) h.snapshots
    ∙ ap (λ (o : Option ℕ). cond (is_none o) (Some say.NoSnapshot) None) e

pub scan_follows : (c : CoordValue) (at : Option SnapId) (p : ℕ) (lo hi : List ℕ) (limit : ℕ) (pairs : List Pair) → point_of c at ≡ Some p → Scans c p lo hi limit pairs → Follows c (say.Scan lo hi at limit) (say.Scanned pairs) c
scan_follows c at p lo hi limit pairs e r s h =
    (s, (not_refused c s at p h e, (subst (λ (n : ℕ). IsRange (answer s.writes n) lo hi limit pairs) (sym (point_at c s at p h e)) (r s h), refl)), h)
