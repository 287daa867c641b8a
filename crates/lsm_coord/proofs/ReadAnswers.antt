-- A read at the present or at a live snapshot gives what the list of writes gives.
use Rattle.std.proofs.Common.{◌≡◌, ℕ, ◌<◌, ◌≤◌, List, ◌++◌, Option, sym, ap, subst, ◌∙◌, arith, inl, inr, ◌⊎◌, length, take, drop, length-drop}
use Rattle.std.specs.Option.{option_and_then}
use Rattle.std.specs.List.Sorted.{IsPermutation}
use Rattle.std.proofs.lemmas.Bool.{cases_lt}
use Rattle.std.proofs.lemmas.List.{length-take, take-take}
use Rattle.lsm_key.specs.declared.entry.Entry.{Entry}
use Rattle.lsm_key.specs.declared.op.Op.{Op}
use Rattle.lsm_key.specs.Sets.{IsIn}
use Rattle.lsm_key.specs.Writes.{answer, last_write, value_of}
use Rattle.lsm_key.specs.Visible.{value_at, visible, newer, entry_value, IsUnique}
use Rattle.lsm_key.specs.Places.{entries_after, IsAbove}
use Rattle.lsm_key.proofs.Membership.{IsIn-append_cases, SameMembers-permutation, SameMembers-sym}
use Rattle.lsm_key.proofs.LatestOfList.{visible-append, visible_same}
use Rattle.lsm_key.proofs.WritesOverStored.{entries_after-range, entries_after-unique}
use Rattle.lsm_key.proofs.RecentOverStored.{at_point, value_at-stored}
use Rattle.lsm_coord.specs.Model.State.{State, last_seq, last_flushed, active_start}
use Rattle.lsm_coord.specs.declared.snapshot.Snapshot.{Snapshot}
use Rattle.lsm_coord.specs.Contract.Shows.{ShowsRecent}

-- the present or a live snapshot
abbrev pub IsPoint : State → ℕ → Type 0
IsPoint s p = (p ≡ last_seq s) ⊎ ((x : Snapshot) × IsIn x s.snapshots × (x.at ≡ p))

-- what the tables keep of the answers
pub record AreStored (tables : List Entry) (s : State) : Type 0 where
  pub old : (e : Entry) → IsIn e tables → e.ikey.seq ≤ last_flushed s
  pub answers : (key : List ℕ) → value_at tables key (last_flushed s) ≡ answer s.writes (last_flushed s) key

-- the entries that the memtables have, in the order of writing
abbrev pub active_entries : State → List Entry
active_entries s = entries_after (active_start s) (drop (active_start s) s.writes)

abbrev pub frozen_writes : State → List Op
frozen_writes s = take (active_start s) s.writes

abbrev pub frozen_in_order : State → List Entry
frozen_in_order s = entries_after (last_flushed s) (drop (last_flushed s) (frozen_writes s))

-- entries in another order, before others, show the same
pub same_before : (xs ys rest : List Entry) (key : List ℕ) (p : ℕ) → IsUnique ys → IsPermutation xs ys → visible (xs ++ rest) key p ≡ visible (ys ++ rest) key p
same_before xs ys rest key p unique perm =
    visible-append xs rest key p
    ∙ ap (λ (o : Option Entry). newer o (visible rest key p)) (sym (visible_same ys xs key p unique (SameMembers-sym xs ys (SameMembers-permutation xs ys perm))))
    ∙ sym (visible-append ys rest key p)

-- an earlier answer is that of the writes up to a later point
answer-take : (writes : List Op) (m n : ℕ) (key : List ℕ) → m ≤ n → answer (take n writes) m key ≡ answer writes m key
answer-take writes m n key h = ap (λ (ws : List Op). option_and_then value_of (last_write ws key)) (take-take m n writes h)

module _ (active frozen tables : List Entry) (s : State) (a : ShowsRecent active frozen tables s) (t : AreStored tables s) where
  -- the memtables in the order of writing
  in_order : (key : List ℕ) (p : ℕ) → value_at (active ++ (frozen ++ tables)) key p ≡ value_at (active_entries s ++ (frozen_in_order s ++ tables)) key p
  in_order key p =
      let inner : visible (frozen ++ tables) key p ≡ visible (frozen_in_order s ++ tables) key p = same_before frozen (frozen_in_order s) tables key p (entries_after-unique (last_flushed s) (drop (last_flushed s) (frozen_writes s))) a.frozen_is in
      ap (option_and_then entry_value) (
      same_before active (active_entries s) (frozen ++ tables) key p (entries_after-unique (active_start s) (drop (active_start s) s.writes)) a.active_is
      ∙ visible-append (active_entries s) (frozen ++ tables) key p
      ∙ ap (λ (o : Option Entry). newer (visible (active_entries s) key p) o) inner
      ∙ sym (visible-append (active_entries s) (frozen_in_order s ++ tables) key p))

  -- what the frozen memtable and the tables show, up to the frozen end
  frozen_at : (p : ℕ) (key : List ℕ) → last_flushed s ≤ p → p ≤ active_start s → value_at (frozen_in_order s ++ tables) key p ≡ answer s.writes p key
  frozen_at p key low high =
      let within = a.within in
      let long : length (frozen_writes s) ≡ active_start s = omega (arith, length-take (active_start s) s.writes) in
      let base : value_at tables key (last_flushed s) ≡ answer (frozen_writes s) (last_flushed s) key = t.answers key ∙ sym (answer-take s.writes (last_flushed s) (active_start s) key a.flushed) in
      at_point (frozen_writes s) (last_flushed s) tables key p low (omega arith) t.old base ∙ answer-take s.writes p (active_start s) key high

  frozen_old : (f : Entry) → IsIn f (frozen_in_order s ++ tables) → f.ikey.seq ≤ active_start s
  frozen_old f h =
      let first = a.flushed in
      elim (IsIn-append_cases f (frozen_in_order s) tables h) [
        | inl b ↦
            let r = entries_after-range (last_flushed s) (drop (last_flushed s) (frozen_writes s)) f b in
            let w = a.within in
            omega (arith, length-drop (last_flushed s) (frozen_writes s), length-take (active_start s) s.writes)
        | inr b ↦ let o = t.old f b in omega arith
      ]

  -- at a point from the last flush on, whatever it is
  pub late_at : (p : ℕ) (key : List ℕ) → last_flushed s ≤ p → p ≤ last_seq s → value_at (active ++ (frozen ++ tables)) key p ≡ answer s.writes p key
  late_at p key low high =
      let first = a.flushed in
      elim (cases_lt p (active_start s)) [
        | inl lt ↦ in_order key p ∙ value_at-stored s.writes (active_start s) (frozen_in_order s ++ tables) key p (omega arith) ∙ frozen_at p key low (omega arith)
        | inr ge ↦ in_order key p ∙ at_point s.writes (active_start s) (frozen_in_order s ++ tables) key p ge high frozen_old (frozen_at (active_start s) key first (omega arith))
      ]

  early_at : (p : ℕ) (key : List ℕ) → p ≤ last_flushed s → value_at (active ++ (frozen ++ tables)) key p ≡ value_at tables key p
  early_at p key low =
      let first = a.flushed in
      in_order key p
      ∙ value_at-stored s.writes (active_start s) (frozen_in_order s ++ tables) key p (omega arith)
      ∙ value_at-stored (frozen_writes s) (last_flushed s) tables key p low

  -- EVERY READ IS RIGHT.
  pub reads : (p : ℕ) (key : List ℕ) → IsPoint s p → value_at (active ++ (frozen ++ tables)) key p ≡ answer s.writes p key
  reads p key point =
      let first = a.flushed in
      let within = a.within in
      elim point [
        | inl now ↦ late_at p key (omega arith) (omega arith)
        | inr live ↦
            let is : live.0.at ≡ p = live.2 in
            let high = a.snapped live.0 live.1 in
            elim (cases_lt p (last_flushed s)) [
              | inl lt ↦ early_at p key (omega arith) ∙ subst (λ (q : ℕ). value_at tables key q ≡ answer s.writes q key) is (a.kept live.0 live.1 (omega arith) key)
              | inr ge ↦ late_at p key ge (omega arith)
            ]
      ]

  -- the memtables are newer than the tables
  pub active_above : IsAbove active tables
  active_above e f m n keys =
      let r = entries_after-range (active_start s) (drop (active_start s) s.writes) e ((SameMembers-permutation active (active_entries s) a.active_is e).0 m) in
      let o = t.old f n in
      let first = a.flushed in
      omega arith

  -- ---- the frozen memtable over the tables

  frozen_first : (p : ℕ) (key : List ℕ) → value_at (frozen ++ tables) key p ≡ value_at (frozen_in_order s ++ tables) key p
  frozen_first p key = ap (option_and_then entry_value) (same_before frozen (frozen_in_order s) tables key p (entries_after-unique (last_flushed s) (drop (last_flushed s) (frozen_writes s))) a.frozen_is)

  -- they give the answers up to where the active memtable begins
  pub frozen_answers : (p : ℕ) (key : List ℕ) → last_flushed s ≤ p → p ≤ active_start s → value_at (frozen ++ tables) key p ≡ answer s.writes p key
  frozen_answers p key low high = frozen_first p key ∙ frozen_at p key low high

  -- and those at the live snapshots up to there
  pub frozen_reads : (x : Snapshot) → IsIn x s.snapshots → x.at ≤ active_start s → (key : List ℕ) → value_at (frozen ++ tables) key x.at ≡ answer s.writes x.at key
  frozen_reads x live high key = elim (cases_lt x.at (last_flushed s)) [
    | inl lt ↦ frozen_first x.at key ∙ value_at-stored (frozen_writes s) (last_flushed s) tables key x.at (omega arith) ∙ a.kept x live (omega arith) key
    | inr ge ↦ frozen_answers x.at key ge high
  ]

  -- ---- the order of a search

  frozen_range : (e : Entry) → IsIn e frozen → (last_flushed s < e.ikey.seq) × (e.ikey.seq ≤ active_start s)
  frozen_range e m =
      let r = entries_after-range (last_flushed s) (drop (last_flushed s) (frozen_writes s)) e ((SameMembers-permutation frozen (frozen_in_order s) a.frozen_is e).0 m) in
      let w = a.within in
      let low = r.0 in
      (low, omega (arith, r.1, length-drop (last_flushed s) (frozen_writes s), length-take (active_start s) s.writes))

  pub frozen_entries_old : (e : Entry) → IsIn e (frozen ++ tables) → e.ikey.seq ≤ active_start s
  frozen_entries_old e m = elim (IsIn-append_cases e frozen tables m) [
    | inl b ↦ (frozen_range e b).1
    | inr b ↦ let o = t.old e b in let first = a.flushed in omega arith
  ]

  -- the frozen memtable is newer than the tables
  pub frozen_above : IsAbove frozen tables
  frozen_above e f m n keys = let r = frozen_range e m in let low = r.0 in let o = t.old f n in omega arith

  -- and the active one newer than both
  pub active_first : IsAbove active (frozen ++ tables)
  active_first e f m n keys = elim (IsIn-append_cases f frozen tables n) [
    | inl b ↦
        let r = entries_after-range (active_start s) (drop (active_start s) s.writes) e ((SameMembers-permutation active (active_entries s) a.active_is e).0 m) in
        let low = r.0 in
        let high = (frozen_range f b).1 in
        omega arith
    | inr b ↦ active_above e f m b keys
  ]
