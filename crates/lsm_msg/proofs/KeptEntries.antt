-- What is kept, for any inputs and in the worked cases.
use Rattle.std.proofs.Common.{◌≡◌, ℕ, ◌≤◌, List, [], ◌∷◌, Some, refl, sym, subst, inl, inr, arith}
use Rattle.std.proofs.lemmas.Bool.{true≢false}
use Rattle.lsm_key.specs.declared.entry.Entry.{Entry}
use Rattle.lsm_key.specs.Sets.{IsIn}
use Rattle.lsm_key.specs.Visible.{Latest, IsLatest, has_key, newest}
use Rattle.lsm_key.proofs.LatestOfList.{latest-is, at_visible, has_key-at, is_seen-from, is_seen-low}
use Rattle.lsm_key.specs.declared.range.KeyRange.{KeyRange}
use Rattle.lsm_msg.specs.Merge.{IsKept}
use Rattle.lsm_msg.specs.Laws.{KeptAreInputs, HiddenEntriesGo, ASnapshotKeepsBoth, BothGo, ADeeperFileKeepsTheDeletion, put_of_a, deletion, over_a}

-- the newest is the latest of its key
pub at_newest : (es : List Entry) (key : List ℕ) (e : Entry) → newest es key ≡ Some e → IsLatest (has_key key) es e
at_newest es key e h = subst (Latest (has_key key) es) h (latest-is (has_key key) es)

pub kept_input : KeptAreInputs
kept_input inputs points deeper e k = elim k.needed [
  | inl at_end ↦ (at_newest inputs e.ikey.key e at_end).member
  | inr seen ↦ (at_visible inputs e.ikey.key seen.0 e seen.2).member
]

pub hidden_goes : HiddenEntriesGo
hidden_goes inputs points deeper older later m same lt apart k = elim k.needed [
  | inl at_end ↦
      let top = at_newest inputs older.ikey.key older at_end in
      let le : later.ikey.seq ≤ older.ikey.seq = top.greatest later m (has_key-at older.ikey.key later (sym same)) in
      omega arith
  | inr seen ↦
      let top = at_visible inputs older.ikey.key seen.0 older seen.2 in
      let low = is_seen-low older.ikey.key seen.0 older top.satisfies in
      let le : later.ikey.seq ≤ older.ikey.seq = top.greatest later m (is_seen-from older.ikey.key seen.0 later (sym same) (apart seen.0 seen.1 low)) in
      omega arith
]

-- ---- the worked cases

-- a fact of each of the two
of_both : (P : Entry → Type 0) → P deletion → P put_of_a → (e : Entry) → IsIn e (deletion ∷ put_of_a ∷ []) → P e
of_both P d p e m = elim m [
  | inl q ↦ subst P (sym q) d
  | inr r ↦ elim r [ inl q ↦ subst P (sym q) p | inr none ↦ absurd none ]
]

-- the put is hidden where no point sees it alone
put_goes : (deeper : List KeyRange) → IsKept (deletion ∷ put_of_a ∷ []) [] deeper put_of_a → ⊥
put_goes deeper k = hidden_goes (deletion ∷ put_of_a ∷ []) [] deeper put_of_a deletion (inl refl) refl (omega arith) (λ p m. absurd m) k

pub snapshot_keeps : ASnapshotKeepsBoth
snapshot_keeps e = (
  of_both (IsKept (deletion ∷ put_of_a ∷ []) (1 ∷ []) [])
      (record { needed = inl refl; stays = refl })
      (record { needed = inr (1, inl refl, refl); stays = refl })
      e,
  kept_input (deletion ∷ put_of_a ∷ []) (1 ∷ []) [] e,
)

pub both_go : BothGo
both_go e = (
  λ m. absurd m,
  λ k. of_both (λ f. IsKept (deletion ∷ put_of_a ∷ []) [] [] f → ⊥)
      (λ d. true≢false d.stays)
      (put_goes [])
      e (kept_input (deletion ∷ put_of_a ∷ []) [] [] e k) k,
)

pub deletion_stays : ADeeperFileKeepsTheDeletion
deletion_stays e = (
  λ m. elim m [
    | inl q ↦ subst (IsKept (deletion ∷ put_of_a ∷ []) [] (over_a ∷ [])) (sym q) (record { needed = inl refl; stays = refl })
    | inr none ↦ absurd none
  ],
  λ k. of_both (λ f. IsKept (deletion ∷ put_of_a ∷ []) [] (over_a ∷ []) f → IsIn f (deletion ∷ []))
      (λ d. inl refl)
      (λ p. absurd (put_goes (over_a ∷ []) p))
      e (kept_input (deletion ∷ put_of_a ∷ []) [] (over_a ∷ []) e k) k,
)
