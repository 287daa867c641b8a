-- A scan takes entries in order, and stops.
use Rattle.std.proofs.Common.{◌≡◌, ℕ, ◌<◌, ◌≤◌, Bool, true, false, cond, List, [], ◌∷◌, ◌++◌, Option, None, Some, refl, sym, ap, subst, ◌∙◌, inl, inr, arith, length, take}
use Rattle.std.specs.Prelude.{◌↔◌}
use Rattle.std.proofs.lemmas.Bool.{true≢false}
use Rattle.std.proofs.lemmas.List.{append-nil, append_assoc, length-append, take_all}
use Rattle.lsm_key.specs.declared.entry.Entry.{Entry}
use Rattle.lsm_key.specs.Order.{IsInOrder, key_le, key_lt, precedes}
use Rattle.lsm_key.specs.Places.{all_entries}
use Rattle.lsm_key.specs.Sets.{IsIn}
use Rattle.lsm_key.proofs.AscendingEntries.{first_in_order, rest_in_order}
use Rattle.lsm_key.proofs.Membership.{SameMembers-permutation}
use Rattle.lsm_key.proofs.WeakOrder.{entries_weak}
use Rattle.lsm_table.specs.Heads.{AllInOrder, TakesFirst}
use Rattle.lsm_table.proofs.ReadLists.{cons_in_order}
use Rattle.lsm_coord.specs.Inner.Scan.{AreBelow, AreFirstPairs, is_hidden, pair_of, shown_pairs}
use Rattle.lsm_coord.proofs.KeyIntervals.{below_trans, not_below_upto, upto_from}
use Rattle.lsm_coord.proofs.ScansAgree.{Pair}
use Rattle.lsm_coord.proofs.ShownPairs.{Later, beyond, older, later}
use Rattle.lsm_coord.proofs.ScanRanges.{pass_hidden, pass_seen, one_pair, full_front}

-- ---- lists in order

-- the same entries, in order
record IsOrdered (es out : List Entry) : Type 0 where
  same : (e : Entry) → IsIn e out ↔ IsIn e es
  up : IsInOrder out

place : (e : Entry) (es : List Entry) → IsInOrder es → (out : List Entry) × IsOrdered (e ∷ es) out
place e [] up = (e ∷ [], record { same = λ f. (λ m. m, λ m. m); up = cons_in_order e [] (λ f m. absurd m) up })
place e (head ∷ es) up = by (precedes head e) refl (place e es (rest_in_order head es up))
  where
    by : (b : Bool) → precedes head e ≡ b → (out : List Entry) × IsOrdered (e ∷ es) out → (out : List Entry) × IsOrdered (e ∷ head ∷ es) out
    by false is rest = (
      e ∷ head ∷ es,
      record {
        same = λ f. (λ m. m, λ m. m);
        up = cons_in_order e (head ∷ es)
            (λ f m. elim m [
              | inl same ↦ subst (λ (g : Entry). precedes g e ≡ false) (sym same) is
              | inr after ↦ entries_weak.chain f head e (first_in_order head es up f after) is
            ])
            up;
      },
    )
    by true is rest = (
      head ∷ rest.0,
      record {
        same = λ f. (
          λ m. elim m [
            | inl same ↦ inr (inl same)
            | inr after ↦ elim ((rest.1.same f).0 after) [ inl own ↦ inl own | inr other ↦ inr (inr other) ]
          ],
          λ m. elim m [
            | inl own ↦ inr ((rest.1.same f).1 (inl own))
            | inr other ↦ elim other [ inl same ↦ inl same | inr after ↦ inr ((rest.1.same f).1 (inr after)) ]
          ],
        );
        up = cons_in_order head rest.0
            (λ f m. elim ((rest.1.same f).0 m) [
              | inl own ↦ subst (λ (g : Entry). precedes g head ≡ false) (sym own) (entries_weak.one_way head e is)
              | inr other ↦ first_in_order head es up f other
            ])
            rest.1.up;
      },
    )

ordered : (es : List Entry) → (out : List Entry) × IsOrdered es out
ordered [] = ([], record { same = λ f. (λ m. m, λ m. m); up = λ k d low lt. absurd (omega (arith, lt)) })
ordered (e ∷ es) =
    let rest = ordered es in
    let out = place e rest.0 rest.1.up in (
      out.0,
      record {
        same = λ f. (
          λ m. elim ((out.1.same f).0 m) [ inl own ↦ inl own | inr other ↦ inr ((rest.1.same f).0 other) ],
          λ m. (out.1.same f).1 (elim m [ inl own ↦ inl own | inr other ↦ inr ((rest.1.same f).1 other) ]),
        );
        up = out.1.up;
      },
    )

-- ---- those before hi

module _ (hi : List ℕ) where
  kept : (b : Bool) (e : Entry) (es these : List Entry) → key_lt e.ikey.key hi ≡ b → AreBelow hi es these → AreBelow hi (e ∷ es) (cond b (e ∷ these) these)
  kept true e es these below h f = (
    λ m. elim m [
      | inl own ↦ (inl own, subst (λ (g : Entry). key_lt g.ikey.key hi ≡ true) (sym own) below)
      | inr other ↦ (let q = (h f).0 other in (inr q.0, q.1))
    ],
    λ q. elim q.0 [ inl own ↦ inl own | inr other ↦ inr ((h f).1 (other, q.1)) ],
  )
  kept false e es these below h f = (
    λ m. (let q = (h f).0 m in (inr q.0, q.1)),
    λ q. elim q.0 [
      | inl own ↦ absurd (true≢false (sym q.1 ∙ ap (λ (g : Entry). key_lt g.ikey.key hi) own ∙ below))
      | inr other ↦ (h f).1 (other, q.1)
    ],
  )

  those_below : (es : List Entry) → (these : List Entry) × AreBelow hi es these
  those_below [] = ([], λ f. (λ m. absurd m, λ q. q.0))
  those_below (e ∷ es) = (let rest = those_below es in (cond (key_lt e.ikey.key hi) (e ∷ rest.0) rest.0, kept (key_lt e.ikey.key hi) e es rest.0 refl rest.1))

  -- in order
  sorted_below : (es : List Entry) → (these : List Entry) × AreBelow hi es these × IsInOrder these
  sorted_below es =
      let some = those_below es in
      let out = ordered some.0 in
      (out.0, λ f. (λ m. (some.1 f).0 ((out.1.same f).0 m), λ q. (out.1.same f).1 ((some.1 f).1 q)), out.1.up)

  -- ---- entry after entry

  module _ (point limit : ℕ) (entries : List Entry) where
    pub record IsScanned (left : List (List Entry)) (pairs : List Pair) (before : Option Entry) : Type 0 where
      pub few : length pairs ≤ limit
      pub order : AllInOrder left
      -- whatever order the entries left have, the pairs so far come before theirs
      pub goes : (rest : List Entry) → AreBelow hi (all_entries left) rest → IsInOrder rest
          → (sorted : List Entry) × AreBelow hi entries sorted × IsInOrder sorted × (shown_pairs point None sorted ≡ pairs ++ shown_pairs point before rest)

    module _ (left : List (List Entry)) (pairs : List Pair) (before : Option Entry) (h : IsScanned left pairs before) where
      -- no entry is left
      pub scanned_all : ((e : Entry) → IsIn e (all_entries left) → key_le hi e.ikey.key ≡ true) → AreFirstPairs point hi limit entries pairs
      scanned_all none =
          let g = h.goes [] (λ f. (λ m. absurd m, λ q. not_below_upto hi f.ikey.key (none f q.0) q.1)) (λ k d low lt. absurd (omega (arith, lt))) in
          record {
            sorted = g.0;
            all = g.1;
            order = g.2;
            first = sym (take_all limit pairs h.few) ∙ ap (take limit) (sym (append-nil pairs) ∙ sym g.3);
          }

      -- or enough is taken
      pub scanned_full : limit ≤ length pairs → AreFirstPairs point hi limit entries pairs
      scanned_full full =
          let rest = sorted_below (all_entries left) in
          let g = h.goes rest.0 rest.1 rest.2 in
          record {
            sorted = g.0;
            all = g.1;
            order = g.2;
            first = sym (full_front limit pairs (shown_pairs point before rest.0) full h.few) ∙ ap (take limit) (sym g.3);
          }

      -- the next one is at or after hi
      pub scanned_beyond : (e : Entry) → ((f : Entry) → IsIn f (all_entries left) → precedes f e ≡ false) → key_le hi e.ikey.key ≡ true → AreFirstPairs point hi limit entries pairs
      scanned_beyond e least out = scanned_all (λ f m. by f (later e f (least f m)))
        where
          by : (f : Entry) → Later e f → key_le hi f.ikey.key ≡ true
          by f (beyond b) = upto_from hi f.ikey.key (λ c. not_below_upto hi e.ikey.key out (below_trans e.ikey.key f.ikey.key hi b c))
          by f (older k le) = subst (λ (l : List ℕ). key_le hi l ≡ true) (sym k) out

      module _ (e : Entry) (new : List (List Entry)) (takes : TakesFirst left e new) where
        first : (f : Entry) → IsIn f (all_entries new) → precedes f e ≡ false
        first f m = takes.first h.order f m

        module _ (below : key_lt e.ikey.key hi ≡ true) where
          onward : (rest : List Entry) → AreBelow hi (all_entries new) rest → IsInOrder rest
              → (sorted : List Entry) × AreBelow hi entries sorted × IsInOrder sorted × (shown_pairs point None sorted ≡ pairs ++ shown_pairs point before (e ∷ rest))
          onward rest these up =
              let same = SameMembers-permutation (all_entries left) (e ∷ all_entries new) takes.all in
              h.goes (e ∷ rest)
              (λ f. (
                λ m. elim m [
                  | inl own ↦ ((same f).1 (inl own), subst (λ (g : Entry). key_lt g.ikey.key hi ≡ true) (sym own) below)
                  | inr other ↦ (let q = (these f).0 other in ((same f).1 (inr q.0), q.1))
                ],
                λ q. elim ((same f).0 q.0) [ inl own ↦ inl own | inr other ↦ inr ((these f).1 (other, q.1)) ],
              ))
              (cons_in_order e rest (λ f m. first f ((these f).0 m).0) up)

          -- it shows nothing
          pub scanned_hidden : is_hidden point before e ≡ true → IsScanned new pairs before
          scanned_hidden hidden = record {
            few = h.few;
            order = takes.order h.order;
            goes = λ rest these up. (let g = onward rest these up in (g.0, g.1, g.2, g.3 ∙ ap (λ (ps : List Pair). pairs ++ ps) (pass_hidden point before e rest hidden)));
          }

          -- or its pair is taken
          pub scanned_seen : is_hidden point before e ≡ false → length pairs < limit → IsScanned new (pairs ++ pair_of e) (Some e)
          scanned_seen seen room = record {
            few = omega (arith, length-append pairs (pair_of e), one_pair e, room);
            order = takes.order h.order;
            goes = λ rest these up. (let g = onward rest these up in (
              g.0,
              g.1,
              g.2,
              g.3 ∙ ap (λ (ps : List Pair). pairs ++ ps) (pass_seen point before e rest seen) ∙ sym (append_assoc pairs (pair_of e) (shown_pairs point (Some e) rest)),
            ));
          }

  -- nothing is taken yet
  pub scan_begins : (point limit : ℕ) (lists : List (List Entry)) → AllInOrder lists → IsScanned point limit (all_entries lists) lists [] None
  scan_begins point limit lists order = record { few = omega arith; order = order; goes = λ rest these up. (rest, these, up, refl) }
