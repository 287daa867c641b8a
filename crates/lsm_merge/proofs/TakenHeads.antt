-- Entries taken in turn from cursors that are read one entry ahead.
use Rattle.std.proofs.Common.{◌≡◌, ◌⊎◌, ◌<◌, List, [], ◌∷◌, ◌++◌, refl, sym, ap, subst, ◌∙◌, inl, inr, arith}
use Rattle.std.specs.List.Sorted.{IsPermutation}
use Rattle.std.proofs.lemmas.List.{append-nil, append_assoc}
use Rattle.std.proofs.lemmas.List.Sorted.{IsPermutation-cons, IsPermutation-refl, IsPermutation-trans, length_permutation}
use Rattle.lsm_key.specs.declared.entry.Entry.{Entry}
use Rattle.lsm_key.specs.Order.{IsInOrder}
use Rattle.lsm_key.specs.Places.{all_entries}
use Rattle.lsm_key.specs.Sets.{IsIn}
use Rattle.lsm_key.proofs.Lists.{IsIn-kept}
use Rattle.lsm_key.proofs.Membership.{IsIn-append_cases, IsIn-append_left, IsIn-append_right, IsIn-map, IsIn-mapped, IsIn-one, SameMembers-permutation}
use Rattle.lsm_table.specs.Heads.{AllInOrder, TakesFirst, has_entry}
use Rattle.lsm_table.proofs.ReadLists.{cons_in_order, entries_of_some, some_among, some_in_order}
use Rattle.lsm_merge.specs.declared.cursor_head.CursorHead.{CursorHead}
use Rattle.lsm_merge.specs.Laws.{AWalkReadsOneEntryAhead, AWalkTakesFromEachCursor}
use Rattle.lsm_merge.specs.Walks.{BeginsWalk, IsGivenFirst, GivesInTurn, left_to_merge, cursor_lists, WalkValue}

-- one after another
pub turns_chain : (old mid new : List CursorHead) (xs ys : List Entry) → GivesInTurn old xs mid → GivesInTurn mid ys new → GivesInTurn old (xs ++ ys) new
turns_chain old mid new [] ys one other = subst (λ (hs : List CursorHead). GivesInTurn hs ys new) one other
turns_chain old mid new (x ∷ xs) ys one other = (one.0, one.1, turns_chain one.0 mid new xs ys one.2 other)

-- ---- one entry

module _ (old new : List CursorHead) (e : Entry) (gives : IsGivenFirst old e new) where
  pub takes_one : TakesFirst (cursor_lists old) e (cursor_lists new)
  takes_one = subst (λ (f : Entry). TakesFirst (cursor_lists old) f (cursor_lists new)) gives.2 gives.3.1

  pub one_fewer : left_to_merge new < left_to_merge old
  one_fewer = omega (arith, length_permutation (all_entries (cursor_lists old)) (e ∷ all_entries (cursor_lists new)) takes_one.all)

-- ---- all and in order

pub turns_all : (old new : List CursorHead) (xs : List Entry) → GivesInTurn old xs new → IsPermutation (all_entries (cursor_lists old)) (xs ++ all_entries (cursor_lists new))
turns_all old new [] takes = subst (λ (hs : List CursorHead). IsPermutation (all_entries (cursor_lists old)) (all_entries (cursor_lists hs))) (sym takes) (IsPermutation-refl (all_entries (cursor_lists old)))
turns_all old new (x ∷ xs) takes =
    let next : List CursorHead = takes.0 in
    IsPermutation-trans (all_entries (cursor_lists old)) (x ∷ all_entries (cursor_lists next)) (x ∷ (xs ++ all_entries (cursor_lists new)))
    (takes_one old next x takes.1).all
    (IsPermutation-cons x (all_entries (cursor_lists next)) (xs ++ all_entries (cursor_lists new)) (turns_all next new xs takes.2))

pub turns_in_order : (old new : List CursorHead) (xs : List Entry) → GivesInTurn old xs new → AllInOrder (cursor_lists old) → IsInOrder xs
turns_in_order old new [] takes up = λ k d low lt. absurd (omega (arith, lt))
turns_in_order old new (x ∷ xs) takes up =
    let next : List CursorHead = takes.0 in
    let one = takes_one old next x takes.1 in
    let same = SameMembers-permutation (all_entries (cursor_lists next)) (xs ++ all_entries (cursor_lists new)) (turns_all next new xs takes.2) in
    cons_in_order x xs
    (λ f m. one.first up f ((same f).1 (IsIn-append_left f xs (all_entries (cursor_lists new)) m)))
    (turns_in_order next new xs takes.2 (one.order up))

module _ (lists : List (List Entry)) (start : WalkValue) (begins : BeginsWalk lists start) where
  pub walk_all : (xs : List Entry) (after : List CursorHead) → GivesInTurn start.heads xs after → IsPermutation (all_entries lists) (xs ++ all_entries (cursor_lists after))
  walk_all xs after takes =
      let same : all_entries (cursor_lists begins.cursors) ≡ all_entries lists = ap all_entries begins.read ∙ entries_of_some lists in
      IsPermutation-trans (all_entries lists) (all_entries (cursor_lists start.heads)) (xs ++ all_entries (cursor_lists after))
      (subst (λ (es : List Entry). IsPermutation es (all_entries (cursor_lists start.heads))) same begins.placed.all)
      (turns_all start.heads after xs takes)

  pub walk_in_order : (xs : List Entry) (after : List CursorHead) → GivesInTurn start.heads xs after → AllInOrder lists → IsInOrder xs
  walk_in_order xs after takes up =
      turns_in_order start.heads after xs takes (begins.placed.order (subst AllInOrder (sym begins.read) (some_in_order lists up)))

-- ---- one entry ahead

-- what was taken, and then the entry that was taken
with_last : (given taken : List Entry) (first e : Entry) → first ≡ e → ((f : Entry) → IsIn f given → IsIn f taken) → (f : Entry) → IsIn f (given ++ first ∷ []) → IsIn f (taken ++ e ∷ [])
with_last given taken first e same was f m =
    elim (IsIn-append_cases f given (first ∷ []) m) [
      | inl earlier ↦ IsIn-append_left f taken (e ∷ []) (was f earlier)
      | inr last ↦ IsIn-append_right f taken (e ∷ []) (inl (IsIn-one f first last ∙ same))
    ]

-- what the cursor of each head has given, but for that head, was taken
abbrev AreAhead : List (List Entry) → List Entry → List CursorHead → Type 0
AreAhead lists taken heads = (h : CursorHead) → IsIn h heads → (given : List Entry) × IsIn (given ++ h.entry ∷ h.rest) lists × ((e : Entry) → IsIn e given → IsIn e taken)

module _ (lists : List (List Entry)) where
  one_ahead : (taken : List Entry) (old new : List CursorHead) (e : Entry) → AreAhead lists taken old → IsGivenFirst old e new → AreAhead lists (taken ++ e ∷ []) new
  one_ahead taken old new e ahead gives h m =
      let first : CursorHead = gives.0 in
      let advances = gives.3.0 in
      let others : List CursorHead = advances.0 in
      let among = SameMembers-permutation old (first ∷ others) advances.1 in
      let stays : IsIn h others → (given : List Entry) × IsIn (given ++ h.entry ∷ h.rest) lists × ((f : Entry) → IsIn f given → IsIn f (taken ++ e ∷ [])) = λ n.
      (let own = ahead h ((among h).1 (inr n)) in
      (own.0, own.1, λ f k. IsIn-append_left f taken (e ∷ []) (own.2 f k))) in
      elim advances.2 [
        | inl ended ↦ stays ((SameMembers-permutation others new ended.1 h).1 m)
        | inr on ↦
            let next : CursorHead = on.0 in
            elim ((SameMembers-permutation (next ∷ others) new on.2 h).1 m) [
              | inr before ↦ stays before
              | inl same ↦
                  let own = ahead first ((among first).1 (inl refl)) in
                  let is : own.0 ++ first.entry ∷ first.rest ≡ (own.0 ++ first.entry ∷ []) ++ h.entry ∷ h.rest =
                  ap (λ (es : List Entry). own.0 ++ first.entry ∷ es) (on.1 ∙ ap (λ (g : CursorHead). g.entry ∷ g.rest) (sym same)) ∙ sym (append_assoc own.0 (first.entry ∷ []) (h.entry ∷ h.rest)) in (
                    own.0 ++ first.entry ∷ [],
                    subst (λ (es : List Entry). IsIn es lists) is own.1,
                    with_last own.0 taken first.entry e gives.2 own.2,
                  )
            ]
      ]

  all_ahead : (taken more : List Entry) (old new : List CursorHead) → AreAhead lists taken old → GivesInTurn old more new → AreAhead lists (taken ++ more) new
  all_ahead taken [] old new ahead takes = rw (takes, append-nil taken) ahead
  all_ahead taken (e ∷ more) old new ahead takes =
      subst (λ (es : List Entry). AreAhead lists es new) (append_assoc taken (e ∷ []) more) (all_ahead (taken ++ e ∷ []) more takes.0 new (one_ahead taken old takes.0 e ahead takes.1) takes.2)

pub reads_ahead : AWalkReadsOneEntryAhead
reads_ahead lists start last taken kept begins took =
    all_ahead lists [] taken start.heads last.heads
    (λ h m.
    let among = (SameMembers-permutation begins.cursors start.heads begins.placed.same h).1 m in
    let in_left : IsIn (h.entry ∷ h.rest) (cursor_lists begins.cursors) = IsIn-map (λ (g : CursorHead). g.entry ∷ g.rest) h begins.cursors among in
    ([], some_among (h.entry ∷ h.rest) lists (subst (IsIn (h.entry ∷ h.rest)) begins.read in_left), λ e k. k))
    took.takes

-- ---- each cursor

-- all of a list was taken, or a head holds what is left of it
abbrev IsTakenFrom : List Entry → List Entry → List CursorHead → Type 0
IsTakenFrom list taken heads = ((e : Entry) → IsIn e list → IsIn e taken) ⊎ ((h : CursorHead) × IsIn h heads × (given : List Entry) × (list ≡ given ++ h.entry ∷ h.rest) × ((e : Entry) → IsIn e given → IsIn e taken))

module _ (list : List Entry) where
  one_from : (taken : List Entry) (old new : List CursorHead) (e : Entry) → IsTakenFrom list taken old → IsGivenFirst old e new → IsTakenFrom list (taken ++ e ∷ []) new
  one_from taken old new e from gives =
      elim from [
        | inl whole ↦ inl (λ f m. IsIn-append_left f taken (e ∷ []) (whole f m))
        | inr held ↦
            let first : CursorHead = gives.0 in
            let advances = gives.3.0 in
            let others : List CursorHead = advances.0 in
            let h : CursorHead = held.0 in
            let given : List Entry = held.2 in
            let stays : IsIn h new → IsTakenFrom list (taken ++ e ∷ []) new = λ m. inr (h, m, given, held.3, λ f k. IsIn-append_left f taken (e ∷ []) (held.4 f k)) in
            elim ((SameMembers-permutation old (first ∷ others) advances.1 h).0 held.1) [
              | inr other ↦ elim advances.2 [
                | inl ended ↦ stays ((SameMembers-permutation others new ended.1 h).0 other)
                | inr on ↦ stays ((SameMembers-permutation (on.0 ∷ others) new on.2 h).0 (inr other))
              ]
              | inl same ↦
                  let parts : list ≡ given ++ first.entry ∷ first.rest = held.3 ∙ ap (λ (g : CursorHead). given ++ g.entry ∷ g.rest) same in
                  let with = with_last given taken first.entry e gives.2 held.4 in
                  elim advances.2 [
                    | inl ended ↦ inl (λ f m. with f (subst (IsIn f) (parts ∙ ap (λ (es : List Entry). given ++ first.entry ∷ es) ended.0) m))
                    | inr on ↦
                        let next : CursorHead = on.0 in
                        inr (next, (SameMembers-permutation (next ∷ others) new on.2 next).0 (inl refl), given ++ first.entry ∷ [], parts ∙ ap (λ (es : List Entry). given ++ first.entry ∷ es) on.1 ∙ sym (append_assoc given (first.entry ∷ []) (next.entry ∷ next.rest)), with)
                  ]
            ]
      ]

  all_from : (taken more : List Entry) (old new : List CursorHead) → IsTakenFrom list taken old → GivesInTurn old more new → IsTakenFrom list (taken ++ more) new
  all_from taken [] old new from takes = rw (takes, append-nil taken) from
  all_from taken (e ∷ more) old new from takes =
      subst (λ (es : List Entry). IsTakenFrom list es new) (append_assoc taken (e ∷ []) more) (all_from (taken ++ e ∷ []) more takes.0 new (one_from taken old takes.0 e from takes.1) takes.2)

module _ (lists : List (List Entry)) (start : WalkValue) (begins : BeginsWalk lists start) where
  begins_from : (list : List Entry) → IsIn list lists → IsTakenFrom list [] start.heads
  begins_from [] m = inl (λ e k. k)
  begins_from (e ∷ es) m =
      let in_left : IsIn (e ∷ es) (cursor_lists begins.cursors) = subst (IsIn (e ∷ es)) (sym begins.read) (IsIn-kept has_entry (e ∷ es) lists m refl) in
      let read = IsIn-mapped (λ (g : CursorHead). g.entry ∷ g.rest) (e ∷ es) begins.cursors in_left in
      inr (read.0, (SameMembers-permutation begins.cursors start.heads begins.placed.same read.0).0 read.1, [], read.2, λ f k. absurd k)

pub takes_from_each : AWalkTakesFromEachCursor
takes_from_each lists start last taken kept begins took list m = all_from list [] taken start.heads last.heads (begins_from lists start begins list m) took.takes
