-- Entries are cut into blocks in one way, and what one more entry makes of the cut.
use Rattle.std.proofs.Common.{◌≡◌, ℕ, ◌+◌, ◌-◌, ◌<◌, ◌≤◌, Bool, false, cond, leb, List, [], ◌∷◌, ◌++◌, length, take, drop, refl, sym, ap, subst, ◌∙◌, append_assoc, arith, inl, inr}
use Rattle.std.proofs.lemmas.Bool.{cases_Bool, le-leb, lt-leb, leb-true, leb-false}
use Rattle.std.proofs.lemmas.List.{length-append, append-nil, take-append-drop, take-take, take_at}
use Rattle.std.proofs.lemmas.List.Concat.{flat_map-append}
use Rattle.lsm_key.specs.declared.entry.Entry.{Entry}
use Rattle.lsm_key.specs.Places.{all_entries}
use Rattle.lsm_block.specs.Blocks.{entry, entries}
use Rattle.lsm_table.specs.Cuts.{but_last, IsOneCut, IsCut, cut_after, cut_of}

-- the first entries have no more bytes than all
pub front_small : (front more : List Entry) → length (entries front) ≤ length (entries (front ++ more))
front_small front more =
    let all : length (entries (front ++ more)) ≡ length (entries front) + length (entries more) = ap length (flat_map-append entry front more) ∙ length-append (entries front) (entries more) in
    omega (arith, all)

pub but_last_of : (es : List Entry) (e : Entry) → but_last (es ++ e ∷ []) ≡ es
but_last_of es e =
    let n : length (es ++ e ∷ []) - 1 ≡ length es = omega (arith, length-append es (e ∷ [])) in
    rw n (take_at es (e ∷ []) (length es) refl)

-- a front that is not all is a front of all but the last
front_of_late : (front : List Entry) (e : Entry) (more : List Entry) → length (entries front) ≤ length (entries (but_last (front ++ e ∷ more)))
front_of_late front e more =
    let whole : List Entry = front ++ e ∷ more in
    let n : ℕ = length whole - 1 in
    let short : length front ≤ n = omega (arith, length-append front (e ∷ more)) in
    let m : ℕ = length front in
    let parts : take m (but_last whole) ++ drop m (but_last whole) ≡ but_last whole = take-append-drop m (but_last whole) in
    let same : take m (but_last whole) ≡ front = take-take m n whole short ∙ take_at front (e ∷ more) m refl in
    let le = front_small front (drop m (but_last whole)) in
    let joined : front ++ drop m (but_last whole) ≡ but_last whole = ap (λ (xs : List Entry). xs ++ drop m (but_last whole)) (sym same) ∙ parts in
    subst (λ (xs : List Entry). length (entries front) ≤ length (entries xs)) joined le

pub one_entry : (target : ℕ) (e : Entry) → 1 ≤ target → IsOneCut target (e ∷ [])
one_entry target e some = record { some = omega arith; late = omega (arith, some) }

-- a block that has fewer bytes than the target takes one more
one_more : (target : ℕ) (taken : List Entry) (e : Entry) → length (entries taken) < target → IsOneCut target (taken ++ e ∷ [])
one_more target taken e lt = record {
  some = omega (arith, length-append taken (e ∷ []));
  late = subst (λ (xs : List Entry). length (entries xs) < target) (sym (but_last_of taken e)) lt;
}

-- ---- the cut has all the entries

after_all : (target : ℕ) (taken es : List Entry) → all_entries (cut_after target taken es) ≡ taken ++ es
after_all target taken [] = refl
after_all target taken (e ∷ es) =
    elim (cases_Bool (leb target (length (entries taken)))) [
      | inl full ↦ rw full (ap (λ (xs : List Entry). taken ++ xs) (after_all target (e ∷ []) es))
      | inr room ↦ rw room (after_all target (taken ++ e ∷ []) es ∙ append_assoc taken (e ∷ []) es)
    ]

pub cut_all : (target : ℕ) (es : List Entry) → all_entries (cut_of target es) ≡ es
cut_all target [] = refl
cut_all target (e ∷ es) = after_all target (e ∷ []) es

-- ---- the cut is a cut

after_some : (target : ℕ) (taken es : List Entry) → 0 < length (cut_after target taken es)
after_some target taken [] = omega arith
after_some target taken (e ∷ es) =
    elim (cases_Bool (leb target (length (entries taken)))) [
      | inl full ↦ rw full (omega arith)
      | inr room ↦ rw room (after_some target (taken ++ e ∷ []) es)
    ]

after_sound : (target : ℕ) (taken es : List Entry) → 1 ≤ target → IsOneCut target taken → IsCut target (cut_after target taken es)
after_sound target taken [] some one = (one, λ more. absurd (omega (arith, more)), tt)
after_sound target taken (e ∷ es) some one =
    elim (cases_Bool (leb target (length (entries taken)))) [
      | inl full ↦ rw full (one, λ more. leb-true target (length (entries taken)) full, after_sound target (e ∷ []) es some (one_entry target e some))
      | inr room ↦ rw room (after_sound target (taken ++ e ∷ []) es some (one_more target taken e (leb-false target (length (entries taken)) room)))
    ]

pub cut_sound : (target : ℕ) (es : List Entry) → 1 ≤ target → IsCut target (cut_of target es)
cut_sound target [] some = tt
cut_sound target (e ∷ es) some = after_sound target (e ∷ []) es some (one_entry target e some)

-- ---- there is no other cut

-- a block that is cut late takes all its entries
takes_block : (target : ℕ) (taken more rest : List Entry) → length (entries (but_last (taken ++ more))) < target → cut_after target taken (more ++ rest) ≡ cut_after target (taken ++ more) rest
takes_block target taken [] rest late = ap (λ (xs : List Entry). cut_after target xs rest) (sym (append-nil taken))
takes_block target taken (e ∷ more) rest late =
    let room : leb target (length (entries taken)) ≡ false = lt-leb target (length (entries taken)) (omega (arith, front_of_late taken e more, late)) in
    let regrouped : (taken ++ e ∷ []) ++ more ≡ taken ++ e ∷ more = append_assoc taken (e ∷ []) more in
    let later = takes_block target (taken ++ e ∷ []) more rest (subst (λ (xs : List Entry). length (entries (but_last xs)) < target) (sym regrouped) late) in
    rw room (later ∙ ap (λ (xs : List Entry). cut_after target xs rest) regrouped)

block_first : (target : ℕ) (es rest : List Entry) → IsOneCut target es → cut_of target (es ++ rest) ≡ cut_after target es rest
block_first target [] rest one = absurd (omega (arith, one.some))
block_first target (x ∷ es) rest one = takes_block target (x ∷ []) es rest one.late

full_block : (target : ℕ) (es rest : List Entry) → target ≤ length (entries es) → 0 < length rest → cut_after target es rest ≡ es ∷ cut_of target rest
full_block target es [] full some = absurd (omega (arith, some))
full_block target es (x ∷ rest) full some = rw (le-leb target (length (entries es)) full) refl

some_first : (blocks : List (List Entry)) (target : ℕ) → IsCut target blocks → 0 < length blocks → 0 < length (all_entries blocks)
some_first [] target cut some = absurd (omega (arith, some))
some_first (es ∷ blocks) target cut some = omega (arith, length-append es (all_entries blocks), cut.0.some)

block_more : (target : ℕ) (es : List Entry) (rest : List (List Entry)) → IsOneCut target es → (0 < length rest → target ≤ length (entries es)) → IsCut target rest → rest ≡ cut_of target (all_entries rest) → es ∷ rest ≡ cut_of target (es ++ all_entries rest)
block_more target es [] one full cut same = sym (block_first target es [] one)
block_more target es (fs ∷ more) one full cut same =
    let rest : List (List Entry) = fs ∷ more in
    let first = block_first target es (all_entries rest) one in
    let closes = full_block target es (all_entries rest) (full (omega arith)) (some_first rest target cut (omega arith)) in
    ap (λ (blocks : List (List Entry)). es ∷ blocks) same ∙ sym (first ∙ closes)

pub cut_one : (target : ℕ) (blocks : List (List Entry)) → IsCut target blocks → blocks ≡ cut_of target (all_entries blocks)
cut_one target [] cut = refl
cut_one target (es ∷ rest) cut = block_more target es rest cut.0 cut.1 cut.2 (cut_one target rest cut.2)

-- ---- one more entry

pub same_first : {A : Type 0} (x y : A) (xs ys : List A) → x ∷ xs ≡ y ∷ ys → x ≡ y
same_first x y xs ys e = cc

pub same_rest : {A : Type 0} (x y : A) (xs ys : List A) → x ∷ xs ≡ y ∷ ys → xs ≡ ys
same_rest x y xs ys e = cc

no_last : (closed : List (List Entry)) (last : List Entry) → [] ≡ closed ++ last ∷ [] → ⊥
no_last closed last e = let n = ap length e in omega (arith, n, length-append closed (last ∷ []))

-- only the last block matters for what comes
pub after_more : (target : ℕ) (taken es : List Entry) (e : Entry) (closed : List (List Entry)) (last : List Entry) → cut_after target taken es ≡ closed ++ last ∷ [] → cut_after target taken (es ++ e ∷ []) ≡ closed ++ cut_after target last (e ∷ [])
after_more target taken [] e [] last is = let same : taken ≡ last = same_first taken last [] [] is in ap (λ (xs : List Entry). cut_after target xs (e ∷ [])) same
after_more target taken [] e (c ∷ closed) last is = absurd (no_last closed last (same_rest taken c [] (closed ++ last ∷ []) is))
after_more target taken (x ∷ es) e [] last is =
    elim (cases_Bool (leb target (length (entries taken)))) [
      | inl full ↦
          let split : taken ∷ cut_after target (x ∷ []) es ≡ last ∷ [] = subst (λ (b : Bool). cond b (taken ∷ cut_after target (x ∷ []) es) (cut_after target (taken ++ x ∷ []) es) ≡ last ∷ []) full is in
          let none : cut_after target (x ∷ []) es ≡ [] = same_rest taken last (cut_after target (x ∷ []) es) [] split in
          absurd (omega (arith, ap length none, after_some target (x ∷ []) es))
      | inr room ↦
          let split : cut_after target (taken ++ x ∷ []) es ≡ last ∷ [] = subst (λ (b : Bool). cond b (taken ∷ cut_after target (x ∷ []) es) (cut_after target (taken ++ x ∷ []) es) ≡ last ∷ []) room is in
          rw room (after_more target (taken ++ x ∷ []) es e [] last split)
    ]
after_more target taken (x ∷ es) e (c ∷ closed) last is =
    elim (cases_Bool (leb target (length (entries taken)))) [
      | inl full ↦
          let split : taken ∷ cut_after target (x ∷ []) es ≡ c ∷ (closed ++ last ∷ []) = subst (λ (b : Bool). cond b (taken ∷ cut_after target (x ∷ []) es) (cut_after target (taken ++ x ∷ []) es) ≡ c ∷ (closed ++ last ∷ [])) full is in
          let same : taken ≡ c = same_first taken c (cut_after target (x ∷ []) es) (closed ++ last ∷ []) split in
          let later = after_more target (x ∷ []) es e closed last (same_rest taken c (cut_after target (x ∷ []) es) (closed ++ last ∷ []) split) in
          rw full (ap (λ (blocks : List (List Entry)). taken ∷ blocks) later ∙ ap (λ (xs : List Entry). xs ∷ (closed ++ cut_after target last (e ∷ []))) same)
      | inr room ↦
          let split : cut_after target (taken ++ x ∷ []) es ≡ c ∷ (closed ++ last ∷ []) = subst (λ (b : Bool). cond b (taken ∷ cut_after target (x ∷ []) es) (cut_after target (taken ++ x ∷ []) es) ≡ c ∷ (closed ++ last ∷ [])) room is in
          rw room (after_more target (taken ++ x ∷ []) es e (c ∷ closed) last split)
    ]
