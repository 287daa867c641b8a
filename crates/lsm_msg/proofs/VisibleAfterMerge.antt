-- What the outputs of a merge show, against what its inputs showed.
use Rattle.std.proofs.Common.{◌≡◌, ℕ, ◌<◌, ◌≤◌, Bool, true, false, cond, ◌&&◌, not, ◌⊎◌, List, [], ◌∷◌, ◌++◌, Option, Some, None, refl, sym, ap, subst, ◌∙◌, inl, inr, arith, leb}
use Rattle.std.specs.Option.{option_and_then}
use Rattle.std.proofs.lemmas.Bool.{true≢false, cases_Bool, and_parts, leb-true, lt-ltb, not-true}
use Rattle.lsm_key.specs.declared.entry.Entry.{Entry}
use Rattle.lsm_key.specs.declared.entry.Kind.{Kind}
use Rattle.lsm_key.specs.declared.entry.Kind.TheVariants.{Delete, Put}
use Rattle.lsm_key.specs.Sets.{IsIn, SameMembers}
use Rattle.lsm_key.specs.Visible.{Latest, IsLatest, IsUnique, has_key, is_seen, newer, latest, value_by_kind, entry_value}
use Rattle.lsm_key.proofs.LatestOfList.{latest-is, latest-append, latest_one, latest_alike, AreApart, at_visible, has_key-is, has_key-at, is_seen-key, is_seen-from}
use Rattle.lsm_key.proofs.Membership.{IsIn-append_left, IsIn-append_cases}
use Rattle.lsm_key.specs.declared.range.KeyRange.{KeyRange}
use Rattle.lsm_msg.specs.Merge.{IsNeeded, IsKept, HoldsKept, is_deletion, is_at_most_all, is_in_ranges, may_go}
use Rattle.lsm_msg.specs.Laws.{ReadAlike, ReadsStay}
use Rattle.lsm_msg.proofs.KeptEntries.{at_newest, kept_input}

no_value : (kind : Kind) (value : List ℕ) → is_deletion kind ≡ true → value_by_kind kind value ≡ None
no_value Delete value h = refl
no_value Put value h = absurd (true≢false (sym h))

at_most : (points : List ℕ) (s q : ℕ) → is_at_most_all points s ≡ true → IsIn q points → s ≤ q
at_most [] s q h m = absurd m
at_most (p ∷ ps) s q h m =
    let parts = and_parts (leb s p) (is_at_most_all ps s) h in
    elim m [ inl e ↦ let le : s ≤ p = leb-true s p parts.0 in omega arith | inr n ↦ at_most ps s q parts.1 n ]

-- whatever is needed of a key is no older than an entry of it that every point sees
needed_newer : (inputs : List Entry) (points : List ℕ) (x y : Entry) → IsIn x inputs → x.ikey.key ≡ y.ikey.key → is_at_most_all points x.ikey.seq ≡ true → IsNeeded inputs points y → x.ikey.seq ≤ y.ikey.seq
needed_newer inputs points x y m same low n = elim n [
  | inl at_end ↦ (at_newest inputs y.ikey.key y at_end).greatest x m (has_key-at y.ikey.key x same)
  | inr seen ↦ (at_visible inputs y.ikey.key seen.0 y seen.2).greatest x m (is_seen-from y.ikey.key seen.0 x same (at_most points x.ikey.seq seen.0 low seen.1))
]

pub gone_parts : (points : List ℕ) (deeper : List KeyRange) (x : Entry) → may_go points deeper x ≡ true → (is_deletion x.ikey.kind ≡ true) × (is_at_most_all points x.ikey.seq ≡ true) × (is_in_ranges deeper x.ikey.key ≡ false)
gone_parts points deeper x gone =
    let parts = and_parts (is_deletion x.ikey.kind) (is_at_most_all points x.ikey.seq && not (is_in_ranges deeper x.ikey.key)) gone in
    let rest = and_parts (is_at_most_all points x.ikey.seq) (not (is_in_ranges deeper x.ikey.key)) parts.1 in
    (parts.0, rest.0, not-true (is_in_ranges deeper x.ikey.key) rest.1)

-- where every input is seen, the newest is what is seen
all_seen : (inputs : List Entry) (key : List ℕ) (p : ℕ) → IsUnique inputs → ((e : Entry) → IsIn e inputs → e.ikey.seq ≤ p) → (x : Entry) → latest (is_seen key p) inputs ≡ Some x → latest (has_key key) inputs ≡ Some x
all_seen inputs key p unique low x e =
    let top = at_visible inputs key p x e in
    let apart : AreApart (has_key key) inputs = λ y z my mz ty tz s. unique y z my mz (has_key-is key y ty ∙ sym (has_key-is key z tz)) s in
    latest_one (has_key key) inputs apart (latest (has_key key) inputs) (Some x) (latest-is (has_key key) inputs) (record {
      member = top.member;
      satisfies = has_key-at key x (is_seen-key key p x top.satisfies);
      greatest = λ y m ty. top.greatest y m (is_seen-from key p y (has_key-is key y ty) (low y m));
    })

-- what is left of a key is newer than its deletion, where that goes
abbrev pub NoneOlder : List Entry → List ℕ → List KeyRange → List Entry → Type 0
NoneOlder inputs points deeper rest = (x y : Entry) → IsIn x inputs → IsIn y rest → x.ikey.key ≡ y.ikey.key → may_go points deeper x ≡ true → x.ikey.seq < y.ikey.seq

module _ (inputs outputs : List Entry) (points : List ℕ) (deeper : List KeyRange) (unique : IsUnique inputs) (kept : HoldsKept inputs points deeper outputs) where
  was_input : (x : Entry) → IsIn x outputs → IsIn x inputs
  was_input x m = kept_input inputs points deeper x ((kept x).0 m)

  -- a read of a key that needs what it sees
  module _ (key : List ℕ) (test : Entry → Bool) (of_key : (x : Entry) → test x ≡ true → x.ikey.key ≡ key) (needs : (x : Entry) → x.ikey.key ≡ key → latest test inputs ≡ Some x → IsNeeded inputs points x) where
    shows : (r : Option Entry) → Latest test outputs r → latest test outputs ≡ r
    shows r h =
        let apart : AreApart test outputs = λ x y mx my tx ty s. unique x y (was_input x mx) (was_input y my) (of_key x tx ∙ sym (of_key y ty)) s in
        latest_one test outputs apart (latest test outputs) r (latest-is test outputs) h

    stays : (x : Entry) → IsLatest test inputs x → IsKept inputs points deeper x → latest test outputs ≡ Some x
    stays x top k = shows (Some x) (record { member = (kept x).1 k; satisfies = top.satisfies; greatest = λ y m ty. top.greatest y (was_input y m) ty })

    goes : (x : Entry) → IsLatest test inputs x → is_at_most_all points x.ikey.seq ≡ true → may_go points deeper x ≡ true → latest test outputs ≡ None
    goes x top low gone = shows None (λ y m ty.
        let same : x.ikey.key ≡ y.ikey.key = of_key x top.satisfies ∙ sym (of_key y ty) in
        let k = (kept y).0 m in
        let a : x.ikey.seq ≤ y.ikey.seq = needed_newer inputs points x y top.member same low k.needed in
        let b : y.ikey.seq ≤ x.ikey.seq = top.greatest y (was_input y m) ty in
        let s : x.ikey.seq ≡ y.ikey.seq = omega arith in
        let e : x ≡ y = unique x y top.member (was_input y m) same s in
        true≢false (sym gone ∙ ap (may_go points deeper) e ∙ k.stays))

    -- the outputs show the same, or nothing for a deletion that went
    abbrev pub Shown : Option Entry → Option Entry → Type 0
    Shown before after = (after ≡ before) ⊎ ((x : Entry) × (before ≡ Some x) × IsIn x inputs × (may_go points deeper x ≡ true) × (after ≡ None))

    pub shown : (r : Option Entry) → latest test inputs ≡ r → Shown r (latest test outputs)
    shown None e =
        let none : Latest test inputs None = subst (Latest test inputs) e (latest-is test inputs) in
        inl (shows None (λ y m ty. none y (was_input y m) ty))
    shown (Some x) e =
        let top : IsLatest test inputs x = subst (Latest test inputs) e (latest-is test inputs) in
        elim (cases_Bool (may_go points deeper x)) [
          | inl gone ↦ inr (x, refl, top.member, gone, goes x top (gone_parts points deeper x gone).1 gone)
          | inr stay ↦ inl (stays x top (record { needed = needs x (of_key x top.satisfies) e; stays = stay }))
        ]

  -- ---- beside other entries, none of which is older than a deletion that goes

  module _ (rest : List Entry) (none_older : NoneOlder inputs points deeper rest) where
    abbrev pub SameBeside : (Entry → Bool) → Type 0
    SameBeside test = option_and_then entry_value (newer (latest test outputs) (latest test rest)) ≡ option_and_then entry_value (newer (latest test inputs) (latest test rest))

    module _ (key : List ℕ) (test : Entry → Bool) (of_key : (x : Entry) → test x ≡ true → x.ikey.key ≡ key) where
      -- a deletion that goes hides nothing
      hides_none : (x : Entry) → IsLatest test inputs x → may_go points deeper x ≡ true → (r : Option Entry) → Latest test rest r → option_and_then entry_value r ≡ option_and_then entry_value (newer (Some x) r)
      hides_none x top gone None h = sym (no_value x.ikey.kind x.value (gone_parts points deeper x gone).0)
      hides_none x top gone (Some y) h =
          let lt : x.ikey.seq < y.ikey.seq = none_older x y top.member h.member (of_key x top.satisfies ∙ sym (of_key y h.satisfies)) gone in
          sym (ap (λ (b : Bool). option_and_then entry_value (cond b (Some y) (Some x))) (lt-ltb x.ikey.seq y.ikey.seq lt))

      same_beside : ((x : Entry) → x.ikey.key ≡ key → latest test inputs ≡ Some x → IsNeeded inputs points x) → SameBeside test
      same_beside needs = elim (shown key test of_key needs (latest test inputs) refl) [
        | inl e ↦ ap (λ (r : Option Entry). option_and_then entry_value (newer r (latest test rest))) e
        | inr (x, e, m, gone, none) ↦
            let top : IsLatest test inputs x = subst (Latest test inputs) e (latest-is test inputs) in
            ap (λ (r : Option Entry). option_and_then entry_value (newer r (latest test rest))) none
            ∙ hides_none x top gone (latest test rest) (latest-is test rest)
            ∙ sym (ap (λ (r : Option Entry). option_and_then entry_value (newer r (latest test rest))) e)
      ]

    module _ (one other : List Entry) (one_unique : IsUnique one) (other_unique : IsUnique other) (one_is : SameMembers one (outputs ++ rest)) (other_is : SameMembers other (inputs ++ rest)) where
      of_wholes : (key : List ℕ) (test : Entry → Bool) → ((x : Entry) → test x ≡ true → x.ikey.key ≡ key) → SameBeside test → option_and_then entry_value (latest test one) ≡ option_and_then entry_value (latest test other)
      of_wholes key test of_key same =
          ap (option_and_then entry_value) (latest_alike test one (outputs ++ rest) (λ x y mx my tx ty s. one_unique x y mx my (of_key x tx ∙ sym (of_key y ty)) s) one_is ∙ latest-append test outputs rest)
          ∙ same
          ∙ sym (ap (option_and_then entry_value) (latest_alike test other (inputs ++ rest) (λ x y mx my tx ty s. other_unique x y mx my (of_key x tx ∙ sym (of_key y ty)) s) other_is ∙ latest-append test inputs rest))

      -- outputs in place of inputs
      pub alike : ReadAlike points inputs one other
      alike key = (
        of_wholes key (has_key key) (has_key-is key) (same_beside key (has_key key) (has_key-is key)
            (λ x same e. inl (ap (λ (c : List ℕ). latest (has_key c) inputs) same ∙ e))),
        λ p m. of_wholes key (is_seen key p) (is_seen-key key p) (same_beside key (is_seen key p) (is_seen-key key p)
            (λ x same e. inr (p, m, ap (λ (c : List ℕ). latest (is_seen c p) inputs) same ∙ e))),
        λ p low. of_wholes key (is_seen key p) (is_seen-key key p) (same_beside key (is_seen key p) (is_seen-key key p)
            (λ x same e. inl (ap (λ (c : List ℕ). latest (has_key c) inputs) same ∙ all_seen inputs key p unique low x e))),
      )

no_more : (es : List Entry) → SameMembers es (es ++ [])
no_more es x = (IsIn-append_left x es [], λ m. elim (IsIn-append_cases x es [] m) [ inl a ↦ a | inr none ↦ absurd none ])

pub reads_stay : ReadsStay
reads_stay inputs outputs points deeper unique kept =
    let was = was_input inputs outputs points deeper unique kept in
    alike inputs outputs points deeper unique kept [] (λ x y mx my. absurd my) outputs inputs (λ x y mx my. unique x y (was x mx) (was y my)) unique (no_more outputs) (no_more inputs)
