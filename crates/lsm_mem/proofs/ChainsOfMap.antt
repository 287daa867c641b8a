-- The pairs of a map, seen as chains.
use Rattle.std.proofs.Common.{◌≡◌, ℕ, ◌-◌, ◌<◌, arith, length, Bool, true, false, cond, List, [], ◌∷◌, ◌++◌, Option, Some, None, IsSome, option_to_list, refl, sym, ap, subst, ◌∙◌, ◌⊎◌, inl, inr}
use Rattle.std.specs.declared.cmp.Ordering.{Ordering}
use Rattle.std.specs.declared.cmp.Ordering.TheVariants.{Less, Equal, Greater}
use Rattle.std.specs.declared.vec.Vec.{Vec}
use Rattle.std.specs.Ordering.{nat_cmp, is_eq, match_ordering}
use Rattle.std.specs.Cmp.Lexicographic.{slice_cmp}
use Rattle.std.specs.List.{AllByRecursion}
use Rattle.std.specs.List.Sorted.{IsStrictlySortedBy}
use Rattle.std.specs.Map.{lookup, set_value, remove_entry, keys_of}
use Rattle.std.specs.BTreeMap.{insert_entry}
use Rattle.std.proofs.lemmas.List.{take_at, length_push}
use Rattle.std.proofs.lemmas.Map.Keys.{sorted_head, sorted_tail}
use Rattle.std.proofs.lemmas.Cmp.{nat_list_cmp_total, tied_itself}
use Rattle.lsm_key.specs.declared.entry.Entry.{Entry}
use Rattle.lsm_key.specs.Sets.{IsIn}
use Rattle.lsm_key.proofs.EntryOrder.{keys_equal}
use Rattle.lsm_mem.specs.Chains.{Chain, chain_of, chains_of, IsBeforeChains, with_entry, without_newest, older, chain_if}

-- ---- the order of keys

abbrev pub key_cmp : List ℕ → List ℕ → Ordering
key_cmp a b = slice_cmp nat_cmp a b

pub same_key : (key : List ℕ) → key_cmp key key ≡ Equal
same_key key = tied_itself nat_list_cmp_total key

is_eq-Equal : (o : Ordering) → is_eq o ≡ true → o ≡ Equal
is_eq-Equal Less h = absurd cc
is_eq-Equal Equal h = refl
is_eq-Equal Greater h = absurd cc

-- keys that compare equal are one
pub tied_keys : (a b : List ℕ) → is_eq (key_cmp a b) ≡ true → a ≡ b
tied_keys a b h = keys_equal a b (is_eq-Equal (key_cmp a b) h)

-- ---- the versions but the newest

pub chain_if-some : (key : List ℕ) (es : List Entry) → 0 < length es → chain_if key es ≡ record { key = key; versions = es } ∷ []
chain_if-some key [] some = absurd (omega arith)
chain_if-some key (e ∷ es) some = refl

pub older-push : (es : List Entry) (e : Entry) → older (es ++ e ∷ []) ≡ es
older-push es e = take_at es (e ∷ []) (length (es ++ e ∷ []) - 1) (omega (arith, length_push es e))

-- what a `pop` leaves
pub older_popped : (es rest : List Entry) (last : Option Entry) → es ≡ rest ++ option_to_list last → (length rest ≡ 0) ⊎ IsSome last → older es ≡ rest
older_popped es rest (Some e) is some = ap older is ∙ older-push rest e
older_popped es [] None is some = ap older is
older_popped es (x ∷ rest) None is some = elim some [ inl none ↦ absurd (omega arith) | inr h ↦ absurd cc ]

-- the keys of chains ascend
abbrev pub KeysAscend : List Chain → Type 0
KeysAscend [] = Unit {0}
KeysAscend (c ∷ cs) = IsBeforeChains c.key cs × KeysAscend cs

-- the order of the map's keys
abbrev pub vec_cmp : {Y : Type 0} → Vec ℕ Y → Vec ℕ Y → Ordering
vec_cmp a b = slice_cmp nat_cmp a.items b.items

-- the test of a look-up
abbrev pub is_key : {Y : Type 0} → List ℕ → Vec ℕ Y → Bool
is_key key k = is_eq (slice_cmp nat_cmp key k.items)

module _ {Y Z : Type 0} where
  before_all : (key : List ℕ) (ps : List (Vec ℕ Y × Vec Entry Z)) → AllByRecursion (λ (k : Vec ℕ Y). slice_cmp nat_cmp key k.items ≡ Less) (keys_of ps) → IsBeforeChains key (chains_of ps)
  before_all key [] h c m = absurd m
  before_all key (p ∷ ps) h c m = elim m [ inl e ↦ subst (λ (d : Chain). key_cmp key d.key ≡ Less) (sym e) h.0 | inr n ↦ before_all key ps h.1 c n ]

  pub keys_ascend : (ps : List (Vec ℕ Y × Vec Entry Z)) → IsStrictlySortedBy vec_cmp (keys_of ps) → KeysAscend (chains_of ps)
  keys_ascend [] h = tt
  keys_ascend (p ∷ ps) h = (before_all p.0.items ps (sorted_head vec_cmp p.0 (keys_of ps) h), keys_ascend ps (sorted_tail vec_cmp p.0 (keys_of ps) h))

  -- ---- a look-up

  not_first : (key : List ℕ) (p : Vec ℕ Y × Vec Entry Z) (b : Bool) (rest : Option (Vec Entry Z)) → is_key key p.0 ≡ b → cond b (Some p.1) rest ≡ None → (p.0.items ≡ key → ⊥) × (rest ≡ None)
  not_first key p true rest e h = absurd cc
  not_first key p false rest e h = (λ same. let t : is_key key p.0 ≡ true = subst (λ (x : List ℕ). is_eq (key_cmp key x) ≡ true) (sym same) (ap is_eq (same_key key)) in cc, h)

  pub lookup_none : (key : List ℕ) (ps : List (Vec ℕ Y × Vec Entry Z)) → lookup (is_key key) ps ≡ None → (c : Chain) → IsIn c (chains_of ps) → c.key ≡ key → ⊥
  lookup_none key [] h c m same = m
  lookup_none key (p ∷ ps) h c m same =
      let parts = not_first key p (is_key key p.0) (lookup (is_key key) ps) refl h in
      elim m [
        | inl here ↦ parts.0 (sym (ap (λ (d : Chain). d.key) here) ∙ same)
        | inr n ↦ lookup_none key ps parts.1 c n same
      ]

  first_or : (key : List ℕ) (p : Vec ℕ Y × Vec Entry Z) (v : Vec Entry Z) (b : Bool) (rest : Option (Vec Entry Z)) → is_key key p.0 ≡ b → cond b (Some p.1) rest ≡ Some v → ((key ≡ p.0.items) × (v ≡ p.1)) ⊎ (rest ≡ Some v)
  first_or key p v true rest e h = inl (tied_keys key p.0.items e, (cc))
  first_or key p v false rest e h = inr h

  pub lookup_some : (key : List ℕ) (ps : List (Vec ℕ Y × Vec Entry Z)) (v : Vec Entry Z) → lookup (is_key key) ps ≡ Some v → IsIn (record { key = key; versions = v.items }) (chains_of ps)
  lookup_some key [] v h = absurd cc
  lookup_some key (p ∷ ps) v h = elim (first_or key p v (is_key key p.0) (lookup (is_key key) ps) refl h) [
    | inl same ↦ inl (λ i. record { key = same.0 i; versions = (same.1 i).items })
    | inr rest ↦ inr (lookup_some key ps v rest)
  ]

  -- ---- one more entry

  written_at : (e : Entry) (p : Vec ℕ Y × Vec Entry Z) (ps set : List (Vec ℕ Y × Vec Entry Z)) (v w : Vec Entry Z) (o : Ordering) → key_cmp e.ikey.key p.0.items ≡ o → IsBeforeChains p.0.items (chains_of ps) → cond (is_eq o) (Some p.1) (lookup (is_key e.ikey.key) ps) ≡ Some v → w.items ≡ v.items ++ e ∷ []
      → (lookup (is_key e.ikey.key) ps ≡ Some v → chains_of set ≡ with_entry e (chains_of ps))
      → chains_of (cond (is_eq o) ((p.0, w) ∷ ps) (p ∷ set))
      ≡ match_ordering o (record { key = e.ikey.key; versions = e ∷ [] } ∷ chain_of p ∷ chains_of ps) (record { key = p.0.items; versions = p.1.items ++ e ∷ [] } ∷ chains_of ps) (chain_of p ∷ with_entry e (chains_of ps))
  written_at e p ps set v w Less less before found items rest =
      let back : key_cmp p.0.items e.ikey.key ≡ Less = before (record { key = e.ikey.key; versions = v.items }) (lookup_some e.ikey.key ps v found) in
      let bad : key_cmp e.ikey.key e.ikey.key ≡ Less = nat_list_cmp_total.trans e.ikey.key p.0.items e.ikey.key less back in
      let same : key_cmp e.ikey.key e.ikey.key ≡ Equal = same_key e.ikey.key in
      cc
  written_at e p ps set v w Equal tied before found items rest =
      let own : p.1 ≡ v = cc in
      let longer : w.items ≡ p.1.items ++ e ∷ [] = items ∙ ap (λ (u : Vec Entry Z). u.items ++ e ∷ []) (sym own) in
      ap (λ (es : List Entry). record { key = p.0.items; versions = es } ∷ chains_of ps) longer
  written_at e p ps set v w Greater more before found items rest = ap (λ (cs : List Chain). chain_of p ∷ cs) (rest found)

  -- a longer value of the entry's key
  pub set_value-with_entry : (e : Entry) (ps : List (Vec ℕ Y × Vec Entry Z)) (v w : Vec Entry Z) → KeysAscend (chains_of ps) → lookup (is_key e.ikey.key) ps ≡ Some v → w.items ≡ v.items ++ e ∷ [] → chains_of (set_value (is_key e.ikey.key) ps w) ≡ with_entry e (chains_of ps)
  set_value-with_entry e [] v w up found items = absurd cc
  set_value-with_entry e (p ∷ ps) v w up found items =
      written_at e p ps (set_value (is_key e.ikey.key) ps w) v w (key_cmp e.ikey.key p.0.items) refl up.0 found items (λ h. set_value-with_entry e ps v w up.1 h items)

  inserted_at : (e : Entry) (k : Vec ℕ Y) (p : Vec ℕ Y × Vec Entry Z) (ps put : List (Vec ℕ Y × Vec Entry Z)) (v : Vec Entry Z) (o : Ordering) → cond (is_eq o) (Some p.1) (lookup (is_key e.ikey.key) ps) ≡ None → k.items ≡ e.ikey.key → v.items ≡ e ∷ []
      → (lookup (is_key e.ikey.key) ps ≡ None → chains_of put ≡ with_entry e (chains_of ps))
      → chains_of (match_ordering o ((k, v) ∷ p ∷ ps) ((p.0, v) ∷ ps) (p ∷ put))
      ≡ match_ordering o (record { key = e.ikey.key; versions = e ∷ [] } ∷ chain_of p ∷ chains_of ps) (record { key = p.0.items; versions = p.1.items ++ e ∷ [] } ∷ chains_of ps) (chain_of p ∷ with_entry e (chains_of ps))
  inserted_at e k p ps put v Less absent key items rest = (λ i. record { key = key i; versions = items i } ∷ chain_of p ∷ chains_of ps)
  inserted_at e k p ps put v Equal absent key items rest = absurd cc
  inserted_at e k p ps put v Greater absent key items rest = ap (λ (cs : List Chain). chain_of p ∷ cs) (rest absent)

  -- a first value of the entry's key
  pub insert_entry-with_entry : (e : Entry) (k : Vec ℕ Y) (v : Vec Entry Z) (ps : List (Vec ℕ Y × Vec Entry Z)) → lookup (is_key e.ikey.key) ps ≡ None → k.items ≡ e.ikey.key → v.items ≡ e ∷ [] → chains_of (insert_entry vec_cmp ps k v) ≡ with_entry e (chains_of ps)
  insert_entry-with_entry e k v [] absent key items = (λ i. record { key = key i; versions = items i } ∷ [])
  insert_entry-with_entry e k v (p ∷ ps) absent key items =
      ap (λ (x : List ℕ). chains_of (match_ordering (key_cmp x p.0.items) ((k, v) ∷ p ∷ ps) ((p.0, v) ∷ ps) (p ∷ insert_entry vec_cmp ps k v))) key
      ∙ inserted_at e k p ps (insert_entry vec_cmp ps k v) v (key_cmp e.ikey.key p.0.items) absent key items (λ h. insert_entry-with_entry e k v ps h key items)

  -- ---- the same entries

  same_at : (p : Vec ℕ Y × Vec Entry Z) (ps set : List (Vec ℕ Y × Vec Entry Z)) (rest : Option (Vec Entry Z)) (v w : Vec Entry Z) (b : Bool) → cond b (Some p.1) rest ≡ Some v → w.items ≡ v.items → (rest ≡ Some v → chains_of set ≡ chains_of ps) → chains_of (cond b ((p.0, w) ∷ ps) (p ∷ set)) ≡ chain_of p ∷ chains_of ps
  same_at p ps set rest v w true found items next =
      let own : p.1 ≡ v = cc in
      ap (λ (es : List Entry). record { key = p.0.items; versions = es } ∷ chains_of ps) (items ∙ ap (λ (u : Vec Entry Z). u.items) (sym own))
  same_at p ps set rest v w false found items next = ap (λ (cs : List Chain). chain_of p ∷ cs) (next found)

  -- a value with the same items
  pub set_value-same : (key : List ℕ) (ps : List (Vec ℕ Y × Vec Entry Z)) (v w : Vec Entry Z) → lookup (is_key key) ps ≡ Some v → w.items ≡ v.items → chains_of (set_value (is_key key) ps w) ≡ chains_of ps
  set_value-same key [] v w found items = refl
  set_value-same key (p ∷ ps) v w found items = same_at p ps (set_value (is_key key) ps w) (lookup (is_key key) ps) v w (is_key key p.0) found items (λ h. set_value-same key ps v w h items)

  -- ---- one entry less

  shorter_at : (p : Vec ℕ Y × Vec Entry Z) (ps set : List (Vec ℕ Y × Vec Entry Z)) (cs : List Chain) (rest : Option (Vec Entry Z)) (v w : Vec Entry Z) (b : Bool) → cond b (Some p.1) rest ≡ Some v → older v.items ≡ w.items → 0 < length w.items → (rest ≡ Some v → chains_of set ≡ cs)
      → chains_of (cond b ((p.0, w) ∷ ps) (p ∷ set)) ≡ cond b (chain_if p.0.items (older p.1.items) ++ chains_of ps) (chain_of p ∷ cs)
  shorter_at p ps set cs rest v w true found items some next =
      let own : p.1 ≡ v = cc in
      ap (λ (c : List Chain). c ++ chains_of ps) (sym (chain_if-some p.0.items w.items some) ∙ ap (λ (es : List Entry). chain_if p.0.items es) (sym items ∙ ap (λ (u : Vec Entry Z). older u.items) (sym own)))
  shorter_at p ps set cs rest v w false found items some next = ap (λ (ds : List Chain). chain_of p ∷ ds) (next found)

  -- a value without its last item
  pub set_value-without_newest : (key : List ℕ) (ps : List (Vec ℕ Y × Vec Entry Z)) (v w : Vec Entry Z) → lookup (is_key key) ps ≡ Some v → older v.items ≡ w.items → 0 < length w.items → chains_of (set_value (is_key key) ps w) ≡ without_newest key (chains_of ps)
  set_value-without_newest key [] v w found items some = refl
  set_value-without_newest key (p ∷ ps) v w found items some =
      shorter_at p ps (set_value (is_key key) ps w) (without_newest key (chains_of ps)) (lookup (is_key key) ps) v w (is_key key p.0) found items some (λ h. set_value-without_newest key ps v w h items some)

  gone_at : (key : List ℕ) (p : Vec ℕ Y × Vec Entry Z) (ps set : List (Vec ℕ Y × Vec Entry Z)) (cs : List Chain) (rest : Option (Vec Entry Z)) (v w : Vec Entry Z) (b : Bool) → is_key key p.0 ≡ b → cond b (Some p.1) rest ≡ Some v → older v.items ≡ [] → (rest ≡ Some v → chains_of (remove_entry (is_key key) set) ≡ cs)
      → chains_of (remove_entry (is_key key) (cond b ((p.0, w) ∷ ps) (p ∷ set))) ≡ cond b (chain_if p.0.items (older p.1.items) ++ chains_of ps) (chain_of p ∷ cs)
  gone_at key p ps set cs rest v w true is found items next =
      let own : p.1 ≡ v = cc in
      ap (λ (t : Bool). chains_of (cond t ps ((p.0, w) ∷ remove_entry (is_key key) ps))) is
      ∙ sym (ap (λ (es : List Entry). chain_if p.0.items es ++ chains_of ps) (ap (λ (u : Vec Entry Z). older u.items) own ∙ items))
  gone_at key p ps set cs rest v w false is found items next =
      ap (λ (t : Bool). chains_of (cond t set (p ∷ remove_entry (is_key key) set))) is ∙ ap (λ (ds : List Chain). chain_of p ∷ ds) (next found)

  -- a key whose value has no item left
  pub remove_entry-without_newest : (key : List ℕ) (ps : List (Vec ℕ Y × Vec Entry Z)) (v w : Vec Entry Z) → lookup (is_key key) ps ≡ Some v → older v.items ≡ [] → chains_of (remove_entry (is_key key) (set_value (is_key key) ps w)) ≡ without_newest key (chains_of ps)
  remove_entry-without_newest key [] v w found items = refl
  remove_entry-without_newest key (p ∷ ps) v w found items =
      gone_at key p ps (set_value (is_key key) ps w) (without_newest key (chains_of ps)) (lookup (is_key key) ps) v w (is_key key p.0) refl found items (λ h. remove_entry-without_newest key ps v w h items)

  none_at : (p : Vec ℕ Y × Vec Entry Z) (ps : List (Vec ℕ Y × Vec Entry Z)) (cs : List Chain) (rest : Option (Vec Entry Z)) (b : Bool) → cond b (Some p.1) rest ≡ None → (rest ≡ None → cs ≡ chains_of ps)
      → cond b (chain_if p.0.items (older p.1.items) ++ chains_of ps) (chain_of p ∷ cs) ≡ chain_of p ∷ chains_of ps
  none_at p ps cs rest true absent next = absurd cc
  none_at p ps cs rest false absent next = ap (λ (ds : List Chain). chain_of p ∷ ds) (next absent)

  -- a key that has no value
  pub without_newest-none : (key : List ℕ) (ps : List (Vec ℕ Y × Vec Entry Z)) → lookup (is_key key) ps ≡ None → without_newest key (chains_of ps) ≡ chains_of ps
  without_newest-none key [] absent = refl
  without_newest-none key (p ∷ ps) absent = none_at p ps (without_newest key (chains_of ps)) (lookup (is_key key) ps) (is_key key p.0) absent (λ h. without_newest-none key ps h)

  -- ---- what a map's calls leave

  pub longer_is : (key : List ℕ) (e : Entry) (ps : List (Vec ℕ Y × Vec Entry Z)) (v w : Vec Entry Z) → key ≡ e.ikey.key → IsStrictlySortedBy vec_cmp (keys_of ps) → Some v ≡ lookup (is_key key) ps → w.items ≡ v.items ++ e ∷ [] → chains_of (set_value (is_key key) ps w) ≡ with_entry e (chains_of ps)
  longer_is key e ps v w same up found items =
      let at_key : chains_of (set_value (is_key key) ps w) ≡ chains_of (set_value (is_key e.ikey.key) ps w) = ap (λ (k : List ℕ). chains_of (set_value (is_key k) ps w)) same in
      at_key ∙ set_value-with_entry e ps v w (keys_ascend ps up) (sym (ap (λ (k : List ℕ). lookup (is_key k) ps) same) ∙ sym found) items

  pub first_is : (key : List ℕ) (e : Entry) (k : Vec ℕ Y) (v : Vec Entry Z) (ps : List (Vec ℕ Y × Vec Entry Z)) → key ≡ e.ikey.key → None ≡ lookup (is_key key) ps → k.items ≡ key → v.items ≡ e ∷ [] → chains_of (insert_entry vec_cmp ps k v) ≡ with_entry e (chains_of ps)
  first_is key e k v ps same absent keyed items =
      insert_entry-with_entry e k v ps (sym (ap (λ (x : List ℕ). lookup (is_key x) ps) same) ∙ sym absent) (keyed ∙ same) items
