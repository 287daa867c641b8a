-- Chains among others whose keys are all before, or all after, one key.
use Rattle.std.proofs.Common.{◌≡◌, ℕ, ◌<◌, Bool, true, false, cond, List, [], ◌∷◌, ◌++◌, length, refl, sym, ap, subst, ◌∙◌, inl, inr, arith, append_assoc}
use Rattle.std.specs.declared.cmp.Ordering.{Ordering}
use Rattle.std.specs.declared.cmp.Ordering.TheVariants.{Less, Equal, Greater}
use Rattle.std.specs.Ordering.{is_eq, ordering_reverse}
use Rattle.std.proofs.lemmas.Cmp.{nat_list_cmp_total}
use Rattle.lsm_key.specs.declared.entry.Entry.{Entry}
use Rattle.lsm_key.specs.Sets.{IsIn}
use Rattle.lsm_key.proofs.Membership.{IsIn-append_cases}
use Rattle.lsm_mem.specs.Chains.{Chain, IsBeforeChains, with_entry, without_newest, chain_if, older}
use Rattle.lsm_mem.proofs.ChainsOfMap.{key_cmp}
use Rattle.lsm_mem.proofs.ChainsGrow.{fresh, placed}

-- the key is after that of each chain
abbrev pub IsAfterChains : List ℕ → List Chain → Type 0
IsAfterChains key chains = (c : Chain) → IsIn c chains → key_cmp c.key key ≡ Less

greater : (key other : List ℕ) → key_cmp other key ≡ Less → key_cmp key other ≡ Greater
greater key other h = nat_list_cmp_total.antisymm key other ∙ ap ordering_reverse h

-- ---- one entry more

pub with_entry-after : (e : Entry) (front cs : List Chain) → IsAfterChains e.ikey.key front → with_entry e (front ++ cs) ≡ front ++ with_entry e cs
with_entry-after e [] cs h = refl
with_entry-after e (c ∷ front) cs h =
    ap (λ (o : Ordering). placed o e c (front ++ cs)) (greater e.ikey.key c.key (h c (inl refl))) ∙ ap (λ (ds : List Chain). c ∷ ds) (with_entry-after e front cs (λ d m. h d (inr m)))

at_front : (e : Entry) (rest : List Chain) → IsBeforeChains e.ikey.key rest → with_entry e rest ≡ fresh e ∷ rest
at_front e [] h = refl
at_front e (c ∷ cs) h = ap (λ (o : Ordering). placed o e c cs) (h c (inl refl))

before_at : (o : Ordering) (e : Entry) (c : Chain) (cs rest : List Chain) → with_entry e (cs ++ rest) ≡ with_entry e cs ++ rest → placed o e c (cs ++ rest) ≡ placed o e c cs ++ rest
before_at Less e c cs rest h = refl
before_at Equal e c cs rest h = refl
before_at Greater e c cs rest h = ap (λ (ds : List Chain). c ∷ ds) h

pub with_entry-before : (e : Entry) (cs rest : List Chain) → IsBeforeChains e.ikey.key rest → with_entry e (cs ++ rest) ≡ with_entry e cs ++ rest
with_entry-before e [] rest h = at_front e rest h
with_entry-before e (c ∷ cs) rest h = before_at (key_cmp e.ikey.key c.key) e c cs rest (with_entry-before e cs rest h)

-- ---- one version less

other_key : (key : List ℕ) (c : Chain) (found next : List Chain) (o : Ordering) → key_cmp key c.key ≡ o → is_eq o ≡ false → cond (is_eq (key_cmp key c.key)) found next ≡ next
other_key key c found next o is other = ap (λ (b : Bool). cond b found next) (ap is_eq is ∙ other)

pub without_newest-after : (key : List ℕ) (front cs : List Chain) → IsAfterChains key front → without_newest key (front ++ cs) ≡ front ++ without_newest key cs
without_newest-after key [] cs h = refl
without_newest-after key (c ∷ front) cs h =
    other_key key c (chain_if c.key (older c.versions) ++ (front ++ cs)) (c ∷ without_newest key (front ++ cs)) Greater (greater key c.key (h c (inl refl))) refl
    ∙ ap (λ (ds : List Chain). c ∷ ds) (without_newest-after key front cs (λ d m. h d (inr m)))

none_of : (key : List ℕ) (rest : List Chain) → IsBeforeChains key rest → without_newest key rest ≡ rest
none_of key [] h = refl
none_of key (c ∷ cs) h =
    other_key key c (chain_if c.key (older c.versions) ++ cs) (c ∷ without_newest key cs) Less (h c (inl refl)) refl ∙ ap (λ (ds : List Chain). c ∷ ds) (none_of key cs (λ d m. h d (inr m)))

less_at : (b : Bool) (key : List ℕ) (c : Chain) (cs rest : List Chain) → without_newest key (cs ++ rest) ≡ without_newest key cs ++ rest
    → cond b (chain_if c.key (older c.versions) ++ (cs ++ rest)) (c ∷ without_newest key (cs ++ rest)) ≡ cond b (chain_if c.key (older c.versions) ++ cs) (c ∷ without_newest key cs) ++ rest
less_at true key c cs rest h = sym (append_assoc (chain_if c.key (older c.versions)) cs rest)
less_at false key c cs rest h = ap (λ (ds : List Chain). c ∷ ds) h

pub without_newest-before : (key : List ℕ) (cs rest : List Chain) → IsBeforeChains key rest → without_newest key (cs ++ rest) ≡ without_newest key cs ++ rest
without_newest-before key [] rest h = none_of key rest h
without_newest-before key (c ∷ cs) rest h = less_at (is_eq (key_cmp key c.key)) key c cs rest (without_newest-before key cs rest h)

-- ---- what keys there are then

module _ (P : List ℕ → Type 0) where
  abbrev pub AllKeys : List Chain → Type 0
  AllKeys cs = (c : Chain) → IsIn c cs → P c.key

  keys_at : (o : Ordering) (e : Entry) (c : Chain) (cs : List Chain) → P e.ikey.key → AllKeys (c ∷ cs) → AllKeys (with_entry e cs) → AllKeys (placed o e c cs)
  keys_at Less e c cs own h rest d m = elim m [ inl same ↦ subst (λ (x : Chain). P x.key) (sym same) own | inr n ↦ h d n ]
  keys_at Equal e c cs own h rest d m = elim m [ inl same ↦ subst (λ (x : Chain). P x.key) (sym same) (h c (inl refl)) | inr n ↦ h d (inr n) ]
  keys_at Greater e c cs own h rest d m = elim m [ inl same ↦ h d (inl same) | inr n ↦ rest d n ]

  pub with_entry-keys : (e : Entry) (cs : List Chain) → P e.ikey.key → AllKeys cs → AllKeys (with_entry e cs)
  with_entry-keys e [] own h d m = elim m [ inl same ↦ subst (λ (x : Chain). P x.key) (sym same) own | inr n ↦ absurd n ]
  with_entry-keys e (c ∷ cs) own h d m = keys_at (key_cmp e.ikey.key c.key) e c cs own h (with_entry-keys e cs own (λ x n. h x (inr n))) d m

  if_keys : (key : List ℕ) (es : List Entry) → P key → AllKeys (chain_if key es)
  if_keys key [] own d m = absurd m
  if_keys key (e ∷ es) own d m = elim m [ inl same ↦ subst (λ (x : Chain). P x.key) (sym same) own | inr n ↦ absurd n ]

  fewer_at : (b : Bool) (key : List ℕ) (c : Chain) (cs : List Chain) → AllKeys (c ∷ cs) → AllKeys (without_newest key cs) → AllKeys (cond b (chain_if c.key (older c.versions) ++ cs) (c ∷ without_newest key cs))
  fewer_at true key c cs h rest d m = elim (IsIn-append_cases d (chain_if c.key (older c.versions)) cs m) [
    | inl a ↦ if_keys c.key (older c.versions) (h c (inl refl)) d a
    | inr n ↦ h d (inr n)
  ]
  fewer_at false key c cs h rest d m = elim m [ inl same ↦ h d (inl same) | inr n ↦ rest d n ]

  pub without_newest-keys : (key : List ℕ) (cs : List Chain) → AllKeys cs → AllKeys (without_newest key cs)
  without_newest-keys key [] h d m = absurd m
  without_newest-keys key (c ∷ cs) h d m = fewer_at (is_eq (key_cmp key c.key)) key c cs h (without_newest-keys key cs (λ x n. h x (inr n))) d m

some_at : (o : Ordering) (e : Entry) (c : Chain) (cs : List Chain) → 0 < length (placed o e c cs)
some_at Less e c cs = omega arith
some_at Equal e c cs = omega arith
some_at Greater e c cs = omega arith

pub with_entry-some : (e : Entry) (cs : List Chain) → 0 < length (with_entry e cs)
with_entry-some e [] = omega arith
with_entry-some e (c ∷ cs) = some_at (key_cmp e.ikey.key c.key) e c cs
