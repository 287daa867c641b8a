-- Chains that take entries, and give them back.
use Rattle.std.proofs.Common.{◌≡◌, ℕ, ◌+◌, ◌<◌, Bool, List, [], ◌∷◌, ◌++◌, length, refl, sym, ap, subst, ◌∙◌, inl, inr, arith, reverse, cond, append_assoc, append-nil}
use Rattle.std.specs.declared.cmp.Ordering.{Ordering}
use Rattle.std.specs.declared.cmp.Ordering.TheVariants.{Less, Equal, Greater}
use Rattle.std.specs.Ordering.{is_eq, match_ordering, ordering_reverse}
use Rattle.std.proofs.lemmas.List.Sums.{fold-append}
use Rattle.std.specs.List.Sorted.{IsPermutation}
use Rattle.std.proofs.lemmas.List.{reverse-append, length_push}
use Rattle.std.proofs.lemmas.List.Sorted.{IsPermutation-refl, IsPermutation-to_front, IsPermutation-append_left, IsPermutation-append_right, IsPermutation-trans}
use Rattle.std.proofs.lemmas.Cmp.{nat_list_cmp_total}
use Rattle.lsm_key.specs.declared.entry.Entry.{Entry}
use Rattle.lsm_key.specs.declared.op.Op.{Op}
use Rattle.lsm_key.specs.Sets.{IsIn}
use Rattle.lsm_key.specs.Writes.{key_of}
use Rattle.lsm_key.specs.Places.{entry_of, entries_after}
use Rattle.lsm_key.proofs.Membership.{IsIn-append_cases, IsIn-append_right, IsIn-one, SameMembers-permutation}
use Rattle.lsm_key.proofs.WritesOverStored.{entries_after-append, entry_key}
use Rattle.lsm_key.proofs.EntryOrder.{keys_equal}
use Rattle.lsm_mem.specs.Chains.{Chain, IsChain, AreChains, IsBeforeChains, SequencesRise, entries_in, with_entry, with_entries, without_newest, chain_if, older}
use Rattle.lsm_mem.proofs.ChainsOfMap.{key_cmp, same_key, chain_if-some, older-push}
use Rattle.lsm_mem.proofs.ChainOrder.{entry_in}

-- a chain of its own for an entry
abbrev pub fresh : Entry → Chain
fresh e = record { key = e.ikey.key; versions = e ∷ [] }

-- a chain with one more version
abbrev pub longer : Chain → Entry → Chain
longer c e = record { key = c.key; versions = c.versions ++ e ∷ [] }

-- `with_entry` at a chain that compares so
abbrev pub placed : Ordering → Entry → Chain → List Chain → List Chain
placed o e c cs = match_ordering o (fresh e ∷ c ∷ cs) (longer c e ∷ cs) (c ∷ with_entry e cs)

-- ---- the same entries, and one more

push_first : (e : Entry) (es : List Entry) → IsPermutation (es ++ e ∷ []) (e ∷ es)
push_first e es = IsPermutation-to_front es e

permuted_at : (o : Ordering) (e : Entry) (c : Chain) (cs : List Chain) → IsPermutation (entries_in cs ++ e ∷ []) (entries_in (with_entry e cs)) → IsPermutation (entries_in (c ∷ cs) ++ e ∷ []) (entries_in (placed o e c cs))
permuted_at Less e c cs rest = push_first e (entries_in (c ∷ cs))
permuted_at Equal e c cs rest =
    let longer_is : reverse (c.versions ++ e ∷ []) ≡ e ∷ reverse c.versions = reverse-append c.versions (e ∷ []) in
    subst (λ (front : List Entry). IsPermutation (entries_in (c ∷ cs) ++ e ∷ []) (front ++ entries_in cs)) (sym longer_is) (push_first e (entries_in (c ∷ cs)))
permuted_at Greater e c cs rest =
    subst (λ (es : List Entry). IsPermutation es (reverse c.versions ++ entries_in (with_entry e cs))) (sym (append_assoc (reverse c.versions) (entries_in cs) (e ∷ []))) (IsPermutation-append_right (reverse c.versions) (entries_in cs ++ e ∷ []) (entries_in (with_entry e cs)) rest)

pub with_entry-permuted : (e : Entry) (cs : List Chain) → IsPermutation (entries_in cs ++ e ∷ []) (entries_in (with_entry e cs))
with_entry-permuted e [] = IsPermutation-refl (e ∷ [])
with_entry-permuted e (c ∷ cs) = permuted_at (key_cmp e.ikey.key c.key) e c cs (with_entry-permuted e cs)

pub with_entries-permuted : (es : List Entry) (cs : List Chain) → IsPermutation (entries_in cs ++ es) (entries_in (with_entries es cs))
with_entries-permuted [] cs = subst (λ (fs : List Entry). IsPermutation fs (entries_in cs)) (sym (append-nil (entries_in cs))) (IsPermutation-refl (entries_in cs))
with_entries-permuted (e ∷ es) cs =
    let one : IsPermutation ((entries_in cs ++ e ∷ []) ++ es) (entries_in (with_entry e cs) ++ es) = IsPermutation-append_left es (entries_in cs ++ e ∷ []) (entries_in (with_entry e cs)) (with_entry-permuted e cs) in
    subst (λ (fs : List Entry). IsPermutation fs (entries_in (with_entries (e ∷ es) cs))) (append_assoc (entries_in cs) (e ∷ []) es) (IsPermutation-trans ((entries_in cs ++ e ∷ []) ++ es) (entries_in (with_entry e cs) ++ es) (entries_in (with_entries es (with_entry e cs))) one (with_entries-permuted es (with_entry e cs)))

-- ---- chains stay in order

before_at : (o : Ordering) (key : List ℕ) (e : Entry) (c : Chain) (cs : List Chain) → IsBeforeChains key (c ∷ cs) → key_cmp key e.ikey.key ≡ Less → IsBeforeChains key (with_entry e cs) → IsBeforeChains key (placed o e c cs)
before_at Less key e c cs before less rest d m = elim m [ inl same ↦ subst (λ (x : Chain). key_cmp key x.key ≡ Less) (sym same) less | inr n ↦ before d n ]
before_at Equal key e c cs before less rest d m = elim m [ inl same ↦ subst (λ (x : Chain). key_cmp key x.key ≡ Less) (sym same) (before c (inl refl)) | inr n ↦ before d (inr n) ]
before_at Greater key e c cs before less rest d m = elim m [ inl same ↦ before d (inl same) | inr n ↦ rest d n ]

before_with : (key : List ℕ) (e : Entry) (cs : List Chain) → IsBeforeChains key cs → key_cmp key e.ikey.key ≡ Less → IsBeforeChains key (with_entry e cs)
before_with key e [] before less d m = elim m [ inl same ↦ subst (λ (x : Chain). key_cmp key x.key ≡ Less) (sym same) less | inr n ↦ absurd n ]
before_with key e (c ∷ cs) before less d m = before_at (key_cmp e.ikey.key c.key) key e c cs before less (λ x n. before_with key e cs (λ y o. before y (inr o)) less x n) d m

rise-push : (es : List Entry) (e : Entry) → SequencesRise es → ((f : Entry) → IsIn f es → f.ikey.seq < e.ikey.seq) → SequencesRise (es ++ e ∷ [])
rise-push [] e up older = (λ f m. absurd m, tt)
rise-push (v ∷ es) e up older = (
  λ f m. elim (IsIn-append_cases f es (e ∷ []) m) [
    | inl a ↦ up.0 f a
    | inr b ↦ (let lt : v.ikey.seq < e.ikey.seq = older v (inl refl) in let s : f.ikey.seq ≡ e.ikey.seq = ap (λ (x : Entry). x.ikey.seq) (IsIn-one f e b) in omega arith)
  ],
  rise-push es e up.1 (λ f m. older f (inr m)),
)

fresh_chain : (e : Entry) → IsChain (fresh e)
fresh_chain e = record { some = omega arith; own = λ f m. ap (λ (x : Entry). x.ikey.key) (IsIn-one f e m); rising = (λ f m. absurd m, tt) }

longer_chain : (c : Chain) (e : Entry) → IsChain c → e.ikey.key ≡ c.key → ((f : Entry) → IsIn f c.versions → f.ikey.seq < e.ikey.seq) → IsChain (longer c e)
longer_chain c e is same older = record {
  some = omega (arith, length_push c.versions e);
  own = λ f m. elim (IsIn-append_cases f c.versions (e ∷ []) m) [
    | inl a ↦ is.own f a
    | inr b ↦ ap (λ (x : Entry). x.ikey.key) (IsIn-one f e b) ∙ same
  ];
  rising = rise-push c.versions e is.rising older;
}

-- the entry is newer than all
abbrev pub IsNewer : Entry → List Chain → Type 0
IsNewer e cs = (f : Entry) → IsIn f (entries_in cs) → f.ikey.seq < e.ikey.seq

chained_at : (o : Ordering) (e : Entry) (c : Chain) (cs : List Chain) → key_cmp e.ikey.key c.key ≡ o → AreChains (c ∷ cs) → IsNewer e (c ∷ cs) → AreChains (with_entry e cs) → AreChains (placed o e c cs)
chained_at Less e c cs is up newer rest = (
  fresh_chain e,
  λ d m. elim m [
    | inl same ↦ subst (λ (x : Chain). key_cmp e.ikey.key x.key ≡ Less) (sym same) is
    | inr n ↦ nat_list_cmp_total.trans e.ikey.key c.key d.key is (up.1 d n)
  ],
  up,
)
chained_at Equal e c cs is up newer rest =
    (longer_chain c e up.0 (keys_equal e.ikey.key c.key is) (λ f m. newer f (entry_in f c (c ∷ cs) (inl refl) m)), up.1, up.2)
chained_at Greater e c cs is up newer rest = (up.0, before_with c.key e cs up.1 (nat_list_cmp_total.antisymm c.key e.ikey.key ∙ ap ordering_reverse is), rest)

pub with_entry-chained : (e : Entry) (cs : List Chain) → AreChains cs → IsNewer e cs → AreChains (with_entry e cs)
with_entry-chained e [] up newer = (fresh_chain e, λ d m. absurd m, tt)
with_entry-chained e (c ∷ cs) up newer =
    chained_at (key_cmp e.ikey.key c.key) e c cs refl up newer (with_entry-chained e cs up.2 (λ f m. newer f (IsIn-append_right f (reverse c.versions) (entries_in cs) m)))

pub with_entries-chained : (es : List Entry) (cs : List Chain) → AreChains cs → SequencesRise es → ((e : Entry) → IsIn e es → IsNewer e cs) → AreChains (with_entries es cs)
with_entries-chained [] cs up rise newer = up
with_entries-chained (e ∷ es) cs up rise newer =
    with_entries-chained es (with_entry e cs) (with_entry-chained e cs up (newer e (inl refl))) rise.1 (λ d m f i.
    elim (IsIn-append_cases f (entries_in cs) (e ∷ []) ((SameMembers-permutation (entries_in cs ++ e ∷ []) (entries_in (with_entry e cs)) (with_entry-permuted e cs) f).1 i)) [
      | inl a ↦ newer d (inr m) f a
      | inr b ↦ (let lt : e.ikey.seq < d.ikey.seq = rise.0 d m in let s : f.ikey.seq ≡ e.ikey.seq = ap (λ (x : Entry). x.ikey.seq) (IsIn-one f e b) in omega arith)
    ])

-- ---- the newest entry given back

-- each chain has a version
abbrev pub HaveVersions : List Chain → Type 0
HaveVersions [] = Unit {0}
HaveVersions (c ∷ cs) = (0 < length c.versions) × HaveVersions cs

pub chained_have : (cs : List Chain) → AreChains cs → HaveVersions cs
chained_have [] up = tt
chained_have (c ∷ cs) up = (up.0.some, chained_have cs up.2)

have_at : (o : Ordering) (e : Entry) (c : Chain) (cs : List Chain) → HaveVersions (c ∷ cs) → HaveVersions (with_entry e cs) → HaveVersions (placed o e c cs)
have_at Less e c cs have rest = (omega arith, have)
have_at Equal e c cs have rest = (omega (arith, length_push c.versions e), have.1)
have_at Greater e c cs have rest = (have.0, rest)

have_with : (e : Entry) (cs : List Chain) → HaveVersions cs → HaveVersions (with_entry e cs)
have_with e [] have = (omega arith, tt)
have_with e (c ∷ cs) have = have_at (key_cmp e.ikey.key c.key) e c cs have (have_with e cs have.1)

pub have_with_all : (es : List Entry) (cs : List Chain) → HaveVersions cs → HaveVersions (with_entries es cs)
have_with_all [] cs have = have
have_with_all (e ∷ es) cs have = have_with_all es (with_entry e cs) (have_with e cs have)

back_at : (o : Ordering) (e : Entry) (c : Chain) (cs : List Chain) → key_cmp e.ikey.key c.key ≡ o → 0 < length c.versions → without_newest e.ikey.key (with_entry e cs) ≡ cs → without_newest e.ikey.key (placed o e c cs) ≡ c ∷ cs
back_at Less e c cs is some rest =
    ap (λ (t : Bool). cond t (c ∷ cs) (fresh e ∷ without_newest e.ikey.key (c ∷ cs))) (ap is_eq (same_key e.ikey.key))
back_at Equal e c cs is some rest =
    ap (λ (t : Bool). cond t (chain_if c.key (older (c.versions ++ e ∷ [])) ++ cs) (longer c e ∷ without_newest e.ikey.key cs)) (ap is_eq is)
    ∙ ap (λ (es : List Entry). chain_if c.key es ++ cs) (older-push c.versions e)
    ∙ ap (λ (ds : List Chain). ds ++ cs) (chain_if-some c.key c.versions some)
back_at Greater e c cs is some rest =
    ap (λ (t : Bool). cond t (chain_if c.key (older c.versions) ++ with_entry e cs) (c ∷ without_newest e.ikey.key (with_entry e cs))) (ap is_eq is)
    ∙ ap (λ (ds : List Chain). c ∷ ds) rest

pub given_back : (e : Entry) (cs : List Chain) → HaveVersions cs → without_newest e.ikey.key (with_entry e cs) ≡ cs
given_back e [] have = ap (λ (t : Bool). cond t [] (fresh e ∷ [])) (ap is_eq (same_key e.ikey.key))
given_back e (c ∷ cs) have = back_at (key_cmp e.ikey.key c.key) e c cs refl have.0 (given_back e cs have.1)

-- ---- operations in turn

-- one operation more
pub with_entries-push : (after : ℕ) (ops : List Op) (op : Op) (cs : List Chain) → with_entries (entries_after after (ops ++ op ∷ [])) cs ≡ with_entry (entry_of (after + length ops + 1) op) (with_entries (entries_after after ops) cs)
with_entries-push after ops op cs =
    ap (λ (es : List Entry). with_entries es cs) (entries_after-append after ops (op ∷ []))
    ∙ fold-append (λ (ds : List Chain) (e : Entry). with_entry e ds) cs (entries_after after ops) (entry_of (after + length ops + 1) op ∷ [])

-- the last operation given back
pub last_given_back : (after : ℕ) (ops : List Op) (op : Op) (cs : List Chain) → AreChains cs → without_newest (key_of op) (with_entries (entries_after after (ops ++ op ∷ [])) cs) ≡ with_entries (entries_after after ops) cs
last_given_back after ops op cs up =
    let e = entry_of (after + length ops + 1) op in
    let before = with_entries (entries_after after ops) cs in
    ap (without_newest (key_of op)) (with_entries-push after ops op cs)
    ∙ ap (λ (k : List ℕ). without_newest k (with_entry e before)) (sym (entry_key (after + length ops + 1) op))
    ∙ given_back e before (have_with_all (entries_after after ops) cs (chained_have cs up))
