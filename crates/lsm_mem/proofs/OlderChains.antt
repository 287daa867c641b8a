-- Chains without what was written from a sequence on.
use Rattle.std.proofs.Common.{◌≡◌, ℕ, ◌<◌, ◌≤◌, Bool, true, false, cond, ltb, not, List, [], ◌∷◌, ◌++◌, Vec, length, sum_by, reverse, append-nil, refl, sym, ap, subst, ◌∙◌, inl, inr, arith}
use Rattle.std.specs.List.{filter}
use Rattle.std.specs.declared.cmp.Ordering.TheVariants.{Less}
use Rattle.std.specs.BTreeMap.Range.{entries_between, range_contains}
use Rattle.std.specs.declared.ops.Bound.TheVariants.{Unbounded}
use Rattle.std.specs.Map.Calls.{RetainsPairs}
use Rattle.std.specs.Ordering.{nat_cmp}
use Rattle.std.proofs.lemmas.Bool.{lt-ltb, ltb-false, ltb-true}
use Rattle.std.proofs.lemmas.List.{nil_from_length, reverse-append}
use Rattle.std.proofs.lemmas.List.Concat.{flat_map-append}
use Rattle.std.proofs.lemmas.List.Elements.{filter-append}
use Rattle.std.proofs.lemmas.List.Filters.{sum_by-filter_both}
use Rattle.lsm_key.specs.declared.entry.Entry.{Entry}
use Rattle.lsm_key.specs.Limits.{entry_weight}
use Rattle.lsm_key.specs.Sets.{IsIn}
use Rattle.lsm_key.proofs.AscendingEntries.{IsIn-filter}
use Rattle.lsm_key.proofs.Membership.{IsIn-append_cases, IsIn-append_left}
use Rattle.lsm_mem.specs.declared.bucket.Bucket.{Bucket}
use Rattle.lsm_mem.specs.Buckets.{ArePlaced, HasPrefix, IsPlaced, chain_of_versions, chains_in, chains_of_buckets}
use Rattle.lsm_mem.specs.Chains.{AreChains, Chain, IsNoted, SequencesRise, chain_if, chains_before, chains_of, entries_in, is_older}
use Rattle.lsm_mem.specs.Memtable.{last_sequence}
use Rattle.lsm_mem.proofs.ChainsOfMap.{key_cmp}
use Rattle.lsm_mem.proofs.EntriesFrom.{filter_own}

-- ---- filtered lists

turned_if : (p : Entry → Bool) (x : Entry) (xs : List Entry) (b : Bool) → reverse (filter p xs) ++ cond b (x ∷ []) [] ≡ reverse (cond b (x ∷ filter p xs) (filter p xs))
turned_if p x xs true = sym (reverse-append (x ∷ []) (filter p xs))
turned_if p x xs false = append-nil (reverse (filter p xs))

filter-reverse : (p : Entry → Bool) (xs : List Entry) → filter p (reverse xs) ≡ reverse (filter p xs)
filter-reverse p [] = refl
filter-reverse p (x ∷ xs) =
    ap (filter p) (reverse-append (x ∷ []) xs) ∙ filter-append p (reverse xs) (x ∷ []) ∙ ap (λ (es : List Entry). es ++ filter p (x ∷ [])) (filter-reverse p xs) ∙ turned_if p x xs (p x)

rise_if : (b : Bool) (v : Entry) (ws : List Entry) → ((f : Entry) → IsIn f ws → v.ikey.seq < f.ikey.seq) → SequencesRise ws → SequencesRise (cond b (v ∷ ws) ws)
rise_if true v ws low up = (low, up)
rise_if false v ws low up = up

rising-filter : (p : Entry → Bool) (vs : List Entry) → SequencesRise vs → SequencesRise (filter p vs)
rising-filter p [] up = tt
rising-filter p (v ∷ vs) up = rise_if (p v) v (filter p vs) (λ f m. up.0 f (IsIn-filter p f vs m).0) (rising-filter p vs up.1)

-- ---- chains

module _ (first : ℕ) where
  abbrev left_of : Chain → List Entry
  left_of c = filter (is_older first) c.versions

  before_append : (cs ds : List Chain) → chains_before first (cs ++ ds) ≡ chains_before first cs ++ chains_before first ds
  before_append cs ds = flat_map-append (λ (c : Chain). chain_if c.key (left_of c)) cs ds

  key_if : (key : List ℕ) (ws : List Entry) (d : Chain) → IsIn d (chain_if key ws) → d.key ≡ key
  key_if key [] d m = absurd m
  key_if key (w ∷ ws) d m = elim m [ inl e ↦ ap (λ (c : Chain). c.key) e | inr n ↦ absurd n ]

  -- each has the key of a chain that was there
  key_was : (cs : List Chain) (d : Chain) → IsIn d (chains_before first cs) → (c : Chain) × IsIn c cs × (d.key ≡ c.key)
  key_was [] d m = absurd m
  key_was (c ∷ cs) d m = elim (IsIn-append_cases d (chain_if c.key (left_of c)) (chains_before first cs) m) [
    | inl a ↦ (c, inl refl, key_if c.key (left_of c) d a)
    | inr b ↦ let r = key_was cs d b in (r.0, inr r.1, r.2)
  ]

  chained_if : (c : Chain) (cs : List Chain) → AreChains (c ∷ cs) → (ws : List Entry) → ((e : Entry) → IsIn e ws → IsIn e c.versions) → SequencesRise ws → AreChains (chains_before first cs) → AreChains (chain_if c.key ws ++ chains_before first cs)
  chained_if c cs up [] own rising rest = rest
  chained_if c cs up (w ∷ ws) own rising rest = (
    record { some = omega arith; own = λ e m. up.0.own e (own e m); rising = rising },
    (λ d m. let r = key_was cs d m in subst (λ (key : List ℕ). key_cmp c.key key ≡ Less) (sym r.2) (up.1 r.0 r.1)),
    rest,
  )

  chained_before : (cs : List Chain) → AreChains cs → AreChains (chains_before first cs)
  chained_before [] up = tt
  chained_before (c ∷ cs) up = chained_if c cs up (left_of c) (λ e m. (IsIn-filter (is_older first) e c.versions m).0) (rising-filter (is_older first) c.versions up.0.rising) (chained_before cs up.2)

  entries_if : (key : List ℕ) (ws : List Entry) → entries_in (chain_if key ws) ≡ reverse ws
  entries_if key [] = refl
  entries_if key (w ∷ ws) = append-nil (reverse (w ∷ ws))

  pub entries_before : (cs : List Chain) → entries_in (chains_before first cs) ≡ filter (is_older first) (entries_in cs)
  entries_before [] = refl
  entries_before (c ∷ cs) =
      flat_map-append (λ (d : Chain). reverse d.versions) (chain_if c.key (left_of c)) (chains_before first cs)
      ∙ ap (λ (es : List Entry). es ++ entries_in (chains_before first cs)) (entries_if c.key (left_of c) ∙ sym (filter-reverse (is_older first) c.versions))
      ∙ ap (λ (es : List Entry). filter (is_older first) (reverse c.versions) ++ es) (entries_before cs)
      ∙ sym (filter-append (is_older first) (reverse c.versions) (entries_in cs))

  -- ---- the versions of one key

  of_key : (key : List ℕ) (ws : List Entry) → ((e : Entry) → IsIn e ws → e.ikey.key ≡ key) → chain_of_versions ws ≡ chain_if key ws
  of_key key [] own = refl
  of_key key (w ∷ ws) own = ap (λ (k : List ℕ). record { key = k; versions = w ∷ ws } ∷ []) (own w (inl refl))

  pub versions_before : (vs ws : List Entry) → AreChains (chain_of_versions vs) → ws ≡ filter (is_older first) vs → chain_of_versions ws ≡ chains_before first (chain_of_versions vs)
  versions_before [] ws up is = ap chain_of_versions is
  versions_before (v ∷ vs) ws up is =
      let kept = filter (is_older first) (v ∷ vs) in
      ap chain_of_versions is ∙ of_key v.ikey.key kept (λ e m. up.0.own e (IsIn-filter (is_older first) e (v ∷ vs) m).0) ∙ sym (append-nil (chain_if v.ikey.key kept))

  pub some_versions : (ws : List Entry) → ltb 0 (length ws) ≡ ltb 0 (length (chain_of_versions ws))
  some_versions [] = refl
  some_versions (w ∷ ws) = lt-ltb 0 (length (w ∷ ws)) (omega arith)

  -- ---- what a map keeps of its chains

  module _ {F Y Z : Type 0} (T : F → Vec ℕ Y → Vec Entry Z → Bool → Vec Entry Z → F → Type 0) (f : F)
      (says : (k : Vec ℕ Y) (v : Vec Entry Z) (b : Bool) (w : Vec Entry Z) (g : F) → T f k v b w g → (w.items ≡ filter (is_older first) v.items) × (b ≡ ltb 0 (length w.items)) × (g ≡ f)) where
    one_kept : (k : Vec ℕ Y) (w : Vec Entry Z) (rest : List (Vec ℕ Y × Vec Entry Z)) (b : Bool) (ws : List Entry) → w.items ≡ ws → b ≡ ltb 0 (length ws) → chains_of (cond b ((k, w) ∷ rest) rest) ≡ chain_if k.items ws ++ chains_of rest
    one_kept k w rest b [] is some = ap (λ (t : Bool). chains_of (cond t ((k, w) ∷ rest) rest)) some
    one_kept k w rest b (e ∷ es) is some =
        ap (λ (t : Bool). chains_of (cond t ((k, w) ∷ rest) rest)) (some ∙ lt-ltb 0 (length (e ∷ es)) (omega arith))
        ∙ ap (λ (vs : List Entry). record { key = k.items; versions = vs } ∷ chains_of rest) is

    pub chains_kept : (es kept : List (Vec ℕ Y × Vec Entry Z)) → RetainsPairs T f es kept → chains_of kept ≡ chains_before first (chains_of es)
    chains_kept [] kept h = ap chains_of h
    chains_kept (e ∷ es) kept h =
        let s = says e.0 e.1 h.0 h.1 h.2 h.4 in
        ap chains_of h.6
        ∙ one_kept e.0 h.1 h.3 h.0 (filter (is_older first) e.1.items) s.0 (s.1 ∙ ap (λ (vs : List Entry). ltb 0 (length vs)) s.0)
        ∙ ap (λ (cs : List Chain). chain_if e.0.items (filter (is_older first) e.1.items) ++ cs) (chains_kept es h.3 (subst (λ (x : F). RetainsPairs T x es h.3) s.2 h.5))

  -- ---- what a map keeps of its buckets

  abbrev Pair : Type 0
  Pair = ℕ × Bucket

  chained_left : (cs ds : List Chain) → AreChains (cs ++ ds) → AreChains cs × AreChains ds
  chained_left [] ds up = (tt, up)
  chained_left (c ∷ cs) ds up = (let rest = chained_left cs ds up.2 in ((up.0, (λ d m. up.1 d (IsIn-append_left d cs ds m)), rest.0), rest.1))

  module _ {F : Type 0} (T : F → ℕ → Bucket → Bool → Bucket → F → Type 0) (f : F)
      (says : (k : ℕ) (v : Bucket) (b : Bool) (w : Bucket) (g : F) → T f k v b w g → (AreChains (chains_in v) → chains_in w ≡ chains_before first (chains_in v)) × (b ≡ ltb 0 (length (chains_in w))) × (g ≡ f)) where
    one_left : (k : ℕ) (w : Bucket) (rest : List Pair) (b : Bool) → b ≡ ltb 0 (length (chains_in w)) → chains_of_buckets (cond b ((k, w) ∷ rest) rest) ≡ chains_in w ++ chains_of_buckets rest
    one_left k w rest true some = refl
    one_left k w rest false some =
        let short : length (chains_in w) ≤ 0 = ltb-false 0 (length (chains_in w)) (sym some) in
        ap (λ (cs : List Chain). cs ++ chains_of_buckets rest) (sym (nil_from_length (chains_in w) (omega (arith, short))))

    pub buckets_kept : (es kept : List Pair) → AreChains (chains_of_buckets es) → RetainsPairs T f es kept → chains_of_buckets kept ≡ chains_before first (chains_of_buckets es)
    buckets_kept [] kept up h = ap chains_of_buckets h
    buckets_kept (e ∷ es) kept up h =
        let s = says e.0 e.1 h.0 h.1 h.2 h.4 in
        let parts = chained_left (chains_in e.1) (chains_of_buckets es) up in
        ap chains_of_buckets h.6
        ∙ one_left e.0 h.1 h.3 h.0 s.1
        ∙ ap (λ (cs : List Chain). cs ++ chains_of_buckets h.3) (s.0 parts.0)
        ∙ ap (λ (cs : List Chain). chains_before first (chains_in e.1) ++ cs) (buckets_kept es h.3 parts.1 (subst (λ (x : F). RetainsPairs T x es h.3) s.2 h.5))
        ∙ sym (before_append (chains_in e.1) (chains_of_buckets es))

    pub placed_kept : (front : List ℕ) (es kept : List Pair) → AreChains (chains_of_buckets es) → ArePlaced front es → RetainsPairs T f es kept → ArePlaced front kept
    placed_kept front [] kept up placed h p m = absurd (subst (IsIn p) h m)
    placed_kept front (e ∷ es) kept up placed h p m =
        by_test h.0 refl (λ n. placed_kept front es h.3 (chained_left (chains_in e.1) (chains_of_buckets es) up).1 (λ q o. placed q (inr o)) (subst (λ (x : F). RetainsPairs T x es h.3) (says e.0 e.1 h.0 h.1 h.2 h.4).2 h.5) p n)
        (subst (IsIn p) h.6 m)
      where
        s : (AreChains (chains_in e.1) → chains_in h.1 ≡ chains_before first (chains_in e.1)) × (h.0 ≡ ltb 0 (length (chains_in h.1))) × (h.2 ≡ f)
        s = says e.0 e.1 h.0 h.1 h.2 h.4

        own_chains : AreChains (chains_in e.1)
        own_chains = (chained_left (chains_in e.1) (chains_of_buckets es) up).0

        own : h.0 ≡ true → IsPlaced front (e.0, h.1)
        own test = record {
          some = ltb-true 0 (length (chains_in h.1)) (sym s.1 ∙ test);
          own = λ c n. let r = key_was (chains_in e.1) c (subst (IsIn c) (s.0 own_chains) n) in subst (λ (key : List ℕ). HasPrefix front e.0 key) (sym r.2) ((placed e (inl refl)).own r.0 r.1);
        }

        by_test : (t : Bool) → h.0 ≡ t → (IsIn p h.3 → IsPlaced front p) → IsIn p (cond t ((e.0, h.1) ∷ h.3) h.3) → IsPlaced front p
        by_test true test others n = elim n [ inl here ↦ subst (IsPlaced front) (sym here) (own test) | inr o ↦ others o ]
        by_test false test others n = others n

  -- ---- what is noted of them

  -- they weigh no more than all of them
  pub before_light : (cs : List Chain) → sum_by entry_weight (entries_in (chains_before first cs)) ≤ sum_by entry_weight (entries_in cs)
  before_light cs =
      let parts = sum_by-filter_both (is_older first) (λ (e : Entry). not (is_older first e)) (λ e. refl) entry_weight (entries_in cs) in
      let same : sum_by entry_weight (entries_in (chains_before first cs)) ≡ sum_by entry_weight (filter (is_older first) (entries_in cs)) = ap (sum_by entry_weight) (entries_before cs) in
      omega (arith, parts, same)

  pub before_noted : (cs : List Chain) (weight count last less fewer newest : ℕ) → IsNoted cs weight count last
      → less ≡ sum_by entry_weight (entries_in (chains_before first cs)) → fewer ≡ length (entries_in (chains_before first cs)) → newest ≡ last_sequence (entries_in (chains_before first cs))
      → IsNoted (chains_before first cs) less fewer newest
  before_noted cs weight count last less fewer newest is weighs counts latest =
      let was : (e : Entry) → IsIn e (entries_in (chains_before first cs)) → IsIn e (entries_in cs) = λ e m. (IsIn-filter (is_older first) e (entries_in cs) (subst (IsIn e) (entries_before cs) m)).0 in
      record {
        chained = chained_before cs is.chained;
        sound = λ e m. is.sound e (was e m);
        apart = λ e g m n same. is.apart e g (was e m) (was g n) same;
        weighed = weighs;
        light = (let lighter = before_light cs in let weighed = is.weighed in let light = is.light in omega (arith, weighs, lighter, weighed, light));
        counted = counts;
        newest = latest;
      }

-- all pairs of a map
pub pairs_all : (ps : List (ℕ × Bucket)) → entries_between nat_cmp Unbounded Unbounded ps ≡ ps
pairs_all ps = filter_own (λ p. range_contains nat_cmp Unbounded Unbounded p.0) true ps (λ p m. refl)
