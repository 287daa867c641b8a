-- The tables of a result, one after another.
use Rattle.std.proofs.Common.{◌≡◌, ℕ, zero, suc, ◌+◌, ◌-◌, ◌<◌, true, false, List, [], ◌∷◌, ◌++◌, ◌⊎◌, inl, inr, refl, sym, ap, subst, ◌∙◌, arith, length, get_or, take, drop, Option, Some, None, not, unwrap_or}
use Rattle.std.specs.List.{slice_get}
use Rattle.std.proofs.lemmas.Bool.{true≢false, and_parts, and_from}
use Rattle.std.proofs.lemmas.List.{take-append-drop, take_more, drop_more}
use Rattle.lsm_key.specs.Order.{key_lt}
use Rattle.lsm_key.specs.Sets.{IsIn}
use Rattle.lsm_key.proofs.Membership.{IsIn-append_cases, IsIn-append_right}
use Rattle.lsm_claim.specs.declared.hull.Hull.{Hull}
use Rattle.lsm_table.specs.Tables.{IsTable, Opened, largest_key, smallest_key, target_of}
use Rattle.lsm_table.proofs.TableContents.{table_ends, table_one}
use Rattle.lsm_coord.specs.Contract.Installing.{AreAscending, AreOutputTables, DecodeTo, IsTableBefore, comes_next, is_table_inside}
use Rattle.lsm_coord.proofs.KeyIntervals.{below_trans, below_upto}

-- ---- the tables of texts

pub tables_one : (texts : List (List ℕ)) (ts us : List Opened) → DecodeTo texts ts → DecodeTo texts us → ts ≡ us
tables_one [] [] [] h k = refl
tables_one [] [] (u ∷ us) h k = absurd k
tables_one [] (t ∷ ts) us h k = absurd h
tables_one (x ∷ texts) [] us h k = absurd h
tables_one (x ∷ texts) (t ∷ ts) [] h k = absurd k
tables_one (x ∷ texts) (t ∷ ts) (u ∷ us) h k =
    let bytes : t.bytes ≡ u.bytes = h.0 ∙ sym k.0 in
    let entries : t.entries ≡ u.entries = table_one x t.entries u.entries h.1 k.1 in
    let first : t ≡ u = λ i. record { bytes = bytes i; entries = entries i } in
    let rest : ts ≡ us = tables_one texts ts us h.2 k.2 in
    λ i. first i ∷ rest i

pub tables_push : (texts : List (List ℕ)) (ts : List Opened) (text : List ℕ) (t : Opened) → DecodeTo texts ts → t.bytes ≡ text → IsTable text t.entries → DecodeTo (texts ++ text ∷ []) (ts ++ t ∷ [])
tables_push [] [] text t h e is = (e, is, tt)
tables_push [] (u ∷ ts) text t h e is = absurd h
tables_push (x ∷ texts) [] text t h e is = absurd h
tables_push (x ∷ texts) (u ∷ ts) text t h e is = (h.0, h.1, tables_push texts ts text t h.2 e is)

-- each is a table
pub tables_each : (texts : List (List ℕ)) (ts : List Opened) → DecodeTo texts ts → (t : Opened) → IsIn t ts → IsTable t.bytes t.entries
tables_each [] [] h t m = absurd m
tables_each [] (u ∷ ts) h t m = absurd h
tables_each (x ∷ texts) [] h t m = absurd h
tables_each (x ∷ texts) (u ∷ ts) h t m = elim m [
  | inl e ↦ subst (λ (y : Opened). IsTable y.bytes y.entries) (sym e) (subst (λ (b : List ℕ). IsTable b u.entries) (sym h.0) h.1)
  | inr n ↦ tables_each texts ts h.2 t n
]

pub tables_length : (texts : List (List ℕ)) (ts : List Opened) → DecodeTo texts ts → length ts ≡ length texts
tables_length [] [] h = refl
tables_length [] (u ∷ ts) h = absurd h
tables_length (x ∷ texts) [] h = absurd h
tables_length (x ∷ texts) (u ∷ ts) h = let e = tables_length texts ts h.2 in omega (arith, e)

-- those of the texts before one, that of this one, and those after it
pub record Split (front : List (List ℕ)) (text : List ℕ) (ts : List Opened) : Type 0 where
  pub before : List Opened
  pub here : Opened
  pub after : List Opened
  pub parts : ts ≡ before ++ here ∷ after
  pub front_are : DecodeTo front before
  pub bytes : here.bytes ≡ text
  pub is : IsTable text here.entries

pub split_at : (front back : List (List ℕ)) (text : List ℕ) (ts : List Opened) → DecodeTo (front ++ text ∷ back) ts → Split front text ts
split_at [] back text [] h = absurd h
split_at [] back text (t ∷ ts) h = record { before = []; here = t; after = ts; parts = refl; front_are = tt; bytes = h.0; is = h.1 }
split_at (x ∷ front) back text [] h = absurd h
split_at (x ∷ front) back text (t ∷ ts) h =
    let s = split_at front back text ts h.2 in
    record { before = t ∷ s.before; here = s.here; after = s.after; parts = ap (λ (us : List Opened). t ∷ us) s.parts; front_are = (h.0, h.1, s.front_are); bytes = s.bytes; is = s.is }

-- ---- one after another

pub ascending_cross : (xs ys : List Opened) → AreAscending (xs ++ ys) → (x y : Opened) → IsIn x xs → IsIn y ys → IsTableBefore x y
ascending_cross [] ys h x y m n = absurd m
ascending_cross (z ∷ xs) ys h x y m n = elim m [
  | inl e ↦ subst (λ (w : Opened). IsTableBefore w y) (sym e) (h.0 y (IsIn-append_right y xs ys n))
  | inr k ↦ ascending_cross xs ys h.1 x y k n
]

pub ascending_push : (xs : List Opened) (y : Opened) → AreAscending xs → ((x : Opened) → IsIn x xs → IsTableBefore x y) → AreAscending (xs ++ y ∷ [])
ascending_push [] y h k = ((λ z m. absurd m), tt)
ascending_push (x ∷ xs) y h k = (
  (λ z m. elim (IsIn-append_cases z xs (y ∷ []) m) [
    | inl a ↦ h.0 z a
    | inr b ↦ elim b [ inl e ↦ subst (IsTableBefore x) (sym e) (k x (inl refl)) | inr none ↦ absurd none ]
  ]),
  ascending_push xs y h.1 (λ z m. k z (inr m)),
)

last_in : {X : Type 0} (xs : List X) (n : ℕ) (l : X) → slice_get xs n ≡ Some l → IsIn l xs
last_in [] n l h = absurd cc
last_in (x ∷ xs) zero l h = inl (some_same x l h)
  where
    some_same : {Y : Type 0} (a b : Y) → Some a ≡ Some b → b ≡ a
    some_same a b e = ap (λ (o : Option _). unwrap_or o a) (sym e)
last_in (x ∷ xs) (suc n) l h = inr (last_in xs n l h)

-- a member is the last one, or stands before it
last_or : (xs : List Opened) (l : Opened) → AreAscending xs → slice_get xs (length xs - 1) ≡ Some l → (x : Opened) → IsIn x xs → (x ≡ l) ⊎ IsTableBefore x l
last_or [] l h e x m = absurd m
last_or (y ∷ []) l h e x m = elim m [ inl q ↦ inl (q ∙ ap (λ (o : Option Opened). unwrap_or o y) e) | inr none ↦ absurd none ]
last_or (y ∷ z ∷ xs) l h e x m =
    let place : length (y ∷ z ∷ xs) - 1 ≡ suc (length (z ∷ xs) - 1) = omega arith in
    let there : slice_get (z ∷ xs) (length (z ∷ xs) - 1) ≡ Some l = ap (slice_get (y ∷ z ∷ xs)) (sym place) ∙ e in
    elim m [
      | inl q ↦ inr (subst (λ (w : Opened). IsTableBefore w l) (sym q) (h.0 l (last_in (z ∷ xs) (length (z ∷ xs) - 1) l there)))
      | inr n ↦ last_or (z ∷ xs) l h.1 there x n
    ]

-- ---- the next output

inside_of : (hull : Hull) (last : Option Opened) (t : Opened) → comes_next hull last t ≡ true → is_table_inside hull t ≡ true
inside_of hull None t h = h
inside_of hull (Some l) t h = (and_parts (is_table_inside hull t) (key_lt (largest_key l.entries) (smallest_key t.entries)) h).0

pub after_all : (hull : Hull) (ts : List Opened) (t : Opened) (last : Option Opened) → slice_get ts (length ts - 1) ≡ last → ((u : Opened) → IsIn u ts → IsTable u.bytes u.entries) → AreAscending ts → comes_next hull last t ≡ true
    → (is_table_inside hull t ≡ true) × ((u : Opened) → IsIn u ts → IsTableBefore u t)
after_all hull [] t last e each pairs next = (inside_of hull last t next, λ u m. absurd m)
after_all hull (v ∷ vs) t None e each pairs next = absurd (some_there (v ∷ vs) (length (v ∷ vs) - 1) (omega arith) e)
  where
    some_there : {X : Type 0} (xs : List X) (n : ℕ) → n < length xs → slice_get xs n ≡ None → ⊥
    some_there [] n lt h = omega (arith, lt)
    some_there (x ∷ xs) zero lt h = absurd cc
    some_there (x ∷ xs) (suc n) lt h = some_there xs n (omega (arith, lt)) h
after_all hull (v ∷ vs) t (Some l) e each pairs next =
    let parts = and_parts (is_table_inside hull t) (key_lt (largest_key l.entries) (smallest_key t.entries)) next in (
      parts.0,
      λ u m. elim (last_or (v ∷ vs) l pairs e u m) [
        | inl same ↦ subst (λ (w : Opened). IsTableBefore w t) (sym same) parts.1
        | inr before ↦
            let own = each l (last_in (v ∷ vs) (length (v ∷ vs) - 1) l e) in
            below_trans (largest_key u.entries) (largest_key l.entries) (smallest_key t.entries) (below_upto (largest_key u.entries) (smallest_key l.entries) (largest_key l.entries) before (ap not (table_ends l.bytes l.entries own))) parts.1
      ],
    )

-- of outputs each comes next
pub next_of : (block : ℕ) (hull : Hull) (texts : List (List ℕ)) (ts us vs : List Opened) (t : Opened) → AreOutputTables block hull texts ts → ts ≡ us ++ t ∷ vs → (last : Option Opened) → slice_get us (length us - 1) ≡ last → comes_next hull last t ≡ true
next_of block hull texts ts us vs t is parts None e = is.inside t (subst (IsIn t) (sym parts) (IsIn-append_right t us (t ∷ vs) (inl refl)))
next_of block hull texts ts us vs t is parts (Some l) e =
    and_from (is_table_inside hull t) (key_lt (largest_key l.entries) (smallest_key t.entries))
    (is.inside t (subst (IsIn t) (sym parts) (IsIn-append_right t us (t ∷ vs) (inl refl))))
    (ascending_cross us (t ∷ vs) (subst AreAscending parts is.ascending) l t (last_in us (length us - 1) l e) (inl refl))

-- ---- what has been opened

pub record AreOpened (block : ℕ) (hull : Hull) (texts : List (List ℕ)) (ts : List Opened) : Type 0 where
  pub tables : DecodeTo texts ts
  pub cut : (t : Opened) → IsIn t ts → target_of t.bytes ≡ block
  pub inside : (t : Opened) → IsIn t ts → is_table_inside hull t ≡ true
  pub ascending : AreAscending ts

pub opened_none : (block : ℕ) (hull : Hull) (texts : List (List ℕ)) → AreOpened block hull (take 0 texts) []
opened_none block hull texts = record { tables = tt; cut = λ t m. absurd m; inside = λ t m. absurd m; ascending = tt }

module _ (block : ℕ) (hull : Hull) (texts : List (List ℕ)) (ts : List Opened) (i : ℕ) (text : List ℕ) (lt : i < length texts) (at : text ≡ get_or texts i text) (so_far : AreOpened block hull (take i texts) ts) where
  front_is : take (i + 1) texts ≡ take i texts ++ text ∷ []
  front_is = take_more texts i text lt ∙ ap (λ (x : List ℕ). take i texts ++ x ∷ []) (sym at)

  whole_is : texts ≡ take i texts ++ text ∷ drop (i + 1) texts
  whole_is = sym (take-append-drop i texts) ∙ ap (λ (xs : List (List ℕ)). take i texts ++ xs) (drop_more texts i text lt ∙ ap (λ (x : List ℕ). x ∷ drop (i + 1) texts) (sym at))

  pub opened_more : (t : Opened) → t.bytes ≡ text → IsTable text t.entries → target_of text ≡ block → comes_next hull (slice_get ts (length ts - 1)) t ≡ true → AreOpened block hull (take (i + 1) texts) (ts ++ t ∷ [])
  opened_more t bytes is own next =
      let after = after_all hull ts t (slice_get ts (length ts - 1)) refl (tables_each (take i texts) ts so_far.tables) so_far.ascending next in
      record {
        tables = subst (λ (xs : List (List ℕ)). DecodeTo xs (ts ++ t ∷ [])) (sym front_is) (tables_push (take i texts) ts text t so_far.tables bytes is);
        cut = λ u m. elim (IsIn-append_cases u ts (t ∷ []) m) [
          | inl a ↦ so_far.cut u a
          | inr b ↦ elim b [ inl e ↦ ap (λ (w : Opened). target_of w.bytes) e ∙ ap target_of bytes ∙ own | inr none ↦ absurd none ]
        ];
        inside = λ u m. elim (IsIn-append_cases u ts (t ∷ []) m) [
          | inl a ↦ so_far.inside u a
          | inr b ↦ elim b [ inl e ↦ subst (λ (w : Opened). is_table_inside hull w ≡ true) (sym e) after.0 | inr none ↦ absurd none ]
        ];
        ascending = ascending_push ts t so_far.ascending after.1;
      }

  parted : (us : List Opened) → AreOutputTables block hull texts us → Split (take i texts) text us
  parted us is = split_at (take i texts) (drop (i + 1) texts) text us (subst (λ (xs : List (List ℕ)). DecodeTo xs us) whole_is is.tables)

  here_in : (us : List Opened) (is : AreOutputTables block hull texts us) → IsIn (parted us is).here us
  here_in us is = let s = parted us is in subst (IsIn s.here) (sym s.parts) (IsIn-append_right s.here s.before (s.here ∷ s.after) (inl refl))

  -- where a text is no table of the block target, there are no outputs
  pub none_opens : ((t : Opened) → IsTable text t.entries → target_of text ≡ block → ⊥) → (us : List Opened) → AreOutputTables block hull texts us → ⊥
  none_opens never us is = let s = parted us is in never s.here s.is (ap target_of (sym s.bytes) ∙ is.cut s.here (here_in us is))

  -- nor where a table does not come next
  pub none_next : (t : Opened) → t.bytes ≡ text → IsTable text t.entries → comes_next hull (slice_get ts (length ts - 1)) t ≡ false → (us : List Opened) → AreOutputTables block hull texts us → ⊥
  none_next t bytes opens next us is =
      let s = parted us is in
      let same_bytes : (s.here).bytes ≡ t.bytes = s.bytes ∙ sym bytes in
      let same_entries : (s.here).entries ≡ t.entries = table_one text (s.here).entries t.entries s.is opens in
      let same : s.here ≡ t = λ j. record { bytes = same_bytes j; entries = same_entries j } in
      let front : s.before ≡ ts = tables_one (take i texts) s.before ts s.front_are so_far.tables in
      let here = next_of block hull texts us s.before s.after s.here is s.parts (slice_get s.before (length s.before - 1)) refl in
      true≢false (sym here ∙ ap (λ (xs : List Opened). comes_next hull (slice_get xs (length xs - 1)) s.here) front ∙ ap (comes_next hull (slice_get ts (length ts - 1))) same ∙ next)
