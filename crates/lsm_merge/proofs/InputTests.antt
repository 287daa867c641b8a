-- What the tests of the inputs come to.
use Rattle.std.proofs.Common.{◌≡◌, ℕ, zero, suc, ◌+◌, ◌<◌, ◌≤◌, Bool, true, false, List, [], ◌∷◌, Some, None, eqb, length, get_or, drop, refl, sym, ap, ◌∙◌, subst, inl, inr, arith}
use Rattle.std.specs.Cmp.{both_ways}
use Rattle.std.specs.List.{list_any}
use Rattle.std.proofs.lemmas.Bool.{false≢true, cases_lt, eqb-true, eq-eqb}
use Rattle.std.proofs.lemmas.List.{drop_more, get_or_default}
use Rattle.lsm_key.specs.declared.entry.Entry.{Entry}
use Rattle.lsm_key.specs.declared.entry.InternalKey.{InternalKey}
use Rattle.lsm_key.specs.Order.{IsInOrder}
use Rattle.lsm_key.specs.Places.{all_entries}
use Rattle.lsm_key.specs.Sets.{IsIn}
use Rattle.lsm_key.specs.Visible.{Latest, is_seen, visible}
use Rattle.lsm_key.proofs.AscendingEntries.{ascending_falls, falls_in_order}
use Rattle.lsm_key.proofs.Lists.{any_from, any_is}
use Rattle.lsm_key.proofs.Membership.{IsIn-append_left, IsIn-append_right, IsIn-append_cases}
use Rattle.lsm_key.proofs.LatestOfList.{latest-is, is_seen-from, is_seen-key, is_seen-low}
use Rattle.lsm_table.specs.Tables.{Opened, IsTable}
use Rattle.lsm_edit.specs.declared.file.FileMeta.{FileMeta}
use Rattle.lsm_edit.specs.Served.{IsAsRecorded, AreAsRecorded}
use Rattle.lsm_merge.specs.Inputs.{ShareEntry, HaveSameEntry, lists_of}
use Rattle.lsm_merge.specs.Comparing.{AllTables, has_place}
use Rattle.lsm_merge.proofs.SharedEntries.{AllFall, is_at, at_from, at_is}

-- ---- tables as recorded

pub recorded_from : (fs : List FileMeta) (ts : List Opened) → length fs ≡ length ts → ((k : ℕ) (d : FileMeta) (t : Opened) → k < length fs → IsAsRecorded (get_or fs k d) (get_or ts k t)) → AreAsRecorded fs ts
recorded_from [] [] long each = tt
recorded_from [] (t ∷ ts) long each = absurd (omega (arith, long))
recorded_from (f ∷ fs) [] long each = absurd (omega (arith, long))
recorded_from (f ∷ fs) (t ∷ ts) long each = (each 0 f t (omega arith), recorded_from fs ts (omega (arith, long)) (λ k d u lt. each (suc k) d u (omega (arith, lt))))

-- one more table that is as its record says
pub recorded_more : (fs : List FileMeta) (ts : List Opened) (i : ℕ) (f : FileMeta) (t : Opened) → ((k : ℕ) (d : FileMeta) (u : Opened) → k < i → IsAsRecorded (get_or fs k d) (get_or ts k u)) → i < length fs → i < length ts
    → f ≡ get_or fs i f → t ≡ get_or ts i t → IsAsRecorded f t → (k : ℕ) (d : FileMeta) (u : Opened) → k < i + 1 → IsAsRecorded (get_or fs k d) (get_or ts k u)
recorded_more fs ts i f t before in_files in_tables f_is t_is own k d u lt = elim (cases_lt k i) [
  | inl less ↦ before k d u less
  | inr more ↦
      let here : i ≡ k = omega (arith, more, lt) in
      let at_file : f ≡ get_or fs k d = f_is ∙ get_or_default fs i f d in_files ∙ ap (λ (n : ℕ). get_or fs n d) here in
      let at_table : t ≡ get_or ts k u = t_is ∙ get_or_default ts i t u in_tables ∙ ap (λ (n : ℕ). get_or ts n u) here in
      subst (λ (g : FileMeta). IsAsRecorded g (get_or ts k u)) at_file (subst (λ (v : Opened). IsAsRecorded f v) at_table own)
]

pub recorded_at : (fs : List FileMeta) (ts : List Opened) → AreAsRecorded fs ts → (k : ℕ) (d : FileMeta) (t : Opened) → k < length fs → IsAsRecorded (get_or fs k d) (get_or ts k t)
recorded_at [] ts h k d t lt = absurd (omega arith)
recorded_at (f ∷ fs) [] h k d t lt = absurd h
recorded_at (f ∷ fs) (u ∷ ts) h zero d t lt = h.0
recorded_at (f ∷ fs) (u ∷ ts) h (suc k) d t lt = recorded_at fs ts h.1 k d t (omega arith)

pub recorded_tables : (fs : List FileMeta) (ts : List Opened) → AreAsRecorded fs ts → AllTables ts
recorded_tables [] [] h t m = absurd m
recorded_tables [] (u ∷ ts) h t m = absurd h
recorded_tables (f ∷ fs) [] h t m = absurd m
recorded_tables (f ∷ fs) (u ∷ ts) h t m = elim m [ inl e ↦ subst (λ (v : Opened). IsTable v.bytes v.entries) (sym e) h.0.table | inr n ↦ recorded_tables fs ts h.1 t n ]

-- ---- the entries of tables

pub tables_fall : (ts : List Opened) → AllTables ts → AllFall (lists_of ts)
tables_fall [] h = tt
tables_fall (t ∷ ts) h = (ascending_falls t.entries (h t (inl refl)).sound.ascending, tables_fall ts (λ u m. h u (inr m)))

pub fall_in_order : (lists : List (List Entry)) → AllFall lists → (k : ℕ) (d : List Entry) → k < length lists → IsInOrder (get_or lists k d)
fall_in_order [] h k d lt = absurd (omega arith)
fall_in_order (es ∷ lists) h zero d lt = falls_in_order es h.0
fall_in_order (es ∷ lists) h (suc k) d lt = fall_in_order lists h.1 k d (omega arith)

-- ---- an entry of a key and sequence is the one that is visible there

pub place_visible : (ikey : InternalKey) (es : List Entry) (x : Entry) → visible es ikey.key ikey.seq ≡ Some x → eqb x.ikey.seq ikey.seq ≡ has_place ikey es
place_visible ikey es x e =
    let top = subst (Latest (is_seen ikey.key ikey.seq) es) e (latest-is (is_seen ikey.key ikey.seq) es) in
    both_ways (eqb x.ikey.seq ikey.seq) (has_place ikey es)
    (λ h. any_from (is_at ikey.key ikey.seq) es x top.member (at_from ikey.key ikey.seq x (is_seen-key ikey.key ikey.seq x top.satisfies) (eqb-true x.ikey.seq ikey.seq h)))
    (λ h.
    let f = any_is (is_at ikey.key ikey.seq) es h in
    let at = at_is ikey.key ikey.seq f.0 f.2 in
    let low : x.ikey.seq ≤ ikey.seq = is_seen-low ikey.key ikey.seq x top.satisfies in
    let high : (f.0).ikey.seq ≤ x.ikey.seq = top.greatest f.0 f.1 (is_seen-from ikey.key ikey.seq f.0 at.0 (omega (arith, at.1))) in
    eq-eqb x.ikey.seq ikey.seq (omega (arith, at.1)))

pub place_hidden : (ikey : InternalKey) (es : List Entry) → visible es ikey.key ikey.seq ≡ None → false ≡ has_place ikey es
place_hidden ikey es e =
    let none = subst (Latest (is_seen ikey.key ikey.seq) es) e (latest-is (is_seen ikey.key ikey.seq) es) in
    both_ways false (has_place ikey es) (λ h. absurd (false≢true h)) (λ h.
    let f = any_is (is_at ikey.key ikey.seq) es h in
    let at = at_is ikey.key ikey.seq f.0 f.2 in
    absurd (none f.0 f.1 (is_seen-from ikey.key ikey.seq f.0 at.0 (omega (arith, at.1)))))

-- ---- tables that share an entry

in_lists : (ts : List Opened) (t : Opened) (e : Entry) → IsIn t ts → IsIn e t.entries → IsIn e (all_entries (lists_of ts))
in_lists [] t e m n = absurd m
in_lists (u ∷ ts) t e m n = elim m [
  | inl same ↦ IsIn-append_left e u.entries (all_entries (lists_of ts)) (subst (λ (v : Opened). IsIn e v.entries) same n)
  | inr later ↦ IsIn-append_right e u.entries (all_entries (lists_of ts)) (in_lists ts t e later n)
]

pub lists_in : (ts : List Opened) (e : Entry) → IsIn e (all_entries (lists_of ts)) → (t : Opened) × IsIn t ts × IsIn e t.entries
lists_in [] e m = absurd m
lists_in (u ∷ ts) e m = elim (IsIn-append_cases e u.entries (all_entries (lists_of ts)) m) [ inl a ↦ (u, inl refl, a) | inr b ↦ let r = lists_in ts e b in (r.0, inr r.1, r.2) ]

abbrev pub in_one : List Opened → Entry → Bool
in_one later e = list_any (λ t. has_place e.ikey t.entries) later

pub share_is : (es : List Entry) (later : List Opened) → list_any (in_one later) es ≡ true → ShareEntry es (all_entries (lists_of later))
share_is es later h =
    let e = any_is (in_one later) es h in
    let t = any_is (λ (u : Opened). has_place (e.0).ikey u.entries) later e.2 in
    let f = any_is (is_at (e.0).ikey.key (e.0).ikey.seq) (t.0).entries t.2 in
    let at = at_is (e.0).ikey.key (e.0).ikey.seq f.0 f.2 in
    (e.0, f.0, e.1, in_lists later t.0 f.0 t.1 f.1, sym at.0, sym at.1)

pub share_from : (es : List Entry) (later : List Opened) → ShareEntry es (all_entries (lists_of later)) → list_any (in_one later) es ≡ true
share_from es later h =
    let e : Entry = h.0 in
    let f : Entry = h.1 in
    let t = lists_in later f h.3 in
    any_from (in_one later) es e h.2
    (any_from (λ (u : Opened). has_place e.ikey u.entries) later t.0 t.1
    (any_from (is_at e.ikey.key e.ikey.seq) (t.0).entries f t.2 (at_from e.ikey.key e.ikey.seq f (sym h.4) (sym h.5))))

-- one that shares an entry with those behind it
pub same_at : (ts : List Opened) (i : ℕ) (t : Opened) → i < length ts → t ≡ get_or ts i t → ShareEntry t.entries (all_entries (lists_of (drop (i + 1) ts))) → HaveSameEntry (lists_of ts)
same_at [] i t lt is h = absurd (omega arith)
same_at (u ∷ ts) zero t lt is h = inl (subst (λ (v : Opened). ShareEntry v.entries (all_entries (lists_of ts))) is h)
same_at (u ∷ ts) (suc i) t lt is h =
    let e : suc i + 1 ≡ suc (i + 1) = omega arith in
    inr (same_at ts i t (omega arith) is (subst (λ (n : ℕ). ShareEntry t.entries (all_entries (lists_of (drop n (u ∷ ts))))) e h))

-- one that shares none is passed over
pub same_after : (ts : List Opened) (i : ℕ) (t : Opened) → i < length ts → t ≡ get_or ts i t → (ShareEntry t.entries (all_entries (lists_of (drop (i + 1) ts))) → ⊥) → HaveSameEntry (lists_of (drop i ts)) → HaveSameEntry (lists_of (drop (i + 1) ts))
same_after ts i t lt is none h =
    let parts : drop i ts ≡ t ∷ drop (i + 1) ts = drop_more ts i t lt ∙ ap (λ (u : Opened). u ∷ drop (i + 1) ts) (sym is) in
    let split : HaveSameEntry (t.entries ∷ lists_of (drop (i + 1) ts)) = subst (λ (us : List Opened). HaveSameEntry (lists_of us)) parts h in
    elim split [ inl s ↦ absurd (none s) | inr later ↦ later ]
