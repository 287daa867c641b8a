-- The entries between two fences show of a key what all show.
use Rattle.std.proofs.Common.{◌≡◌, ℕ, ◌+◌, ◌-◌, ◌<◌, ◌≤◌, Bool, true, false, List, [], ◌∷◌, ◌++◌, length, get_or, take, drop, None, refl, sym, ap, subst, ◌∙◌, arith, inl, inr, ◌⊎◌}
use Rattle.std.specs.declared.cmp.Ordering.{Ordering}
use Rattle.std.specs.declared.cmp.Ordering.TheVariants.{Less, Equal, Greater}
use Rattle.std.specs.Int.{w16, to_be_bytes}
use Rattle.std.specs.List.{slice_range}
use Rattle.std.specs.Ordering.{is_lt, nat_cmp, ordering_then}
use Rattle.std.specs.Cmp.Lexicographic.{slice_cmp}
use Rattle.std.proofs.lemmas.Bool.{cases_lt}
use Rattle.std.proofs.lemmas.Cmp.{tied_itself, nat_list_cmp_total}
use Rattle.std.proofs.Math.Seq.{take-append_seam}
use Rattle.std.proofs.lemmas.List.{append-nil, length-append, get_or_append_left, get_or_past, drop_at}
use Rattle.std.proofs.lemmas.List.Concat.{flat_map-append, flat_map-cons}
use Rattle.lsm_key.specs.declared.entry.Entry.{Entry}
use Rattle.lsm_key.specs.declared.limits.TheConstants.{MAX_KEY_BYTES}
use Rattle.lsm_key.specs.Order.{Precedes, key_lt, place_cmp}
use Rattle.lsm_key.specs.Prefix.{prefix_of}
use Rattle.lsm_key.specs.Spelling.{key, trailer}
use Rattle.lsm_key.specs.Visible.{is_seen, visible, newer}
use Rattle.lsm_key.proofs.EntryOrder.{is_less, keys_equal}
use Rattle.lsm_key.proofs.FieldLaws.{IsBytes, IsBytes-after}
use Rattle.lsm_key.proofs.LatestOfList.{is_seen-key, newer-none, visible-append}
use Rattle.lsm_key.proofs.PrefixOrder.{prefix_before}
use Rattle.lsm_block.specs.Blocks.{entry, entries, value, AreEntries, IsBlock}
use Rattle.lsm_block.specs.Fences.{AreFences, MayBegin, MayEnd}
use Rattle.lsm_block.specs.Handles.{IsPartAt, IsHandleFor}
use Rattle.lsm_block.specs.Spans.{IsSpan}
use Rattle.lsm_block.specs.declared.handle.BlockHandle.{BlockHandle}
use Rattle.lsm_block.proofs.BlockRuns.{all_short, entry_some}
use Rattle.lsm_block.proofs.BlocksInTurn.{sound_front}
use Rattle.lsm_block.proofs.EntriesGrow.{has_some}
use Rattle.lsm_block.proofs.FencedSpans.{front_hides_nothing, sound_rest}

-- ---- the bytes of a key

front_fits : (front rest : List ℕ) → IsBytes (front ++ rest) → IsBytes front
front_fits front rest h i =
    elim (cases_lt i (length front)) [
      | inl lt ↦ rw (← get_or_append_left front rest 0 i lt) (h i)
      | inr le ↦ rw (get_or_past front i 0 le) (omega arith)
    ]

pub key_fits : (bytes : List ℕ) (before : List Entry) (first : Entry) (more : List Entry) → IsBytes bytes → bytes ≡ entries (before ++ first ∷ more) → IsBytes first.ikey.key
key_fits bytes before first more fits is =
    let k = first.ikey.key in
    let all : IsBytes (entries before ++ entries (first ∷ more)) = subst IsBytes (is ∙ flat_map-append entry before (first ∷ more)) fits in
    let here : IsBytes (entry first ++ entries more) = subst IsBytes (flat_map-cons entry first more) (IsBytes-after (entries before) (entries (first ∷ more)) all) in
    let one : IsBytes (key k ++ trailer first.ikey.seq first.ikey.kind) = front_fits (key k ++ trailer first.ikey.seq first.ikey.kind) (value first.value) (front_fits (entry first) (entries more) here) in
    IsBytes-after (to_be_bytes w16 (length k)) k (front_fits (key k) (trailer first.ikey.seq first.ikey.kind) one)

-- ---- entries of greater keys

-- what stands behind an entry whose key is greater has a greater key
after_greater : (k a : List ℕ) (s : ℕ) (b : List ℕ) (t : ℕ) → key_lt k a ≡ true → is_lt (place_cmp a s b t) ≡ true → key_lt k b ≡ true
after_greater k a s b t lt h = by (slice_cmp nat_cmp a b) refl h
  where
    by : (o : Ordering) → slice_cmp nat_cmp a b ≡ o → is_lt (ordering_then o (nat_cmp t s)) ≡ true → key_lt k b ≡ true
    by Less e h = ap is_lt (nat_list_cmp_total.trans k a b (is_less (slice_cmp nat_cmp k a) lt) e)
    by Equal e h = subst (λ (x : List ℕ). key_lt k x ≡ true) (keys_equal a b e) lt
    by Greater e h = absurd cc

not_seen : (e : Entry) (k : List ℕ) (at : ℕ) → key_lt k e.ikey.key ≡ true → (b : Bool) → is_seen k at e ≡ b → b ≡ false
not_seen e k at less false h = refl
not_seen e k at less true h =
    let same : e.ikey.key ≡ k = is_seen-key k at e h in
    let own : is_lt (slice_cmp nat_cmp k k) ≡ true = subst (λ (x : List ℕ). is_lt (slice_cmp nat_cmp k x) ≡ true) same less in
    let bad : false ≡ true = sym (ap is_lt (tied_itself nat_list_cmp_total k)) ∙ own in absurd cc

rest_hides : (first : Entry) (more : List Entry) (k : List ℕ) (at : ℕ) → AreEntries (first ∷ more) → key_lt k first.ikey.key ≡ true → visible (first ∷ more) k at ≡ None
rest_hides first [] k at sound less = rw (not_seen first k at less (is_seen k at first) refl) refl
rest_hides first (y ∷ more) k at sound less =
    let next : Precedes first y = sound.ascending 0 first (omega arith) in
    let greater : key_lt k y.ikey.key ≡ true = after_greater k first.ikey.key first.ikey.seq y.ikey.key y.ikey.seq less next in
    rw (not_seen first k at less (is_seen k at first) refl) (rest_hides y more k at (sound_rest (first ∷ []) (y ∷ more) sound) greater)

-- ---- a beginning and an end

-- an entry begins at the place, and what stands before it does not show the key
record StartsAt (es : List Entry) (k : List ℕ) (begin : ℕ) : Type 0 where
  front : List Entry
  rest : List Entry
  parts : es ≡ front ++ rest
  begins : begin ≡ length (entries front)
  hides : (front ≡ []) ⊎ ((first : Entry) × (more : List Entry) × (rest ≡ first ∷ more) × (key_lt first.ikey.key k ≡ true))

-- what begins at the place does not show the key
record StopsAt (es : List Entry) (k : List ℕ) (end : ℕ) : Type 0 where
  front : List Entry
  rest : List Entry
  parts : es ≡ front ++ rest
  ends : end ≡ length (entries front)
  hides : (at : ℕ) → visible rest k at ≡ None

module _ (front bytes prefixes places : List ℕ) (es : List Entry) (k : List ℕ) (span : IsSpan bytes es) (fits : IsBytes bytes) (fenced : AreFences front es prefixes places) where
  starts_at : (begin : ℕ) → IsBytes k → MayBegin front prefixes places k begin → StartsAt es k begin
  starts_at begin key_is may = elim may [
    | inl zero_is ↦ record { front = []; rest = es; parts = refl; begins = zero_is; hides = inl refl }
    | inr at_fence ↦
        let f = fenced.each at_fence.0 at_fence.1 in
        let less : key_lt f.first.ikey.key k ≡ true = ap is_lt (prefix_before front f.first.ikey.key k key_is (subst (λ (n : ℕ). n < prefix_of front k) f.prefixed at_fence.3)) in
        record { front = f.before; rest = f.first ∷ f.more; parts = f.parts; begins = at_fence.2 ∙ f.begins; hides = inr (f.first, f.more, refl, less) }
  ]

  stops_at : (end : ℕ) → MayEnd front prefixes places k (length bytes) end → StopsAt es k end
  stops_at end may = elim may [
    | inl all ↦ record { front = es; rest = []; parts = sym (append-nil es); ends = all ∙ ap length span.spelled; hides = λ at. refl }
    | inr at_fence ↦
        let f = fenced.each at_fence.0 at_fence.1 in
        let key_is : IsBytes f.first.ikey.key = key_fits bytes f.before f.first f.more fits (span.spelled ∙ ap (λ (xs : List Entry). entries xs) f.parts) in
        let less : key_lt k f.first.ikey.key ≡ true = ap is_lt (prefix_before front k f.first.ikey.key key_is (subst (λ (n : ℕ). prefix_of front k < n) f.prefixed at_fence.3)) in
        record {
          front = f.before;
          rest = f.first ∷ f.more;
          parts = f.parts;
          ends = at_fence.2 ∙ f.begins;
          hides = λ at. rest_hides f.first f.more k at (sound_rest f.before (f.first ∷ f.more) (subst AreEntries f.parts span.sound)) less;
        }
  ]

-- ---- what stands between them

between : (a r b s : List Entry) → a ++ r ≡ b ++ s → length (entries a) < length (entries b) → (mid : List Entry) × (b ≡ a ++ mid) × (r ≡ mid ++ s) × (0 < length mid)
between [] r b s e lt = (b, refl, e, has_some b lt)
between (x ∷ a) r [] s e lt = absurd (omega (arith, lt))
between (x ∷ a) r (y ∷ b) s e lt =
    let same : x ≡ y = ap (λ (xs : List Entry). get_or xs 0 x) e in
    let one : length (entries (x ∷ a)) ≡ length (entry x) + length (entries a) = ap length (flat_map-cons entry x a) ∙ length-append (entry x) (entries a) in
    let other : length (entries (y ∷ b)) ≡ length (entry y) + length (entries b) = ap length (flat_map-cons entry y b) ∙ length-append (entry y) (entries b) in
    let m = between a r b s (ap (drop 1) e) (omega (arith, lt, one, other, ap (λ (z : Entry). length (entry z)) same)) in
    (m.0, ap (λ (z : Entry). z ∷ b) (sym same) ∙ ap (λ (zs : List Entry). x ∷ zs) m.1, m.2, m.3)

module _ (es : List Entry) (k : List ℕ) (begin end : ℕ) (sound : AreEntries es) (s : StartsAt es k begin) (t : StopsAt es k end) (lt : begin < end) where
  mid : (mid : List Entry) × (t.front ≡ s.front ++ mid) × (s.rest ≡ mid ++ t.rest) × (0 < length mid)
  mid = between s.front s.rest t.front t.rest (sym s.parts ∙ t.parts) (omega (arith, lt, s.begins, t.ends))

  front_shows : (part : List Entry) (at : ℕ) → t.front ≡ s.front ++ part → s.rest ≡ part ++ t.rest → 0 < length part → visible part k at ≡ visible (s.front ++ part) k at
  front_shows [] at is rests some = absurd (omega (arith, some))
  front_shows (p ∷ part) at is rests some = elim s.hides [
    | inl none ↦ rw none refl
    | inr seen ↦
        let first : p ≡ seen.0 = ap (λ (xs : List Entry). get_or xs 0 p) (sym rests ∙ seen.2) in
        let less : key_lt p.ikey.key k ≡ true = subst (λ (z : Entry). key_lt z.ikey.key k ≡ true) (sym first) seen.3 in
        let whole : AreEntries (s.front ++ p ∷ part) = subst AreEntries is (sound_front t.front t.rest (subst AreEntries t.parts sound)) in
        sym (front_hides_nothing s.front p part k at whole.ascending less)
  ]

  handle_between : IsHandleFor es k (record { offset = begin; size = end - begin })
  handle_between =
      let part = mid.0 in
      let long : length (entries t.front) ≡ length (entries s.front) + length (entries part) = ap (λ (xs : List Entry). length (entries xs)) mid.1 ∙ ap length (flat_map-append entry s.front part) ∙ length-append (entries s.front) (entries part) in
      record {
        is = record {
          part = part;
          some = mid.3;
          at = record {
            before = s.front;
            after = t.rest;
            parts = s.parts ∙ ap (λ (xs : List Entry). s.front ++ xs) mid.2;
            begins = s.begins;
            sized = omega (arith, long, s.begins, t.ends);
          };
        };
        shows = λ at.
            front_shows part at mid.1 mid.2 mid.3
            ∙ ap (λ (xs : List Entry). visible xs k at) (sym mid.1)
            ∙ sym (ap (λ (xs : List Entry). visible xs k at) t.parts ∙ visible-append t.front t.rest k at ∙ ap (newer (visible t.front k at)) (t.hides at) ∙ newer-none (visible t.front k at));
      }

pub handle_of_all : (bytes : List ℕ) (es : List Entry) (k : List ℕ) → IsSpan bytes es → 0 < length bytes → IsHandleFor es k (record { offset = 0; size = length bytes })
handle_of_all bytes es k span some = record {
  is = record {
    part = es;
    some = has_some es (omega (arith, some, ap length span.spelled));
    at = record { before = []; after = []; parts = sym (append-nil es); begins = refl; sized = ap length span.spelled };
  };
  shows = λ at. refl;
}

pub handle_found : (front bytes prefixes places : List ℕ) (es : List Entry) (k : List ℕ) (begin end : ℕ) → IsSpan bytes es → IsBytes bytes → IsBytes k → AreFences front es prefixes places
    → MayBegin front prefixes places k begin → MayEnd front prefixes places k (length bytes) end → begin < end → IsHandleFor es k (record { offset = begin; size = end - begin })
handle_found front bytes prefixes places es k begin end span fits key_is fenced may_begin may_end lt =
    handle_between es k begin end span.sound (starts_at front bytes prefixes places es k span fits fenced begin key_is may_begin) (stops_at front bytes prefixes places es k span fits fenced end may_end) lt

-- ---- the bytes of a handle

module _ (bytes : List ℕ) (es : List Entry) (handle : BlockHandle) (part : List Entry) (is : IsBlock MAX_KEY_BYTES bytes es) (at : IsPartAt es handle part) where
  split : bytes ≡ entries at.before ++ (entries part ++ entries at.after)
  split = is.spelled ∙ ap (λ (xs : List Entry). entries xs) at.parts ∙ flat_map-append entry at.before (part ++ at.after) ∙ ap (λ (b : List ℕ). entries at.before ++ b) (flat_map-append entry part at.after)

  pub part_within : handle.offset + handle.size ≤ length bytes
  part_within = omega (arith, at.begins, at.sized, ap length split, length-append (entries at.before) (entries part ++ entries at.after), length-append (entries part) (entries at.after))

  pub part_block : 0 < length part → IsBlock MAX_KEY_BYTES (slice_range bytes handle.offset (handle.offset + handle.size)) part
  part_block some =
      let size : handle.offset + handle.size - handle.offset ≡ length (entries part) = omega (arith, at.sized) in
      let behind : drop handle.offset bytes ≡ entries part ++ entries at.after = ap (drop handle.offset) split ∙ drop_at (entries at.before) (entries part ++ entries at.after) handle.offset (sym at.begins) in
      let sound = sound_front part at.after (sound_rest at.before (part ++ at.after) (subst AreEntries at.parts is.sound)) in
      record {
        some = some;
        sound = sound;
        short = all_short part sound.each;
        spelled = ap (λ (n : ℕ). take n (drop handle.offset bytes)) size ∙ ap (take (length (entries part))) behind ∙ take-append_seam (entries part) (entries at.after);
      }

-- ---- one list of entries has a handle

same_front : (a r b s : List Entry) → a ++ r ≡ b ++ s → length (entries a) ≡ length (entries b) → (a ≡ b) × (r ≡ s)
same_front [] r [] s e len = (refl, e)
same_front [] r (y ∷ b) s e len = absurd (omega (arith, len, entry_some y, ap length (flat_map-cons entry y b), length-append (entry y) (entries b)))
same_front (x ∷ a) r [] s e len = absurd (omega (arith, len, entry_some x, ap length (flat_map-cons entry x a), length-append (entry x) (entries a)))
same_front (x ∷ a) r (y ∷ b) s e len =
    let same : x ≡ y = ap (λ (xs : List Entry). get_or xs 0 x) e in
    let one : length (entries (x ∷ a)) ≡ length (entry x) + length (entries a) = ap length (flat_map-cons entry x a) ∙ length-append (entry x) (entries a) in
    let other : length (entries (y ∷ b)) ≡ length (entry y) + length (entries b) = ap length (flat_map-cons entry y b) ∙ length-append (entry y) (entries b) in
    let m = same_front a r b s (ap (drop 1) e) (omega (arith, len, one, other, ap (λ (z : Entry). length (entry z)) same)) in
    (ap (λ (z : Entry). z ∷ a) same ∙ ap (λ (zs : List Entry). y ∷ zs) m.0, m.1)

pub one_part : (es : List Entry) (handle : BlockHandle) (p q : List Entry) → IsPartAt es handle p → IsPartAt es handle q → p ≡ q
one_part es handle p q a b =
    let fronts = same_front a.before (p ++ a.after) b.before (q ++ b.after) (sym a.parts ∙ b.parts) (sym a.begins ∙ b.begins) in
    (same_front p a.after q b.after fronts.1 (sym a.sized ∙ b.sized)).0
