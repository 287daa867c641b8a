-- A walk that begins at a fence whose prefix is less than the key's gives what a walk from the front gives.
use Rattle.std.proofs.Common.{◌≡◌, ℕ, suc, ◌+◌, ◌<◌, ◌≤◌, Bool, true, false, List, [], ◌∷◌, ◌++◌, length, get_or, take, drop, ◌-◌, refl, sym, ap, subst, ◌∙◌, arith, inl, inr}
use Rattle.std.proofs.lemmas.List.{length-append, drop_at, take_rest}
use Rattle.std.proofs.lemmas.List.Concat.{flat_map-append}
use Rattle.lsm_key.specs.declared.entry.Entry.{Entry}
use Rattle.lsm_key.specs.Entries.{IsEntry}
use Rattle.lsm_key.specs.Order.{IsAscending, Precedes, key_lt}
use Rattle.lsm_key.specs.Visible.{visible}
use Rattle.lsm_block.specs.Blocks.{entry, entries, HasSequence, AreEntries}
use Rattle.lsm_block.proofs.EntriesGrow.{each_rest}
use Rattle.std.specs.Ordering.{is_lt, nat_cmp}
use Rattle.std.specs.Cmp.Lexicographic.{slice_cmp}
use Rattle.std.proofs.lemmas.Cmp.{tied_itself, nat_list_cmp_total}
use Rattle.std.proofs.lemmas.List.{get_or-append-add}
use Rattle.lsm_key.specs.Visible.{is_seen}
use Rattle.lsm_key.proofs.FieldLaws.{IsBytes}
use Rattle.lsm_key.specs.Prefix.{prefix_of}
use Rattle.lsm_key.proofs.EntryOrder.{far}
use Rattle.lsm_key.proofs.PrefixOrder.{prefix_before}
use Rattle.lsm_key.proofs.RangeSlices.{before_smaller}
use Rattle.lsm_key.proofs.LatestOfList.{is_seen-key}
use Rattle.lsm_block.specs.Spans.{IsSpan}
use Rattle.lsm_block.specs.Fences.{AreFences, MayBegin}

tail : (e : Entry) (es : List Entry) → IsAscending (e ∷ es) → IsAscending es
tail e es up i d lt =
    let k : suc i + 1 ≡ suc (i + 1) = omega arith in
    subst (λ (n : ℕ). Precedes (get_or es i d) (get_or (e ∷ es) n d)) k (up (suc i) d (omega (arith, lt)))

ascending_rest : (front more : List Entry) → IsAscending (front ++ more) → IsAscending more
ascending_rest [] more up = up
ascending_rest (e ∷ front) more up = ascending_rest front more (tail e (front ++ more) up)

pub sound_rest : (front more : List Entry) → AreEntries (front ++ more) → AreEntries more
sound_rest front more sound = record { each = each_rest IsEntry front more sound.each; sequences = each_rest HasSequence front more sound.sequences; ascending = ascending_rest front more sound.ascending }

-- whole entries of a span, to its end, are a span
pub rest_span : (bytes : List ℕ) (front more : List Entry) → IsSpan bytes (front ++ more) → IsSpan (drop (length (entries front)) bytes) more
rest_span bytes front more span = record {
  sound = sound_rest front more span.sound;
  spelled = ap (drop (length (entries front))) (span.spelled ∙ flat_map-append entry front more) ∙ drop_at (entries front) (entries more) (length (entries front)) refl;
}

-- what stands in front of an entry of a smaller key does not show the key
not_seen : (e : Entry) (key : List ℕ) (at : ℕ) → key_lt e.ikey.key key ≡ true → (b : Bool) → is_seen key at e ≡ b → b ≡ false
not_seen e key at less false h = refl
not_seen e key at less true h =
    let same : e.ikey.key ≡ key = is_seen-key key at e h in
    let own : is_lt (slice_cmp nat_cmp key key) ≡ true = subst (λ (k : List ℕ). is_lt (slice_cmp nat_cmp k key) ≡ true) same less in
    let bad : false ≡ true = sym (ap is_lt (tied_itself nat_list_cmp_total key)) ∙ own in absurd cc

pub front_hides_nothing : (front : List Entry) (first : Entry) (more : List Entry) (key : List ℕ) (at : ℕ) → IsAscending (front ++ first ∷ more) → key_lt first.ikey.key key ≡ true → visible (front ++ first ∷ more) key at ≡ visible (first ∷ more) key at
front_hides_nothing [] first more key at up less = refl
front_hides_nothing (e ∷ front) first more key at up less =
    let whole : List Entry = (e ∷ front) ++ first ∷ more in
    let n : ℕ = length front in
    let len : length whole ≡ length (e ∷ front) + length (first ∷ more) = length-append (e ∷ front) (first ∷ more) in
    let here : get_or whole (n + 1) first ≡ first = (let k : n + 1 ≡ length (e ∷ front) + 0 = omega arith in ap (λ (i : ℕ). get_or whole i first) k ∙ get_or-append-add (e ∷ front) (first ∷ more) 0 first) in
    let before : Precedes e first = subst (λ (x : Entry). Precedes e x) here (far whole up n 0 (n + 1) first (omega arith) (omega (arith, len))) in
    let lower : key_lt e.ikey.key key ≡ true = before_smaller e.ikey.key e.ikey.seq first.ikey.key first.ikey.seq key before less in
    rw (not_seen e key at lower (is_seen key at e) refl) (front_hides_nothing front first more key at (tail e (front ++ first ∷ more) up) less)

-- where a walk may begin there is a span, and it shows of the key what the whole shows
pub record Begins (bytes : List ℕ) (es : List Entry) (key : List ℕ) (at begin : ℕ) : Type 0 where
  pub more : List Entry
  pub span : IsSpan (drop begin bytes) more
  pub within : begin ≤ length bytes
  pub shows : visible more key at ≡ visible es key at

pub begins : (front bytes prefixes places : List ℕ) (es : List Entry) (key : List ℕ) (at begin : ℕ) → IsSpan bytes es → IsBytes key → AreFences front es prefixes places → MayBegin front prefixes places key begin → Begins bytes es key at begin
begins front bytes prefixes places es key at begin span fits fenced may = elim may [
  | inl zero_is ↦ record { more = es; span = rw zero_is span; within = omega (arith, zero_is); shows = refl }
  | inr at_fence ↦
      let f = fenced.each at_fence.0 at_fence.1 in
      let begin_is : begin ≡ length (entries f.before) = at_fence.2 ∙ f.begins in
      let parted : IsSpan bytes (f.before ++ f.first ∷ f.more) = subst (IsSpan bytes) f.parts span in
      let less : key_lt f.first.ikey.key key ≡ true = ap is_lt (prefix_before front f.first.ikey.key key fits (subst (λ (n : ℕ). n < prefix_of front key) f.prefixed at_fence.3)) in
      let long : length bytes ≡ length (entries f.before) + length (entries (f.first ∷ f.more)) = ap length (parted.spelled ∙ flat_map-append entry f.before (f.first ∷ f.more)) ∙ length-append (entries f.before) (entries (f.first ∷ f.more)) in
      record {
        more = f.first ∷ f.more;
        span = rw begin_is (rest_span bytes f.before (f.first ∷ f.more) parted);
        within = omega (arith, begin_is, long);
        shows = sym (ap (λ (xs : List Entry). visible xs key at) f.parts ∙ front_hides_nothing f.before f.first f.more key at parted.sound.ascending less);
      }
]

pub to_end : (bytes : List ℕ) (n : ℕ) (es : List Entry) → IsSpan (drop n bytes) es → IsSpan (take (length bytes - n) (drop n bytes)) es
to_end bytes n es span = subst (λ (xs : List ℕ). IsSpan xs es) (sym (take_rest bytes n)) span
