-- A walk over a span to where a range of keys begins.
use Rattle.std.proofs.Common.{◌≡◌, ℕ, suc, get_or, ◌+◌, ◌-◌, ◌<◌, ◌≤◌, true, List, [], ◌∷◌, ◌++◌, length, take, drop, sym, ap, subst, ◌∙◌, append_assoc, arith, inl, inr}
use Rattle.std.specs.List.{AllByRecursion}
use Rattle.std.specs.Ordering.{is_lt}
use Rattle.std.proofs.lemmas.List.{append-nil, length-append}
use Rattle.std.proofs.lemmas.List.Concat.{flat_map-append}
use Rattle.lsm_key.specs.declared.entry.Entry.{Entry}
use Rattle.lsm_key.specs.Prefix.{prefix_of}
use Rattle.lsm_key.proofs.FieldLaws.{IsBytes}
use Rattle.lsm_key.proofs.PrefixOrder.{prefix_before}
use Rattle.lsm_block.specs.Blocks.{entry, entries}
use Rattle.lsm_block.specs.Fences.{AreFences, IsLowerFence}
use Rattle.lsm_block.specs.Ranges.{is_below, StartsFrom, Skips, IsLowerPlace}
use Rattle.lsm_block.specs.Spans.{IsSpan}
use Rattle.lsm_block.proofs.EntriesGrow.{each_push}
use Rattle.lsm_block.proofs.FencedSpans.{rest_span, to_end}
use Rattle.lsm_block.proofs.SoughtFences.{prefix_at, before_at}

-- ---- where a walk may begin

all_below : (front : List ℕ) (xs : List Entry) (lo : List ℕ) → IsBytes lo → ((k : ℕ) (d : Entry) → k < length xs → prefix_of front (get_or xs k d).ikey.key < prefix_of front lo) → AllByRecursion (λ e. is_below lo e ≡ true) xs
all_below front [] lo fits less = tt
all_below front (x ∷ xs) lo fits less = (
  ap is_lt (prefix_before front x.ikey.key lo fits (less 0 x (omega arith))),
  all_below front xs lo fits (λ k d lt. less (suc k) d (omega (arith, lt))),
)

pub fence_skips : (front bytes prefixes places : List ℕ) (es : List Entry) (lo : List ℕ) (place : ℕ) → IsSpan bytes es → IsBytes lo → AreFences front es prefixes places → IsLowerFence front prefixes places lo (length bytes) place → Skips es lo place
fence_skips front bytes prefixes places es lo place span fits fenced lower = elim lower [
  | inl past ↦ record {
    before = es;
    more = [];
    parts = sym (append-nil es);
    begins = past.0 ∙ ap length span.spelled;
    below = all_below front es lo fits (λ k d lt.
        let within : k < length prefixes = omega (arith, lt, fenced.counted) in
        omega (arith, past.1 k 0 within, prefix_at front bytes prefixes places es span fenced k d within));
  }
  | inr found ↦
      let f = fenced.each found.0 found.1 in
      record {
        before = f.before;
        more = f.first ∷ f.more;
        parts = f.parts;
        begins = found.2 ∙ f.begins;
        below = all_below front f.before lo fits (λ k d lt.
            omega (arith, found.3 k 0 (omega arith) (omega (arith, lt, f.numbered)), before_at front bytes prefixes places es span fenced found.0 found.1 k d lt));
      }
]

long : (bytes : List ℕ) (es front more : List Entry) → IsSpan bytes es → es ≡ front ++ more → length bytes ≡ length (entries front) + length (entries more)
long bytes es front more span parts = ap length (span.spelled ∙ ap (λ (xs : List Entry). entries xs) parts ∙ flat_map-append entry front more) ∙ length-append (entries front) (entries more)

pub skips_within : (bytes : List ℕ) (es : List Entry) (lo : List ℕ) (place : ℕ) → IsSpan bytes es → Skips es lo place → place ≤ length bytes
skips_within bytes es lo place span s = let b = s.begins in omega (arith, b, long bytes es s.before s.more span s.parts)

-- ---- to where the range begins

-- the bytes left are the span of the last entries, and the keys of those before are below lo
pub record Below (es : List Entry) (lo rest : List ℕ) : Type 0 where
  pub front : List Entry
  pub more : List Entry
  pub parts : es ≡ front ++ more
  pub below : AllByRecursion (λ e. is_below lo e ≡ true) front
  pub span : IsSpan rest more

pub more_span : (bytes : List ℕ) (es : List Entry) (lo : List ℕ) (place : ℕ) → IsSpan bytes es → (s : Skips es lo place) → IsSpan (drop place bytes) s.more
more_span bytes es lo place span s = rw s.begins (rest_span bytes s.before s.more (subst (IsSpan bytes) s.parts span))

pub starts : (bytes : List ℕ) (es : List Entry) (lo : List ℕ) (place : ℕ) → IsSpan bytes es → Skips es lo place → Below es lo (take (length bytes - place) (drop place bytes))
starts bytes es lo place span s = record { front = s.before; more = s.more; parts = s.parts; below = s.below; span = to_end bytes place s.more (more_span bytes es lo place span s) }

pub goes_on : (es : List Entry) (lo rest : List ℕ) (b : Below es lo rest) (e : Entry) (xs : List Entry) (after : List ℕ) → b.more ≡ e ∷ xs → IsSpan after xs → is_below lo e ≡ true → Below es lo after
goes_on es lo rest b e xs after is span less = record {
  front = b.front ++ e ∷ [];
  more = xs;
  parts = b.parts ∙ ap (λ (m : List Entry). b.front ++ m) is ∙ sym (append_assoc b.front (e ∷ []) xs);
  below = each_push (λ y. is_below lo y ≡ true) b.front e b.below less;
  span = span;
}

-- the bytes before the rest are those of the entries passed
pub place_is : (bytes : List ℕ) (es : List Entry) (lo rest : List ℕ) → IsSpan bytes es → (b : Below es lo rest) → StartsFrom lo b.more → IsLowerPlace es lo (length bytes - length rest)
place_is bytes es lo rest span b stops =
    let left : length (entries b.more) ≡ length rest = ap length (sym b.span.spelled) in
    record { skips = record { before = b.front; more = b.more; parts = b.parts; begins = omega (arith, left, long bytes es b.front b.more span b.parts); below = b.below }; stops = stops }
