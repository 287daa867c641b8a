-- The loops over the entries of a range, and over all entries.
use Rattle.std.proofs.Common.{◌≡◌, ℕ, ◌-◌, Bool, true, cond, List, [], ◌∷◌, ◌++◌, length, take, drop, refl, sym, ap, ◌∙◌, append_assoc}
use Rattle.std.proofs.lemmas.List.{append-nil}
use Rattle.std.specs.List.{filter}
use Rattle.lsm_key.specs.declared.entry.Entry.{Entry}
use Rattle.lsm_key.specs.Order.{is_between}
use Rattle.lsm_block.specs.Ranges.{is_below, StartsFrom, IsLowerPlace}
use Rattle.lsm_block.specs.Spans.{IsSpan}
use Rattle.lsm_block.proofs.FencedSpans.{to_end}
use Rattle.lsm_block.proofs.RangeFilters.{between_place, none_left}
use Rattle.lsm_block.proofs.SpanRanges.{more_span}

-- ---- gathering the entries of a range

-- the entries gathered, and those of the range to come, are those of the range
pub record Gathers (es : List Entry) (lo hi : List ℕ) (out : List Entry) (rest : List ℕ) : Type 0 where
  pub more : List Entry
  pub span : IsSpan rest more
  pub same : out ++ filter (is_below hi) more ≡ filter (is_between lo hi) es

pub gathers : (bytes : List ℕ) (es : List Entry) (lo hi : List ℕ) (place : ℕ) → IsSpan bytes es → IsLowerPlace es lo place → Gathers es lo hi [] (take (length bytes - place) (drop place bytes))
gathers bytes es lo hi place span l = record {
  more = l.skips.more;
  span = to_end bytes place l.skips.more (more_span bytes es lo place span l.skips);
  same = sym (between_place es lo place span.sound l hi);
}

module _ (es : List Entry) (lo hi : List ℕ) (out : List Entry) (rest : List ℕ) (g : Gathers es lo hi out rest) where
  -- where no entry to come is below the end of the range, all are gathered
  pub gathered : StartsFrom hi g.more → out ≡ filter (is_between lo hi) es
  gathered stop = sym (append-nil out) ∙ ap (λ (xs : List Entry). out ++ xs) (sym (none_left g.more hi g.span.sound.ascending stop)) ∙ g.same

  pub gathers_on : (e : Entry) (xs : List Entry) (after : List ℕ) → g.more ≡ e ∷ xs → IsSpan after xs → is_below hi e ≡ true → Gathers es lo hi (out ++ e ∷ []) after
  gathers_on e xs after is span low = record {
    more = xs;
    span = span;
    same =
        append_assoc out (e ∷ []) (filter (is_below hi) xs)
        ∙ ap (λ (b : Bool). out ++ cond b (e ∷ filter (is_below hi) xs) (filter (is_below hi) xs)) (sym low)
        ∙ ap (λ (ys : List Entry). out ++ filter (is_below hi) ys) (sym is)
        ∙ g.same;
  }

-- ---- gathering all entries

pub record GathersAll (es out : List Entry) (rest : List ℕ) : Type 0 where
  pub more : List Entry
  pub span : IsSpan rest more
  pub same : out ++ more ≡ es

pub gathers_all : (bytes : List ℕ) (es : List Entry) → IsSpan bytes es → GathersAll es [] bytes
gathers_all bytes es span = record { more = es; span = span; same = refl }

module _ (es out : List Entry) (rest : List ℕ) (g : GathersAll es out rest) where
  pub gathered_all : g.more ≡ [] → out ≡ es
  gathered_all none = sym (append-nil out) ∙ ap (λ (xs : List Entry). out ++ xs) (sym none) ∙ g.same

  pub all_on : (e : Entry) (xs : List Entry) (after : List ℕ) → g.more ≡ e ∷ xs → IsSpan after xs → GathersAll es (out ++ e ∷ []) after
  all_on e xs after is span = record { more = xs; span = span; same = append_assoc out (e ∷ []) xs ∙ ap (λ (ys : List Entry). out ++ ys) (sym is) ∙ g.same }
