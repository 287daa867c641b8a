-- What a walk has taken and kept: one walk after another, and one entry more.
use Rattle.std.proofs.Common.{◌≡◌, ℕ, Bool, true, false, cond, List, [], ◌∷◌, ◌++◌, Option, Some, None, refl, sym, ap, subst, ◌∙◌}
use Rattle.std.specs.Borrow.{Bor}
use Rattle.std.specs.Option.{option_copied, option_map}
use Rattle.lsm_key.specs.declared.entry.Entry.{Entry}
use Rattle.lsm_key.specs.declared.entry.EntryRef.{EntryRef}
use Rattle.lsm_key.specs.declared.range.KeyRange.{KeyRange}
use Rattle.lsm_key.specs.Visible.{lent_entry}
use Rattle.lsm_merge.specs.declared.cursor_head.CursorHead.{CursorHead}
use Rattle.lsm_merge.specs.declared.error.MergeError.{MergeError}
use Rattle.lsm_merge.specs.Keeping.{kept_list, stays}
use Rattle.lsm_merge.specs.Walks.{AllFollow, IsGivenFirst, Took, WalkValue, follows, last_taken}
use Rattle.lsm_merge.proofs.TakenHeads.{turns_chain}

-- ---- one walk after another

follow_chain : (before : Option Entry) (xs ys : List Entry) → AllFollow before xs → AllFollow (last_taken before xs) ys → AllFollow before (xs ++ ys)
follow_chain before [] ys h more = more
follow_chain before (x ∷ xs) ys h more = (h.0, follow_chain (Some x) xs ys h.1 more)

last_chain : (before : Option Entry) (xs ys : List Entry) → last_taken (last_taken before xs) ys ≡ last_taken before (xs ++ ys)
last_chain before [] ys = refl
last_chain before (x ∷ xs) ys = last_chain (Some x) xs ys

module _ (points : List ℕ) (deeper : List KeyRange) where
  kept_chain : (before : Option Entry) (xs ys : List Entry) → kept_list points deeper before (xs ++ ys) ≡ kept_list points deeper before xs ++ kept_list points deeper (last_taken before xs) ys
  kept_chain before [] ys = refl
  kept_chain before (x ∷ xs) ys = by (stays points deeper before x) (kept_chain (Some x) xs ys)
    where
      by : (b : Bool) → kept_list points deeper (Some x) (xs ++ ys) ≡ kept_list points deeper (Some x) xs ++ kept_list points deeper (last_taken (Some x) xs) ys
          → cond b (x ∷ kept_list points deeper (Some x) (xs ++ ys)) (kept_list points deeper (Some x) (xs ++ ys)) ≡ cond b (x ∷ kept_list points deeper (Some x) xs) (kept_list points deeper (Some x) xs) ++ kept_list points deeper (last_taken (Some x) xs) ys
      by true h = ap (λ (es : List Entry). x ∷ es) h
      by false h = h

pub took_chain : (old mid new : WalkValue) (xs ys kept more : List Entry) → Took old xs kept mid → Took mid ys more new → Took old (xs ++ ys) (kept ++ more) new
took_chain old mid new xs ys kept more one other = record {
  takes = turns_chain old.heads mid.heads new.heads xs ys one.takes other.takes;
  ordered = follow_chain old.before xs ys one.ordered (subst (λ (o : Option Entry). AllFollow o ys) one.before other.ordered);
  keeps = kept_chain old.points old.deeper old.before xs ys
      ∙ ap (λ (es : List Entry). es ++ kept_list old.points old.deeper (last_taken old.before xs) ys) one.keeps
      ∙ ap (λ (es : List Entry). kept ++ es) (sym (rw (one.points, one.deeper, one.before) refl) ∙ other.keeps);
  before = other.before ∙ ap (λ (o : Option Entry). last_taken o ys) one.before ∙ last_chain old.before xs ys;
  points = other.points ∙ one.points;
  deeper = other.deeper ∙ one.deeper;
}

pub took_none : (w : WalkValue) → Took w [] [] w
took_none w = record { takes = refl; ordered = tt; keeps = refl; before = refl; points = refl; deeper = refl }

-- one more
pub took_more : (old now after : WalkValue) (taken : List Entry) (e : Entry) (b : Bool) → Took old taken [] now → IsGivenFirst now.heads e after.heads → follows now.before e ≡ true → stays now.points now.deeper now.before e ≡ b
    → after.before ≡ Some e → after.points ≡ now.points → after.deeper ≡ now.deeper → Took old (taken ++ e ∷ []) (cond b (e ∷ []) []) after
took_more old now after taken e b so_far steps follow kept last p d =
    let one : Took now (e ∷ []) (cond b (e ∷ []) []) after = record {
      takes = (after.heads, steps, refl);
      ordered = (follow, tt);
      keeps = ap (λ (c : Bool). cond c (e ∷ []) []) kept;
      before = last;
      points = p;
      deeper = d;
    } in
    took_chain old now after taken (e ∷ []) [] (cond b (e ∷ []) []) so_far one

-- a walk's value
abbrev pub seen : List CursorHead → Option Entry → List ℕ → List KeyRange → Option MergeError → WalkValue
seen heads before points deeper refused = record { heads = heads; before = before; points = points; deeper = deeper; refused = refused }

pub not_refused : {A : Type 0} (o : Option A) (x : A) → o ≡ None → o ≡ Some x → ⊥
not_refused {A} o x none some = let bad : ◌≡◌ {A = Option A} None (Some x) = sym none ∙ some in absurd cc

pub lent_copied : (o : Option (Bor EntryRef)) → option_map (λ (b : Bor EntryRef). lent_entry b.now) o ≡ option_map lent_entry (option_copied o)
lent_copied None = refl
lent_copied (Some b) = refl
