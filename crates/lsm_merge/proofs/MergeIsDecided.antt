-- What a merge makes is decided: the entries, where they are cut, and the bytes.
use Rattle.std.proofs.Common.{◌≡◌, ℕ, suc, ◌+◌, ◌<◌, not, cond, Bool, Some, List, [], ◌∷◌, ◌++◌, length, get_or, refl, sym, ap, ◌∙◌, subst, inl, inr, arith}
use Rattle.std.specs.List.{filter}
use Rattle.std.proofs.lemmas.Bool.{cases_Bool}
use Rattle.std.proofs.lemmas.List.{length-append, get_or-append-add}
use Rattle.std.proofs.lemmas.List.Elements.{filter-append}
use Rattle.std.proofs.lemmas.List.Sums.{sum_by-append}
use Rattle.lsm_key.specs.declared.entry.Entry.{Entry}
use Rattle.lsm_key.specs.Limits.{entry_weight}
use Rattle.lsm_key.specs.Order.{Precedes}
use Rattle.lsm_key.specs.Places.{all_entries}
use Rattle.lsm_key.specs.Sets.{IsIn, SameMembers}
use Rattle.lsm_key.specs.Visible.{has_key}
use Rattle.lsm_key.proofs.AscendingEntries.{Falls, ascending_falls}
use Rattle.lsm_key.proofs.EntryOrder.{newer_first}
use Rattle.lsm_key.proofs.Membership.{IsIn-at, IsIn-append_left, IsIn-append_cases}
use Rattle.lsm_key.proofs.LatestOfList.{has_key-is}
use Rattle.lsm_block.specs.BlockReading.{last_of}
use Rattle.lsm_table.specs.Tables.{largest_key, key_of_entry}
use Rattle.lsm_table.proofs.TableContents.{largest_in}
use Rattle.lsm_table.proofs.TableLaws.{some_blocks}
use Rattle.lsm_table.proofs.TableSizes.{one_encoding}
use Rattle.lsm_block.proofs.EntriesGrow.{last_at}
use Rattle.lsm_merge.specs.declared.outputs.TheConstants.{OUTPUT_TARGET}
use Rattle.lsm_merge.specs.Outputs.{weight_of_entries, before_last_key, AreCut, EncodeEntries}
use Rattle.lsm_merge.specs.Cutting.{IsFirstOutput}
use Rattle.lsm_merge.specs.Laws.{AMergeHasOneOutcome}
use Rattle.lsm_merge.proofs.KeptInOnePass.{less-irrefl, precedes-trans}

-- ---- a set has one list in order

never_itself : (x : Entry) → Precedes x x → ⊥
never_itself x p = let lt = newer_first x x p refl in omega (arith, lt)

same_tail : (x : Entry) (xs ys : List Entry) → Falls (x ∷ xs) → SameMembers (x ∷ xs) (x ∷ ys) → (z : Entry) → IsIn z xs → IsIn z ys
same_tail x xs ys falls same z m = elim ((same z).0 (inr m)) [
  | inl e ↦ absurd (never_itself x (subst (λ (r : Entry). Precedes x r) e (falls.0 z m)))
  | inr n ↦ n
]

flipped : (xs ys : List Entry) → SameMembers xs ys → SameMembers ys xs
flipped xs ys same z = ((same z).1, (same z).0)

pub one_list : (xs ys : List Entry) → Falls xs → Falls ys → SameMembers xs ys → xs ≡ ys
one_list [] [] a b same = refl
one_list [] (y ∷ ys) a b same = absurd ((same y).1 (inl refl))
one_list (x ∷ xs) [] a b same = absurd ((same x).0 (inl refl))
one_list (x ∷ xs) (y ∷ ys) a b same =
    let heads : x ≡ y = elim ((same x).0 (inl refl)) [
      | inl e ↦ e
      | inr m ↦ elim ((same y).1 (inl refl)) [
        | inl e ↦ sym e
        | inr n ↦ absurd (never_itself x (precedes-trans x y x (a.0 y n) (b.0 x m)))
      ]
    ] in
    let other : Falls (x ∷ ys) = subst (λ (z : Entry). Falls (z ∷ ys)) (sym heads) b in
    let members : SameMembers (x ∷ xs) (x ∷ ys) = subst (λ (z : Entry). SameMembers (x ∷ xs) (z ∷ ys)) (sym heads) same in
    let tails : xs ≡ ys = one_list xs ys a.1 b.1 (λ z. (same_tail x xs ys a members z, same_tail x ys xs other (flipped (x ∷ xs) (x ∷ ys) members) z)) in
    ap (λ (z : Entry). z ∷ xs) heads ∙ ap (λ (zs : List Entry). y ∷ zs) tails

-- ---- where it is cut

-- two prefixes of one list: they are equal, or one continues where the other ends
data Fronts (one other one_rest other_rest : List Entry) : Type 0 where
  equal : one ≡ other → one_rest ≡ other_rest → Fronts one other one_rest other_rest
  longer : (e : Entry) (mid : List Entry) → other ≡ one ++ e ∷ mid → one_rest ≡ (e ∷ mid) ++ other_rest → Fronts one other one_rest other_rest
  shorter : (e : Entry) (mid : List Entry) → one ≡ other ++ e ∷ mid → other_rest ≡ (e ∷ mid) ++ one_rest → Fronts one other one_rest other_rest

heads : (x y : Entry) (xs ys : List Entry) → x ∷ xs ≡ y ∷ ys → x ≡ y
heads x y xs ys e = cc

tails : (x y : Entry) (xs ys : List Entry) → x ∷ xs ≡ y ∷ ys → xs ≡ ys
tails x y xs ys e = cc

fronts : (one other one_rest other_rest : List Entry) → one ++ one_rest ≡ other ++ other_rest → Fronts one other one_rest other_rest
fronts [] [] r s e = equal refl e
fronts [] (y ∷ ys) r s e = longer y ys refl e
fronts (x ∷ xs) [] r s e = shorter x xs refl (sym e)
fronts (x ∷ xs) (y ∷ ys) r s e = by (fronts xs ys r s (tails x y (xs ++ r) (ys ++ s) e)) (heads x y (xs ++ r) (ys ++ s) e)
  where
    by : Fronts xs ys r s → x ≡ y → Fronts (x ∷ xs) (y ∷ ys) r s
    by (equal a b) h = equal (ap (λ (z : Entry). z ∷ xs) h ∙ ap (λ (zs : List Entry). y ∷ zs) a) b
    by (longer z mid a b) h = longer z mid (ap (λ (zs : List Entry). y ∷ zs) a ∙ ap (λ (w : Entry). w ∷ (xs ++ z ∷ mid)) (sym h)) b
    by (shorter z mid a b) h = shorter z mid (ap (λ (zs : List Entry). x ∷ zs) a ∙ ap (λ (w : Entry). w ∷ (ys ++ z ∷ mid)) h) b

-- all entries but those of a key, of which there are none
keeps_all : (k : List ℕ) (es : List Entry) → ((e : Entry) → IsIn e es → e.ikey.key ≡ k → ⊥) → filter (λ e. not (has_key k e)) es ≡ es
keeps_all k [] h = refl
keeps_all k (e ∷ es) h = elim (cases_Bool (has_key k e)) [
  | inl t ↦ absurd (h e (inl refl) (has_key-is k e t))
  | inr f ↦ ap (λ (b : Bool). cond (not b) (e ∷ filter (λ g. not (has_key k g)) es) (filter (λ g. not (has_key k g)) es)) f ∙ ap (λ (zs : List Entry). e ∷ zs) (keeps_all k es (λ g m. h g (inr m)))
]

-- the largest key of a list is one of its last part
last_part : (es : List Entry) (e : Entry) (mid : List Entry) → (f : Entry) × IsIn f (e ∷ mid) × (f.ikey.key ≡ largest_key (es ++ e ∷ mid))
last_part [] e mid = largest_in (e ∷ mid) (omega arith)
last_part (x ∷ es) e mid =
    let n : ℕ = length mid in
    let whole : List Entry = es ++ e ∷ mid in
    let place : length whole ≡ length (x ∷ es) + n = (let l = length-append es (e ∷ mid) in omega (arith, l)) in
    let at : get_or (x ∷ whole) (length whole) e ≡ get_or (e ∷ mid) n e = rw place (get_or-append-add (x ∷ es) (e ∷ mid) n e) in
    let last : last_of (x ∷ whole) ≡ Some (get_or (x ∷ whole) (length whole) e) = last_at x whole e in
    (get_or (e ∷ mid) n e, IsIn-at (e ∷ mid) n e (omega arith), sym (ap key_of_entry last ∙ ap (λ (f : Entry). f.ikey.key) at))

-- an output that could have been closed earlier is none
never_longer : (one other one_rest other_rest : List Entry) (e : Entry) (mid : List Entry) → IsFirstOutput one one_rest → weight_of_entries (before_last_key other) < OUTPUT_TARGET → other ≡ one ++ e ∷ mid → one_rest ≡ (e ∷ mid) ++ other_rest → ⊥
never_longer one other one_rest other_rest e mid first late other_is rest_is =
    let k : List ℕ = largest_key (one ++ e ∷ mid) in
    let p : Entry → Bool = λ g. not (has_key k g) in
    let last = last_part one e mid in
    let f : Entry = last.0 in
    let behind : IsIn f one_rest = subst (IsIn f) (sym rest_is) (IsIn-append_left f (e ∷ mid) other_rest last.1) in
    let all : filter p one ≡ one = keeps_all k one (λ g m same. less-irrefl g.ikey.key f.ikey.key (same ∙ sym last.2) (first.apart g f m behind)) in
    let parts : before_last_key (one ++ e ∷ mid) ≡ one ++ filter p (e ∷ mid) = filter-append p one (e ∷ mid) ∙ ap (λ (zs : List Entry). zs ++ filter p (e ∷ mid)) all in
    let weights : weight_of_entries (before_last_key (one ++ e ∷ mid)) ≡ weight_of_entries one + weight_of_entries (filter p (e ∷ mid)) = ap weight_of_entries parts ∙ sum_by-append entry_weight one (filter p (e ∷ mid)) in
    let same : weight_of_entries (before_last_key other) ≡ weight_of_entries (before_last_key (one ++ e ∷ mid)) = ap (λ (zs : List Entry). weight_of_entries (before_last_key zs)) other_is in
    let some : 0 < length one_rest = (let l = ap length rest_is in omega (arith, l)) in
    let heavy = first.full some in
    omega (arith, heavy, late, weights, same)

in_some : (lists : List (List Entry)) (f : Entry) → IsIn f (all_entries lists) → (k : ℕ) × (k < length lists) × IsIn f (get_or lists k [])
in_some [] f m = absurd m
in_some (es ∷ lists) f m = elim (IsIn-append_cases f es (all_entries lists) m) [
  | inl a ↦ (0, omega arith, a)
  | inr b ↦ let r = in_some lists f b in (suc r.0, omega (arith, r.1), r.2)
]

first_of : (es : List Entry) (later : List (List Entry)) → AreCut (es ∷ later) → IsFirstOutput es (all_entries later)
first_of es later cut = record {
  some = cut.some 0 [] (omega arith);
  late = cut.late 0 [] (omega arith);
  full = λ some. cut.full 0 1 [] (omega arith) (let more = some_blocks later some in omega (arith, more));
  apart = λ e f m n. let r = in_some later f n in cut.apart 0 (suc r.0) [] (omega arith) (omega (arith, r.1)) e f m r.2;
}

rest_of : (es : List Entry) (later : List (List Entry)) → AreCut (es ∷ later) → AreCut later
rest_of es later cut = record {
  some = λ k d lt. cut.some (suc k) d (omega (arith, lt));
  late = λ k d lt. cut.late (suc k) d (omega (arith, lt));
  full = λ i j d lt within. cut.full (suc i) (suc j) d (omega (arith, lt)) (omega (arith, within));
  apart = λ i j d lt within. cut.apart (suc i) (suc j) d (omega (arith, lt)) (omega (arith, within));
}

none_left : (es rest : List Entry) → 0 < length es → [] ≡ es ++ rest → ⊥
none_left es rest some e = let l = ap length e in omega (arith, some, l, length-append es rest)

pub one_cut : (one other : List (List Entry)) → AreCut one → AreCut other → all_entries one ≡ all_entries other → one ≡ other
one_cut [] [] a b e = refl
one_cut [] (ys ∷ other) a b e = absurd (none_left ys (all_entries other) (b.some 0 [] (omega arith)) e)
one_cut (xs ∷ one) [] a b e = absurd (none_left xs (all_entries one) (a.some 0 [] (omega arith)) (sym e))
one_cut (xs ∷ one) (ys ∷ other) a b e = by (one_cut one other (rest_of xs one a) (rest_of ys other b)) (fronts xs ys (all_entries one) (all_entries other) e)
  where
    by : (all_entries one ≡ all_entries other → one ≡ other) → Fronts xs ys (all_entries one) (all_entries other) → xs ∷ one ≡ ys ∷ other
    by again (equal same rest) = ap (λ (zs : List Entry). zs ∷ one) same ∙ ap (λ (lists : List (List Entry)). ys ∷ lists) (again rest)
    by again (longer z mid same rest) = absurd (never_longer xs ys (all_entries one) (all_entries other) z mid (first_of xs one a) (first_of ys other b).late same rest)
    by again (shorter z mid same rest) = absurd (never_longer ys xs (all_entries other) (all_entries one) z mid (first_of ys other b) (first_of xs one a).late same rest)

-- ---- and encoded

one_spelling : (target : ℕ) (one other : List (List ℕ)) (lists : List (List Entry)) → EncodeEntries target one lists → EncodeEntries target other lists → one ≡ other
one_spelling target [] [] [] a b = refl
one_spelling target [] (y ∷ other) [] a b = absurd b
one_spelling target (x ∷ one) other [] a b = absurd a
one_spelling target [] other (es ∷ lists) a b = absurd a
one_spelling target (x ∷ one) [] (es ∷ lists) a b = absurd b
one_spelling target (x ∷ one) (y ∷ other) (es ∷ lists) a b =
    let bytes : x ≡ y = one_encoding x y es a.0 b.0 (a.1 ∙ sym b.1) in
    ap (λ (z : List ℕ). z ∷ one) bytes ∙ ap (λ (zs : List (List ℕ)). y ∷ zs) (one_spelling target one other lists a.2 b.2)

pub one_outcome : AMergeHasOneOutcome
one_outcome tables job one other a b =
    let members : SameMembers (all_entries a.entries) (all_entries b.entries) = λ e. (λ m. (b.kept e).1 ((a.kept e).0 m), λ m. (a.kept e).1 ((b.kept e).0 m)) in
    let entries : all_entries a.entries ≡ all_entries b.entries = one_list (all_entries a.entries) (all_entries b.entries) (ascending_falls (all_entries a.entries) a.ascending) (ascending_falls (all_entries b.entries) b.ascending) members in
    let lists : a.entries ≡ b.entries = one_cut a.entries b.entries a.cut b.cut entries in
    one_spelling job.block one other b.entries (subst (EncodeEntries job.block one) lists a.spelled) b.spelled
