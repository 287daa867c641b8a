-- A part of entries that may be cut into outputs may be a table.
use Rattle.std.proofs.Common.{◌≡◌, ℕ, ◌+◌, ◌*◌, ◌<◌, ◌≤◌, not, List, [], ◌∷◌, ◌++◌, All, length, get_or, refl, inl, inr, arith}
use Rattle.std.specs.List.{filter, AllByRecursion}
use Rattle.std.proofs.lemmas.List.Filters.{sum_by-filter_both}
use Rattle.std.proofs.lemmas.List.Sums.{sum_by-le}
use Rattle.lsm_key.specs.declared.entry.Entry.{Entry}
use Rattle.lsm_key.specs.declared.entry.Kind.{Kind}
use Rattle.lsm_key.specs.declared.entry.Kind.TheVariants.{Delete, Put}
use Rattle.lsm_key.specs.declared.limits.TheConstants.{MAX_TABLE_BYTES}
use Rattle.lsm_key.specs.Entries.{IsEntry, longest}
use Rattle.lsm_key.specs.Limits.{entry_weight}
use Rattle.lsm_key.specs.Sets.{IsIn}
use Rattle.lsm_key.specs.Visible.{has_key}
use Rattle.lsm_key.proofs.AscendingEntries.{IsIn-filter, ascending_falls, falls_ascend}
use Rattle.lsm_key.proofs.Membership.{IsIn-at, IsIn-append_left, IsIn-append_right}
use Rattle.lsm_block.specs.Blocks.{AreEntries, HasSequence}
use Rattle.lsm_table.specs.Tables.{table_of, largest_key}
use Rattle.lsm_block.proofs.EntriesGrow.{each_in}
use Rattle.lsm_table.proofs.TableWeights.{table_weighs}
use Rattle.lsm_merge.specs.declared.outputs.TheConstants.{OUTPUT_TARGET}
use Rattle.lsm_merge.specs.Outputs.{weight_of_entries, before_last_key}
use Rattle.lsm_merge.specs.Cutting.{AreFew}
use Rattle.lsm_merge.proofs.FewVersions.{of_key-filter, of_key-append}
use Rattle.lsm_merge.proofs.FirstOutput.{falls_left, falls_right}

longest_most : (k : Kind) → longest k ≤ 65536
longest_most Delete = omega arith
longest_most Put = omega arith

-- the most that an entry weighs
pub entry_most : (e : Entry) → IsEntry e → entry_weight e ≤ 69646
entry_most e is = let v = is.value in let l = longest_most e.ikey.kind in let k = is.key.1 in omega (arith, v, l, k)

pub each_from : (P : Entry → Type 0) (es : List Entry) → ((e : Entry) → IsIn e es → P e) → AllByRecursion P es
each_from P [] h = tt
each_from P (e ∷ es) h = (h e (inl refl), each_from P es (λ f m. h f (inr m)))

-- entries between others
module _ (front part rest : List Entry) where
  in_whole : (e : Entry) → IsIn e part → IsIn e (front ++ (part ++ rest))
  in_whole e m = IsIn-append_right e front (part ++ rest) (IsIn-append_left e part rest m)

  pub part_sound : AreEntries (front ++ (part ++ rest)) → AreEntries part
  part_sound sound = record {
    each = each_from IsEntry part (λ e m. each_in IsEntry (front ++ (part ++ rest)) e sound.each (in_whole e m));
    sequences = each_from HasSequence part (λ e m. each_in HasSequence (front ++ (part ++ rest)) e sound.sequences (in_whole e m));
    ascending = falls_ascend part (falls_left part rest (falls_right front (part ++ rest) (ascending_falls (front ++ (part ++ rest)) sound.ascending)));
  }

  pub part_few : AreFew (front ++ (part ++ rest)) → AreFew part
  part_few few k =
      let whole = few k in
      let a = of_key-filter k (front ++ (part ++ rest)) in
      let b = of_key-append k front (part ++ rest) in
      let c = of_key-append k part rest in
      let own = of_key-filter k part in
      omega (arith, whole, a, b, c, own)

-- entries that may be an output: their table is within its limit
pub output_fits : (target : ℕ) (es : List Entry) → 0 < length es → AreEntries es → AreFew es → weight_of_entries (before_last_key es) < OUTPUT_TARGET → length (table_of target es) ≤ MAX_TABLE_BYTES
output_fits target es some sound few late =
    let k : List ℕ = largest_key es in
    let both : weight_of_entries (filter (has_key k) es) + weight_of_entries (before_last_key es) ≡ weight_of_entries es = sum_by-filter_both (has_key k) (λ e. not (has_key k e)) (λ e. refl) entry_weight es in
    let light : All (λ e. entry_weight e ≤ 69646) (filter (has_key k) es) = λ i d lt. entry_most (get_or (filter (has_key k) es) i d) (each_in IsEntry es (get_or (filter (has_key k) es) i d) sound.each (IsIn-filter (has_key k) (get_or (filter (has_key k) es) i d) es (IsIn-at (filter (has_key k) es) i d lt)).0) in
    let own : weight_of_entries (filter (has_key k) es) ≤ length (filter (has_key k) es) * 69646 = sum_by-le entry_weight 69646 (filter (has_key k) es) light in
    let most = few k in
    let size = table_weighs target es some in
    omega (arith, both, own, most, late, size)
