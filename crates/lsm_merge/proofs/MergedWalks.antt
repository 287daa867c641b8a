-- A walk over all entries of a job's tables makes its merge, or meets an entry that two of them share.
use Rattle.std.proofs.Common.{◌≡◌, ℕ, Bool, true, false, not, ◌&&◌, cond, List, [], ◌∷◌, ◌++◌, Option, Some, None, refl, sym, ap, subst, ◌∙◌, inl, inr, arith, All, suc}
use Rattle.std.specs.List.Sorted.{IsPermutation}
use Rattle.std.proofs.lemmas.List.Sorted.{sum_by-IsPermutation}
use Rattle.std.proofs.lemmas.Bool.{true≢false}
use Rattle.std.proofs.lemmas.List.{append-nil}
use Rattle.std.proofs.lemmas.List.Sums.{sum_by-append}
use Rattle.lsm_key.specs.declared.entry.Entry.{Entry}
use Rattle.lsm_key.specs.declared.range.KeyRange.{KeyRange}
use Rattle.lsm_key.specs.Order.{IsAscending}
use Rattle.lsm_key.specs.Places.{all_entries}
use Rattle.lsm_key.proofs.AscendingEntries.{Falls, ascending_falls, falls_ascend}
use Rattle.lsm_key.proofs.EntryOrder.{ascending_unique}
use Rattle.lsm_key.proofs.Membership.{SameMembers-permutation}
use Rattle.lsm_table.specs.Building.{Draft}
use Rattle.lsm_table.specs.Tables.{Opened}
use Rattle.lsm_table.proofs.ReadLists.{all_in_order}
use Rattle.lsm_edit.specs.Served.{AreAsRecorded}
use Rattle.lsm_msg.specs.declared.job.JobParts.{JobParts}
use Rattle.lsm_msg.specs.Merge.{HoldsKept, is_at_most_all, is_deletion, is_in_ranges}
use Rattle.lsm_merge.specs.declared.cursor_head.CursorHead.{CursorHead}
use Rattle.lsm_merge.specs.declared.error.MergeError.{MergeError}
use Rattle.lsm_merge.specs.declared.error.MergeError.TheVariants.{WrongInputs, SameEntry, OutOfMemory}
use Rattle.lsm_merge.specs.Comparing.{IsUnmerged}
use Rattle.lsm_merge.specs.Cutting.{IsSplitInto, IsSplitSoFar}
use Rattle.lsm_merge.specs.Filling.{IsFilled, StopsFilling}
use Rattle.lsm_merge.specs.Inputs.{CanMerge, HaveSameEntry, lists_of}
use Rattle.lsm_merge.specs.Keeping.{is_needed, kept_list, stays}
use Rattle.lsm_merge.specs.Outputs.{IsMerge}
use Rattle.lsm_merge.specs.Walks.{BeginsWalk, GivesInTurn, Took, WalkValue, follows, last_taken, cursor_lists}
use Rattle.lsm_merge.specs.Laws.{AWalkIsRefusedForASharedEntry, AnEndedWalkGaveWhatIsKept}
use Rattle.lsm_merge.proofs.InputTests.{fall_in_order, recorded_tables, tables_fall}
use Rattle.lsm_merge.proofs.MergeOfJob.{can_merge, is_merge}
use Rattle.lsm_merge.proofs.KeptInOnePass.{kept_list_falls, kept_list_holds, kept_stays}
use Rattle.lsm_merge.proofs.SharedEntries.{AllFall, apart, falls_or_twice, one_at, shared}
use Rattle.lsm_merge.proofs.TakenHeads.{walk_all, walk_in_order}
use Rattle.lsm_merge.proofs.WalkChains.{follow_falls}

-- what is kept is one for ranges of the same keys
module _ (points : List ℕ) (one other : List KeyRange) (same : (key : List ℕ) → is_in_ranges one key ≡ is_in_ranges other key) where
  pub kept_alike : (before : Option Entry) (es : List Entry) → kept_list points one before es ≡ kept_list points other before es
  kept_alike before [] = refl
  kept_alike before (e ∷ es) =
      let own : stays points one before e ≡ stays points other before e = ap (λ (b : Bool). is_needed points before e && not (is_deletion e.ikey.kind && (is_at_most_all points e.ikey.seq && not b))) (same e.ikey.key) in
      ap (λ (b : Bool). cond b (e ∷ kept_list points one (Some e) es) (kept_list points one (Some e) es)) own
      ∙ ap (λ (rest : List Entry). cond (stays points other before e) (e ∷ rest) rest) (kept_alike (Some e) es)

-- each entry of a list that falls follows the one before it
after_one : (b : Entry) (taken : List Entry) (e : Entry) → Falls (b ∷ (taken ++ e ∷ [])) → follows (last_taken (Some b) taken) e ≡ true
after_one b [] e falls = falls.0 e (inl refl)
after_one b (x ∷ taken) e falls = after_one x taken e falls.1

follows_last : (taken : List Entry) (e : Entry) → Falls (taken ++ e ∷ []) → follows (last_taken None taken) e ≡ true
follows_last [] e falls = refl
follows_last (x ∷ taken) e falls = after_one x taken e falls

module _ (lists : List (List Entry)) (start : WalkValue) (begins : BeginsWalk lists start) where
  -- what was taken up to the end is all
  pub took_all : (taken kept : List Entry) (last : WalkValue) → Took start taken kept last → last.heads ≡ [] → IsPermutation (all_entries lists) taken
  took_all taken kept last took ended =
      let none : taken ++ all_entries (cursor_lists last.heads) ≡ taken = ap (λ (hs : List CursorHead). taken ++ all_entries (cursor_lists hs)) ended ∙ append-nil taken in
      subst (IsPermutation (all_entries lists)) none (walk_all lists start begins taken last.heads took.takes)

  -- an entry that does not follow the one before it is shared
  pub walk_shares : AllFall lists → (taken : List Entry) (e : Entry) (after : List CursorHead) → GivesInTurn start.heads (taken ++ e ∷ []) after → follows (last_taken start.before taken) e ≡ false → HaveSameEntry lists
  walk_shares fall taken e after takes not =
      let xs : List Entry = taken ++ e ∷ [] in
      let rest : List Entry = all_entries (cursor_lists after) in
      let sorted = walk_in_order lists start begins xs after takes (all_in_order lists (fall_in_order lists fall)) in
      elim (falls_or_twice xs sorted) [
        | inl falls ↦ absurd (true≢false (sym (follows_last taken e falls) ∙ subst (λ (o : Option Entry). follows (last_taken o taken) e ≡ false) begins.fresh not))
        | inr t ↦
            let same = sum_by-IsPermutation (one_at t.0 t.1) (all_entries lists) (xs ++ rest) (walk_all lists start begins xs after takes) in
            let parts = sum_by-append (one_at t.0 t.1) xs rest in
            shared lists fall t.0 t.1 (omega (arith, t.2, same, parts))
      ]

-- ---- the laws

all_fall : (lists : List (List Entry)) → All IsAscending lists → AllFall lists
all_fall [] up = tt
all_fall (es ∷ lists) up = (ascending_falls es (up 0 [] (omega arith)), all_fall lists (λ i d lt. up (suc i) d (omega (arith, lt))))

pub ended_walk : AnEndedWalkGaveWhatIsKept
ended_walk lists start last taken kept begins took ended =
    let perm = took_all lists start begins taken kept last took ended in
    let falls = follow_falls start.before taken took.ordered in
    let up = falls_ascend taken falls in
    let unique = ascending_unique taken up in
    let is : kept_list start.points start.deeper None taken ≡ kept = subst (λ (o : Option Entry). kept_list start.points start.deeper o taken ≡ kept) begins.fresh took.keeps in
    let holds = kept_stays (all_entries lists) taken unique (SameMembers-permutation (all_entries lists) taken perm) start.points start.deeper (kept_list start.points start.deeper None taken) (kept_list_holds start.points start.deeper taken unique falls) in
    (subst (HoldsKept (all_entries lists) start.points start.deeper) is holds, falls_ascend kept (subst Falls is (kept_list_falls start.points start.deeper None taken falls)), apart lists taken perm up)

pub refused_walk : AWalkIsRefusedForASharedEntry
refused_walk lists start taken e after up begins takes not = walk_shares lists start begins (all_fall lists up) taken e after takes not

-- ---- the merge of a job

module _ (tables : List Opened) (job : JobParts) (recorded : AreAsRecorded job.inputs tables) (start : WalkValue) (begins : BeginsWalk (lists_of tables) start) where
  -- all was taken, in order
  pub walk_merges : start.points ≡ job.points → ((key : List ℕ) → is_in_ranges start.deeper key ≡ is_in_ranges job.deeper key) → (closed : List (List ℕ)) (taking : Draft) → IsFilled start job.block closed taking
      → (outputs : List (List ℕ)) → ((entries : List Entry) → IsSplitSoFar job.block entries closed taking → IsSplitInto job.block entries outputs) → CanMerge tables job × IsMerge tables job outputs
  walk_merges points deeper closed taking filled outputs finish =
      let f = filled.filling in
      let perm = took_all (lists_of tables) start begins f.taken f.kept filled.last f.took filled.ended in
      let up = falls_ascend f.taken (follow_falls start.before f.taken f.took.ordered) in
      let kept : f.kept ≡ kept_list job.points job.deeper None f.taken =
      sym f.took.keeps
      ∙ ap (λ (o : Option Entry). kept_list start.points start.deeper o f.taken) begins.fresh
      ∙ ap (λ (ps : List ℕ). kept_list ps start.deeper None f.taken) points
      ∙ kept_alike job.points start.deeper job.deeper deeper None f.taken in
      let made : IsSplitInto job.block (kept_list job.points job.deeper None f.taken) outputs = subst (λ (es : List Entry). IsSplitInto job.block es outputs) kept (finish f.kept f.split) in
      (can_merge tables job f.taken recorded perm up, is_merge tables job f.taken recorded perm up outputs made)

  pub walk_refuses : (why : MergeError) → StopsFilling start why → IsUnmerged tables why
  walk_refuses WrongInputs s = s
  walk_refuses OutOfMemory s = tt
  walk_refuses SameEntry s =
      walk_shares (lists_of tables) start begins (tables_fall tables (recorded_tables job.inputs tables recorded)) s.0 s.1 s.2 s.3 s.4
