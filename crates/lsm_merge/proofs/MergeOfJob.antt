-- The merge of a job, of its parts: the tables, the list of all their entries, what is kept of it, and the outputs.
use Rattle.std.proofs.Common.{ℕ, List, None, sym, subst}
use Rattle.std.specs.List.Sorted.{IsPermutation}
use Rattle.lsm_key.specs.declared.entry.Entry.{Entry}
use Rattle.lsm_key.specs.Entries.{IsEntry}
use Rattle.lsm_key.specs.Order.{IsAscending}
use Rattle.lsm_key.specs.Places.{all_entries}
use Rattle.lsm_key.specs.Sets.{IsIn, SameMembers}
use Rattle.lsm_key.proofs.AscendingEntries.{Falls, ascending_falls, falls_ascend}
use Rattle.lsm_key.proofs.EntryOrder.{ascending_unique}
use Rattle.lsm_key.proofs.Membership.{SameMembers-permutation}
use Rattle.lsm_block.specs.Blocks.{AreEntries, HasSequence}
use Rattle.lsm_table.specs.Tables.{Opened}
use Rattle.lsm_block.proofs.EntriesGrow.{each_in}
use Rattle.lsm_edit.specs.Served.{AreAsRecorded}
use Rattle.lsm_msg.specs.declared.job.JobParts.{JobParts}
use Rattle.lsm_msg.specs.Merge.{HoldsKept}
use Rattle.lsm_merge.specs.Inputs.{CanMerge, lists_of}
use Rattle.lsm_merge.specs.Comparing.{AllTables}
use Rattle.lsm_merge.specs.Outputs.{IsMerge}
use Rattle.lsm_merge.specs.Keeping.{kept_list}
use Rattle.lsm_merge.specs.Cutting.{IsSplitInto}
use Rattle.lsm_merge.proofs.KeptInOnePass.{kept_list_holds, kept_list-in, kept_list_falls, kept_stays}
use Rattle.lsm_merge.proofs.SharedEntries.{apart}
use Rattle.lsm_merge.proofs.InputTests.{recorded_tables, lists_in}
use Rattle.lsm_merge.proofs.OutputFits.{each_from}

module _ (tables : List Opened) (job : JobParts) (merged : List Entry) (recorded : AreAsRecorded job.inputs tables) (perm : IsPermutation (all_entries (lists_of tables)) merged) where
  module _ (up : IsAscending merged) where
    pub can_merge : CanMerge tables job
    can_merge = record { inputs = recorded; apart = apart (lists_of tables) merged perm up }

    same : SameMembers (all_entries (lists_of tables)) merged
    same = SameMembers-permutation (all_entries (lists_of tables)) merged perm

    -- what holds of the entries of each table holds of what is kept
    kept_each : (P : Entry → Type 0) → ((t : Opened) → IsIn t tables → (e : Entry) → IsIn e t.entries → P e) → (e : Entry) → IsIn e (kept_list job.points job.deeper None merged) → P e
    kept_each P h e m =
        let t = lists_in tables e ((same e).1 (kept_list-in job.points job.deeper None merged e m)) in
        h t.0 t.1 e t.2

    pub kept_sound : AreEntries (kept_list job.points job.deeper None merged)
    kept_sound =
        let kept : List Entry = kept_list job.points job.deeper None merged in
        let all : AllTables tables = recorded_tables job.inputs tables recorded in
        record {
          each = each_from IsEntry kept (kept_each IsEntry (λ t m e n. each_in IsEntry t.entries e (all t m).sound.each n));
          sequences = each_from HasSequence kept (kept_each HasSequence (λ t m e n. each_in HasSequence t.entries e (all t m).sound.sequences n));
          ascending = falls_ascend kept (kept_list_falls job.points job.deeper None merged (ascending_falls merged up));
        }

    pub is_merge : (outputs : List (List ℕ)) → IsSplitInto job.block (kept_list job.points job.deeper None merged) outputs → IsMerge tables job outputs
    is_merge outputs made =
        let kept : List Entry = kept_list job.points job.deeper None merged in
        let falls : Falls merged = ascending_falls merged up in
        let holds : HoldsKept (all_entries (lists_of tables)) job.points job.deeper kept =
        kept_stays (all_entries (lists_of tables)) merged (ascending_unique merged up) same job.points job.deeper kept (kept_list_holds job.points job.deeper merged (ascending_unique merged up) falls) in
        record {
          entries = made.lists;
          spelled = made.spelled;
          kept = subst (HoldsKept (all_entries (lists_of tables)) job.points job.deeper) (sym made.all) holds;
          ascending = subst IsAscending (sym made.all) kept_sound.ascending;
          cut = made.cut;
        }
