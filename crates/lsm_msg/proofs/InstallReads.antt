-- An install of what is kept changes no read.
use Rattle.std.proofs.Common.{◌⊎◌, ℕ, List, ◌++◌, sym, ◌∙◌, inl, inr}
use Rattle.std.specs.Prelude.{◌↔◌}
use Rattle.std.specs.List.{list_any}
use Rattle.std.proofs.lemmas.Bool.{true≢false, cases_Bool}
use Rattle.lsm_key.specs.declared.entry.Entry.{Entry}
use Rattle.lsm_key.specs.Sets.{IsIn, SameMembers}
use Rattle.lsm_key.specs.Places.{IsAbove, AreOrdered, all_entries}
use Rattle.lsm_key.specs.Visible.{IsUnique}
use Rattle.lsm_key.proofs.FirstVisible.{IsUnique-above}
use Rattle.lsm_key.proofs.Membership.{IsIn-append_left, IsIn-append_right, IsIn-append_cases}
use Rattle.lsm_table.specs.Tables.{Opened}
use Rattle.lsm_claim.specs.declared.job.Want.{Want}
use Rattle.lsm_edit.specs.declared.edit.Edit.{Edit}
use Rattle.lsm_edit.specs.declared.served.Placed.{Placed}
use Rattle.lsm_edit.specs.Version.{IsVersion, has_number}
use Rattle.lsm_edit.specs.Served.{ServedValue, IsServed, tables_of}
use Rattle.lsm_edit.proofs.LevelEntries.{in_tables}
use Rattle.lsm_edit.proofs.ServedPlaces.{newer_places, stored_unique, tables_in}
use Rattle.lsm_msg.specs.declared.job.JobParts.{JobParts}
use Rattle.lsm_key.specs.declared.range.KeyRange.{KeyRange}
use Rattle.lsm_msg.specs.Merge.{HoldsKept}
use Rattle.lsm_msg.specs.Laws.{ReadAlike}
use Rattle.lsm_msg.specs.Legal.{IsLegal, KnowsDeeper}
use Rattle.lsm_msg.specs.Installs.{IsJobOf, AreInputsOf, AddNoEntry, Installs, entries_of}
use Rattle.lsm_msg.specs.InstallLaws.{InstallsKeepReads}
use Rattle.lsm_msg.proofs.KeptEntries.{kept_input}
use Rattle.lsm_msg.proofs.VisibleAfterMerge.{NoneOlder, alike, gone_parts}
use Rattle.lsm_msg.proofs.LegalInputs.{is_listed, listed_is, stays_newer}
use Rattle.lsm_msg.proofs.PlacesAfterInstall.{after, kept, kept_cases, kept_in, next_parts, next_stored, rest_stored}

-- a whole that has two parts, below another list
beside_above : (above xs a b : List Entry) → ((x : Entry) → IsIn x xs ↔ (IsIn x a ⊎ IsIn x b)) → SameMembers (above ++ xs) (a ++ (above ++ b))
beside_above above xs a b parts x = (
  λ m. elim (IsIn-append_cases x above xs m) [
    | inl up ↦ IsIn-append_right x a (above ++ b) (IsIn-append_left x above b up)
    | inr low ↦ elim ((parts x).0 low) [ inl left ↦ IsIn-append_left x a (above ++ b) left | inr right ↦ IsIn-append_right x a (above ++ b) (IsIn-append_right x above b right) ]
  ],
  λ m. elim (IsIn-append_cases x a (above ++ b) m) [
    | inl left ↦ IsIn-append_right x above xs ((parts x).1 (inl left))
    | inr more ↦ elim (IsIn-append_cases x above b more) [ inl up ↦ IsIn-append_left x above xs up | inr right ↦ IsIn-append_right x above xs ((parts x).1 (inr right)) ]
  ],
)

-- what is kept was there
pub kept_adds_no_entry : (places : List Placed) (want : Want) (tables : List Opened) (inputs : List Entry) (points : List ℕ) (deeper : List KeyRange) → AreInputsOf places want inputs → HoldsKept inputs points deeper (entries_of tables) → AddNoEntry places want tables
kept_adds_no_entry places want tables inputs points deeper inputs_are holds e m = (inputs_are e).0 (kept_input inputs points deeper e ((holds e).0 m))

module _ (s : ServedValue) (want : Want) (edit : Edit) (tables : List Opened) (ver : IsVersion s.version) (is : IsServed s) (legal : IsLegal s.version.files want) (inst : Installs s want edit tables) where
  abbrev stored : List Entry
  stored = all_entries (tables_of s.places)

  abbrev rest : List Entry
  rest = all_entries (tables_of (kept s want edit tables ver is legal inst))

  abbrev next : List Entry
  next = all_entries (tables_of (after s want edit tables ver is legal inst))

  module _ (inputs : List Entry) (inputs_are : AreInputsOf s.places want inputs) where
    input_stored : (e : Entry) → IsIn e inputs → IsIn e stored
    input_stored e m = let i = (inputs_are e).0 m in tables_in s.places i.0 e i.1 i.3

    stored_parts : (e : Entry) → IsIn e stored ↔ (IsIn e inputs ⊎ IsIn e rest)
    stored_parts e = (
      λ m. let t = in_tables e s.places m in elim (cases_Bool (list_any (λ n. has_number n t.0.meta) want.files)) [
        | inl goes ↦ inl ((inputs_are e).1 (t.0, t.1, listed_is want.files t.0.meta goes, t.2))
        | inr keeps ↦
            let stays = kept_in s want edit tables ver is legal inst t.0 t.1 (λ n. true≢false (sym (is_listed want.files t.0.meta n) ∙ keeps)) in
            inr (tables_in (kept s want edit tables ver is legal inst) t.0 e stays t.2)
      ],
      λ m. elim m [ inl a ↦ input_stored e a | inr b ↦ rest_stored s want edit tables ver is legal inst e b ],
    )

    module _ (job : JobParts) (of_want : IsJobOf s.version.files want job) (knows : KnowsDeeper s.places job) (order : AreOrdered (tables_of s.places)) (holds : HoldsKept inputs job.points job.deeper (entries_of tables)) where
      module _ (above : List Entry) (unique : IsUnique above) (over : IsAbove above stored) where
        before_unique : IsUnique (above ++ stored)
        before_unique = IsUnique-above above stored unique (stored_unique s.places is.recorded order) over

        was_there : (e : Entry) → IsIn e (above ++ next) → IsIn e (above ++ stored)
        was_there e m = elim (IsIn-append_cases e above next m) [ inl up ↦ IsIn-append_left e above stored up | inr low ↦ IsIn-append_right e above stored (next_stored s want edit tables ver is legal inst (kept_adds_no_entry s.places want tables inputs job.points job.deeper inputs_are holds) e low) ]

        none_older : NoneOlder inputs job.points job.deeper (above ++ rest)
        none_older x y mx my same gone = elim (IsIn-append_cases y above rest my) [
          | inl up ↦ over y x up (input_stored x mx) (sym same)
          | inr low ↦
              let h = (inputs_are x).0 mx in
              let t = in_tables y (kept s want edit tables ver is legal inst) low in
              let left = kept_cases s want edit tables ver is legal inst t.0 t.1 in
              stays_newer s want ver is legal job of_want knows (newer_places s ver is order) h.0 t.0 h.1 h.2 left.0 left.1 x y h.3 t.2 (gone_parts job.points job.deeper x gone).2 same
        ]

        pub read_alike : ReadAlike job.points inputs (above ++ next) (above ++ stored)
        read_alike =
            alike inputs (entries_of tables) job.points job.deeper
            (λ e f me mf. stored_unique s.places is.recorded order e f (input_stored e me) (input_stored f mf))
            holds (above ++ rest) none_older (above ++ next) (above ++ stored)
            (λ e f me mf. before_unique e f (was_there e me) (was_there f mf))
            before_unique
            (beside_above above next (entries_of tables) rest (next_parts s want edit tables ver is legal inst))
            (beside_above above stored inputs rest stored_parts)

pub installs_keep_reads : InstallsKeepReads
installs_keep_reads s want job edit tables inputs above ver is order legal of_want knows inst inputs_are holds unique over =
    read_alike s want edit tables ver is legal inst inputs inputs_are job of_want knows order holds above unique over
