-- A want beside one that is installed, and its job: it stays legal, has its inputs and knows its deeper keys.
use Rattle.std.proofs.Common.{◌≡◌, ℕ, ◌+◌, ◌≤◌, true, false, List, refl, sym, subst, ◌∙◌, arith, inl, inr}
use Rattle.std.proofs.lemmas.Bool.{true≢false, and_from, cases_order}
use Rattle.lsm_key.specs.declared.entry.Entry.{Entry}
use Rattle.lsm_key.specs.Sets.{IsIn}
use Rattle.lsm_table.specs.Tables.{Opened}
use Rattle.lsm_claim.specs.declared.job.Want.{Want}
use Rattle.lsm_claim.specs.Levels.{uses_level, shares_level}
use Rattle.lsm_claim.specs.Conflicts.{conflicts, covers, hulls_meet}
use Rattle.lsm_claim.proofs.BookChanges.{both_use}
use Rattle.lsm_key.proofs.KeyRanges.{common_key, ranges_meet_from}
use Rattle.lsm_edit.specs.declared.file.FileMeta.{FileMeta}
use Rattle.lsm_edit.specs.declared.edit.Edit.{Edit}
use Rattle.lsm_edit.specs.declared.served.Placed.{Placed}
use Rattle.lsm_edit.specs.Version.{IsVersion, files_after}
use Rattle.lsm_edit.specs.Served.{ServedValue, IsServed}
use Rattle.lsm_edit.proofs.ServedPlaces.{file_of, whole_file}
use Rattle.lsm_edit.proofs.PlacesInOrder.{placed_meta}
use Rattle.lsm_edit.proofs.VersionLaws.{added_is}
use Rattle.lsm_msg.specs.declared.job.JobParts.{JobParts}
use Rattle.lsm_msg.specs.Legal.{IsLegal, KnowsDeeper, Takes, touches}
use Rattle.lsm_msg.specs.Merge.{is_in_ranges}
use Rattle.lsm_msg.specs.Installs.{IsJobOf, AddNoEntry, Installs}
use Rattle.lsm_msg.specs.InstallLaws.{InstallsKeepJobs}
use Rattle.lsm_msg.proofs.LegalInputs.{input_key, level_cases, own_key, uses_next, uses_own, within_hull}
use Rattle.lsm_msg.proofs.PlacesAfterInstall.{after, added, file_cases, file_stays, new_number, output_level, place_cases, placed_entry}

module _ (s : ServedValue) (want : Want) (edit : Edit) (tables : List Opened) (ver : IsVersion s.version) (is : IsServed s) (legal : IsLegal s.version.files want) (inst : Installs s want edit tables) where
  module _ (other : Want) (apart : conflicts want other ≡ false) (legal2 : IsLegal s.version.files other) where
    abbrev files : List FileMeta
    files = files_after s.version.files edit

    no_common : (level : ℕ) → uses_level want.level level ≡ true → uses_level other.level level ≡ true → (key : List ℕ) → covers want.hull key ≡ true → covers other.hull key ≡ true → ⊥
    no_common level u v key a b =
        let share : shares_level want.level other.level ≡ true = both_use want.level other.level level u v in
        let met : hulls_meet want.hull other.hull ≡ true = ranges_meet_from want.hull.lo want.hull.hi other.hull.lo other.hull.hi key a b in
        true≢false (sym (and_from (shares_level want.level other.level) (hulls_meet want.hull other.hull) share met) ∙ apart)

    -- no file is an input of both
    not_both : (f : FileMeta) → Takes s.version.files want f → Takes s.version.files other f → ⊥
    not_both f t u =
        let own = own_key f (whole_file s ver is f t.0) in
        no_common f.level (legal.levels f t) (legal2.levels f u) f.smallest (within_hull want f f.smallest (legal.inside f t) own) (within_hull other f f.smallest (legal2.inside f u) own)

    takes_after : (f : FileMeta) → Takes s.version.files other f → Takes files other f
    takes_after f t = (file_stays s want edit tables ver is legal inst f t.0 (λ n. not_both f (t.0, n) t), t.1)

    takes_before : (f : FileMeta) → Takes files other f → Takes s.version.files other f
    takes_before f t = elim (file_cases s want edit tables ver is legal inst f t.0) [
      | inl a ↦ (a.0, t.1)
      | inr b ↦ let g = legal2.known f.number t.1 in absurd (new_number s want edit tables ver is legal inst f g.0 b g.1 g.2)
    ]

    -- an output is not of the level below the other want's and in its way
    output_clear : (f : FileMeta) → IsIn f edit.added → f.level ≡ other.level + 1 → touches other.hull f ≡ true → ⊥
    output_clear f m l h =
        let level : f.level ≡ want.level + 1 = inst.level f m in
        let shared = common_key other.hull.lo other.hull.hi f.smallest f.largest other.hull.proper (added_is edit inst.sound f m).ordered h in
        no_common f.level (uses_next want.level f.level level) (uses_next other.level f.level l) shared.0 (within_hull want f shared.0 (inst.inside f m) shared.2) shared.1

    pub legal_after : IsLegal files other
    legal_after = record {
      known = λ n m. let g = legal2.known n m in (g.0, (takes_after g.0 (g.1, subst (λ (k : ℕ). IsIn k other.files) (sym g.2) m)).0, g.2);
      own = (legal2.own.0, takes_after legal2.own.0 legal2.own.1, legal2.own.2);
      levels = λ f t. legal2.levels f (takes_before f t);
      inside = λ f t. legal2.inside f (takes_before f t);
      least = (legal2.least.0, takes_after legal2.least.0 legal2.least.1, legal2.least.2);
      greatest = (legal2.greatest.0, takes_after legal2.greatest.0 legal2.greatest.1, legal2.greatest.2);
      next = λ f m l h. elim (file_cases s want edit tables ver is legal inst f m) [ inl a ↦ legal2.next f a.0 l h | inr b ↦ absurd (output_clear f b l h) ];
      older = λ f g m t z l n h lt. elim (file_cases s want edit tables ver is legal inst f m) [
        | inl a ↦ legal2.older f g a.0 (takes_before g t) z l n h lt
        | inr b ↦ let level : f.level ≡ want.level + 1 = inst.level f b in absurd (omega arith)
      ];
    }

    module _ (job : JobParts) (of_other : IsJobOf s.version.files other job) where
      pub job_after : IsJobOf files other job
      job_after = record { level = of_other.level; inputs = λ f. (λ m. takes_after f ((of_other.inputs f).0 m), λ t. (of_other.inputs f).1 (takes_before f t)) }

      module _ (none : AddNoEntry s.places want tables) (knows : KnowsDeeper s.places job) where
        -- an entry of an output, of a key of an input of the other want
        output_deep : (p q : Placed) → IsIn p s.places → IsIn q (added s want edit tables ver is legal inst) → IsIn p.meta job.inputs → (e d : Entry) → IsIn e p.table.entries → IsIn d q.table.entries
            → is_in_ranges job.deeper e.ikey.key ≡ false → d.ikey.key ≡ e.ikey.key → q.meta.level ≤ job.level + 1
        output_deep p q mp mq input e d me md outside same =
            let source = none d (placed_entry edit.added tables q d mq md) in
            let deep : source.0.meta.level ≤ job.level + 1 = knows p source.0 mp source.1 input e d me source.3 outside same in
            let at : q.meta.level ≡ want.level + 1 = output_level s want edit tables ver is legal inst q mq in
            let own : job.level ≡ other.level = of_other.level in
            let here : covers want.hull d.ikey.key ≡ true = input_key s want ver is legal source.0 source.1 source.2 d source.3 in
            let there : covers other.hull e.ikey.key ≡ true = input_key s other ver is legal2 p mp ((of_other.inputs p.meta).0 input).1 e me in
            elim (level_cases want.level source.0.meta.level (legal.levels source.0.meta (file_of s ver is source.0 source.1, source.2))) [
              | inr lower ↦ omega arith
              | inl upper ↦ elim (cases_order want.level (other.level + 1)) [
                | inl share ↦ absurd (no_common want.level (uses_own want.level want.level refl) (uses_next other.level want.level share) d.ikey.key here (subst (λ (key : List ℕ). covers other.hull key ≡ true) (sym same) there))
                | inr (inl small) ↦ omega arith
                | inr (inr large) ↦ absurd (omega arith)
              ]
            ]

        pub knows_after : KnowsDeeper (after s want edit tables ver is legal inst) job
        knows_after p q mp mq input e d me md outside same = elim (place_cases s want edit tables ver is legal inst p mp) [
          | inl made ↦
              let t = (of_other.inputs p.meta).0 input in
              absurd (new_number s want edit tables ver is legal inst p.meta p.meta (placed_meta edit.added tables p made) t.0 refl)
          | inr left ↦ elim (place_cases s want edit tables ver is legal inst q mq) [
            | inl made ↦ output_deep p q left.0 made input e d me md outside same
            | inr old ↦ knows p q left.0 old.0 input e d me md outside same
          ]
        ]

pub installs_keep_jobs : InstallsKeepJobs
installs_keep_jobs s want other edit tables ver is legal inst apart legal2 = (
  legal_after s want edit tables ver is legal inst other apart legal2,
  λ job of_other. (
    job_after s want edit tables ver is legal inst other apart legal2 job of_other,
    λ none knows. knows_after s want edit tables ver is legal inst other apart legal2 job of_other none knows,
  ),
)
