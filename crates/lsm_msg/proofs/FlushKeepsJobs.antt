-- A flush adds a file of level 0 that is newer than all: the order stays, and so does each legal want and its job.
use Rattle.std.proofs.Common.{◌≡◌, ℕ, ◌≤◌, ◌⊎◌, List, [], ◌∷◌, refl, sym, ap, subst, arith, inl, inr}
use Rattle.lsm_key.specs.Sets.{IsIn}
use Rattle.lsm_key.proofs.Membership.{IsIn-append_left, IsIn-append_cases, IsIn-one}
use Rattle.lsm_table.specs.Tables.{Opened}
use Rattle.lsm_claim.specs.declared.job.Want.{Want}
use Rattle.lsm_edit.specs.declared.file.FileMeta.{FileMeta}
use Rattle.lsm_edit.specs.declared.served.Placed.{Placed}
use Rattle.lsm_edit.specs.Next.{flush_edit}
use Rattle.lsm_edit.specs.Version.{IsVersion, files_after, files_without}
use Rattle.lsm_edit.specs.Served.{ServedValue}
use Rattle.lsm_edit.proofs.VersionLaws.{without-none}
use Rattle.lsm_msg.specs.declared.job.JobParts.{JobParts}
use Rattle.lsm_msg.specs.Legal.{IsLegal, KnowsDeeper, Takes}
use Rattle.lsm_msg.specs.Installs.{IsJobOf}
use Rattle.lsm_msg.specs.InstallLaws.{FlushesKeepOrder, FlushesKeepJobs}

pub flushes_keep_order : FlushesKeepOrder
flushes_keep_order s flushed file table order newer = (newer, order)

module _ (s : ServedValue) (flushed : ℕ) (file : FileMeta) (ver : IsVersion s.version) (level : file.level ≡ 0) (fresh : s.version.next_file ≤ file.number) where
  abbrev files : List FileMeta
  files = files_after s.version.files (flush_edit s.version flushed file)

  file_cases : (f : FileMeta) → IsIn f files → IsIn f s.version.files ⊎ (f ≡ file)
  file_cases f m = elim (IsIn-append_cases f (files_without [] s.version.files) (file ∷ []) m) [
    | inl a ↦ inl (subst (λ (fs : List FileMeta). IsIn f fs) (without-none s.version.files) a)
    | inr b ↦ inr (IsIn-one f file b)
  ]

  file_stays : (f : FileMeta) → IsIn f s.version.files → IsIn f files
  file_stays f m = IsIn-append_left f (files_without [] s.version.files) (file ∷ []) (subst (λ (fs : List FileMeta). IsIn f fs) (sym (without-none s.version.files)) m)

  -- no file before has the new one's number
  new_number : (f g : FileMeta) → f ≡ file → IsIn g s.version.files → g.number ≡ f.number → ⊥
  new_number f g new m same = let low = ver.below g m in let number = ap (λ (h : FileMeta). h.number) new in omega arith

  module _ (want : Want) (legal : IsLegal s.version.files want) where
    takes_after : (f : FileMeta) → Takes s.version.files want f → Takes files want f
    takes_after f t = (file_stays f t.0, t.1)

    takes_before : (f : FileMeta) → Takes files want f → Takes s.version.files want f
    takes_before f t = elim (file_cases f t.0) [
      | inl a ↦ (a, t.1)
      | inr new ↦ let g = legal.known f.number t.1 in absurd (new_number f g.0 new g.1 g.2)
    ]

    pub legal_flushed : IsLegal files want
    legal_flushed = record {
      known = λ n m. let g = legal.known n m in (g.0, file_stays g.0 g.1, g.2);
      own = (legal.own.0, takes_after legal.own.0 legal.own.1, legal.own.2);
      levels = λ f t. legal.levels f (takes_before f t);
      inside = λ f t. legal.inside f (takes_before f t);
      least = (legal.least.0, takes_after legal.least.0 legal.least.1, legal.least.2);
      greatest = (legal.greatest.0, takes_after legal.greatest.0 legal.greatest.1, legal.greatest.2);
      next = λ f m l h. elim (file_cases f m) [
        | inl a ↦ legal.next f a l h
        | inr new ↦ let same : f.level ≡ file.level = ap (λ (g : FileMeta). g.level) new in absurd (omega arith)
      ];
      older = λ f g m t z l n h lt. elim (file_cases f m) [
        | inl a ↦ legal.older f g a (takes_before g t) z l n h lt
        | inr new ↦
            let low = ver.below g (takes_before g t).0 in
            let same : f.number ≡ file.number = ap (λ (k : FileMeta). k.number) new in
            absurd (omega arith)
      ];
    }

    module _ (job : JobParts) (of_want : IsJobOf s.version.files want job) where
      pub job_flushed : IsJobOf files want job
      job_flushed = record { level = of_want.level; inputs = λ f. (λ m. takes_after f ((of_want.inputs f).0 m), λ t. (of_want.inputs f).1 (takes_before f t)) }

      pub knows_flushed : (table : Opened) → KnowsDeeper s.places job → KnowsDeeper (record { meta = file; table = table } ∷ s.places) job
      knows_flushed table knows p q mp mq input e d me md outside same = elim mq [
        | inl new ↦ let at : q.meta.level ≡ file.level = ap (λ (x : Placed). x.meta.level) new in omega arith
        | inr old ↦ elim mp [
          | inl new ↦ absurd (new_number p.meta p.meta (ap (λ (x : Placed). x.meta) new) ((of_want.inputs p.meta).0 input).0 refl)
          | inr was ↦ knows p q was old input e d me md outside same
        ]
      ]

pub flushes_keep_jobs : FlushesKeepJobs
flushes_keep_jobs s flushed file table want ver level fresh legal = (
  legal_flushed s flushed file ver level fresh want legal,
  λ job of_want. (
    job_flushed s flushed file ver level fresh want legal job of_want,
    λ knows. knows_flushed s flushed file ver level fresh want legal job of_want table knows,
  ),
)
