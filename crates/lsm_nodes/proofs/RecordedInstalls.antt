-- What an install owes to the history that it ends.
use Rattle.std.proofs.Common.{◌≡◌, ℕ, ◌+◌, List, [], ◌∷◌, ◌++◌, true, length, sym, ap, subst, ◌∙◌, inl, inr, arith}
use Rattle.std.proofs.lemmas.List.{length-map}
use Rattle.lsm_claim.specs.declared.ending.Ending.TheVariants.{Installed}
use Rattle.lsm_claim.specs.declared.job.JobId.{JobId}
use Rattle.lsm_claim.specs.declared.job.LiveJob.{LiveJob}
use Rattle.lsm_claim.specs.Book.{BookValue, after_settling, holds}
use Rattle.lsm_edit.specs.declared.edit.Edit.{Edit}
use Rattle.lsm_edit.specs.declared.file.FileMeta.{FileMeta}
use Rattle.lsm_edit.specs.Served.{ServedValue}
use Rattle.lsm_msg.specs.declared.job.JobParts.{JobParts}
use Rattle.lsm_msg.specs.declared.job.JobResult.{JobResult}
use Rattle.lsm_coord.specs.declared.answer.Answer.{Answer}
use Rattle.lsm_coord.specs.declared.answer.Answer.TheVariants as answer
use Rattle.lsm_coord.specs.declared.call.Call.{Call}
use Rattle.lsm_coord.specs.declared.call.Call.TheVariants as call
use Rattle.lsm_coord.specs.declared.coord.install.Install.{Install}
use Rattle.lsm_coord.specs.declared.coord.install.Install.TheVariants as became
use Rattle.lsm_coord.specs.Model.Event.{Event, Reply}
use Rattle.lsm_coord.specs.Model.Event as say
use Rattle.lsm_coord.specs.Contract.Installing.{HoldsMergeOf, HoldsSoundMerge, records}
use Rattle.lsm_coord.specs.Contract.Replies.{error_of}
use Rattle.lsm_coord.specs.Contract.Shows.{Follows}
use Rattle.lsm_coord.specs.Contract.Value.{CoordValue}
use Rattle.lsm_coord.proofs.GiveBackSteps.{held_before, made_after}
use Rattle.lsm_coord.proofs.InstallEdits.{records_length}
use Rattle.lsm_coord.proofs.InstallOutcomes.{held_by}
use Rattle.lsm_coord.proofs.InstallRefusals.{rejected_keeps, rejected_stored}
use Rattle.lsm_coord.proofs.JobsStaySound.{nothing_keeps}
use Rattle.lsm_coord.proofs.OpenedOutputs.{tables_length}
use Rattle.lsm_nodes.specs.Answers.{HasFewFiles, install_answer}
use Rattle.lsm_nodes.specs.Calls.{InstallsResult}
use Rattle.lsm_nodes.specs.Histories.{AreSoundJobs, HoldsMerge, IsPickedIn, WitnessedValue, event_of_call, installed_by, installs_in, installs_of, reply_of_answer}
use Rattle.lsm_nodes.proofs.LongerHistories.{Extends}
use Rattle.lsm_nodes.proofs.RecordedCalls.{installs_push, plainly}

-- an install has as many files as the result has tables
pub few_files : (a b : CoordValue) (claim : LiveJob) (made : JobResult) (r : Install) → InstallsResult a claim made r b → HasFewFiles (length made.tables) r
few_files a b claim made (became.Done number files) h =
    let d = h.became in
    let all : List FileMeta = records (d.0.want.level + 1) a.served.version.next_file d.2 in
    let n : length files ≡ length made.tables = ap length d.6 ∙ (length-map all (λ (f : FileMeta). f.number) ∙ (records_length (d.0.want.level + 1) a.served.version.next_file d.2 ∙ tables_length made.tables d.2 d.3.outputs.tables)) in omega (arith, n)
few_files a b claim made (became.Stale id epoch) h = tt
few_files a b claim made (became.Kept back why) h = tt

-- of an install that is done
module _ (past : List WitnessedValue) (a : CoordValue) (w : WitnessedValue) (b : CoordValue) (claim : LiveJob) (made : JobResult) (number : ℕ) (files : List ℕ) (asked : w.exchange.call ≡ call.Install claim.id made)
    (told : w.exchange.answer ≡ answer.Installed number files) (before : w.before ≡ a.served) (h : InstallsResult a claim made (became.Done number files) b) where
  merged : HoldsMerge past w.before w.exchange.call w.exchange.answer → AreSoundJobs past a → HoldsSoundMerge a claim.id made
  merged x sound =
      let held : (job : JobParts) × IsPickedIn past job × (job.id ≡ claim.id) × HoldsMergeOf a.served job made =
      subst (λ (s : ServedValue). HoldsMerge past s (call.Install claim.id made) (answer.Installed number files)) before (subst (λ (y : Answer). HoldsMerge past w.before (call.Install claim.id made) y) told (subst (λ (y : Call). HoldsMerge past w.before y w.exchange.answer) asked x)) in
      let live : holds a.book held.0.id ≡ true = subst (λ (i : JobId). holds a.book i ≡ true) (sym held.2) (held_by a.book h.became.0 claim.id h.became.1) in (held.0, held.2, sound held.0 held.1 live, held.3)

  no : (job : JobParts) → w.exchange.answer ≡ answer.Picked job → ⊥
  no job e = let q : answer.Installed number files ≡ answer.Picked job = sym told ∙ e in cc

  installs : installs_in b.stored.edits ≡ installs_in a.stored.edits ++ installed_by w.exchange.answer
  installs =
      let done = h.became.4 in
      ap (λ (c : CoordValue). installs_in c.stored.edits) done.new_is
      ∙ installs_push a.stored.edits done.text done.edit done.spelled
      ∙ ap (λ (e : Edit). installs_in a.stored.edits ++ installs_of (e ∷ [])) done.edit_is
      ∙ (λ i. installs_in a.stored.edits ++ (sym h.became.5 i, sym h.became.6 i) ∷ [])
      ∙ ap (λ (y : Answer). installs_in a.stored.edits ++ installed_by y) (sym told)

  book : b.book ≡ after_settling a.book h.became.0.id Installed
  book = ap (λ (c : CoordValue). c.book) h.became.4.new_is

  pub extends_done : Extends past a w b
  extends_done = record {
    installs = installs;
    made = omega (arith, ap (λ (k : BookValue). k.made) book, made_after a.book h.became.0.id Installed);
    given = λ job e. absurd (no job e);
    step = λ x sound.
        subst (λ (e : Event). Follows a e (reply_of_answer w.exchange.call w.exchange.answer) b) (ap event_of_call (sym asked))
        (subst (λ (r : Reply). Follows a (say.Deliver 1) r b) (λ i. reply_of_answer (sym asked i) (sym told i)) (h.step 1 (λ is. merged x sound)));
    sound = λ x given sound s shown job from live.
        elim from [
          | inl p ↦ h.sound (λ is. merged x sound) job (sound job p (held_before a.book h.became.0.id job.id Installed (subst (λ (k : BookValue). holds k job.id ≡ true) book live))) live
          | inr e ↦ absurd (no job e)
        ];
  }

pub extends_install : (past : List WitnessedValue) (a : CoordValue) (w : WitnessedValue) (b : CoordValue) (claim : LiveJob) (made : JobResult) (r : Install) → w.exchange.call ≡ call.Install claim.id made → w.exchange.answer ≡ install_answer r → w.before ≡ a.served
    → InstallsResult a claim made r b → Extends past a w b
extends_install past a w b claim made (became.Done number files) asked told before h = extends_done past a w b claim made number files asked told before h
extends_install past a w b claim made (became.Stale id epoch) asked told before h =
    plainly past a w b (call.Install claim.id made) (answer.Stale id epoch) asked told tt (ap (λ (c : CoordValue). installs_in c.stored.edits) h.became.3) (ap (λ (c : CoordValue). c.book) h.became.3) (h.step 1 (λ is. absurd is)) (λ s shown. nothing_keeps a b h.became.3)
extends_install past a w b claim made (became.Kept back why) asked told before h =
    let stored = rejected_stored made why a b h.became.4 in
    plainly past a w b (call.Install claim.id made) (answer.Refused (error_of why)) asked told tt (ap (λ (c : CoordValue). installs_in c.stored.edits) stored.rest) (ap (λ (c : CoordValue). c.book) stored.rest) (h.step 1 (λ is. absurd is))
    (λ s shown. rejected_keeps made why a b h.became.4)
