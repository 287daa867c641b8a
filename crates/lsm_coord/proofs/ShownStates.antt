-- What shows a state shows another one with the same versions, and the same answers at the last flush.
use Rattle.std.proofs.Common.{◌≡◌, ℕ, ◌≤◌, List, ◌∙◌, subst, sym}
use Rattle.lsm_key.specs.Visible.{value_at}
use Rattle.lsm_key.specs.Writes.{answer}
use Rattle.lsm_edit.specs.Served.{ServedValue}
use Rattle.lsm_coord.specs.Model.State.{State, last_flushed}
use Rattle.lsm_coord.specs.Contract.Shows.{ShowsStored}
use Rattle.lsm_coord.specs.Contract.Value.{stored_entries}

pub stored_same : (edits : List (List ℕ)) (served : ServedValue) (s t : State) → ShowsStored edits served s
    → t.versions ≡ s.versions → t.next_file ≡ s.next_file → t.epoch ≡ s.epoch → last_flushed t ≡ last_flushed s
    → ((key : List ℕ) → answer t.writes (last_flushed s) key ≡ answer s.writes (last_flushed s) key) → ShowsStored edits served t
stored_same edits served s t h versions next_file epoch flushed answers = record {
  manifest = h.manifest;
  versions = versions ∙ h.versions;
  next_file = next_file ∙ h.next_file;
  epoch = epoch ∙ h.epoch;
  ordered = h.ordered;
  old = λ e m. subst (λ (n : ℕ). e.ikey.seq ≤ n) (sym flushed) (h.old e m);
  answers = λ key. subst (λ (n : ℕ). value_at (stored_entries served) key n ≡ answer t.writes n key) (sym flushed) (h.answers key ∙ sym (answers key));
}
