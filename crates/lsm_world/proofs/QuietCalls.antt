-- Calls that leave the files and the claims.
use Rattle.std.proofs.Common.{◌≡◌, ◌<◌, ◌≤◌, List, length, true, sym, ap, subst, ◌∙◌}
use Rattle.lsm_key.specs.Sets.{IsIn}
use Rattle.lsm_claim.specs.Book.{BookValue, holds}
use Rattle.lsm_edit.specs.Served.{ServedValue}
use Rattle.lsm_versions.specs.declared.retired.Retired.{Retired}
use Rattle.lsm_versions.specs.Manifest.{read_edits}
use Rattle.lsm_coord.specs.Contract.Sound.{KeepsSound}
use Rattle.lsm_coord.specs.Contract.Value.{CoordValue}
use Rattle.lsm_world.specs.History.{History, IsHistory, AreFiles, AreJobs, AreClaims, of_epoch}
use Rattle.lsm_world.specs.Nodes.{NodesValue}

-- ---- parts

-- a call that leaves the version and its manifest, and retires nothing
pub files_stay : (h : History) (old new : CoordValue) → new.served ≡ old.served → new.stored.edits ≡ old.stored.edits → ((r : Retired) → IsIn r new.retired → IsIn r old.retired) → AreFiles h old → AreFiles h new
files_stay h old new served edits retired is = record {
  all = is.all;
  edits = is.edits ∙ ap read_edits (sym edits);
  given = λ p m. subst (λ (s : ServedValue). p.meta.number < s.version.next_file) (sym served) (is.given p m);
  served = λ p m. is.served p (subst (λ (s : ServedValue). IsIn p s.places) served m);
  retired = λ r m. is.retired r (retired r m);
}

-- a call that leaves the book
pub jobs_stay : (h : History) (old new : CoordValue) → new.book ≡ old.book → KeepsSound old new → AreJobs h old → AreJobs h new
jobs_stay h old new book keeps is = record {
  all = is.all;
  begun = λ j m. subst (λ (b : BookValue). j.id.epoch ≤ b.epoch) (sym book) (is.begun j m);
  made = subst (λ (b : BookValue). b.made ≡ length (of_epoch b.epoch h.jobs)) (sym book) is.made;
  sound = λ j m held. keeps j (is.sound j m (subst (λ (b : BookValue). holds b j.id ≡ true) book held)) held;
}

-- ---- the nodes

module _ (h : History) (old : NodesValue) (new : CoordValue) where
  -- A CALL THAT LEAVES THE VERSION AND THE BOOK, AND RETIRES NOTHING, KEEPS THE HISTORY.
  pub upkeep_within : new.served ≡ old.core.served → new.stored.edits ≡ old.core.stored.edits → ((r : Retired) → IsIn r new.retired → IsIn r old.core.retired) → new.book ≡ old.core.book → KeepsSound old.core new → IsHistory h old → IsHistory h (record old { core = new })
  upkeep_within served edits retired book keeps is = record {
    files = files_stay h old.core new served edits retired is.files;
    jobs = jobs_stay h old.core new book keeps is.jobs;
    claims = subst (λ (b : BookValue). AreClaims h b old.desk) (sym book) is.claims;
    network = is.network;
  }

  pub upkeep : new.served ≡ old.core.served → new.stored.edits ≡ old.core.stored.edits → new.retired ≡ old.core.retired → new.book ≡ old.core.book → KeepsSound old.core new → IsHistory h old → IsHistory h (record old { core = new })
  upkeep served edits retired book keeps is = upkeep_within served edits (λ r m. subst (λ (rs : List Retired). IsIn r rs) retired m) book keeps is
