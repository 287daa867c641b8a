-- A history that grows, and what stays of it.
use Rattle.std.proofs.Common.{◌≡◌, ◌⊎◌, ℕ, ◌≤◌, List, [], ◌∷◌, ◌++◌, Option, None, Some, refl, sym, ap, subst, inl, inr, length, arith, length-append}
use Rattle.std.specs.Prelude.{IfSome, slice_get}
use Rattle.lsm_key.specs.Sets.{IsIn}
use Rattle.lsm_key.proofs.Lists.{slice_get-front}
use Rattle.lsm_table.specs.Tables.{Opened}
use Rattle.lsm_edit.specs.declared.edit.Edit.{Edit}
use Rattle.lsm_edit.specs.declared.file.FileMeta.{FileMeta}
use Rattle.lsm_edit.specs.declared.served.Placed.{Placed}
use Rattle.lsm_edit.specs.Edits.{versions_from}
use Rattle.lsm_edit.specs.Version.{VersionValue, first_version}
use Rattle.lsm_follow.specs.Followers.{FollowerValue, PendingValue}
use Rattle.lsm_msg.specs.declared.job.JobParts.{JobParts}
use Rattle.lsm_msg.specs.declared.job.JobResult.{JobResult}
use Rattle.lsm_msg.specs.declared.message.Body.{Body}
use Rattle.lsm_msg.specs.declared.message.Body.TheVariants as body
use Rattle.lsm_merge.specs.Outputs.{IsMerge}
use Rattle.lsm_coord.specs.declared.dispatcher.Dispatcher.{Dispatcher}
use Rattle.lsm_coord.specs.Contract.Memory.{IsFit}
use Rattle.lsm_coord.specs.Contract.Value.{CoordValue}
use Rattle.lsm_store.specs.Compacting.{tables_at}
use Rattle.lsm_store.proofs.ServedTables.{tables_among}
use Rattle.lsm_work.specs.Workers.{TaskValue}
use Rattle.lsm_world.specs.History.{History, IsEditOf, IsFileOf, IsFollowerOf, IsNumbered, IsTableAt, IsTargetOf, IsResultOf, IsKnown, IsSent, IsTaskOf, IsHistory, IsNetwork, IsVersionOf, AreFiles, AreJobs, AreJobsOf, AreClaims, AreNumberedInOrder, WasPicked, versions_in}
use Rattle.lsm_world.specs.Nodes.{NetworkValue, NodesValue}

-- the edits of the one are the first ones of the other, which has at most one version more
pub record GrowsEdits (h more : History) : Type 0 where
  pub edits : (k : ℕ) (e : Edit) → slice_get h.edits k ≡ Some e → slice_get more.edits k ≡ Some e
  pub longer : length h.edits ≤ length more.edits
  pub versions : (versions_in more ≡ versions_in h) ⊎ ((v : VersionValue) × (versions_in more ≡ versions_in h ++ v ∷ []))

-- a number names one file
abbrev pub NameOneFile : List Placed → Type 0
NameOneFile files = (p q : Placed) → IsIn p files → IsIn q files → p.meta.number ≡ q.meta.number → p ≡ q

-- the files, jobs and edits of the one are those of the other, in which a number names one file
pub record Grows (h more : History) : Type 0 where
  pub files : (p : Placed) → IsIn p h.files → IsIn p more.files
  pub jobs : (j : JobParts) → IsIn j h.jobs → IsIn j more.jobs
  pub one : NameOneFile more.files
  pub edits : GrowsEdits h more

-- ---- edits

pub same_edits : (h more : History) → more.edits ≡ h.edits → GrowsEdits h more
same_edits h more same = record {
  edits = λ k e at. subst (λ (es : List Edit). slice_get es k ≡ Some e) (sym same) at;
  longer = let n = ap (λ (es : List Edit). length es) same in omega (arith, n);
  versions = inl (ap (versions_from first_version) same);
}

pub one_edit : (h more : History) (e : Edit) (v : VersionValue) → more.edits ≡ h.edits ++ e ∷ [] → versions_in more ≡ versions_in h ++ v ∷ [] → GrowsEdits h more
one_edit h more e v edits versions = record {
  edits = λ k x at. subst (λ (es : List Edit). slice_get es k ≡ Some x) (sym edits) (slice_get-front h.edits (e ∷ []) k x at);
  longer = let n = ap (λ (es : List Edit). length es) edits in let sum = length-append h.edits (e ∷ []) in omega (arith, n, sum);
  versions = inr (v, versions);
}

-- a history is one that has grown by nothing
pub grows_by_none : (h : History) → NameOneFile h.files → Grows h h
grows_by_none h one = record { files = λ p m. m; jobs = λ j m. m; one = one; edits = same_edits h h refl }

module _ (h more : History) (grows : Grows h more) where
  -- ---- tables of files that both have

  pub same_tables : (fs : List FileMeta) → ((f : FileMeta) → IsIn f fs → IsFileOf h f) → tables_at more.files fs ≡ tables_at h.files fs
  same_tables = tables_among h.files more.files grows.one grows.files

  -- ---- what stays

  pub file_stays : (f : FileMeta) → IsFileOf h f → IsFileOf more f
  file_stays f k = (k.0, grows.files k.0 k.1, k.2)

  pub number_stays : (number : ℕ) → IsNumbered h number → IsNumbered more number
  number_stays number k = (k.0, grows.files k.0 k.1, k.2)

  pub table_stays : (number : ℕ) (bytes : List ℕ) → IsTableAt h number bytes → IsTableAt more number bytes
  table_stays number bytes k = (k.0, grows.files k.0 k.1, k.2, k.3)

  pub version_stays : (v : VersionValue) → IsVersionOf h v → IsVersionOf more v
  version_stays v at = elim grows.edits.versions [
    | inl same ↦ subst (λ (vs : List VersionValue). slice_get vs v.number ≡ Some v) (sym same) at
    | inr one ↦ subst (λ (vs : List VersionValue). slice_get vs v.number ≡ Some v) (sym one.1) (slice_get-front (versions_in h) (one.0 ∷ []) v.number v at)
  ]

  pub pick_stays : (j : JobParts) → WasPicked h j → WasPicked more j
  pick_stays j was = record { old = was.old; new = was.new; claim = was.claim; fit = was.fit; version = version_stays was.old.served.version was.version; picked = was.picked }

  -- jobs of which none is new
  pub same_jobs : more.jobs ≡ h.jobs → AreJobsOf h → AreJobsOf more
  same_jobs same are =
      let before : (j : JobParts) → IsIn j more.jobs → IsIn j h.jobs = λ j m. subst (λ (js : List JobParts). IsIn j js) same m in
      record {
        picked = λ j m. pick_stays j (are.picked j (before j m));
        numbered = subst AreNumberedInOrder (sym same) are.numbered;
        job = λ j m. are.job j (before j m);
        one = λ i j mi mj. are.one i j (before i mi) (before j mj);
        inputs = λ j f mj mf. file_stays f (are.inputs j f (before j mj) mf);
      }

  edit_stays : (e : Edit) → IsEditOf h e → IsEditOf more e
  edit_stays e k = (k.0, grows.edits.edits k.0 e k.1)

  pub task_stays : (t : Option TaskValue) → IsTaskOf h t → IsTaskOf more t
  task_stays None k = tt
  task_stays (Some t) k = (grows.jobs t.job k.0, λ p m. (grows.files p (k.1 p m).0, (k.1 p m).1))

  target_stays : (served : VersionValue) (to : PendingValue) → IsTargetOf h served to → IsTargetOf more served to
  target_stays served to is = record { version = version_stays to.target is.version; later = is.later; received = λ p m. grows.files p (is.received p m); missing = is.missing }

  pending_stays : (served : VersionValue) (o : Option PendingValue) → IfSome o (IsTargetOf h served) → IfSome o (IsTargetOf more served)
  pending_stays served None is = tt
  pending_stays served (Some to) is = target_stays served to is

  follower_stays : (f : FollowerValue) → IsFollowerOf h f → IsFollowerOf more f
  follower_stays f is = record { version = version_stays f.served.version is.version; tables = λ p m. grows.files p (is.tables p m); pending = pending_stays f.served.version f.pending is.pending }

  module _ (inputs : (j : JobParts) (f : FileMeta) → IsIn j h.jobs → IsIn f j.inputs → IsFileOf h f) where
    pub result_stays : (r : JobResult) → IsResultOf h r → IsResultOf more r
    result_stays r k =
        let same = same_tables k.0.inputs (λ f m. inputs k.0 f k.1 m) in
        (k.0, grows.jobs k.0 k.1, k.2, subst (λ (ts : List Opened). IsMerge ts k.0 r.tables) (sym same) k.3)

    number_below : (number : ℕ) → number ≤ length h.edits → number ≤ length more.edits
    number_below number le = let longer = grows.edits.longer in omega (arith, le, longer)

    pub known_stays : (b : Body) → IsKnown h b → IsKnown more b
    known_stays (body.Job j) k = grows.jobs j k
    known_stays (body.Fetch number) k = number_stays number k
    known_stays (body.Table number bytes) k = table_stays number bytes k
    known_stays (body.Gone number) k = number_stays number k
    known_stays (body.Result r) k = result_stays r k
    known_stays (body.Ask number) k = number_below number k
    known_stays (body.Edit e) k = edit_stays e k
    known_stays (body.Base v) k = version_stays v k
    known_stays (body.Current number) k = number_below number k

    pub sent_stays : (bytes : List ℕ) → IsSent h bytes → IsSent more bytes
    sent_stays bytes k = (k.0, k.1, known_stays k.0.body k.2)

    pub network_stays : (n : NetworkValue) → IsNetwork h n → IsNetwork more n
    network_stays n is = record {
      workers = is.workers;
      tasks = λ w m. task_stays w.task (is.tasks w m);
      followers = is.followers;
      versions = λ f m. follower_stays f (is.versions f m);
      sent = λ bytes m. sent_stays bytes (is.sent bytes m);
    }

-- THE COORDINATOR AND ITS DESK GO ON: the workers' tasks, the followers' versions and the messages stay.
pub goes_on : (h more : History) (n : NodesValue) (core : CoordValue) (desk : List Dispatcher) → IsHistory h n → Grows h more → AreFiles more core → AreJobs more core → AreClaims more core.book desk → IsHistory more (record n { core = core; desk = desk })
goes_on h more n core desk is grows files jobs claims = record {
  files = files;
  jobs = jobs;
  claims = claims;
  network = network_stays h more grows is.jobs.all.inputs n.network is.network;
}

-- ---- what a call keeps

-- the history has a version more, which is the coordinator's, and that is fit
pub record HasVersion (h more : History) (c : CoordValue) : Type 0 where
  pub fit : IsFit c
  pub grown : versions_in more ≡ versions_in h ++ c.served.version ∷ []

-- the nodes have the history again, or one that it has grown to
pub record Keeps (h : History) (new : NodesValue) : Type 0 where
  pub more : History
  pub grows : Grows h more
  pub known : IsHistory more new
  pub current : (versions_in more ≡ versions_in h) ⊎ HasVersion h more new.core

-- the same history
pub keeps_same : (h : History) (new : NodesValue) → IsHistory h new → Keeps h new
keeps_same h new is = record { more = h; grows = grows_by_none h is.files.all.one; known = is; current = inl refl }
