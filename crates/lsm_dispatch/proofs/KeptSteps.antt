-- What a store holds through the steps of a dispatch.
use Rattle.std.proofs.Common.{◌≡◌, ℕ, false, List, [], ◌∷◌, ◌++◌, refl, sym, ap, subst, ◌∙◌, inl, inr}
use Rattle.lsm_key.specs.Sets.{IsIn}
use Rattle.lsm_claim.specs.declared.ending.Ending.TheVariants.{Returned}
use Rattle.lsm_claim.specs.declared.job.JobId.{JobId}
use Rattle.lsm_claim.specs.Book.{after_settling}
use Rattle.lsm_coord.specs.Model.Event as say
use Rattle.lsm_coord.specs.Model.State.{State}
use Rattle.lsm_coord.specs.Contract.Calls.{after_give_back}
use Rattle.lsm_coord.specs.Contract.Shows.{Follows}
use Rattle.lsm_coord.specs.Contract.Value.{CoordValue}
use Rattle.lsm_coord.proofs.GiveBackSteps.{Shows-beside}
use Rattle.lsm_store.specs.Store.{Keeps}
use Rattle.lsm_store.proofs.StoreSteps.{keeps_then}
use Rattle.lsm_dispatch.specs.declared.crew.WorkerState.{WorkerState}
use Rattle.lsm_dispatch.specs.declared.crew.WorkerState.TheVariants.{Gone, Idle, Busy}
use Rattle.lsm_dispatch.specs.Crews.{CrewHolds, after_all_leave, after_leaving, has_busy}
use Rattle.lsm_dispatch.specs.Dispatching.{InstallsInOrder, IsMergeOfJob, KeepsIfMerged, RunKeeps, TakenResult}

pub keeps_same : (c : CoordValue) → Keeps c c
keeps_same c writes snapshots h = h

pub returned_keeps : (c : CoordValue) (id : JobId) → Keeps c (after_give_back c id)
returned_keeps c id writes snapshots h = record {
  state = h.state;
  shown = Shows-beside c (after_settling c.book id Returned) c.stored.tables c.failures h.state h.shown;
  writes_are = h.writes_are;
  snapshots_are = h.snapshots_are;
}

pub leaving_keeps : (c : CoordValue) (s : WorkerState) → Keeps c (after_leaving c s)
leaving_keeps c Gone = keeps_same c
leaving_keeps c Idle = keeps_same c
leaving_keeps c (Busy job) = returned_keeps c job.id

pub installed_keeps : (old new : CoordValue) (message number : ℕ) (files : List ℕ) → Follows old (say.Deliver message) (say.Installed number files) new → Keeps old new
installed_keeps old new message number files follows writes snapshots h =
    let r = follows h.state h.shown in
    let is = ((r.1).1).new_is in
    record { state = r.0; shown = r.2; writes_are = ap (λ (x : State). x.writes) is ∙ h.writes_are; snapshots_are = ap (λ (x : State). x.snapshots) is ∙ h.snapshots_are }

-- ---- in turn

pub passes_first : (old mid new : CoordValue) (ts : List TakenResult) → Keeps old mid → InstallsInOrder mid ts new → InstallsInOrder old ts new
passes_first old mid new [] p q = keeps_then old mid new p q
passes_first old mid new (t ∷ ts) p q = (keeps_then old mid t.at p q.0, q.1, q.2, q.3, q.4)

pub passes_then : (old mid new : CoordValue) (ts us : List TakenResult) → InstallsInOrder old ts mid → InstallsInOrder mid us new → InstallsInOrder old (ts ++ us) new
passes_then old mid new [] us p q = passes_first old mid new us p q
passes_then old mid new (t ∷ ts) us p q = (p.0, p.1, p.2, p.3, passes_then p.1 mid new ts us p.4 q)

passes_keep : (old new : CoordValue) (ts : List TakenResult) → InstallsInOrder old ts new → ((t : TakenResult) → IsIn t ts → IsMergeOfJob t) → Keeps old new
passes_keep old new [] p merged = p
passes_keep old new (t ∷ ts) p merged =
    keeps_then old t.at new p.0 (keeps_then t.at p.1 new (p.3 (merged t (inl refl))) (passes_keep p.1 new ts p.4 (λ u m. merged u (inr m))))

pub kept_if_merged : (old new : CoordValue) → (ts : List TakenResult) × InstallsInOrder old ts new → KeepsIfMerged old new
kept_if_merged old new p = record { results = p.0; passes = p.1; keeps = passes_keep old new p.0 p.1 }

pub left_keeps : (old new : CoordValue) (s : WorkerState) → new ≡ after_leaving old s → Keeps old new
left_keeps old new s left = subst (Keeps old) (sym left) (leaving_keeps old s)

-- four workers have left their states
pub four_keep : (c0 c1 c2 c3 c4 : CoordValue) (a b c d : WorkerState) → c1 ≡ after_leaving c0 a → c2 ≡ after_leaving c1 b → c3 ≡ after_leaving c2 c → c4 ≡ after_leaving c3 d → Keeps c0 c4
four_keep c0 c1 c2 c3 c4 a b c d one two three four =
    keeps_then c0 c2 c4 (keeps_then c0 c1 c2 (left_keeps c0 c1 a one) (left_keeps c1 c2 b two)) (keeps_then c2 c3 c4 (left_keeps c2 c3 c three) (left_keeps c3 c4 d four))

-- ---- steps of a run

pub run_keeps_none : (crew : List WorkerState) (c : CoordValue) → RunKeeps crew c crew c
run_keeps_none crew c = record { held = λ h. h; results = []; passes = keeps_same c }

pub run_keeps : (crew crew_new : List WorkerState) (old new : CoordValue) → (CrewHolds old.book crew → CrewHolds new.book crew_new) → Keeps old new → RunKeeps crew old crew_new new
run_keeps crew crew_new old new held keeps = record { held = held; results = []; passes = keeps }

pub run_passes : (crew crew_new : List WorkerState) (old new : CoordValue) → (CrewHolds old.book crew → CrewHolds new.book crew_new) → (results : List TakenResult) × InstallsInOrder old results new → RunKeeps crew old crew_new new
run_passes crew crew_new old new held p = record { held = held; results = p.0; passes = p.1 }

pub run_keeps_then : (a b d : List WorkerState) (x y z : CoordValue) → RunKeeps a x b y → RunKeeps b y d z → RunKeeps a x d z
run_keeps_then a b d x y z p q = record { held = λ h. q.held (p.held h); results = p.results ++ q.results; passes = passes_then x y z p.results q.results p.passes q.passes }

-- no worker has a claim that is given back
pub none_leaves : (c : CoordValue) (crew : List WorkerState) → has_busy crew ≡ false → after_all_leave c crew ≡ c
none_leaves c [] none = refl
none_leaves c (Gone ∷ ss) none = none_leaves c ss none
none_leaves c (Idle ∷ ss) none = none_leaves c ss none
none_leaves c (Busy job ∷ ss) none = absurd cc

pub four_returned : (c0 c1 c2 c3 c4 : CoordValue) (a b c d : WorkerState) (crew : List WorkerState) → crew ≡ a ∷ b ∷ c ∷ d ∷ [] → c1 ≡ after_leaving c0 a → c2 ≡ after_leaving c1 b → c3 ≡ after_leaving c2 c → c4 ≡ after_leaving c3 d → c4 ≡ after_all_leave c0 crew
four_returned c0 c1 c2 c3 c4 a b c d crew is one two three four =
    four ∙ ap (λ (x : CoordValue). after_leaving x d) (three ∙ ap (λ (x : CoordValue). after_leaving x c) (two ∙ ap (λ (x : CoordValue). after_leaving x b) one)) ∙ ap (after_all_leave c0) (sym is)
