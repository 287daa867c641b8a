-- What each call owes to the history that it ends.
use Rattle.std.proofs.Common.{◌≡◌, ◌⊎◌, ℕ, Bool, true, false, cond, List, [], ◌∷◌, ◌++◌, Option, None, Result, Ok, Err, OnErr, IsOk, IfOk, IfErr, MatchResult, Vec, map, filter, refl, sym, ap, subst, ◌∙◌, inl, inr, append-nil}
use Rattle.std.specs.FinMap.{get, get-retain_keys, nat_cmp-IsAntisymmetric, retain_keys}
use Rattle.std.proofs.lemmas.Bool.{false≢true}
use Rattle.std.proofs.lemmas.List.{map-append}
use Rattle.std.proofs.lemmas.List.Elements.{filter-append}
use Rattle.lsm_key.specs.declared.op.Op.{Op}
use Rattle.lsm_edit.specs.declared.edit.Edit.{Edit}
use Rattle.lsm_edit.specs.declared.file.FileMeta.{FileMeta}
use Rattle.lsm_edit.specs.Edit.{IsSpelledEdit}
use Rattle.lsm_vault.specs.Stored.{TableMap}
use Rattle.lsm_versions.specs.Manifest.{read_edits}
use Rattle.lsm_versions.specs.Opening.{MayHaveLost, is_live}
use Rattle.lsm_versions.proofs.ManifestReplay.{read_edits-push}
use Rattle.lsm_coord.specs.declared.answer.Answer.{Answer}
use Rattle.lsm_coord.specs.declared.answer.Answer.TheVariants as answer
use Rattle.lsm_coord.specs.declared.answer.ShownVersion.{ShownVersion}
use Rattle.lsm_coord.specs.declared.call.Call.{Call}
use Rattle.lsm_coord.specs.declared.call.Call.TheVariants as call
use Rattle.lsm_coord.specs.declared.coord.flush.Flushed.{Flushed}
use Rattle.lsm_coord.specs.declared.error.CoordError.{CoordError}
use Rattle.lsm_coord.specs.declared.error.CoordError.TheVariants.{OutOfMemory, Device}
use Rattle.lsm_coord.specs.declared.snapshot.SnapId.{SnapId}
use Rattle.lsm_coord.specs.Model.Event.{Event, Reply}
use Rattle.lsm_coord.specs.Model.Event as say
use Rattle.lsm_coord.specs.Model.State.{State}
use Rattle.lsm_coord.specs.Contract.Calls.{AppendRefuses, FlushRefuses, GetRefuses, ScanRefuses, TrimRefuses, freeze_fault, with_floor, write_fault}
use Rattle.lsm_coord.specs.Contract.Replies.{get_reply, scan_reply}
use Rattle.lsm_coord.specs.Contract.Shows.{Follows, Shows}
use Rattle.lsm_coord.specs.Contract.Sound.{KeepsSound}
use Rattle.lsm_coord.specs.Contract.Value.{CoordValue, version_set}
use Rattle.lsm_coord.proofs.JobsStaySound.{nothing_keeps}
use Rattle.lsm_nodes.specs.Answers.{answer_of, flush_answer, freeze_answer, get_answer, release_answer, scan_answer, show_answer, snapshot_answer, trim_answer, write_answer}
use Rattle.lsm_nodes.specs.Calls.{Flushes, Freezes, Gets, ReleasesSnapshot, ScansKeys, ShowsVersion, TakesSnapshot, Trims, Writes}
use Rattle.lsm_nodes.specs.Histories.{WitnessedValue, event_of_call, installs_in, installs_of, is_install, reply_of_answer}
use Rattle.lsm_nodes.proofs.LongerHistories.{Extends, IsPlain, extends_plain, plain_answer}

-- a plain call by its exchange, that leaves the installs and the book
pub plainly : (past : List WitnessedValue) (a : CoordValue) (w : WitnessedValue) (b : CoordValue) (asked : Call) (answered : Answer) → w.exchange.call ≡ asked → w.exchange.answer ≡ answered → IsPlain answered
    → installs_in b.stored.edits ≡ installs_in a.stored.edits → b.book ≡ a.book → Follows a (event_of_call asked) (reply_of_answer asked answered) b → ((s : State) → Shows a s → KeepsSound a b) → Extends past a w b
plainly past a w b asked answered call answer plain edits book goes keeps =
    extends_plain past a w b (subst IsPlain (sym answer) plain) edits book
    (subst (λ (r : Reply). Follows a (event_of_call w.exchange.call) r b) (λ i. reply_of_answer (sym call i) (sym answer i)) (subst (λ (e : Event). Follows a e (reply_of_answer asked answered) b) (ap event_of_call (sym call)) goes))
    keeps

-- the same of a call that changes nothing
pub same_after : (past : List WitnessedValue) (a : CoordValue) (w : WitnessedValue) (b : CoordValue) (asked : Call) (answered : Answer) → w.exchange.call ≡ asked → w.exchange.answer ≡ answered → IsPlain answered → b ≡ a
    → Follows a (event_of_call asked) (reply_of_answer asked answered) b → Extends past a w b
same_after past a w b asked answered call answer plain same goes =
    plainly past a w b asked answered call answer plain (ap (λ (c : CoordValue). installs_in c.stored.edits) same) (ap (λ (c : CoordValue). c.book) same) goes (λ s shown. nothing_keeps a b same)

-- a write or a freeze that is refused leaves the edits and the book
append_leaves : (fault : Option CoordError) (e : CoordError) (a b : CoordValue) → AppendRefuses fault a e b → (b.stored.edits ≡ a.stored.edits) × (b.book ≡ a.book)
append_leaves fault OutOfMemory a b h = (ap (λ (c : CoordValue). c.stored.edits) h.1.rest, ap (λ (c : CoordValue). c.book) h.1.rest)
append_leaves fault Device a b h = (ap (λ (c : CoordValue). c.stored.edits) h.1.rest, ap (λ (c : CoordValue). c.book) h.1.rest)
append_leaves fault e a b h = (ap (λ (c : CoordValue). c.stored.edits) h.1, ap (λ (c : CoordValue). c.book) h.1)

-- ---- writes, flushes and snapshots

pub plain_write : (r : Result (ℕ × ℕ) CoordError) → IsPlain (write_answer r)
plain_write r = plain_answer (λ (seqs : ℕ × ℕ). answer.Wrote seqs.0 seqs.1) (λ x. tt) r

pub extends_write : (past : List WitnessedValue) (a : CoordValue) (w : WitnessedValue) (b : CoordValue) (ops : List Op) (r : Result (ℕ × ℕ) CoordError) → w.exchange.call ≡ call.Write ops → w.exchange.answer ≡ write_answer r → Writes a ops r b → Extends past a w b
extends_write past a w b ops (Ok x) asked told h =
    plainly past a w b (call.Write ops) (write_answer (Ok x)) asked told tt (ap (λ (c : CoordValue). installs_in c.stored.edits) h.ok.1.rest) (ap (λ (c : CoordValue). c.book) h.ok.1.rest) h.step (λ s shown. h.sound)
extends_write past a w b ops (Err e) asked told h =
    let left = append_leaves (write_fault a ops) e a b h.refused in
    plainly past a w b (call.Write ops) (write_answer (Err e)) asked told tt (ap installs_in left.0) left.1 h.step (λ s shown. h.sound)

pub plain_freeze : (r : Result ℕ CoordError) → IsPlain (freeze_answer r)
plain_freeze r = plain_answer (λ (seq : ℕ). answer.Froze seq) (λ x. tt) r

pub extends_freeze : (past : List WitnessedValue) (a : CoordValue) (w : WitnessedValue) (b : CoordValue) (r : Result ℕ CoordError) → w.exchange.call ≡ call.Freeze → w.exchange.answer ≡ freeze_answer r → Freezes a r b → Extends past a w b
extends_freeze past a w b (Ok x) asked told h =
    plainly past a w b call.Freeze (freeze_answer (Ok x)) asked told tt (ap (λ (c : CoordValue). installs_in c.stored.edits) h.ok.1.rest) (ap (λ (c : CoordValue). c.book) h.ok.1.rest) h.step (λ s shown. h.sound)
extends_freeze past a w b (Err e) asked told h =
    let left = append_leaves (freeze_fault a) e a b h.refused in
    plainly past a w b call.Freeze (freeze_answer (Err e)) asked told tt (ap installs_in left.0) left.1 h.step (λ s shown. h.sound)

-- an edit more, after those of a manifest
pub installs_push : (texts : List (List ℕ)) (text : List ℕ) (e : Edit) → IsSpelledEdit text e → installs_in (texts ++ text ∷ []) ≡ installs_in texts ++ installs_of (e ∷ [])
installs_push texts text e spelled =
    let told : Edit → ℕ × List ℕ = λ x. (x.number, map (λ (f : FileMeta). f.number) x.added) in
    let tested : Edit → Bool = λ x. is_install x.kind in
    ap installs_of (read_edits-push texts text e spelled)
    ∙ ap (map told) (filter-append tested (read_edits texts) (e ∷ []))
    ∙ map-append told (filter tested (read_edits texts)) (filter tested (e ∷ []))

pub plain_flush : (r : Result Flushed CoordError) → IsPlain (flush_answer r)
plain_flush r = plain_answer (λ (f : Flushed). answer.Flushed f) (λ x. tt) r

-- a flush that is refused leaves the edits and the book
flush_leaves : (e : CoordError) (a b : CoordValue) → FlushRefuses a e b → (b.stored.edits ≡ a.stored.edits) × (b.book ≡ a.book)
flush_leaves OutOfMemory a b h = (ap (λ (c : CoordValue). c.stored.edits) h.1.rest, ap (λ (c : CoordValue). c.book) h.1.rest)
flush_leaves Device a b h = (ap (λ (c : CoordValue). c.stored.edits) h.1.0.rest, ap (λ (c : CoordValue). c.book) h.1.0.rest)
flush_leaves e a b h = (ap (λ (c : CoordValue). c.stored.edits) h.1, ap (λ (c : CoordValue). c.book) h.1)

pub extends_flush : (past : List WitnessedValue) (a : CoordValue) (w : WitnessedValue) (b : CoordValue) (r : Result Flushed CoordError) → w.exchange.call ≡ call.Flush → w.exchange.answer ≡ flush_answer r → Flushes a r b → Extends past a w b
extends_flush past a w b (Ok x) asked told h =
    let adds = h.ok.1.3 in
    let installs : installs_in b.stored.edits ≡ installs_in a.stored.edits =
    ap (λ (c : CoordValue). installs_in c.stored.edits) adds.new_is
    ∙ installs_push a.stored.edits adds.text adds.edit adds.spelled
    ∙ ap (λ (e : Edit). installs_in a.stored.edits ++ installs_of (e ∷ [])) adds.edit_is
    ∙ append-nil (installs_in a.stored.edits) in
    plainly past a w b call.Flush (flush_answer (Ok x)) asked told tt installs (ap (λ (c : CoordValue). c.book) adds.new_is) h.step (λ s shown. h.sound)
extends_flush past a w b (Err e) asked told h =
    let left = flush_leaves e a b h.refused in
    plainly past a w b call.Flush (flush_answer (Err e)) asked told tt (ap installs_in left.0) left.1 h.step (λ s shown. h.sound)

pub plain_snapshot : (r : Result (SnapId × ℕ) CoordError) → IsPlain (snapshot_answer r)
plain_snapshot r = plain_answer (λ (s : SnapId × ℕ). answer.Snapped s.0 s.1) (λ x. tt) r

pub extends_snapshot : (past : List WitnessedValue) (a : CoordValue) (w : WitnessedValue) (b : CoordValue) (r : Result (SnapId × ℕ) CoordError) → w.exchange.call ≡ call.Snap → w.exchange.answer ≡ snapshot_answer r → TakesSnapshot a r b → Extends past a w b
extends_snapshot past a w b (Ok x) asked told h =
    plainly past a w b call.Snap (snapshot_answer (Ok x)) asked told tt (ap (λ (c : CoordValue). installs_in c.stored.edits) h.ok.1) (ap (λ (c : CoordValue). c.book) h.ok.1) h.step h.sound
extends_snapshot past a w b (Err e) asked told h = same_after past a w b call.Snap (snapshot_answer (Err e)) asked told tt h.err h.step

pub plain_release : (r : Result (Unit {0}) CoordError) → IsPlain (release_answer r)
plain_release r = plain_answer (λ (u : Unit {0}). answer.Released) (λ x. tt) r

pub extends_release : (past : List WitnessedValue) (a : CoordValue) (w : WitnessedValue) (b : CoordValue) (id : SnapId) (r : Result (Unit {0}) CoordError) → w.exchange.call ≡ call.Release id → w.exchange.answer ≡ release_answer r → ReleasesSnapshot a id r b → Extends past a w b
extends_release past a w b id (Ok x) asked told h =
    plainly past a w b (call.Release id) (release_answer (Ok x)) asked told tt (ap (λ (c : CoordValue). installs_in c.stored.edits) h.ok.1) (ap (λ (c : CoordValue). c.book) h.ok.1) h.step (λ s shown. h.sound)
extends_release past a w b id (Err e) asked told h = same_after past a w b (call.Release id) (release_answer (Err e)) asked told tt h.err h.step

-- ---- answers that may not have been copied

-- the outcome; or out of memory, in place of one that is no refusal
abbrev pub IsOrMemory : {T : Type 0} → Result T CoordError → Result T CoordError → Type 0
IsOrMemory outcome result = (result ≡ outcome) ⊎ (IsOk outcome × (result ≡ Err OutOfMemory))

pub or_memory_gives : {T E : Type 0} (told : T → Answer) (outcome result : Result T CoordError) (copied : Result Answer E) (answered : Answer) → IfOk copied (λ a. a ≡ answer_of told outcome) → OnErr copied (IsOk outcome)
    → MatchResult copied (λ a. (result ≡ outcome) × (answered ≡ a)) (λ e. (result ≡ Err OutOfMemory) × (answered ≡ answer.Refused OutOfMemory))
    → (answered ≡ answer_of told result) × IsOrMemory outcome result
or_memory_gives told outcome result (Ok a) answered ok err h = (h.1 ∙ ok ∙ ap (answer_of told) (sym h.0), inl h.0)
or_memory_gives told outcome result (Err e) answered ok err h = (h.1 ∙ ap (answer_of told) (sym h.0), inr (err, h.0))

or_refused : {T : Type 0} (P : CoordError → Type 0) (r : Result T CoordError) → IfErr r P → IfErr r (λ e. (e ≡ OutOfMemory) ⊎ P e)
or_refused P (Ok x) h = tt
or_refused P (Err e) h = inr h

pub plain_get : (r : Result (Option (List ℕ)) CoordError) → IsPlain (get_answer r)
plain_get r = plain_answer (λ (value : Option (List ℕ)). answer.Got value) (λ x. tt) r

pub gets_of : (a b : CoordValue) (key : List ℕ) (at : Option SnapId) (outcome result : Result (Option (List ℕ)) CoordError) → Follows a (say.Get key at) (get_reply outcome) b → b ≡ a → IfErr outcome (GetRefuses a key at) → IsOrMemory outcome result → Gets a key at result b
gets_of a b key at outcome result step same refused (inl is) =
    subst (λ (r : Result (Option (List ℕ)) CoordError). Gets a key at r b) (sym is) (record { step = step; same = same; refused = or_refused (GetRefuses a key at) outcome refused })
gets_of a b key at outcome result step same refused (inr is) =
    subst (λ (r : Result (Option (List ℕ)) CoordError). Gets a key at r b) (sym is.1) (record { step = λ s shown. (s, (tt, refl), subst (λ (c : CoordValue). Shows c s) (sym same) shown); same = same; refused = inl refl })

pub extends_get : (past : List WitnessedValue) (a : CoordValue) (w : WitnessedValue) (b : CoordValue) (key : List ℕ) (at : Option SnapId) (r : Result (Option (List ℕ)) CoordError) → w.exchange.call ≡ call.Get key at → w.exchange.answer ≡ get_answer r → Gets a key at r b → Extends past a w b
extends_get past a w b key at (Ok x) asked told h = same_after past a w b (call.Get key at) (get_answer (Ok x)) asked told tt h.same h.step
extends_get past a w b key at (Err e) asked told h = same_after past a w b (call.Get key at) (get_answer (Err e)) asked told tt h.same h.step

pub plain_scan : {Z : Type 0} (r : Result (Vec (List ℕ × List ℕ) Z) CoordError) → IsPlain (scan_answer r)
plain_scan {Z} r = plain_answer (λ (pairs : Vec (List ℕ × List ℕ) Z). answer.Scanned pairs.items) (λ x. tt) r

pub scans_of : {Z : Type 0} (a b : CoordValue) (lo hi : List ℕ) (at : Option SnapId) (limit : ℕ) (outcome result : Result (Vec (List ℕ × List ℕ) Z) CoordError) → Follows a (say.Scan lo hi at limit) (scan_reply outcome) b → b ≡ a → IfErr outcome (ScanRefuses a at)
    → IsOrMemory outcome result → ScansKeys a lo hi at limit result b
scans_of {Z} a b lo hi at limit outcome result step same refused (inl is) =
    subst (λ (r : Result (Vec (List ℕ × List ℕ) Z) CoordError). ScansKeys a lo hi at limit r b) (sym is) (record { step = step; same = same; refused = or_refused (ScanRefuses a at) outcome refused })
scans_of {Z} a b lo hi at limit outcome result step same refused (inr is) =
    subst (λ (r : Result (Vec (List ℕ × List ℕ) Z) CoordError). ScansKeys a lo hi at limit r b) (sym is.1) (record { step = λ s shown. (s, (tt, refl), subst (λ (c : CoordValue). Shows c s) (sym same) shown); same = same; refused = inl refl })

pub extends_scan : {Z : Type 0} (past : List WitnessedValue) (a : CoordValue) (w : WitnessedValue) (b : CoordValue) (lo hi : List ℕ) (at : Option SnapId) (limit : ℕ) (r : Result (Vec (List ℕ × List ℕ) Z) CoordError)
    → w.exchange.call ≡ call.Scan (record { lo = lo; hi = hi; at = at; limit = limit }) → w.exchange.answer ≡ scan_answer r → ScansKeys a lo hi at limit r b → Extends past a w b
extends_scan past a w b lo hi at limit (Ok x) asked told h = same_after past a w b (call.Scan (record { lo = lo; hi = hi; at = at; limit = limit })) (scan_answer (Ok x)) asked told tt h.same h.step
extends_scan past a w b lo hi at limit (Err e) asked told h = same_after past a w b (call.Scan (record { lo = lo; hi = hi; at = at; limit = limit })) (answer.Refused e) asked told tt h.same h.step

pub plain_show : (r : Result ShownVersion CoordError) → IsPlain (show_answer r)
plain_show r = plain_answer (λ (v : ShownVersion). answer.Shown v) (λ x. tt) r

pub shows_of : (a : CoordValue) (outcome result : Result ShownVersion CoordError) → ShowsVersion a outcome a → IsOrMemory outcome result → ShowsVersion a result a
shows_of a outcome result h (inl is) = subst (λ (r : Result ShownVersion CoordError). ShowsVersion a r a) (sym is) h
shows_of a outcome result h (inr is) =
    subst (λ (r : Result ShownVersion CoordError). ShowsVersion a r a) (sym is.1) (record { step = λ s shown. (s, (tt, refl), shown); same = refl; number = tt; flushed = tt; files = tt; refused = refl })

pub extends_show : (past : List WitnessedValue) (a : CoordValue) (w : WitnessedValue) (b : CoordValue) (r : Result ShownVersion CoordError) → w.exchange.call ≡ call.Show → w.exchange.answer ≡ show_answer r → ShowsVersion a r b → Extends past a w b
extends_show past a w b (Ok x) asked told h = same_after past a w b call.Show (show_answer (Ok x)) asked told tt h.same h.step
extends_show past a w b (Err e) asked told h = same_after past a w b call.Show (show_answer (Err e)) asked told tt h.same h.step

-- ---- trims

pub plain_trim : (r : Result (ℕ × List ℕ) CoordError) → IsPlain (trim_answer r)
plain_trim r = plain_answer (λ (t : ℕ × List ℕ). answer.Trimmed t.0 t.1) (λ x. tt) r

same_or_gone : (needed : Bool) (new old : Option (List ℕ)) → new ≡ cond needed old None → (new ≡ old) ⊎ ((needed ≡ false) × (new ≡ None))
same_or_gone true new old h = inl h
same_or_gone false new old h = inr (refl, h)

-- the tables that are needed are left
left_needed : (old new : TableMap) (needed : ℕ → Bool) → new ≡ retain_keys old needed → MayHaveLost needed old new
left_needed old new needed is n = same_or_gone (needed n) (get new n) (get old n) (ap (λ (m : TableMap). get m n) is ∙ get-retain_keys old needed n (λ x tied. ap needed (sym (nat_cmp-IsAntisymmetric n x tied))))

-- what was trimmed stays so if its answer was not copied
trims_without_answer : (a b : CoordValue) (to : ℕ) (trimmed : ℕ × List ℕ) → Trims a to (Ok trimmed) b → Trims a to (Err OutOfMemory) b
trims_without_answer a b to trimmed h =
    let kept = ap (λ (c : CoordValue). c.stored.tables) h.ok.1 in
    record {
      step = λ s shown. let f = h.step s shown in (f.0, (tt, inl (f.1.0, f.1.1.1)), f.2);
      ok = tt;
      floor = tt;
      removed = tt;
      refused = (
        h.ok.0,
        record {
          rest = h.ok.1 ∙ (λ i. record (with_floor a to) { stored = record a.stored { tables = sym kept i }; failures = b.failures });
          lost = left_needed a.stored.tables b.stored.tables (is_live (version_set (with_floor a to))) kept;
          counted = h.failures;
        },
      );
      failures = h.failures;
      sound = h.sound;
    }

pub trims_of : (a b : CoordValue) (to : ℕ) (outcome result : Result (ℕ × List ℕ) CoordError) → Trims a to outcome b → IsOrMemory outcome result → Trims a to result b
trims_of a b to outcome result h (inl is) = subst (λ (r : Result (ℕ × List ℕ) CoordError). Trims a to r b) (sym is) h
trims_of a b to (Ok trimmed) result h (inr is) = subst (λ (r : Result (ℕ × List ℕ) CoordError). Trims a to r b) (sym is.1) (trims_without_answer a b to trimmed h)
trims_of a b to (Err e) result h (inr is) = absurd (false≢true is.0)

trim_leaves : (e : CoordError) (a b : CoordValue) (to : ℕ) → TrimRefuses a to e b → (b.stored.edits ≡ a.stored.edits) × (b.book ≡ a.book)
trim_leaves OutOfMemory a b to h = (ap (λ (c : CoordValue). c.stored.edits) h.1.rest, ap (λ (c : CoordValue). c.book) h.1.rest)
trim_leaves Device a b to h = (ap (λ (c : CoordValue). c.stored.edits) h.1.rest, ap (λ (c : CoordValue). c.book) h.1.rest)
trim_leaves e a b to h = (ap (λ (c : CoordValue). c.stored.edits) h.1, ap (λ (c : CoordValue). c.book) h.1)

pub extends_trim : (past : List WitnessedValue) (a : CoordValue) (w : WitnessedValue) (b : CoordValue) (to : ℕ) (r : Result (ℕ × List ℕ) CoordError) → w.exchange.call ≡ call.Trim to → w.exchange.answer ≡ trim_answer r → Trims a to r b → Extends past a w b
extends_trim past a w b to (Ok x) asked told h =
    plainly past a w b (call.Trim to) (trim_answer (Ok x)) asked told tt (ap (λ (c : CoordValue). installs_in c.stored.edits) h.ok.1) (ap (λ (c : CoordValue). c.book) h.ok.1) h.step (λ s shown. h.sound)
extends_trim past a w b to (Err e) asked told h =
    let left = trim_leaves e a b to h.refused in
    plainly past a w b (call.Trim to) (trim_answer (Err e)) asked told tt (ap installs_in left.0) left.1 h.step (λ s shown. h.sound)
