-- The runs that are written out.
use Rattle.std.proofs.Common.{◌≡◌, ◌≤◌, ℕ, List, [], ◌∷◌, Option, None, Some, refl, sym, ap, ◌∙◌, inl, inr, Bool, true, false, is_some, arith, length, get_or}
use Rattle.std.proofs.lemmas.Slice.Eq.{bytes_eq-Decides}
use Rattle.std.specs.Bool.{if◌then◌else◌}
use Rattle.std.specs.Option.{option_and_then, unwrap_or}
use Rattle.std.specs.Str.{bytes_eq}
use Rattle.lsm_key.specs.declared.op.Op.{Op}
use Rattle.lsm_key.specs.declared.op.Op.TheVariants.{Put, Delete}
use Rattle.lsm_coord.specs.declared.snapshot.SnapId.{SnapId}
use Rattle.lsm_key.specs.Writes.{answer, value_of}
use Rattle.lsm_coord.specs.Model.Range.{IsRange}
use Rattle.lsm_key.specs.Sets.{IsIn}
use Rattle.lsm_coord.specs.Model.State.{Place, Version, empty_version}
use Rattle.lsm_coord.specs.Model.Changes.{IsIndex}
use Rattle.lsm_coord.specs.Model.Examples.{a, b, z, one, two, none, FlushedWriteIsFound, RestartKeepsWrites, FreezeOutlivesRestart, RefusedWriteIsNotThere, LastOfABatchCounts, FrozenIsFlushedFirst, AbsentIsRefused, DownUntilRestarted, MergeKeepsAnswers, FollowerLiesBehind, EpochsFollow, CausesBesideTheState, FileGivenTwiceIsNoRun, NewerValueIsNoRun, LostWriteIsNoRun, ShortFlushIsNoRun, EmptyListingIsNoRun, LostAtRestartIsNoRun, SnapshotKeptIsNoRun, KeptAfterDeviceIsNoRun, UnforcedRefusalIsNoRun, SecondWriteLostIsNoRun, FileForgottenIsNoRun, FlushLosesWriteIsNoRun, InstallOfNothingIsNoRun, NumberUsedAgainIsNoRun, LeapIsNoRun, FallBackIsNoRun, NameGivenTwiceIsNoRun, FlushedWriteIsLostIsNoRun, FloorFallsIsNoRun, DownWhileUpIsNoRun, AnswerWhileDownIsNoRun}

pub flushed_write : FlushedWriteIsFound
flushed_write = (_, (_, (refl, (refl, refl, refl)), (_, (refl, (refl, refl, refl, refl)), (_, (refl, (refl, refl)), refl))))

pub restart_keeps : RestartKeepsWrites
restart_keeps = (_, (_, (refl, (refl, refl, refl)), (_, (refl, (refl, refl, refl, refl)), (_, (refl, (refl, refl)), (_, (refl, (refl, refl, refl)), refl)))))

pub freeze_outlives : FreezeOutlivesRestart
freeze_outlives = (_, (_, (refl, (refl, refl, refl)), (_, (refl, (refl, refl)), (_, (refl, (refl, refl, refl)), (_, (refl, (refl, refl, refl, refl)), (_, (refl, (refl, refl, refl, refl)), (_, (refl, (refl, refl, refl, refl)), (_, (refl, (refl, refl)), refl))))))))

pub refused_not_there : RefusedWriteIsNotThere
refused_not_there = (_, (_, (inr (refl, tt), refl), (_, (refl, (refl, refl)), (_, (refl, (refl, refl, refl)), (_, (inr (refl, tt), refl), (_, (refl, (refl, refl)), refl))))))

-- the batch of three writes
abbrev batch : List Op
batch = Put a one ∷ Put b two ∷ Delete a ∷ []

abbrev later : Option Op → Option Op → Option Op
later x y = if is_some x then x else y

-- what a read of it gives, by whether the key is a and whether it is b
abbrev found : Bool → Bool → Option Op
found is_a is_b = later (later (if is_a then Some (Delete a) else None) (if is_b then Some (Put b two) else None)) (if is_a then Some (Put a one) else None)

only_b : (is_a is_b : Bool) (value : List ℕ) → option_and_then value_of (found is_a is_b) ≡ Some value → (is_b ≡ true) × (two ≡ value)
only_b true is_b value h = absurd cc
only_b false true value h = (refl, ap (λ (o : Option (List ℕ)). unwrap_or o []) h)
only_b false false value h = absurd cc

scanned : IsRange (answer batch 3) none z 10 ((b, two) ∷ [])
scanned = record {
  few = omega arith;
  ascending = λ i j d x y. absurd (omega arith);
  right = λ p m. elim m [ inl e ↦ rw e (refl, refl) | inr no_more ↦ absurd no_more ];
  whole = λ key value w h. let x = only_b (bytes_eq a key) (bytes_eq b key) value h in inl (inl (sym (ap (λ (k : List ℕ). (k, two)) ((bytes_eq-Decides b key).0 x.0) ∙ ap (λ (v : List ℕ). (key, v)) x.1)));
}

pub last_counts : LastOfABatchCounts
last_counts = (_, (_, (refl, (refl, refl, refl)), (_, (refl, (refl, refl)), (_, (refl, (scanned, refl)), refl))))

pub frozen_first : FrozenIsFlushedFirst
frozen_first = (
  _,
  (
    _,
    (refl, (refl, refl, refl)),
    (
      _,
      (refl, (refl, refl)),
      (
        _,
        (inl refl, refl),
        (
          _,
          (refl, (refl, refl, refl)),
          (
            _,
            (refl, (refl, refl, refl, refl)),
            (
              _,
              (refl, (refl, refl, refl, refl)),
              (
                _,
                (inl refl, refl),
                (
                  _,
                  (inl refl, refl),
                  refl,
                ),
              ),
            ),
          ),
        ),
      ),
    ),
  ),
)

pub absent_refused : AbsentIsRefused
absent_refused = (
  _,
  (
    _,
    (refl, (refl, refl, refl)),
    (
      _,
      (refl, (refl, refl)),
      (
        _,
        (inl refl, refl),
        (
          _,
          (inl refl, refl),
          (
            _,
            (inr (refl, tt), refl),
            (
              _,
              (inr (refl, tt), refl),
              (
                _,
                (inl refl, refl),
                refl,
              ),
            ),
          ),
        ),
      ),
    ),
  ),
)

pub down_until_restarted : DownUntilRestarted
down_until_restarted = (
  _,
  (
    _,
    (refl, (refl, refl, refl)),
    (
      _,
      (refl, (refl, refl, refl, refl)),
      (
        _,
        (tt, refl),
        (
          _,
          (inl refl, refl),
          (
            _,
            (inl refl, refl),
            (
              _,
              (refl, (refl, refl, refl, refl)),
              (
                _,
                (refl, (refl, refl)),
                refl,
              ),
            ),
          ),
        ),
      ),
    ),
  ),
)

first : IsIndex 1
first = (omega arith, omega arith)

pub merge_keeps : MergeKeepsAnswers
merge_keeps = (_, (_, (refl, (refl, refl, refl)), (_, (refl, (refl, refl, refl, refl)), (_, (refl, (refl, refl, refl)), (_, (refl, (refl, refl, refl)), (_, (refl, (refl, refl, refl, refl)), (_, (refl, (first, refl)), (_, (refl, refl), (_, (refl, refl), (_, (refl, refl), (_, (refl, refl), (_, (refl, refl), (_, (refl, record { inputs = record { level = 0; file = 1 } ∷ record { level = 0; file = 2 } ∷ []; level = 1; up = refl; some_input = omega arith; of_current = λ p m. m; low = omega arith; high = omega arith; number_is = refl; files_are = refl; number_fits = omega arith; files_fit = omega arith; new_is = refl }), (_, (refl, (refl, refl, refl)), (_, (refl, (refl, refl)), (_, (refl, (refl, refl)), refl))))))))))))))))

pub lies_behind : FollowerLiesBehind
lies_behind = (_, (_, (refl, (refl, refl, refl)), (_, (refl, (refl, refl, refl, refl)), (_, (refl, (refl, refl, refl)), (_, (refl, (refl, refl, refl, refl)), (_, (refl, (first, refl)), (_, (refl, refl), (_, (refl, (1, 0, (first, refl), omega arith, omega arith, refl)), (_, (refl, (first, refl)), (_, (refl, refl), (_, (refl, refl), (_, (refl, refl), (_, (refl, (1, 1, (first, refl), omega arith, omega arith, refl)), (_, (refl, ((first, refl), (_, refl, refl), refl)), (_, (refl, ((first, refl), refl, refl)), (_, (refl, (refl, refl)), (_, (refl, ((first, refl), (_, refl, refl), refl)), (_, (refl, (first, refl)), (_, (refl, ((first, refl), (_, refl, refl), refl)), refl)))))))))))))))))))

pub epochs_follow : EpochsFollow
epochs_follow = (_, (_, (refl, (refl, refl, refl)), (_, (refl, (refl, refl, refl)), (_, (refl, (refl, refl, refl, refl)), (_, (refl, (first, refl)), (_, (refl, (first, refl)), (_, (refl, (first, refl)), (_, (refl, (refl, refl, refl, refl)), (_, (refl, (refl, refl, refl)), (_, (refl, (refl, refl, refl, refl)), refl))))))))))

pub beside_the_state : CausesBesideTheState
beside_the_state = (_, (_, (inl refl, refl), (_, (refl, (refl, refl, refl)), (_, (inr (refl, tt), refl), (_, (refl, (refl, refl, refl, refl)), (_, (refl, (first, refl)), (_, (inr (refl, tt), refl), (_, (refl, (refl, refl, refl, refl)), (_, (inr (refl, refl), refl), (_, (tt, inr refl), (_, (refl, (refl, refl)), refl)))))))))))

pub lost_write : LostWriteIsNoRun
lost_write (last, (s, (_, (_, _, e)), (_, (_, (value, _)), _))) = let v = rw e at value in absurd cc

pub short_flush : ShortFlushIsNoRun
short_flush (last, (s, (_, (_, _, e)), (_, (_, (_, seq, _, _)), _))) = let v = rw e at seq in absurd cc

pub empty_listing : EmptyListingIsNoRun
empty_listing (last, (s, (_, (_, _, e)), (t, (_, (_, _, _, f)), (_, (_, (_, lists, _)), _)))) = let v = rw (f, e) at lists in let w = ap (λ (o : Option Version). length (unwrap_or o empty_version).files) v in absurd cc

pub lost_at_restart : LostAtRestartIsNoRun
lost_at_restart (last, (s, (_, (_, _, e)), (t, (_, (_, _, seq, f)), _))) = let v = rw (f, e) at seq in absurd cc

pub snapshot_kept : SnapshotKeptIsNoRun
snapshot_kept (last, (s, _, (t, _, (u, (_, (_, _, _, g)), (_, (may, _), _))))) = let v = rw g at may in absurd cc

pub kept_after_device : KeptAfterDeviceIsNoRun
kept_after_device (last, (s, (_, e), (_, (_, (value, _)), _))) = let v = rw e at value in absurd cc

pub unforced_refusal : UnforcedRefusalIsNoRun
unforced_refusal (last, (s, (inl forced, _), _)) = absurd cc
unforced_refusal (last, (s, (inr other, _), _)) = absurd other.1

pub file_twice : FileGivenTwiceIsNoRun
file_twice (last, (s, (_, (_, _, e)), (t, (_, (_, _, _, f)), (u, (_, (_, _, g)), (_, (_, (_, _, file, _)), _))))) = let v = rw (g, f, e) at file in absurd cc

differ : Some two ≡ Some one → ⊥
differ h = let e : 50 ≡ 49 = ap (λ (o : Option (List ℕ)). get_or (unwrap_or o []) 0 0) h in omega (arith, e)

pub newer_value : NewerValueIsNoRun
newer_value (last, (s, (_, (_, _, e)), (t, (_, (_, _, _, f)), (u, (_, (_, _, g)), (v, (_, (_, _, _, h)), (w, (_, (_, _, _, _, _, k)), (_, (_, (_, (version, is, value), _)), _))))))) =
    let there = rw (k, h, g, f, e) at is in
    let flushed : 1 ≡ version.flushed = ap (λ (o : Option Version). (unwrap_or o empty_version).flushed) there in
    let found = rw (k, h, g, f, e, ← flushed) at value in
    differ found

pub second_write_lost : SecondWriteLostIsNoRun
second_write_lost (last, (s, (_, (_, _, e)), (_, (_, (value, _)), _))) = let v = rw e at value in absurd cc

pub file_forgotten : FileForgottenIsNoRun
file_forgotten (last, (s, (_, (_, _, e)), (t, (_, (_, _, _, f)), (u, (_, (_, _, g)), (v, (_, (_, _, _, h)), (_, (_, (_, lists, _)), _)))))) =
    let w = rw (h, g, f, e) at lists in
    let x = ap (λ (o : Option Version). length (unwrap_or o empty_version).files) w in
    absurd cc

pub flush_loses_write : FlushLosesWriteIsNoRun
flush_loses_write (last, (s, (_, (_, _, e)), (t, (_, (_, _, _, f)), (_, (_, (value, _)), _)))) = let v = rw (f, e) at value in absurd cc

pub install_of_nothing : InstallOfNothingIsNoRun
install_of_nothing (last, (s, (_, i), _)) = by i.inputs i.some_input i.of_current
  where
    by : (inputs : List Place) → 1 ≤ length inputs → ((p : Place) → IsIn p inputs → IsIn p []) → ⊥
    by [] some of = omega (arith, some)
    by (p ∷ inputs) some of = absurd (of p (inl refl))

pub number_used_again : NumberUsedAgainIsNoRun
number_used_again (last, (s, (_, (_, _, e)), (t, (_, (_, _, _, f)), (u, (_, i), _)))) = let v = rw (f, e) at i.files_are in absurd cc

pub leap : LeapIsNoRun
leap (last, (s, (_, (_, _, _, _, within, _)), _)) = omega (arith, within)

pub fall_back : FallBackIsNoRun
fall_back (last, (s, (_, (_, _, _, later, _, _)), _)) = omega (arith, later)

pub name_twice : NameGivenTwiceIsNoRun
name_twice (last, (s, (_, (_, _, e)), (_, (_, (id, _, _)), _))) =
    let v = rw e at id in
    let number : 1 ≡ 2 = ap (λ (x : SnapId). x.number) v in
    omega (arith, number)

pub flushed_write_lost : FlushedWriteIsLostIsNoRun
flushed_write_lost (last, (s, (_, (_, _, e)), (t, (_, (_, _, _, f)), (u, (_, (_, _, seq, g)), _)))) = let v = rw (g, f, e) at seq in absurd cc

pub floor_falls : FloorFallsIsNoRun
floor_falls (last, (s, (_, (_, _, _, e)), (_, (_, (floor, _)), _))) = let v = rw e at floor in absurd cc

pub down_while_up : DownWhileUpIsNoRun
down_while_up (last, (s, (inl forced, _), _)) = absurd cc
down_while_up (last, (s, (inr other, _), _)) = absurd other.1

pub answer_while_down : AnswerWhileDownIsNoRun
answer_while_down (last, (s, (_, e), (_, (forced, _), _))) = let v = rw e at forced in absurd cc
