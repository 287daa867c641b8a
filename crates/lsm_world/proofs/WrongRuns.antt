-- Replies that no run of a new store has.
use Rattle.std.proofs.Common.{◌≡◌, ℕ, ◌≤◌, List, [], ◌∷◌, ◌++◌, Option, None, Some, refl, sym, ap, subst, ◌∙◌, inl, inr, arith, length, get_or}
use Rattle.std.specs.Option.{unwrap_or}
use Rattle.lsm_key.specs.Sets.{IsIn}
use Rattle.lsm_key.specs.declared.op.Op.TheVariants.{Put}
use Rattle.lsm_key.specs.Writes.{answer}
use Rattle.lsm_coord.specs.Model.Changes.{after_stop, at_level, read_at, without_inputs}
use Rattle.lsm_coord.specs.Model.Event as say
use Rattle.lsm_coord.specs.Model.Examples.{a, one, two, first_snapshot}
use Rattle.lsm_coord.specs.Model.Rules.{refusal}
use Rattle.lsm_coord.specs.Model.State.{Place, State, Version, empty_version, first_state}
use Rattle.lsm_world.specs.WrongWorlds.{DeadSnapshotIsNoRun, EpochAgainIsNoRun, MergedAgainIsNoRun, SequenceGivenTwiceIsNoRun, SkippedWriteIsNoRun, TwoListingsAreNoRun, VersionNotHeldIsNoRun, WriteLostAtRefusedRestartIsNotNewest}

pub version_not_held : VersionNotHeldIsNoRun
version_not_held (last, (s, (_, (_, _, e)), (t, (_, (_, _, _, f)), (_, (_, ((_, at), _, _)), _)))) = let number = rw (f, e) at at in absurd cc

differ : Some one ≡ Some two → ⊥
differ h = let e : 49 ≡ 50 = ap (λ (o : Option (List ℕ)). get_or (unwrap_or o []) 0 0) h in omega (arith, e)

pub skipped_write : SkippedWriteIsNoRun
skipped_write (last, (s, (_, (_, _, e)), (t, (_, (_, _, _, f)), (u, (_, (_, _, g)), (v, (_, (_, _, _, h)), (w, (_, (_, _, _, _, _, k)), (_, (_, (_, (version, is, value), _)), _))))))) =
    let there = rw (k, h, g, f, e) at is in
    let flushed : 2 ≡ version.flushed = ap (λ (o : Option Version). (unwrap_or o empty_version).flushed) there in
    let found = rw (k, h, g, f, e, ← flushed) at value in
    differ found

pub sequence_twice : SequenceGivenTwiceIsNoRun
sequence_twice (last, (s, (_, (_, _, e)), (t, (_, (_, _, _, f)), (u, (_, (_, _, _, g)), (_, (_, (first, _, _)), _))))) = let v = rw (g, f, e) at first in absurd cc

pub epoch_again : EpochAgainIsNoRun
epoch_again (last, (s, (_, (_, _, _, e)), (_, (_, (epoch, _, _, _)), _))) = let v = rw e at epoch in absurd cc

pub two_listings : TwoListingsAreNoRun
two_listings (last, (s, (_, (_, _, e)), (t, (_, (_, _, _, f)), (u, (_, (_, _, _, _, _, g)), (v, (_, (_, _, h)), (_, (_, (_, lists, _)), _)))))) =
    let w = rw (h, g, f, e) at lists in
    let x = ap (λ (o : Option Version). length (unwrap_or o empty_version).files) w in
    absurd cc

pub dead_snapshot : DeadSnapshotIsNoRun
dead_snapshot (last, (s, (_, (_, _, e)), (t, (_, (_, _, _, f)), (_, (forced, _), _)))) = let v = subst (λ (x : State). refusal x (say.Get a (Some first_snapshot)) ≡ None) f forced in absurd cc

-- ---- a write that is lost

-- the write was accepted
abbrev written : State
written = record first_state { writes = Put a one ∷ [] }

refused_when_down : (s : State) → s ≡ after_stop written → refusal s (say.Get a None) ≡ None → ⊥
refused_when_down s is forced = let v = subst (λ (x : State). refusal x (say.Get a None) ≡ None) is forced in absurd cc

there_when_up : (s : State) → s ≡ written → None ≡ answer s.writes (read_at s None) a → ⊥
there_when_up s is value = let v = subst (λ (x : State). None ≡ answer x.writes (read_at x None) a) is value in absurd cc

-- the state before the get is one of the two that the refused restart may leave
pub write_lost : WriteLostAtRefusedRestartIsNotNewest
write_lost newest =
    let found = newest 2 a None None refl in
    let run = found.1.0 in
    elim run.2.1.1 [
      | inl stopped ↦ refused_when_down found.0 (run.2.2 ∙ stopped ∙ ap after_stop run.1.1.2) found.1.1.1.0
      | inr stays ↦ there_when_up found.0 (run.2.2 ∙ stays ∙ run.1.1.2) found.2
    ]

-- ---- merged again

-- the file of the first merge
abbrev merged : Place
merged = record { level = 1; file = 2 }

none_left : (inputs : List Place) → 1 ≤ length inputs → ((p : Place) → IsIn p inputs → IsIn p (merged ∷ [])) → without_inputs inputs (merged ∷ []) ≡ []
none_left [] some of = absurd (omega (arith, some))
none_left (p ∷ inputs) some of = elim (of p (inl refl)) [ inl same ↦ rw same refl | inr no_more ↦ absurd no_more ]

-- the files of the version, if it is there
abbrev files_at : Option Version → List Place
files_at found = (unwrap_or found empty_version).files

pub merged_again : MergedAgainIsNoRun
merged_again (last, (s, (_, (_, _, e)), (t, (_, (_, _, _, f)), (u, (_, first), (v, (_, (_, lists, h)), (w, (_, second), (_, (_, (_, both, _)), _))))))) =
    let u_is = rw (f, e) at first.new_is in
    let one_file = ap files_at (rw u_is at lists) in
    let inputs : (p : Place) → IsIn p second.inputs → IsIn p (merged ∷ []) = λ p m. let x = rw (h, u_is) at second.of_current p m in subst (λ (files : List Place). IsIn p files) one_file x in
    let w_is = rw (h, u_is) at second.new_is in
    let listed = ap files_at (rw w_is at both) in
    let left = none_left second.inputs second.some_input inputs in
    let x = rw one_file at listed in
    let y = rw left at x in
    let z = ap (λ (files : List Place). length files) y in
    absurd cc
