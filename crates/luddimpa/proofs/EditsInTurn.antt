-- Edits that are taken from a list and applied, one after the other.
use Rattle.std.proofs.Common.{◌≡◌, ◌∙◌, ℕ, ◌<◌, ◌^◌, List, [], ◌∷◌, ◌++◌, length, All, None, Result, Ok, Err, IfErr, append_assoc, sym, ap, subst, arith}
use Rattle.std.specs.List.{flat_map}
use Rattle.std.proofs.lemmas.Grind.{flat_map-append}
use Rattle.std.proofs.lemmas.List.{append-nil}
use Rattle.std.proofs.lemmas.List.Elements.{All-append, All-cons}
use Rattle.lsm_edit.specs.declared.edit.Edit.{Edit}
use Rattle.lsm_edit.specs.Edit.{IsSpelledEdit}
use Rattle.lsm_edit.specs.Version.{VersionValue, after_apply, apply_fault, first_version}
use Rattle.lsm_edit.proofs.PushedEdits.{Apply-push, folded-push}
use Rattle.lsm_msg.specs.Messages.{sized}
use Rattle.luddimpa.specs.declared.checked_edits.EditsFault.{EditsFault}
use Rattle.luddimpa.specs.declared.checked_edits.EditsFault.TheVariants.{CutShort, NotAnEdit, DoesNotApply, OutOfMemory}
use Rattle.luddimpa.specs.EditChecks.{AppliesOne, RefusesEdit, IsSizedEdit, Replays, StopsAt, sized_edit}

none_yet : All IsSizedEdit []
none_yet k d lt = absurd (omega (arith, lt))

-- no edit has been taken
pub begun : (bytes : List ℕ) (v : VersionValue) (rest : List ℕ) → v ≡ first_version → rest ≡ bytes → Replays bytes v rest
begun bytes v rest first whole = record { edits = []; sound = none_yet; parts = sym whole; apply = tt; makes = first }

-- one edit more
pub one_more : (bytes : List ℕ) (v : VersionValue) (rest : List ℕ) (next : VersionValue) (more : List ℕ) → Replays bytes v rest → AppliesOne v rest next more → Replays bytes next more
one_more bytes v rest next more so_far here = record {
  edits = so_far.edits ++ here.one ∷ [];
  sound = All-append IsSizedEdit so_far.edits (here.one ∷ []) so_far.sound (All-cons IsSizedEdit here.one [] here.sound none_yet);
  parts =
      so_far.parts
      ∙ ap (λ (l : List ℕ). flat_map sized_edit so_far.edits ++ l) here.parts
      ∙ sym (append_assoc (flat_map sized_edit so_far.edits) (sized_edit here.one) more)
      ∙ ap (λ (l : List ℕ). l ++ more) (sym (flat_map-append sized_edit so_far.edits (here.one ∷ []) ∙ ap (λ (l : List ℕ). flat_map sized_edit so_far.edits ++ l) (append-nil (sized_edit here.one))));
  apply = Apply-push first_version so_far.edits here.one so_far.apply (subst (λ (w : VersionValue). apply_fault w here.one ≡ None) so_far.makes here.fits);
  makes = here.makes ∙ ap (λ (w : VersionValue). after_apply w here.one) so_far.makes ∙ sym (folded-push first_version so_far.edits here.one);
}

-- ---- where a list stops

-- an edit at the front that is refused is where it stops
refused_stops : (v : VersionValue) (rest text more : List ℕ) (e : Edit) → rest ≡ sized text ++ more → length text < 2 ^ 32 → IsSpelledEdit text e → (fault : EditsFault) → RefusesEdit v e fault → StopsAt v rest fault
refused_stops v rest text more e here small one CutShort h = absurd h
refused_stops v rest text more e here small one (NotAnEdit fault) h = absurd h
refused_stops v rest text more e here small one (DoesNotApply why) h = (
  e,
  more,
  (one.sound, subst (λ (t : List ℕ). length t < 2 ^ 32) one.spelled small),
  here ∙ ap (λ (t : List ℕ). sized t ++ more) one.spelled,
  h,
)
refused_stops v rest text more e here small one OutOfMemory h = tt

pub refusal_stops : {X : Type 0} (v : VersionValue) (rest text more : List ℕ) (e : Edit) → rest ≡ sized text ++ more → length text < 2 ^ 32 → IsSpelledEdit text e → (r : Result X EditsFault) → IfErr r (RefusesEdit v e) → IfErr r (StopsAt v rest)
refusal_stops v rest text more e here small one (Ok x) h = h
refusal_stops v rest text more e here small one (Err fault) h = refused_stops v rest text more e here small one fault h
