-- One edit more of a list, and one table more of those of files.
use Rattle.std.proofs.Common.{◌≡◌, List, [], ◌∷◌, ◌++◌, None, refl}
use Rattle.lsm_table.specs.Tables.{Opened}
use Rattle.lsm_edit.specs.declared.edit.Edit.{Edit}
use Rattle.lsm_edit.specs.declared.file.FileMeta.{FileMeta}
use Rattle.lsm_edit.specs.Edits.{Apply, after_edits}
use Rattle.lsm_edit.specs.Served.{AreAsRecorded, IsAsRecorded}
use Rattle.lsm_edit.specs.Version.{VersionValue, apply_fault, after_apply}

pub Apply-push : (v : VersionValue) (edits : List Edit) (e : Edit) → Apply v edits → apply_fault (after_edits v edits) e ≡ None → Apply v (edits ++ e ∷ [])
Apply-push v [] e h one = (one, tt)
Apply-push v (x ∷ edits) e h one = (h.0, Apply-push (after_apply v x) edits e h.1 one)

pub folded-push : (v : VersionValue) (edits : List Edit) (e : Edit) → after_edits v (edits ++ e ∷ []) ≡ after_apply (after_edits v edits) e
folded-push v [] e = refl
folded-push v (x ∷ edits) e = folded-push (after_apply v x) edits e

pub recorded_push : (fs : List FileMeta) (ts : List Opened) (f : FileMeta) (t : Opened) → AreAsRecorded fs ts → IsAsRecorded f t → AreAsRecorded (fs ++ f ∷ []) (ts ++ t ∷ [])
recorded_push [] [] f t are one = (one, tt)
recorded_push [] (u ∷ ts) f t are one = absurd are
recorded_push (g ∷ fs) [] f t are one = absurd are
recorded_push (g ∷ fs) (u ∷ ts) f t are one = (are.0, recorded_push fs ts f t are.1 one)
