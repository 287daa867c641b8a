-- The line of an answer (the store's own output format, one line an answer).
use Rattle.std.specs.Prelude.{ℕ, List, ◌++◌, codes, map}
use Rattle.std.specs.Fmt.{decimal}
use Rattle.lsm_coord.specs.Contract.Replies.{refusal_of}
use Rattle.lsm_coord.specs.Contract.Shows.{place_of}
use Rattle.lsm_coord.specs.Model.Rules.{key_refusal}
use Rattle.lsm_line.specs.Lines.{got_text, name_of, released_text, scanned_text, shown_text, snapped_text, wrote_text}
use Rattle.lsm_store.specs.declared.error.StoreError.{StoreError}
use Rattle.lsm_store.specs.declared.error.StoreError.TheVariants as store
use Rattle.lsm_commands.specs.declared.session.answer.Answer.{Answer}
use Rattle.lsm_commands.specs.declared.session.answer.Answer.TheVariants.{Wrote, Stored, Snapped, Released, Got, Scanned, Shown, Refused}

-- the line of a refused call, without its end
abbrev pub refusal_text : StoreError → List ℕ
refusal_text (store.Key why) = codes "refused " ++ name_of (key_refusal why)
refusal_text (store.Coord why) = codes "refused " ++ name_of (refusal_of why)

-- the line of an answer, without its end
abbrev pub answer_text : Answer → List ℕ
answer_text (Wrote first last) = wrote_text first last
answer_text (Stored last) = codes "flushed " ++ decimal last
answer_text (Snapped id last) = snapped_text id last
answer_text (Released id) = released_text id
answer_text (Got value) = got_text value
answer_text (Scanned pairs) = scanned_text pairs
answer_text (Shown version) = shown_text version.number version.flushed (map place_of version.files)
answer_text (Refused why) = refusal_text why
