-- The tables of a job, read one after the other.
use Rattle.std.proofs.Common.{◌≡◌, ◌∙◌, ℕ, ◌<◌, ◌^◌, List, [], ◌∷◌, ◌++◌, length, drop, get_or, append_assoc, sym, ap, subst, arith}
use Rattle.std.proofs.lemmas.Grind.{flat_map-append}
use Rattle.std.proofs.lemmas.List.{append-nil, drop_more}
use Rattle.lsm_key.proofs.FieldLaws.{ok_is}
use Rattle.lsm_table.specs.Tables.{Opened}
use Rattle.lsm_edit.specs.declared.file.FileMeta.{FileMeta}
use Rattle.lsm_edit.specs.declared.format.FormatFault.{FormatFault}
use Rattle.lsm_edit.specs.Served.{IsAsRecorded}
use Rattle.lsm_msg.specs.Messages.{sized}
use Rattle.luddimpa.specs.Elements.{element_at}
use Rattle.luddimpa.specs.JobMerges.{BeginsWrong, StandsAsRecorded, sized_tables}
use Rattle.luddimpa.proofs.ElementReading.{element_again}

sized_push : (ts : List Opened) (t : Opened) (more : List ℕ) → sized_tables (ts ++ t ∷ []) ++ more ≡ sized_tables ts ++ (sized t.bytes ++ more)
sized_push ts t more =
    ap (λ (l : List ℕ). l ++ more) (flat_map-append (λ (u : Opened). sized u.bytes) ts (t ∷ []) ∙ ap (λ (l : List ℕ). sized_tables ts ++ l) (append-nil (sized t.bytes)))
    ∙ append_assoc (sized_tables ts) (sized t.bytes) more

pub parts_push : (text : List ℕ) (ts : List Opened) (t : Opened) (rest more : List ℕ) → text ≡ sized_tables ts ++ rest → rest ≡ sized t.bytes ++ more → text ≡ sized_tables (ts ++ t ∷ []) ++ more
parts_push text ts t rest more before here = before ∙ ap (λ (l : List ℕ). sized_tables ts ++ l) here ∙ sym (sized_push ts t more)

-- the table of a file is short enough for its length
recorded_short : (f : FileMeta) (t : Opened) → IsAsRecorded f t → length t.bytes < 2 ^ 32
recorded_short f t is = let small = is.table.small in omega (arith, small)

-- two byte strings of which both begin here are the same
one_element : (a b m n : List ℕ) → length a < 2 ^ 32 → length b < 2 ^ 32 → sized a ++ m ≡ sized b ++ n → b ≡ a
one_element a b m n short small same =
    ap (λ (x : List ℕ × List ℕ). x.0) (ok_is {F = FormatFault} (b, n) (a, m) (sym (element_again b n small) ∙ ap element_at (sym same) ∙ element_again a m short))

-- no byte string begins here, so no table does
pub none_stands : (f : FileMeta) (rest : List ℕ) → ((text more : List ℕ) → length text < 2 ^ 32 → rest ≡ sized text ++ more → ⊥) → StandsAsRecorded f rest → ⊥
none_stands f rest none s = none s.0.bytes s.1 (recorded_short f s.0 s.2) s.3

-- the byte string that begins here is no table as the record says, so none stands here
pub other_stands : (f : FileMeta) (rest text more : List ℕ) → rest ≡ sized text ++ more → length text < 2 ^ 32 → ((t : Opened) → t.bytes ≡ text → IsAsRecorded f t → ⊥) → StandsAsRecorded f rest → ⊥
other_stands f rest text more here short none s = none s.0 (one_element text s.0.bytes more s.1 short (recorded_short f s.0 s.2) (sym here ∙ s.3)) s.2

-- the file at a place is the first of those from there on
pub wrong_here : (files : List FileMeta) (at : ℕ) (f : FileMeta) (rest : List ℕ) → at < length files → f ≡ get_or files at f → (StandsAsRecorded f rest → ⊥) → BeginsWrong (drop at files) rest
wrong_here files at f rest lt is none =
    subst (λ (fs : List FileMeta). BeginsWrong fs rest) (sym (drop_more files at f lt)) (subst (λ (g : FileMeta). StandsAsRecorded g rest → ⊥) is none)
