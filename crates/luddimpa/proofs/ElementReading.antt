-- What is read as an element is one, and what is one is read.
use Rattle.std.proofs.Common.{◌≡◌, ℕ, ◌^◌, ◌<◌, List, ◌++◌, length, Ok, Err, refl, sym, ap, ◌∙◌, append_assoc, arith}
use Rattle.std.specs.Int.{w32, to_be_bytes}
use Rattle.lsm_key.specs.Reading.{number_at, piece_at}
use Rattle.lsm_key.proofs.FieldLaws.{IsBytes, Takes, Takes-then, bind_ok, number_again, number_takes, piece_again, piece_takes, wide32}
use Rattle.lsm_edit.specs.declared.format.FormatFault.{FormatFault}
use Rattle.lsm_edit.specs.declared.format.FormatFault.TheVariants.{Truncated}
use Rattle.lsm_msg.specs.Messages.{sized}
use Rattle.luddimpa.specs.Elements.{BeginsNone, element_at}
use Rattle.luddimpa.proofs.NoTable.{ok-err}

pub element_takes : (bytes text more : List ℕ) → IsBytes bytes → element_at bytes ≡ Ok (text, more) → (bytes ≡ sized text ++ more) × (length text < 2 ^ 32)
unfolding element_at
element_takes bytes text more fits e =
    let a = bind_ok (number_at Truncated w32 bytes) (λ n. piece_at Truncated n.0 n.1) (text, more) e in
    let t = number_takes Truncated w32 (2 ^ 32) wide32 bytes a.0.0 a.0.1 fits a.1 in
    let p = piece_takes Truncated a.0.0 a.0.1 text more t.0.rest_fits a.2 in
    let both : Takes bytes (to_be_bytes w32 a.0.0 ++ text) more = Takes-then bytes (to_be_bytes w32 a.0.0) a.0.1 text more t.0 p.0 in
    let small = t.1 in
    let len = p.1 in
    (both.parts ∙ ap (λ (n : ℕ). (to_be_bytes w32 n ++ text) ++ more) (sym p.1), omega (arith, small, len))

pub element_again : (text more : List ℕ) → length text < 2 ^ 32 → element_at (sized text ++ more) ≡ Ok (text, more)
unfolding element_at
element_again text more small =
    ap element_at (append_assoc (to_be_bytes w32 (length text)) text more)
    ∙ rw (number_again Truncated w32 (2 ^ 32) wide32 (length text) (text ++ more) small, piece_again Truncated (length text) text more refl) refl

pub none_begins : (rest : List ℕ) (fault : FormatFault) → element_at rest ≡ Err fault → BeginsNone rest
none_begins rest fault e text more small is = ok-err (text, more) fault (sym (element_again text more small) ∙ ap element_at (sym is) ∙ e)
