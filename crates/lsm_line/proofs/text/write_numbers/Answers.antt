use Rattle.std.proofs.Common.{◌≡◌, ◌∙◌, ◌++◌, ◌∷◌, List, ℕ, ap, sym, append_assoc, map}
use Rattle.std.specs.List.{flat_map, join_with_byte}
use Rattle.std.specs.Fmt.{decimal}
use Rattle.lsm_line.proofs.JoinedText.{after_comma, join-cons, flat_map-end}
use Rattle.lsm_line.proofs.text.write_numbers.Goals as goal

pub returns : goal.returns
returns c =
    let first = c.in-Some.first.now in
    let others = c.in-Some.others.now in
    let parts : c.args.numbers.now ≡ first ∷ others = c.in-Some.ensures.cases.0 in
    let end = flat_map-end after_comma others c.loop-number.number-index (c.write_number.new.out.items ++ flat_map after_comma others) c.loop-number.out.items c.loop-number-test.false c.loop-number.invariant in
    sym end ∙ ap (λ (t : List ℕ). t ++ flat_map after_comma others) (c.in_ok-write_number.ensures ∙ ap (λ (n : ℕ). c.args.out.now.items ++ decimal n) c.number.ensures) ∙ append_assoc c.args.out.now.items (decimal first) (flat_map after_comma others) ∙ ap (λ (t : List ℕ). c.args.out.now.items ++ t) (sym (join-cons first others) ∙ ap (λ (ns : List ℕ). join_with_byte 44 (map decimal ns)) (sym parts))
