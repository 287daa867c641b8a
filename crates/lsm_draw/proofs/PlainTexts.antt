-- No escaped text has a byte of markup's own.
use Rattle.std.proofs.Common.{◌≡◌, ◌∙◌, ℕ, List, [], ◌∷◌, ◌++◌, Bool, true, false, refl, rules, ◌==◌, ◌&&◌, arith}
use Rattle.std.proofs.lemmas.Grind.{common_steps}
use Rattle.std.specs.List.{flat_map, list_all}
use Rattle.std.proofs.lemmas.List.Folds.{list_all-append}
use Rattle.lsm_draw.specs.Texts.{markup_of, escaped, is_plain}

pub markup_of_is_plain : (byte : ℕ) → list_all is_plain (markup_of byte) ≡ true
markup_of_is_plain byte = grind (arith, common_steps)

pub escaped_is_plain : (text : List ℕ) → list_all is_plain (escaped text) ≡ true
escaped_is_plain [] = refl
escaped_is_plain (byte ∷ text) = search (rules, list_all-append is_plain (markup_of byte) (escaped text), markup_of_is_plain byte, escaped_is_plain text)
