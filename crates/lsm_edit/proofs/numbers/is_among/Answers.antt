use Rattle.std.proofs.Common.{ℕ, sym, ◌∙◌}
use Rattle.std.proofs.lemmas.Bool.{eq-eqb, eqb-true, false_from_ne_true}
use Rattle.std.specs.Prelude.{nat_eq}
use Rattle.lsm_edit.proofs.NumberSearch.{searched}
use Rattle.lsm_edit.proofs.numbers.is_among.Goals as goal

pub returns : goal.returns
returns c =
    let n = c.args.number in
    let found = c.binary_search.ensures in
    c.is_ok.ensures.value ∙ searched (λ (x : ℕ). x) n (λ x. nat_eq n x) (λ x e. eq-eqb n x (sym e)) (λ x differ. false_from_ne_true (nat_eq n x) (λ h. differ (sym (eqb-true n x h)))) c.args.numbers.now c.binary_search.result c.requires found.bound found.position
