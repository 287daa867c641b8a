use Rattle.std.proofs.Common.{get_or, refl, sym, rules}
use Rattle.std.proofs.lemmas.List.Sorted.{answers_always}
use Rattle.lsm_key.proofs.Membership.{IsIn-at}
use Rattle.lsm_versions.specs.declared.retired.Retired.{Retired}
use Rattle.lsm_versions.proofs.RetiredByNumber.{search_found, search_missed}
use Rattle.lsm_versions.proofs.retired.retired_bytes.Goals as goal

pub returns-in-Ok-clause-bytes : goal.returns-in-Ok-clause-bytes
returns-in-Ok-clause-bytes c =
    let position = c.in-Ok.ensures.position (λ (r : Retired). r.number) (answers_always _ _ _ (λ f a r g called. search rules)) in
    sym (search_found c.args.retired.now c.args.number c.requires c.in-Ok.at c.index-retired-at.result c.in-Ok.ensures.bound position)

pub returns-in-Err-clause-bytes : goal.returns-in-Err-clause-bytes
returns-in-Err-clause-bytes c =
    let position = c.in-Err.ensures.position (λ (r : Retired). r.number) (answers_always _ _ _ (λ f a r g called. search rules)) in
    sym (search_missed c.args.retired.now c.args.number c.requires c.in-Err.field-0 c.in-Err.ensures.bound position)

pub returns-in-Ok-clause-listed : goal.returns-in-Ok-clause-listed
returns-in-Ok-clause-listed c =
    let retired = c.args.retired.now in
    (get_or retired c.in-Ok.at c.index-retired-at.result, IsIn-at retired c.in-Ok.at c.index-retired-at.result c.in-Ok.ensures.bound, refl)
