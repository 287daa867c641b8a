use Rattle.std.proofs.Common.{Option, Ok, IfNone, subst}
use Rattle.lsm_resp.specs.declared.bulk.Bulks.{Bulks}
use Rattle.lsm_resp.specs.Outcomes.{IsPartOfRequest}
use Rattle.lsm_resp.specs.Pieces.{FindsArray}
use Rattle.lsm_resp.specs.Wire.{request_bytes}
use Rattle.lsm_resp.proofs.Bulks.{same_error}
use Rattle.lsm_resp.proofs.request.parse_request.Goals as goal

pub returns-in-Ok-Some-clause-found : goal.returns-in-Ok-Some-clause-found
returns-in-Ok-Some-clause-found c words are ahead =
    let finds = subst (λ (o : Option Bulks). FindsArray c.args.input.now (Ok o)) c.in-Ok-Some.field-0-is c.in-Ok-Some.ensures.found in
    finds words are ahead

pub returns-in-Ok-None-clause-found : goal.returns-in-Ok-None-clause-found
returns-in-Ok-None-clause-found c words are ahead =
    let finds = subst (λ (o : Option Bulks). FindsArray c.args.input.now (Ok o)) c.in-Ok-None.field-0-is c.in-Ok-None.ensures.found in
    finds words are ahead

pub returns-in-Err-clause-found : goal.returns-in-Err-clause-found
returns-in-Err-clause-found c words are ahead = same_error c.args.input.now (request_bytes words) words c.in-Err.why (c.in-Err.ensures.found words are ahead)

pub returns-in-Ok-None-clause-partial : goal.returns-in-Ok-None-clause-partial
returns-in-Ok-None-clause-partial c = subst (λ (o : Option Bulks). IfNone o (IsPartOfRequest c.args.input.now)) c.in-Ok-None.field-0-is c.in-Ok-None.ensures.partial
