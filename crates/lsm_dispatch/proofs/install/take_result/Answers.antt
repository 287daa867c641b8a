use Rattle.std.proofs.Common.{ℕ, true, [], ◌∷◌, Option, Some, None, Ok, refl, subst}
use Rattle.std.proofs.lemmas.Result.{err_from_is_err_and}
use Rattle.lsm_dispatch.specs.Dispatching.{Settles}
use Rattle.lsm_dispatch.proofs.SettledResults.{ended_same_book, installed_passes, refused_ok, took, trim_refuses}
use Rattle.lsm_dispatch.proofs.install.take_result.Goals as goal

pub returns-in_err-trim-in-Ok-Some-clause-refused : goal.returns-in_err-trim-in-Ok-Some-clause-refused
returns-in_err-trim-in-Ok-Some-clause-refused g c =
    let old = c.args.coord.now in
    let mid = c.install.new.coord in
    let number = c.in-Ok-Some.number in
    let settles : Settles old c.args.claim c.args.made.now (Ok (Some number)) mid = subst (λ (o : Option ℕ). Settles old c.args.claim c.args.made.now (Ok o) mid) c.in-Ok-Some.field-0-is c.in-Ok-Some.ensures.settles in
    let p = err_from_is_err_and c.from_residual.result c.from_residual.ensures.1 in
    rw (p.1, p.2) (trim_refuses old mid c.trim.new.coord c.args.claim c.args.made.now number c.in_err-trim-in-Ok-Some.field-0.0 settles c.in_err-trim-in-Ok-Some.ensures.refused)

pub returns-in_err-trim-in-Ok-Some-clause-ended : goal.returns-in_err-trim-in-Ok-Some-clause-ended
returns-in_err-trim-in-Ok-Some-clause-ended g c = ended_same_book c.args.coord.now.book c.install.new.coord.book c.trim.new.coord.book (c.args.claim.id ∷ []) c.in-Ok-Some.ensures.ended c.trim.ensures.book

pub returns-in_err-trim-in-Ok-Some-clause-passes : goal.returns-in_err-trim-in-Ok-Some-clause-passes
returns-in_err-trim-in-Ok-Some-clause-passes g c =
    let old = c.args.coord.now in
    let mid = c.install.new.coord in
    let number = c.in-Ok-Some.number in
    let settles : Settles old c.args.claim c.args.made.now (Ok (Some number)) mid = subst (λ (o : Option ℕ). Settles old c.args.claim c.args.made.now (Ok o) mid) c.in-Ok-Some.field-0-is c.in-Ok-Some.ensures.settles in
    installed_passes old mid c.trim.new.coord c.args.claim c.args.made.now number settles c.in-Ok-Some.ensures.merged c.trim.ensures.keeps

pub returns-in_ok-trim-in-Ok-Some-clause-ok : goal.returns-in_ok-trim-in-Ok-Some-clause-ok
returns-in_ok-trim-in-Ok-Some-clause-ok g c =
    let old = c.args.coord.now in
    let mid = c.install.new.coord in
    let number = c.in-Ok-Some.number in
    let settles : Settles old c.args.claim c.args.made.now (Ok (Some number)) mid = subst (λ (o : Option ℕ). Settles old c.args.claim c.args.made.now (Ok o) mid) c.in-Ok-Some.field-0-is c.in-Ok-Some.ensures.settles in
    took old mid c.trim.new.coord c.args.claim c.args.made.now (Ok (Some number)) true settles c.in_ok-trim-in-Ok-Some.ensures.trims refl

pub returns-in_ok-trim-in-Ok-Some-clause-ended : goal.returns-in_ok-trim-in-Ok-Some-clause-ended
returns-in_ok-trim-in-Ok-Some-clause-ended g c = ended_same_book c.args.coord.now.book c.install.new.coord.book c.trim.new.coord.book (c.args.claim.id ∷ []) c.in-Ok-Some.ensures.ended c.trim.ensures.book

pub returns-in_ok-trim-in-Ok-Some-clause-passes : goal.returns-in_ok-trim-in-Ok-Some-clause-passes
returns-in_ok-trim-in-Ok-Some-clause-passes g c =
    let old = c.args.coord.now in
    let mid = c.install.new.coord in
    let number = c.in-Ok-Some.number in
    let settles : Settles old c.args.claim c.args.made.now (Ok (Some number)) mid = subst (λ (o : Option ℕ). Settles old c.args.claim c.args.made.now (Ok o) mid) c.in-Ok-Some.field-0-is c.in-Ok-Some.ensures.settles in
    installed_passes old mid c.trim.new.coord c.args.claim c.args.made.now number settles c.in-Ok-Some.ensures.merged c.trim.ensures.keeps

pub returns-in-Ok-None-clause-ok : goal.returns-in-Ok-None-clause-ok
returns-in-Ok-None-clause-ok g c =
    let old = c.args.coord.now in
    let mid = c.install.new.coord in
    let settles : Settles old c.args.claim c.args.made.now (Ok None) mid = subst (λ (o : Option ℕ). Settles old c.args.claim c.args.made.now (Ok o) mid) c.in-Ok-None.field-0-is c.in-Ok-None.ensures.settles in
    took old mid mid c.args.claim c.args.made.now (Ok None) true settles refl refl

pub returns-in-Err-clause-ok : goal.returns-in-Err-clause-ok
returns-in-Err-clause-ok g c = refused_ok c.args.coord.now c.install.new.coord c.args.claim c.args.made.now c.in-Err.why c.stays_after.result c.in-Err.ensures.settles c.stays_after.ensures.ok
