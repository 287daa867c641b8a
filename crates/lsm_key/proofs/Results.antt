-- Results, and what holds on an error.
use Rattle.std.proofs.Common.{◌≡◌, Result, Ok, Err, OnErr}

-- what holds at all holds on an error
pub on_err : {T E : Type 0} (r : Result T E) (P : Type 0) → P → OnErr r P
on_err (Ok x) P h = tt
on_err (Err e) P h = h

-- no result is a value and an error
pub ok_not_err : {T E : Type 0} (x : T) (e : E) → Ok x ≡ Err e → ⊥
ok_not_err x e h = cc
