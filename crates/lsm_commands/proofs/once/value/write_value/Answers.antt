use Rattle.std.proofs.Common.{ℕ, List, Option, None, Some, refl, subst}
use Rattle.std.specs.Io.KnownBytes.{Appends}
use Rattle.std.proofs.KnownBytes.{Appends-nil}
use Rattle.lsm_store.specs.Store.{ReadsValue}
use Rattle.lsm_commands.proofs.once.value.write_value.Goals as goal

pub returns-in_default-clause-written : goal.returns-in_default-clause-written
returns-in_default-clause-written g c =
    (None, subst (λ (o : Option (List ℕ)). ReadsValue c.args.store.now c.args.key.now None o) c.in_default.is (rw (← c.as_slice.ensures) c.in_ok-value.ensures.ok), refl, Appends-nil (g.W.Write.contents c.args.writer.now))

pub returns-clause-written : goal.returns-clause-written
returns-clause-written g c =
    (Some c.in-Some.value, subst (λ (o : Option (List ℕ)). ReadsValue c.args.store.now c.args.key.now None o) c.in-Some.is (rw (← c.as_slice.ensures) c.in_ok-value.ensures.ok), refl, subst (λ (text : List ℕ). Appends (g.W.Write.contents c.args.writer.now) (g.W.Write.contents c.write_out.new.writer) text) c.in_ok-out.ensures c.in_ok-write_out.ensures.ok)
