-- A name that is that of none of the commands.
use Rattle.lsm_serve.specs.declared.command.Command.TheVariants as command
use Rattle.lsm_serve.specs.Commands.{IsCalled, IsNoCommand}
use Rattle.std.proofs.Common.{◌≡◌, ◌↔◌, Bool, true, false, IsTrue, List, ℕ}

pub none_of_all : (name : List ℕ) → (IsCalled name command.Get → ⊥) → (IsCalled name command.Set → ⊥) → (IsCalled name command.MultiGet → ⊥) → (IsCalled name command.MultiSet → ⊥) → (IsCalled name command.Delete → ⊥) → (IsCalled name command.Exists → ⊥) → (IsCalled name command.Range → ⊥) → (IsCalled name command.Ping → ⊥) → (IsCalled name command.Echo → ⊥) → (IsCalled name command.Save → ⊥) → (IsCalled name command.Info → ⊥) → (IsCalled name command.Describe → ⊥) → (IsCalled name command.Config → ⊥) → (IsCalled name command.Select → ⊥) → (IsCalled name command.Quit → ⊥) → IsNoCommand name
none_of_all name nget nset nmultiget nmultiset ndelete nexists nrange nping necho nsave ninfo ndescribe nconfig nselect nquit command.Get is = nget is
none_of_all name nget nset nmultiget nmultiset ndelete nexists nrange nping necho nsave ninfo ndescribe nconfig nselect nquit command.Set is = nset is
none_of_all name nget nset nmultiget nmultiset ndelete nexists nrange nping necho nsave ninfo ndescribe nconfig nselect nquit command.MultiGet is = nmultiget is
none_of_all name nget nset nmultiget nmultiset ndelete nexists nrange nping necho nsave ninfo ndescribe nconfig nselect nquit command.MultiSet is = nmultiset is
none_of_all name nget nset nmultiget nmultiset ndelete nexists nrange nping necho nsave ninfo ndescribe nconfig nselect nquit command.Delete is = ndelete is
none_of_all name nget nset nmultiget nmultiset ndelete nexists nrange nping necho nsave ninfo ndescribe nconfig nselect nquit command.Exists is = nexists is
none_of_all name nget nset nmultiget nmultiset ndelete nexists nrange nping necho nsave ninfo ndescribe nconfig nselect nquit command.Range is = nrange is
none_of_all name nget nset nmultiget nmultiset ndelete nexists nrange nping necho nsave ninfo ndescribe nconfig nselect nquit command.Ping is = nping is
none_of_all name nget nset nmultiget nmultiset ndelete nexists nrange nping necho nsave ninfo ndescribe nconfig nselect nquit command.Echo is = necho is
none_of_all name nget nset nmultiget nmultiset ndelete nexists nrange nping necho nsave ninfo ndescribe nconfig nselect nquit command.Save is = nsave is
none_of_all name nget nset nmultiget nmultiset ndelete nexists nrange nping necho nsave ninfo ndescribe nconfig nselect nquit command.Info is = ninfo is
none_of_all name nget nset nmultiget nmultiset ndelete nexists nrange nping necho nsave ninfo ndescribe nconfig nselect nquit command.Describe is = ndescribe is
none_of_all name nget nset nmultiget nmultiset ndelete nexists nrange nping necho nsave ninfo ndescribe nconfig nselect nquit command.Config is = nconfig is
none_of_all name nget nset nmultiget nmultiset ndelete nexists nrange nping necho nsave ninfo ndescribe nconfig nselect nquit command.Select is = nselect is
none_of_all name nget nset nmultiget nmultiset ndelete nexists nrange nping necho nsave ninfo ndescribe nconfig nselect nquit command.Quit is = nquit is

-- a test that is false, and what it tests
pub is_not : (b : Bool) (P : Type 0) → (IsTrue b ↔ P) → b ≡ false → P → ⊥
is_not b P test fails p = let holds : b ≡ true = test.1 p in cc
