use Rattle.std.proofs.Common.{◌≡◌, ◌⊎◌, ◌<◌, ℕ, Bool, true, false, List, length, nat_lt, ap, subst, refl, inl, inr, arith}
use Rattle.std.proofs.lemmas.Bool.{ltb-false}
use Rattle.lsm_store.specs.Store.{ReadsRange}
use Rattle.lsm_store.proofs.RangeParts.{part_is}
use Rattle.lsm_store.proofs.store.range.read_part.Goals as goal

pub returns-clause-ok : goal.returns-clause-ok
returns-clause-ok g c =
    let pairs = c.in_ok-pairs.pairs.items in
    let count : c.len.result ≡ length pairs = omega (arith, c.len.ensures, c.in_ok-pairs.pairs.ok.0) in
    let reads = subst (λ (from : List ℕ). ReadsRange c.args.store.now from c.args.hi.now c.args.at 256 pairs) c.deref.ensures.value c.in_ok-pairs.ensures.ok in
    record {
      given = omega arith;
      reads = part_is c.args.store.now c.args.from.items c.args.hi.now c.args.at 256 pairs (nat_lt c.len.result 256) (ap (λ (n : ℕ). nat_lt n 256) count) reads;
    }

pub returns-clause-ready : goal.returns-clause-ready
returns-clause-ready g c =
    let pairs = c.in_ok-pairs.pairs.items in
    let count : c.len.result ≡ length pairs = omega (arith, c.len.ensures, c.in_ok-pairs.pairs.ok.0) in
    by (nat_lt c.len.result 256) refl count
  where
    by : (b : Bool) → nat_lt c.len.result 256 ≡ b → c.len.result ≡ length c.in_ok-pairs.pairs.items → (0 < length c.in_ok-pairs.pairs.items) ⊎ (nat_lt c.len.result 256 ≡ true)
    by true is count = inr is
    by false is count = inl (let least = ltb-false c.len.result 256 is in omega (arith, least, count))
