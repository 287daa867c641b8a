-- A total order is a strict weak one, so that of entries is.
use Rattle.std.proofs.Common.{◌≡◌, true, false, refl}
use Rattle.std.specs.Cmp.{IsStrictWeakOrder, IsTotalOrder}
use Rattle.std.specs.Ordering.{is_lt, is_gt, ordering_reverse}
use Rattle.std.specs.declared.cmp.Ordering.{Ordering}
use Rattle.std.specs.declared.cmp.Ordering.TheVariants.{Less, Equal, Greater}
use Rattle.std.proofs.lemmas.Cmp.{upto, on_total}
use Rattle.lsm_key.specs.declared.entry.Entry.{Entry}
use Rattle.lsm_key.specs.Order.{precedes}
use Rattle.lsm_key.proofs.EntryOrder.{pair_cmp, pair_total}

module _ {K : Type 0} (R : K → K → Ordering) (o : IsTotalOrder R) where
  not_less : (r s : Ordering) → r ≡ ordering_reverse s → is_lt r ≡ true → is_lt s ≡ false
  not_less Less Less e h = cc
  not_less Less Equal e h = refl
  not_less Less Greater e h = refl
  not_less Equal s e h = cc
  not_less Greater s e h = cc

  not_greater : (r s : Ordering) → r ≡ ordering_reverse s → is_lt r ≡ false → is_gt s ≡ false
  not_greater Less s e h = cc
  not_greater Equal Less e h = refl
  not_greater Equal Equal e h = refl
  not_greater Equal Greater e h = cc
  not_greater Greater Less e h = refl
  not_greater Greater Equal e h = refl
  not_greater Greater Greater e h = cc

  not_less_back : (r s : Ordering) → r ≡ ordering_reverse s → is_gt s ≡ false → is_lt r ≡ false
  not_less_back Less Less e h = cc
  not_less_back Less Equal e h = cc
  not_less_back Less Greater e h = cc
  not_less_back Equal s e h = refl
  not_less_back Greater s e h = refl

  weak_from_total : IsStrictWeakOrder (λ x y. is_lt (R x y))
  weak_from_total = record {
    one_way = λ x y h. not_less (R x y) (R y x) (o.antisymm x y) h;
    chain = λ x y z a b. not_less_back (R x z) (R z x) (o.antisymm x z) (upto o z y x (not_greater (R y z) (R z y) (o.antisymm y z) b) (not_greater (R x y) (R y x) (o.antisymm x y) a));
  }

pub entries_weak : IsStrictWeakOrder precedes
entries_weak = weak_from_total (λ (a b : Entry). pair_cmp (a.ikey.key, a.ikey.seq) (b.ikey.key, b.ikey.seq)) (on_total (λ (e : Entry). (e.ikey.key, e.ikey.seq)) pair_total)
