-- In every order of candidates something is due, nothing, or only what is too large, exactly where it is so by number.
use Rattle.std.proofs.Common.{List, Option, None, Some, Result, Ok, Err, IfOk, IfErr, IfSome, ◌≡◌, subst, sym}
use Rattle.lsm_key.specs.declared.limits.Limits.{Limits}
use Rattle.lsm_claim.specs.declared.job.LiveJob.{LiveJob}
use Rattle.lsm_claim.specs.declared.job.Want.{Want}
use Rattle.lsm_edit.specs.Served.{IsServed, ServedValue}
use Rattle.lsm_edit.specs.Version.{IsVersion}
use Rattle.lsm_pick.specs.declared.error.PickError.{PickError}
use Rattle.lsm_pick.specs.After.{CompactPointersValue, candidates_in}
use Rattle.lsm_pick.specs.Laws.{AreAlike}
use Rattle.lsm_pick.specs.Rule.{candidates}
use Rattle.lsm_pick.proofs.BothOrders.{both_orders}

alike_to_number : (pointers : Option CompactPointersValue) (limits : Limits) (s : ServedValue) (live : List LiveJob) → IsServed s → IsVersion s.version
    → AreAlike s.version.files live (candidates_in pointers limits s) (candidates limits s.version.files)
alike_to_number None limits s live is version = record {
  members = λ t. (λ m. m, λ m. m);
  some = (λ x. x, λ x. x);
  none = (λ x. x, λ x. x);
  too_large = (λ x. x, λ x. x);
}
alike_to_number (Some pointers) limits s live is version = both_orders pointers limits s live is version

-- of what a version set lends
pub orders_alike : (pointers : Option CompactPointersValue) (limits : Limits) (s t : ServedValue) (live : List LiveJob) → s ≡ t → IsServed t × IsVersion t.version
    → AreAlike s.version.files live (candidates_in pointers limits s) (candidates limits s.version.files)
orders_alike pointers limits s t live same sound =
    let here = subst (λ (v : ServedValue). IsServed v × IsVersion v.version) (sym same) sound in
    alike_to_number pointers limits s live here.0 here.1

-- ---- what is given, if something is

pub given_so : {P Q : Want → Type 0} (r : Result (Option Want) PickError) → ((want : Want) → P want → Q want) → IfOk r (λ next. IfSome next P) → IfOk r (λ next. IfSome next Q)
given_so (Ok (Some want)) so p = so want p
given_so (Ok None) so p = p
given_so (Err e) so p = p

pub given_both : {P Q R : Want → Type 0} (r : Result (Option Want) PickError) → ((want : Want) → P want → Q want → R want) → IfOk r (λ next. IfSome next P) → IfOk r (λ next. IfSome next Q) → IfOk r (λ next. IfSome next R)
given_both (Ok (Some want)) so p q = so want p q
given_both (Ok None) so p q = p
given_both (Err e) so p q = p

-- none is given for a reason
pub none_so : {P Q : Type 0} (r : Result (Option Want) PickError) → (P → Q) → IfOk r (λ next. next ≡ None → P) → IfOk r (λ next. next ≡ None → Q)
none_so (Ok next) so p = λ none. so (p none)
none_so (Err e) so p = p

-- and so is a refusal
pub refused_so : {P Q : Type 0} (r : Result (Option Want) PickError) (why : PickError) → (P → Q) → IfErr r (λ e. e ≡ why → P) → IfErr r (λ e. e ≡ why → Q)
refused_so (Ok next) why so p = p
refused_so (Err e) why so p = λ is. so (p is)
