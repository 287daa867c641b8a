-- What comes of a table that is awaited.
use Rattle.std.proofs.Common.{◌≡◌, ℕ, ◌<◌, ◌≤◌, List, [], ◌∷◌, Option, Some, IfSome, length, refl, sym, ap, subst, ◌∙◌, inl}
use Rattle.lsm_key.specs.Sets.{IsIn}
use Rattle.lsm_key.proofs.Membership.{IsIn-at}
use Rattle.lsm_edit.specs.declared.file.FileMeta.{FileMeta}
use Rattle.lsm_edit.specs.declared.served.Placed.{Placed}
use Rattle.lsm_edit.specs.Version.{FileNumbersRise}
use Rattle.lsm_edit.specs.Served.{AreLacking, IsAsRecorded, IsAwaited}
use Rattle.lsm_edit.proofs.ServedPlaces.{one_number}
use Rattle.lsm_follow.specs.Followers.{FollowerValue, FollowOutcome, PendingValue, TakesMissing, goes_on, moves, waits, with_table}
use Rattle.lsm_follow.specs.Pending.{HasReceived, IsFollower, IsPending, StandsAt}
use Rattle.lsm_follow.proofs.FilteredFiles.{last_goes, some_stay}
use Rattle.lsm_follow.proofs.ReceivedTables.{all_come, is_of, missing_rises, received_more}

stands_in : (fs : List FileMeta) (at : ℕ) (f : FileMeta) → StandsAt fs at f → IsIn f fs
stands_in fs at f is = subst (λ (g : FileMeta). IsIn g fs) is.1 (IsIn-at fs at f is.0)

-- a file of the number that stands there is the one that stands there
pub same_there : (fs : List FileMeta) (at : ℕ) (f g : FileMeta) → FileNumbersRise fs → StandsAt fs at f → IsIn g fs → g.number ≡ f.number → g ≡ f
same_there fs at f g up is m e = one_number fs up g f m (stands_in fs at f is) e

goes_more : (f : FollowerValue) (to : PendingValue) (fs : List FileMeta) → (fs ≡ [] → ⊥) → waits f to [] ≡ goes_on f to fs
goes_more f to [] some = absurd (some refl)
goes_more f to (g ∷ fs) some = refl

module _ (f : FollowerValue) (is : IsFollower f) (to : PendingValue) (seen : f.pending ≡ Some to) (p : Placed) (at : ℕ) (stands : StandsAt to.missing at p.meta) (recorded : IsAsRecorded p.meta p.table) where
  pending : IsPending f.served.version to
  pending = is_of f is to seen

  rises : FileNumbersRise to.missing
  rises = missing_rises f.served.version to pending.has pending.version

  more : HasReceived f.served.version (with_table p to)
  more = received_more f.served.version to pending.has p (stands_in to.missing at p.meta stands) recorded

  awaited : (n : ℕ) (bytes : List ℕ) → p.meta.number ≡ n → p.table.bytes ≡ bytes → IsAwaited to.missing n bytes p
  awaited n bytes number text = record { file = stands_in to.missing at p.meta stands; number = number; bytes = text; recorded = recorded }

  module _ (few : length to.missing ≤ 1) where
    -- with the last one all have come
    pub last_comes : AreLacking f.served.version to.target (with_table p to).received
    last_comes = all_come f.served.version (with_table p to) more (last_goes to.missing at p.meta few stands.0 stands.1)

    pub takes_last : (n : ℕ) (bytes : List ℕ) (o : FollowOutcome) → p.meta.number ≡ n → p.table.bytes ≡ bytes → IfSome f.pending (λ was. (g : FileMeta) → StandsAt was.missing at g → o ≡ moves f (with_table (record { meta = g; table = p.table }) was)) → TakesMissing f n bytes f.pending o
    takes_last n bytes o number text made =
        let moved = subst (λ (x : Option PendingValue). IfSome x (λ was. (g : FileMeta) → StandsAt was.missing at g → o ≡ moves f (with_table (record { meta = g; table = p.table }) was))) seen made p.meta stands in
        subst (λ (x : Option PendingValue). TakesMissing f n bytes x o) (sym seen)
        (inl (p, awaited n bytes number text, moved ∙ sym (ap (goes_on f (with_table p to)) (last_goes to.missing at p.meta few stands.0 stands.1))))

  module _ (many : 1 < length to.missing) where
    stay : (with_table p to).missing ≡ [] → ⊥
    stay = some_stay to.missing at p.meta rises many stands.0 stands.1

    -- it waits for the others
    pub still_waits : IsPending f.served.version (with_table p to)
    still_waits = record { version = pending.version; later = pending.later; has = more; some = stay }

    pub takes_more : (n : ℕ) (bytes : List ℕ) (o : FollowOutcome) → p.meta.number ≡ n → p.table.bytes ≡ bytes → IfSome f.pending (λ was. (g : FileMeta) → StandsAt was.missing at g → o ≡ waits f (with_table (record { meta = g; table = p.table }) was) []) → TakesMissing f n bytes f.pending o
    takes_more n bytes o number text made =
        let kept = subst (λ (x : Option PendingValue). IfSome x (λ was. (g : FileMeta) → StandsAt was.missing at g → o ≡ waits f (with_table (record { meta = g; table = p.table }) was) [])) seen made p.meta stands in
        subst (λ (x : Option PendingValue). TakesMissing f n bytes x o) (sym seen)
        (inl (p, awaited n bytes number text, kept ∙ goes_more f (with_table p to) (with_table p to).missing stay))
