-- Whatever comes of a table, the follower serves what it served, or a later version.
use Rattle.std.proofs.Common.{◌≡◌, ℕ, ◌<◌, List, [], ◌∷◌, Option, None, Some, Result, Ok, Err, IfOk, OnErr, refl, sym, ap, subst, inl, inr}
use Rattle.lsm_edit.specs.declared.file.FileMeta.{FileMeta}
use Rattle.lsm_follow.specs.declared.change.FollowChange.{FollowChange}
use Rattle.lsm_msg.specs.declared.message.Message.{Message}
use Rattle.lsm_follow.specs.Followers.{FollowerValue, FollowOutcome, PendingValue, TakesMissing, goes_on, ignores_message, with_table}
use Rattle.lsm_follow.specs.Onward.{IsOnward}
use Rattle.lsm_follow.specs.Pending.{IsFollower}
use Rattle.lsm_follow.proofs.ReceivedTables.{is_of}

goes_on_onward : (f : FollowerValue) (to : PendingValue) (missing : List FileMeta) → f.served.version.number < to.target.number → IsOnward f.served (goes_on f to missing).follower.served
goes_on_onward f to [] later = inr later
goes_on_onward f to (g ∷ gs) later = inl refl

becomes : (f : FollowerValue) (o p : FollowOutcome) → o ≡ p → IsOnward f.served p.follower.served → IsOnward f.served o.follower.served
becomes f o p is on = subst (λ (x : FollowOutcome). IsOnward f.served x.follower.served) (sym is) on

pub table_onward : (f : FollowerValue) (n : ℕ) (bytes : List ℕ) (o : FollowOutcome) → IsFollower f → (pending : Option PendingValue) → f.pending ≡ pending → TakesMissing f n bytes pending o → IsOnward f.served o.follower.served
table_onward f n bytes o is None seen h = becomes f o (ignores_message f) h (inl refl)
table_onward f n bytes o is (Some to) seen (inl h) = becomes f o (goes_on f (with_table h.0 to) (with_table h.0 to).missing) h.2 (goes_on_onward f (with_table h.0 to) (with_table h.0 to).missing (is_of f is to seen).later)
table_onward f n bytes o is (Some to) seen (inr h) = becomes f o (ignores_message f) h.1 (inl refl)

-- so of a call that answers, or changes nothing
pub answers_onward : {S E : Type 0} (f g : FollowerValue) (P : FollowOutcome → Type 0) → ((o : FollowOutcome) → P o → IsOnward f.served o.follower.served)
    → (change : S → FollowChange) (sent : S → List Message) (r : Result S E) → IfOk r (λ s. P (record { change = change s; sent = sent s; follower = g })) → OnErr r (g ≡ f) → IsOnward f.served g.served
answers_onward f g P on change sent (Ok s) ok err = on (record { change = change s; sent = sent s; follower = g }) ok
answers_onward f g P on change sent (Err e) ok err = inl (ap (λ (x : FollowerValue). x.served) err)
