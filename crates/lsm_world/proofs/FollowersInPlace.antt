-- A follower that is taken from its place, and put back as it became: what the network had of a history, it has again.
use Rattle.std.proofs.Common.{◌≡◌, ℕ, ◌-◌, List, [], ◌∷◌, Some, refl, sym, ap, subst, ◌∙◌}
use Rattle.lsm_key.proofs.Membership.{IsIn-one}
use Rattle.lsm_msg.specs.declared.message.Message.{Message}
use Rattle.lsm_follow.specs.declared.change.FollowChange.{FollowChange}
use Rattle.lsm_follow.specs.Followers.{FollowerValue, FollowOutcome, new_follower}
use Rattle.lsm_world.specs.declared.reply.Sent.{Sent}
use Rattle.lsm_world.specs.Asks.Followers.{ask_message}
use Rattle.lsm_world.specs.Asks.Messages.{Sends}
use Rattle.lsm_world.specs.History.{IsKnown, IsNetwork}
use Rattle.lsm_world.specs.Inner.Handing.{IsStored}
use Rattle.lsm_world.specs.Inner.Working.{HasFollowed, KeepsNetwork}
use Rattle.lsm_world.specs.Nodes.{NetworkValue, at_index, with_index}
use Rattle.lsm_world.proofs.FollowerEvents.{follows_index, follows_known, new_follower_is, version_number, with_follower}
use Rattle.lsm_world.proofs.FourPlaces.{in_place, put_back}
use Rattle.lsm_world.proofs.OneSpelling.{stored_known}
use Rattle.lsm_world.proofs.StoredMessages.{sends_keep}

-- ---- a follower that is started anew

module _ (old : NetworkValue) (index : ℕ) (f other after : FollowerValue) (mid new : List FollowerValue) (at : at_index old.followers index ≡ Some f) (taken : mid ≡ with_index old.followers index other) (reset : after ≡ new_follower f.index) (put : new ≡ with_index mid index after) where
  pub reset_in_place : new ≡ with_index old.followers index (new_follower f.index)
  reset_in_place = put_back old.followers mid new index other after taken put ∙ ap (with_index old.followers index) reset

  -- A FOLLOWER THAT IS STARTED ANEW KEEPS THE HISTORY.
  pub reset_keeps : KeepsNetwork old (record old { followers = new })
  reset_keeps h files jobs is =
      subst (λ (fs : List FollowerValue). IsNetwork h (record old { followers = fs })) (sym reset_in_place) (with_follower h old (index - 1) f (new_follower f.index) at refl (new_follower_is h f.index) is)

-- ---- a follower that gets a message that was sent

module _ (old : NetworkValue) (index : ℕ) (m : Message) (change : FollowChange) (sent : List Message) (told : Sent) (new : List FollowerValue) (stored : List (List ℕ)) (was_sent : IsStored old.messages m) (followed : HasFollowed old.followers index m.body change sent new) (sends : Sends old.messages sent told stored) where
  abbrev outcome : FollowOutcome
  outcome = record { change = change; sent = sent; follower = followed.after }

  -- A FOLLOWER THAT GETS A MESSAGE THAT WAS SENT KEEPS THE HISTORY.
  pub follow_keeps : KeepsNetwork old (record old { followers = new; messages = stored })
  follow_keeps h files jobs is =
      let own = is.versions followed.before (in_place old.followers (index - 1) followed.before followed.is_there) in
      let kept = follows_known h files followed.before m.body outcome own (stored_known h old m is was_sent) followed.follows in
      let placed = with_follower h old (index - 1) followed.before followed.after followed.is_there (follows_index followed.before m.body outcome followed.follows) kept.0 is in
      let now = subst (λ (fs : List FollowerValue). IsNetwork h (record old { followers = fs })) (sym followed.new_is) placed in
      sends_keep h (record old { followers = new }) sent told stored sends kept.1 now

-- ---- a follower that asks

-- A FOLLOWER THAT ASKS FROM ITS VERSION ON KEEPS THE HISTORY.
pub ask_keeps : (old : NetworkValue) (index : ℕ) (f : FollowerValue) → at_index old.followers index ≡ Some f → (told : Sent) (new : List (List ℕ)) → Sends old.messages (ask_message f ∷ []) told new → KeepsNetwork old (record old { messages = new })
ask_keeps old index f at told new sends h files jobs is =
    let own = is.versions f (in_place old.followers (index - 1) f at) in
    sends_keep h old (ask_message f ∷ []) told new sends (λ m sent. subst (λ (x : Message). IsKnown h x.body) (sym (IsIn-one m (ask_message f) sent)) (version_number h f.served.version own.version)) is
