-- What a follower does with a message that is known: its versions are of the history again, and what it sends is known.
use Rattle.std.proofs.Common.{◌≡◌, ℕ, ◌+◌, ◌<◌, Bool, true, false, cond, List, [], ◌∷◌, Option, None, Some, IfSome, refl, sym, ap, subst, ◌∙◌, inl, inr, arith}
use Rattle.std.specs.Prelude.{not, nat_lt, filter, slice_get, slice_set}
use Rattle.std.specs.List.{list_any}
use Rattle.std.proofs.lemmas.Bool.{ltb-true}
use Rattle.std.proofs.lemmas.Option.{slice_get_within}
use Rattle.lsm_key.specs.Sets.{IsIn}
use Rattle.lsm_key.proofs.AscendingEntries.{IsIn-filter}
use Rattle.lsm_key.proofs.Membership.{IsIn-append_cases, IsIn-one}
use Rattle.lsm_edit.specs.declared.edit.Edit.{Edit}
use Rattle.lsm_edit.specs.declared.file.FileMeta.{FileMeta}
use Rattle.lsm_edit.specs.declared.served.Placed.{Placed}
use Rattle.lsm_edit.specs.File.{same_file}
use Rattle.lsm_edit.specs.Version.{VersionValue, after_apply, apply_fault, first_version, has_number, is_listed, lacking}
use Rattle.lsm_edit.proofs.ServedAfterEdit.{put_all-members}
use Rattle.lsm_msg.specs.declared.message.Body.{Body}
use Rattle.lsm_msg.specs.declared.message.Body.TheVariants as body
use Rattle.lsm_msg.specs.declared.message.Message.{Message}
use Rattle.lsm_msg.specs.declared.node.Node.TheVariants.{Follower}
use Rattle.lsm_versions.proofs.EditsInTurn.{edit_number, first_at, next_version}
use Rattle.lsm_versions.proofs.ManifestReplay.{length-versions_from, next_number}
use Rattle.lsm_follow.specs.declared.change.FollowChange.{FollowChange}
use Rattle.lsm_follow.specs.declared.change.FollowChange.TheVariants as follow
use Rattle.lsm_follow.specs.Followers.{FollowerValue, TakesBody, FollowOutcome, PendingValue, TakesEdit, TakesMissing, after_base, after_gone_file, begins, files_in, goes_on, kept_for, moves, new_follower, pending_for, received_of, ignores_message, turns_to, waits, with_table}
use Rattle.lsm_world.specs.History.{AreFilesOf, History, IsEditOf, IsFileOf, IsFollowerOf, IsKnown, IsNetwork, IsTableAt, IsTargetOf, IsVersionNumber, IsVersionOf, versions_in}
use Rattle.lsm_world.specs.Nodes.{NetworkValue, number_of}
use Rattle.lsm_world.proofs.AwaitedTables.{awaited_is, fetched, file_numbered}
use Rattle.lsm_world.proofs.FourPlaces.{in_place, same_indices, set_cases}

-- ---- what a change tells of the version

-- by the change: it serves a later version of the history, or one of the same number
abbrev pub MovesBy : History → FollowerValue → FollowerValue → FollowChange → Type 0
MovesBy h old new (follow.Version number) = (number_of old < number) × (number_of new ≡ number) × IsVersionNumber h number
MovesBy h old new (follow.Waiting missing) = number_of new ≡ number_of old
MovesBy h old new follow.Dropped = number_of new ≡ number_of old
MovesBy h old new follow.Current = number_of new ≡ number_of old
MovesBy h old new follow.Ignored = number_of new ≡ number_of old

abbrev pub Moves : History → FollowerValue → FollowOutcome → Type 0
Moves h f o = MovesBy h f o.follower o.change

-- what comes of a message that is known
pub record IsKept (h : History) (f : FollowerValue) (o : FollowOutcome) : Type 0 where
  pub follower : IsFollowerOf h o.follower
  pub sent : (m : Message) → IsIn m o.sent → IsKnown h m.body
  pub moves : Moves h f o

-- one of two outcomes
by_test : (P : FollowOutcome → Type 0) (b : Bool) (x y : FollowOutcome) → (b ≡ true → P x) → P y → P (cond b x y)
by_test P true x y px py = px refl
by_test P false x y px py = py

-- ---- versions of the history

-- its number is that of a version
pub version_number : (h : History) (v : VersionValue) → IsVersionOf h v → IsVersionNumber h v.number
version_number h v is =
    let within = slice_get_within (versions_in h) v.number v is in
    let long = length-versions_from first_version h.edits in
    omega (arith, within, long)

module _ (h : History) (files : AreFilesOf h) where
  -- each file that it lists is one of the history
  pub version_files : (v : VersionValue) → IsVersionOf h v → (f : FileMeta) → IsIn f v.files → IsFileOf h f
  version_files v is f m = files.listed v f (in_place (versions_in h) v.number v is) m

  -- AN EDIT THAT APPLIES TO A VERSION MAKES THE NEXT ONE.
  pub next_of : (v : VersionValue) (e : Edit) → IsVersionOf h v → IsEditOf h e → apply_fault v e ≡ None → IsVersionOf h (after_apply v e) × (e.number ≡ v.number + 1)
  next_of v e is known fits =
      let there = edit_number first_version h.edits known.0 e files.apply known.1 in
      let here = next_number v e fits in
      let same : known.0 ≡ v.number = omega (arith, there, here) in
      let at = subst (λ (k : ℕ). slice_get h.edits k ≡ Some e) same known.1 in
      let next = next_version first_version h.edits v.number e v files.apply at is in
      (ap (slice_get (versions_in h)) here ∙ next.1, here)

  module _ (f : FollowerValue) (own : IsFollowerOf h f) where
    -- ---- nothing is done

    stays_keeps : IsKept h f (ignores_message f)
    stays_keeps = record { follower = own; sent = λ m sent. absurd sent; moves = refl }

    -- ---- a version to move to

    moves_keeps : (to : PendingValue) → IsTargetOf h f.served.version to → IsKept h f (moves f to)
    moves_keeps to is = record {
      follower = record {
        version = is.version;
        tables = λ p m. elim ((put_all-members to.received (filter (λ (q : Placed). is_listed to.target.files q.meta) f.served.places) p).0 m) [
          | inl came ↦ is.received p came
          | inr stayed ↦ own.tables p (IsIn-filter (λ (q : Placed). is_listed to.target.files q.meta) p f.served.places stayed).0
        ];
        pending = tt;
      };
      sent = λ m sent. absurd sent;
      moves = (is.later, refl, version_number h to.target is.version);
    }

    waits_keeps : (to : PendingValue) (sent : List Message) → IsTargetOf h f.served.version to → ((m : Message) → IsIn m sent → IsKnown h m.body) → IsKept h f (waits f to sent)
    waits_keeps to sent is known = record { follower = record { version = own.version; tables = own.tables; pending = is }; sent = known; moves = refl }

    begins_keeps : (to : PendingValue) (fs : List FileMeta) → IsTargetOf h f.served.version to → ((g : FileMeta) → IsIn g fs → IsIn g to.target.files) → IsKept h f (begins f to fs)
    begins_keeps to [] is listed = moves_keeps to is
    begins_keeps to (g ∷ gs) is listed =
        waits_keeps to _ is (fetched h (Follower f.index) (g ∷ gs) (λ x m. file_numbered h x (version_files to.target is.version x (listed x m))))

    goes_on_keeps : (to : PendingValue) (fs : List FileMeta) → IsTargetOf h f.served.version to → IsKept h f (goes_on f to fs)
    goes_on_keeps to [] is = moves_keeps to is
    goes_on_keeps to (g ∷ gs) is = waits_keeps to [] is (λ m sent. absurd sent)

    -- what has come so far
    came : (was : Option PendingValue) → IfSome was (IsTargetOf h f.served.version) → (p : Placed) → IsIn p (received_of was) → IsIn p h.files
    came None is p m = absurd m
    came (Some was) is p m = is.received p m

    target_of : (target : VersionValue) → IsVersionOf h target → f.served.version.number < target.number → IsTargetOf h f.served.version (pending_for f target)
    target_of target is later = record {
      version = is;
      later = later;
      received = λ p m. came f.pending own.pending p (IsIn-filter (λ (q : Placed). is_listed target.files q.meta) p (received_of f.pending) m).0;
      missing = λ g m.
          (IsIn-filter (λ (x : FileMeta). not (is_listed f.served.version.files x)) g target.files
          (IsIn-filter (λ (x : FileMeta). not (is_listed (files_in (kept_for target f.pending)) x)) g (lacking f.served.version target) m).0).0;
    }

    turns_keeps : (target : VersionValue) → IsVersionOf h target → f.served.version.number < target.number → IsKept h f (turns_to f target)
    turns_keeps target is later = let to = target_of target is later in begins_keeps (pending_for f target) (pending_for f target).missing to to.missing

    -- ---- edits and full versions

    edit_keeps : (e : Edit) (o : FollowOutcome) → IsEditOf h e → TakesEdit f e o → IsKept h f o
    edit_keeps e o known (inl takes) =
        let next = next_of f.served.version e own.version known takes.1 in
        let number = next.1 in
        subst (IsKept h f) (sym takes.2) (turns_keeps (after_apply f.served.version e) next.0 (omega (arith, number)))
    edit_keeps e o known (inr other) = subst (IsKept h f) (sym other.1) stays_keeps

    base_keeps : (target : VersionValue) → IsVersionOf h target → IsKept h f (after_base f target)
    base_keeps target is =
        by_test (IsKept h f) (nat_lt f.served.version.number target.number) (turns_to f target) (ignores_message f) (λ later. turns_keeps target is (ltb-true f.served.version.number target.number later)) stays_keeps

    -- ---- tables

    table_target : (to : PendingValue) (p : Placed) → IsTargetOf h f.served.version to → IsIn p h.files → IsTargetOf h f.served.version (with_table p to)
    table_target to p is there = record {
      version = is.version;
      later = is.later;
      received = λ q m. elim (IsIn-append_cases q to.received (p ∷ []) m) [
        | inl before ↦ is.received q before
        | inr last ↦ subst (λ (x : Placed). IsIn x h.files) (sym (IsIn-one q p last)) there
      ];
      missing = λ g m. is.missing g (IsIn-filter (λ (x : FileMeta). not (same_file x p.meta)) g to.missing m).0;
    }

    table_keeps : (number : ℕ) (bytes : List ℕ) (was : Option PendingValue) (o : FollowOutcome) → IfSome was (IsTargetOf h f.served.version) → IsTableAt h number bytes → TakesMissing f number bytes was o → IsKept h f o
    table_keeps number bytes None o is known takes = subst (IsKept h f) (sym takes) stays_keeps
    table_keeps number bytes (Some to) o is known (inl takes) =
        let p = takes.0 in
        let there = awaited_is h files to.missing (λ g m. version_files to.target is.version g (is.missing g m)) number bytes p known takes.1 in
        subst (IsKept h f) (sym takes.2) (goes_on_keeps (with_table p to) (with_table p to).missing (table_target to p is there))
    table_keeps number bytes (Some to) o is known (inr other) = subst (IsKept h f) (sym other.1) stays_keeps

    gone_keeps : (number : ℕ) (was : Option PendingValue) → IsKept h f (after_gone_file f number was)
    gone_keeps number None = stays_keeps
    gone_keeps number (Some to) =
        by_test (IsKept h f) (list_any (has_number number) to.missing) (record { change = follow.Dropped; sent = []; follower = record f { pending = None } }) (ignores_message f)
        (λ one. record { follower = record { version = own.version; tables = own.tables; pending = tt }; sent = λ m sent. absurd sent; moves = refl })
        stays_keeps

    -- ---- any message

    -- A FOLLOWER KEEPS THE HISTORY.
    pub is_kept : (said : Body) (o : FollowOutcome) → IsKnown h said → TakesBody f said o → IsKept h f o
    is_kept (body.Edit e) o known follows = edit_keeps e o known follows
    is_kept (body.Base v) o known follows = subst (IsKept h f) (sym follows) (base_keeps v known)
    is_kept (body.Table number bytes) o known follows = table_keeps number bytes f.pending o own.pending known follows
    is_kept (body.Gone number) o known follows = subst (IsKept h f) (sym follows) (gone_keeps number f.pending)
    is_kept (body.Current number) o known follows = subst (IsKept h f) (sym follows) (record { follower = own; sent = λ m sent. absurd sent; moves = refl })
    is_kept (body.Job job) o known follows = subst (IsKept h f) (sym follows) stays_keeps
    is_kept (body.Fetch number) o known follows = subst (IsKept h f) (sym follows) stays_keeps
    is_kept (body.Result made) o known follows = subst (IsKept h f) (sym follows) stays_keeps
    is_kept (body.Ask number) o known follows = subst (IsKept h f) (sym follows) stays_keeps

  pub follows_known : (f : FollowerValue) (said : Body) (o : FollowOutcome) → IsFollowerOf h f → IsKnown h said → TakesBody f said o → IsFollowerOf h o.follower × ((m : Message) → IsIn m o.sent → IsKnown h m.body)
  follows_known f said o own known follows = let kept = is_kept f own said o known follows in (kept.follower, kept.sent)

  pub follows_number : (f : FollowerValue) (said : Body) (o : FollowOutcome) → IsFollowerOf h f → IsKnown h said → TakesBody f said o → Moves h f o
  follows_number f said o own known follows = (is_kept f own said o known follows).moves

-- ---- the follower that is left

begins_index : (f : FollowerValue) (to : PendingValue) (fs : List FileMeta) → (begins f to fs).follower.index ≡ f.index
begins_index f to [] = refl
begins_index f to (g ∷ gs) = refl

goes_on_index : (f : FollowerValue) (to : PendingValue) (fs : List FileMeta) → (goes_on f to fs).follower.index ≡ f.index
goes_on_index f to [] = refl
goes_on_index f to (g ∷ gs) = refl

turns_index : (f : FollowerValue) (target : VersionValue) → (turns_to f target).follower.index ≡ f.index
turns_index f target = begins_index f (pending_for f target) (pending_for f target).missing

edit_index : (f : FollowerValue) (e : Edit) (o : FollowOutcome) → TakesEdit f e o → o.follower.index ≡ f.index
edit_index f e o (inl takes) = ap (λ (x : FollowOutcome). x.follower.index) takes.2 ∙ turns_index f (after_apply f.served.version e)
edit_index f e o (inr other) = ap (λ (x : FollowOutcome). x.follower.index) other.1

base_index : (f : FollowerValue) (target : VersionValue) → (after_base f target).follower.index ≡ f.index
base_index f target = by_test (λ o. o.follower.index ≡ f.index) (nat_lt f.served.version.number target.number) (turns_to f target) (ignores_message f) (λ later. turns_index f target) refl

table_index : (f : FollowerValue) (number : ℕ) (bytes : List ℕ) (was : Option PendingValue) (o : FollowOutcome) → TakesMissing f number bytes was o → o.follower.index ≡ f.index
table_index f number bytes None o takes = ap (λ (x : FollowOutcome). x.follower.index) takes
table_index f number bytes (Some to) o (inl takes) = ap (λ (x : FollowOutcome). x.follower.index) takes.2 ∙ goes_on_index f (with_table takes.0 to) (with_table takes.0 to).missing
table_index f number bytes (Some to) o (inr other) = ap (λ (x : FollowOutcome). x.follower.index) other.1

gone_index : (f : FollowerValue) (number : ℕ) (was : Option PendingValue) → (after_gone_file f number was).follower.index ≡ f.index
gone_index f number None = refl
gone_index f number (Some to) =
    by_test (λ o. o.follower.index ≡ f.index) (list_any (has_number number) to.missing) (record { change = follow.Dropped; sent = []; follower = record f { pending = None } }) (ignores_message f) (λ one. refl) refl

pub follows_index : (f : FollowerValue) (said : Body) (o : FollowOutcome) → TakesBody f said o → o.follower.index ≡ f.index
follows_index f (body.Edit e) o follows = edit_index f e o follows
follows_index f (body.Base v) o follows = ap (λ (x : FollowOutcome). x.follower.index) follows ∙ base_index f v
follows_index f (body.Table number bytes) o follows = table_index f number bytes f.pending o follows
follows_index f (body.Gone number) o follows = ap (λ (x : FollowOutcome). x.follower.index) follows ∙ gone_index f number f.pending
follows_index f (body.Current number) o follows = ap (λ (x : FollowOutcome). x.follower.index) follows
follows_index f (body.Job job) o follows = ap (λ (x : FollowOutcome). x.follower.index) follows
follows_index f (body.Fetch number) o follows = ap (λ (x : FollowOutcome). x.follower.index) follows
follows_index f (body.Result made) o follows = ap (λ (x : FollowOutcome). x.follower.index) follows
follows_index f (body.Ask number) o follows = ap (λ (x : FollowOutcome). x.follower.index) follows

-- ---- one follower in the place of another

pub new_follower_is : (h : History) (index : ℕ) → IsFollowerOf h (new_follower index)
new_follower_is h index = record { version = first_at first_version h.edits; tables = λ p none. absurd none; pending = tt }

-- A FOLLOWER WITH VERSIONS OF THE HISTORY TAKES THE PLACE OF ANOTHER.
pub with_follower : (h : History) (old : NetworkValue) (place : ℕ) (f new : FollowerValue) → slice_get old.followers place ≡ Some f → new.index ≡ f.index → IsFollowerOf h new → IsNetwork h old → IsNetwork h (record old { followers = slice_set old.followers place new })
with_follower h old place f new at same own is = record {
  workers = is.workers;
  tasks = is.tasks;
  followers = same_indices (λ (x : FollowerValue). x.index) old.followers place f new at same ∙ is.followers;
  versions = λ x m. elim (set_cases old.followers place new x m) [ inl here ↦ subst (IsFollowerOf h) (sym here) own | inr before ↦ is.versions x before ];
  sent = is.sent;
}
