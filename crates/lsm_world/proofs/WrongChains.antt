-- Chains of steps that no nodes take: a late result that is installed, a table that was let go and comes all the same, a lost message that counts a number.
use Rattle.std.proofs.Common.{◌≡◌, ℕ, ◌+◌, ◌-◌, zero, suc, Bool, true, false, cond, eqb, List, [], ◌∷◌, ◌++◌, Option, None, Some, refl, sym, ap, subst, ◌∙◌, inl, inr, arith, length, get_or, not, map}
use Rattle.std.specs.Prelude.{slice_get, slice_set}
use Rattle.std.specs.List.{list_any}
use Rattle.std.specs.Option.{is_some}
use Rattle.std.specs.FinMap as finite
use Rattle.std.proofs.lemmas.Bool.{eq-eqb, false≢true, ne_eqb, not-true, or_parts}
use Rattle.std.proofs.lemmas.Option.{same_Some}
use Rattle.lsm_key.specs.Sets.{IsIn, SameMembers}
use Rattle.lsm_key.proofs.AscendingEntries.{IsIn-filter}
use Rattle.lsm_key.proofs.Lists.{any_from}
use Rattle.lsm_key.proofs.Membership.{IsIn-map, IsIn-mapped}
use Rattle.lsm_claim.specs.declared.job.JobId.{JobId}
use Rattle.lsm_claim.specs.declared.job.LiveJob.{LiveJob}
use Rattle.lsm_edit.specs.declared.file.FileMeta.{FileMeta}
use Rattle.lsm_edit.specs.declared.served.Placed.{Placed}
use Rattle.lsm_edit.specs.Served.{table_at}
use Rattle.lsm_edit.specs.Version.{has_number}
use Rattle.lsm_msg.specs.declared.message.Body.TheVariants as body
use Rattle.lsm_msg.specs.declared.message.Message.{Message}
use Rattle.lsm_msg.specs.declared.node.Node.{Node}
use Rattle.lsm_msg.specs.declared.node.Node.TheVariants.{Coordinator}
use Rattle.lsm_msg.specs.Messages.{IsSpelled}
use Rattle.lsm_versions.specs.Manifest.{VersionSetValue}
use Rattle.lsm_versions.specs.Opening.{is_live}
use Rattle.lsm_versions.specs.Retention.{bytes_at, retired_at}
use Rattle.lsm_versions.proofs.ServedFiles.{found_in, some_place}
use Rattle.lsm_coord.specs.Contract.Calls.{with_floor}
use Rattle.lsm_coord.specs.Contract.Desks.{dispatcher_of}
use Rattle.lsm_coord.specs.Contract.Serving.{table_body}
use Rattle.lsm_coord.specs.Contract.Value.{version_set}
use Rattle.lsm_coord.specs.declared.dispatcher.Dispatcher.{Dispatcher}
use Rattle.lsm_coord.specs.declared.dispatcher.Dispatcher.TheVariants.{Idle, Busy}
use Rattle.lsm_world.specs.Asks.Deliveries.{Delivers}
use Rattle.lsm_world.specs.Asks.Dispatchers.{HoldsJob}
use Rattle.lsm_world.specs.Asks.Followers.{ask_message}
use Rattle.lsm_world.specs.Asks.Messages.{Sends, stored_message}
use Rattle.lsm_world.specs.Asks.WhileUp.{Asks, AsksNode}
use Rattle.lsm_world.specs.Inner.Working.{IsMessageAt}
use Rattle.lsm_world.specs.Nodes.{NodesValue}
use Rattle.lsm_world.specs.WrongWorlds.{IsFetchOf, IsResultOfJob, LateResultIsNotInstalled, LostMessageCountsNoNumber, ReturnedClaimInstallsNothing, TableLetGoIsNotServed}
use Rattle.lsm_world.specs.declared.event.Event.TheVariants as event
use Rattle.lsm_world.specs.declared.reply.PickedJob.{PickedJob}
use Rattle.lsm_world.specs.declared.reply.Reply.TheVariants as reply
use Rattle.lsm_world.specs.declared.reply.Sent.{Sent}
use Rattle.lsm_world.specs.declared.reply.Sent.TheVariants as sent
use Rattle.lsm_world.proofs.DeskPlaces.{idle_holds_none, same_claim}
use Rattle.lsm_world.proofs.OneSpelling.{one_spelling}

-- ---- who holds a claim

idle_there : (desk : List Dispatcher) (i : ℕ) → get_or (slice_set desk i Idle) i Idle ≡ Idle
idle_there [] i = refl
idle_there (x ∷ desk) zero = refl
idle_there (x ∷ desk) (suc i) = idle_there desk i

held_there : (desk : List Dispatcher) (i : ℕ) (claim other : LiveJob) → get_or (slice_set desk i (Busy claim)) i Idle ≡ Busy other → claim ≡ other
held_there [] i claim other h = absurd (idle_holds_none other h)
held_there (x ∷ desk) zero claim other h = same_claim claim other h
held_there (x ∷ desk) (suc i) claim other h = held_there desk i claim other h

-- ---- what a number names

-- one number names one message
one_message : (messages : List (List ℕ)) (place : ℕ) (m other : Message) → IsMessageAt messages place m → IsMessageAt messages place other → m ≡ other
one_message messages place m other (text, at, spelled) (again, at_again, spelled_again) =
    let same : again ≡ text = same_Some again text (sym at_again ∙ at) in
    one_spelling text m other spelled (subst (λ (bytes : List ℕ). IsSpelled bytes other) same spelled_again)

-- a message that was delivered was taken by its receiver
delivered : (old new : NodesValue) (place number : ℕ) (files : List ℕ) (m : Message) → IsMessageAt old.network.messages place m → AsksNode old (event.Deliver place) (reply.Installed number files) new → Delivers old m m.dst (reply.Installed number files) new
delivered old new place number files m at (text, stored, taken, spelled, delivers) =
    subst (λ (x : Message). Delivers old x x.dst (reply.Installed number files) new) (one_message old.network.messages place taken m (text, stored, spelled) at) delivers

-- the worker's dispatcher holds a claim of the job, if the result is installed
holds : (old new : NodesValue) (d place number : ℕ) (files : List ℕ) (id : JobId) (m : Message) → IsMessageAt old.network.messages place m → IsResultOfJob m d id → Asks old (event.Deliver place) (reply.Installed number files) new → HoldsJob old.desk d id
holds old new d place number files id m at (made, is, named) (inl lacks) = absurd (let bad = lacks.0 in cc)
holds old new d place number files id m at (made, is, named) (inr asked) =
    let taken = subst (λ (x : Message). Delivers old x x.dst (reply.Installed number files) new) is (delivered old new place number files m at asked) in
    (taken.0, taken.1, taken.2 ∙ named)

-- ---- a claim that was given back

-- a dispatcher that gave its claim back is idle
gives_idle : (old new : NodesValue) (d : ℕ) (id : JobId) → Asks old (event.GiveUp d) (reply.Returned id) new → dispatcher_of new.desk d ≡ Idle
gives_idle old new d id (inl lacks) = absurd (let bad = lacks.0 in cc)
gives_idle old new d id (inr (claim, busy, same, live, new_is)) = rw new_is (idle_there old.desk (d - 1))

pub returned_installs_nothing : ReturnedClaimInstallsNothing
returned_installs_nothing n1 n2 n3 d id m place number files given at is asked =
    let (claim, busy, same) = holds n2 n3 d place number files id m at is asked in
    idle_holds_none claim (sym (gives_idle n1 n2 d id given) ∙ busy)

-- a dispatcher that picked a job holds its claim alone
picks_alone : (old new : NodesValue) (d : ℕ) (told : PickedJob) (sent : Sent) (other : LiveJob) → Asks old (event.Pick d) (reply.Picked told sent) new → dispatcher_of new.desk d ≡ Busy other → other.id ≡ told.id
picks_alone old new d told sent other (inl lacks) held = absurd (let bad = lacks.0 in cc)
picks_alone old new d told sent other (inr (idle, claim, job, picked, tells, sends, new_is)) held =
    let there : get_or (slice_set old.desk (d - 1) (Busy claim)) (d - 1) Idle ≡ Busy other = rw new_is at held in
    let one = held_there old.desk (d - 1) claim other there in
    ap (λ (x : LiveJob). x.id) (sym one) ∙ ap (λ (x : LiveJob). x.id) picked.claim_is ∙ sym picked.job_is.id ∙ sym tells.0

pub late_result_not_installed : LateResultIsNotInstalled
late_result_not_installed n1 n2 n3 n4 d id told sent m place number files given picked differs at is asked =
    let (claim, busy, same) = holds n3 n4 d place number files id m at is asked in
    differs (sym (picks_alone n2 n3 d told sent claim picked busy) ∙ same)

-- ---- a message that was lost

pub lost_counts_nothing : LostMessageCountsNoNumber
lost_counts_nothing n1 n2 n3 d follower last told (inl lacks) asked = absurd (let bad = lacks.0 in cc)
lost_counts_nothing n1 n2 n3 d follower last told (inr picked) (inl lacks) = absurd (let bad = lacks.0 in cc)
lost_counts_nothing n1 n2 n3 d follower last told (inr (idle, claim, job, is, tells, lost, new_is)) (inr ((f, there, said, told_is, sends, after), rest)) =
    let same : n2.network.messages ≡ n1.network.messages = lost in
    let said_is : said ≡ sent.Messages (length n1.network.messages + 2) last = cc in
    let (texts, spelled, messages, first, end) = subst (λ (x : Sent). Sends n2.network.messages (ask_message f ∷ []) x n3.network.messages) said_is sends in
    let counted : length n1.network.messages + 2 ≡ length n1.network.messages + 1 = first ∙ ap (λ (xs : List (List ℕ)). length xs + 1) same in
    omega (arith, counted)

-- ---- a table that was let go

-- a file that is not live is none of the current version, and is not retired
bytes_none : (v : VersionSetValue) (n : ℕ) (bytes : List ℕ) → SameMembers (map (λ p. p.meta) v.served.places) v.served.version.files → is_live v n ≡ false → bytes_at v.served.places v.retired n ≡ Some bytes → ⊥
bytes_none v n bytes listed dead found =
    let parts = or_parts (list_any (has_number n) v.served.version.files) (is_some (retired_at v.retired n)) dead in
    elim (found_in (table_at v.served.places n) (retired_at v.retired n) bytes found) [
      | inl here ↦
          let named = IsIn-mapped (λ (q : Placed). q.meta.number) n v.served.places (some_place v.served.places n here.0 here.1) in
          let file = (listed named.0.meta).0 (IsIn-map (λ (q : Placed). q.meta) named.0 v.served.places named.1) in
          let live = any_from (has_number n) v.served.version.files named.0.meta file (eq-eqb named.0.meta.number n (sym named.2)) in
          false≢true (sym parts.0 ∙ live)
      | inr before ↦ false≢true (sym parts.1 ∙ ap (λ (o : Option (List ℕ)). is_some o) before)
    ]

-- the text after all others
last_text : (texts : List (List ℕ)) (text : List ℕ) → slice_get (texts ++ text ∷ []) (length texts) ≡ Some text
last_text [] text = refl
last_text (t ∷ texts) text = last_text texts text

-- it has the number after theirs
last_stored : (old : List (List ℕ)) (text : List ℕ) (number : ℕ) → number ≡ length old + 1 → stored_message (old ++ text ∷ []) number ≡ Some text
last_stored old text number is =
    let some : eqb number 0 ≡ false = ne_eqb number 0 (λ zero_is. omega (arith, zero_is, is)) in
    let place : number - 1 ≡ length old = omega (arith, is) in
    ap (λ (b : Bool). cond b None (slice_get (old ++ text ∷ []) (number - 1))) some ∙ ap (λ (i : ℕ). slice_get (old ++ text ∷ []) i) place ∙ last_text old text

-- the one message that was sent has the number that was told
sent_there : (old new : List (List ℕ)) (m : Message) (first : ℕ) → Sends old (m ∷ []) (sent.Messages first first) new → (text : List ℕ) × (stored_message new first ≡ Some text) × IsSpelled text m
sent_there old new m first ([], spelled, more, first_is, end) = absurd spelled
sent_there old new m first (text ∷ s ∷ texts, spelled, more, first_is, end) = absurd spelled.1
sent_there old new m first (text ∷ [], spelled, more, first_is, end) = (text, rw more (last_stored old text first first_is), spelled.0)

-- what a node that fetches a file is answered
abbrev table_answer : NodesValue → Node → ℕ → Message
table_answer n asker file = record { src = Coordinator; dst = asker; body = table_body file (bytes_at n.core.served.places n.core.retired file) }

-- what the coordinator sends a node that fetched is its answer
served_answer : (old new : NodesValue) (place answer file : ℕ) (asker : Node) (m said : Message) → IsMessageAt old.network.messages place m → IsFetchOf m asker file → Asks old (event.Deliver place) (reply.Served (sent.Messages answer answer)) new → IsMessageAt new.network.messages answer said → said.body ≡ table_body file (bytes_at old.core.served.places old.core.retired file)
served_answer old new place answer file asker m said at is (inl lacks) answered = absurd (let bad = lacks.0 in cc)
served_answer old new place answer file asker m said at is (inr (text, stored, taken, spelled, delivers)) answered =
    let same = one_message old.network.messages place taken m (text, stored, spelled) at ∙ is in
    let received = subst (λ (x : Message). Delivers old x x.dst (reply.Served (sent.Messages answer answer)) new) same delivers in
    let (reply_message, answers, told, told_is, sends, new_is) = received in
    let told_same : told ≡ sent.Messages answer answer = cc in
    let there = sent_there old.network.messages new.network.messages reply_message answer (subst (λ (x : Sent). Sends old.network.messages (reply_message ∷ []) x new.network.messages) told_same sends) in
    let one = one_message new.network.messages answer said reply_message answered there in
    ap (λ (x : Message). x.body) (one ∙ sym (same_Some (table_answer old asker file) reply_message answers))

pub let_go_not_served : TableLetGoIsNotServed
let_go_not_served n1 n2 n3 v floor file place answer removed bytes asker m said served (inl lacks) gone at is asked answered table = absurd (let bad = lacks.0 in cc)
let_go_not_served n1 n2 n3 v floor file place answer removed bytes asker m said served (inr ((allowed, floor_is, removed_is, core_is, counted), rest)) gone at is asked answered table =
    let member = subst (λ (ns : List ℕ). IsIn file ns) removed_is gone in
    let dead = not-true (is_live (version_set (with_floor n1.core v)) file) (IsIn-filter (λ (n : ℕ). not (is_live (version_set (with_floor n1.core v)) n)) file (finite.keys n1.core.stored.tables) member).1 in
    let answer_is = served_answer n2 n3 place answer file asker m said at is asked answered in
    let found = table_bytes file (bytes_at n2.core.served.places n2.core.retired file) bytes (sym answer_is ∙ table) in
    bytes_none (version_set (with_floor n1.core v)) file bytes served.listed dead (rw core_is at found)
  where
    table_bytes : (n : ℕ) (o : Option (List ℕ)) (bytes : List ℕ) → table_body n o ≡ body.Table n bytes → o ≡ Some bytes
    table_bytes n None bytes h = absurd cc
    table_bytes n (Some found) bytes h = cc
