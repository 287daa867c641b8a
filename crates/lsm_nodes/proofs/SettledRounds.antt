-- What a round adds to a tally: each job that it picks, it settles.
use Rattle.std.proofs.Common.{◌≡◌, ℕ, ◌+◌, ◌≤◌, Bool, false, List, [], ◌∷◌, ◌++◌, count_by, cond, refl, sym, ap, subst, ◌∙◌, inl, inr, arith, append-nil, append_assoc}
use Rattle.std.specs.List.{AllByRecursion}
use Rattle.lsm_claim.specs.declared.ending.Settled.{Settled}
use Rattle.lsm_claim.specs.declared.ending.Settled.TheVariants.{Live, Stale}
use Rattle.lsm_claim.specs.declared.job.JobId.{JobId}
use Rattle.lsm_claim.specs.declared.job.LiveJob.{LiveJob}
use Rattle.lsm_msg.specs.declared.job.JobParts.{JobParts}
use Rattle.lsm_msg.specs.declared.job.JobResult.{JobResult}
use Rattle.lsm_coord.specs.declared.answer.Answer.{Answer}
use Rattle.lsm_coord.specs.declared.answer.Answer.TheVariants as answer
use Rattle.lsm_coord.specs.declared.call.Call.{Call}
use Rattle.lsm_coord.specs.declared.call.Call.TheVariants as call
use Rattle.lsm_nodes.specs.declared.shared.tally.Record.{Record}
use Rattle.lsm_nodes.specs.Tallies.{IsDispatched, IsOfDispatcher, MayRecord, SettlesPicks, TallyValue, after_record, exchange_of, finds_stale, gives_job, installs_by, is_pick, is_stale, record_at, with_return}
use Rattle.lsm_nodes.proofs.TalliedRecords.{count-append}

all_append : (P : Record → Type 0) (rs qs : List Record) → AllByRecursion P rs → AllByRecursion P qs → AllByRecursion P (rs ++ qs)
all_append P [] qs a b = b
all_append P (r ∷ rs) qs a b = (a.0, all_append P rs qs a.1 b)

-- Records of a dispatcher's calls were added. So many of them picked a job, and so many found a claim stale; so many claims were
-- counted, and so many of these as stale.
pub record Adds (t u : TallyValue) (picks counted found stale : ℕ) : Type 0 where
  pub more : List Record
  pub mine : u.mine ≡ t.mine ++ more
  pub asked : AllByRecursion (λ r. IsOfDispatcher r.exchange.call) more
  pub picks_are : count_by is_pick more ≡ picks
  pub found_are : count_by is_stale more ≡ found
  pub picked : u.picked ≡ t.picked + counted
  pub staled : u.stale ≡ t.stale + stale
  pub returned : t.returned ≤ u.returned

pub adds_then : (t u v : TallyValue) (p q c d f g s r : ℕ) → Adds t u p c f s → Adds u v q d g r → Adds t v (p + q) (c + d) (f + g) (s + r)
adds_then t u v p q c d f g s r a b = record {
  more = a.more ++ b.more;
  mine = b.mine ∙ ap (λ (rs : List Record). rs ++ b.more) a.mine ∙ append_assoc t.mine a.more b.more;
  asked = all_append (λ r. IsOfDispatcher r.exchange.call) a.more b.more a.asked b.asked;
  picks_are = omega (arith, count-append is_pick a.more b.more, a.picks_are, b.picks_are);
  found_are = omega (arith, count-append is_stale a.more b.more, a.found_are, b.found_are);
  picked = omega (arith, a.picked, b.picked);
  staled = omega (arith, a.staled, b.staled);
  returned = omega (arith, a.returned, b.returned);
}

-- one record more
adds_record : (t u : TallyValue) (position : ℕ) (asked : Call) (answered : Answer) → IsOfDispatcher asked → u ≡ after_record t (record_at position (exchange_of asked answered))
    → Adds t u (cond (gives_job answered) 1 0) (installs_by answered) (cond (finds_stale answered) 1 0) 0
adds_record t u position asked answered own is = record {
  more = record_at position (exchange_of asked answered) ∷ [];
  mine = ap (λ (x : TallyValue). x.mine) is;
  asked = (own, tt);
  picks_are = omega arith;
  found_are = omega arith;
  picked = ap (λ (x : TallyValue). x.picked) is;
  staled = (let same = ap (λ (x : TallyValue). x.stale) is in omega (arith, same));
  returned = (let same = ap (λ (x : TallyValue). x.returned) is in omega (arith, same));
}

adds_none : (t u : TallyValue) → u ≡ t → Adds t u 0 0 0 0
adds_none t u is = record {
  more = [];
  mine = ap (λ (x : TallyValue). x.mine) is ∙ sym (append-nil t.mine);
  asked = tt;
  picks_are = refl;
  found_are = refl;
  picked = (let same = ap (λ (x : TallyValue). x.picked) is in omega (arith, same));
  staled = (let same = ap (λ (x : TallyValue). x.stale) is in omega (arith, same));
  returned = (let same = ap (λ (x : TallyValue). x.returned) is in omega (arith, same));
}

-- a call of a dispatcher whose answer says what is counted of it
adds_asked : (t u : TallyValue) (position : ℕ) (asked : Call) (answered : Answer) (picks counted found : ℕ) → cond (gives_job answered) 1 0 ≡ picks → installs_by answered ≡ counted → cond (finds_stale answered) 1 0 ≡ found
    → IsOfDispatcher asked → u ≡ after_record t (record_at position (exchange_of asked answered)) → Adds t u picks counted found 0
adds_asked t u position asked answered picks counted found gives installs finds own is =
    subst (λ (n : ℕ). Adds t u n counted found 0) gives (subst (λ (n : ℕ). Adds t u (cond (gives_job answered) 1 0) n found 0) installs
    (subst (λ (n : ℕ). Adds t u (cond (gives_job answered) 1 0) (installs_by answered) n 0) finds (adds_record t u position asked answered own is)))

-- a pick that gives a job is recorded
pub picks_one : (t u : TallyValue) (picked : LiveJob × JobParts) (missed : Type 0) → (missed → ⊥) → MayRecord missed t u (exchange_of call.Pick (answer.Picked picked.1)) → Adds t u 1 0 0 0
picks_one t u picked missed never (inl m) = absurd (never m.0)
picks_one t u picked missed never (inr r) = adds_record t u r.0 call.Pick (answer.Picked picked.1) tt r.1

-- a call of a dispatcher that gives no job, finds no claim stale, and is no install that is done
pub picks_none : (t u : TallyValue) (asked : Call) (answered : Answer) (missed : Type 0) → gives_job answered ≡ false → installs_by answered ≡ 0 → finds_stale answered ≡ false → IsOfDispatcher asked
    → MayRecord missed t u (exchange_of asked answered) → Adds t u 0 0 0 0
picks_none t u asked answered missed idle none live own (inl m) = adds_none t u m.1
picks_none t u asked answered missed idle none live own (inr r) =
    adds_asked t u r.0 asked answered 0 0 0 (ap (λ (b : Bool). cond b 1 0) idle) none (ap (λ (b : Bool). cond b 1 0) live) own r.1

-- an install that is done is recorded, and counts
pub installs_one : (t u : TallyValue) (id : JobId) (made : JobResult) (number : ℕ) (files : List ℕ) (missed : Type 0) → (missed → ⊥) → MayRecord missed t u (exchange_of (call.Install id made) (answer.Installed number files)) → Adds t u 0 1 0 0
installs_one t u id made number files missed never (inl m) = absurd (never m.0)
installs_one t u id made number files missed never (inr r) = adds_record t u r.0 (call.Install id made) (answer.Installed number files) tt r.1

-- an install whose claim is stale is recorded
pub finds_one : (t u : TallyValue) (id : JobId) (made : JobResult) (which : JobId) (epoch : ℕ) (missed : Type 0) → (missed → ⊥) → MayRecord missed t u (exchange_of (call.Install id made) (answer.Stale which epoch)) → Adds t u 0 0 1 0
finds_one t u id made which epoch missed never (inl m) = absurd (never m.0)
finds_one t u id made which epoch missed never (inr r) = adds_record t u r.0 (call.Install id made) (answer.Stale which epoch) tt r.1

-- 1 for a claim that was stale, else 0
abbrev pub stale_by : Settled → ℕ
stale_by Live = 0
stale_by Stale = 1

-- a claim that is given back counts
pub returns_one : (t u : TallyValue) (settled : Settled) → u ≡ with_return t settled → Adds t u 0 1 0 (stale_by settled)
returns_one t u Live is = record {
  more = [];
  mine = ap (λ (x : TallyValue). x.mine) is ∙ sym (append-nil t.mine);
  asked = tt;
  picks_are = refl;
  found_are = refl;
  picked = ap (λ (x : TallyValue). x.picked) is;
  staled = (let same = ap (λ (x : TallyValue). x.stale) is in omega (arith, same));
  returned = (let same = ap (λ (x : TallyValue). x.returned) is in omega (arith, same));
}
returns_one t u Stale is = record {
  more = [];
  mine = ap (λ (x : TallyValue). x.mine) is ∙ sym (append-nil t.mine);
  asked = tt;
  picks_are = refl;
  found_are = refl;
  picked = ap (λ (x : TallyValue). x.picked) is;
  staled = ap (λ (x : TallyValue). x.stale) is;
  returned = (let same = ap (λ (x : TallyValue). x.returned) is in omega (arith, same));
}

pub settles : (t u : TallyValue) (n found stale : ℕ) → found ≤ stale → Adds t u n n found stale → SettlesPicks t u
settles t u n found stale le a = record {
  more = a.more;
  mine = a.mine;
  asked = a.asked;
  picked = omega (arith, a.picked, a.picks_are);
  returned = a.returned;
  stale = omega (arith, a.staled, a.found_are, le);
}

-- nothing is picked
pub settles_none : (t u : TallyValue) (answered : Answer) (missed : Type 0) → gives_job answered ≡ false → installs_by answered ≡ 0 → finds_stale answered ≡ false → MayRecord missed t u (exchange_of call.Pick answered) → SettlesPicks t u
settles_none t u answered missed idle none live h = settles t u 0 0 0 (omega arith) (picks_none t u call.Pick answered missed idle none live tt h)

-- one round after others
pub settles_then : (t u v : TallyValue) → SettlesPicks t u → SettlesPicks u v → SettlesPicks t v
settles_then t u v a b = record {
  more = a.more ++ b.more;
  mine = b.mine ∙ ap (λ (rs : List Record). rs ++ b.more) a.mine ∙ append_assoc t.mine a.more b.more;
  asked = all_append (λ r. IsOfDispatcher r.exchange.call) a.more b.more a.asked b.asked;
  picked = omega (arith, a.picked, b.picked, count-append is_pick a.more b.more);
  returned = omega (arith, a.returned, b.returned);
  stale = omega (arith, a.stale, b.stale, count-append is_stale a.more b.more);
}

pub settles_nothing : (t : TallyValue) → SettlesPicks t t
settles_nothing t = record { more = []; mine = sym (append-nil t.mine); asked = tt; picked = omega arith; returned = omega arith; stale = omega arith }

-- ---- several rounds

pub dispatched_none : (t : TallyValue) → IsDispatched t 0 t
dispatched_none t = record { parts = refl; picked = omega arith; others = refl; settled = settles_nothing t }

pub dispatched_then : (t u v : TallyValue) (rounds more : ℕ) → IsDispatched t rounds u → IsDispatched u more v → IsDispatched t (rounds + more) v
dispatched_then t u v rounds more a b = record {
  parts = b.parts ∙ a.parts;
  picked = omega (arith, a.picked, b.picked);
  others = b.others ∙ a.others;
  settled = settles_then t u v a.settled b.settled;
}

-- fewer rounds are at most as many
pub dispatched_within : (t u : TallyValue) (rounds most : ℕ) → rounds ≤ most → IsDispatched t rounds u → IsDispatched t most u
dispatched_within t u rounds most le a = record { parts = a.parts; picked = omega (arith, a.picked, le); others = a.others; settled = a.settled }
