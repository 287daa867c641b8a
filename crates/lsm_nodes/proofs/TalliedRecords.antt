-- Records of tallies: what a tally keeps when it gets one more, and when another is merged into it.
use Rattle.std.proofs.Common.{◌≡◌, ℕ, ◌+◌, Bool, List, [], ◌∷◌, ◌++◌, length, arith, ap, sym, ◌∙◌, subst, count_by, cond, length-append, append-nil, append_assoc, refl}
use Rattle.std.proofs.lemmas.Grind.{flat_map-append}
use Rattle.std.proofs.lemmas.List.Sums.{sum_by-append}
use Rattle.lsm_coord.specs.declared.answer.Answer.{Answer}
use Rattle.lsm_coord.specs.declared.answer.Answer.TheVariants as answer
use Rattle.lsm_coord.specs.declared.call.Call.{Call}
use Rattle.lsm_edit.specs.Served.{ServedValue}
use Rattle.lsm_nodes.specs.Calls.{IsRecorded}
use Rattle.lsm_nodes.specs.Histories.{SharedValue, WitnessedValue}
use Rattle.lsm_nodes.specs.declared.shared.tally.Record.{Record}
use Rattle.lsm_nodes.specs.Tallies.{IsTally, TallyValue, after_merge, after_record, all_records, exchange_of, installs_by, is_done, record_at, records_of}
use Rattle.lsm_nodes.proofs.LongerHistories.{IsPlain}

pub count-append : (is : Record → Bool) (rs qs : List Record) → count_by is (rs ++ qs) ≡ count_by is rs + count_by is qs
count-append is rs qs = sum_by-append (λ (r : Record). cond (is r) 1 0) rs qs

-- a tally with one record more has recorded one more of the history
pub tally_push : (t u : TallyValue) (r : Record) (parts amount now_parts now : ℕ) → IsTally t parts amount → u ≡ after_record t r → now_parts ≡ parts → now ≡ amount + 1 → IsTally u now_parts now
tally_push t u r parts amount now_parts now k is same more =
    let rest = all_records t.others in
    let one : count_by is_done (r ∷ []) ≡ installs_by r.exchange.answer = omega arith in
    let done : count_by is_done ((t.mine ++ r ∷ []) ++ rest) ≡ count_by is_done (t.mine ++ rest) + installs_by r.exchange.answer =
    omega (arith, count-append is_done (t.mine ++ r ∷ []) rest, count-append is_done t.mine (r ∷ []), count-append is_done t.mine rest, one) in
    let length_is : length ((t.mine ++ r ∷ []) ++ rest) ≡ length (t.mine ++ rest) + 1 =
    omega (arith, length-append (t.mine ++ r ∷ []) rest, length-append t.mine (r ∷ []), length-append t.mine rest) in
    subst (λ (x : TallyValue). IsTally x now_parts now) (sym is)
    (record {
      whole = same ∙ k.whole;
      settled = (let e = k.settled in omega (arith, e));
      done = (let e = k.done in omega (arith, e, done));
      counted = (let e = k.counted in omega (arith, e, more, length_is));
    })

-- a plain answer counts as no install
pub plain_counts : (a : Answer) → IsPlain a → installs_by a ≡ 0
plain_counts (answer.Picked job) h = absurd h
plain_counts (answer.Installed number files) h = absurd h
plain_counts a h = refl

-- a record of an install that is done counts
pub counted_push : (t : TallyValue) (done : ℕ) (mine : List Record) (r : Record) → done ≡ installs_by r.exchange.answer → mine ≡ t.mine ++ r ∷ [] → record t { picked = t.picked + done; installed = t.installed + done; mine = mine } ≡ after_record t r
counted_push t done mine r counts is = λ i. record t { picked = t.picked + counts i; installed = t.installed + counts i; mine = is i }

-- a record of an answer that is no install changes no count
uncounted_push : (t : TallyValue) (mine : List Record) (r : Record) → installs_by r.exchange.answer ≡ 0 → mine ≡ t.mine ++ r ∷ [] → record t { mine = mine } ≡ after_record t r
uncounted_push t mine r none is =
    let more : (n : ℕ) → n ≡ n + installs_by r.exchange.answer = λ n. omega (arith, none) in
    λ i. record t { picked = more t.picked i; installed = more t.installed i; mine = is i }

-- ---- a call, as it is recorded

-- an exchange that was put at both ends
pub recorded_twice :
    (seen old new : SharedValue) (counted t u : TallyValue) (past : List WitnessedValue) (calls asked : Call) (answers answered : Answer) (before : ServedValue)
    → seen ≡ old → counted ≡ t → calls ≡ asked → answers ≡ answered → before ≡ seen.coord.served → past ≡ seen.history
    → new.history ≡ past ++ record { exchange = exchange_of calls answers; before = before } ∷ [] → u ≡ after_record counted (record_at (length past + 1) (exchange_of calls answers))
    → IsRecorded old new t u (exchange_of asked answered)
recorded_twice seen old new counted t u past calls asked answers answered before sees counts call answer served past_is history_is u_is =
    let w : WitnessedValue = record { exchange = exchange_of calls answers; before = before } in
    let same : exchange_of calls answers ≡ exchange_of asked answered = λ i. exchange_of (call i) (answer i) in
    let history : past ≡ old.history = past_is ∙ ap (λ (s : SharedValue). s.history) sees in (
      (w, same, served ∙ ap (λ (s : SharedValue). s.coord.served) sees, history_is ∙ ap (λ (ws : List WitnessedValue). ws ++ w ∷ []) history),
      u_is ∙ (λ i. after_record (counts i) (record_at (length (history i) + 1) (same i))),
    )

-- the same of an answer that counts as no install
pub recorded_uncounted :
    (seen old new : SharedValue) (counted t : TallyValue) (past : List WitnessedValue) (room mine : List Record) (calls asked : Call) (answers answered : Answer) (before : ServedValue)
    → seen ≡ old → counted ≡ t → installs_by answered ≡ 0 → calls ≡ asked → answers ≡ answered → before ≡ seen.coord.served → past ≡ seen.history → room ≡ counted.mine
    → new.history ≡ past ++ record { exchange = exchange_of calls answers; before = before } ∷ [] → mine ≡ room ++ record_at (length past + 1) (exchange_of calls answers) ∷ []
    → IsRecorded old new t (record counted { mine = mine }) (exchange_of asked answered)
recorded_uncounted seen old new counted t past room mine calls asked answers answered before sees counts none call answer served past_is room_is history_is mine_is =
    let r : Record = record_at (length past + 1) (exchange_of calls answers) in
    recorded_twice seen old new counted t (record counted { mine = mine }) past calls asked answers answered before sees counts call answer served past_is history_is
    (uncounted_push counted mine r (ap installs_by answer ∙ none) (mine_is ∙ ap (λ (rs : List Record). rs ++ r ∷ []) room_is))

-- the same of a plain answer
pub recorded_plainly :
    (seen old new : SharedValue) (counted t : TallyValue) (past : List WitnessedValue) (room mine : List Record) (calls asked : Call) (answers answered : Answer) (before : ServedValue)
    → seen ≡ old → counted ≡ t → IsPlain answered → calls ≡ asked → answers ≡ answered → before ≡ seen.coord.served → past ≡ seen.history → room ≡ counted.mine
    → new.history ≡ past ++ record { exchange = exchange_of calls answers; before = before } ∷ [] → mine ≡ room ++ record_at (length past + 1) (exchange_of calls answers) ∷ []
    → IsRecorded old new t (record counted { mine = mine }) (exchange_of asked answered)
recorded_plainly seen old new counted t past room mine calls asked answers answered before sees counts plain =
    recorded_uncounted seen old new counted t past room mine calls asked answers answered before sees counts (plain_counts answered plain)

-- merged tallies have the records of both
pub tally_merge : (t u : TallyValue) (parts amount more_parts more now_parts now : ℕ) → IsTally t parts amount → IsTally u more_parts more → now_parts ≡ parts + more_parts → now ≡ amount + more → IsTally (after_merge t u) now_parts now
tally_merge t u parts amount more_parts more now_parts now k l ps ns =
    let all : records_of (after_merge t u) ≡ records_of t ++ records_of u =
    ap (λ (rs : List Record). t.mine ++ rs) (flat_map-append (λ (rs : List Record). rs) (t.others ++ u.mine ∷ []) u.others ∙ ap (λ (rs : List Record). rs ++ all_records u.others) (flat_map-append (λ (rs : List Record). rs) t.others (u.mine ∷ [])) ∙ append_assoc (all_records t.others) (u.mine ++ []) (all_records u.others) ∙ ap (λ (rs : List Record). all_records t.others ++ (rs ++ all_records u.others)) (append-nil u.mine))
    ∙ sym (append_assoc t.mine (all_records t.others) (u.mine ++ all_records u.others)) in
    record {
      whole = omega (arith, ps, k.whole, l.whole);
      settled = omega (arith, k.settled, l.settled);
      done = omega (arith, k.done, l.done, ap (count_by is_done) all, count-append is_done (records_of t) (records_of u));
      counted = omega (arith, ns, k.counted, l.counted, ap length all, length-append (records_of t) (records_of u));
    }

-- the installs of a manifest that has these after those
pub more_installs : (all before after : List (ℕ × List ℕ)) (count : ℕ) → all ≡ before ++ after → length after ≡ count → length all ≡ length before + count
more_installs all before after count is are = ap (λ (xs : List (ℕ × List ℕ)). length xs) is ∙ (length-append before after ∙ ap (λ (n : ℕ). length before + n) are)
