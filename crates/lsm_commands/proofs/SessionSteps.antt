-- What the sequences that a session or a command tells are.
use Rattle.std.proofs.Common.{◌≡◌, ℕ, ◌+◌, ◌≤◌, List, [], ◌∷◌, ◌++◌, Option, length, length-append, refl, subst, arith, inl, inr}
use Rattle.std.specs.Io.KnownBytes.{Appends}
use Rattle.std.specs.Prelude.{min}
use Rattle.lsm_key.specs.declared.op.Op.{Op}
use Rattle.lsm_coord.specs.Contract.Value.{CoordValue}
use Rattle.lsm_line.specs.declared.call.Call.TheVariants as call
use Rattle.lsm_store.specs.Store.{Accepts, CanWrite, IsLatestSequence, Keeps}
use Rattle.lsm_store.specs.declared.error.StoreError.{StoreError}
use Rattle.lsm_commands.specs.AnswerLines.{answer_text}
use Rattle.lsm_commands.specs.Once.{WritesSequence}
use Rattle.lsm_commands.specs.Sessions.{AnswersCall, HaveNextSequences}
use Rattle.lsm_commands.specs.declared.session.answer.Answer.{Answer}
use Rattle.lsm_commands.specs.declared.session.answer.Answer.TheVariants.{Wrote, Stored, Snapped, Released, Got, Scanned, Shown, Refused}

-- a batch that can be written has an operation
some_ops : (c : CoordValue) (ops : List Op) → CanWrite c ops → 1 ≤ length ops
some_ops c [] (inl e) = absurd cc
some_ops c [] (inr e) = absurd cc
some_ops c (op ∷ ops) can = omega arith

pub next_sequences : (old new : CoordValue) (ops : List Op) (before first last : ℕ) → CanWrite old ops → Accepts old ops new → IsLatestSequence old before → IsLatestSequence new last → first ≡ min (before + 1) last → HaveNextSequences old ops first last
next_sequences old new ops before first last can accepts was is e writes snapshots h =
    let some = some_ops old ops can in
    let before_is = was writes snapshots h in
    let last_is = is (writes ++ ops) snapshots (accepts writes snapshots h) in
    let sum = length-append writes ops in
    (omega (arith, some, before_is, last_is, sum, e), omega (arith, last_is, sum))

-- an operation that is answered with its sequence is accepted, and a sync behind it keeps it
pub wrote_op : (old mid new : CoordValue) (op : Op) (ops : List Op) (answer : Answer) (held holds : Option (List ℕ))
    → ops ≡ op ∷ [] → AnswersCall old (call.Write ops) answer mid → ((why : StoreError) → answer ≡ Refused why → ⊥) → Keeps mid new → Appends held holds (answer_text answer ++ 10 ∷ []) → WritesSequence old op new held holds
wrote_op old mid new op ops (Wrote first last) held holds is answers done keeps wrote = (
  first,
  last,
  subst (λ (os : List Op). HaveNextSequences old os first last) is answers.1,
  subst (λ (os : List Op). Accepts old os new) is (λ writes snapshots h. keeps (writes ++ ops) snapshots (answers.0 writes snapshots h)),
  wrote,
)
wrote_op old mid new op ops (Refused why) held holds is answers done keeps wrote = absurd (done why refl)
wrote_op old mid new op ops (Stored last) held holds is answers done keeps wrote = absurd answers
wrote_op old mid new op ops (Snapped id last) held holds is answers done keeps wrote = absurd answers
wrote_op old mid new op ops (Released id) held holds is answers done keeps wrote = absurd answers
wrote_op old mid new op ops (Got value) held holds is answers done keeps wrote = absurd answers
wrote_op old mid new op ops (Scanned pairs) held holds is answers done keeps wrote = absurd answers
wrote_op old mid new op ops (Shown version) held holds is answers done keeps wrote = absurd answers
