-- A job that is sent to a worker, and its result that comes.
use Rattle.std.proofs.Common.{◌≡◌, ℕ, List, [], ◌∷◌, ◌++◌, Option, None, Some, refl, subst, append-nil}
use Rattle.lsm_claim.specs.declared.job.JobId.{JobId}
use Rattle.lsm_msg.specs.declared.job.JobParts.{JobParts}
use Rattle.lsm_msg.specs.declared.job.JobResult.{JobResult}
use Rattle.lsm_msg.specs.declared.message.Body.TheVariants as body
use Rattle.lsm_msg.specs.declared.message.Message.{Message}
use Rattle.lsm_threads.specs.Ports.{Traffic}
use Rattle.lsm_threads.specs.Serving.{AnswersOver, BringsBack, Carries, FindsNext, FindsResult, ServesOver, sent_job}
use Rattle.lsm_threads.proofs.Passing.{passes_then}
use Rattle.lsm_threads.proofs.ServeSteps.{serves_over, serves_then}

pub finds_result : (id : JobId) (was has held holds : Option (List Message)) (m : Message) (made : JobResult) → m.body ≡ body.Result made → made.job ≡ id → Traffic was has held holds (m ∷ []) [] → FindsNext id was has held holds (Some made)
finds_result id was has held holds m made result named passes = record { last = m; result = result; named = named; passes = passes }

pub finds_question : (id : JobId) (was mid has held half holds : Option (List Message)) (m : Message) → Traffic was mid held half (m ∷ []) [] → AnswersOver m mid has half holds → FindsNext id was has held holds None
finds_question id was mid has held half holds m comes a = serves_over m was mid has held half holds comes a

pub carries_none : (worker : ℕ) (job : JobParts) (was has held holds : Option (List Message)) → Traffic was has held holds [] (sent_job worker job ∷ []) → Carries worker job was has held holds
carries_none worker job was has held holds passes = record { messages = []; answers = []; serves = refl; passes = passes }

pub carries_more : (worker : ℕ) (job : JobParts) (was mid has held half holds : Option (List Message)) → Carries worker job was mid held half → ServesOver mid has half holds → Carries worker job was has held holds
carries_more worker job was mid has held half holds so t = record {
  messages = so.messages ++ t.message ∷ [];
  answers = so.answers ++ t.said;
  serves = serves_then so.messages so.answers t.message t.said so.serves t.answered;
  passes = passes_then was mid has held half holds so.messages (t.message ∷ []) (sent_job worker job ∷ so.answers) t.said so.passes t.passes;
}

pub brings_back : (worker : ℕ) (job : JobParts) (id : JobId) (was mid has held half holds : Option (List Message)) (made : JobResult) → Carries worker job was mid held half → FindsResult id mid has half holds made → BringsBack worker job was has held holds made
brings_back worker job id was mid has held half holds made so t = record {
  messages = so.messages;
  answers = so.answers;
  last = t.last;
  serves = so.serves;
  result = t.result;
  passes = subst (λ (w : List Message). Traffic was has held holds (so.messages ++ t.last ∷ []) w) (append-nil (sent_job worker job ∷ so.answers))
      (passes_then was mid has held half holds so.messages (t.last ∷ []) (sent_job worker job ∷ so.answers) [] so.passes t.passes);
}
