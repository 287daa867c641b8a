-- Requests that were run so far, whatever the input has.
use Rattle.std.proofs.Common.{◌≡◌, ◌∙◌, List, ℕ, [], ◌∷◌, ◌++◌, false, Option, Ok, Err, append_assoc, append-nil, sym, ap, subst}
use Rattle.std.specs.Io.KnownBytes.{Appends}
use Rattle.std.proofs.KnownBytes.{Appends-trans}
use Rattle.lsm_coord.specs.Contract.Calls.{MayHaveFailed}
use Rattle.lsm_coord.specs.Contract.Value.{CoordValue}
use Rattle.lsm_resp.specs.declared.fault.ProtocolFault.{ProtocolFault}
use Rattle.lsm_resp.specs.declared.reply.RespReply.TheVariants as reply
use Rattle.lsm_resp.specs.Wire.{reply_bytes}
use Rattle.lsm_serve.specs.declared.error.ServeError.{ServeError}
use Rattle.lsm_serve.specs.declared.error.ServeError.TheVariants.{Protocol}
use Rattle.lsm_serve.specs.Serving.{AnswersLast, error_text}
use Rattle.lsm_serve.specs.ServingSteps.{AnswersFault, AnswersOne, AreSent, RanSoFar, RepliesSoFar}
use Rattle.lsm_serve.proofs.RequestsSoFar.{Requests, answered_all, answered_next, answered_none, sent_all, sent_more, sent_none}
use Rattle.lsm_serve.proofs.Syncs.{replies_end, replies_resume}

pub ran_none : (old : CoordValue) (held : Option (List ℕ)) (out : List ℕ) → out ≡ [] → RanSoFar old held old out held
ran_none old held out none = record {
  done = [];
  bytes = [];
  answered = answered_none old [];
  sent = subst (λ (o : List ℕ). AreSent held held [] o) (sym none) (sent_none held);
}

module _ (old now : CoordValue) (held holds : Option (List ℕ)) (out : List ℕ) (s : RanSoFar old held now out holds) where
  -- one more request, which is no QUIT
  pub ran_next : (mid : CoordValue) (request : List (List ℕ)) (out_new : List ℕ) → AnswersOne {E = Unit {0}} now request out out_new (Ok false) mid → RanSoFar old held mid out_new holds
  ran_next mid request out_new one =
      let was = s.answered in
      let next : RepliesSoFar old (s.done ++ request ∷ []) (request ∷ []) s.bytes now = record {
        done = was.done;
        parted = ap (λ (ds : Requests). ds ++ request ∷ []) (was.parted ∙ append-nil was.done);
        goes_on = was.goes_on;
        completes = was.completes;
      } in
      record {
        done = s.done ++ request ∷ [];
        bytes = s.bytes ++ one.0;
        answered = answered_next old now mid (s.done ++ request ∷ []) [] request s.bytes one.0 next one.1 one.3;
        sent = sent_more held holds s.bytes out s.sent one.0 out_new one.2;
      }

  -- the replies that were kept are written
  pub ran_written : (after : Option (List ℕ)) (out_new : List ℕ) → Appends holds after out → out_new ≡ [] → RanSoFar old held now out_new after
  ran_written after out_new wrote none = record { done = s.done; bytes = s.bytes; answered = s.answered; sent = sent_all held holds s.bytes out s.sent after out_new wrote none }

  -- the store is synced
  pub ran_synced : (new : CoordValue) → MayHaveFailed now new → RanSoFar old held new out holds
  ran_synced new failed = record {
    done = s.done;
    bytes = s.bytes;
    answered = record {
      done = s.answered.done;
      parted = s.answered.parted;
      goes_on = s.answered.goes_on;
      completes = λ more rest last r. s.answered.completes more rest last (replies_resume now new last more rest failed r);
    };
    sent = s.sent;
  }

  -- an error line is written behind all replies
  pub ran_fault : (A : Type 0) (new : CoordValue) (after : Option (List ℕ)) (fault : ProtocolFault) (why : ServeError) → MayHaveFailed now new → AnswersFault fault holds after out why → AnswersLast {A = A} old held after (Err why) new
  ran_fault A new after fault (Protocol other) failed p =
      let line : List ℕ = reply_bytes (reply.Error (error_text p.1)) in
      let all = Appends-trans held holds after s.sent.sent (out ++ line) s.sent.written p.2 in (
        s.done,
        s.bytes,
        p.1,
        replies_end old now new s.done s.bytes failed (answered_all old now s.done s.bytes s.answered),
        subst (λ (b : List ℕ). Appends held after b) (sym (append_assoc s.sent.sent out line) ∙ ap (λ (b : List ℕ). b ++ line) (sym s.sent.kept)) all,
      )
  ran_fault A new after fault why failed p = tt
