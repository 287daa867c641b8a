use Rattle.std.proofs.Common.{◌∙◌, ◌++◌, ◌∷◌, [], ℕ, List, All, not, ap, sym, subst, arith}
use Rattle.std.specs.List.{filter}
use Rattle.std.specs.List.Sorted.{IsNonDecreasing}
use Rattle.std.proofs.lemmas.List.{take_all}
use Rattle.std.proofs.lemmas.List.Elements.{All-append}
use Rattle.lsm_key.specs.Sets.{is_among}
use Rattle.lsm_edit.specs.declared.file.FileMeta.{FileMeta}
use Rattle.lsm_msg.specs.declared.message.Body.TheVariants as body
use Rattle.lsm_msg.specs.declared.message.Message.{Message}
use Rattle.lsm_msg.specs.Messages.{IsFileNumber, IsMessage, fetches, to_coordinator}
use Rattle.lsm_msg.specs.Rules.{IsInput}
use Rattle.lsm_msg.specs.declared.node.Node.TheVariants.{Worker}
use Rattle.lsm_work.specs.Workers.{TaskValue, missing}
use Rattle.lsm_work.proofs.HeldInputs.{missing_is, numbers_ascend, among_found}
use Rattle.lsm_work.proofs.Steps.{All-one, asked_one, asked_none, lacks}
use Rattle.lsm_work.proofs.task.Task.fetches.Goals as goal
use Rattle.lsm_work.proofs.task.Task.fetches.Goals.{then-is_err+in_ok-push, else-is_err}

pub loop-file-preserved : goal.loop-file-preserved
loop-file-preserved c =
    let i = c.self.inside in
    let held = c.self.invariant.0 in
    let files = c.inputs-file-items.result.now in
    let file = c.file-item.result in
    let sent = c.loop-file.sent.items in
    let up = subst IsNonDecreasing (sym c.deref.ensures.value) (numbers_ascend i.job i.numbers.items i.tables.items held) in
    let found = among_found c.deref.result.now file.number c.binary_search.result up c.binary_search.ensures.bound c.binary_search.ensures.position in
    let among = sym (ap (λ (ns : List ℕ). is_among ns file.number) c.deref.ensures.value) ∙ sym found ∙ c.is_err.ensures.negation in
    elim c.if-is_err.branch [
      | then-is_err+in_ok-push w ↦
          let each = subst (λ (fs : List FileMeta). All (IsInput i.job.level) fs) (sym c.inputs-file-items.ensures.all) held.job.inputs.each in
          let own = subst (λ (f : FileMeta). IsInput i.job.level f) (sym c.file-item.is) (each c.loop-file.file-index file c.loop-file-test.true) in
          let number = subst IsFileNumber (sym w.new.ensures) (own.file.first, own.file.last) in
          let pushed = ap (λ v. v.items) w.sent-is ∙ w.in_ok-push.ensures.items in
          let asked = w.from_worker.ensures.all ∙ ap (λ (n : ℕ). to_coordinator (Worker c.args.index) (body.Fetch n)) w.new.ensures in (
            pushed ∙ ap (λ (m : Message). sent ++ m ∷ []) asked ∙ asked_one c.args.index i.numbers.items files c.loop-file.file-index file sent c.loop-file-test.true c.file-item.is c.loop-file.invariant.0 (among ∙ ap not w.if-is_err.true),
            subst (λ (ms : List Message). All IsMessage ms) (sym pushed) (All-append IsMessage sent (w.from_worker.result ∷ []) c.loop-file.invariant.1 (All-one IsMessage w.from_worker.result (w.from_worker.ensures.sound number))),
          )
      | else-is_err w ↦
          let same = ap (λ v. v.items) w.sent-is in (
            same ∙ asked_none c.args.index i.numbers.items files c.loop-file.file-index file sent c.loop-file-test.true c.file-item.is c.loop-file.invariant.0 (among ∙ ap not w.if-is_err.false),
            subst (λ (ms : List Message). All IsMessage ms) (sym same) c.loop-file.invariant.1,
          )
    ]

pub returns-clause-all : goal.returns-clause-all
returns-clause-all c =
    let i = c.self.inside in
    let files = c.inputs-file-items.result.now in
    let all = take_all c.loop-file.file-index files (omega (arith, c.loop-file-test.false)) in
    let missed = missing_is i.job i.numbers.items i.tables.items c.self.invariant.0 in
    c.loop-file.invariant.0
    ∙ ap (λ (fs : List FileMeta). fetches (Worker c.args.index) (filter (lacks i.numbers.items) fs)) (all ∙ c.inputs-file-items.ensures.all)
    ∙ ap (fetches (Worker c.args.index)) (sym missed ∙ ap (λ (t : TaskValue). missing t) c.self.view_is)
