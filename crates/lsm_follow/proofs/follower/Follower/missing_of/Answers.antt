use Rattle.std.proofs.Common.{◌∙◌, not, List, filter, ap, subst, arith}
use Rattle.std.proofs.lemmas.List.{take_all}
use Rattle.lsm_edit.specs.declared.file.FileMeta.{FileMeta}
use Rattle.lsm_follow.specs.Pending.{IsFollower, has_come}
use Rattle.lsm_follow.proofs.ReceivedTables.{missing_are}
use Rattle.lsm_follow.proofs.follower.Follower.missing_of.Goals as goal

pub returns : goal.returns
returns c =
    let s = c.args.self.now in
    let files = take_all c.loop-file.file-index c.files-file-items.result.now (omega (arith, c.loop-file-test.false)) ∙ c.files-file-items.ensures.all in
    c.loop-file.invariant ∙ ap (λ (fs : List FileMeta). filter (λ f. not (has_come s f)) fs) files ∙ missing_are s (subst IsFollower c.self.view_is c.self.invariant) c.args.target.now
