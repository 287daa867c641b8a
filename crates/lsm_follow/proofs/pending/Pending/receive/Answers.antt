use Rattle.std.proofs.Common.{◌≡◌, ◌∙◌, ◌∷◌, ◌++◌, [], List, not, cond, filter, get_or, is_ok, ap}
use Rattle.std.specs.List.{remove}
use Rattle.lsm_edit.specs.declared.file.FileMeta.{FileMeta}
use Rattle.lsm_edit.specs.declared.served.Placed.{Placed}
use Rattle.lsm_edit.specs.File.{same_file}
use Rattle.lsm_follow.specs.Followers.{PendingValue}
use Rattle.lsm_follow.proofs.FilteredFiles.{get_same, removed_is}
use Rattle.lsm_follow.proofs.pending.Pending.receive.Goals as goal

pub returns-clause-ok : goal.returns-clause-ok
returns-clause-ok c =
    λ f at.
    let was : c.self.inside.missing.items ≡ c.args.self.now.missing = ap (λ (p : PendingValue). p.missing) c.self.view_is in
    let had : c.self.inside.received.items ≡ c.args.self.now.received = ap (λ (p : PendingValue). p.received) c.self.view_is in
    let meta : c.remove-meta.result ≡ f = c.remove-meta.ensures.value ∙ ap (λ (fs : List FileMeta). get_or fs c.args.at c.remove-meta.result) was ∙ get_same c.args.self.now.missing c.args.at c.remove-meta.result f at.0 ∙ at.1 in
    let missing : c.remove-meta.new.self.items ≡ filter (λ g. not (same_file g f)) c.args.self.now.missing = c.remove-meta.ensures.items ∙ ap (λ (fs : List FileMeta). remove fs c.args.at) was ∙ removed_is c.args.self.now.missing c.args.at f c.requires.rising at.0 at.1 in
    let received : c.push.new.self.items ≡ c.args.self.now.received ++ (record { meta = f; table = c.args.table }) ∷ [] =
    c.push.ensures.items
    ∙ ap (λ r. cond (is_ok r) (c.reserve.new.self.items ++ (record { meta = c.remove-meta.result; table = c.args.table }) ∷ []) c.reserve.new.self.items) c.unwrap.ensures
    ∙ ap (λ (ps : List Placed). ps ++ (record { meta = c.remove-meta.result; table = c.args.table }) ∷ []) (c.in_ok-reserve.ensures.items ∙ had)
    ∙ ap (λ (g : FileMeta). c.args.self.now.received ++ (record { meta = g; table = c.args.table }) ∷ []) meta in
    λ i. record { target = (c.self.view_is i).target; missing = missing i; received = received i }
