use Rattle.std.proofs.Common.{◌≡◌, ◌++◌, ◌∷◌, [], List, ℕ, Vec, Global, BTreeMap, sym, ap, ◌∙◌}
use Rattle.std.proofs.lemmas.Result.{err_from_is_err_and}
use Rattle.std.specs.BTreeMap.{insert_entry}
use Rattle.lsm_key.specs.declared.entry.Entry.{Entry}
use Rattle.lsm_mem.specs.Chains.{chains_of, with_entry}
use Rattle.lsm_mem.proofs.ChainsOfMap.{set_value-same, vec_cmp, longer_is, first_is}
use Rattle.lsm_mem.proofs.chains.Chains.put.Goals as goal

pub returns-in_err-push-clause-err : goal.returns-in_err-push-clause-err
returns-in_err-push-clause-err c =
    let p = err_from_is_err_and c.from_residual.result c.from_residual.ensures.1 in
    let old = c.self.inside.by_key.entries in
    rw p.1 (ap chains_of (c.get_mut.follows.holds c.push.new.self).0 ∙ set_value-same c.as_slice.result.now old c.in-Some.versions.now c.push.new.self (sym c.in-Some.ensures.value) c.in_err-push.ensures.items ∙ c.self.view_is)

pub returns-in-Some-clause-ok : goal.returns-in-Some-clause-ok
returns-in-Some-clause-ok c =
    ap chains_of (c.get_mut.follows.holds c.push.new.self).0
    ∙ longer_is c.as_slice.result.now c.args.entry c.self.inside.by_key.entries c.in-Some.versions.now c.push.new.self c.as_slice.ensures c.in-Some.ensures.ordered c.in-Some.ensures.value c.in_ok-push.ensures.items
    ∙ ap (with_entry c.args.entry) c.self.view_is

pub returns-clause-ok : goal.returns-clause-ok
returns-clause-ok c =
    let e = c.args.entry in
    let copied : c.in_ok-key.key.items ≡ c.as_slice.result.now = c.in_ok-key.ensures.items_if_clones_equal (λ x y h. h) ∙ c.as_slice-2.ensures ∙ sym c.as_slice.ensures in
    let absent = ap (λ (m : BTreeMap (Vec ℕ Global) (Vec Entry Global)). m.entries) c.get_mut.follows.holds-at-none in
    let now : c.insert.new.self.entries ≡ insert_entry vec_cmp (c.get_mut.follows.lender-at-none).entries c.in_ok-key.key c.push-2.new.self = c.in_ok-insert.ensures.entries in
    let one : c.push-2.new.self.items ≡ e ∷ [] = c.in_ok-push-2.ensures.items ∙ ap (λ (es : List Entry). es ++ e ∷ []) c.in_ok-versions.ensures.items in
    ap chains_of (now ∙ ap (λ (ps : List (Vec ℕ Global × Vec Entry Global)). insert_entry vec_cmp ps c.in_ok-key.key c.push-2.new.self) absent)
    ∙ first_is c.as_slice.result.now e c.in_ok-key.key c.push-2.new.self c.self.inside.by_key.entries c.as_slice.ensures c.in_default.ensures.value copied one
    ∙ ap (with_entry e) c.self.view_is
