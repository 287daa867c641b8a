use Rattle.std.proofs.Common.{◌≡◌, [], ◌<◌, IsSome, vec_len, inl, inr, length, ℕ, Vec, Global, BTreeMap, sym, ap, ◌∙◌, arith}
use Rattle.std.specs.Map.{remove_entry}
use Rattle.std.proofs.lemmas.Bool.{eqb-true, eqb-false}
use Rattle.std.proofs.lemmas.List.{nil_from_length}
use Rattle.lsm_key.specs.declared.entry.Entry.{Entry}
use Rattle.lsm_mem.specs.Chains.{chains_of, without_newest, older}
use Rattle.lsm_mem.proofs.ChainsOfMap.{is_key, without_newest-none, set_value-without_newest, remove_entry-without_newest, older_popped}
use Rattle.lsm_mem.proofs.chains.Chains.take.Goals as goal

pub returns-in_default : goal.returns-in_default
returns-in_default c =
    ap (λ (m : BTreeMap (Vec ℕ Global) (Vec Entry Global)). chains_of m.entries) c.get_mut.follows.holds-at-none
    ∙ sym (without_newest-none c.args.key.now c.self.inside.by_key.entries (sym c.in_default.ensures.value))
    ∙ ap (without_newest c.args.key.now) c.self.view_is

pub returns-then-is_empty : goal.returns-then-is_empty
returns-then-is_empty c =
    let v = c.in-Some.versions.now in
    let w = c.pop.new.self in
    let old = c.self.inside.by_key.entries in
    let none : vec_len w ≡ 0 = eqb-true (vec_len w) 0 (sym c.is_empty.ensures ∙ c.if-is_empty.true) in
    let empty : length w.items ≡ 0 = sym w.ok.0 ∙ none in
    let shorter : older v.items ≡ w.items = older_popped v.items w.items c.pop.result c.pop.ensures.items (inl empty) in
    let nothing : w.items ≡ [] = nil_from_length w.items empty in
    let left = (c.get_mut.follows.holds w).0 in
    let gone = c.remove.ensures.entries in
    ap chains_of (gone ∙ ap (remove_entry (is_key c.args.key.now)) left)
    ∙ remove_entry-without_newest c.args.key.now old v w (sym c.in-Some.ensures.value) (shorter ∙ nothing)
    ∙ ap (without_newest c.args.key.now) c.self.view_is

pub returns-else-is_empty : goal.returns-else-is_empty
returns-else-is_empty c =
    let v = c.in-Some.versions.now in
    let w = c.pop.new.self in
    let old = c.self.inside.by_key.entries in
    let not_none : vec_len w ≡ 0 → ⊥ = eqb-false (vec_len w) 0 (sym c.is_empty.ensures ∙ c.if-is_empty.false) in
    let long : vec_len w ≡ length w.items = w.ok.0 in
    let some : 0 < length w.items = omega (arith, not_none, long) in
    let counted = c.pop.ensures.len in
    let was : 0 < vec_len v = omega (arith, not_none, counted) in
    let last : IsSome c.pop.result = c.pop.ensures.variant.1 was in
    let shorter : older v.items ≡ w.items = older_popped v.items w.items c.pop.result c.pop.ensures.items (inr last) in
    let left = (c.get_mut.follows.holds w).0 in
    ap chains_of left
    ∙ set_value-without_newest c.args.key.now old v w (sym c.in-Some.ensures.value) shorter some
    ∙ ap (without_newest c.args.key.now) c.self.view_is
