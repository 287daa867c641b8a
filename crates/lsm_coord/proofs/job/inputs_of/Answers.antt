use Rattle.std.proofs.Common.{◌≡◌, ◌+◌, ◌++◌, ◌∷◌, [], Bool, List, ℕ, drop, map, length, get_or, true, false, ◌<◌, sym, ap, subst, ◌∙◌}
use Rattle.std.proofs.lemmas.List.{drop_more, append_assoc}
use Rattle.lsm_edit.specs.declared.file.FileMeta.{FileMeta}
use Rattle.lsm_pick.specs.Rule.{inputs_of}
use Rattle.lsm_coord.proofs.GatheredParts.{input_is_next, input_is_not_next}
use Rattle.lsm_coord.proofs.job.inputs_of.Goals as goal

not_both : (b : Bool) → b ≡ true → b ≡ false → ⊥
not_both b h k = cc

pub loop-file-preserved-then-not-stands_at : goal.loop-file-preserved-then-not-stands_at
loop-file-preserved-then-not-stands_at c =
    let want = c.args.want.now in
    let fs = c.args.files.now in
    let i = c.loop-file.file-index in
    let f = c.file-item.result in
    let next = c.loop-file.next in
    let rest = drop (i + 1) fs in
    let here : drop i fs ≡ f ∷ rest = drop_more fs i f c.loop-file-test.true ∙ ap (λ (x : FileMeta). x ∷ rest) (sym c.file-item.is) in
    let left : drop next want.files ≡ map (λ (g : FileMeta). g.number) (inputs_of (f ∷ rest) want) =
    ap (drop next) (sym c.as_slice-numbers.ensures) ∙ c.loop-file.invariant.1 ∙ ap (λ (gs : List FileMeta). map (λ (g : FileMeta). g.number) (inputs_of gs want)) here in
    let none : (next < length want.files) × (get_or want.files next 0 ≡ f.number) → ⊥ = λ p. not_both c.stands_at.result (c.stands_at.ensures.1 (subst (λ (ns : List ℕ). (next < length ns) × (get_or ns next 0 ≡ f.number)) (sym c.as_slice-numbers.ensures) p)) c.if-not-stands_at.true in
    let skip : inputs_of (drop i fs) want ≡ inputs_of rest want = ap (λ (gs : List FileMeta). inputs_of gs want) here ∙ input_is_not_next want next f rest left none in (
      ap (λ (gs : List FileMeta). c.loop-file.inputs.items ++ gs) (sym skip) ∙ c.loop-file.invariant.0,
      c.loop-file.invariant.1 ∙ ap (λ (gs : List FileMeta). map (λ (g : FileMeta). g.number) gs) skip,
    )

pub loop-file-preserved : goal.loop-file-preserved
loop-file-preserved c =
    let want = c.args.want.now in
    let fs = c.args.files.now in
    let i = c.loop-file.file-index in
    let f = c.file-item.result in
    let next = c.loop-file.next in
    let rest = drop (i + 1) fs in
    let here : drop i fs ≡ f ∷ rest = drop_more fs i f c.loop-file-test.true ∙ ap (λ (x : FileMeta). x ∷ rest) (sym c.file-item.is) in
    let left : drop next want.files ≡ map (λ (g : FileMeta). g.number) (inputs_of (f ∷ rest) want) =
    ap (drop next) (sym c.as_slice-numbers.ensures) ∙ c.loop-file.invariant.1 ∙ ap (λ (gs : List FileMeta). map (λ (g : FileMeta). g.number) (inputs_of gs want)) here in
    let place = subst (λ (ns : List ℕ). (next < length ns) × (get_or ns next 0 ≡ f.number)) c.as_slice-numbers.ensures (c.stands_at.ensures.0 c.if-not-stands_at.false) in
    let step = input_is_next want next f rest left place.0 place.1 in
    let pushed : c.push.new.self.items ≡ c.loop-file.inputs.items ++ f ∷ [] = c.in_ok-push.ensures.items ∙ ap (λ (g : FileMeta). c.loop-file.inputs.items ++ g ∷ []) c.in_ok-copy_of.ensures in (
      ap (λ (gs : List FileMeta). gs ++ inputs_of rest want) pushed
          ∙ append_assoc c.loop-file.inputs.items (f ∷ []) (inputs_of rest want)
          ∙ ap (λ (gs : List FileMeta). c.loop-file.inputs.items ++ gs) (sym (ap (λ (gs : List FileMeta). inputs_of gs want) here ∙ step.0))
          ∙ c.loop-file.invariant.0,
      ap (drop (next + 1)) c.as_slice-numbers.ensures ∙ step.1,
    )
