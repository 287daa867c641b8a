use Rattle.std.proofs.Common.{◌≡◌, ◌∙◌, ◌+◌, ◌++◌, ◌∷◌, [], ap, sym, take}
use Rattle.std.proofs.lemmas.List.{take_more}
use Rattle.lsm_edit.specs.declared.file.FileMeta.{FileMeta}
use Rattle.lsm_inspect.proofs.Findings.{finds_more}
use Rattle.lsm_inspect.proofs.checking.findings_of.Goals as goal

pub loop-file-preserved : goal.loop-file-preserved
loop-file-preserved c =
    let files = c.args.files.now in
    let i = c.loop-file.file-index in
    let front : take (i + 1) files ≡ take i files ++ c.file-item.result ∷ [] = take_more files i c.file-item.result c.loop-file-test.true ∙ ap (λ (f : FileMeta). take i files ++ f ∷ []) (sym c.file-item.is) in
    rw (front, c.in_ok-push_found.ensures) (finds_more _ _ (take i files) c.loop-file.findings.items c.file-item.result c.in_ok-found.found c.loop-file.invariant c.in_ok-found.ensures.some c.in_ok-found.ensures.none)
