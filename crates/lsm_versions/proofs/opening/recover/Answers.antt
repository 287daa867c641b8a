use Rattle.std.proofs.Common.{◌≡◌, ◌∙◌, ◌-◌, ℕ, List, Option, ap, drop, subst, sym, arith}
use Rattle.std.specs.Option.{IfSome}
use Rattle.lsm_edit.specs.declared.file.FileMeta.{FileMeta}
use Rattle.lsm_edit.specs.Served.{placed_of}
use Rattle.lsm_edit.specs.Version.{VersionValue}
use Rattle.lsm_vault.specs.Stored.{TableMap, VaultValue}
use Rattle.lsm_versions.specs.Manifest.{Folds}
use Rattle.lsm_versions.specs.Opening.{ArePlacesKept}
use Rattle.lsm_versions.proofs.EditsInTurn.{length-texts}
use Rattle.lsm_versions.proofs.opening.recover.Goals as goal

pub returns-clause-ok : goal.returns-clause-ok
returns-clause-ok g c =
    let texts : c.as_slice.result.now ≡ (g.V.Vault.stored c.args.vault.now).edits = c.as_slice.ensures.value ∙ c.in_ok-edits.ensures.ok in
    let folds = subst (λ (o : Option VersionValue). IfSome o (Folds c.as_slice.result.now)) c.in-Some.is c.in_ok-version.ensures.some in
    let kept = subst (λ o. IfSome o (λ ts. ArePlacesKept (g.V.Vault.stored c.edits.new.self).tables (placed_of c.files.result.now ts.items))) c.in-Some-2.is c.in_ok-tables.ensures.kept in
    record {
      folds = rw (c.in_ok-served.ensures.version) (subst (λ (ts : List (List ℕ)). Folds ts c.in-Some.version) texts folds);
      tables = λ p m. subst (λ (k : TableMap). ArePlacesKept k (placed_of c.in-Some.version.files c.in-Some-2.tables.items)) (ap (λ (v : VaultValue). v.tables) c.in_ok-edits.ensures.stays) (subst (λ (fs : List FileMeta). ArePlacesKept (g.V.Vault.stored c.edits.new.self).tables (placed_of fs c.in-Some-2.tables.items)) c.files.ensures.all kept) p ((c.in_ok-served.ensures.places p).0 m);
    }

pub split_off-requires : goal.split_off-requires
split_off-requires g c =
    let folds = subst (λ (o : Option VersionValue). IfSome o (Folds c.as_slice.result.now)) c.in-Some.is c.in_ok-version.ensures.some in
    let count = length-texts c.as_slice.result.now c.in-Some.version folds in
    let long = c.as_slice.ensures.len in
    let at : c.new.result ≡ c.in-Some.version.number = c.new.ensures ∙ c.number.ensures.value in
    let below = c.edits_below.ensures in
    omega (arith, count, long, at, below)

pub returns-clause-recent : goal.returns-clause-recent
returns-clause-recent g c =
    let at : c.new.result ≡ c.in_ok-served.served.version.number = c.new.ensures ∙ c.number.ensures.value ∙ ap (λ (v : VersionValue). v.number) (sym c.in_ok-served.ensures.version) in
    c.in_ok-recent.ensures.tail ∙ (λ i. drop ((c.edits_below.ensures ∙ ap (λ (n : ℕ). n - 1) at) i) (c.in_ok-edits.ensures.ok i))
