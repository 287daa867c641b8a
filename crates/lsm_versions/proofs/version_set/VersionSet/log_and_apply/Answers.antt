use Rattle.std.proofs.Common.{◌≡◌, ◌∙◌, ◌∷◌, [], ◌++◌, None, sym, ap, subst, rules}
use Rattle.lsm_key.proofs.Results.{on_err}
use Rattle.lsm_edit.specs.Edit.{edit as spelling}
use Rattle.lsm_edit.specs.Prepared.{PreparedValue, after_taking_up}
use Rattle.lsm_edit.specs.Served.{IsServed, ServedValue, after_advance, placed_of}
use Rattle.lsm_edit.specs.Version.{IsVersion, apply_fault}
use Rattle.lsm_vault.specs.Stored.{VaultValue}
use Rattle.lsm_versions.specs.Kept.{IsTableOf, MayHavePutSome, StaysApart, StaysBelow, put_tables}
use Rattle.lsm_versions.specs.Manifest.{IsVersionSet, MayHavePut, VersionSetValue, after_logging, edits_from}
use Rattle.lsm_versions.specs.Putting.{numbered_tables, put_numbered}
use Rattle.lsm_versions.specs.Retention.{put_each, retired_after, retired_by}
use Rattle.lsm_versions.proofs.CachedReads.{none_held}
use Rattle.lsm_versions.proofs.KeptTables.{apart_below}
use Rattle.lsm_versions.proofs.LoggedEdits.{logged_set, rising_set, still_set}
use Rattle.lsm_versions.proofs.PutTables.{files_put, put_apart, put_numbered_is}
use Rattle.lsm_versions.proofs.RecentEdits.{pushed}
use Rattle.lsm_versions.proofs.version_set.VersionSet.log_and_apply.Given.{Over}
use Rattle.lsm_versions.proofs.version_set.VersionSet.log_and_apply.Goals as goal

pub invariant_of-self-in_err-store : goal.invariant_of-self-in_err-store
invariant_of-self-in_err-store g c =
    let m = c.self.inside in
    let v : VersionSetValue = record { served = m.current; stored = g.V.Vault.stored m.vault; retired = m.retired.items; floor = m.floor; failures = g.V.Vault.failures m.vault } in
    let e = c.args.edit.now in
    let kept = (g.V.Vault.stored c.store.new.vault).tables in
    let failures = g.V.Vault.failures c.store.new.vault in
    let applies : apply_fault v.served.version e ≡ None = subst (λ (w : VersionSetValue). apply_fault w.served.version e ≡ None) (sym c.self.view_is) c.requires.applies in
    let sound = subst (λ (w : VersionSetValue). IsServed w.served × IsVersion w.served.version) (sym c.self.view_is) c.served.ensures.sound in
    let tables = c.tables.ensures ∙ ap (λ (p : PreparedValue). p.tables) c.in-Ok.ensures.ok.made in
    let numbered = c.in_ok-numbered.ensures ∙ (λ i. numbered_tables (placed_of (c.as_slice.ensures i) (tables i))) in
    let some = files_put e.added c.args.tables.items c.in_ok-numbered.numbered.items v.stored.tables kept numbered c.in_err-store.ensures.put in
    let others = put_apart e.added c.args.tables.items v.stored.tables kept some in
    let still = still_set v e c.self.invariant.0 sound c.requires.sound applies kept failures (apart_below v.served.version e v.stored.tables kept applies others) in
    let rest = sym c.in_err-store.ensures.err in
    rw (c.in_ok-reserve.ensures.items, c.in_ok-reserve-2.ensures.items) (
      subst (λ (s : VaultValue). IsVersionSet (record { served = m.current; stored = s; retired = m.retired.items; floor = m.floor; failures = failures })) rest still,
      c.self.invariant.1 ∙ ap (λ (s : VaultValue). edits_from m.floor s.edits) rest,
      c.self.invariant.2,
    )

pub returns-in_err-store-clause-err : goal.returns-in_err-store-clause-err
returns-in_err-store-clause-err g c =
    let m = c.self.inside in
    let e = c.args.edit.now in
    let kept = (g.V.Vault.stored c.store.new.vault).tables in
    let failures = g.V.Vault.failures c.store.new.vault in
    let applies : apply_fault m.current.version e ≡ None = subst (λ (w : VersionSetValue). apply_fault w.served.version e ≡ None) (sym c.self.view_is) c.requires.applies in
    let tables = c.tables.ensures ∙ ap (λ (p : PreparedValue). p.tables) c.in-Ok.ensures.ok.made in
    let numbered = c.in_ok-numbered.ensures ∙ (λ i. numbered_tables (placed_of (c.as_slice.ensures i) (tables i))) in
    let some = files_put e.added c.args.tables.items c.in_ok-numbered.numbered.items (g.V.Vault.stored m.vault).tables kept numbered c.in_err-store.ensures.put in
    let others = put_apart e.added c.args.tables.items (g.V.Vault.stored m.vault).tables kept some in
    let MayPut = IsTableOf (placed_of e.added c.args.tables.items) in
    let below = apart_below m.current.version e (g.V.Vault.stored m.vault).tables kept applies others in
    let new : VersionSetValue = record { served = m.current; stored = g.V.Vault.stored c.store.new.vault; retired = c.reserve.new.self.items; floor = m.floor; failures = failures } in
    let put : MayHavePut MayPut c.args.self.now new = record {
      rest = λ i. record {
        served = (c.self.view_is i).served;
        stored = (c.in_err-store.ensures.err ∙ ap (λ (w : VersionSetValue). record w.stored { tables = kept }) c.self.view_is) i;
        retired = (c.in_ok-reserve.ensures.items ∙ ap (λ (w : VersionSetValue). w.retired) c.self.view_is) i;
        floor = (c.self.view_is i).floor;
        failures = failures;
      };
      below = subst (λ (w : VersionSetValue). StaysBelow w.served.version.next_file w.stored.tables kept) c.self.view_is below;
      put = subst (λ (w : VersionSetValue). MayHavePutSome MayPut w.stored.tables kept) c.self.view_is some;
    } in
    on_err c.from_residual-in_err-store.result (MayHavePut MayPut c.args.self.now new) put

pub returns-in_err-store-clause-apart : goal.returns-in_err-store-clause-apart
returns-in_err-store-clause-apart g c =
    let kept = (g.V.Vault.stored c.store.new.vault).tables in
    let added = c.args.edit.now.added in
    let tables = c.tables.ensures ∙ ap (λ (p : PreparedValue). p.tables) c.in-Ok.ensures.ok.made in
    let numbered = c.in_ok-numbered.ensures ∙ (λ i. numbered_tables (placed_of (c.as_slice.ensures i) (tables i))) in
    let some = files_put added c.args.tables.items c.in_ok-numbered.numbered.items (g.V.Vault.stored c.self.inside.vault).tables kept numbered c.in_err-store.ensures.put in
    let others = put_apart added c.args.tables.items (g.V.Vault.stored c.self.inside.vault).tables kept some in
    on_err c.from_residual-in_err-store.result (StaysApart c.args.edit.now.added c.args.self.now.stored.tables kept) (subst (λ (w : VersionSetValue). StaysApart c.args.edit.now.added w.stored.tables kept) c.self.view_is others)

-- what the set has then
logged : (g : Over) (c : goal.After-push_recent g) →
    record {
      served = c.take_up.new.self;
      stored = g.V.Vault.stored c.store.new.vault;
      retired = c.put_retired.new.retired.items;
      floor = c.self.inside.floor;
      failures = g.V.Vault.failures c.store.new.vault;
    } ≡ record (after_logging (record { served = c.self.inside.current; stored = g.V.Vault.stored c.self.inside.vault; retired = c.self.inside.retired.items; floor = c.self.inside.floor; failures = g.V.Vault.failures c.self.inside.vault }) c.args.edit.now c.args.tables.items) { failures = g.V.Vault.failures c.store.new.vault }
logged g c =
    let m = c.self.inside in
    let e = c.args.edit.now in
    let made = c.in-Ok.ensures.ok.made in
    let taken : c.take_up.new.self ≡ after_advance m.current e c.args.tables.items = c.take_up.ensures ∙ ap (after_taking_up m.current) made in
    let before = g.V.Vault.stored m.vault in
    let retired : c.put_retired.new.retired.items ≡ retired_after m.retired.items m.current e.removed =
    c.put_retired.ensures ∙ (λ i. put_each (c.in_ok-retiring.ensures i) (c.in_ok-reserve.ensures.items i))
    ∙ ap (λ (s : ServedValue). put_each (retired_by s e.removed) m.retired.items) (c.served.ensures.served ∙ ap (λ (w : VersionSetValue). w.served) (sym c.self.view_is)) in
    let placed = placed_of e.added c.args.tables.items in
    let tables = c.tables.ensures ∙ ap (λ (p : PreparedValue). p.tables) made in
    let numbered : c.in_ok-numbered.numbered.items ≡ numbered_tables placed = c.in_ok-numbered.ensures ∙ (λ i. numbered_tables (placed_of (c.as_slice.ensures i) (tables i))) in
    let put : put_numbered before.tables c.in_ok-numbered.numbered.items ≡ put_tables before.tables placed = ap (put_numbered before.tables) numbered ∙ put_numbered_is placed before.tables in
    let stored : g.V.Vault.stored c.store.new.vault ≡ record before { edits = before.edits ++ spelling e ∷ []; tables = put_tables before.tables placed } =
    c.in_ok-store.ensures.ok ∙ (λ i. record before { edits = before.edits ++ c.in_ok-bytes.ensures i ∷ []; tables = put i }) in
    λ i. record { served = taken i; stored = stored i; retired = retired i; floor = m.floor; failures = g.V.Vault.failures c.store.new.vault }

pub invariant_of-self-2 : goal.invariant_of-self-2
invariant_of-self-2 g c =
    let m = c.self.inside in
    let v : VersionSetValue = record { served = m.current; stored = g.V.Vault.stored m.vault; retired = m.retired.items; floor = m.floor; failures = g.V.Vault.failures m.vault } in
    let e = c.args.edit.now in
    let applies : apply_fault v.served.version e ≡ None = subst (λ (w : VersionSetValue). apply_fault w.served.version e ≡ None) (sym c.self.view_is) c.requires.applies in
    let sound = subst (λ (w : VersionSetValue). IsServed w.served × IsVersion w.served.version) (sym c.self.view_is) c.served.ensures.sound in
    let shared : c.in_ok-recent.recent ≡ c.in_ok-bytes.bytes = search rules in (
      subst IsVersionSet (sym (logged g c)) (logged_set v e c.self.invariant.0 sound c.requires.sound applies c.args.tables.items (g.V.Vault.failures c.store.new.vault)),
      c.push_recent.ensures ∙ (λ i. c.in_ok-reserve-2.ensures.items i ++ shared i ∷ []) ∙ pushed v.stored.edits v.served.version v.floor m.recent.items c.self.invariant.0.folds c.self.invariant.1 c.in_ok-bytes.bytes c.self.invariant.0.retired.low ∙ ap (λ (s : VaultValue). edits_from m.floor s.edits) (sym c.in_ok-store.ensures.ok),
      none_held c.take_up.new.self.places c.clear.new.self c.clear.ensures.none,
    )

pub returns-clause-ok : goal.returns-clause-ok
returns-clause-ok g c =
    logged g c ∙ ap (λ (w : VersionSetValue). record (after_logging w c.args.edit.now c.args.tables.items) { failures = g.V.Vault.failures c.store.new.vault }) c.self.view_is

pub put_retired-requires-clause-rising : goal.put_retired-requires-clause-rising
put_retired-requires-clause-rising g c =
    let m = c.self.inside in
    let v : VersionSetValue = record { served = m.current; stored = g.V.Vault.stored m.vault; retired = m.retired.items; floor = m.floor; failures = g.V.Vault.failures m.vault } in
    let e = c.args.edit.now in
    let retiring = c.in_ok-retiring.ensures ∙ ap (λ (s : ServedValue). retired_by s e.removed) (c.served.ensures.served ∙ ap (λ (w : VersionSetValue). w.served) (sym c.self.view_is)) in
    let applies : apply_fault v.served.version e ≡ None = subst (λ (w : VersionSetValue). apply_fault w.served.version e ≡ None) (sym c.self.view_is) c.requires.applies in
    let sound = subst (λ (w : VersionSetValue). IsServed w.served × IsVersion w.served.version) (sym c.self.view_is) c.served.ensures.sound in
    rw (retiring, c.in_ok-reserve.ensures.items) (rising_set v e c.self.invariant.0 sound c.requires.sound applies)
