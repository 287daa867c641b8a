-- The version that entries need, and that their keys fit into it.
use Rattle.std.proofs.Common.{◌≡◌, ℕ, ◌≤◌, zero, suc, ◌+◌, ◌||◌, ◌∙◌, Bool, true, false, cond, List, [], ◌∷◌, ◌++◌, length, drop, map, take, Result, Ok, Err, ap, subst, sym}
use Rattle.std.specs.List.{AllByRecursion, list_any}
use Rattle.std.proofs.Math.Bool.{or-false}
use Rattle.std.proofs.lemmas.List.{map-append}
use Rattle.lsm_key.specs.declared.entry.Entry.{Entry}
use Rattle.lsm_key.specs.declared.entry.InternalKey.{InternalKey}
use Rattle.lsm_key.specs.declared.limits.TheConstants.{MAX_SHORT_KEY_BYTES}
use Rattle.lsm_key.specs.Entries.{IsEntry}
use Rattle.lsm_key.specs.Reading.{◌>>=◌, instead}
use Rattle.lsm_key.specs.Versions.{is_long, key_limit, version_of}
use Rattle.lsm_key.proofs.FieldLaws.{bind_ok, guard_held, instead_ok, ok_is}
use Rattle.lsm_key.proofs.Membership.{IsIn-map, IsIn-mapped}
use Rattle.lsm_key.proofs.VersionLaws.{keys_fit, version_is, version_of-append, version_one}
use Rattle.lsm_block.specs.Blocks.{HasShortKey}
use Rattle.lsm_block.specs.BlockReading.{entries_at, last_of}
use Rattle.lsm_block.proofs.EntriesGrow.{each_from, each_in}
use Rattle.lsm_block.proofs.ShortKeys.{entries_short}
use Rattle.lsm_table.specs.declared.fault.TableFault.{TableFault}
use Rattle.lsm_table.specs.declared.fault.TableFault.TheVariants.{BadIndex, BadBlock, BadCut}
use Rattle.lsm_table.specs.Tables.{version_of_entries}
use Rattle.lsm_table.specs.TableReading.{index_at, ends_with, is_cut, block_at, blocks_at}

abbrev key_in : Entry → List ℕ
key_in e = e.ikey.key

pub version_range : (es : List Entry) → (1 ≤ version_of_entries es) × (version_of_entries es ≤ 2)
version_range es = version_is (map key_in es)

-- the version of entries and of one more, which is long or not
abbrev pub with_one : Bool → ℕ → ℕ
with_one long version = cond long 2 version

pub version_grows : (es : List Entry) (e : Entry) → version_of_entries (es ++ e ∷ []) ≡ with_one (is_long e.ikey.key) (version_of_entries es)
version_grows es e =
    ap (λ (keys : List (List ℕ)). version_of keys) (map-append key_in es (e ∷ []))
    ∙ version_of-append (map key_in es) (e.ikey.key ∷ [])
    ∙ ap (λ (b : Bool). with_one b (version_of_entries es)) (or-false (is_long e.ikey.key))

-- each key is as long as the version allows
pub keys_within : (es : List Entry) → AllByRecursion IsEntry es → AllByRecursion (HasShortKey (key_limit (version_of_entries es))) es
keys_within es each = each_from (HasShortKey (key_limit (version_of_entries es))) es (λ e member. (keys_fit (map key_in es) e.ikey.key (IsIn-map key_in e es member) (each_in IsEntry es e each member).key).1)

-- entries of short keys need no more than version 1
pub short_version : (es : List Entry) → AllByRecursion (HasShortKey MAX_SHORT_KEY_BYTES) es → version_of_entries es ≡ 1
short_version es short = version_one (map key_in es) (λ k member.
    let p = IsIn-mapped key_in k es member in
    subst (λ (x : List ℕ). length x ≤ MAX_SHORT_KEY_BYTES) (sym p.2) (each_in (HasShortKey MAX_SHORT_KEY_BYTES) es p.0 short p.1))

-- ---- entries in turn

version_skips : (e : Entry) (es : List Entry) → is_long e.ikey.key ≡ false → version_of_entries (e ∷ es) ≡ version_of_entries es
version_skips e es short = ap (λ (b : Bool). cond (b || list_any is_long (map key_in es)) 2 1) short

version_stops : (e : Entry) (es : List Entry) → is_long e.ikey.key ≡ true → version_of_entries (e ∷ es) ≡ 2
version_stops e es long = ap (λ (b : Bool). cond (b || list_any is_long (map key_in es)) 2 1) long

-- an entry that is passed, and the version of those that are left
module _ (whole rest : List Entry) (e : Entry) (more : List Entry) (so_far : version_of_entries rest ≡ version_of_entries whole) (next : rest ≡ e ∷ more) where
  pub version_goes_on : is_long e.ikey.key ≡ false → version_of_entries more ≡ version_of_entries whole
  version_goes_on short = sym (version_skips e more short) ∙ ap version_of_entries (sym next) ∙ so_far

  pub version_found : is_long e.ikey.key ≡ true → 2 ≡ version_of_entries whole
  version_found long = sym (version_stops e more long) ∙ ap version_of_entries (sym next) ∙ so_far

-- ---- what is read with a limit, whatever the bytes

module _ (limit target : ℕ) where
  block_short : (more : ℕ) (i : ℕ × InternalKey) (before : List Entry) (bytes : List ℕ) (es : List Entry) → AllByRecursion (HasShortKey limit) before → block_at limit target more i before bytes ≡ Ok es → AllByRecursion (HasShortKey limit) es
  unfolding block_at
  block_short more i before bytes es short e =
      let tail : List Entry → Result (List Entry) TableFault = λ (es : List Entry). cond (ends_with (last_of es) i.1) (cond (is_cut target more i.0 (last_of es)) (Ok es) (Err BadCut)) (Err BadIndex) in
      let b = bind_ok (instead BadBlock (entries_at limit (i.0 + 1) before (take i.0 bytes))) tail es e in
      let g = guard_held (ends_with (last_of b.0) i.1) BadIndex (cond (is_cut target more i.0 (last_of b.0)) (Ok b.0) (Err BadCut)) es b.2 in
      let h = guard_held (is_cut target more i.0 (last_of b.0)) BadCut (Ok b.0) es g.1 in
      subst (AllByRecursion (HasShortKey limit)) (ok_is {F = TableFault} b.0 es h.1)
      (entries_short limit (i.0 + 1) before (take i.0 bytes) b.0 short (instead_ok BadBlock (entries_at limit (i.0 + 1) before (take i.0 bytes)) b.0 b.1))

  pub blocks_short : (n : ℕ) (index : List ℕ) (before : List Entry) (bytes : List ℕ) (es : List Entry) → AllByRecursion (HasShortKey limit) before → blocks_at limit target n index before bytes ≡ Ok es → AllByRecursion (HasShortKey limit) es
  unfolding blocks_at
  blocks_short zero index before bytes es short e = subst (AllByRecursion (HasShortKey limit)) (ok_is {F = TableFault} before es e) short
  blocks_short (suc n) index before bytes es short e =
      let i = bind_ok (index_at limit index) (λ i. block_at limit target n i.0 before bytes >>= λ zs. blocks_at limit target n i.1 zs (drop i.0.0 bytes)) es e in
      let b = bind_ok (block_at limit target n i.0.0 before bytes) (λ zs. blocks_at limit target n i.0.1 zs (drop i.0.0.0 bytes)) es i.2 in
      blocks_short n i.0.1 b.0 (drop i.0.0.0 bytes) es (block_short n i.0.0 before bytes b.0 short b.1) b.2
