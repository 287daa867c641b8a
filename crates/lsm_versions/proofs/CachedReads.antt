-- A cache of blocks beside a version.
use Rattle.std.proofs.Common.{◌≡◌, ℕ, ◌<◌, List, length, get_or, ap, sym, subst, ◌∙◌}
use Rattle.lsm_key.specs.declared.entry.Entry.{Entry}
use Rattle.lsm_key.specs.Sets.{IsIn}
use Rattle.lsm_key.specs.Visible.{visible}
use Rattle.lsm_key.proofs.Membership.{IsIn-at}
use Rattle.lsm_table.specs.Tables.{Opened}
use Rattle.lsm_edit.specs.declared.served.Placed.{Placed}
use Rattle.lsm_edit.specs.Served.{IsServed, ServedValue}
use Rattle.lsm_edit.specs.Version.{IsVersion}
use Rattle.lsm_edit.proofs.ServedPlaces.{one_place}
use Rattle.lsm_cache.specs.Cached.{HoldsBlocks, HoldsNone, KeepsBlocks}
use Rattle.lsm_cache.specs.declared.cache.BlockCache.{BlockCache}
use Rattle.lsm_cache.proofs.HeldBlocks.{none_holds}
use Rattle.lsm_versions.specs.Cached.{HoldsAll}

pub none_held : (places : List Placed) (cache : BlockCache) → HoldsNone cache → HoldsAll places cache
none_held places cache none p m = none_holds p.meta.number p.table.entries cache none

-- what one table's look-up leaves is right for all files
all_held : (s : ServedValue) (served : IsServed s) (version : IsVersion s.version) (old new : BlockCache) (p : Placed) → IsIn p s.places → HoldsAll s.places old
    → KeepsBlocks p.meta.number p.table.entries old new → HoldsAll s.places new
all_held s served version old new p m holds keeps q n = keeps q.meta.number q.table.entries (holds q n) (λ same. ap (λ (x : Placed). x.table.entries) (one_place s version served q p n m same))

-- these are the number and the entries of the file at the place
pub record IsFileAt (places : List Placed) (place number : ℕ) (es : List Entry) : Type 0 where
  pub file : Placed
  pub here : file ≡ get_or places place file
  pub shows : (key : List ℕ) (at : ℕ) → visible (get_or places place file).table.entries key at ≡ visible es key at
  pub holds : (cache : BlockCache) → HoldsAll places cache → HoldsBlocks number es cache
  pub keeps : (old new : BlockCache) → HoldsAll places old → KeepsBlocks number es old new → HoldsAll places new

module _ (s : ServedValue) (sound : IsServed s × IsVersion s.version) (lent : List Placed) (place : ℕ) (file : Placed) (all : lent ≡ s.places) (within : place < length s.places) (is : file ≡ get_or lent place file) where
  pub file_at : (number : ℕ) (table : Opened) → number ≡ file.meta.number → table ≡ file.table → IsFileAt s.places place number table.entries
  file_at number table numbered same =
      let here : file ≡ get_or s.places place file = is ∙ ap (λ (ps : List Placed). get_or ps place file) all in
      let member : IsIn file s.places = subst (λ (x : Placed). IsIn x s.places) (sym here) (IsIn-at s.places place file within) in
      let entries : table.entries ≡ file.table.entries = ap (λ (t : Opened). t.entries) same in
      record {
        file = file;
        here = here;
        shows = λ key at. ap (λ (x : Placed). visible x.table.entries key at) (sym here) ∙ ap (λ (es : List Entry). visible es key at) (sym entries);
        holds = λ cache held. rw numbered (rw entries (held file member));
        keeps = λ old new held kept. all_held s sound.0 sound.1 old new file member held (rw (← numbered) (rw (← entries) kept));
      }
