-- A table whose range misses the key shows nothing of it.
use Rattle.std.proofs.Common.{◌≡◌, ℕ, true, false, not, List, Option, None, Some, refl, sym, ap, ◌∙◌}
use Rattle.std.proofs.lemmas.Bool.{true≢false, and_from}
use Rattle.lsm_key.specs.declared.entry.Entry.{Entry}
use Rattle.lsm_key.specs.Sets.{IsIn}
use Rattle.lsm_key.specs.Order.{key_le}
use Rattle.lsm_key.specs.Visible.{visible}
use Rattle.lsm_key.proofs.LatestOfList.{at_visible, is_seen-key}
use Rattle.lsm_table.proofs.TableContents.{table_range}
use Rattle.lsm_table.specs.Tables.{Opened}
use Rattle.lsm_edit.specs.declared.file.FileMeta.{FileMeta}
use Rattle.lsm_edit.specs.Served.{IsAsRecorded, is_covered}

pub key_covered : (f : FileMeta) (t : Opened) → IsAsRecorded f t → (e : Entry) → IsIn e t.entries → is_covered f e.ikey.key ≡ true
key_covered f t is e m =
    let r = table_range t.bytes t.entries is.table e m in
    and_from (key_le f.smallest e.ikey.key) (key_le e.ikey.key f.largest)
    (ap (λ (k : List ℕ). key_le k e.ikey.key) is.smallest ∙ ap not r.0)
    (ap (λ (k : List ℕ). key_le e.ikey.key k) is.largest ∙ ap not r.1)

pub missed : (f : FileMeta) (t : Opened) (key : List ℕ) (at : ℕ) → IsAsRecorded f t → is_covered f key ≡ false → visible t.entries key at ≡ None
missed f t key at is out = by (visible t.entries key at) refl
  where
    by : (r : Option Entry) → visible t.entries key at ≡ r → r ≡ None
    by None e = refl
    by (Some x) e =
        let l = at_visible t.entries key at x e in
        absurd (true≢false (sym (key_covered f t is x l.member) ∙ ap (is_covered f) (is_seen-key key at x l.satisfies) ∙ out))
