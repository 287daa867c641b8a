-- An entry that is lent from the front of a span, and those that are left.
use Rattle.std.proofs.Common.{◌≡◌, ℕ, ◌<◌, true, false, List, [], Ok, sym, ap, subst, ◌∙◌}
use Rattle.std.specs.Ordering.{is_lt, nat_cmp, ordering_reverse, ordering_then}
use Rattle.std.proofs.lemmas.Cmp.{nat_list_cmp_total}
use Rattle.std.proofs.lemmas.List.{append-nil}
use Rattle.lsm_key.specs.declared.entry.Entry.{Entry}
use Rattle.lsm_key.specs.Entries.{IsEntry}
use Rattle.lsm_key.specs.Order.{precedes}
use Rattle.lsm_key.specs.Prefix.{prefix_of}
use Rattle.lsm_key.proofs.FieldLaws.{IsBytes}
use Rattle.lsm_key.proofs.PrefixOrder.{prefix_before}
use Rattle.lsm_block.specs.Blocks.{HasSequence, entry}
use Rattle.lsm_block.specs.BlockReading.{entry_at}
use Rattle.lsm_block.specs.Lent.{IsLent, front_entry, entry_read}
use Rattle.lsm_block.proofs.BlockFields.{entry_again}

alone : (e : Entry) → IsEntry e → HasSequence e → entry_at (entry e) ≡ Ok (e, [])
alone e is has = ap entry_at (sym (append-nil (entry e))) ∙ entry_again e [] is has

is_lent : (e : Entry) (prefix : ℕ) → IsEntry e → HasSequence e → IsBytes e.ikey.key → prefix ≡ prefix_of [] e.ikey.key → IsLent (entry e) prefix
is_lent e prefix is has fits at =
    let same : front_entry (entry e) ≡ e = ap entry_read (alone e is has) in
    record {
      read = alone e is has ∙ ap (λ (x : Entry). Ok (x, [])) (sym same);
      spelled = ap entry (sym same);
      sound = subst IsEntry (sym same) is;
      sequence = subst HasSequence (sym same) has;
      fits = subst (λ (x : Entry). IsBytes x.ikey.key) (sym same) fits;
      prefixed = at ∙ ap (λ (x : Entry). prefix_of [] x.ikey.key) (sym same);
    }

-- the bytes of an entry, lent
pub lends : (bytes : List ℕ) (e : Entry) (prefix : ℕ) → bytes ≡ entry e → IsEntry e × HasSequence e → IsBytes e.ikey.key → prefix ≡ prefix_of [] e.ikey.key → IsLent bytes prefix
lends bytes e prefix is sound fits at = subst (λ (b : List ℕ). IsLent b prefix) (sym is) (is_lent e prefix sound.0 sound.1 fits at)

pub lent_front : (bytes : List ℕ) (e : Entry) → bytes ≡ entry e → IsEntry e × HasSequence e → front_entry bytes ≡ e
lent_front bytes e is sound = ap front_entry is ∙ ap entry_read (alone e sound.0 sound.1)

-- ---- the order, by prefixes

module _ (e f : Entry) where
  pub less_first : IsBytes f.ikey.key → prefix_of [] e.ikey.key < prefix_of [] f.ikey.key → precedes e f ≡ true
  less_first fits lt = ap (λ o. is_lt (ordering_then o (nat_cmp f.ikey.seq e.ikey.seq))) (prefix_before [] e.ikey.key f.ikey.key fits lt)

  pub greater_later : IsBytes e.ikey.key → prefix_of [] f.ikey.key < prefix_of [] e.ikey.key → precedes e f ≡ false
  greater_later fits lt =
      let turned = nat_list_cmp_total.antisymm e.ikey.key f.ikey.key ∙ ap ordering_reverse (prefix_before [] f.ikey.key e.ikey.key fits lt) in
      ap (λ o. is_lt (ordering_then o (nat_cmp f.ikey.seq e.ikey.seq))) turned
