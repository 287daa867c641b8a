-- The entry that a cursor gives where it lies.
use Rattle.std.proofs.Common.{◌≡◌, ℕ, ◌+◌, ◌-◌, ◌≤◌, List, [], ◌∷◌, length, take, drop, Ok, sym, ap, subst, ◌∙◌, arith}
use Rattle.std.specs.List.{slice_range}
use Rattle.std.proofs.lemmas.List.{take_rest}
use Rattle.lsm_key.specs.declared.entry.Entry.{Entry}
use Rattle.lsm_key.specs.Prefix.{prefix_of}
use Rattle.lsm_key.proofs.FieldLaws.{IsBytes}
use Rattle.lsm_block.specs.Blocks.{entry}
use Rattle.lsm_block.specs.BlockReading.{entry_at}
use Rattle.lsm_block.specs.Cursors.{IsPlaceIn, entries_from}
use Rattle.lsm_block.specs.Lent.{IsLentAt, front_entry}
use Rattle.lsm_block.proofs.CursorPlaces.{Passes, passes}
use Rattle.lsm_block.proofs.LentEntries.{lends, lent_front}

module _ (bytes : List ℕ) (place : ℕ) (is : IsPlaceIn bytes place) (e : Entry) (after : List ℕ) (read : entry_at (take (length bytes - place) (drop place bytes)) ≡ Ok (e, after)) where
  abbrev size : ℕ
  size = length (take (length bytes - place) (drop place bytes)) - length after

  on : Passes bytes place e after
  on = passes bytes place is e after (ap entry_at (sym (take_rest bytes place)) ∙ read)

  same : size ≡ length (drop place bytes) - length after
  same = ap (λ (b : List ℕ). length b - length after) (take_rest bytes place)

  pub fits : length after ≤ length (take (length bytes - place) (drop place bytes))
  fits = rw (take_rest bytes place) on.fits

  pub next_place : IsPlaceIn bytes (place + (length (take (length bytes - place) (drop place bytes)) - length after))
  next_place = subst (λ (n : ℕ). IsPlaceIn bytes (place + n)) (sym same) on.on

  pub gives : entries_from bytes place ≡ e ∷ entries_from bytes (place + (length (take (length bytes - place) (drop place bytes)) - length after))
  gives = subst (λ (n : ℕ). entries_from bytes place ≡ e ∷ entries_from bytes (place + n)) (sym same) on.left

  spelled : slice_range bytes place (place + (length (take (length bytes - place) (drop place bytes)) - length after)) ≡ entry e
  spelled =
      let n : place + size - place ≡ length (drop place bytes) - length after = omega (arith, same) in
      ap (λ (k : ℕ). take k (drop place bytes)) n ∙ on.spelled

  pub lent : (prefix : ℕ) → IsBytes e.ikey.key → prefix ≡ prefix_of [] e.ikey.key → IsLentAt bytes place (place + (length (take (length bytes - place) (drop place bytes)) - length after)) prefix
  lent prefix small at = record {
    order = omega arith;
    within = omega (arith, same, on.ends);
    lent = lends (slice_range bytes place (place + size)) e prefix spelled on.sound small at;
  }

  pub front : front_entry (slice_range bytes place (place + (length (take (length bytes - place) (drop place bytes)) - length after))) ≡ e
  front = lent_front (slice_range bytes place (place + size)) e spelled on.sound
