-- One pass over entries in order, which looks one entry back (LevelDB, db_impl.cc, DoCompactionWork: last_sequence_for_key).
use Rattle.std.specs.Prelude.{ℕ, Bool, true, not, ◌&&◌, List, [], ◌∷◌, Option, Some, None, nat_le, nat_lt, if◌then◌else◌}
use Rattle.std.specs.List.{list_any}
use Rattle.lsm_key.specs.declared.entry.Entry.{Entry}
use Rattle.lsm_key.specs.Visible.{has_key}
use Rattle.lsm_key.specs.declared.range.KeyRange.{KeyRange}
use Rattle.lsm_msg.specs.Merge.{may_go}

-- a point sees the sequence, and not the newer one
abbrev pub is_seen_alone : List ℕ → ℕ → ℕ → Bool
is_seen_alone points newer seq = list_any (λ p. nat_le seq p && nat_lt p newer) points

-- the first entry of a key, or one that a point sees and not the entry before it
abbrev pub is_needed : List ℕ → Option Entry → Entry → Bool
is_needed points None e = true
is_needed points (Some before) e =
    if has_key before.ikey.key e then is_seen_alone points before.ikey.seq e.ikey.seq
    else true

-- a merge keeps the entry, given the one before it in order
abbrev pub stays : List ℕ → List KeyRange → Option Entry → Entry → Bool
stays points deeper before e = is_needed points before e && not (may_go points deeper e)

-- what a merge keeps of entries in order, given the one before them
abbrev pub kept_list : List ℕ → List KeyRange → Option Entry → List Entry → List Entry
kept_list points deeper before [] = []
kept_list points deeper before (e ∷ es) =
    if stays points deeper before e then e ∷ kept_list points deeper (Some e) es
    else kept_list points deeper (Some e) es
