-- The version of a format that has keys: 2 exactly if one of them is too long for version 1 (SQLite, the file format's version numbers: a file says the least version that can read it; the rule is the store's own).
use Rattle.std.specs.Prelude.{ℕ, Bool, List, length, nat_lt, ◌==◌, if◌then◌else◌}
use Rattle.std.specs.List.{list_any}
use Rattle.lsm_key.specs.declared.limits.TheConstants.{MAX_KEY_BYTES, MAX_SHORT_KEY_BYTES}

-- version 1 has no room for the key
abbrev pub is_long : List ℕ → Bool
is_long key = nat_lt MAX_SHORT_KEY_BYTES (length key)

-- the version of what has these keys
abbrev pub version_of : List (List ℕ) → ℕ
version_of keys = if list_any is_long keys then 2 else 1

-- how long a key may be in a version
abbrev pub key_limit : ℕ → ℕ
key_limit version = if version == 1 then MAX_SHORT_KEY_BYTES else MAX_KEY_BYTES
