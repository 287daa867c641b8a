-- Lists of publications: the versions that were taken to be shown to readers, one after another. Each list begins with version 0, which is not written.
use Rattle.std.specs.Prelude.{ℕ, ◌<◌, List, [], ◌∷◌, length}
use mathlib.Core.List.{IsPrefix}
use Rattle.lsm_edit.specs.Served.{ServedValue, first_served}

-- the last version of a list that comes after this one, or this one if the list is empty
abbrev pub last_after : ServedValue → List ServedValue → ServedValue
last_after before [] = before
last_after before (p ∷ ps) = last_after p ps

-- the last version of such a list
abbrev pub last_published : List ServedValue → ServedValue
last_published ps = last_after first_served ps

-- the version numbers rise, and the first is above n
abbrev pub AreRisingFrom : ℕ → List ServedValue → Type 0
AreRisingFrom n [] = Unit {0}
AreRisingFrom n (p ∷ ps) = (n < p.version.number) × AreRisingFrom p.version.number ps

-- the version numbers rise, from 0
abbrev pub AreRising : List ServedValue → Type 0
AreRising ps = AreRisingFrom 0 ps

-- the version has a greater number than what was published last
abbrev pub IsLater : List ServedValue → ServedValue → Type 0
IsLater ps p = (last_published ps).version.number < p.version.number

-- the first list begins the second, which goes on
abbrev pub IsLonger : List ServedValue → List ServedValue → Type 0
IsLonger xs ys = IsPrefix xs ys × (length xs < length ys)
