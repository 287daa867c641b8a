-- Where things are drawn, in pixels.
use Rattle.std.specs.Prelude.{ℕ, ◌+◌, ◌*◌, ◌/◌}
use Rattle.lsm_draw.specs.declared.place.TheConstants.{BAND, COORDINATOR, LANE, ROW, TOP}

-- the x of a node's line, by its column
abbrev pub line_x : ℕ → ℕ
line_x column = COORDINATOR + LANE * column

-- the y of a row's middle; in front of each `BAND` rows one more row holds the names of the columns
abbrev pub row_y : ℕ → ℕ
row_y row = TOP + ROW * (row + row / BAND + 1)

-- the y of the middle of such a row of names, by how many stand above it
abbrev pub names_row_y : ℕ → ℕ
names_row_y band = TOP + ROW * ((BAND + 1) * band)
