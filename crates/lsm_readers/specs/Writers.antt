-- What contracts see of a writer.
use Rattle.std.specs.Prelude.{◌≡◌, List, [], ◌∷◌, Option, None, Some}
use Rattle.lsm_edit.specs.Served.{ServedValue}

-- what contracts see of a writer
pub record WriterValue : Type 0 where
  pub published : List ServedValue  -- what readers are shown
  pub taken : List ServedValue  -- with what waits for memory

-- the last of some lists, or the first one
abbrev pub last_list : List ServedValue → List (List ServedValue) → List ServedValue
last_list xs [] = xs
last_list xs (ys ∷ yss) = last_list ys yss

-- the second list if there is one, else the first
abbrev pub last_list_with : List ServedValue → Option (List ServedValue) → List ServedValue
last_list_with xs None = xs
last_list_with xs (Some ys) = ys

-- what is published, what is pending after it, and what waits to be pending: the last of them is all that was taken
abbrev pub IsAllTaken : List ServedValue → List (List ServedValue) → Option (List ServedValue) → List ServedValue → Type 0
IsAllTaken published pending waiting taken = last_list_with (last_list published pending) waiting ≡ taken
