-- The text of INFO: a line for each figure (Redis commands reference: INFO, a name and a value with a colon between them).
use Rattle.std.specs.Prelude.{◌≡◌, ℕ, List, [], ◌∷◌, ◌++◌, Some, codes, length}
use Rattle.std.specs.Fmt.{decimal}
use Rattle.std.specs.List.{flat_map}
use Rattle.lsm_edit.specs.declared.file.FileMeta.{FileMeta}
use Rattle.lsm_pick.specs.Due.{of_level}
use Rattle.lsm_coord.specs.Contract.Value.{CoordValue}
use Rattle.lsm_store.specs.Stats.{saturated_sum}
use Rattle.lsm_store.specs.Store.{IsLatestSequence, stored_count}
use Rattle.lsm_resp.specs.declared.reply.RespReply.TheVariants.{Bulk}
use Rattle.lsm_serve.specs.declared.answer.Answer.{Answer}
use Rattle.lsm_serve.specs.declared.answer.Answer.TheVariants.{Reply}

-- the end of a line: a carriage return and a line feed
abbrev pub line_end : List ℕ
line_end = 13 ∷ 10 ∷ []

-- the line of a figure: its name, a colon, and its value in decimal digits
abbrev pub figure_line : List ℕ → ℕ → List ℕ
figure_line name figure = name ++ codes ":" ++ decimal figure ++ line_end

-- the line of a figure of a level, such as level0_files
abbrev pub level_figure_line : ℕ → List ℕ → ℕ → List ℕ
level_figure_line level name figure = codes "level" ++ decimal level ++ codes "_" ++ figure_line name figure

-- how many files a level has, their bytes and their entries
unfoldable pub level_lines : List FileMeta → ℕ → List ℕ
level_lines files level =
    level_figure_line level (codes "files") (length (of_level level files))
    ++ level_figure_line level (codes "bytes") (saturated_sum (λ f. f.bytes) (of_level level files))
    ++ level_figure_line level (codes "entries") (saturated_sum (λ f. f.entries) (of_level level files))

-- the text of INFO: the last, the synced and the flushed sequence, and the figures of each level
abbrev pub info_text : ℕ → ℕ → ℕ → List FileMeta → List ℕ
info_text last synced flushed files =
    codes "# Keyspace" ++ line_end ++ figure_line (codes "last_sequence") last ++ figure_line (codes "synced_sequence") synced ++ figure_line (codes "flushed_sequence") flushed
    ++ flat_map (level_lines files) (0 ∷ 1 ∷ 2 ∷ 3 ∷ 4 ∷ 5 ∷ 6 ∷ [])

-- the figures of what the store holds, had at its last sync, has in tables, and has on each level
abbrev pub IsInfo : CoordValue → ℕ → Answer → Type 0
IsInfo c synced answer = (last : ℕ) × IsLatestSequence c last × (answer ≡ Reply (Bulk (Some (info_text last synced (stored_count c) c.served.version.files))))
