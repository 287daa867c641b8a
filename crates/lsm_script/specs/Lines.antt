-- The lines that the replies of nodes print (the store's own output format, one line a reply).
use Rattle.std.specs.Prelude.{ℕ, ◌==◌, List, [], ◌∷◌, ◌++◌, Option, codes, length, if◌then◌else◌}
use Rattle.std.specs.Fmt.{decimal}
use Rattle.lsm_claim.specs.declared.job.JobId.{JobId}
use Rattle.lsm_line.specs.Lines.{got_text, name_text, numbers_text}
use Rattle.lsm_world.specs.declared.reply.PickedJob.{PickedJob}
use Rattle.lsm_world.specs.declared.reply.Sent.{Sent}
use Rattle.lsm_world.specs.declared.reply.Sent.TheVariants as sent

-- a flush: the version after it, its flushed sequence, and the number of the new file
abbrev pub flushed_text : ℕ → ℕ → ℕ → List ℕ
flushed_text number seq file = codes "version " ++ decimal number ++ codes " flushed " ++ decimal seq ++ codes " file " ++ decimal file

-- a freeze: the last sequence of the frozen memtable
abbrev pub froze_text : ℕ → List ℕ
froze_text seq = codes "frozen " ++ decimal seq

-- the messages of an event: none, one, more, or that they were lost
abbrev pub messages_text : Sent → List ℕ
messages_text sent.Nothing = []
messages_text sent.Lost = codes "message lost"
messages_text (sent.Messages first last) =
    if first == last then codes "message " ++ decimal first
    else codes "messages " ++ decimal first ++ codes "-" ++ decimal last

-- the same after other words
abbrev pub sent_text : Sent → List ℕ
sent_text sent.Nothing = []
sent_text sent.Lost = codes " " ++ messages_text sent.Lost
sent_text (sent.Messages first last) = codes " " ++ messages_text (sent.Messages first last)

-- a picked job: its name, its level, its inputs, and what was sent
abbrev pub picked_text : PickedJob → Sent → List ℕ
picked_text job told =
    codes "job " ++ name_text job.id.epoch job.id.number ++ codes " level " ++ decimal job.level ++ codes " inputs " ++ numbers_text job.inputs ++ sent_text told

-- a claim that was given back: the name of its job
abbrev pub returned_text : JobId → List ℕ
returned_text id = codes "returned " ++ name_text id.epoch id.number

-- a claim that was stale when it was given back: the name of its job
abbrev pub stale_text : JobId → List ℕ
stale_text id = codes "stale " ++ name_text id.epoch id.number

-- a question that was served: what was sent
abbrev pub served_text : Sent → List ℕ
served_text told = codes "served" ++ sent_text told

-- the files that a merge made
abbrev pub made_text : List ℕ → List ℕ
made_text [] = codes "none"
made_text (file ∷ files) = numbers_text (file ∷ files)

-- an installed result: the version after it, and the numbers of its files
abbrev pub installed_text : ℕ → List ℕ → List ℕ
installed_text number files = codes "installed version " ++ decimal number ++ codes " files " ++ made_text files

-- a worker that collects: how many inputs it lacks, and what was sent
abbrev pub collecting_text : ℕ → Sent → List ℕ
collecting_text missing told = codes "collecting " ++ decimal missing ++ sent_text told

-- a merge that was made: what was sent
abbrev pub merged_text : Sent → List ℕ
merged_text told = codes "merged" ++ sent_text told

-- a restarted worker: its index
abbrev pub restarted_text : ℕ → List ℕ
restarted_text worker = codes "restarted w" ++ decimal worker

-- the floor, and how many tables were let go
abbrev pub trimmed_text : ℕ → List ℕ → List ℕ
trimmed_text floor files = codes "floor " ++ decimal floor ++ codes " removed " ++ decimal (length files)

-- the version that a follower read at, and what it found
abbrev pub read_text : ℕ → Option (List ℕ) → List ℕ
read_text number value = codes "at " ++ decimal number ++ codes " " ++ got_text value

-- a follower that waits: how many tables it lacks, and what was sent
abbrev pub waiting_text : ℕ → Sent → List ℕ
waiting_text missing told = codes "waiting " ++ decimal missing ++ sent_text told

-- a follower that moved: the number of the version that it serves now
abbrev pub advanced_text : ℕ → List ℕ
advanced_text number = codes "version " ++ decimal number

-- a restarted follower: its index
abbrev pub restarted_follower_text : ℕ → List ℕ
restarted_follower_text follower = codes "restarted f" ++ decimal follower

-- the epoch and the version that an opening began, and the last sequence that it found
abbrev pub opened_text : ℕ → ℕ → ℕ → List ℕ
opened_text epoch number last = codes "epoch " ++ decimal epoch ++ codes " version " ++ decimal number ++ codes " last " ++ decimal last
