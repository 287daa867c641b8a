-- Replies that say that memory ran out (the store's own).
use Rattle.std.specs.Prelude.{◌≡◌, ◌⊎◌}
use Rattle.lsm_key.specs.declared.batch.KeyError.TheVariants as key
use Rattle.lsm_coord.specs.declared.error.CoordError.TheVariants as coord
use Rattle.lsm_versions.specs.declared.error.OpenError.TheVariants as opening
use Rattle.lsm_world.specs.declared.refusal.Refusal.{Refusal}
use Rattle.lsm_world.specs.declared.refusal.Refusal.TheVariants as why
use Rattle.lsm_world.specs.declared.reply.Reply.{Reply}
use Rattle.lsm_world.specs.declared.reply.Reply.TheVariants as reply
use Rattle.lsm_world.specs.declared.reply.Sent.TheVariants.{Lost}

-- the refusal says that memory ran out, at whichever node or place
abbrev pub IsOutOfMemory : Refusal → Type 0
IsOutOfMemory w = (w ≡ why.NotTaken) ⊎ ((w ≡ why.OutOfMemory) ⊎ ((w ≡ why.Coord coord.OutOfMemory) ⊎ ((w ≡ why.Key key.OutOfMemory) ⊎ (w ≡ why.Open opening.OutOfMemory))))

-- the event was refused for it, or its messages were lost
abbrev pub SaysOutOfMemory : Reply → Type 0
SaysOutOfMemory (reply.Refused w) = IsOutOfMemory w
SaysOutOfMemory (reply.Picked job sent) = sent ≡ Lost
SaysOutOfMemory (reply.Served sent) = sent ≡ Lost
SaysOutOfMemory (reply.Collecting missing sent) = sent ≡ Lost
SaysOutOfMemory (reply.Merged sent) = sent ≡ Lost
SaysOutOfMemory (reply.Asked sent) = sent ≡ Lost
SaysOutOfMemory (reply.Waiting missing sent) = sent ≡ Lost
SaysOutOfMemory r = ⊥
