-- What replies say in the coordinator's definitions.
use Rattle.std.specs.Prelude.{map}
use Rattle.lsm_coord.specs.Model.Event as say
use Rattle.lsm_coord.specs.Model.Rules.{key_refusal}
use Rattle.lsm_coord.specs.Contract.Shows.{place_of}
use Rattle.lsm_coord.specs.Contract.Replies.{refusal_of}
use Rattle.lsm_coord.specs.Contract.Seats.{open_refusal}
use Rattle.lsm_world.specs.declared.refusal.Refusal.{Refusal}
use Rattle.lsm_world.specs.declared.refusal.Refusal.TheVariants as why
use Rattle.lsm_world.specs.declared.reply.Reply.{Reply}
use Rattle.lsm_world.specs.declared.reply.Reply.TheVariants as reply

-- a refusal, in the words of the model
abbrev pub why_of : Refusal → say.Refusal
why_of (why.Key error) = key_refusal error
why_of (why.Coord error) = refusal_of error
why_of (why.Open error) = open_refusal error
why_of why.Down = say.Down
why_of why.Busy = say.Busy
why_of why.NoClaim = say.NoClaim
why_of why.OldEpoch = say.OldEpoch
why_of why.NoMessage = say.NoMessage
why_of why.NotTaken = say.OutOfMemory
why_of why.OutOfMemory = say.OutOfMemory

-- a reply, in the words of the model: one that changes no answer there is `Other`
abbrev pub reply_of : Reply → say.Reply
reply_of (reply.Wrote first last) = say.Wrote first last
reply_of (reply.Froze seq) = say.Froze seq
reply_of (reply.Flushed f) = say.Flushed f.number f.seq f.file
reply_of (reply.Snapped id seq) = say.Snapped id seq
reply_of (reply.Released id) = say.Released id
reply_of (reply.Got value) = say.Got value
reply_of (reply.Scanned pairs) = say.Scanned pairs
reply_of (reply.Shown v) = say.Shown v.number v.flushed (map place_of v.files)
reply_of (reply.Picked job sent) = say.Other
reply_of reply.Idle = say.Other
reply_of (reply.Returned id) = say.Other
reply_of (reply.StaleClaim id) = say.Other
reply_of (reply.Served sent) = say.Other
reply_of (reply.Installed number files) = say.Installed number files
reply_of reply.Ignored = say.Other
reply_of (reply.Collecting missing sent) = say.Other
reply_of (reply.Merged sent) = say.Other
reply_of reply.Dropped = say.Other
reply_of (reply.Restarted epoch number last) = say.Restarted epoch number last
reply_of (reply.RestartedWorker worker) = say.Reset
reply_of (reply.Trimmed floor removed) = say.Trimmed floor
reply_of (reply.Asked sent) = say.Other
reply_of (reply.ReadAt number value) = say.ReadAt number value
reply_of (reply.Waiting missing sent) = say.Other
reply_of (reply.Advanced number) = say.Advanced number
reply_of reply.Current = say.Other
reply_of (reply.RestartedFollower follower) = say.Reset
reply_of (reply.Refused why) = say.Refused (why_of why)
