-- The lines that replies print.
use Rattle.std.specs.Prelude.{List, ℕ, map, codes}
use Rattle.std.specs.List.{flat_map}
use Rattle.lsm_coord.specs.Contract.Shows.{place_of}
use Rattle.lsm_world.specs.declared.reply.Reply.{Reply}
use Rattle.lsm_world.specs.declared.reply.Reply.TheVariants as reply
use Rattle.lsm_world.specs.Replies.{why_of}
use Rattle.lsm_line.specs.Lines.{wrote_text, snapped_text, released_text, got_text, scanned_text, shown_text, refused_text, as_line}
use Rattle.lsm_script.specs.Lines.{
  froze_text,
  flushed_text,
  picked_text,
  returned_text,
  stale_text,
  served_text,
  installed_text,
  collecting_text,
  merged_text,
  opened_text,
  restarted_text,
  trimmed_text,
  messages_text,
  read_text,
  waiting_text,
  advanced_text,
  restarted_follower_text,
}

-- the text of a reply
abbrev pub text_of : Reply → List ℕ
text_of (reply.Wrote first last) = wrote_text first last
text_of (reply.Froze seq) = froze_text seq
text_of (reply.Flushed f) = flushed_text f.number f.seq f.file
text_of (reply.Snapped id seq) = snapped_text id seq
text_of (reply.Released id) = released_text id
text_of (reply.Got value) = got_text value
text_of (reply.Scanned pairs) = scanned_text pairs
text_of (reply.Shown v) = shown_text v.number v.flushed (map place_of v.files)
text_of (reply.Picked job sent) = picked_text job sent
text_of reply.Idle = codes "idle"
text_of (reply.Returned id) = returned_text id
text_of (reply.StaleClaim id) = stale_text id
text_of (reply.Served sent) = served_text sent
text_of (reply.Installed number files) = installed_text number files
text_of reply.Ignored = codes "ignored"
text_of (reply.Collecting missing sent) = collecting_text missing sent
text_of (reply.Merged sent) = merged_text sent
text_of reply.Dropped = codes "dropped"
text_of (reply.Restarted epoch number last) = opened_text epoch number last
text_of (reply.RestartedWorker worker) = restarted_text worker
text_of (reply.Trimmed floor files) = trimmed_text floor files
text_of (reply.Asked sent) = messages_text sent
text_of (reply.ReadAt number value) = read_text number value
text_of (reply.Waiting missing sent) = waiting_text missing sent
text_of (reply.Advanced number) = advanced_text number
text_of reply.Current = codes "current"
text_of (reply.RestartedFollower follower) = restarted_follower_text follower
text_of (reply.Refused why) = refused_text (why_of why)

-- the line of a reply, with its end
abbrev pub line : Reply → List ℕ
line reply = as_line (text_of reply)

-- a line for each reply
abbrev pub reply_lines : List Reply → List ℕ
reply_lines replies = flat_map line replies
