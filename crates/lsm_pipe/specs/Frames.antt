-- Frames: a message goes over a stream behind its length (RFC 1035, 4.2.2, a message over TCP; four bytes of length are the store's own).
use Rattle.std.specs.Prelude.{◌≡◌, ◌⊎◌, ℕ, ◌+◌, ◌<◌, ◌≤◌, ◌^◌, List, [], ◌++◌, Option, None, Some, IfSome, length, take}
use Rattle.std.specs.Int.{w32, from_be_bytes, to_be_bytes}
use Rattle.std.specs.List.{flat_map}
use Rattle.std.specs.Io.KnownBytes.{Consumes, IsAtEnd}
use Rattle.lsm_pipe.specs.declared.error.PipeError.{PipeError}
use Rattle.lsm_pipe.specs.declared.error.PipeError.TheVariants.{EndsInside, TooLong, NotMessage, TooLarge, NoEnd, ReadFault, WriteFault, OutOfMemory}
use Rattle.lsm_key.specs.Sets.{IsIn}
use Rattle.lsm_io.specs.declared.sink.SinkError.{SinkError}
use Rattle.lsm_io.specs.declared.sink.SinkError.TheVariants as sink
use Rattle.lsm_io.specs.declared.source.SourceError.{SourceError}
use Rattle.lsm_io.specs.declared.source.SourceError.TheVariants as source
use Rattle.lsm_msg.specs.declared.message.Message.{Message}
use Rattle.lsm_msg.specs.declared.message.TheConstants.{MAX_MESSAGE_BYTES}
use Rattle.lsm_msg.specs.Messages.{IsMessage, IsSpelled, message, sized}

-- why a pipe ends, by why no more is read
abbrev pub source_error_of : SourceError → PipeError
source_error_of source.ReadFault = ReadFault
source_error_of source.NoEnd = NoEnd
source_error_of source.OutOfMemory = OutOfMemory

-- why a pipe ends, by why no more is written
abbrev pub sink_error_of : SinkError → PipeError
sink_error_of sink.WriteFault = WriteFault
sink_error_of sink.NoEnd = NoEnd

-- ---- reading

-- the length that the bytes announce
abbrev pub announced : List ℕ → ℕ
announced bytes = from_be_bytes w32 (take 4 bytes)

-- the bytes begin with a frame, and end inside it
pub record IsCutFrame (bytes : List ℕ) : Type 0 where
  pub begun : 0 < length bytes
  pub cut : (length bytes < 4) ⊎ (length bytes < 4 + announced bytes)

-- the bytes begin with a length that no message has
pub record IsTooLongFrame (bytes : List ℕ) : Type 0 where
  pub head : 4 ≤ length bytes
  pub long : MAX_MESSAGE_BYTES < announced bytes

-- the head of a frame that announces this length
pub record IsHead (head : List ℕ) (len : ℕ) : Type 0 where
  pub spelled : head ≡ to_be_bytes w32 len
  pub fits : len < 2 ^ 32

-- what a reader loses is a frame, and these are its bytes; none if nothing is left
abbrev pub ReadsFrame : Option (List ℕ) → Option (List ℕ) → Option (List ℕ) → Type 0
ReadsFrame old new (Some payload) = Consumes old new (sized payload) × (length payload ≤ MAX_MESSAGE_BYTES)
ReadsFrame old new None = IsAtEnd old × Consumes old new []

-- why no frame is read
abbrev pub FrameRefuses : Option (List ℕ) → PipeError → Type 0
FrameRefuses known EndsInside = IfSome known IsCutFrame
FrameRefuses known TooLong = IfSome known IsTooLongFrame
FrameRefuses known NoEnd = Unit {0}
FrameRefuses known ReadFault = Unit {0}
FrameRefuses known OutOfMemory = Unit {0}
FrameRefuses known e = ⊥

-- why bytes are not read
abbrev pub IsReadError : PipeError → Type 0
IsReadError NoEnd = Unit {0}
IsReadError ReadFault = Unit {0}
IsReadError OutOfMemory = Unit {0}
IsReadError e = ⊥

-- what a reader loses is these bytes, as many as asked for, or fewer before its end
pub record TakesUpTo (count : ℕ) (old new : Option (List ℕ)) (bytes : List ℕ) : Type 0 where
  pub consumed : Consumes old new bytes
  pub few : length bytes ≤ count
  pub end : length bytes < count → IsAtEnd new

-- ---- messages

-- the frames of messages, one after another
abbrev pub framed : List Message → List ℕ
framed messages = flat_map (λ m. sized (message m)) messages

-- what a reader loses is the frame of a message, which is this one; none if nothing is left
abbrev pub TakesMessage : Option (List ℕ) → Option (List ℕ) → Option Message → Type 0
TakesMessage old new (Some m) = Consumes old new (sized (message m)) × IsMessage m
TakesMessage old new None = IsAtEnd old × Consumes old new []

-- the bytes of a whole frame, which are no message
pub record IsNoMessage (bytes : List ℕ) : Type 0 where
  pub payload : List ℕ
  pub rest : List ℕ
  pub whole : bytes ≡ sized payload ++ rest
  pub none : (m : Message) → IsSpelled payload m → ⊥

-- why the bytes of a frame are not read as a message
abbrev pub NoMessage : List ℕ → PipeError → Type 0
NoMessage payload NotMessage = (m : Message) → IsSpelled payload m → ⊥
NoMessage payload OutOfMemory = Unit {0}
NoMessage payload e = ⊥

-- why no message is read
abbrev pub MessageRefuses : Option (List ℕ) → PipeError → Type 0
MessageRefuses known NotMessage = IfSome known IsNoMessage
MessageRefuses known e = FrameRefuses known e

-- the message has too many bytes for a frame
abbrev pub ExceedsFrame : Message → Type 0
ExceedsFrame m = MAX_MESSAGE_BYTES < length (message m)

-- the message has no more bytes than a frame may have
abbrev pub FitsFrame : Message → Type 0
FitsFrame m = length (message m) ≤ MAX_MESSAGE_BYTES

-- why a message is not sent: that it has too many bytes comes before all else
abbrev pub SendRefuses : Message → PipeError → Type 0
SendRefuses m TooLarge = ExceedsFrame m
SendRefuses m NoEnd = FitsFrame m
SendRefuses m WriteFault = FitsFrame m
SendRefuses m OutOfMemory = FitsFrame m
SendRefuses m e = ⊥

-- the sink takes no more bytes
abbrev pub IsSinkError : PipeError → Type 0
IsSinkError NoEnd = Unit {0}
IsSinkError WriteFault = Unit {0}
IsSinkError e = ⊥

-- one of the messages has too many bytes
abbrev pub HasTooLarge : List Message → Type 0
HasTooLarge messages = (m : Message) × IsIn m messages × ExceedsFrame m

-- why not all of these messages are sent
abbrev pub SendStops : List Message → PipeError → Type 0
SendStops messages TooLarge = HasTooLarge messages
SendStops messages NoEnd = Unit {0}
SendStops messages WriteFault = Unit {0}
SendStops messages OutOfMemory = Unit {0}
SendStops messages e = ⊥
