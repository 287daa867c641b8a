-- What is answered to a request, by what the store holds, and what it holds then (Redis commands reference; RANGE is the store's own).
use Rattle.std.specs.Prelude.{◌≡◌, ◌⊎◌, ℕ, ◌+◌, ◌≤◌, Bool, true, false, List, [], ◌∷◌, ◌++◌, Option, None, Some, codes, length, nat_lt, if◌then◌else◌}
use Rattle.std.specs.Fmt.{decimal}
use Rattle.std.specs.Int.{from_bool}
use Rattle.lsm_key.specs.declared.op.Op.{Op}
use Rattle.lsm_key.specs.declared.op.Op.TheVariants.{Delete, Put}
use Rattle.lsm_key.specs.Limits.{batch_fault}
use Rattle.lsm_coord.specs.declared.error.CoordError.TheVariants as coord
use Rattle.lsm_coord.specs.Contract.Calls.{GetRefuses, ScanRefuses}
use Rattle.lsm_coord.specs.Contract.Value.{CoordValue}
use Rattle.lsm_store.specs.declared.error.StoreError.{StoreError}
use Rattle.lsm_store.specs.declared.error.StoreError.TheVariants as store
use Rattle.lsm_store.specs.Store.{Accepts, Keeps, OfCoord, OpRefuses, ReadsValue, ReadsRange, StoreFlushRefuses, Stores, WriteRefuses}
use Rattle.lsm_resp.specs.declared.reply.RespReply.TheVariants.{Array, Bulk, Integer, Simple}
use Rattle.lsm_serve.specs.declared.answer.range.TheConstants.{MAX_RANGE_KEYS}
use Rattle.lsm_serve.specs.declared.answer.Answer.{Answer}
use Rattle.lsm_serve.specs.declared.answer.Answer.TheVariants.{Refused, Reply}
use Rattle.lsm_serve.specs.declared.command.Command.{Command}
use Rattle.lsm_serve.specs.declared.command.Command.TheVariants as command
use Rattle.lsm_serve.specs.declared.refusal.CommandRefusal.TheVariants.{NoDatabase, NoNumber, Store, Syntax, UnknownCommand, WrongCount}
use Rattle.lsm_serve.specs.Arguments.{ArePairs, WithOne, WithSome, WithThree, WithTwo}
use Rattle.lsm_serve.specs.Commands.{IsCalled, IsNoCommand}
use Rattle.lsm_serve.specs.Figures.{IsInfo}

-- ---- commands that do not ask the store

-- PING answers its message, or PONG without one
abbrev pub IsPing : List (List ℕ) → Answer → Type 0
IsPing [] answer = answer ≡ Reply (Simple (codes "PONG"))
IsPing (message ∷ []) answer = answer ≡ Reply (Bulk (Some message))
IsPing (message ∷ other ∷ args) answer = answer ≡ Refused (WrongCount command.Ping)

-- ECHO answers its message
abbrev pub IsEcho : List (List ℕ) → Answer → Type 0
IsEcho args answer = WithOne (λ message. answer ≡ Reply (Bulk (Some message))) (answer ≡ Refused (WrongCount command.Echo)) args

-- CONFIG with any argument answers an empty array: no parameter is known
abbrev pub IsConfig : List (List ℕ) → Answer → Type 0
IsConfig args answer = WithSome (answer ≡ Reply (Array [])) (answer ≡ Refused (WrongCount command.Config)) args

-- there is one database, of the index 0
abbrev pub SelectsIndex : List ℕ → Answer → Type 0
SelectsIndex index (Reply reply) = (reply ≡ Simple (codes "OK")) × (index ≡ codes "0")
SelectsIndex index (Refused why) = (why ≡ NoDatabase) × (index ≡ codes "0" → ⊥)

-- SELECT takes the index of one database
abbrev pub IsSelect : List (List ℕ) → Answer → Type 0
IsSelect args answer = WithOne (λ index. SelectsIndex index answer) (answer ≡ Refused (WrongCount command.Select)) args

-- QUIT, which takes no argument, is answered OK
abbrev pub IsQuit : List (List ℕ) → Answer → Type 0
IsQuit args answer = WithSome (answer ≡ Refused (WrongCount command.Quit)) (answer ≡ Reply (Simple (codes "OK"))) args

-- ---- reads

-- the store refused a call since memory ran out
abbrev pub IsShortOfMemory : StoreError → Type 0
IsShortOfMemory why = why ≡ store.Coord coord.OutOfMemory

-- the value that the key has, or null
abbrev pub AnswersKey : CoordValue → List ℕ → Answer → CoordValue → Type 0
AnswersKey old key (Reply (Bulk value)) new = ReadsValue old key None value × (new ≡ old)
AnswersKey old key (Refused (Store why)) new = OfCoord (GetRefuses old key None) why × (new ≡ old)
AnswersKey old key answer new = ⊥

-- GET answers the value of one key, and changes nothing
abbrev pub AnswersGet : CoordValue → List (List ℕ) → Answer → CoordValue → Type 0
AnswersGet old args answer new = WithOne (λ key. AnswersKey old key answer new) ((answer ≡ Refused (WrongCount command.Get)) × (new ≡ old)) args

-- the value of each key
abbrev pub ReadsAll : CoordValue → List (List ℕ) → List (Option (List ℕ)) → Type 0
ReadsAll c [] [] = Unit {0}
ReadsAll c (key ∷ keys) (value ∷ values) = ReadsValue c key None value × ReadsAll c keys values
ReadsAll c keys values = ⊥

-- the values of these keys are read, null for a key without one, unless memory runs out; nothing changes
abbrev pub GetsAll : CoordValue → List (List ℕ) → Answer → CoordValue → Type 0
GetsAll old keys (Reply (Array values)) new = ReadsAll old keys values × (new ≡ old)
GetsAll old keys (Refused (Store why)) new = IsShortOfMemory why × (new ≡ old)
GetsAll old keys answer new = ⊥

-- MGET answers the value of each key, and changes nothing
abbrev pub AnswersGetAll : CoordValue → List (List ℕ) → Answer → CoordValue → Type 0
AnswersGetAll old args answer new = WithSome (GetsAll old args answer new) ((answer ≡ Refused (WrongCount command.MultiGet)) × (new ≡ old)) args

-- whether the key has a value
abbrev pub KeyHasValue : CoordValue → List ℕ → Bool → Type 0
KeyHasValue c key true = (value : List ℕ) × ReadsValue c key None (Some value)
KeyHasValue c key false = ReadsValue c key None None

-- how many of the keys have a value, a key that is named twice being counted twice
abbrev pub CountsKeys : CoordValue → List (List ℕ) → ℕ → Type 0
CountsKeys c [] count = count ≡ 0
CountsKeys c (key ∷ keys) count = (has : Bool) × (rest : ℕ) × KeyHasValue c key has × CountsKeys c keys rest × (count ≡ from_bool has + rest)

-- the keys that have a value are counted, unless memory runs out; nothing changes
abbrev pub CountsExisting : CoordValue → List (List ℕ) → Answer → CoordValue → Type 0
CountsExisting old keys (Reply (Integer count)) new = CountsKeys old keys count × (new ≡ old)
CountsExisting old keys (Refused (Store why)) new = IsShortOfMemory why × (new ≡ old)
CountsExisting old keys answer new = ⊥

-- EXISTS answers how many of its keys have a value, and changes nothing
abbrev pub AnswersExists : CoordValue → List (List ℕ) → Answer → CoordValue → Type 0
AnswersExists old args answer new = WithSome (CountsExisting old args answer new) ((answer ≡ Refused (WrongCount command.Exists)) × (new ≡ old)) args

-- each key with its value behind it
abbrev pub in_turn : List (List ℕ × List ℕ) → List (Option (List ℕ))
in_turn [] = []
in_turn (pair ∷ pairs) = Some pair.0 ∷ Some pair.1 ∷ in_turn pairs

-- the pairs of a range are read, up to a limit, or the scan is refused for a reason; nothing changes
abbrev pub RangesWithin : CoordValue → List ℕ → List ℕ → ℕ → Answer → CoordValue → Type 0
RangesWithin old lo hi limit (Reply (Array values)) new = ((pairs : List (List ℕ × List ℕ)) × (values ≡ in_turn pairs) × ReadsRange old lo hi None limit pairs) × (new ≡ old)
RangesWithin old lo hi limit (Refused (Store why)) new = OfCoord (ScanRefuses old None) why × (new ≡ old)
RangesWithin old lo hi limit answer new = ⊥

-- the limit is the number that the word spells, and not too large
abbrev pub ReadsLimit : List ℕ → Option ℕ → Type 0
ReadsLimit word (Some limit) = (word ≡ decimal limit) × (limit ≤ MAX_RANGE_KEYS)
ReadsLimit word None = (n : ℕ) → n ≤ MAX_RANGE_KEYS → word ≡ decimal n → ⊥

-- a range is read up to the limit that the word spells; a word that spells none is refused
abbrev pub Ranges : CoordValue → List ℕ → List ℕ → List ℕ → Answer → CoordValue → Type 0
Ranges old lo hi word answer new =
    (ReadsLimit word None × (answer ≡ Refused NoNumber) × (new ≡ old))
    ⊎ ((limit : ℕ) × ReadsLimit word (Some limit) × RangesWithin old lo hi limit answer new)

-- RANGE answers the pairs from one key up to another, at most as many as a limit says, and changes nothing
abbrev pub AnswersRange : CoordValue → List (List ℕ) → Answer → CoordValue → Type 0
AnswersRange old args answer new = WithThree (λ lo hi word. Ranges old lo hi word answer new) ((answer ≡ Refused (WrongCount command.Range)) × (new ≡ old)) args

-- ---- writes

-- the answer is OK
abbrev pub RepliesOk : Answer → Type 0
RepliesOk answer = answer ≡ Reply (Simple (codes "OK"))

-- the put is accepted, or refused for a reason, and nothing is lost
abbrev pub Sets : CoordValue → List ℕ → List ℕ → Answer → CoordValue → Type 0
Sets old key value (Reply reply) new = (reply ≡ Simple (codes "OK")) × Accepts old (Put key value ∷ []) new
Sets old key value (Refused (Store why)) new = OpRefuses old (Put key value) new why × Keeps old new
Sets old key value answer new = ⊥

-- what stands behind a key and a value are options, of which none is taken
abbrev pub refused_set : ℕ → Answer
refused_set count = if nat_lt 2 count then Refused Syntax else Refused (WrongCount command.Set)

-- SET puts one key; with any other count of arguments it is refused, and nothing changes
abbrev pub AnswersSet : CoordValue → List (List ℕ) → Answer → CoordValue → Type 0
AnswersSet old args answer new = WithTwo (λ key value. Sets old key value answer new) ((answer ≡ refused_set (length args)) × (new ≡ old)) args

-- a put of each key with the value behind it
abbrev pub puts : List (List ℕ) → List Op
puts (key ∷ value ∷ pairs) = Put key value ∷ puts pairs
puts pairs = []

-- why a batch of puts is refused: an operation is outside its limits, memory runs out, or the write is refused
abbrev pub PutsRefuse : CoordValue → List (List ℕ) → CoordValue → StoreError → Type 0
PutsRefuse old pairs new (store.Key why) = batch_fault (puts pairs) ≡ Some why
PutsRefuse old pairs new (store.Coord coord.OutOfMemory) = Unit {0}
PutsRefuse old pairs new (store.Coord why) = WriteRefuses old (puts pairs) new (store.Coord why)

-- all puts are accepted as one batch, or none
abbrev pub SetsAll : CoordValue → List (List ℕ) → Answer → CoordValue → Type 0
SetsAll old pairs (Reply reply) new = (reply ≡ Simple (codes "OK")) × Accepts old (puts pairs) new
SetsAll old pairs (Refused (Store why)) new = PutsRefuse old pairs new why × Keeps old new
SetsAll old pairs answer new = ⊥

-- MSET puts all its pairs as one batch; arguments that are no pairs are refused, and nothing changes
abbrev pub AnswersSetAll : CoordValue → List (List ℕ) → Answer → CoordValue → Type 0
AnswersSetAll old args answer new =
    (ArePairs args × SetsAll old args answer new)
    ⊎ ((ArePairs args → ⊥) × (answer ≡ Refused (WrongCount command.MultiSet)) × (new ≡ old))

-- a key that has a value is deleted, another is not written
abbrev pub DeletesKey : CoordValue → List ℕ → Bool → CoordValue → Type 0
DeletesKey old key true new = KeyHasValue old key true × Accepts old (Delete key ∷ []) new
DeletesKey old key false new = KeyHasValue old key false × (new ≡ old)

-- the keys are deleted in turn, and this is how many of them had a value
abbrev pub DeletesKeys : CoordValue → List (List ℕ) → ℕ → CoordValue → Type 0
DeletesKeys old [] count new = (count ≡ 0) × (new ≡ old)
DeletesKeys old (key ∷ keys) count new =
    (mid : CoordValue) × (had : Bool) × (rest : ℕ) × DeletesKey old key had mid × DeletesKeys mid keys rest new × (count ≡ from_bool had + rest)

-- the first ones are deleted, and the next one is refused for a reason of its own
abbrev pub DeletesFirst : CoordValue → List (List ℕ) → CoordValue → StoreError → Type 0
DeletesFirst old keys new why =
    (done : List (List ℕ)) × (key : List ℕ) × (left : List (List ℕ)) × (count : ℕ) × (mid : CoordValue)
    × (keys ≡ done ++ key ∷ left) × DeletesKeys old done count mid × OpRefuses mid (Delete key) new why × Keeps mid new

-- the keys are deleted in turn, as far as no deletion is refused
abbrev pub DeletesAll : CoordValue → List (List ℕ) → Answer → CoordValue → Type 0
DeletesAll old keys (Reply (Integer count)) new = DeletesKeys old keys count new
DeletesAll old keys (Refused (Store why)) new = DeletesFirst old keys new why
DeletesAll old keys answer new = ⊥

-- DEL deletes its keys in turn, up to one that is refused, and answers how many of them had a value
abbrev pub AnswersDelete : CoordValue → List (List ℕ) → Answer → CoordValue → Type 0
AnswersDelete old args answer new = WithSome (DeletesAll old args answer new) ((answer ≡ Refused (WrongCount command.Delete)) × (new ≡ old)) args

-- all that it holds is in tables
abbrev pub Saves : CoordValue → Answer → CoordValue → Type 0
Saves old (Reply reply) new = (reply ≡ Simple (codes "OK")) × Stores old new
Saves old (Refused (Store why)) new = OfCoord (StoreFlushRefuses old new) why × Keeps old new
Saves old answer new = ⊥

-- SAVE brings all that the store holds into tables, or is refused, by which nothing is lost
abbrev pub AnswersSave : CoordValue → List (List ℕ) → Answer → CoordValue → Type 0
AnswersSave old args answer new = WithSome ((answer ≡ Refused (WrongCount command.Save)) × (new ≡ old)) (Saves old answer new) args

-- ---- any request, to a store that was last synced up to a sequence

-- what a command answers to these arguments, and what the store holds then
abbrev pub AnswersCommand : ℕ → CoordValue → Command → List (List ℕ) → Answer → CoordValue → Type 0
AnswersCommand synced old command.Ping args answer new = IsPing args answer × (new ≡ old)
AnswersCommand synced old command.Echo args answer new = IsEcho args answer × (new ≡ old)
AnswersCommand synced old command.Set args answer new = AnswersSet old args answer new
AnswersCommand synced old command.Get args answer new = AnswersGet old args answer new
AnswersCommand synced old command.Delete args answer new = AnswersDelete old args answer new
AnswersCommand synced old command.Exists args answer new = AnswersExists old args answer new
AnswersCommand synced old command.MultiGet args answer new = AnswersGetAll old args answer new
AnswersCommand synced old command.MultiSet args answer new = AnswersSetAll old args answer new
AnswersCommand synced old command.Range args answer new = AnswersRange old args answer new
AnswersCommand synced old command.Save args answer new = AnswersSave old args answer new
AnswersCommand synced old command.Info args answer new = IsInfo old synced answer × (new ≡ old)
AnswersCommand synced old command.Describe args answer new = (answer ≡ Reply (Array [])) × (new ≡ old)
AnswersCommand synced old command.Config args answer new = IsConfig args answer × (new ≡ old)
AnswersCommand synced old command.Select args answer new = IsSelect args answer × (new ≡ old)
AnswersCommand synced old command.Quit args answer new = IsQuit args answer × (new ≡ old)

-- the first word names the command
abbrev pub AnswersRequest : ℕ → CoordValue → List (List ℕ) → Answer → CoordValue → Type 0
AnswersRequest synced old [] answer new = (answer ≡ Refused UnknownCommand) × (new ≡ old)
AnswersRequest synced old (name ∷ args) answer new =
    ((which : Command) × IsCalled name which × AnswersCommand synced old which args answer new)
    ⊎ (IsNoCommand name × (answer ≡ Refused UnknownCommand) × (new ≡ old))
