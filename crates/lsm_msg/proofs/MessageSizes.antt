-- How long the texts of messages are.
use Rattle.std.proofs.Common.{◌≡◌, ℕ, ◌+◌, ◌*◌, ◌≤◌, List, [], ◌∷◌, ◌++◌, length, arith}
use Rattle.std.specs.Int.{w8, w16, w32, to_be_bytes}
use Rattle.std.specs.List.{flat_map}
use Rattle.std.proofs.lemmas.List.{length-append}
use Rattle.lsm_key.specs.declared.range.KeyRange.{KeyRange}
use Rattle.lsm_key.specs.Versions.{version_of}
use Rattle.lsm_edit.specs.File.{file}
use Rattle.lsm_edit.proofs.TextSizes.{base_long, files_long, numbers_long}
use Rattle.lsm_msg.specs.declared.job.JobParts.{JobParts}
use Rattle.lsm_msg.specs.declared.message.Body.{Body}
use Rattle.lsm_msg.specs.declared.message.Body.TheVariants as body
use Rattle.lsm_msg.specs.declared.message.Message.{Message}
use Rattle.lsm_msg.specs.declared.message.TheConstants.{MAX_MESSAGE_BYTES}
use Rattle.lsm_msg.specs.declared.node.Node.{Node}
use Rattle.lsm_msg.specs.declared.node.Node.TheVariants.{Coordinator, Worker, Follower}
use Rattle.lsm_msg.specs.Messages.{body_text, job, job_id, message_kind_code, kind_of, message, message_magic, node, own_keys, points, range, ranges, sized}
use Rattle.lsm_msg.proofs.BodyLaws.{IsCounted}

tables_long : (ts : List (List ℕ)) → length ts ≤ length (flat_map sized ts)
tables_long [] = omega arith
tables_long (t ∷ ts) = (let rest = tables_long ts in let parts = length-append (sized t) (flat_map sized ts) in omega (arith, rest, parts))

node_long : (n : Node) → length (node n) ≡ 2
node_long Coordinator = omega arith
node_long (Worker index) = omega arith
node_long (Follower index) = omega arith

ranges_after : (front : List ℕ) (rs : List KeyRange) → length (front ++ ranges rs) ≡ length front + 4 + length (flat_map range rs)
ranges_after front rs = (let parts = length-append front (ranges rs) in omega (arith, parts))

pub job_long : (j : JobParts) → length (job j) ≡ 28 + 8 * length j.points + length (flat_map file j.inputs) + length (flat_map range j.deeper)
job_long j =
    let head = job_id j.id ++ to_be_bytes w8 j.level ++ to_be_bytes w32 j.block in
    let inputs = to_be_bytes w16 (length j.inputs) ++ flat_map file j.inputs in
    let a = ranges_after (head ++ points j.points ++ inputs) j.deeper in
    let b = length-append (head ++ points j.points) inputs in
    let d = length-append head (points j.points) in
    let e = numbers_long j.points in
    omega (arith, a, b, d, e)

pub message_long : (m : Message) → length (message m) ≡ 10 + length (body_text m.body)
message_long m =
    let a = length-append (to_be_bytes w32 message_magic ++ to_be_bytes w8 (version_of (own_keys m.body)) ++ to_be_bytes w8 (message_kind_code (kind_of m.body)) ++ node m.src ++ node m.dst) (body_text m.body) in
    let b = length-append (to_be_bytes w32 message_magic ++ to_be_bytes w8 (version_of (own_keys m.body)) ++ to_be_bytes w8 (message_kind_code (kind_of m.body)) ++ node m.src) (node m.dst) in
    let d = length-append (to_be_bytes w32 message_magic ++ to_be_bytes w8 (version_of (own_keys m.body)) ++ to_be_bytes w8 (message_kind_code (kind_of m.body))) (node m.src) in
    let src = node_long m.src in
    let dst = node_long m.dst in
    omega (arith, a, b, d, src, dst)

pub body_short : (m : Message) → length (body_text m.body) ≤ length (message m)
body_short m = (let long = message_long m in omega (arith, long))

-- a body that is not too long has few tables and few files
pub counted_of : (b : Body) → length (body_text b) ≤ MAX_MESSAGE_BYTES → IsCounted b
counted_of (body.Job j) small = tt
counted_of (body.Fetch n) small = tt
counted_of (body.Table n bytes) small = tt
counted_of (body.Gone n) small = tt
counted_of (body.Result r) small = (let few = tables_long r.tables in omega (arith, few, small))
counted_of (body.Ask n) small = tt
counted_of (body.Edit e) small = tt
counted_of (body.Base v) small = (let few = files_long v.files in let long = base_long v in omega (arith, few, long, small))
counted_of (body.Current n) small = tt
