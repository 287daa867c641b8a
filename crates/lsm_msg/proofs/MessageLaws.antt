-- A decoded message encodes to the bytes, and what encodes to the bytes is decoded.
use Rattle.std.proofs.Common.{◌≡◌, ℕ, zero, suc, ◌^◌, ◌<◌, ◌≤◌, ◌||◌, Bool, false, not, cond, ltb, eqb, List, [], ◌++◌, length, take, Result, Ok, Err, refl, sym, ap, subst, ◌∙◌, append_assoc, arith}
use Rattle.std.specs.Prelude.{IfOk}
use Rattle.std.specs.Int.{Width, w8, w32, to_be_bytes}
use Rattle.std.proofs.lemmas.List.{append-nil, length-take-le, nil_from_length}
use Rattle.std.proofs.lemmas.Bool.{eq-eqb, eqb-true, eqb-false, le-ltb, ltb-false, ne_eqb, not-false, or_from, or_parts}
use Rattle.lsm_key.specs.declared.limits.TheConstants.{MAX_NODES}
use Rattle.lsm_key.specs.declared.refused.Refused.{Refused}
use Rattle.lsm_key.specs.Reading.{◌>>=◌, number_at, ranged_number_at, fixed_at, Gives}
use Rattle.lsm_key.specs.Versions.{key_limit, version_of}
use Rattle.lsm_key.proofs.Beginnings.{cut_then, fixed_cut, number_cut}
use Rattle.lsm_key.proofs.FieldLaws.{IsBytes, IsWide, Takes, Takes-then, bind_ok, guard_ok, guard_held, ok_is, fixed_takes, fixed_again, number_takes, number_again, wide8, wide32}
use Rattle.lsm_key.proofs.ReaderLaws.{Reads, Goes, field, field_as, unless_so, done, whole, within_reads}
use Rattle.lsm_key.proofs.VersionLaws.{limit_low, version_is}
use Rattle.lsm_msg.specs.declared.fault.MsgFault.{MsgFault}
use Rattle.lsm_msg.specs.declared.fault.MsgFault.TheVariants.{Truncated, BadMagic, BadVersion, BadKind, BadField, TrailingBytes, TooLarge, NeedlessVersion}
use Rattle.lsm_msg.specs.declared.kind.MessageKind.{MessageKind}
use Rattle.lsm_msg.specs.declared.kind.MessageKind.TheVariants as kind
use Rattle.lsm_msg.specs.declared.message.Message.{Message}
use Rattle.lsm_msg.specs.declared.message.TheConstants.{MAX_MESSAGE_BYTES}
use Rattle.lsm_msg.specs.declared.node.Node.{Node}
use Rattle.lsm_msg.specs.declared.node.Node.TheVariants.{Coordinator, Worker, Follower}
use Rattle.lsm_msg.specs.Messages.{IsBody, IsMessage, IsNode, IsSpelled, body_text, message_kind_code, kind_of, message, message_magic, node, own_keys}
use Rattle.lsm_msg.specs.MessageReading.{message_kind_at, message_kind_from, message_at, node_at, node_from, read_message}
use Rattle.lsm_msg.proofs.BodyLaws.{BodyHasKeysWithin, IsCounted, body_reads}
use Rattle.lsm_msg.proofs.MessageSizes.{body_short, counted_of}
use Rattle.lsm_msg.proofs.MessageVersions.{body_fits}

-- ---- kinds

other_kind : (n : ℕ) → 10 ≤ n → message_kind_from n ≡ Err BadKind
other_kind n high = rw (
  ne_eqb n 1 (λ z. omega (arith, z, high)),
  ne_eqb n 2 (λ z. omega (arith, z, high)),
  ne_eqb n 3 (λ z. omega (arith, z, high)),
  ne_eqb n 4 (λ z. omega (arith, z, high)),
  ne_eqb n 5 (λ z. omega (arith, z, high)),
  ne_eqb n 6 (λ z. omega (arith, z, high)),
  ne_eqb n 7 (λ z. omega (arith, z, high)),
  ne_eqb n 8 (λ z. omega (arith, z, high)),
  ne_eqb n 9 (λ z. omega (arith, z, high)),
) refl

no_value : (k : MessageKind) → Err BadKind ≡ Ok k → ⊥
no_value k e = absurd cc

message_kind_from-is : (n : ℕ) (k : MessageKind) → message_kind_from n ≡ Ok k → n ≡ message_kind_code k
message_kind_from-is zero k e = absurd cc
message_kind_from-is (suc zero) k e = ap message_kind_code (ok_is {F = MsgFault} kind.Job k e)
message_kind_from-is (suc (suc zero)) k e = ap message_kind_code (ok_is {F = MsgFault} kind.Fetch k e)
message_kind_from-is (suc (suc (suc zero))) k e = ap message_kind_code (ok_is {F = MsgFault} kind.Table k e)
message_kind_from-is (suc (suc (suc (suc zero)))) k e = ap message_kind_code (ok_is {F = MsgFault} kind.Gone k e)
message_kind_from-is (suc (suc (suc (suc (suc zero))))) k e = ap message_kind_code (ok_is {F = MsgFault} kind.Result k e)
message_kind_from-is (suc (suc (suc (suc (suc (suc zero)))))) k e = ap message_kind_code (ok_is {F = MsgFault} kind.Ask k e)
message_kind_from-is (suc (suc (suc (suc (suc (suc (suc zero))))))) k e = ap message_kind_code (ok_is {F = MsgFault} kind.Edit k e)
message_kind_from-is (suc (suc (suc (suc (suc (suc (suc (suc zero)))))))) k e = ap message_kind_code (ok_is {F = MsgFault} kind.Base k e)
message_kind_from-is (suc (suc (suc (suc (suc (suc (suc (suc (suc zero))))))))) k e = ap message_kind_code (ok_is {F = MsgFault} kind.Current k e)
message_kind_from-is (suc (suc (suc (suc (suc (suc (suc (suc (suc (suc n)))))))))) k e = absurd (no_value k (sym (other_kind (suc (suc (suc (suc (suc (suc (suc (suc (suc (suc n)))))))))) (omega arith)) ∙ e))

message_kind_from-again : (k : MessageKind) → message_kind_from (message_kind_code k) ≡ Ok k
message_kind_from-again kind.Job = refl
message_kind_from-again kind.Fetch = refl
message_kind_from-again kind.Table = refl
message_kind_from-again kind.Gone = refl
message_kind_from-again kind.Result = refl
message_kind_from-again kind.Ask = refl
message_kind_from-again kind.Edit = refl
message_kind_from-again kind.Base = refl
message_kind_from-again kind.Current = refl

code_small : (k : MessageKind) → message_kind_code k < 2 ^ 8
code_small kind.Job = omega arith
code_small kind.Fetch = omega arith
code_small kind.Table = omega arith
code_small kind.Gone = omega arith
code_small kind.Result = omega arith
code_small kind.Ask = omega arith
code_small kind.Edit = omega arith
code_small kind.Base = omega arith
code_small kind.Current = omega arith

kind_reads : Reads Truncated message_kind_at (λ k. to_be_bytes w8 (message_kind_code k)) (λ k. Unit {0})
kind_reads = record {
  takes = λ bytes k fits e.
      let a = bind_ok (number_at Truncated w8 bytes) (λ code. message_kind_from code.0 >>= λ kind. Ok (kind, code.1)) k e in
      let b = bind_ok (message_kind_from a.0.0) (λ kind. Ok (kind, a.0.1)) k a.2 in
      let same = ok_is {F = MsgFault} (b.0, a.0.1) k b.2 in
      let t = number_takes Truncated w8 (2 ^ 8) wide8 bytes a.0.0 a.0.1 fits a.1 in
      let text : Takes bytes (to_be_bytes w8 (message_kind_code b.0)) a.0.1 = subst (λ n. Takes bytes (to_be_bytes w8 n) a.0.1) (message_kind_from-is a.0.0 b.0 b.1) t.0 in
      (subst (λ (p : MessageKind × List ℕ). Takes bytes (to_be_bytes w8 (message_kind_code p.0)) p.1) same text, tt);
  again = λ k rest is. rw (number_again Truncated w8 (2 ^ 8) wide8 (message_kind_code k) rest (code_small k), message_kind_from-again k) refl;
  cuts = λ k is n lt. ap (λ (r : Result (ℕ × List ℕ) MsgFault). r >>= λ code. message_kind_from code.0 >>= λ kind. Ok (kind, code.1)) (number_cut Truncated w8 (2 ^ 8) wide8 (message_kind_code k) n lt);
}

-- ---- nodes

node_from-is : (role index : ℕ) (n : Node) → role ≤ 2 → node_from role index ≡ Ok n → IsNode n × (to_be_bytes w8 role ++ to_be_bytes w8 index ≡ node n)
node_from-is zero index n low e =
    let g = guard_held (eqb index 0) BadField (Ok Coordinator) n e in
    let same = ok_is {F = MsgFault} Coordinator n g.1 in
    subst (λ (x : Node). IsNode x × (to_be_bytes w8 0 ++ to_be_bytes w8 index ≡ node x)) same (tt, ap (λ (i : ℕ). to_be_bytes w8 0 ++ to_be_bytes w8 i) (eqb-true index 0 g.0))
node_from-is (suc zero) index n low e =
    let g = guard_ok (eqb index 0 || ltb MAX_NODES index) BadField (Ok (Worker index)) n e in
    let tests = or_parts (eqb index 0) (ltb MAX_NODES index) g.0 in
    let some = eqb-false index 0 tests.0 in
    let most = ltb-false MAX_NODES index tests.1 in
    subst (λ (x : Node). IsNode x × (to_be_bytes w8 1 ++ to_be_bytes w8 index ≡ node x)) (ok_is {F = MsgFault} (Worker index) n g.1) ((omega (arith, some), most), refl)
node_from-is (suc (suc zero)) index n low e =
    let g = guard_ok (eqb index 0 || ltb MAX_NODES index) BadField (Ok (Follower index)) n e in
    let tests = or_parts (eqb index 0) (ltb MAX_NODES index) g.0 in
    let some = eqb-false index 0 tests.0 in
    let most = ltb-false MAX_NODES index tests.1 in
    subst (λ (x : Node). IsNode x × (to_be_bytes w8 2 ++ to_be_bytes w8 index ≡ node x)) (ok_is {F = MsgFault} (Follower index) n g.1) ((omega (arith, some), most), refl)
node_from-is (suc (suc (suc role))) index n low e = absurd (omega (arith, low))

in_range : (index : ℕ) → 1 ≤ index → index ≤ MAX_NODES → (eqb index 0 || ltb MAX_NODES index) ≡ false
in_range index some most = or_from (eqb index 0) (ltb MAX_NODES index) (ne_eqb index 0 (λ z. omega (arith, z, some))) (le-ltb MAX_NODES index most)

two_again : (role index : ℕ) (n : Node) (rest : List ℕ) → role ≤ 2 → index < 2 ^ 8 → node_from role index ≡ Ok n → node_at ((to_be_bytes w8 role ++ to_be_bytes w8 index) ++ rest) ≡ Ok (n, rest)
unfolding node_at
two_again role index n rest low small made =
    let a : ranged_number_at Truncated BadField w8 0 2 (to_be_bytes w8 role ++ (to_be_bytes w8 index ++ rest)) ≡ Ok (role, to_be_bytes w8 index ++ rest) =
    (within_reads Truncated BadField w8 (2 ^ 8) wide8 0 2 (omega arith)).again role (to_be_bytes w8 index ++ rest) (omega arith, low) in
    ap (λ (r : Result (ℕ × List ℕ) MsgFault). r >>= λ role. number_at Truncated w8 role.1 >>= λ index. node_from role.0 index.0 >>= λ node. Ok (node, index.1)) a
    ∙ ap (λ (r : Result (ℕ × List ℕ) MsgFault). r >>= λ index. node_from role index.0 >>= λ node. Ok (node, index.1)) (number_again Truncated w8 (2 ^ 8) wide8 index rest small)
    ∙ ap (λ (r : Result Node MsgFault). r >>= λ node. Ok (node, rest)) made

node_again : (n : Node) (rest : List ℕ) → IsNode n → node_at (node n ++ rest) ≡ Ok (n, rest)
node_again Coordinator rest is = two_again 0 0 Coordinator rest (omega arith) (omega arith) refl
node_again (Worker index) rest is = two_again 1 index (Worker index) rest (omega arith) (let m = is.1 in omega (arith, m)) (ap (λ (b : Bool). cond b (Err BadField) (Ok (Worker index))) (in_range index is.0 is.1))
node_again (Follower index) rest is = two_again 2 index (Follower index) rest (omega arith) (let m = is.1 in omega (arith, m)) (ap (λ (b : Bool). cond b (Err BadField) (Ok (Follower index))) (in_range index is.0 is.1))

-- a role, and then a number
two_cut : (role index : ℕ) → role ≤ 2 → (n : ℕ) → n < length (to_be_bytes w8 role ++ to_be_bytes w8 index) → node_at (take n (to_be_bytes w8 role ++ to_be_bytes w8 index)) ≡ Err Truncated
unfolding node_at
two_cut role index low n lt =
    let roles = within_reads Truncated BadField w8 (2 ^ 8) wide8 0 2 (omega arith) in
    cut_then Truncated (ranged_number_at Truncated BadField w8 0 2) (λ role. number_at Truncated w8 role.1 >>= λ index. node_from role.0 index.0 >>= λ node. Ok (node, index.1)) (to_be_bytes w8 role) (to_be_bytes w8 index) (λ rest. (role, rest))
    (roles.cuts role (omega arith, low)) (λ rest. roles.again role rest (omega arith, low))
    (λ m left. ap (λ (r : Result (ℕ × List ℕ) MsgFault). r >>= λ index. node_from role index.0 >>= λ node. Ok (node, index.1)) (number_cut Truncated w8 (2 ^ 8) wide8 index m left)) n lt

node_cut : (p : Node) (n : ℕ) → n < length (node p) → node_at (take n (node p)) ≡ Err Truncated
node_cut Coordinator n lt = two_cut 0 0 (omega arith) n lt
node_cut (Worker index) n lt = two_cut 1 index (omega arith) n lt
node_cut (Follower index) n lt = two_cut 2 index (omega arith) n lt

node_reads : Reads Truncated node_at node IsNode
unfolding node_at
node_reads = record {
  takes = λ bytes z fits e.
      let a = bind_ok (ranged_number_at Truncated BadField w8 0 2 bytes) (λ role. number_at Truncated w8 role.1 >>= λ index. node_from role.0 index.0 >>= λ node. Ok (node, index.1)) z e in
      let b = bind_ok (number_at Truncated w8 a.0.1) (λ index. node_from a.0.0 index.0 >>= λ node. Ok (node, index.1)) z a.2 in
      let d = bind_ok (node_from a.0.0 b.0.0) (λ node. Ok (node, b.0.1)) z b.2 in
      let t = (within_reads Truncated BadField w8 (2 ^ 8) wide8 0 2 (omega arith)).takes bytes a.0 fits a.1 in
      let u = number_takes Truncated w8 (2 ^ 8) wide8 a.0.1 b.0.0 b.0.1 t.0.rest_fits b.1 in
      let is = node_from-is a.0.0 b.0.0 d.0 t.1.1 d.1 in
      let text : Takes bytes (node d.0) b.0.1 = subst (λ (x : List ℕ). Takes bytes x b.0.1) is.1 (Takes-then bytes (to_be_bytes w8 a.0.0) a.0.1 (to_be_bytes w8 b.0.0) b.0.1 t.0 u.0) in
      subst (λ (p : Node × List ℕ). Takes bytes (node p.0) p.1 × IsNode p.0) (ok_is {F = MsgFault} (d.0, b.0.1) z d.2) (text, is.0);
  again = node_again;
  cuts = λ p is n lt. node_cut p n lt;
}

-- ---- whole messages

-- a number that is known, and then what follows it
constant : {Z : Type 0} {Known : Z → Type 0} {tail : Z → List ℕ} {IsZ : Z → Type 0} (k : List ℕ → Result (Z × List ℕ) MsgFault) (bad : MsgFault) (w : Width) (limit : ℕ) → IsWide w limit → (n : ℕ) → n < limit
    → Goes Truncated Known k tail IsZ → Goes Truncated Known (λ bytes. fixed_at Truncated bad w n bytes >>= k) (λ z. to_be_bytes w n ++ tail z) IsZ
constant {Z} {Known} {tail} {IsZ} k bad w limit wide n small then = record {
  takes = λ bytes z fits e.
      let a = bind_ok (fixed_at Truncated bad w n bytes) k z e in
      let t = fixed_takes Truncated bad w limit wide n bytes a.0 fits a.1 in
      let u = then.takes a.0 z t.rest_fits a.2 in
      (Takes-then bytes (to_be_bytes w n) a.0 (tail z.0) z.1 t u.0, u.1, u.2);
  again = λ z rest known is.
      ap (λ (bytes : List ℕ). fixed_at Truncated bad w n bytes >>= k) (append_assoc (to_be_bytes w n) (tail z) rest)
      ∙ ap (λ (r : Result (List ℕ) MsgFault). r >>= k) (fixed_again Truncated bad w limit wide n (tail z ++ rest) small)
      ∙ then.again z rest known is;
  cuts = λ z known is m lt.
      cut_then Truncated (fixed_at Truncated bad w n) k (to_be_bytes w n) (tail z) (λ rest. rest)
      (fixed_cut Truncated bad w limit wide n) (λ rest. fixed_again Truncated bad w limit wide n rest small) (then.cuts z known is) m lt;
}

-- the version that the message's own keys need
abbrev version : Message → ℕ
version m = version_of (own_keys m.body)

abbrev needless : Message → Bool
needless m = not (eqb (version m) (version m))

abbrev fields_spelled : Message → List ℕ
fields_spelled m = to_be_bytes w32 message_magic ++ (to_be_bytes w8 (version m) ++ (to_be_bytes w8 (message_kind_code (kind_of m.body)) ++ (node m.src ++ (node m.dst ++ (body_text m.body ++ [])))))

abbrev FieldRules : Message → Type 0
FieldRules m =
    ((1 ≤ version m) × (version m ≤ 2)) × (Unit {0} × (IsNode m.src × (IsNode m.dst × ((IsBody m.body × IsCounted m.body × BodyHasKeysWithin (key_limit (version m)) m.body) × ((needless m ≡ false) × Unit {0})))))

message_goes : Goes Truncated (λ m. Unit {0}) message_at fields_spelled FieldRules
unfolding message_at
message_goes =
    constant _ BadMagic w32 (2 ^ 32) wide32 message_magic (omega arith) (
    field _ version (within_reads Truncated BadVersion w8 (2 ^ 8) wide8 1 2 (omega arith)) (λ v _.
    field _ (λ (m : Message). kind_of m.body) kind_reads (λ k _.
    field _ (λ (m : Message). m.src) node_reads (λ src _.
    field _ (λ (m : Message). m.dst) node_reads (λ dst _.
    field_as _ (λ (m : Message). m.body) (λ m. IsBody m.body × IsCounted m.body × BodyHasKeysWithin (key_limit (version m)) m.body)
    (λ m known is. (is.0, is.1, subst (λ (n : ℕ). BodyHasKeysWithin (key_limit n) m.body) (sym known.0.0.0.1) is.2))
    (λ m known is. (is.0, is.1, subst (λ (n : ℕ). BodyHasKeysWithin (key_limit n) m.body) known.0.0.0.1 is.2, known.0.0.1))
    (body_reads (key_limit v) (limit_low v) k) (λ body is.
    unless_so _ NeedlessVersion (not (eqb (version_of (own_keys body)) v)) needless (λ m known i. not (eqb (version_of (own_keys (known.1 i))) (known.0.0.0.0.1 i))) (λ so.
    done (λ m. Unit {0}) (record { src = src; dst = dst; body = body })
    (((((tt, eqb-true (version_of (own_keys body)) v (not-false (eqb (version_of (own_keys body)) v) so)), is.3), refl), refl), refl) tt
    (λ m known is i. record { src = known.0.0.1 i; dst = known.0.1 i; body = known.1 i }))))))))

abbrev IsCountedMessage : Message → Type 0
IsCountedMessage m = IsMessage m × IsCounted m.body

message_reads : Reads Truncated message_at message IsCountedMessage
message_reads = whole message IsCountedMessage (λ m is. simp (append_assoc, append-nil) refl)
    (λ m r. (record { src = r.1.1.0; dst = r.1.1.1.0; body = r.1.1.1.1.0.0 }, r.1.1.1.1.0.1))
    (λ m is. (version_is (own_keys m.body), (tt, (is.0.src, (is.0.dst, ((is.0.body, is.1, body_fits m.body is.0.body is.1), (ap not (eq-eqb (version m) (version m) refl), tt)))))))
    message_goes

pub message_takes : (bytes : List ℕ) (m : Message) → IsBytes bytes → read_message bytes ≡ Ok m → IsSpelled bytes m
unfolding read_message
message_takes bytes m fits h =
    let s = guard_ok (ltb MAX_MESSAGE_BYTES (length bytes)) TooLarge (message_at bytes >>= λ m. cond (eqb (length m.1) 0) (Ok m.0) (Err TrailingBytes)) m h in
    let a = bind_ok (message_at bytes) (λ x. cond (eqb (length x.1) 0) (Ok x.0) (Err TrailingBytes)) m s.1 in
    let g = guard_held (eqb (length a.0.1) 0) TrailingBytes (Ok a.0.0) m a.2 in
    let t = message_reads.takes bytes a.0 fits a.1 in
    let none : a.0.1 ≡ [] = nil_from_length a.0.1 (eqb-true _ _ g.0) in
    let same = ok_is {F = MsgFault} a.0.0 m g.1 in
    subst (λ (x : Message). IsSpelled bytes x) same (record { sound = t.1.0; small = ltb-false MAX_MESSAGE_BYTES (length bytes) s.0; spelled = t.0.parts ∙ ap (λ (rest : List ℕ). message a.0.0 ++ rest) none ∙ append-nil (message a.0.0) })

pub message_again : (bytes : List ℕ) (m : Message) → IsSpelled bytes m → read_message bytes ≡ Ok m
unfolding read_message
message_again bytes m is =
    let small : ltb MAX_MESSAGE_BYTES (length bytes) ≡ false = le-ltb MAX_MESSAGE_BYTES (length bytes) is.small in
    let few = counted_of m.body (let long = body_short m in let e = ap length is.spelled in let most = is.small in omega (arith, long, e, most)) in
    let a : message_at bytes ≡ Ok (m, []) = ap message_at (is.spelled ∙ sym (append-nil (message m))) ∙ message_reads.again m [] (is.sound, few) in
    rw (small, a) refl

pub message_cut : (bytes : List ℕ) (m : Message) (n : ℕ) → IsSpelled bytes m → n < length bytes → read_message (take n bytes) ≡ Err Truncated
unfolding read_message
message_cut bytes m n is lt =
    let short = length-take-le n bytes (omega (arith, lt)) in
    let most = is.small in
    let small : ltb MAX_MESSAGE_BYTES (length (take n bytes)) ≡ false = le-ltb MAX_MESSAGE_BYTES (length (take n bytes)) (omega (arith, short, most, lt)) in
    let few = counted_of m.body (let long = body_short m in let e = ap length is.spelled in omega (arith, long, e, most)) in
    let a : message_at (take n bytes) ≡ Err Truncated =
    ap (λ (text : List ℕ). message_at (take n text)) is.spelled ∙ message_reads.cuts m (is.sound, few) n (subst (λ (text : List ℕ). n < length text) is.spelled lt) in
    rw (small, a) refl

pub message_found : (bytes : List ℕ) (r : Result Message (Refused MsgFault)) → IsBytes bytes → Gives (λ b. b) r (read_message bytes) → IfOk r (λ m. IsSpelled bytes m)
message_found bytes (Ok m) fits given = message_takes bytes m fits given
message_found bytes (Err f) fits given = tt

-- other bytes are no message's, or another's
pub other_message : (bytes other : List ℕ) (m : Message) → IsSpelled bytes m → IsBytes other → (other ≡ bytes → ⊥) → IfOk (read_message other) (λ changed. IsSpelled other changed × (changed ≡ m → ⊥))
other_message bytes other m is fits differ = by (read_message other) refl
  where
    by : (r : Result Message MsgFault) → read_message other ≡ r → IfOk r (λ changed. IsSpelled other changed × (changed ≡ m → ⊥))
    by (Ok changed) read = (let own = message_takes other changed fits read in (own, λ same. differ (own.spelled ∙ ap message same ∙ sym is.spelled)))
    by (Err fault) read = tt
