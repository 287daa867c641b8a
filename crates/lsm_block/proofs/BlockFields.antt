-- The two laws of each field of an entry: what is decoded encodes to the bytes, and what encodes to the bytes is decoded.
use Rattle.std.proofs.Common.{◌≡◌, ℕ, ◌^◌, ◌<◌, ◌≤◌, cond, ltb, List, ◌++◌, length, Result, Ok, Err, sym, ap, subst, ◌∙◌, append_assoc, arith, refl}
use Rattle.std.specs.Int.{w32, to_be_bytes}
use Rattle.std.proofs.lemmas.Bool.{ltb-false, le-ltb}
use Rattle.lsm_key.specs.declared.entry.Entry.{Entry}
use Rattle.lsm_key.specs.declared.entry.Kind.{Kind}
use Rattle.lsm_key.specs.declared.entry.Kind.TheVariants.{Delete, Put}
use Rattle.lsm_key.specs.declared.limits.TheConstants.{MAX_KEY_BYTES}
use Rattle.lsm_key.specs.Reading.{◌>>=◌, number_at, piece_at, key_at, trailer_at}
use Rattle.lsm_key.specs.Spelling.{key, trailer, IsKey}
use Rattle.lsm_key.proofs.FieldLaws.{IsBytes, bind_ok, guard_ok, ok_is, Takes, Takes-then, wide32, number_takes, number_again, piece_takes, piece_again, key_takes, key_again, trailer_takes, trailer_again}
use Rattle.lsm_block.specs.declared.fault.BlockFault.{BlockFault}
use Rattle.lsm_block.specs.declared.fault.BlockFault.TheVariants.{Truncated, BadKind, BadLength}
use Rattle.lsm_key.specs.Entries.{longest, IsEntry}
use Rattle.lsm_block.specs.Blocks.{value, entry, HasSequence, HasShortKey}
use Rattle.lsm_block.specs.BlockReading.{value_field_at, entry_at, entry_within}

pub longest_fits : (kind : Kind) (n : ℕ) → n ≤ longest kind → n < 2 ^ 32
longest_fits Delete n le = omega (arith, le)
longest_fits Put n le = omega (arith, le)

pub value_takes : (kind : Kind) (bytes v rest : List ℕ) → IsBytes bytes → value_field_at kind bytes ≡ Ok (v, rest) → Takes bytes (value v) rest × (length v ≤ longest kind)
unfolding value_field_at
value_takes kind bytes v rest fits e =
    let a = bind_ok (number_at Truncated w32 bytes) (λ n. cond (ltb (longest kind) n.0) (Err BadLength) (piece_at Truncated n.0 n.1)) (v, rest) e in
    let n = a.0 in
    let t = number_takes Truncated w32 (2 ^ 32) wide32 bytes n.0 n.1 fits a.1 in
    let g = guard_ok (ltb (longest kind) n.0) BadLength (piece_at Truncated n.0 n.1) (v, rest) a.2 in
    let p = piece_takes Truncated n.0 n.1 v rest t.0.rest_fits g.1 in
    let both = Takes-then bytes (to_be_bytes w32 n.0) n.1 v rest t.0 p.0 in
    let most : n.0 ≤ longest kind = ltb-false (longest kind) n.0 g.0 in
    (subst (λ (m : ℕ). Takes bytes (to_be_bytes w32 m ++ v) rest) (sym p.1) both, omega (arith, p.1, most))

pub value_again : (kind : Kind) (v rest : List ℕ) → (length v ≤ longest kind) → value_field_at kind (value v ++ rest) ≡ Ok (v, rest)
unfolding value_field_at
value_again kind v rest fits =
    let regrouped : value v ++ rest ≡ to_be_bytes w32 (length v) ++ (v ++ rest) = append_assoc (to_be_bytes w32 (length v)) v rest in
    let lt = longest_fits kind (length v) fits in
    ap (value_field_at kind) regrouped ∙ rw (number_again Truncated w32 (2 ^ 32) wide32 (length v) (v ++ rest) lt, le-ltb (longest kind) (length v) fits, piece_again Truncated (length v) v rest refl) refl

-- what follows a key, and what follows its trailer
abbrev pub after_tag : List ℕ → (ℕ × Kind) × List ℕ → Result (Entry × List ℕ) BlockFault
after_tag key tag = value_field_at tag.0.1 tag.1 >>= λ value. Ok (record { ikey = record { key = key; seq = tag.0.0; kind = tag.0.1 }; value = value.0 }, value.1)

abbrev pub after_key : List ℕ × List ℕ → Result (Entry × List ℕ) BlockFault
after_key key = trailer_at Truncated BadKind key.1 >>= after_tag key.0

pub entry_takes : (limit : ℕ) → limit ≤ MAX_KEY_BYTES → (bytes : List ℕ) (x : Entry × List ℕ) → IsBytes bytes → entry_within limit bytes ≡ Ok x → Takes bytes (entry x.0) x.1 × IsEntry x.0 × HasSequence x.0 × HasShortKey limit x.0
unfolding entry_within
entry_takes limit le bytes x fits e =
    let a = bind_ok (key_at limit Truncated BadLength bytes) after_key x e in
    let b = bind_ok (trailer_at Truncated BadKind a.0.1) (after_tag a.0.0) x a.2 in
    let c = bind_ok (value_field_at b.0.0.1 b.0.1) (λ value. Ok (record { ikey = record { key = a.0.0; seq = b.0.0.0; kind = b.0.0.1 }; value = value.0 }, value.1)) x b.2 in
    let t0 = key_takes Truncated BadLength limit bytes a.0.0 a.0.1 fits a.1 in
    let t1 = trailer_takes Truncated BadKind a.0.1 b.0 t0.0.rest_fits b.1 in
    let t2 = value_takes b.0.0.1 b.0.1 c.0.0 c.0.1 t1.0.rest_fits c.1 in
    let e01 = Takes-then bytes (key a.0.0) a.0.1 (trailer b.0.0.0 b.0.0.1) b.0.1 t0.0 t1.0 in
    let e02 = Takes-then bytes (key a.0.0 ++ trailer b.0.0.0 b.0.0.1) b.0.1 (value c.0.0) c.0.1 e01 t2.0 in
    let made : Entry × List ℕ = (record { ikey = record { key = a.0.0; seq = b.0.0.0; kind = b.0.0.1 }; value = c.0.0 }, c.0.1) in
    let short : length a.0.0 ≤ limit = t0.1.1 in
    let any : IsKey MAX_KEY_BYTES a.0.0 = (t0.1.0, omega (arith, short, le)) in
    subst (λ (y : Entry × List ℕ). Takes bytes (entry y.0) y.1 × IsEntry y.0 × HasSequence y.0 × HasShortKey limit y.0) (ok_is {F = BlockFault} made x c.2) (e02, record { key = any; written = t1.1; value = t2.1 }, t1.2, short)

pub entry_within_again : (limit : ℕ) (e : Entry) (rest : List ℕ) → IsEntry e → HasSequence e → HasShortKey limit e → entry_within limit (entry e ++ rest) ≡ Ok (e, rest)
unfolding entry_within
entry_within_again limit e rest fits sequence short =
    let k = key e.ikey.key in
    let t = trailer e.ikey.seq e.ikey.kind in
    let v = value e.value in
    let regrouped : entry e ++ rest ≡ k ++ (t ++ (v ++ rest)) = append_assoc (k ++ t) v rest ∙ append_assoc k t (v ++ rest) in
    ap (entry_within limit) regrouped ∙ rw (key_again Truncated BadLength limit e.ikey.key (t ++ (v ++ rest)) (fits.key.0, short) (omega (arith, fits.key.1)), trailer_again Truncated BadKind e.ikey.seq e.ikey.kind (v ++ rest) fits.written sequence, value_again e.ikey.kind e.value rest fits.value) refl

-- an entry of any key
pub entry_again : (e : Entry) (rest : List ℕ) → IsEntry e → HasSequence e → entry_at (entry e ++ rest) ≡ Ok (e, rest)
entry_again e rest fits sequence = entry_within_again MAX_KEY_BYTES e rest fits sequence fits.key.1
