-- Entries one after the other: one list of entries has these bytes, and no fault beside it.
use Rattle.std.proofs.Common.{◌≡◌, ℕ, zero, suc, ◌+◌, ◌<◌, ◌≤◌, Bool, true, false, cond, eqb, List, [], ◌∷◌, ◌++◌, length, Result, Ok, Err, refl, sym, ap, subst, ◌∙◌, append_assoc, arith, inl, inr, ◌⊎◌}
use Rattle.std.specs.Prelude.{IfOk}
use Rattle.std.specs.List.{AllByRecursion}
use Rattle.std.proofs.lemmas.Bool.{eqb-true, eq-eqb, ne_eqb}
use Rattle.std.proofs.lemmas.List.{append-nil, length-append, nil_from_length}
use Rattle.std.proofs.lemmas.List.Concat.{flat_map-cons}
use Rattle.lsm_key.specs.declared.entry.Entry.{Entry}
use Rattle.lsm_key.specs.declared.limits.TheConstants.{MAX_KEY_BYTES}
use Rattle.lsm_block.specs.declared.fault.BlockFault.{BlockFault}
use Rattle.lsm_block.specs.declared.fault.BlockFault.TheVariants.{OutOfOrder}
use Rattle.lsm_key.specs.Entries.{IsEntry}
use Rattle.lsm_block.specs.Blocks.{entry, entries, HasSequence, HasShortKey, AreEntries, IsBlock}
use Rattle.lsm_block.specs.BlockReading.{entry_within, may_follow, last_of, next_at, entries_at, read_block}
use Rattle.lsm_key.specs.declared.refused.Refused.{Refused}
use Rattle.lsm_key.specs.declared.refused.Refused.TheVariants.{OutOfMemory, Fault}
use Rattle.lsm_key.specs.Reading.{Fails, Gives}
use Rattle.lsm_key.proofs.FieldLaws.{IsBytes, bind_ok, ok_is, Takes}
use Rattle.lsm_block.proofs.EntriesGrow.{no_entries, one_more, each_rest, follows}
use Rattle.lsm_block.proofs.BlockFields.{entry_takes, entry_within_again}

guard_passed : {A : Type 0} (b : Bool) (d : BlockFault) (x y : A) → cond b (Ok x) (Err d) ≡ Ok y → (b ≡ true) × (x ≡ y)
guard_passed true d x y e = (refl, ok_is {F = BlockFault} x y e)
guard_passed false d x y e = absurd cc

pub next_takes : (limit : ℕ) → limit ≤ MAX_KEY_BYTES → (es : List Entry) (bytes : List ℕ) (x : Entry × List ℕ) → IsBytes bytes → AreEntries es → next_at limit es bytes ≡ Ok x → Takes bytes (entry x.0) x.1 × AreEntries (es ++ x.0 ∷ []) × HasShortKey limit x.0
unfolding next_at
next_takes limit le es bytes x fits sound e =
    let a = bind_ok (entry_within limit bytes) (λ y. cond (may_follow (last_of es) y.0) (Ok y) (Err OutOfOrder)) x e in
    let g = guard_passed (may_follow (last_of es) a.0.0) OutOfOrder a.0 x a.2 in
    let t = entry_takes limit le bytes a.0 fits a.1 in
    subst (λ (y : Entry × List ℕ). Takes bytes (entry y.0) y.1 × AreEntries (es ++ y.0 ∷ []) × HasShortKey limit y.0) g.1 (t.0, one_more es a.0.0 sound t.1 t.2 g.0, t.3)

-- ---- what is decoded encodes to the bytes

pub entry_some : (e : Entry) → 0 < length (entry e)
entry_some e = rw (length-append) (omega arith)

-- no more entries than bytes
pub as_long : (es : List Entry) → length es ≤ length (entries es)
as_long [] = omega arith
as_long (x ∷ es) =
    let len : length (entries (x ∷ es)) ≡ length (entry x) + length (entries es) = ap length (flat_map-cons entry x es) ∙ length-append (entry x) (entries es) in
    omega (arith, len, entry_some x, as_long es)

entries_one : (x : Entry) → entries (x ∷ []) ≡ entry x
entries_one x = append-nil (entry x)

abbrev done : List Entry → Result (List Entry) BlockFault
done es = Ok es

step : (b : Bool) (one out : List Entry) (others : Result (List Entry) BlockFault) → cond b (Ok one) others ≡ Ok out → ((b ≡ true) × (one ≡ out)) ⊎ ((b ≡ false) × (others ≡ Ok out))
step true one out others e = inl (refl, ok_is {F = BlockFault} one out e)
step false one out others e = inr (refl, e)

pub entries_take : (limit : ℕ) → limit ≤ MAX_KEY_BYTES → (n : ℕ) (es : List Entry) (bytes : List ℕ) (out : List Entry) → IsBytes bytes → AreEntries es → entries_at limit n es bytes ≡ Ok out
    → (more : List Entry) × (out ≡ es ++ more) × AreEntries out × (bytes ≡ entries more) × (0 < length more) × AllByRecursion (HasShortKey limit) more
unfolding entries_at
entries_take limit le zero es bytes out fits sound e = absurd cc
entries_take limit le (suc n) es bytes out fits sound e =
    let a = bind_ok (next_at limit es bytes) (λ x. cond (eqb (length x.1) 0) (Ok (es ++ x.0 ∷ [])) (entries_at limit n (es ++ x.0 ∷ []) x.1)) out e in
    let x : Entry = a.0.0 in
    let rest : List ℕ = a.0.1 in
    let t = next_takes limit le es bytes a.0 fits sound a.1 in
    elim (step (eqb (length rest) 0) (es ++ x ∷ []) out (entries_at limit n (es ++ x ∷ []) rest) a.2) [
      | inl last ↦
          let none : rest ≡ [] = nil_from_length rest (eqb-true _ _ last.0) in
          (x ∷ [], sym last.1, subst AreEntries last.1 t.1, t.0.parts ∙ ap (λ (b : List ℕ). entry x ++ b) none, omega arith, (t.2, tt))
      | inr goes ↦
          let r = entries_take limit le n (es ++ x ∷ []) rest out t.0.rest_fits t.1 goes.1 in
          (x ∷ r.0, r.1 ∙ append_assoc es (x ∷ []) r.0, r.2, t.0.parts ∙ ap (λ (b : List ℕ). entry x ++ b) r.3 ∙ sym (flat_map-cons entry x r.0), omega arith, (t.2, r.5))
    ]

pub block_takes : (limit : ℕ) → limit ≤ MAX_KEY_BYTES → (bytes : List ℕ) (es : List Entry) → IsBytes bytes → read_block limit bytes ≡ Ok es → IsBlock limit bytes es
unfolding read_block
block_takes limit le bytes es fits e =
    let r = entries_take limit le (length bytes + 1) [] bytes es fits (no_entries) e in
    record { some = rw r.1 r.4; sound = r.2; short = rw r.1 r.5; spelled = rw r.1 r.3 }

-- ---- what encodes to the bytes is decoded

-- an entry in front of any bytes
pub next_read_again : (limit : ℕ) (es : List Entry) (x : Entry) (more : List Entry) (rest : List ℕ) → AreEntries (es ++ x ∷ more) → HasShortKey limit x → next_at limit es (entry x ++ rest) ≡ Ok (x, rest)
unfolding next_at
next_read_again limit es x more rest sound short =
    let reads : entry_within limit (entry x ++ rest) ≡ Ok (x, rest) = entry_within_again limit x rest (each_rest IsEntry es (x ∷ more) sound.each).0 (each_rest HasSequence es (x ∷ more) sound.sequences).0 short in
    rw (reads, follows es x more sound.ascending) refl

next_again : (limit : ℕ) (es : List Entry) (x : Entry) (more : List Entry) → AreEntries (es ++ x ∷ more) → HasShortKey limit x → next_at limit es (entries (x ∷ more)) ≡ Ok (x, entries more)
next_again limit es x more sound short = ap (next_at limit es) (flat_map-cons entry x more) ∙ next_read_again limit es x more (entries more) sound short

pub entries_again : (limit n : ℕ) (es : List Entry) (x : Entry) (more : List Entry) → AreEntries (es ++ x ∷ more) → AllByRecursion (HasShortKey limit) (x ∷ more) → length (entries (x ∷ more)) < n → entries_at limit n es (entries (x ∷ more)) ≡ Ok (es ++ x ∷ more)
unfolding entries_at
entries_again limit zero es x more sound short lt = absurd (omega (arith, lt))
entries_again limit (suc n) es x [] sound short lt = rw (next_again limit es x [] sound short.0) refl
entries_again limit (suc n) es x (y ∷ more) sound short lt =
    let regrouped : (es ++ x ∷ []) ++ y ∷ more ≡ es ++ x ∷ y ∷ more = append_assoc es (x ∷ []) (y ∷ more) in
    let first : length (entries (x ∷ y ∷ more)) ≡ length (entry x) + length (entries (y ∷ more)) = ap length (flat_map-cons entry x (y ∷ more)) ∙ length-append (entry x) (entries (y ∷ more)) in
    let second : length (entries (y ∷ more)) ≡ length (entry y) + length (entries more) = ap length (flat_map-cons entry y more) ∙ length-append (entry y) (entries more) in
    let some : eqb (length (entries (y ∷ more))) 0 ≡ false = ne_eqb _ 0 (λ z. omega (arith, z, second, entry_some y)) in
    let others : entries_at limit n (es ++ x ∷ []) (entries (y ∷ more)) ≡ Ok ((es ++ x ∷ []) ++ y ∷ more) = entries_again limit n (es ++ x ∷ []) y more (subst AreEntries (sym regrouped) sound) short.1 (omega (arith, lt, first, entry_some x)) in
    rw (next_again limit es x (y ∷ more) sound short.0, some, others) (ap done regrouped)

pub block_again : (limit : ℕ) (bytes : List ℕ) (es : List Entry) → IsBlock limit bytes es → read_block limit bytes ≡ Ok es
unfolding read_block
block_again limit bytes [] is = absurd (omega (arith, is.some))
block_again limit bytes (x ∷ more) is = rw is.spelled (entries_again limit (length (entries (x ∷ more)) + 1) [] x more is.sound is.short (omega arith))

-- no key of an entry is too long
pub all_short : (es : List Entry) → AllByRecursion IsEntry es → AllByRecursion (HasShortKey MAX_KEY_BYTES) es
all_short [] each = tt
all_short (x ∷ es) each = (each.0.key.1, all_short es each.1)

-- ---- the loop

-- what reading gives in all is what it gives from here on
pub record ReadSoFar (limit : ℕ) (given : Result (List Entry) BlockFault) (es : List Entry) (rest : List ℕ) : Type 0 where
  pub fuel : ℕ
  pub enough : length rest < fuel
  pub total : entries_at limit fuel es rest ≡ given
  pub sound : AreEntries es
  pub fits : IsBytes rest

pub starts : (limit : ℕ) (es : List Entry) (rest : List ℕ) → AreEntries es → IsBytes rest → ReadSoFar limit (entries_at limit (length rest + 1) es rest) es rest
starts limit es rest sound fits = record { fuel = length rest + 1; enough = omega arith; total = refl; sound = sound; fits = fits }

pub faulty : (limit : ℕ) (given : Result (List Entry) BlockFault) (es : List Entry) (rest : List ℕ) (e : Refused BlockFault) → ReadSoFar limit given es rest → Fails e (next_at limit es rest) → Fails e (given)
unfolding entries_at
faulty limit given es rest OutOfMemory r h = tt
faulty limit given es rest (Fault f) r h = by r.fuel r.enough r.total
  where
    by : (n : ℕ) → length rest < n → entries_at limit n es rest ≡ given → given ≡ Err f
    by zero lt t = absurd (omega (arith, lt))
    by (suc n) lt t = sym t ∙ rw h refl

pub goes_on : (limit : ℕ) → limit ≤ MAX_KEY_BYTES → (given : Result (List Entry) BlockFault) (es : List Entry) (rest : List ℕ) (x : Entry) (after : List ℕ) → ReadSoFar limit given es rest → next_at limit es rest ≡ Ok (x, after)
    → (length after < length rest) × AreEntries (es ++ x ∷ []) × ((length after ≡ 0 → ⊥) → ReadSoFar limit given (es ++ x ∷ []) after) × (length after ≡ 0 → given ≡ Ok (es ++ x ∷ []))
unfolding entries_at
goes_on limit le given es rest x after r h =
    let t = next_takes limit le es rest (x, after) r.fits r.sound h in
    let long : length rest ≡ length (entry x) + length after = ap length t.0.parts ∙ length-append (entry x) after in
    let less : length after < length rest = omega (arith, long, entry_some x) in
    (less, t.1, λ some. on r.fuel r.enough r.total some less t.1 t.0.rest_fits, λ none. off r.fuel r.enough r.total none)
  where
    on : (n : ℕ) → length rest < n → entries_at limit n es rest ≡ given → (length after ≡ 0 → ⊥) → length after < length rest → AreEntries (es ++ x ∷ []) → IsBytes after → ReadSoFar limit given (es ++ x ∷ []) after
    on zero lt t some less sound fits = absurd (omega (arith, lt))
    on (suc n) lt t some less sound fits = record { fuel = n; enough = omega (arith, lt, less); total = (let reads : entries_at limit (suc n) es rest ≡ entries_at limit n (es ++ x ∷ []) after = rw (h, ne_eqb (length after) 0 some) refl in sym reads ∙ t); sound = sound; fits = fits }

    off : (n : ℕ) → length rest < n → entries_at limit n es rest ≡ given → length after ≡ 0 → given ≡ Ok (es ++ x ∷ [])
    off zero lt t none = absurd (omega (arith, lt))
    off (suc n) lt t none = sym t ∙ rw (h, eq-eqb (length after) 0 none) refl

pub is_found : (limit : ℕ) → limit ≤ MAX_KEY_BYTES → (bytes : List ℕ) (r : Result (List Entry) (Refused BlockFault)) → IsBytes bytes → Gives (λ b. b) r (read_block limit bytes) → IfOk r (λ b. IsBlock limit bytes b)
is_found limit le bytes (Ok es) fits given = block_takes limit le bytes es fits given
is_found limit le bytes (Err e) fits given = tt

-- bytes are the block of one list of entries
pub block_one : (limit : ℕ) (bytes : List ℕ) (es fs : List Entry) → IsBlock limit bytes es → read_block limit bytes ≡ Ok fs → es ≡ fs
block_one limit bytes es fs is read = ok_is {F = BlockFault} es fs (sym (block_again limit bytes es is) ∙ read)
