-- The blocks of a table, and the index of them: what is decoded encodes to the bytes, and what encodes to the bytes is decoded.
use Rattle.std.proofs.Common.{◌≡◌, ℕ, zero, suc, ◌+◌, ◌-◌, ◌*◌, ◌^◌, ◌<◌, ◌≤◌, ◌||◌, Bool, true, false, cond, ltb, leb, eqb, List, [], ◌∷◌, ◌++◌, length, get_or, take, drop, Option, Some, None, Result, Ok, Err, refl, sym, ap, subst, ◌∙◌, append_assoc, arith, inl, inr}
use Rattle.std.specs.Int.{w32, w64, to_be_bytes}
use Rattle.std.specs.List.{flat_map, AllByRecursion}
use Rattle.std.specs.declared.cmp.Ordering.{Ordering}
use Rattle.std.specs.declared.cmp.Ordering.TheVariants.{Less, Equal, Greater}
use Rattle.std.specs.Ordering.{ordering_then, nat_cmp, is_eq}
use Rattle.std.specs.Cmp.{Equal-is}
use Rattle.std.specs.Cmp.Lexicographic.{slice_cmp}
use Rattle.std.proofs.lemmas.Bool.{cases_lt, ltb-true, leb-true, lt-ltb, le-leb, and_parts, eqb-true, eq-eqb, or_cases, or_left, or_right}
use Rattle.std.proofs.lemmas.Cmp.{tied_itself}
use Rattle.std.proofs.lemmas.List.{append-nil, length-append, length-take, length-drop, take_at, drop_at, take-append-drop, nil_from_length}
use Rattle.std.proofs.lemmas.List.Concat.{flat_map-cons, flat_map-append}
use Rattle.std.proofs.lemmas.List.Elements.{All-from_recursion}
use Rattle.std.proofs.lemmas.Option.{slice_get-get_or}
use Rattle.lsm_key.specs.declared.entry.Entry.{Entry}
use Rattle.lsm_key.specs.declared.entry.InternalKey.{InternalKey}
use Rattle.lsm_key.specs.declared.limits.TheConstants.{MAX_KEY_BYTES}
use Rattle.lsm_key.specs.Entries.{IsEntry}
use Rattle.lsm_key.specs.Limits.{entry_weight}
use Rattle.lsm_key.specs.Order.{kind_code, internal_total}
use Rattle.lsm_key.specs.Places.{all_entries}
use Rattle.lsm_key.specs.Reading.{◌>>=◌, instead}
use Rattle.lsm_key.specs.Spelling.{key}
use Rattle.lsm_key.proofs.EntryOrder.{keys_equal}
use Rattle.lsm_key.proofs.FieldLaws.{IsBytes, IsBytes-take, IsBytes-drop, bind_ok, guard_held, instead_ok, ok_is}
use Rattle.lsm_block.specs.Blocks.{entry, entries, HasSequence, HasShortKey, AreEntries}
use Rattle.lsm_block.specs.BlockReading.{entries_at, last_of}
use Rattle.lsm_block.proofs.BlockRuns.{as_long, entries_take, entries_again}
use Rattle.lsm_block.proofs.BlocksInTurn.{each_front, sound_front, last_behind, without_last}
use Rattle.lsm_block.proofs.EntriesGrow.{each_rest}
use Rattle.lsm_table.specs.declared.fault.TableFault.{TableFault}
use Rattle.lsm_table.specs.declared.fault.TableFault.TheVariants.{BadIndex, BadBlock, BadCut}
use Rattle.lsm_table.specs.Cuts.{IsOneCut, IsCut}
use Rattle.lsm_table.specs.Tables.{end_key, index}
use Rattle.lsm_table.specs.TableReading.{index_at, sum_at, ends_with, is_cut, block_at, blocks_at}
use Rattle.lsm_table.proofs.TableFields.{last_key, index_takes, index_again}

-- ---- the key of the index, and that of the last entry

then_equal : (o r : Ordering) → is_eq (ordering_then o r) ≡ true → (is_eq o ≡ true) × (is_eq r ≡ true)
then_equal Less r e = absurd cc
then_equal Equal r e = (refl, e)
then_equal Greater r e = absurd cc

nat_equal : (x y : ℕ) → is_eq (nat_cmp x y) ≡ true → x ≡ y
nat_equal x y e = eqb-true x y (by (ltb x y) (eqb x y) e)
  where
    by : (b c : Bool) → is_eq (cond b Less (cond c Equal Greater)) ≡ true → c ≡ true
    by true c h = absurd cc
    by false true h = refl
    by false false h = absurd cc

ends_spelled : (o : Option Entry) (k : InternalKey) → ends_with o k ≡ true → end_key o ≡ last_key k
ends_spelled None k e = absurd cc
ends_spelled (Some e) k h =
    let p = then_equal (ordering_then (slice_cmp nat_cmp e.ikey.key k.key) (nat_cmp k.seq e.ikey.seq)) (nat_cmp (kind_code k.kind) (kind_code e.ikey.kind)) h in
    let q = then_equal (slice_cmp nat_cmp e.ikey.key k.key) (nat_cmp k.seq e.ikey.seq) p.0 in
    let a : e.ikey.key ≡ k.key = keys_equal e.ikey.key k.key ((Equal-is (slice_cmp nat_cmp e.ikey.key k.key)).0 q.0) in
    let b : e.ikey.seq ≡ k.seq = sym (nat_equal k.seq e.ikey.seq q.1) in
    let c : kind_code e.ikey.kind ≡ kind_code k.kind = sym (nat_equal (kind_code k.kind) (kind_code e.ikey.kind) p.1) in
    λ i. key (a i) ++ to_be_bytes w64 (b i * 256 + c i)

ends_itself : (e : Entry) → ends_with (Some e) e.ikey ≡ true
ends_itself e = ap is_eq (tied_itself internal_total e.ikey)

pub last_entry : (es : List Entry) → 0 < length es → AllByRecursion IsEntry es → AllByRecursion HasSequence es → (e : Entry) × (last_of es ≡ Some e) × IsEntry e × HasSequence e
last_entry [] some each sequences = absurd (omega (arith, some))
last_entry (x ∷ es) some each sequences =
    let n : ℕ = length (x ∷ es) - 1 in
    let within : n < length (x ∷ es) = omega arith in
    (get_or (x ∷ es) n x, slice_get-get_or (x ∷ es) n x within, All-from_recursion IsEntry (x ∷ es) each n x within, All-from_recursion HasSequence (x ∷ es) sequences n x within)

pub last_short : (limit : ℕ) (es : List Entry) → AllByRecursion (HasShortKey limit) es → (e : Entry) → last_of es ≡ Some e → HasShortKey limit e
last_short limit [] short e is = absurd cc
last_short limit (x ∷ es) short e is =
    let n : ℕ = length (x ∷ es) - 1 in
    let within : n < length (x ∷ es) = omega arith in
    let same : Some (get_or (x ∷ es) n x) ≡ Some e = sym (slice_get-get_or (x ∷ es) n x within) ∙ is in
    let own : get_or (x ∷ es) n x ≡ e = cc in
    subst (HasShortKey limit) own (All-from_recursion (HasShortKey limit) (x ∷ es) short n x within)

-- ---- the test of a cut

cut_held : (target more len : ℕ) (last : Entry) → is_cut target more len (Some last) ≡ true → (0 < more → target ≤ len) × (len - entry_weight last < target)
cut_held target more len last h =
    let both = and_parts (eqb more 0 || leb target len) (ltb (len - entry_weight last) target) h in
    (λ some. elim (or_cases (eqb more 0) (leb target len) both.0) [ inl none ↦ absurd (omega (arith, some, eqb-true more 0 none)) | inr le ↦ leb-true target len le ], ltb-true (len - entry_weight last) target both.1)

cut_holds : (target more len : ℕ) (last : Entry) → (0 < more → target ≤ len) → len - entry_weight last < target → is_cut target more len (Some last) ≡ true
cut_holds target more len last full late =
    let first : (eqb more 0 || leb target len) ≡ true = elim (cases_lt 0 more) [ inl some ↦ or_right (eqb more 0) (leb target len) (le-leb target len (full some)) | inr none ↦ or_left (eqb more 0) (leb target len) (eq-eqb more 0 (omega (arith, none))) ] in
    rw (first, lt-ltb (len - entry_weight last) target late) refl

-- ---- what is decoded encodes to the bytes

-- the entries of a block, after those of the blocks before it
record BlockTaken (target more : ℕ) (i : ℕ × InternalKey) (before : List Entry) (bytes : List ℕ) (es : List Entry) : Type 0 where
  new : List Entry
  parts : es ≡ before ++ new
  sound : AreEntries es
  spelled : take i.0 bytes ≡ entries new
  long : length (entries new) ≡ i.0
  cut : IsOneCut target new
  full : 0 < more → target ≤ i.0
  ends : end_key (last_of new) ≡ last_key i.1

block_taken : (target more : ℕ) (i : ℕ × InternalKey) (before new : List Entry) (bytes : List ℕ) (es : List Entry) → es ≡ before ++ new → AreEntries es → take i.0 bytes ≡ entries new → 0 < length new → i.0 ≤ length bytes → ends_with (last_of es) i.1 ≡ true → is_cut target more i.0 (last_of es) ≡ true → BlockTaken target more i before bytes es
block_taken target more i before new bytes es parts sound spelled some fits ends cut =
    let all : AreEntries (before ++ new) = subst AreEntries parts sound in
    let l = last_entry new some (each_rest IsEntry before new all.each) (each_rest HasSequence before new all.sequences) in
    let same : last_of es ≡ last_of new = ap last_of parts ∙ last_behind before new some in
    let c = cut_held target more i.0 l.0 (subst (λ (o : Option Entry). is_cut target more i.0 o ≡ true) (same ∙ l.1) cut) in
    let long : length (entries new) ≡ i.0 = ap length (sym spelled) ∙ omega (arith, length-take i.0 bytes, fits) in
    record {
      new = new;
      parts = parts;
      sound = sound;
      spelled = spelled;
      long = long;
      cut = record { some = some; late = omega (arith, without_last new l.0 some l.1, long, c.1) };
      full = c.0;
      ends = subst (λ (o : Option Entry). end_key o ≡ last_key i.1) same (ends_spelled (last_of es) i.1 ends);
    }

block_takes : (limit : ℕ) → limit ≤ MAX_KEY_BYTES → (target more : ℕ) (i : ℕ × InternalKey) (before : List Entry) (bytes : List ℕ) (es : List Entry) → IsBytes bytes → AreEntries before → i.0 ≤ length bytes → block_at limit target more i before bytes ≡ Ok es → BlockTaken target more i before bytes es
unfolding block_at
block_takes limit le target more i before bytes es fits sound long e =
    let tail : List Entry → Result (List Entry) TableFault = λ (es : List Entry). cond (ends_with (last_of es) i.1) (cond (is_cut target more i.0 (last_of es)) (Ok es) (Err BadCut)) (Err BadIndex) in
    let b = bind_ok (instead BadBlock (entries_at limit (i.0 + 1) before (take i.0 bytes))) tail es e in
    let g = guard_held (ends_with (last_of b.0) i.1) BadIndex (cond (is_cut target more i.0 (last_of b.0)) (Ok b.0) (Err BadCut)) es b.2 in
    let h = guard_held (is_cut target more i.0 (last_of b.0)) BadCut (Ok b.0) es g.1 in
    let t = entries_take limit le (i.0 + 1) before (take i.0 bytes) b.0 (IsBytes-take i.0 bytes fits) sound (instead_ok BadBlock (entries_at limit (i.0 + 1) before (take i.0 bytes)) b.0 b.1) in
    subst (BlockTaken target more i before bytes) (ok_is {F = TableFault} b.0 es h.1) (block_taken target more i before t.0 bytes b.0 t.1 t.2 t.3 t.4 long g.0 h.0)

-- the sum of the lengths is no less than what it begins with
sum_grows : (limit n sum : ℕ) (bytes : List ℕ) (x : ℕ × List ℕ) → sum_at limit n sum bytes ≡ Ok x → sum ≤ x.0
unfolding sum_at
sum_grows limit zero sum bytes x e = (let same : (sum, bytes) ≡ x = ok_is {F = TableFault} (sum, bytes) x e in omega (arith, ap (λ (p : ℕ × List ℕ). p.0) same))
sum_grows limit (suc n) sum bytes x e =
    let i = bind_ok (index_at limit bytes) (λ i. sum_at limit n (sum + i.0.0) i.1) x e in
    omega (arith, sum_grows limit n (sum + i.0.0.0) i.0.1 x i.2)

-- what follows the index is bytes
pub sum_rest : (limit n sum : ℕ) (bytes : List ℕ) (x : ℕ × List ℕ) → IsBytes bytes → sum_at limit n sum bytes ≡ Ok x → IsBytes x.1
unfolding sum_at
sum_rest limit zero sum bytes x fits e = (let same : (sum, bytes) ≡ x = ok_is {F = TableFault} (sum, bytes) x e in subst (λ (p : ℕ × List ℕ). IsBytes p.1) same fits)
sum_rest limit (suc n) sum bytes x fits e =
    let i = bind_ok (index_at limit bytes) (λ i. sum_at limit n (sum + i.0.0) i.1) x e in
    sum_rest limit n (sum + i.0.0.0) i.0.1 x (index_takes limit bytes i.0 fits i.1).rest_fits i.2

-- the entries of so many blocks and of their index, after those of the blocks before them
pub record BlocksTaken (target n : ℕ) (text region : List ℕ) (before : List Entry) (bytes : List ℕ) (es : List Entry) : Type 0 where
  pub blocks : List (List Entry)
  pub counted : length blocks ≡ n
  pub parts : es ≡ before ++ all_entries blocks
  pub sound : AreEntries es
  pub spelled : bytes ≡ entries (all_entries blocks)
  pub cut : IsCut target blocks
  pub indexed : text ≡ flat_map index blocks ++ region

one_before : (target n : ℕ) (i : ℕ × InternalKey) (text after region : List ℕ) (before : List Entry) (bytes : List ℕ) (mid es : List Entry) → text ≡ (to_be_bytes w32 i.0 ++ last_key i.1) ++ after → BlockTaken target n i before bytes mid → BlocksTaken target n after region mid (drop i.0 bytes) es → BlocksTaken target (suc n) text region before bytes es
one_before target n i text after region before bytes mid es read one more =
    let spelled : bytes ≡ entries (one.new ++ all_entries more.blocks) = sym (take-append-drop i.0 bytes) ∙ (λ j. one.spelled j ++ more.spelled j) ∙ sym (flat_map-append entry one.new (all_entries more.blocks)) in
    let first : to_be_bytes w32 i.0 ++ last_key i.1 ≡ index one.new = (λ j. to_be_bytes w32 (sym one.long j) ++ sym one.ends j) in
    record {
      blocks = one.new ∷ more.blocks;
      counted = ap suc more.counted;
      parts = more.parts ∙ ap (λ (zs : List Entry). zs ++ all_entries more.blocks) one.parts ∙ append_assoc before one.new (all_entries more.blocks);
      sound = more.sound;
      spelled = spelled;
      cut = (one.cut, (λ some. omega (arith, one.full (omega (arith, some, more.counted)), one.long)), more.cut);
      indexed = read ∙ (λ j. first j ++ more.indexed j) ∙ sym (append_assoc (index one.new) (flat_map index more.blocks) region) ∙ ap (λ (b : List ℕ). b ++ region) (sym (flat_map-cons index one.new more.blocks));
    }

pub blocks_take : (limit : ℕ) → limit ≤ MAX_KEY_BYTES → (target n sum : ℕ) (text : List ℕ) (x : ℕ × List ℕ) (before : List Entry) (bytes : List ℕ) (es : List Entry) → IsBytes text → IsBytes bytes → AreEntries before → x.0 ≡ sum + length bytes → sum_at limit n sum text ≡ Ok x → blocks_at limit target n text before bytes ≡ Ok es → BlocksTaken target n text x.1 before bytes es
unfolding sum_at blocks_at
blocks_take limit le target zero sum text x before bytes es text_fits fits sound total s e =
    let summed : (sum, text) ≡ x = ok_is {F = TableFault} (sum, text) x s in
    let same : before ≡ es = ok_is {F = TableFault} before es e in
    let none : bytes ≡ [] = nil_from_length bytes (omega (arith, total, ap (λ (p : ℕ × List ℕ). p.0) summed)) in
    record { blocks = []; counted = refl; parts = sym same ∙ sym (append-nil before); sound = subst AreEntries same sound; spelled = none; cut = tt; indexed = ap (λ (p : ℕ × List ℕ). p.1) summed }
blocks_take limit le target (suc n) sum text x before bytes es text_fits fits sound total s e =
    let i = bind_ok (index_at limit text) (λ i. sum_at limit n (sum + i.0.0) i.1) x s in
    let t = index_takes limit text i.0 text_fits i.1 in
    let rest : (ℕ × InternalKey) × List ℕ → Result (List Entry) TableFault = λ (j : (ℕ × InternalKey) × List ℕ). block_at limit target n j.0 before bytes >>= λ zs. blocks_at limit target n j.1 zs (drop j.0.0 bytes) in
    let reads : (block_at limit target n i.0.0 before bytes >>= λ zs. blocks_at limit target n i.0.1 zs (drop i.0.0.0 bytes)) ≡ Ok es = ap (λ (r : Result ((ℕ × InternalKey) × List ℕ) TableFault). r >>= rest) (sym i.1) ∙ e in
    let b = bind_ok (block_at limit target n i.0.0 before bytes) (λ zs. blocks_at limit target n i.0.1 zs (drop i.0.0.0 bytes)) es reads in
    let enough : i.0.0.0 ≤ length bytes = omega (arith, total, sum_grows limit n (sum + i.0.0.0) i.0.1 x i.2) in
    let one = block_takes limit le target n i.0.0 before bytes b.0 fits sound enough b.1 in
    let left : x.0 ≡ (sum + i.0.0.0) + length (drop i.0.0.0 bytes) = omega (arith, total, enough, length-drop i.0.0.0 bytes) in
    let more = blocks_take limit le target n (sum + i.0.0.0) i.0.1 x b.0 (drop i.0.0.0 bytes) es t.rest_fits (IsBytes-drop i.0.0.0 bytes fits) one.sound left i.2 b.2 in
    one_before target n i.0.0 text i.0.1 x.1 before bytes b.0 es t.parts one more

-- ---- what encodes to the bytes is decoded

abbrev done : {A : Type 0} → A → Result A TableFault
done x = Ok x

-- a block's index, and whatever follows
pub index_read : (limit : ℕ) (es : List Entry) (rest : List ℕ) → 0 < length es → AllByRecursion IsEntry es → AllByRecursion HasSequence es → AllByRecursion (HasShortKey limit) es → length (entries es) < 2 ^ 32
    → (e : Entry) × (last_of es ≡ Some e) × (index_at limit (index es ++ rest) ≡ Ok ((length (entries es), e.ikey), rest))
index_read limit es rest some each sequences keys short =
    let len : ℕ = length (entries es) in
    let l = last_entry es some each sequences in
    (l.0, l.1, ap (λ (o : Option Entry). index_at limit ((to_be_bytes w32 len ++ end_key o) ++ rest)) l.1 ∙ index_again limit len l.0.ikey rest (omega (arith, some, as_long es)) short (l.2.key.0, last_short limit es keys l.0 l.1) (omega (arith, l.2.key.1)) l.2.written l.3)

index_parts : (es : List Entry) (more : List (List Entry)) (region : List ℕ) → flat_map index (es ∷ more) ++ region ≡ index es ++ (flat_map index more ++ region)
index_parts es more region = ap (λ (b : List ℕ). b ++ region) (flat_map-cons index es more) ∙ append_assoc (index es) (flat_map index more) region

pub size_parts : (es more : List Entry) → length (entries (es ++ more)) ≡ length (entries es) + length (entries more)
size_parts es more = ap length (flat_map-append entry es more) ∙ length-append (entries es) (entries more)

pub sum_again : (limit target : ℕ) (blocks : List (List Entry)) (sum : ℕ) (region : List ℕ) → IsCut target blocks → AllByRecursion IsEntry (all_entries blocks) → AllByRecursion HasSequence (all_entries blocks) → AllByRecursion (HasShortKey limit) (all_entries blocks)
    → length (entries (all_entries blocks)) < 2 ^ 32 → sum_at limit (length blocks) sum (flat_map index blocks ++ region) ≡ Ok (sum + length (entries (all_entries blocks)), region)
unfolding sum_at
sum_again limit target [] sum region cut each sequences keys short = (let same : sum ≡ sum + length (entries []) = omega arith in ap (λ (n : ℕ). done (n, region)) same)
sum_again limit target (es ∷ more) sum region cut each sequences keys short =
    let sizes = size_parts es (all_entries more) in
    let i = index_read limit es (flat_map index more ++ region) cut.0.some (each_front IsEntry es (all_entries more) each) (each_front HasSequence es (all_entries more) sequences) (each_front (HasShortKey limit) es (all_entries more) keys) (omega (arith, sizes, short)) in
    let r = sum_again limit target more (sum + length (entries es)) region cut.2 (each_rest IsEntry es (all_entries more) each) (each_rest HasSequence es (all_entries more) sequences) (each_rest (HasShortKey limit) es (all_entries more) keys) (omega (arith, sizes, short)) in
    let total : (sum + length (entries es)) + length (entries (all_entries more)) ≡ sum + length (entries (es ++ all_entries more)) = omega (arith, sizes) in
    ap (sum_at limit (suc (length more)) sum) (index_parts es more region) ∙ rw i.2 r ∙ ap (λ (n : ℕ). done (n, region)) total

block_again : (limit target more : ℕ) (es : List Entry) (e : Entry) (before : List Entry) (rest : List ℕ) → AreEntries (before ++ es) → AllByRecursion (HasShortKey limit) es → IsOneCut target es → (0 < more → target ≤ length (entries es)) → last_of es ≡ Some e → block_at limit target more (length (entries es), e.ikey) before (entries es ++ rest) ≡ Ok (before ++ es)
unfolding block_at
block_again limit target more [] e before rest sound keys cut full last = absurd (omega (arith, cut.some))
block_again limit target more (x ∷ es) e before rest sound keys cut full last =
    let all : List Entry = x ∷ es in
    let len : ℕ = length (entries all) in
    let reads : entries_at limit (len + 1) before (take len (entries all ++ rest)) ≡ Ok (before ++ all) = ap (entries_at limit (len + 1) before) (take_at (entries all) rest len refl) ∙ entries_again limit (len + 1) before x es sound keys (omega arith) in
    let ends : last_of (before ++ all) ≡ Some e = last_behind before all cut.some ∙ last in
    let tested : is_cut target more len (Some e) ≡ true = cut_holds target more len e full (omega (arith, cut.late, without_last all e cut.some last)) in
    rw (reads, ends, ends_itself e, tested) refl

pub blocks_again : (limit target : ℕ) (blocks : List (List Entry)) (before : List Entry) (region : List ℕ) → IsCut target blocks → AreEntries (before ++ all_entries blocks) → AllByRecursion (HasShortKey limit) (all_entries blocks) → length (entries (all_entries blocks)) < 2 ^ 32
    → blocks_at limit target (length blocks) (flat_map index blocks ++ region) before (entries (all_entries blocks)) ≡ Ok (before ++ all_entries blocks)
unfolding blocks_at
blocks_again limit target [] before region cut sound keys short = ap done (sym (append-nil before))
blocks_again limit target (es ∷ more) before region cut sound keys short =
    let others : List Entry = all_entries more in
    let regrouped : (before ++ es) ++ others ≡ before ++ (es ++ others) = append_assoc before es others in
    let grown : AreEntries ((before ++ es) ++ others) = subst AreEntries (sym regrouped) sound in
    let front = sound_front (before ++ es) others grown in
    let sizes = size_parts es others in
    let i = index_read limit es (flat_map index more ++ region) cut.0.some (each_rest IsEntry before es front.each) (each_rest HasSequence before es front.sequences) (each_front (HasShortKey limit) es others keys) (omega (arith, sizes, short)) in
    let b = block_again limit target (length more) es i.0 before (entries others) front (each_front (HasShortKey limit) es others keys) cut.0 cut.1 i.1 in
    let r = blocks_again limit target more (before ++ es) region cut.2 grown (each_rest (HasShortKey limit) es others keys) (omega (arith, sizes, short)) in
    (λ j. blocks_at limit target (suc (length more)) (index_parts es more region j) before (flat_map-append entry es others j)) ∙ rw (i.2, b, drop_at (entries es) (entries others) (length (entries es)) refl) r ∙ ap done regrouped

-- no more blocks than entries
pub few_blocks : (target : ℕ) (blocks : List (List Entry)) → IsCut target blocks → length blocks ≤ length (all_entries blocks)
few_blocks target [] cut = omega arith
few_blocks target (es ∷ more) cut = omega (arith, cut.0.some, few_blocks target more cut.2, length-append es (all_entries more))
