use Rattle.std.proofs.Common.{◌≡◌, ◌∙◌, ℕ, List, [], Ok, eqb, true, false, length, sym, ap, subst, arith}
use Rattle.std.specs.List.{AllByRecursion}
use Rattle.lsm_key.specs.declared.entry.Entry.{Entry}
use Rattle.lsm_key.specs.Versions.{key_limit}
use Rattle.lsm_block.specs.Blocks.{HasShortKey}
use Rattle.lsm_table.specs.Tables.{version_of_entries}
use Rattle.lsm_table.specs.TableReading.{blocks_at, sum_at}
use Rattle.lsm_table.proofs.ReadingLoops.{contents_read, contents_needless}
use Rattle.lsm_table.proofs.TableVersions.{blocks_short, short_version}
use Rattle.lsm_table.proofs.reading.read_contents.Goals as goal

pub read_blocks-requires-clause-summed : goal.read_blocks-requires-clause-summed
read_blocks-requires-clause-summed c =
    let rest = c.args.sum.now.rest.now in
    let long = ap (λ (bytes : List ℕ). length bytes) c.in_ok-reader.ensures.1 in
    let same : c.args.sum.now.total ≡ length c.in_ok-reader.reader.rest = omega (arith, long, c.len.ensures.value, c.len-2.ensures.value, c.if-len-sum.false, c.if-len-sum-2.false) in
    (rest, ap (λ (n : ℕ). sum_at n c.args.header.blocks 0 c.args.index.now) c.key_limit-max_key.ensures.value ∙ c.requires.summed ∙ ap (λ (n : ℕ). Ok (n, rest)) same)

pub needs_version-requires : goal.needs_version-requires
needs_version-requires c = λ one.
    let h = c.args.header in
    let es = c.read_blocks.new.reader.entries in
    let start = c.in_ok-reader.ensures in
    let read = (λ i. blocks_at (sym c.key_limit-max_key.ensures.value i) h.target h.blocks c.args.index.now (sym start.0 i) (sym (start.1 ∙ c.requires.region) i)) ∙ c.in_ok-read_blocks.ensures.ok.0 in
    let short = blocks_short (key_limit h.version) h.target h.blocks c.args.index.now [] c.args.sum.now.rest.now es tt read in
    ap version_of_entries c.in_ok-block.ensures ∙ short_version es (subst (λ (n : ℕ). AllByRecursion (HasShortKey (key_limit n)) es) one short)

pub returns-then-not-needs_version : goal.returns-then-not-needs_version
returns-then-not-needs_version c =
    let h = c.args.header in
    let region = c.args.sum.now.rest.now in
    let es = c.read_blocks.new.reader.entries in
    let long = ap (λ (bytes : List ℕ). length bytes) c.requires.region in
    let size : length region ≡ c.args.sum.now.total = omega (arith, long, c.len.ensures.value, c.len-2.ensures.value, c.if-len-sum.false, c.if-len-sum-2.false) in
    let start = c.in_ok-reader.ensures in
    let read = (λ i. blocks_at (sym c.key_limit-max_key.ensures.value i) h.target h.blocks c.args.index.now (sym start.0 i) (sym (start.1 ∙ c.requires.region) i)) ∙ c.in_ok-read_blocks.ensures.ok.0 in
    let counted : length es ≡ h.count = omega (arith, c.count.ensures, c.if-count-header.false) in
    let needless : eqb (version_of_entries es) h.version ≡ false = ap (λ (xs : List Entry). eqb (version_of_entries xs) h.version) (sym c.in_ok-block.ensures) ∙ sym c.needs_version.ensures ∙ c.if-not-needs_version.true in
    contents_needless h c.args.index.now c.args.sum.now.total region es size read counted needless

pub returns : goal.returns
returns c =
    let h = c.args.header in
    let region = c.args.sum.now.rest.now in
    let es = c.read_blocks.new.reader.entries in
    let long = ap (λ (bytes : List ℕ). length bytes) c.requires.region in
    let size : length region ≡ c.args.sum.now.total = omega (arith, long, c.len.ensures.value, c.len-2.ensures.value, c.if-len-sum.false, c.if-len-sum-2.false) in
    let start = c.in_ok-reader.ensures in
    let read = (λ i. blocks_at (sym c.key_limit-max_key.ensures.value i) h.target h.blocks c.args.index.now (sym start.0 i) (sym (start.1 ∙ c.requires.region) i)) ∙ c.in_ok-read_blocks.ensures.ok.0 in
    let counted : length es ≡ h.count = omega (arith, c.count.ensures, c.if-count-header.false) in
    let needed : eqb (version_of_entries es) h.version ≡ true = ap (λ (xs : List Entry). eqb (version_of_entries xs) h.version) (sym c.in_ok-block.ensures) ∙ sym c.needs_version.ensures ∙ c.if-not-needs_version.false in
    contents_read h c.args.index.now c.args.sum.now.total region es size read counted needed ∙ ap (λ (xs : List Entry). Ok xs) (sym c.in_ok-block.ensures)
