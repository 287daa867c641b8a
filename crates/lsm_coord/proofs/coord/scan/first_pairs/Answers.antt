use Rattle.std.proofs.Common.{◌≡◌, ◌<◌, ◌≤◌, true, List, ◌∷◌, Option, None, Some, length, sym, ap, subst, ◌∙◌, arith}
use Rattle.std.specs.Option.{option_map}
use Rattle.std.specs.Ordering.{is_ge, nat_cmp}
use Rattle.std.specs.Cmp.Lexicographic.{slice_cmp}
use Rattle.std.proofs.lemmas.List.Sorted.{length_permutation}
use Rattle.lsm_key.specs.declared.entry.Entry.{Entry}
use Rattle.lsm_key.specs.Order.{key_lt}
use Rattle.lsm_key.specs.Places.{all_entries}
use Rattle.lsm_key.specs.Sets.{IsIn}
use Rattle.lsm_key.specs.Visible.{lent_entry}
use Rattle.lsm_table.specs.Heads.{AdvancesHeads, TakesFirst, first_of}
use Rattle.lsm_table.proofs.TurnedHeads.{first_none}
use Rattle.lsm_coord.specs.declared.source.Source.{Source}
use Rattle.lsm_coord.specs.Inner.Scan.{is_hidden}
use Rattle.lsm_coord.specs.Inner.Sources.{left_behind, source_lists, source_entry}
use Rattle.lsm_coord.proofs.FirstPairs.{IsScanned, scan_begins, scanned_all, scanned_beyond, scanned_full, scanned_hidden, scanned_seen}
use Rattle.lsm_coord.proofs.KeyIntervals.{below_from, upto_back}
use Rattle.lsm_coord.proofs.ScansAgree.{Pair}
use Rattle.lsm_coord.proofs.coord.scan.first_pairs.Goals.{then-not-hides+in_ok-push_pair, else-not-hides}
use Rattle.lsm_coord.proofs.coord.scan.first_pairs.Goals as goal

fewer : (old new : List (List Entry)) (e : Entry) → TakesFirst old e new → length (all_entries new) < length (all_entries old)
fewer old new e takes = omega (arith, length_permutation (all_entries old) (e ∷ all_entries new) takes.all)

-- the first of these was taken
taken : (old new : List Source) (first : Source) → Some first ≡ first_of old → AdvancesHeads source_entry left_behind old (first_of old) new → TakesFirst (source_lists old) (source_entry first) (source_lists new)
taken old new first is h = (subst (λ (o : Option Source). AdvancesHeads source_entry left_behind old o new) (sym is) h).1

pub loop-hi-init : goal.loop-hi-init
loop-hi-init c =
    let lists = source_lists c.args.heads in
    subst (λ (ps : List Pair). IsScanned c.args.hi.now c.args.point c.args.limit (all_entries lists) lists ps None) (sym c.new-pairs.ensures.items) (scan_begins c.args.hi.now c.args.point c.args.limit lists c.requires)

pub returns-in_default : goal.returns-in_default
returns-in_default c =
    let none = first_none c.loop-hi.left (sym c.in_default.ensures.first) in
    scanned_all c.args.hi.now c.args.point c.args.limit (all_entries (source_lists c.args.heads)) (source_lists c.loop-hi.left) c.loop-hi.pairs.items (option_map lent_entry c.loop-hi.before) c.loop-hi.invariant
    (λ e m. absurd (subst (λ (ss : List Source). IsIn e (all_entries (source_lists ss))) none m))

pub returns-then-is_ge : goal.returns-then-is_ge
returns-then-is_ge c =
    let e : Entry = source_entry c.in-Some.first.now in
    let key = ap (λ (x : Entry). slice_cmp nat_cmp x.ikey.key c.args.hi.now) c.entry-entry.ensures in
    let out : is_ge (slice_cmp nat_cmp e.ikey.key c.args.hi.now) ≡ true = sym (c.is_ge.ensures ∙ ap is_ge (c.cmp.ensures ∙ key)) ∙ c.if-is_ge.true in
    scanned_beyond c.args.hi.now c.args.point c.args.limit (all_entries (source_lists c.args.heads)) (source_lists c.loop-hi.left) c.loop-hi.pairs.items (option_map lent_entry c.loop-hi.before) c.loop-hi.invariant e (c.in-Some.ensures.least c.loop-hi.invariant.order)
    (upto_back e.ikey.key c.args.hi.now out)

pub loop-hi-smaller : goal.loop-hi-smaller
loop-hi-smaller c = fewer (source_lists c.loop-hi.left) (source_lists c.advance.new.self) (source_entry c.in-Some.first.now) (taken c.loop-hi.left c.advance.new.self c.in-Some.first.now c.in-Some.ensures.first c.advance.ensures)

pub loop-hi-preserved : goal.loop-hi-preserved
loop-hi-preserved c =
    let hi = c.args.hi.now in
    let e : Entry = source_entry c.in-Some.first.now in
    let all = all_entries (source_lists c.args.heads) in
    let left = source_lists c.loop-hi.left in
    let rest = source_lists c.advance.new.self in
    let before = option_map lent_entry c.loop-hi.before in
    let pairs = c.loop-hi.pairs.items in
    let takes = taken c.loop-hi.left c.advance.new.self c.in-Some.first.now c.in-Some.ensures.first c.advance.ensures in
    let key = ap (λ (x : Entry). slice_cmp nat_cmp x.ikey.key hi) c.entry-entry.ensures in
    let below : key_lt e.ikey.key hi ≡ true = below_from e.ikey.key hi (sym (c.is_ge.ensures ∙ ap is_ge (c.cmp.ensures ∙ key)) ∙ c.if-is_ge.false) in
    let own = c.hides.ensures ∙ ap (is_hidden c.args.point before) c.entry-entry.ensures in
    elim c.if-not-hides.branch [
      | then-not-hides+in_ok-push_pair w ↦
          let room : length pairs < c.args.limit = omega (arith, c.loop-hi.pairs.ok.0, c.len.ensures, c.loop-hi-test.true) in
          let made = scanned_seen hi c.args.point c.args.limit all left pairs before c.loop-hi.invariant e rest takes below (sym own ∙ w.if-not-hides.true) room in
          rw (w.pairs-is, w.before-is)
          (subst (λ (x : Entry). IsScanned hi c.args.point c.args.limit all rest w.push_pair.new.pairs.items (Some x)) (sym c.entry-entry.ensures)
          (subst (λ (ps : List Pair). IsScanned hi c.args.point c.args.limit all rest ps (Some e)) (sym w.in_ok-push_pair.ensures) made))
      | else-not-hides w ↦
          rw (w.pairs-is, w.before-is) (scanned_hidden hi c.args.point c.args.limit all left pairs before c.loop-hi.invariant e rest takes below (sym own ∙ w.if-not-hides.false))
    ]

pub returns : goal.returns
returns c =
    let full : c.args.limit ≤ length c.loop-hi.pairs.items = omega (arith, c.loop-hi.pairs.ok.0, c.len.ensures, c.loop-hi-test.false) in
    scanned_full c.args.hi.now c.args.point c.args.limit (all_entries (source_lists c.args.heads)) (source_lists c.loop-hi.left) c.loop-hi.pairs.items (option_map lent_entry c.loop-hi.before) c.loop-hi.invariant full
