use Rattle.std.proofs.Common.{◌≡◌, not, ap, ◌∙◌, arith, List, ℕ, length}
use Rattle.lsm_table.specs.Tables.{smallest_key, largest_key}
use Rattle.lsm_table.proofs.TableContents.{table_small, table_ends, smallest_fits, largest_fits}
use Rattle.lsm_edit.proofs.file.FileMeta.of_table.Goals as goal

pub returns-clause-sound : goal.returns-clause-sound
returns-clause-sound c =
    let t = c.args.table.now in
    let is = c.know_table.ensures in
    let smallest : c.in_ok-smallest.smallest ≡ smallest_key t.entries = c.in_ok-smallest.ensures.cases ∙ c.smallest.ensures in
    let largest : c.in_ok-largest.largest ≡ largest_key t.entries = c.in_ok-largest.ensures.cases ∙ c.largest.ensures in
    let bytes : c.len.result ≡ length t.bytes = c.len.ensures.value ∙ ap (λ (b : List ℕ). length b) c.bytes.ensures.all in
    let small = table_small t.bytes t.entries is in
    let count = c.count.ensures.bound in
    rw (smallest, largest, bytes) (record {
      first = c.requires.some;
      last = c.requires.most;
      level = c.requires.level;
      smallest = smallest_fits t.bytes t.entries is;
      largest = largest_fits t.bytes t.entries is;
      ordered = ap not (table_ends t.bytes t.entries is);
      some_bytes = omega (arith, small.0);
      most_bytes = small.1;
      some_entries = count.0;
      most_entries = omega (arith, count.1);
    })
