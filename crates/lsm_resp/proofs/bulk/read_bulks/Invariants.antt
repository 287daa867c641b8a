-- how far the words of a request that lies ahead are read
use Rattle.std.proofs.Common.{◌≡◌, ◌≤◌, ◌+◌, ◌*◌, List, ℕ, length}
use Rattle.std.specs.List.{flat_map}
use Rattle.lsm_resp.specs.declared.limits.TheConstants.{MAX_REQUEST_BYTES}
use Rattle.lsm_resp.specs.Enough.{enough_for_header}
use Rattle.lsm_resp.specs.Requests.{AreWords, IsAhead, words_of}
use Rattle.lsm_resp.specs.Wire.{bulk_bytes}
use Rattle.lsm_resp.proofs.Bulks.{AreReadTo, IsReadTo}
use Rattle.lsm_resp.proofs.bulk.read_bulks.Given as goal

abbrev pub invariant-loop-done : goal.invariant-loop-done
invariant-loop-done l = record {
  within : l.len ≤ length l.input;
  light : l.total ≤ MAX_REQUEST_BYTES;
  few : l.len ≤ l._done * (enough_for_header + 2) + l.total;
  read : AreReadTo l.input (words_of l.words.items) l.len l.total l._done;
  so : (words : List (List ℕ)) → AreWords words → l.count ≡ length words → IsAhead (flat_map bulk_bytes words) l.input → IsReadTo words l.input l.words.items l.len l.total l._done;
}
