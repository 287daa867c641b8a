use Rattle.std.proofs.Common.{◌≡◌, Bool, ◌&&◌, ap}
use Rattle.std.specs.Bool.{Decides}
use Rattle.std.specs.Str.{bytes_eq}
use Rattle.std.proofs.lemmas.Bool.Decides.{Decides-and, Decides-like}
use Rattle.std.proofs.lemmas.Slice.Eq.{slice_eq-Decides, bytes_eq-Decides}
use Rattle.lsm_key.specs.declared.range.KeyRange.{KeyRange}
use Rattle.lsm_msg.proofs.lists.same_ranges.Goals as goal

abbrev range_eq : KeyRange → KeyRange → Bool
range_eq r s = bytes_eq r.lo s.lo && bytes_eq r.hi s.hi

range_Decides : (r s : KeyRange) → Decides (range_eq r s) (r ≡ s)
range_Decides r s =
    Decides-like (range_eq r s)
    (λ h i. record { lo = h.0 i; hi = h.1 i })
    (λ e. (ap (λ (x : KeyRange). x.lo) e, ap (λ (x : KeyRange). x.hi) e))
    (Decides-and (bytes_eq r.lo s.lo) (bytes_eq r.hi s.hi) (bytes_eq-Decides r.lo s.lo) (bytes_eq-Decides r.hi s.hi))

pub returns : goal.returns
returns c = slice_eq-Decides {E = range_eq} range_Decides c.args.rs.now c.args.ss.now c.eq.result c.eq.ensures
