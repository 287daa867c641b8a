use Rattle.lsm_key.proofs.KeyRanges.{common_key, ranges_meet_from}
use Rattle.lsm_claim.proofs.laws.hulls_meet_where_they_share_a_key.Goals as goal

pub returns : goal.returns
returns c = λ h g. (
  common_key h.lo h.hi g.lo g.hi h.proper g.proper,
  λ shared. ranges_meet_from h.lo h.hi g.lo g.hi shared.0 shared.1 shared.2,
)
