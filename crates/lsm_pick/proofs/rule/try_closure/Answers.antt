use Rattle.std.proofs.Common.{◌∙◌, List, not, map, inl, inr, refl, sym, ap, subst}
use Rattle.std.specs.List.{filter}
use Rattle.lsm_edit.specs.declared.file.FileMeta.{FileMeta}
use Rattle.lsm_pick.specs.Rule.{IsBlocked, IsTooLarge}
use Rattle.lsm_pick.specs.Counted.{fits_job}
use Rattle.lsm_pick.specs.Reach.{is_taken, candidate_of}
use Rattle.lsm_pick.proofs.ProposedWant.{asks, free_is, ghost_want, proper, within_is}
use Rattle.lsm_pick.proofs.Outcomes.{first_alone, told}
use Rattle.lsm_pick.proofs.rule.try_closure.Goals as goal

pub want_of-requires-clause-proper : goal.want_of-requires-clause-proper
want_of-requires-clause-proper c =
    let v = c.listing.ensures.sound.1 in
    proper c.args.served.now.version.files v.rising v.files (candidate_of c.args.first.now c.args.older_only) c.requires.listed c.closure-reach.result.lo.now c.closure-reach.result.hi.now c.closure-reach.ensures

pub returns-then-is_blocked-clause-ok : goal.returns-then-is_blocked-clause-ok
returns-then-is_blocked-clause-ok c = λ t m.
    let v = c.listing.ensures.sound.1 in
    let files = c.args.served.now.version.files in
    let first = candidate_of c.args.first.now c.args.older_only in
    let lo = c.closure-reach.result.lo.now in
    let hi = c.closure-reach.result.hi.now in
    let w = ghost_want files v.rising v.files first c.requires.listed lo hi c.closure-reach.ensures in
    let a = asks files v.rising v.files first c.requires.listed lo hi c.closure-reach.ensures w refl refl refl refl in
    let free = free_is files v.rising v.files first c.requires.listed lo hi c.closure-reach.ensures w refl refl refl refl c.args.live.now in
    elim m [
      | inl e ↦ subst (IsBlocked files c.args.live.now) (sym e) (w, a, free ∙ ap not (sym c.is_blocked.ensures ∙ c.if-is_blocked.true))
      | inr none ↦ absurd none
    ]

pub returns-then-not-fits_limits-clause-ok : goal.returns-then-not-fits_limits-clause-ok
returns-then-not-fits_limits-clause-ok c =
    let v = c.listing.ensures.sound.1 in
    let files = c.args.served.now.version.files in
    let first = candidate_of c.args.first.now c.args.older_only in
    let lo = c.closure-reach.result.lo.now in
    let hi = c.closure-reach.result.hi.now in
    let w = ghost_want files v.rising v.files first c.requires.listed lo hi c.closure-reach.ensures in
    let a = asks files v.rising v.files first c.requires.listed lo hi c.closure-reach.ensures w refl refl refl refl in
    let free = free_is files v.rising v.files first c.requires.listed lo hi c.closure-reach.ensures w refl refl refl refl c.args.live.now in
    let within = within_is files v.rising v.files first c.requires.listed lo hi c.closure-reach.ensures w refl refl refl refl in
    let wide : IsTooLarge files c.args.live.now first = (w, a, free ∙ ap not (sym c.is_blocked.ensures ∙ c.if-is_blocked.false), within ∙ ap (fits_job first lo hi) (sym c.listing.ensures.files) ∙ sym c.fits_limits.ensures ∙ c.if-not-fits_limits.true) in (
      λ t m. elim m [ inl e ↦ inr (subst (IsTooLarge files c.args.live.now) (sym e) wide) | inr none ↦ absurd none ],
      (first, inl refl, wide),
    )

pub returns-in_err-want-clause-err : goal.returns-in_err-want-clause-err
returns-in_err-want-clause-err c =
    let v = c.listing.ensures.sound.1 in
    let files = c.args.served.now.version.files in
    let first = candidate_of c.args.first.now c.args.older_only in
    let lo = c.closure-reach.result.lo.now in
    let hi = c.closure-reach.result.hi.now in
    let w = ghost_want files v.rising v.files first c.requires.listed lo hi c.closure-reach.ensures in
    let a = asks files v.rising v.files first c.requires.listed lo hi c.closure-reach.ensures w refl refl refl refl in
    let free = free_is files v.rising v.files first c.requires.listed lo hi c.closure-reach.ensures w refl refl refl refl c.args.live.now in
    let within = within_is files v.rising v.files first c.requires.listed lo hi c.closure-reach.ensures w refl refl refl refl in
    told c.from_residual.result (
      w,
      first_alone files c.args.live.now first w (record {
        asks = a;
        free = free ∙ ap not (sym c.is_blocked.ensures ∙ c.if-is_blocked.false);
        within = within ∙ ap (fits_job first lo hi) (sym c.listing.ensures.files) ∙ sym c.fits_limits.ensures ∙ c.if-not-fits_limits.false;
      }),
    )

pub returns-clause-ok : goal.returns-clause-ok
returns-clause-ok c =
    let v = c.listing.ensures.sound.1 in
    let files = c.args.served.now.version.files in
    let first = candidate_of c.args.first.now c.args.older_only in
    let lo = c.closure-reach.result.lo.now in
    let hi = c.closure-reach.result.hi.now in
    let w = c.in_ok-want.want in
    let is = c.in_ok-want.ensures in
    let numbers = is.files ∙ ap (λ (fs : List FileMeta). map (λ (f : FileMeta). f.number) (filter (is_taken first lo hi) fs)) c.listing.ensures.files in
    let a = asks files v.rising v.files first c.requires.listed lo hi c.closure-reach.ensures w is.level numbers is.hull.0 is.hull.1 in
    let free = free_is files v.rising v.files first c.requires.listed lo hi c.closure-reach.ensures w is.level numbers is.hull.0 is.hull.1 c.args.live.now in
    let within = within_is files v.rising v.files first c.requires.listed lo hi c.closure-reach.ensures w is.level numbers is.hull.0 is.hull.1 in
    first_alone files c.args.live.now first w (record {
      asks = a;
      free = free ∙ ap not (sym c.is_blocked.ensures ∙ c.if-is_blocked.false);
      within = within ∙ ap (fits_job first lo hi) (sym c.listing.ensures.files) ∙ sym c.fits_limits.ensures ∙ c.if-not-fits_limits.false;
    })
