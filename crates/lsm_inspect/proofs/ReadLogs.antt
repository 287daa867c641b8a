-- What the texts of a log have been, one after another and at the end.
use Rattle.std.proofs.Common.{◌≡◌, ℕ, ◌+◌, ◌-◌, ◌<◌, ◌≤◌, true, false, List, [], ◌∷◌, ◌++◌, ◌⊎◌, Option, None, Some, Result, Ok, drop, get_or, length, take, refl, sym, ap, subst, ◌∙◌, arith, inl, inr}
use Rattle.std.specs.Prelude.{IsErr, is_err}
use Rattle.std.specs.Option.{unwrap_or}
use Rattle.std.proofs.lemmas.Bool.{ltb-false, ltb-true, true≢false}
use Rattle.std.proofs.lemmas.List.{drop_more, take-append-drop, take_more}
use Rattle.std.proofs.lemmas.List.Concat.{flat_map-append}
use Rattle.lsm_key.specs.declared.limits.TheConstants.{MAX_MEMTABLE_WEIGHT}
use Rattle.lsm_key.specs.declared.refused.Refused.{Refused}
use Rattle.lsm_key.specs.declared.refused.Refused.TheVariants as refused
use Rattle.lsm_key.specs.Limits.{total_weight}
use Rattle.lsm_key.specs.Sets.{IsIn}
use Rattle.lsm_key.proofs.Membership.{IsIn-append_cases, IsIn-at}
use Rattle.lsm_edit.specs.declared.format.FormatFault.{FormatFault}
use Rattle.lsm_edit.specs.declared.log_record.LogRecord.{LogRecord}
use Rattle.lsm_edit.specs.LogRecord.{read_record}
use Rattle.lsm_edit.specs.Log.{BadLog, IsGood, active_ops, end_of, frozen_ops, log_ops, read_records, spelled_record}
use Rattle.lsm_edit.proofs.LogLaws.{drop_none, good_not_bad, take_none}
use Rattle.lsm_inspect.specs.declared.damage.LogDamage.{LogDamage}
use Rattle.lsm_inspect.specs.declared.damage.LogDamage.TheVariants as damage
use Rattle.lsm_inspect.specs.declared.reading.LogReading.{LogReading}
use Rattle.lsm_inspect.specs.Log.{HoldsSoMany, IsLogDamage, IsRecordsDamage, RefusesLog, RefusesText}
use Rattle.lsm_inspect.specs.LogReading.{Damages, HasReadLog, IsReading, ReadsOn, ends_short, held_above, no_reading}

-- ---- before the first record

pub none_read : (flushed : ℕ) → HasReadLog flushed [] no_reading
none_read flushed = record {
  each = λ text m. absurd m;
  reading = record {
    begun = λ late. late;
    none = λ is. refl;
    linked = tt;
    apart = λ s. s.among;
    once = omega arith;
    last_is = refl;
    free = λ none. refl;
    frozen = λ some. absurd (true≢false (sym some));
    count = λ end is. absurd cc;
    within = omega arith;
    light = λ light. (omega (arith, frozen_none), sym active_none, omega arith);
    heavy = λ heavy. absurd (true≢false (sym heavy));
  };
}
  where
    frozen_none : total_weight (frozen_ops flushed []) ≡ 0
    frozen_none = ap total_weight (take_none (flushed - flushed))

    active_none : total_weight (active_ops flushed []) ≡ 0
    active_none = ap total_weight (drop_none (flushed - flushed))

-- ---- one text more

module _ (flushed : ℕ) (texts : List (List ℕ)) (i : ℕ) (text : List ℕ) (lt : i < length texts) (at : text ≡ get_or texts i text) where
  among : IsIn text texts
  among = subst (λ (t : List ℕ). IsIn t texts) (sym at) (IsIn-at texts i text lt)

  -- its bytes are no record
  pub text_refuses : (e : Refused LogDamage) → RefusesText text e → RefusesLog flushed texts e
  text_refuses refused.OutOfMemory h = tt
  text_refuses (refused.Fault d) h = inl (text, among, h)

  module _ (logged : LogRecord) (is : read_record text ≡ Ok logged) (old : LogReading) (read : HasReadLog flushed (take i texts) old) where
    front : take (i + 1) texts ≡ take i texts ++ text ∷ []
    front = take_more texts i text lt ∙ ap (λ (t : List ℕ). take i texts ++ t ∷ []) (sym at)

    records_more : read_records (take (i + 1) texts) ≡ read_records (take i texts) ++ logged ∷ []
    records_more =
        ap read_records front
        ∙ flat_map-append (λ (t : List ℕ). spelled_record (read_record t)) (take i texts) (text ∷ [])
        ∙ ap (λ (x : Result LogRecord FormatFault). read_records (take i texts) ++ (spelled_record x ++ [])) is

    each_more : (t : List ℕ) → IsIn t (take (i + 1) texts) → IsErr (read_record t) → ⊥
    each_more t m refuses = by_place (IsIn-append_cases t (take i texts) (text ∷ []) (subst (λ (ts : List (List ℕ)). IsIn t ts) front m))
      where
        by_place : IsIn t (take i texts) ⊎ IsIn t (text ∷ []) → ⊥
        by_place (inl before) = read.each t before refuses
        by_place (inr (inl same)) =
            let is_read : read_record t ≡ Ok logged = ap read_record same ∙ is in
            let both : false ≡ true = ap is_err (sym is_read) ∙ refuses in
            cc
        by_place (inr (inr none)) = none

    -- its record is read
    pub read_on : (new : LogReading) → ReadsOn flushed logged old new → HasReadLog flushed (take (i + 1) texts) new
    read_on new reads = record {
      each = each_more;
      reading = subst (λ (records : List LogRecord). IsReading flushed records new) (sym records_more) (reads (read_records (take i texts)) read.reading);
    }

    split : texts ≡ take i texts ++ text ∷ drop (i + 1) texts
    split = sym (take-append-drop i texts) ∙ ap (λ (ts : List (List ℕ)). take i texts ++ ts) (drop_more texts i text lt ∙ ap (λ (t : List ℕ). t ∷ drop (i + 1) texts) (sym at))

    records_split : read_records texts ≡ read_records (take i texts) ++ logged ∷ read_records (drop (i + 1) texts)
    records_split =
        ap read_records split
        ∙ flat_map-append (λ (t : List ℕ). spelled_record (read_record t)) (take i texts) (text ∷ drop (i + 1) texts)
        ∙ ap (λ (x : Result LogRecord FormatFault). read_records (take i texts) ++ (spelled_record x ++ read_records (drop (i + 1) texts))) is

    -- or the log is damaged
    pub damage_refuses : (e : Refused LogDamage) → Damages flushed logged old e → RefusesLog flushed texts e
    damage_refuses refused.OutOfMemory h = tt
    damage_refuses (refused.Fault d) h =
        inr (subst (λ (records : List LogRecord). IsRecordsDamage flushed records d) (sym records_split) (h (read_records (take i texts)) (read_records (drop (i + 1) texts)) read.reading))

-- ---- the end

module _ (flushed : ℕ) (texts : List (List ℕ)) (r : LogReading) (read : HasReadLog flushed texts r) where
  abbrev records : List LogRecord
  records = read_records texts

  abbrev h : IsReading flushed records r
  h = read.reading

  pub is_short : ends_short flushed r.last ≡ true → IsLogDamage flushed texts (damage.EndsEarly (unwrap_or r.last 0))
  is_short short = inr (by_end r.last refl short)
    where
      by_end : (o : Option ℕ) → r.last ≡ o → ends_short flushed o ≡ true → IsRecordsDamage flushed records (damage.EndsEarly (unwrap_or o 0))
      by_end None is low = absurd cc
      by_end (Some last) is low = (sym h.last_is ∙ is, ltb-true last flushed low)

  pub is_over : r.is_heavy ≡ true → IsLogDamage flushed texts damage.IsHeavy
  is_over heavy = inr (h.heavy heavy)

  module _ (reaches : ends_short flushed r.last ≡ false) (light : r.is_heavy ≡ false) where
    reached : (end : ℕ) → end_of records ≡ Some end → flushed ≤ end
    reached end is = ltb-false end flushed (subst (λ (o : Option ℕ). ends_short flushed o ≡ false) (h.last_is ∙ is) reaches)

    active_fits : total_weight (active_ops flushed records) ≤ MAX_MEMTABLE_WEIGHT
    active_fits = (let l = h.light light in let were = l.1 in let low = l.2 in omega (arith, were, low))

    good : IsGood flushed records
    good = record {
      begun = h.begun;
      linked = h.linked;
      apart = h.apart;
      once = h.once;
      reaches = λ early. let least = reached early.0 early.1 in let below = early.2 in omega (arith, least, below);
      frozen_light = (h.light light).0;
      active_light = active_fits;
    }

    not_bad : BadLog flushed texts → ⊥
    not_bad (inl refuses) = read.each refuses.0 refuses.1 refuses.2
    not_bad (inr bad) = good_not_bad flushed records good bad

    all_held : held_above flushed r.last ≡ length (log_ops flushed records)
    all_held = by_end r.last refl
      where
        by_end : (o : Option ℕ) → r.last ≡ o → held_above flushed o ≡ length (log_ops flushed records)
        by_end None is = sym (ap (λ (l : List LogRecord). length (log_ops flushed l)) (h.none (sym h.last_is ∙ is)))
        by_end (Some last) is = sym (h.count last (sym h.last_is ∙ is))

    -- A LOG IS GOOD.
    pub holds : HoldsSoMany flushed texts (held_above flushed r.last)
    holds = record { good = not_bad; count = all_held }
