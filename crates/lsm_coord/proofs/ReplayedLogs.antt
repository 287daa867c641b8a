-- What a replay has made of the texts of a log, record by record and at the end.
use Rattle.std.proofs.Common.{◌≡◌, ℕ, ◌+◌, ◌-◌, ◌<◌, ◌≤◌, true, false, List, [], ◌∷◌, ◌++◌, ◌⊎◌, Option, None, Some, drop, get_or, length, take, refl, sym, ap, subst, ◌∙◌, arith, inl, inr}
use Rattle.std.specs.Prelude.{IsErr}
use Rattle.std.specs.Option.{unwrap_or}
use Rattle.std.specs.List.Sorted.{IsPermutation}
use Rattle.std.proofs.lemmas.Bool.{ltb-false, ltb-true}
use Rattle.std.proofs.lemmas.List.{drop_more, length-map, map-append, take-append-drop, take_more}
use Rattle.std.proofs.lemmas.List.Concat.{flat_map-append}
use Rattle.std.proofs.lemmas.List.Sorted.{IsPermutation-refl}
use Rattle.lsm_key.specs.declared.op.Op.{Op}
use Rattle.lsm_key.specs.Places.{entries_after}
use Rattle.lsm_key.specs.Sets.{IsIn}
use Rattle.lsm_key.proofs.Membership.{IsIn-at}
use Rattle.lsm_edit.specs.declared.log_record.LogRecord.{LogRecord}
use Rattle.lsm_edit.specs.LogRecord.{IsSpelledRecord, read_record, record_bytes}
use Rattle.lsm_edit.specs.Log.{BadLog, BadRecords, IsGood, end_of, log_ops, read_records, spelled_record, ends_early}
use Rattle.lsm_edit.proofs.LogLaws.{drop_none, take_none}
use Rattle.lsm_edit.proofs.LogRecordLaws.{record_again}
use Rattle.lsm_versions.specs.declared.error.OpenError.{OpenError}
use Rattle.lsm_versions.specs.declared.error.OpenError.TheVariants as error
use Rattle.lsm_coord.specs.declared.replay.Replayed.{Replayed}
use Rattle.lsm_coord.specs.Contract.Logs.{records_upto}
use Rattle.lsm_coord.specs.Contract.Value.{frozen_entries, start_of}
use Rattle.lsm_coord.specs.Inner.Replaying.{HasRead, HasReplayed, LogRefuses, ReplayRefuses, ReplaysLog, SpoilsLog, TakeRefuses, TakesUp, ends_below, no_records}
use Rattle.lsm_coord.proofs.JudgedLogs.{bad}
use Rattle.lsm_coord.proofs.LogCuts.{empty_good, records_are}
use Rattle.lsm_coord.proofs.ReplayedRecords.{held_count, none_yet, start_same}

-- ---- before the first record

pub none_read : (flushed : ℕ) → HasRead flushed [] no_records
none_read flushed = record {
  records = [];
  spelled = refl;
  replayed = record {
    sound = λ r m. absurd m;
    begun = λ late. late;
    linked = tt;
    apart = λ s. s.among;
    once = omega arith;
    frozen_light = (empty_good flushed).frozen_light;
    active_light = (empty_good flushed).active_light;
    last_is = refl;
    frozen_end = refl;
    active_is = subst (λ (os : List Op). IsPermutation [] (entries_after flushed os)) (sym (drop_none (flushed - flushed))) (IsPermutation-refl []);
    frozen_is = subst (λ (os : List Op). IsPermutation [] (entries_after flushed os)) (sym (take_none (flushed - flushed))) (IsPermutation-refl []);
    between = λ f is. absurd cc;
    read_is = refl;
    all_upto = λ n le. refl;
    flushed_upto = refl;
    frozen_upto = λ f is. absurd cc;
  };
}

-- ---- one text more

module _ (flushed : ℕ) (texts : List (List ℕ)) (i : ℕ) (text : List ℕ) (lt : i < length texts) (at : text ≡ get_or texts i text) where
  among : IsIn text texts
  among = subst (λ (t : List ℕ). IsIn t texts) (sym at) (IsIn-at texts i text lt)

  -- one that is no record makes the log bad
  no_record_is_bad : IsErr (read_record text) → BadLog flushed texts
  no_record_is_bad refused = inl (text, among, refused)

  module _ (logged : LogRecord) (one : IsSpelledRecord text logged) (old : Replayed) (read : HasRead flushed (take i texts) old) where
    -- its record is taken up
    pub read_more : (new : Replayed) → TakesUp flushed logged old new → HasRead flushed (take (i + 1) texts) new
    read_more new takes = record {
      records = read.records ++ logged ∷ [];
      spelled =
          take_more texts i text lt ∙ ap (λ (t : List ℕ). take i texts ++ t ∷ []) (sym at)
          ∙ (λ j. read.spelled j ++ one.spelled j ∷ [])
          ∙ sym (map-append record_bytes read.records (logged ∷ []));
      replayed = takes read.records read.replayed;
    }

    front_read : read_records (take i texts) ≡ read.records
    front_read = records_are read.records (take i texts) read.spelled read.replayed.sound

    split : texts ≡ take i texts ++ text ∷ drop (i + 1) texts
    split = sym (take-append-drop i texts) ∙ ap (λ (ts : List (List ℕ)). take i texts ++ ts) (drop_more texts i text lt ∙ ap (λ (t : List ℕ). t ∷ drop (i + 1) texts) (sym at))

    records_split : read_records texts ≡ read.records ++ logged ∷ read_records (drop (i + 1) texts)
    records_split =
        ap read_records split
        ∙ flat_map-append (λ (t : List ℕ). spelled_record (read_record t)) (take i texts) (text ∷ drop (i + 1) texts)
        ∙ (λ j. front_read j ++ (spelled_record (record_again text logged one j) ++ read_records (drop (i + 1) texts)))

    -- or it makes the log bad
    spoiled_is_bad : SpoilsLog flushed logged old → BadLog flushed texts
    spoiled_is_bad spoils = inr (bad flushed (read_records texts) (λ good. spoils read.records (read_records (drop (i + 1) texts)) read.replayed (subst (IsGood flushed) records_split good)))

    pub take_refuses : (e : OpenError) → TakeRefuses flushed logged old e → ReplayRefuses flushed texts e
    take_refuses error.BadLog h = spoiled_is_bad h
    take_refuses error.OutOfMemory h = tt
    take_refuses error.BadManifest h = absurd h
    take_refuses error.MissingTable h = absurd h
    take_refuses error.Device h = absurd h
    take_refuses error.NumbersExhausted h = absurd h

  pub record_refuses : (e : OpenError) → (e ≡ error.OutOfMemory) ⊎ ((e ≡ error.BadLog) × IsErr (read_record text)) → ReplayRefuses flushed texts e
  record_refuses e (inl memory) = subst (ReplayRefuses flushed texts) (sym memory) tt
  record_refuses e (inr refused) = subst (ReplayRefuses flushed texts) (sym refused.0) (no_record_is_bad refused.1)

-- what refuses a replay refuses the log of a vault
pub log_refuses : (flushed : ℕ) (texts : List (List ℕ)) (e : OpenError) → ReplayRefuses flushed texts e → LogRefuses flushed texts e
log_refuses flushed texts error.BadLog h = h
log_refuses flushed texts error.OutOfMemory h = tt
log_refuses flushed texts error.BadManifest h = absurd h
log_refuses flushed texts error.MissingTable h = absurd h
log_refuses flushed texts error.Device h = tt
log_refuses flushed texts error.NumbersExhausted h = absurd h

-- ---- the end

module _ (flushed : ℕ) (texts : List (List ℕ)) (r : Replayed) (read : HasRead flushed texts r) where
  abbrev h : HasReplayed flushed read.records r
  h = read.replayed

  all_read : read_records texts ≡ read.records
  all_read = records_are read.records texts read.spelled h.sound

  pub early_is_bad : ends_below flushed r.last ≡ true → BadLog flushed texts
  early_is_bad below = inr (by_end r.last refl below)
    where
      by_end : (o : Option ℕ) → r.last ≡ o → ends_below flushed o ≡ true → BadRecords flushed (read_records texts)
      by_end None is low = absurd cc
      by_end (Some last) is low = ends_early (last, ap end_of all_read ∙ sym h.last_is ∙ is, ltb-true last flushed low)

  module _ (reaches : ends_below flushed r.last ≡ false) where
    reached : (end : ℕ) → end_of read.records ≡ Some end → flushed ≤ end
    reached end is = ltb-false end flushed (subst (λ (o : Option ℕ). ends_below flushed o ≡ false) (h.last_is ∙ is) reaches)

    good : IsGood flushed read.records
    good = record {
      begun = h.begun;
      linked = h.linked;
      apart = h.apart;
      once = h.once;
      reaches = λ early. let low = reached early.0 early.1 in let below = early.2 in omega (arith, low, below);
      frozen_light = h.frozen_light;
      active_light = h.active_light;
    }

    -- the last sequence is that of the last operation
    newest_is : unwrap_or r.last flushed ≡ flushed + length (log_ops flushed read.records)
    newest_is = by_end r.last refl
      where
        by_end : (o : Option ℕ) → r.last ≡ o → unwrap_or o flushed ≡ flushed + length (log_ops flushed read.records)
        by_end None is =
            let none : length (log_ops flushed read.records) ≡ 0 = ap (λ (l : List LogRecord). length (log_ops flushed l)) (none_yet flushed read.records h.begun (sym h.last_is ∙ is)) in
            omega (arith, none)
        by_end (Some last) is =
            let count = held_count flushed read.records h.sound h.begun h.linked last (sym h.last_is ∙ is) in
            let low = reached last (sym h.last_is ∙ is) in
            omega (arith, count, low)

    abbrev start : ℕ
    start = start_of r.frozen flushed

    -- A LOG IS REPLAYED.
    pub replayed : ReplaysLog flushed texts r
    replayed = record {
      logged = record {
        records = read.records;
        spelled = read.spelled;
        sound = h.sound;
        ops = log_ops flushed read.records;
        holds = record { good = good; ops_are = refl; frozen_is = h.frozen_end };
        last_is = newest_is;
        active_is = subst (λ (n : ℕ). IsPermutation r.active (entries_after start (drop (n - flushed) (log_ops flushed read.records)))) (sym (start_same flushed read.records r h)) h.active_is;
        frozen_is = subst (λ (n : ℕ). IsPermutation (frozen_entries r.frozen) (entries_after flushed (take (n - flushed) (log_ops flushed read.records)))) (sym (start_same flushed read.records r h)) h.frozen_is;
      };
      all = h.read_is ∙ sym (length-map read.records record_bytes) ∙ ap length (sym read.spelled);
      flushed_upto = h.flushed_upto ∙ ap (records_upto flushed) (sym all_read);
      frozen_upto = λ f is. h.frozen_upto f is ∙ ap (records_upto f.end) (sym all_read);
    }
