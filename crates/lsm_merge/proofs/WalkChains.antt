-- Walks one after the other, and what they bring into the outputs.
use Rattle.std.proofs.Common.{◌≡◌, ℕ, ◌≤◌, false, List, [], ◌∷◌, ◌++◌, length, Option, Some, None, Err, sym, ap, subst, inl, inr, arith}
use Rattle.std.proofs.lemmas.List.{append-nil}
use Rattle.lsm_key.specs.declared.entry.Entry.{Entry}
use Rattle.lsm_key.specs.declared.limits.TheConstants.{MAX_POINTS}
use Rattle.lsm_key.specs.Entries.{IsEntry}
use Rattle.lsm_key.specs.Order.{Precedes}
use Rattle.lsm_key.specs.Sets.{IsIn}
use Rattle.lsm_key.proofs.AscendingEntries.{Falls, falls_ascend}
use Rattle.lsm_block.specs.Blocks.{AreEntries, HasSequence}
use Rattle.lsm_block.proofs.EntriesGrow as grow
use Rattle.lsm_block.proofs.EntriesGrow.{one_more}
use Rattle.lsm_table.specs.Building.{Draft}
use Rattle.lsm_merge.specs.declared.error.MergeError.{MergeError}
use Rattle.lsm_merge.specs.Cutting.{IsSplitSoFar, MayCome}
use Rattle.lsm_merge.specs.Filling.{IsFilled, IsFilling, StopsFilling}
use Rattle.lsm_merge.specs.Keeping.{kept_list}
use Rattle.lsm_merge.specs.Walks.{AllFollow, Steps, Took, WalkValue, follows}
use Rattle.lsm_merge.proofs.FewVersions.{of_key, of_key-filter, few_kept}
use Rattle.lsm_merge.proofs.KeptInOnePass.{kept_list_falls, precedes-trans}
use Rattle.lsm_merge.proofs.TakenHeads.{turns_chain}
use Rattle.lsm_merge.proofs.WalkSteps.{took_chain, took_none}

-- ---- the order of what was taken

all_after : (before : Entry) (es : List Entry) → AllFollow (Some before) es → (f : Entry) → IsIn f es → Precedes before f
all_after before [] h f m = absurd m
all_after before (e ∷ es) h f m = elim m [
  | inl same ↦ subst (Precedes before) (sym same) h.0
  | inr later ↦ precedes-trans before e f h.0 (all_after e es h.1 f later)
]

pub follow_falls : (before : Option Entry) (es : List Entry) → AllFollow before es → Falls es
follow_falls before [] h = tt
follow_falls before (e ∷ es) h = (all_after e es h.1, follow_falls (Some e) es h.1)

-- ---- what is kept of it

no_entries : AreEntries []
no_entries = record { each = tt; sequences = tt; ascending = falls_ascend [] tt }

pub filling_none : (start : WalkValue) (target : ℕ) (closed : List (List ℕ)) (taking : Draft) → IsSplitSoFar target [] closed taking → IsFilling start start target closed taking
filling_none start target closed taking split = record { taken = []; kept = []; took = took_none start; sound = no_entries; split = split }

module _ (start now after : WalkValue) (target : ℕ) (closed : List (List ℕ)) (taking : Draft) (fresh : start.before ≡ None) (filling : IsFilling start now target closed taking) where
  module _ (taken : List Entry) (e : Entry) (took : Took now taken (e ∷ []) after) (sound : IsEntry e × HasSequence e) where
    all_took : Took start (filling.taken ++ taken) (filling.kept ++ e ∷ []) after
    all_took = took_chain start now after filling.taken taken filling.kept (e ∷ []) filling.took took

    falls : Falls (filling.taken ++ taken)
    falls = follow_falls start.before (filling.taken ++ taken) all_took.ordered

    keeps : kept_list start.points start.deeper None (filling.taken ++ taken) ≡ filling.kept ++ e ∷ []
    keeps = subst (λ (o : Option Entry). kept_list start.points start.deeper o (filling.taken ++ taken) ≡ filling.kept ++ e ∷ []) fresh all_took.keeps

    own_falls : Falls (filling.kept ++ e ∷ [])
    own_falls = subst Falls keeps (kept_list_falls start.points start.deeper None (filling.taken ++ taken) falls)

    own_sound : AreEntries (filling.kept ++ e ∷ [])
    own_sound = one_more filling.kept e filling.sound sound.0 sound.1 (grow.follows filling.kept e [] (falls_ascend (filling.kept ++ e ∷ []) own_falls))

    pub may_come : length start.points ≤ MAX_POINTS → MayCome filling.kept e
    may_come few = record {
      sound = own_sound;
      few = λ k. (let count = of_key-filter k (filling.kept ++ e ∷ []) in
          let most = few_kept start.points start.deeper k None (filling.taken ++ taken) falls in
          let same = ap (of_key k) keeps in
          omega (arith, count, most, same, few));
    }

    pub filling_more : (outputs : List (List ℕ)) (draft : Draft) → IsSplitSoFar target (filling.kept ++ e ∷ []) outputs draft → IsFilling start after target outputs draft
    filling_more outputs draft split = record { taken = filling.taken ++ taken; kept = filling.kept ++ e ∷ []; took = all_took; sound = own_sound; split = split }

module _ (start now : WalkValue) (target : ℕ) (closed : List (List ℕ)) (taking : Draft) (filling : IsFilling start now target closed taking) where
  pub filled : (taken : List Entry) (last : WalkValue) → Took now taken [] last → last.heads ≡ [] → IsFilled start target closed taking
  filled taken last took ended = record {
    last = last;
    filling = record {
      taken = filling.taken ++ taken;
      kept = filling.kept;
      took = subst (λ (es : List Entry). Took start (filling.taken ++ taken) es last) (append-nil filling.kept) (took_chain start now last filling.taken taken filling.kept [] filling.took took);
      sound = filling.sound;
      split = filling.split;
    };
    ended = ended;
  }

  pub stops : (after : WalkValue) (why : MergeError) → Steps now (Err why) after → StopsFilling start why
  stops after why s =
      let took : Took start (filling.taken ++ s.0) (filling.kept ++ []) s.1 = took_chain start now s.1 filling.taken s.0 filling.kept [] filling.took s.3 in
      let takes = turns_chain start.heads s.1.heads after.heads (filling.taken ++ s.0) (s.2 ∷ []) took.takes s.4 in
      rw s.6 (filling.taken ++ s.0, s.2, after.heads, takes, subst (λ (o : Option Entry). follows o s.2 ≡ false) took.before s.5)
