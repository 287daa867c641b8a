-- What a claim that ends without a result leaves.
use Rattle.std.proofs.Common.{◌≡◌, ℕ, Bool, true, false, not, cond, List, [], ◌∷◌, refl, sym, subst, ◌∙◌}
use Rattle.std.proofs.lemmas.Bool.{and_parts, eq-eqb, eqb-true}
use Rattle.std.specs.Prelude.{nat_eq}
use Rattle.std.specs.List.{list_any}
use Rattle.lsm_key.specs.Sets.{IsIn}
use Rattle.lsm_key.proofs.AscendingEntries.{IsIn-filter}
use Rattle.lsm_key.proofs.Lists.{IsIn-kept, any_from, any_is}
use Rattle.lsm_claim.specs.declared.ending.Ending.{Ending}
use Rattle.lsm_claim.specs.declared.ending.Ending.TheVariants.{Installed, Returned}
use Rattle.lsm_claim.specs.declared.job.JobId.{JobId}
use Rattle.lsm_claim.specs.declared.job.LiveJob.{LiveJob}
use Rattle.lsm_claim.specs.Jobs.{same_job_id, without_job}
use Rattle.lsm_claim.specs.Book.{BookValue, holds, with_ending, after_settling}
use Rattle.lsm_edit.specs.declared.file.FileMeta.{FileMeta}
use Rattle.lsm_vault.specs.Stored.{TableMap}
use Rattle.lsm_coord.specs.Model.State.{State}
use Rattle.lsm_coord.specs.Contract.Memory.{AreLegal, IsJobWant}
use Rattle.lsm_coord.specs.Contract.Value.{CoordValue}
use Rattle.lsm_coord.specs.Contract.Calls.{after_give_back}
use Rattle.lsm_coord.specs.Contract.Shows.{Shows}
use Rattle.lsm_coord.specs.Contract.Sound.{KeepsSound}

-- ---- the book

either : (P : BookValue → Type 0) (held : Bool) (a b : BookValue) → P a → P b → P (cond held a b)
either P true a b x y = x
either P false a b x y = y

-- an ending counts, and leaves the epoch and the live jobs
counted : (P : ℕ → List LiveJob → Type 0) (ending : Ending) (b : BookValue) → P b.epoch b.live → P (with_ending ending b).epoch (with_ending ending b).live
counted P Installed b h = h
counted P Returned b h = h

-- what holds of a book without the job, and with it, holds of the book after settling
settled_has : (P : ℕ → List LiveJob → Type 0) (b : BookValue) (id : JobId) (ending : Ending) → P b.epoch (without_job id b.live) → P b.epoch b.live → P (after_settling b id ending).epoch (after_settling b id ending).live
settled_has P b id ending gone same =
    either (λ (x : BookValue). P x.epoch x.live) (holds b id) (with_ending ending (record b { live = without_job id b.live })) b (counted P ending (record b { live = without_job id b.live }) gone) same

pub epoch_after : (b : BookValue) (id : JobId) (ending : Ending) → (after_settling b id ending).epoch ≡ b.epoch
epoch_after b id ending = settled_has (λ epoch live. epoch ≡ b.epoch) b id ending refl refl

made_with : (ending : Ending) (b : BookValue) → (with_ending ending b).made ≡ b.made
made_with Installed b = refl
made_with Returned b = refl

-- the end of a claim issues none
pub made_after : (b : BookValue) (id : JobId) (ending : Ending) → (after_settling b id ending).made ≡ b.made
made_after b id ending = either (λ (x : BookValue). x.made ≡ b.made) (holds b id) (with_ending ending (record b { live = without_job id b.live })) b (made_with ending (record b { live = without_job id b.live })) refl

-- no job comes
pub live_before : (b : BookValue) (id : JobId) (ending : Ending) (j : LiveJob) → IsIn j (after_settling b id ending).live → IsIn j b.live
live_before b id ending j =
    settled_has (λ epoch live. IsIn j live → IsIn j b.live) b id ending (λ m. (IsIn-filter (λ k. not (same_job_id k.id id)) j b.live m).0) (λ m. m)

-- a name that is live in the end was live before
pub held_before : (b : BookValue) (id name : JobId) (ending : Ending) → holds (after_settling b id ending) name ≡ true → holds b name ≡ true
held_before b id name ending h =
    let found = any_is (λ k. same_job_id k.id name) (after_settling b id ending).live h in
    any_from (λ k. same_job_id k.id name) b.live found.0 (live_before b id ending found.0 found.1) found.2

pub same_self : (a b : JobId) → a ≡ b → same_job_id a b ≡ true
same_self a b e = subst (λ (x : JobId). same_job_id a x ≡ true) e (rw (eq-eqb a.epoch a.epoch refl) (eq-eqb a.number a.number refl))

pub same_name : (a b : JobId) → same_job_id a b ≡ true → a ≡ b
same_name a b h =
    let parts = and_parts (nat_eq a.epoch b.epoch) (nat_eq a.number b.number) h in
    let epoch = eqb-true a.epoch b.epoch parts.0 in
    let number = eqb-true a.number b.number parts.1 in
    λ i. record { epoch = epoch i; number = number i }

-- a job that was live under a name that still is, still is live
pub still_live : (b : BookValue) (id : JobId) (ending : Ending) (j : LiveJob) (name : JobId) → IsIn j b.live → j.id ≡ name → holds (after_settling b id ending) name ≡ true → IsIn j (after_settling b id ending).live
still_live b id ending j name m named =
    settled_has (λ epoch live. list_any (λ k. same_job_id k.id name) live ≡ true → IsIn j live) b id ending
    (λ h.
    let found = any_is (λ k. same_job_id k.id name) (without_job id b.live) h in
    let k = found.0 in
    let same : k.id ≡ j.id = same_name k.id name found.2 ∙ sym named in
    let other : not (same_job_id k.id id) ≡ true = (IsIn-filter (λ x. not (same_job_id x.id id)) k b.live found.1).1 in
    IsIn-kept (λ x. not (same_job_id x.id id)) j b.live m (subst (λ (n : JobId). not (same_job_id n id) ≡ true) same other))
    (λ h. m)

pub legal_after : (files : List FileMeta) (b : BookValue) (id : JobId) (ending : Ending) → AreLegal files b.live → AreLegal files (after_settling b id ending).live
legal_after files b id ending all j m = all j (live_before b id ending j m)

pub orderly_after : (b : BookValue) (id : JobId) (ending : Ending) → ((j : LiveJob) → IsIn j b.live → IsJobWant j.want) → (j : LiveJob) → IsIn j (after_settling b id ending).live → IsJobWant j.want
orderly_after b id ending all j m = all j (live_before b id ending j m)

-- ---- the coordinator

-- the states that it shows know neither claims nor its vault
pub Shows-beside : (c : CoordValue) (book : BookValue) (tables : TableMap) (failures : ℕ) (s : State) → Shows c s → Shows (record c { book = book; stored = record c.stored { tables = tables }; failures = failures }) s
Shows-beside c book tables failures s h = record {
  up = h.up;
  last = h.last;
  frozen = h.frozen;
  snapshots = h.snapshots;
  made = h.made;
  floor = h.floor;
  tables = h.tables;
  memtables = h.memtables;
  logged = h.logged;
}

pub gives_back_keeps : (c : CoordValue) (id : JobId) → KeepsSound c (after_give_back c id)
gives_back_keeps c id job sound held =
    let claimed = sound.claimed in
    record {
      claimed = record {
        live = claimed.live;
        member = still_live c.book id Returned claimed.live job.id claimed.member claimed.named held;
        named = claimed.named;
        of_want = claimed.of_want;
      };
      snapshots = sound.snapshots;
      block = sound.block;
      deeper = sound.deeper;
    }

-- ---- several claims, one after another

-- claims are given back to a coordinator
abbrev pub after_giving_back_all : CoordValue → List JobId → CoordValue
after_giving_back_all c [] = c
after_giving_back_all c (id ∷ ids) = after_giving_back_all (after_give_back c id) ids

held_first : (c : CoordValue) (ids : List JobId) (name : JobId) → holds (after_giving_back_all c ids).book name ≡ true → holds c.book name ≡ true
held_first c [] name h = h
held_first c (id ∷ ids) name h = held_before c.book id name Returned (held_first (after_give_back c id) ids name h)

pub all_given_back_keep : (c : CoordValue) (ids : List JobId) → KeepsSound c (after_giving_back_all c ids)
all_given_back_keep c [] job sound held = sound
all_given_back_keep c (id ∷ ids) job sound held =
    all_given_back_keep (after_give_back c id) ids job (gives_back_keeps c id job sound (held_first (after_give_back c id) ids job.id held)) held
