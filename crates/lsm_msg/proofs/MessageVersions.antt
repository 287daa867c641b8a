-- The version of a message: its keys are within the limit of their version.
use Rattle.std.proofs.Common.{◌≡◌, ℕ, zero, suc, ◌||◌, Bool, false, cond, List, [], ◌∷◌, ◌++◌, refl, sym, ap, ◌∙◌, arith}
use Rattle.std.specs.List.{All, flat_map, list_any}
use Rattle.std.proofs.Math.Bool.{or_assoc}
use Rattle.std.proofs.lemmas.Bool.{or_parts}
use Rattle.std.proofs.lemmas.List.Folds.{list_any-append}
use Rattle.lsm_key.specs.declared.limits.TheConstants.{MAX_KEY_BYTES}
use Rattle.lsm_key.specs.declared.range.KeyRange.{KeyRange}
use Rattle.lsm_key.specs.Spelling.{IsKey}
use Rattle.lsm_key.specs.Versions.{is_long, key_limit, version_of}
use Rattle.lsm_key.proofs.VersionLaws.{key_fits}
use Rattle.lsm_edit.specs.declared.file.FileMeta.{FileMeta}
use Rattle.lsm_edit.proofs.BaseLaws.{base_within}
use Rattle.lsm_edit.proofs.EditLaws.{edit_within}
use Rattle.lsm_msg.specs.declared.message.Body.{Body}
use Rattle.lsm_msg.specs.declared.message.Body.TheVariants as body
use Rattle.lsm_msg.specs.Messages.{IsBody, keys_of_files, keys_of_ranges, own_keys}
use Rattle.lsm_msg.proofs.BodyLaws.{BodyHasKeysWithin, IsCounted}
use Rattle.lsm_msg.proofs.JobLaws.{job_within}

-- items with two keys each
module _ {X : Type 0} (first last : X → List ℕ) where
  abbrev both_keys : List X → List (List ℕ)
  both_keys xs = flat_map (λ x. first x ∷ last x ∷ []) xs

  -- an item has a long key if one of its two is long
  either_long : (xs : List X) → list_any (λ x. is_long (first x) || is_long (last x)) xs ≡ list_any is_long (both_keys xs)
  either_long [] = refl
  either_long (x ∷ xs) = ap (λ (b : Bool). (is_long (first x) || is_long (last x)) || b) (either_long xs) ∙ or_assoc (is_long (first x)) (is_long (last x)) (list_any is_long (both_keys xs))

  -- the keys of items are within the limit of a version that is 1 only where none of them is long
  both_fit : (xs : List X) (some : Bool) → All (λ x. IsKey MAX_KEY_BYTES (first x) × IsKey MAX_KEY_BYTES (last x)) xs → (some ≡ false → list_any is_long (both_keys xs) ≡ false)
      → All (λ x. IsKey (key_limit (cond some 2 1)) (first x) × IsKey (key_limit (cond some 2 1)) (last x)) xs
  both_fit [] some are short k d lt = absurd (omega (arith, lt))
  both_fit (x ∷ xs) some are short zero d lt =
      let is = are zero d (omega arith) in (
        key_fits (first x) some is.0 (λ none. (or_parts (is_long (first x)) (is_long (last x) || list_any is_long (both_keys xs)) (short none)).0),
        key_fits (last x) some is.1 (λ none. (or_parts (is_long (last x)) (list_any is_long (both_keys xs)) (or_parts (is_long (first x)) (is_long (last x) || list_any is_long (both_keys xs)) (short none)).1).0),
      )
  both_fit (x ∷ xs) some are short (suc k) d lt =
      both_fit xs some (λ j d lt. are (suc j) d (omega (arith, lt)))
      (λ none. (or_parts (is_long (last x)) (list_any is_long (both_keys xs)) (or_parts (is_long (first x)) (is_long (last x) || list_any is_long (both_keys xs)) (short none)).1).1) k d (omega (arith, lt))

-- what is asked of files and ranges one by one is asked of their keys
pub long_files : (files : List FileMeta) → list_any (λ f. is_long f.smallest || is_long f.largest) files ≡ list_any is_long (keys_of_files files)
long_files = either_long (λ (f : FileMeta). f.smallest) (λ (f : FileMeta). f.largest)

pub long_ranges : (ranges : List KeyRange) → list_any (λ r. is_long r.lo || is_long r.hi) ranges ≡ list_any is_long (keys_of_ranges ranges)
long_ranges = either_long (λ (r : KeyRange). r.lo) (λ (r : KeyRange). r.hi)

-- the keys of a body are within the limit of its message's version
pub body_fits : (b : Body) → IsBody b → IsCounted b → BodyHasKeysWithin (key_limit (version_of (own_keys b))) b
body_fits (body.Job j) is few =
    let are = job_within j is.0 in
    let keys = keys_of_files j.inputs in
    let ends = keys_of_ranges j.deeper in
    let some = list_any is_long (keys ++ ends) in
    let short : some ≡ false → (list_any is_long keys ≡ false) × (list_any is_long ends ≡ false) = λ none. or_parts (list_any is_long keys) (list_any is_long ends) (sym (list_any-append is_long keys ends) ∙ none) in (
      both_fit (λ (f : FileMeta). f.smallest) (λ (f : FileMeta). f.largest) j.inputs some are.0 (λ none. (short none).0),
      both_fit (λ (r : KeyRange). r.lo) (λ (r : KeyRange). r.hi) j.deeper some are.1 (λ none. (short none).1),
    )
body_fits (body.Fetch n) is few = tt
body_fits (body.Table n bytes) is few = tt
body_fits (body.Gone n) is few = tt
body_fits (body.Result r) is few = tt
body_fits (body.Ask n) is few = tt
body_fits (body.Edit e) is few = both_fit (λ (f : FileMeta). f.smallest) (λ (f : FileMeta). f.largest) e.added (list_any is_long (keys_of_files e.added)) (edit_within e is).1 (λ none. none)
body_fits (body.Base v) is few = both_fit (λ (f : FileMeta). f.smallest) (λ (f : FileMeta). f.largest) v.files (list_any is_long (keys_of_files v.files)) (base_within v (is, few)).1 (λ none. none)
body_fits (body.Current n) is few = tt
