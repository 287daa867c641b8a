-- What stays true of a cache of blocks.
use Rattle.std.proofs.Common.{◌≡◌, ℕ, Bool, true, List, Some, Result, Ok, Err, ap, sym, subst, ◌∙◌, inl, inr, Contains, nat_eq, ◌&&◌, ◌⊎◌}
use Rattle.std.proofs.lemmas.Bool.{and_parts, eqb-true}
use Rattle.std.specs.Result.{OnOk, OnErr}
use Rattle.lru.specs.LruCache.{LruCache, lru_cache, promoted, put_entries}
use Rattle.std.specs.Map.{lookup}
use Rattle.lru.proofs.Splits.{Contains-nil}
use Rattle.lru.proofs.CallerLemmas.{Contains-lookup, Contains-promoted, Contains-put_entries}
use Rattle.lsm_key.specs.declared.entry.Entry.{Entry}
use Rattle.lsm_key.specs.Visible.{visible}
use Rattle.lsm_block.specs.Handles.{IsPartAt, IsHandleFor}
use Rattle.lsm_block.proofs.HandleParts.{one_part}
use Rattle.lsm_block.specs.declared.handle.BlockHandle.{BlockHandle}
use Rattle.lsm_cache.specs.Cached.{HoldsBlocks, HoldsNone}
use Rattle.lsm_cache.specs.declared.cache.BlockCache.{BlockCache}
use Rattle.lsm_cache.specs.declared.cache.BlockPlace.{BlockPlace}

abbrev pub Held : Type 0
Held = LruCache BlockPlace (List Entry)

abbrev pub Holds : ℕ → List Entry → Held → Type 0
Holds number es c = (place : BlockPlace) (block : List Entry) → Contains c.entries (place, block) → place.file ≡ number → IsPartAt es place.handle block

pub held_promoted : (test : BlockPlace → Bool) (number : ℕ) (es : List Entry) (old new : Held) → new ≡ lru_cache (promoted test old.entries) old.cap → Holds number es old → Holds number es new
held_promoted test number es old new e holds place block has is = holds place block (Contains-promoted test old.entries (place, block) (subst (λ (c : Held). Contains c.entries (place, block)) e has)) is

pub held_put : (eq : BlockPlace → BlockPlace → Bool) (same : (x y : BlockPlace) → eq x y ≡ true → x ≡ y) (number : ℕ) (es : List Entry) (old new : Held) (at : BlockPlace) (block : List Entry)
    → new ≡ lru_cache (put_entries eq old at block) old.cap → Holds number es old → (at.file ≡ number → IsPartAt es at.handle block) → Holds number es new
held_put eq same number es old new at block e holds right place b has is =
    elim (Contains-put_entries eq old at block (place, b) (subst (λ (c : Held). Contains c.entries (place, b)) e has)) [
      | inl was ↦ holds place b was is
      | inr put ↦ elim put.1 [
        | inl here ↦ by (sym here) put.0
        | inr there ↦ by (same at place there.2) put.0
      ]
    ]
  where
    by : at ≡ place → b ≡ block → IsPartAt es place.handle b
    by one value = subst (λ (x : BlockPlace). IsPartAt es x.handle b) one (subst (λ (v : List Entry). IsPartAt es at.handle v) (sym value) (right (ap (λ (x : BlockPlace). x.file) one ∙ is)))

pub either : {T E : Type 0} (r : Result T E) (P Q : Type 0) → OnOk r P → OnErr r Q → P ⊎ Q
either (Ok x) P Q p q = inl p
either (Err e) P Q p q = inr q

-- a cache without blocks
pub none_holds : (number : ℕ) (es : List Entry) (cache : BlockCache) → HoldsNone cache → HoldsBlocks number es cache
none_holds number es cache none place block has is = absurd (Contains-nil (place, block) (subst (λ (xs : List (BlockPlace × List Entry)). Contains xs (place, block)) none has))

pub handle_same : (x y : BlockHandle) → (nat_eq x.offset y.offset && nat_eq x.size y.size) ≡ true → x ≡ y
handle_same x y h =
    let p = and_parts (nat_eq x.offset y.offset) (nat_eq x.size y.size) h in
    let a : x.offset ≡ y.offset = eqb-true x.offset y.offset p.0 in
    let b : x.size ≡ y.size = eqb-true x.size y.size p.1 in
    λ i. record { offset = a i; size = b i }

pub place_same : (x y : BlockPlace) → (nat_eq x.file y.file && (nat_eq x.handle.offset y.handle.offset && nat_eq x.handle.size y.handle.size)) ≡ true → x ≡ y
place_same x y h =
    let p = and_parts (nat_eq x.file y.file) (nat_eq x.handle.offset y.handle.offset && nat_eq x.handle.size y.handle.size) h in
    let a : x.file ≡ y.file = eqb-true x.file y.file p.0 in
    let b : x.handle ≡ y.handle = handle_same x.handle y.handle p.1 in
    λ i. record { file = a i; handle = b i }

-- the block that is found under a place is the one that stands there
pub held_there : (eq : BlockPlace → BlockPlace → Bool) (same : (x y : BlockPlace) → eq x y ≡ true → x ≡ y) (es : List Entry) (cache : BlockCache) (at : BlockPlace) (block : List Entry) → HoldsBlocks at.file es cache → lookup (eq at) cache.blocks.entries ≡ Some block → IsPartAt es at.handle block
held_there eq same es cache at block holds found =
    let has = Contains-lookup (eq at) cache.blocks.entries block found in
    let one : at ≡ has.0 = same at has.0 has.2 in
    subst (λ (x : BlockPlace). IsPartAt es x.handle block) (sym one) (holds has.0 block has.1 (ap (λ (x : BlockPlace). x.file) (sym one)))

-- and shows of the key what all entries show
pub shows_there : (es : List Entry) (k : List ℕ) (handle : BlockHandle) (block : List Entry) (at : ℕ) → IsHandleFor es k handle → IsPartAt es handle block → visible block k at ≡ visible es k at
shows_there es k handle block at for is = ap (λ (part : List Entry). visible part k at) (one_part es handle block for.is.part is for.is.at) ∙ for.shows at
