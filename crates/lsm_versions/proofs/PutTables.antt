-- The tables of a vault after some are put or removed.
use Rattle.std.proofs.Common.{◌≡◌, ℕ, ◌≤◌, Bool, cond, List, [], ◌∷◌, None, Some, Result, Ok, Err, OnOk, OnErr, refl, sym, ap, subst, ◌∙◌, inl, inr, arith}
use Rattle.std.specs.FinMap.{get, get-insert, get-remove, insert, remove}
use Rattle.std.specs.Cmp.{nat_cmp_total, eq_by_cmp_equiv}
use Rattle.std.proofs.lemmas.Bool.{cases_eq}
use Rattle.lsm_key.specs.Sets.{IsIn}
use Rattle.lsm_edit.specs.declared.file.FileMeta.{FileMeta}
use Rattle.lsm_edit.specs.declared.served.Placed.{Placed}
use Rattle.lsm_edit.specs.Version.{FileNumbersRise}
use Rattle.lsm_table.specs.Tables.{Opened}
use Rattle.lsm_edit.specs.Served.{placed_of}
use Rattle.lsm_edit.proofs.PlacesInOrder.{placed_meta}
use Rattle.lsm_vault.specs.Failures.{CountsFailures}
use Rattle.lsm_vault.specs.declared.error.VaultError.{VaultError}
use Rattle.lsm_vault.specs.declared.error.VaultError.TheVariants.{Device, OutOfMemory}
use Rattle.lsm_vault.specs.Stored.{TableMap, VaultValue}
use Rattle.lsm_vault.proofs.Restoring.{tied-not}
use Rattle.lsm_versions.specs.declared.putting.NumberedTable.{NumberedTable}
use Rattle.lsm_versions.specs.Kept.{IsTableOf, MayHavePutSome, MayHaveRemoved, StaysApart, put_tables}
use Rattle.lsm_versions.specs.Putting.{IsTableToPut, numbered_tables, put_numbered}

-- another number keeps its table
pub put_other : (kept : TableMap) (k : ℕ) (bytes : List ℕ) (q : ℕ) → (q ≡ k → ⊥) → get (insert kept k bytes) q ≡ get kept q
put_other kept k bytes q ne = get-insert nat_cmp_total kept k bytes q ∙ ap (λ (b : Bool). cond b (Some bytes) (get kept q)) (tied-not q k ne)

-- the number has the table
pub put_same : (kept : TableMap) (k : ℕ) (bytes : List ℕ) → get (insert kept k bytes) k ≡ Some bytes
put_same kept k bytes = get-insert nat_cmp_total kept k bytes k ∙ ap (λ (b : Bool). cond b (Some bytes) (get kept k)) ((eq_by_cmp_equiv nat_cmp_total).refl k)

-- ---- one table more of some files

pub placed_none : (fs : List FileMeta) → placed_of fs [] ≡ []
placed_none [] = refl
placed_none (f ∷ fs) = refl

-- one that may be put
pub one_put : (MayPut : ℕ → List ℕ → Type 0) (old before : TableMap) (k : ℕ) (bytes : List ℕ) → MayPut k bytes → MayHavePutSome MayPut old before → MayHavePutSome MayPut old (insert before k bytes)
one_put MayPut old before k bytes may some = λ q. elim (cases_eq q k) [
  | inl same ↦ inr (bytes, subst (λ (i : ℕ). MayPut i bytes) (sym same) may, subst (λ (i : ℕ). get (insert before k bytes) i ≡ Some bytes) (sym same) (put_same before k bytes))
  | inr other ↦ elim (some q) [
    | inl stays ↦ inl (put_other before k bytes q other ∙ stays)
    | inr put ↦ inr (put.0, put.1, put_other before k bytes q other ∙ put.2)
  ]
]

-- those that are put are the files' tables
pub numbered_of : (ps : List Placed) (n : ℕ) (bytes : List ℕ) → IsTableToPut (numbered_tables ps) n bytes → IsTableOf ps n bytes
numbered_of [] n bytes m = absurd m
numbered_of (p ∷ ps) n bytes m = elim m [
  | inl same ↦ (p, inl refl, ap (λ (t : NumberedTable). t.number) (sym same), ap (λ (t : NumberedTable). t.bytes) (sym same))
  | inr later ↦ let at = numbered_of ps n bytes later in (at.0, inr at.1, at.2, at.3)
]

pub files_put : (fs : List FileMeta) (ts : List Opened) (numbered : List NumberedTable) (old new : TableMap) → numbered ≡ numbered_tables (placed_of fs ts) → MayHavePutSome (IsTableToPut numbered) old new → MayHavePutSome (IsTableOf (placed_of fs ts)) old new
files_put fs ts numbered old new is some n = elim (some n) [
  | inl stays ↦ inl stays
  | inr put ↦ inr (put.0, numbered_of (placed_of fs ts) n put.0 (subst (λ (all : List NumberedTable). IsTableToPut all n put.0) is put.1), put.2)
]

-- and a number of no file keeps its table
pub put_apart : (fs : List FileMeta) (ts : List Opened) (old new : TableMap) → MayHavePutSome (IsTableOf (placed_of fs ts)) old new → StaysApart fs old new
put_apart fs ts old new some n apart = elim (some n) [
  | inl stays ↦ stays
  | inr put ↦ absurd (apart put.1.0.meta (placed_meta fs ts put.1.0 put.1.1) put.1.2)
]

pub put_numbered_is : (ps : List Placed) (kept : TableMap) → put_numbered kept (numbered_tables ps) ≡ put_tables kept ps
put_numbered_is [] kept = refl
put_numbered_is (p ∷ ps) kept = put_numbered_is ps (insert kept p.meta.number p.table.bytes)

-- ---- all tables of some files

-- a number of none of the files keeps its table
pub put_none : (ps : List Placed) (kept : TableMap) (n : ℕ) → ((p : Placed) → IsIn p ps → p.meta.number ≡ n → ⊥) → get (put_tables kept ps) n ≡ get kept n
put_none [] kept n apart = refl
put_none (p ∷ ps) kept n apart = put_none ps (insert kept p.meta.number p.table.bytes) n (λ q m. apart q (inr m)) ∙ put_other kept p.meta.number p.table.bytes n (λ (same : n ≡ p.meta.number). apart p (inl refl) (sym same))

-- each file's number has its table
pub put_each_table : (fs : List FileMeta) (ts : List Opened) (kept : TableMap) → FileNumbersRise fs → (p : Placed) → IsIn p (placed_of fs ts) → get (put_tables kept (placed_of fs ts)) p.meta.number ≡ Some p.table.bytes
put_each_table [] ts kept rise p m = absurd m
put_each_table (f ∷ fs) [] kept rise p m = absurd m
put_each_table (f ∷ fs) (t ∷ ts) kept rise p (inl first) =
    subst (λ (q : Placed). get (put_tables (insert kept f.number t.bytes) (placed_of fs ts)) q.meta.number ≡ Some q.table.bytes) (sym first)
    (put_none (placed_of fs ts) (insert kept f.number t.bytes) f.number (λ q n (same : q.meta.number ≡ f.number). let lt = rise.0 q.meta (placed_meta fs ts q n) in absurd (omega (arith, lt, same))) ∙ put_same kept f.number t.bytes)
put_each_table (f ∷ fs) (t ∷ ts) kept rise p (inr later) = put_each_table fs ts (insert kept f.number t.bytes) rise.1 p later

-- ---- tables removed

removed_other : (kept : TableMap) (k q : ℕ) → (q ≡ k → ⊥) → get (remove kept k) q ≡ get kept q
removed_other kept k q ne = get-remove nat_cmp_total kept k q ∙ ap (λ (b : Bool). cond b None (get kept q)) (tied-not q k ne)

removed_same : (kept : TableMap) (k : ℕ) → get (remove kept k) k ≡ None
removed_same kept k = get-remove nat_cmp_total kept k k ∙ ap (λ (b : Bool). cond b None (get kept k)) ((eq_by_cmp_equiv nat_cmp_total).refl k)

-- one of the numbers more was to be removed
pub removed_too : {T E : Type 0} (r : Result T E) (numbers : List ℕ) (old : TableMap) (before after : VaultValue) (k : ℕ) → IsIn k numbers → OnOk r (after ≡ record before { tables = remove before.tables k }) → OnErr r (after ≡ before) → MayHaveRemoved numbers old before.tables → MayHaveRemoved numbers old after.tables
removed_too (Err e) numbers old before after k m ok err may = subst (λ (v : VaultValue). MayHaveRemoved numbers old v.tables) (sym err) may
removed_too (Ok x) numbers old before after k m ok err may = subst (λ (v : VaultValue). MayHaveRemoved numbers old v.tables) (sym ok) (λ q. elim (cases_eq q k) [
  | inl same ↦ inr (subst (λ (i : ℕ). IsIn i numbers) (sym same) m, subst (λ (i : ℕ). get (remove before.tables k) i ≡ None) (sym same) (removed_same before.tables k))
  | inr other ↦ elim (may q) [
    | inl stays ↦ inl (removed_other before.tables k q other ∙ stays)
    | inr gone ↦ inr (gone.0, removed_other before.tables k q other ∙ gone.1)
  ]
])

-- the count of failures never falls
pub never_falls : {T : Type 0} (r : Result T VaultError) (before after : ℕ) → CountsFailures r before after → before ≤ after
never_falls (Ok x) before after counted = counted
never_falls (Err Device) before after counted = omega arith
never_falls (Err OutOfMemory) before after counted = counted
