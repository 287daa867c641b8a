-- What writes in a row leave to write. What reads and writes one after another do to known bytes is in Rattle.std.proofs.KnownBytes.
use Rattle.std.proofs.Common.{◌≡◌, ℕ, ◌+◌, ◌≤◌, List, [], ◌++◌, length, take, drop, Option, None, Some, refl, ap, sym, ◌∙◌, append-nil, arith}
use Rattle.std.specs.Io.KnownBytes.{Appends, Consumes, Keeps}
use Rattle.std.proofs.KnownBytes.{Appends-kept, Appends-nil, Appends-trans, Keeps-trans}
use Rattle.std.proofs.lemmas.List.{drop-drop, length-drop, take_all}
use Rattle.std.proofs.Math.Seq.{take-add}

-- of the bytes, what is before the rest was written
pub record IsWritten (old new : Option (List ℕ)) (bytes rest : List ℕ) : Type 0 where
  pub done : ℕ
  pub left : rest ≡ drop done bytes
  pub within : done ≤ length bytes
  pub wrote : Appends old new (take done bytes)

pub IsWritten-none : (old : Option (List ℕ)) (bytes : List ℕ) → IsWritten old old bytes bytes
IsWritten-none old bytes = record { done = 0; left = refl; within = omega arith; wrote = Appends-nil old }

pub IsWritten-more : (old mid new : Option (List ℕ)) (bytes rest after : List ℕ) (n : ℕ) → IsWritten old mid bytes rest → n ≤ length rest → Appends mid new (take n rest) → after ≡ drop n rest → IsWritten old new bytes after
IsWritten-more old mid new bytes rest after n so few more is = record {
  done = so.done + n;
  left = is ∙ ap (drop n) so.left ∙ drop-drop n so.done bytes;
  within = (let e = ap (λ (r : List ℕ). length r) so.left in omega (arith, e, length-drop so.done bytes, few, so.within));
  wrote = rw (take-add so.done n bytes) (Appends-trans old mid new (take so.done bytes) (take n (drop so.done bytes)) so.wrote (rw so.left at more));
}

pub IsWritten-kept : (old mid new : Option (List ℕ)) (bytes rest after : List ℕ) → IsWritten old mid bytes rest → Keeps mid new → after ≡ rest → IsWritten old new bytes after
IsWritten-kept old mid new bytes rest after so keeps is = record { done = so.done; left = is ∙ so.left; within = so.within; wrote = Appends-kept old mid new (take so.done bytes) so.wrote keeps }

-- with nothing left all is written
pub IsWritten-all : (old new : Option (List ℕ)) (bytes rest : List ℕ) → IsWritten old new bytes rest → length rest ≡ 0 → Appends old new bytes
IsWritten-all old new bytes rest so none =
    let e : length rest ≡ length (drop so.done bytes) = ap (λ (r : List ℕ). length r) so.left in
    let end : length bytes ≤ so.done = omega (arith, e, length-drop so.done bytes, none) in
    rw (take_all so.done bytes end) at so.wrote

-- ---- calls that were interrupted before

pub kept_twice : (a b c : Option (List ℕ)) → Keeps a b → Keeps b c → Keeps a c
kept_twice a b c = Keeps-trans a b c

pub kept_consumes : (a b c : Option (List ℕ)) (bs : List ℕ) → Keeps a b → Consumes b c bs → Consumes a c bs
kept_consumes None b c bs p q = tt
kept_consumes (Some x) None c bs p q = absurd p
kept_consumes (Some x) (Some y) None bs p q = absurd q
kept_consumes (Some x) (Some y) (Some z) bs p q = sym p ∙ q

pub kept_appends : (a b c : Option (List ℕ)) (bs : List ℕ) → Keeps a b → Appends b c bs → Appends a c bs
kept_appends None b c bs p q = tt
kept_appends (Some x) None c bs p q = absurd p
kept_appends (Some x) (Some y) None bs p q = absurd q
kept_appends (Some x) (Some y) (Some z) bs p q = q ∙ ap (λ (l : List ℕ). l ++ bs) p

-- a write that takes nothing
pub kept_none : (a b c : Option (List ℕ)) → Keeps a b → Appends b c [] → Keeps a c
kept_none None b c p q = tt
kept_none (Some x) None c p q = absurd p
kept_none (Some x) (Some y) None p q = absurd q
kept_none (Some x) (Some y) (Some z) p q = q ∙ append-nil y ∙ p
