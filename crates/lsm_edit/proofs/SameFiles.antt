-- File records are the same where their fields are.
use Rattle.std.proofs.Common.{◌≡◌, ap, nat_eq}
use Rattle.std.specs.Bool.{Decides}
use Rattle.std.specs.Str.{bytes_eq}
use Rattle.std.proofs.lemmas.Bool.Decides.{Decides-and, Decides-eqb, Decides-like}
use Rattle.std.proofs.lemmas.Slice.Eq.{bytes_eq-Decides}
use Rattle.lsm_edit.specs.declared.file.FileMeta.{FileMeta}
use Rattle.lsm_edit.specs.File.{same_file}

abbrev HasFieldsOf : FileMeta → FileMeta → Type 0
HasFieldsOf f g = (f.number ≡ g.number) × ((f.level ≡ g.level) × ((f.smallest ≡ g.smallest) × ((f.largest ≡ g.largest) × ((f.bytes ≡ g.bytes) × (f.entries ≡ g.entries)))))

by_fields : (f g : FileMeta) → HasFieldsOf f g → f ≡ g
by_fields f g h = λ i. record { number = h.0 i; level = h.1.0 i; smallest = h.1.1.0 i; largest = h.1.1.1.0 i; bytes = h.1.1.1.1.0 i; entries = h.1.1.1.1.1 i }

fields : (f g : FileMeta) → f ≡ g → HasFieldsOf f g
fields f g e = (
  ap (λ (x : FileMeta). x.number) e,
  (ap (λ (x : FileMeta). x.level) e, (ap (λ (x : FileMeta). x.smallest) e, (ap (λ (x : FileMeta). x.largest) e, (ap (λ (x : FileMeta). x.bytes) e, ap (λ (x : FileMeta). x.entries) e)))),
)

pub file_Decides : (f g : FileMeta) → Decides (same_file f g) (f ≡ g)
file_Decides f g =
    let sizes = Decides-and (nat_eq f.bytes g.bytes) (nat_eq f.entries g.entries) (Decides-eqb f.bytes g.bytes) (Decides-eqb f.entries g.entries) in
    let largest = Decides-and (bytes_eq f.largest g.largest) _ (bytes_eq-Decides f.largest g.largest) sizes in
    let smallest = Decides-and (bytes_eq f.smallest g.smallest) _ (bytes_eq-Decides f.smallest g.smallest) largest in
    let level = Decides-and (nat_eq f.level g.level) _ (Decides-eqb f.level g.level) smallest in
    Decides-like (same_file f g) (by_fields f g) (fields f g) (Decides-and (nat_eq f.number g.number) _ (Decides-eqb f.number g.number) level)
