use Rattle.std.proofs.Common.{ℕ, List, refl, sym, subst}
use Rattle.lsm_edit.specs.declared.file.FileMeta.{FileMeta}
use Rattle.lsm_edit.specs.Edit.{AreAdded, AreRemoved}
use Rattle.lsm_edit.proofs.edit.Edit.is_valid.Goals as goal

pub returns : goal.returns
returns c =
    let numbers = c.if-not-has_valid_numbers.ensures.numbers.0 refl in (
      λ yes. record {
        first = numbers.0.0;
        last = numbers.0.1;
        flushed = c.has_valid_numbers.ensures.flushed;
        some_epoch = numbers.1.0;
        epoch = numbers.1.1;
        some_file = numbers.2.0;
        next_file = numbers.2.1;
        removed = subst (λ (ns : List ℕ). AreRemoved c.args.self.now.kind ns) c.as_slice.ensures (c.if-not-are_removed.ensures.0 refl);
        added = subst (λ (fs : List FileMeta). AreAdded c.args.self.now.kind fs) c.as_slice-2.ensures (c.are_added.ensures.0 yes);
      },
      λ is. c.are_added.ensures.1 (subst (λ (fs : List FileMeta). AreAdded c.args.self.now.kind fs) (sym c.as_slice-2.ensures) is.added),
    )
