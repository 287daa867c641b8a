use Rattle.std.proofs.Common.{◌≡◌, ℕ, List, refl, sym, ap, ◌∙◌}
use Rattle.lsm_key.specs.declared.entry.Entry.{Entry}
use Rattle.lsm_key.specs.declared.entry.Kind.{Kind}
use Rattle.lsm_key.specs.declared.entry.Kind.TheVariants as kind
use Rattle.lsm_key.specs.declared.op.Op.{Op}
use Rattle.lsm_key.specs.declared.op.Op.TheVariants.{Put, Delete}
use Rattle.lsm_key.specs.Places.{entry_of}
use Rattle.lsm_key.specs.Writes.{key_of}
use Rattle.lsm_edit.specs.LogRecord.{op_value}
use Rattle.lsm_mem.proofs.buckets.entry_from.Goals as goal
use Rattle.lsm_mem.proofs.buckets.entry_from.Goals.{in-Put, in-Delete}

abbrev kind_of : Op → Kind
kind_of (Put key value) = kind.Put
kind_of (Delete key) = kind.Delete

abbrev entry_with : List ℕ → ℕ → Kind → List ℕ → Entry
entry_with key seq kind value = record { ikey = record { key = key; seq = seq; kind = kind }; value = value }

entry_is : (seq : ℕ) (op : Op) → entry_with (key_of op) seq (kind_of op) (op_value op) ≡ entry_of seq op
entry_is seq (Put key value) = refl
entry_is seq (Delete key) = refl

pub returns : goal.returns
returns c =
    let op = c.args.op.now in
    let kind : c.match-op.kind ≡ kind_of op = elim c.match-op.branch [
      | in-Put w ↦ w.kind-is ∙ sym (ap kind_of w.in-Put.is)
      | in-Delete w ↦ w.kind-is ∙ sym (ap kind_of w.in-Delete.is)
    ] in
    (λ i. entry_with (c.requires.key i) c.args.seq (kind i) (c.requires.value i)) ∙ entry_is c.args.seq op
