-- Why a batch is not made of operations (the store's own).
use Rattle.std.specs.Prelude.{◌≡◌, List, Some}
use Rattle.lsm_key.specs.declared.op.Op.{Op}
use Rattle.lsm_key.specs.Limits.{batch_fault}
use Rattle.lsm_world.specs.declared.refusal.Refusal.{Refusal}
use Rattle.lsm_world.specs.declared.refusal.Refusal.TheVariants as why

-- memory runs out, or the batch has a fault of its own
abbrev pub RefusesBatch : List Op → Refusal → Type 0
RefusesBatch ops why.OutOfMemory = Unit {0}
RefusesBatch ops (why.Key e) = batch_fault ops ≡ Some e
RefusesBatch ops w = ⊥
