-- Tables that a node awaits and asks for, among the files of the history.
use Rattle.std.proofs.Common.{◌≡◌, ℕ, List, sym, ap, subst, ◌∙◌}
use Rattle.lsm_key.specs.Sets.{IsIn}
use Rattle.lsm_key.proofs.Membership.{IsIn-mapped}
use Rattle.lsm_table.specs.Tables.{IsTable}
use Rattle.lsm_table.proofs.TableContents.{table_one}
use Rattle.lsm_edit.specs.declared.file.FileMeta.{FileMeta}
use Rattle.lsm_edit.specs.declared.served.Placed.{Placed}
use Rattle.lsm_edit.specs.Served.{IsAwaited}
use Rattle.lsm_msg.specs.declared.message.Body.TheVariants as body
use Rattle.lsm_msg.specs.declared.message.Message.{Message}
use Rattle.lsm_msg.specs.declared.node.Node.{Node}
use Rattle.lsm_msg.specs.Messages.{fetches, to_coordinator}
use Rattle.lsm_world.specs.History.{AreFilesOf, History, IsFileOf, IsKnown, IsNumbered, IsTableAt}

-- ---- what is asked for

pub file_numbered : (h : History) (f : FileMeta) → IsFileOf h f → IsNumbered h f.number
file_numbered h f is = (is.0, is.1, ap (λ (g : FileMeta). g.number) is.2)

-- WHAT IS ASKED FOR IS NUMBERED.
pub fetched : (h : History) (node : Node) (fs : List FileMeta) → ((f : FileMeta) → IsIn f fs → IsNumbered h f.number) → (m : Message) → IsIn m (fetches node fs) → IsKnown h m.body
fetched h node fs all m sent =
    let f = IsIn-mapped (λ (g : FileMeta). to_coordinator node (body.Fetch g.number)) m fs sent in
    subst (λ (x : Message). IsKnown h x.body) (sym f.2) (all f.0 f.1)

-- ---- what is awaited

-- WHAT IS AWAITED IS A FILE WITH ITS TABLE: numbers name one file, and bytes have one list of entries.
pub awaited_is : (h : History) (files : AreFilesOf h) (fs : List FileMeta) → ((f : FileMeta) → IsIn f fs → IsFileOf h f) → (number : ℕ) (bytes : List ℕ) (p : Placed) → IsTableAt h number bytes → IsAwaited fs number bytes p → IsIn p h.files
awaited_is h files fs all number bytes p known awaited =
    let q = all p.meta awaited.file in
    let one : q.0 ≡ known.0 = files.one q.0 known.0 q.1 known.1 (ap (λ (f : FileMeta). f.number) q.2 ∙ awaited.number ∙ sym known.2) in
    let text : q.0.table.bytes ≡ p.table.bytes = ap (λ (x : Placed). x.table.bytes) one ∙ known.3 ∙ sym awaited.bytes in
    let is_table = subst (λ (bs : List ℕ). IsTable bs q.0.table.entries) text (files.recorded q.0 q.1).table in
    let entries = table_one p.table.bytes q.0.table.entries p.table.entries is_table awaited.recorded.table in
    subst (λ (x : Placed). IsIn x h.files) (λ i. record { meta = q.2 i; table = record { bytes = text i; entries = entries i } }) q.1
