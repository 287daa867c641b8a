use Rattle.std.proofs.Common.{◌≡◌, ◌++◌, ◌∙◌, ℕ, List, length, OnOk, subst}
use Rattle.std.specs.Int.{w32, w64, to_be_bytes}
use Rattle.std.proofs.lemmas.List.{append_assoc}
use Rattle.lsm_file_vault.specs.Frames.{checksum, header_of, turned}
use Rattle.lsm_file_vault.proofs.frame.write_header.Goals as goal

-- three fields behind what stands
regrouped : (out a b c : List ℕ) → ((out ++ a) ++ b) ++ c ≡ out ++ (a ++ (b ++ c))
regrouped out a b c = append_assoc (out ++ a) b c ∙ append_assoc out a (b ++ c)

pub returns-clause-ok : goal.returns-clause-ok
returns-clause-ok c =
    let len = length c.args.bytes.now in
    let whole : c.put_u32-2.new.self.items ++ to_be_bytes w64 c.checksum_of.result ≡ c.args.out.now.items ++ header_of c.args.bytes.now =
    rw (c.in_ok-put_u32-2.ensures.ok, c.in_ok-put_u32.ensures.ok, c.checksum_of.ensures)
    (regrouped c.args.out.now.items (to_be_bytes w32 len) (to_be_bytes w32 (turned len)) (to_be_bytes w64 (checksum c.args.bytes.now))) in
    subst (λ (l : List ℕ). OnOk c.put_u64.result (c.put_u64.new.self.items ≡ l)) whole c.put_u64.ensures.ok
