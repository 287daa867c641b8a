-- The coordinator's answers are known.
use Rattle.std.proofs.Common.{◌≡◌, ℕ, Bool, true, false, cond, List, [], ◌∷◌, ◌++◌, Option, None, Some, refl, ap, subst, ◌∙◌, inl, inr, eqb}
use Rattle.std.specs.Option.{option_map, option_or}
use Rattle.std.proofs.lemmas.Bool.{eqb-true}
use Rattle.std.proofs.lemmas.Option.{same_Some}
use Rattle.lsm_key.specs.Sets.{IsIn}
use Rattle.lsm_table.specs.Tables.{Opened}
use Rattle.lsm_edit.specs.Served.{table_at}
use Rattle.lsm_msg.specs.declared.message.Body.{Body}
use Rattle.lsm_msg.specs.declared.message.Body.TheVariants as body
use Rattle.lsm_msg.specs.declared.message.Message.{Message}
use Rattle.lsm_msg.specs.declared.node.Node.TheVariants.{Coordinator}
use Rattle.lsm_versions.specs.declared.retired.Retired.{Retired}
use Rattle.lsm_versions.specs.Retention.{retired_at, bytes_at}
use Rattle.lsm_coord.specs.Contract.Memory.{IsFit}
use Rattle.lsm_coord.specs.Contract.Serving.{after_version, answer_message, table_body}
use Rattle.lsm_coord.specs.Contract.Value.{CoordValue}
use Rattle.lsm_coord.proofs.ServedFiles.{was_mapped}
use Rattle.lsm_store.proofs.ServedTables.{found_in}
use Rattle.lsm_world.specs.History.{History, IsKnown, IsNumbered, IsTableAt, AreFiles}
use Rattle.lsm_world.proofs.AskedVersions.{asked_known}

-- ---- answers

-- the retired file that bytes are found in
retired_in : (rs : List Retired) (n : ℕ) (bytes : List ℕ) → retired_at rs n ≡ Some bytes → (r : Retired) × IsIn r rs × (r.number ≡ n) × (r.bytes ≡ bytes)
retired_in [] n bytes h = absurd cc
retired_in (r ∷ rs) n bytes h = by (eqb r.number n) refl (retired_in rs n bytes) h
  where
    by : (t : Bool) → eqb r.number n ≡ t → (retired_at rs n ≡ Some bytes → (x : Retired) × IsIn x rs × (x.number ≡ n) × (x.bytes ≡ bytes)) → cond t (Some r.bytes) (retired_at rs n) ≡ Some bytes
        → (x : Retired) × IsIn x (r ∷ rs) × (x.number ≡ n) × (x.bytes ≡ bytes)
    by true e rest h = (r, inl refl, eqb-true r.number n e, same_Some r.bytes bytes h)
    by false e rest h = let x = rest h in (x.0, inr x.1, x.2, x.3)

module _ (h : History) (c : CoordValue) (is : AreFiles h c) (n : ℕ) where
  served_table : (o : Option Opened) (bytes : List ℕ) → table_at c.served.places n ≡ o → option_or (option_map (λ (t : Opened). t.bytes) o) (retired_at c.retired n) ≡ Some bytes → IsTableAt h n bytes
  served_table None bytes none found =
      let r = retired_in c.retired n bytes found in
      subst (λ (k : ℕ). IsTableAt h k bytes) r.2 (subst (IsTableAt h r.0.number) r.3 (is.retired r.0 r.1))
  served_table (Some t) bytes some found =
      let at = found_in c.served.places n t some in
      (at.place, is.served at.place at.member, at.number, ap (λ (x : Opened). x.bytes) at.table ∙ same_Some t.bytes bytes found)

  body_known : (o : Option (List ℕ)) → bytes_at c.served.places c.retired n ≡ o → IsNumbered h n → IsKnown h (table_body n o)
  body_known None none numbered = numbered
  body_known (Some bytes) found numbered = served_table (table_at c.served.places n) bytes refl found

-- what an ask is answered is known
asked : (h : History) (core : CoordValue) (m n : Message) (number : ℕ) → AreFiles h core → IsFit core → answer_message core n (body.Ask number) ≡ Some m → IsKnown h m.body
asked h core m n number files fit answered =
    let said = was_mapped (λ (b : Body). record { src = Coordinator; dst = n.src; body = b }) (after_version core number) m answered in
    subst (λ (x : Message). IsKnown h x.body) said.2 (asked_known h core files fit number said.0 said.1).0

-- WHAT THE COORDINATOR ANSWERS IS KNOWN.
pub answer_known : (h : History) (core : CoordValue) (asked_by m : Message) → AreFiles h core → IsFit core → IsKnown h asked_by.body → answer_message core asked_by asked_by.body ≡ Some m → IsKnown h m.body
answer_known h core n m files fit known answered = by n.body known answered
  where
    by : (b : Body) → IsKnown h b → answer_message core n b ≡ Some m → IsKnown h m.body
    by (body.Fetch file) k e = subst (λ (x : Message). IsKnown h x.body) (same_Some _ m e) (body_known h core files file (bytes_at core.served.places core.retired file) refl k)
    by (body.Ask number) k e = asked h core m n number files fit e
    by (body.Job j) k e = absurd cc
    by (body.Table file bytes) k e = absurd cc
    by (body.Gone file) k e = absurd cc
    by (body.Result r) k e = absurd cc
    by (body.Edit d) k e = absurd cc
    by (body.Base v) k e = absurd cc
    by (body.Current number) k e = absurd cc
