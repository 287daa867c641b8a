-- A snapshot reads what it read before, for as long as it lives.
use Rattle.std.proofs.Common.{◌≡◌, ℕ, ◌+◌, ◌≤◌, ◌<◌, List, [], ◌∷◌, ◌++◌, Option, None, Some, refl, sym, ap, subst, ◌∙◌, inl, inr, ◌⊎◌, arith, Bool, true, false, not, length, take, filter, is_none, nat_eq, ◌&&◌, length-append}
use Rattle.std.specs.Bool.{if◌then◌else◌}
use Rattle.std.specs.Option.{unwrap_or, option_and_then}
use Rattle.std.proofs.lemmas.Bool.{eqb-true}
use Rattle.std.proofs.lemmas.List.{take-append-le}
use Rattle.std.proofs.lemmas.Option.{same_Some}
use Rattle.lsm_key.specs.declared.op.Op.{Op}
use Rattle.lsm_key.specs.Sets.{IsIn}
use Rattle.lsm_key.specs.Writes.{answer, last_write, value_of}
use Rattle.lsm_coord.specs.Model.State.{State, last_seq, same_snapshot_id, snapshot_at, first_state}
use Rattle.lsm_coord.specs.declared.snapshot.SnapId.{SnapId}
use Rattle.lsm_coord.specs.declared.snapshot.Snapshot.{Snapshot}
use Rattle.lsm_coord.specs.Model.Event.{Event, Reply}
use Rattle.lsm_coord.specs.Model.Event as say
use Rattle.lsm_coord.specs.Model.Changes.{next_snapshot}
use Rattle.lsm_coord.specs.Model.Step.{Step}
use Rattle.lsm_coord.specs.Model.Run.{Run}
use Rattle.lsm_coord.specs.Model.Laws.{SnapshotsAgree}
use Rattle.lsm_coord.proofs.RunInvariants.{same_step}
use Rattle.lsm_coord.proofs.SnapshotEffects.{Effect, Goes, stays, snapped, released, fell, rose, effect}

-- ---- lists of snapshots

none_is_some : (p : ℕ) → None ≡ Some p → ⊥
none_is_some p h = absurd cc

true_is_false : true ≡ false → ⊥
true_is_false h = absurd cc

one_id : (a b : SnapId) → a.epoch ≡ b.epoch → a.number ≡ b.number → a ≡ b
one_id a b e f = ap (λ n. record { epoch = n; number = a.number }) e ∙ ap (λ n. record { epoch = b.epoch; number = n }) f

both : (a b : Bool) → (a && b) ≡ true → (a ≡ true) × (b ≡ true)
both true b h = (refl, h)
both false b h = absurd cc

id_of : (a b : SnapId) → same_snapshot_id a b ≡ true → (a.epoch ≡ b.epoch) × (a.number ≡ b.number)
id_of a b h =
    let x = both (nat_eq a.epoch b.epoch) (nat_eq a.number b.number) h in
    (eqb-true a.epoch b.epoch x.0, eqb-true a.number b.number x.1)

pick : (b : Bool) (x : ℕ) (y : Option ℕ) (p : ℕ) → (if b then Some x else y) ≡ Some p → ((b ≡ true) × (x ≡ p)) ⊎ ((b ≡ false) × (y ≡ Some p))
pick true x y p h = inl (refl, same_Some x p h)
pick false x y p h = inr (refl, h)

-- a live one was live before, or is the one that was added
at_added : (ss : List Snapshot) (x : Snapshot) (id : SnapId) (p : ℕ) → snapshot_at (ss ++ x ∷ []) id ≡ Some p → snapshot_at ss id ≡ Some p ⊎ ((same_snapshot_id x.id id ≡ true) × (x.at ≡ p))
at_added [] x id p h = elim (pick (same_snapshot_id x.id id) x.at None p h) [ inl a ↦ inr a | inr b ↦ absurd (none_is_some p b.1) ]
at_added (s ∷ ss) x id p h =
    elim (pick (same_snapshot_id s.id id) s.at (snapshot_at (ss ++ x ∷ []) id) p h) [
      | inl a ↦ inl (rw a.0 (ap Some a.1))
      | inr b ↦ elim (at_added ss x id p b.1) [ inl c ↦ inl (rw b.0 c) | inr d ↦ inr d ]
    ]

-- what was taken out is there no more
gone_step : (s : Snapshot) (kept : List Snapshot) (id : SnapId) (b : Bool) → same_snapshot_id s.id id ≡ b → snapshot_at kept id ≡ None → snapshot_at (if not b then s ∷ kept else kept) id ≡ None
gone_step s kept id true e h = h
gone_step s kept id false e h = rw e h

gone : (ss : List Snapshot) (id : SnapId) → snapshot_at (filter (λ live. not (same_snapshot_id live.id id)) ss) id ≡ None
gone [] id = refl
gone (s ∷ ss) id = gone_step s (filter (λ live. not (same_snapshot_id live.id id)) ss) id (same_snapshot_id s.id id) refl (gone ss id)

kept_or : (c : Bool) (x : ℕ) (y z : Option ℕ) (p : ℕ) → (c ≡ true → z ≡ None) → (z ≡ Some p → y ≡ Some p) → z ≡ Some p → (if c then Some x else y) ≡ Some p
kept_or true x y z p absent old h = absurd (none_is_some p (sym (absent refl) ∙ h))
kept_or false x y z p absent old h = old h

removed_step : (s : Snapshot) (kept ss : List Snapshot) (id : SnapId) (p : ℕ) (b : Bool) → (b ≡ true → same_snapshot_id s.id id ≡ true → snapshot_at kept id ≡ None) → (snapshot_at kept id ≡ Some p → snapshot_at ss id ≡ Some p) → snapshot_at (if not b then s ∷ kept else kept) id ≡ Some p → snapshot_at (s ∷ ss) id ≡ Some p
removed_step s kept ss id p true absent old h = kept_or (same_snapshot_id s.id id) s.at (snapshot_at ss id) (snapshot_at kept id) p (absent refl) old h
removed_step s kept ss id p false absent old h =
    elim (pick (same_snapshot_id s.id id) s.at (snapshot_at kept id) p h) [
      | inl a ↦ rw a.0 (ap Some a.1)
      | inr b ↦ rw b.0 (old b.1)
    ]

-- what is left was there
at_removed : (ss : List Snapshot) (out id : SnapId) (p : ℕ) → snapshot_at (filter (λ live. not (same_snapshot_id live.id out)) ss) id ≡ Some p → snapshot_at ss id ≡ Some p
at_removed [] out id p h = absurd (none_is_some p h)
at_removed (s ∷ ss) out id p h =
    let kept = filter (λ live. not (same_snapshot_id live.id out)) ss in
    removed_step s kept ss id p (same_snapshot_id s.id out)
    (λ a b. let e = id_of s.id out a in let f = id_of s.id id b in subst (λ (i : SnapId). snapshot_at kept i ≡ None) (one_id out id (sym e.0 ∙ f.0) (sym e.1 ∙ f.1)) (gone ss out))
    (at_removed ss out id p) h

-- ---- what each state of a run of a new store has

-- no snapshot is made under this name any more
abbrev IsUsed : State → SnapId → Type 0
IsUsed s id = (id.epoch < s.epoch) ⊎ ((id.epoch ≡ s.epoch) × ((s.up ≡ false) ⊎ (id.number ≤ s.made)))

record IsLive (s : State) (id : SnapId) (p : ℕ) : Type 0 where
  used : IsUsed s id
  within : p ≤ length s.writes

abbrev Known : State → Type 0
Known s = (id : SnapId) (p : ℕ) → snapshot_at s.snapshots id ≡ Some p → IsLive s id p

used_goes : (s t : State) (more : List Op) (id : SnapId) → Goes s t more → s.made ≤ t.made → IsUsed s id → IsUsed t id
used_goes s t more id g made (inl h) = inl (let e = g.epoch in omega arith)
used_goes s t more id g made (inr (e, inl down)) = inr (e ∙ sym g.epoch, inl (g.up ∙ down))
used_goes s t more id g made (inr (e, inr n)) = inr (e ∙ sym g.epoch, inr (omega arith))

used_fallen : (s t : State) (id : SnapId) → t.up ≡ false → t.epoch ≡ s.epoch → IsUsed s id → IsUsed t id
used_fallen s t id down e (inl h) = inl (omega arith)
used_fallen s t id down e (inr h) = inr (h.0 ∙ sym e, inl down)

used_risen : (s t : State) (id : SnapId) → t.epoch ≡ s.epoch + 1 → IsUsed s id → IsUsed t id
used_risen s t id e (inl h) = inl (omega arith)
used_risen s t id e (inr h) = inl (let k = h.0 in omega arith)

step_used : (s t : State) (id : SnapId) → Effect s t → IsUsed s id → IsUsed t id
step_used s t id (stays more g a b) h = used_goes s t more id g (omega arith) h
step_used s t id (snapped up g a b) h = used_goes s t [] id g (omega arith) h
step_used s t id (released out g a b) h = used_goes s t [] id g (omega arith) h
step_used s t id (fell a b c) h = used_fallen s t id b c h
step_used s t id (rose a b) h = used_risen s t id b h

longer : (s t : State) (more : List Op) → Goes s t more → length s.writes ≤ length t.writes
longer s t more g = rw g.writes (omega (arith, length-append s.writes more))

no_live : (ss : List Snapshot) (id : SnapId) (p : ℕ) → ss ≡ [] → snapshot_at ss id ≡ Some p → ⊥
no_live ss id p e h = none_is_some p (subst (λ (x : List Snapshot). snapshot_at x id ≡ Some p) e h)

-- a live one was live before, or was made now
was_live : (s t : State) → Effect s t → (id : SnapId) (p : ℕ) → snapshot_at t.snapshots id ≡ Some p → ((more : List Op) × Goes s t more × (snapshot_at s.snapshots id ≡ Some p)) ⊎ ((s.up ≡ true) × (same_snapshot_id (next_snapshot s) id ≡ true) × (p ≡ last_seq s) × Goes s t [] × (t.made ≡ s.made + 1))
was_live s t (stays more g a b) id p h = inl (more, g, rw a at h)
was_live s t (snapped up g a b) id p h =
    elim (at_added s.snapshots (record { id = next_snapshot s; at = last_seq s }) id p (rw a at h)) [
      | inl old ↦ inl ([], g, old)
      | inr new ↦ inr (up, new.0, sym new.1, g, b)
    ]
was_live s t (released out g a b) id p h = inl ([], g, at_removed s.snapshots out id p (rw a at h))
was_live s t (fell a b c) id p h = absurd (no_live t.snapshots id p a h)
was_live s t (rose a b) id p h = absurd (no_live t.snapshots id p a h)

step_known : (s t : State) → Effect s t → Known s → Known t
step_known s t x known id p h =
    elim (was_live s t x id p h) [
      | inl (more, g, old) ↦ let k = known id p old in record { used = step_used s t id x k.used; within = let w = k.within in omega (arith, longer s t more g) }
      | inr (up, same, at, g, made) ↦
          let e = id_of (next_snapshot s) id same in
          record { used = inr (sym e.0 ∙ sym g.epoch, inr (let n = e.1 in omega arith)); within = omega (arith, longer s t [] g) }
    ]

-- ---- what a snapshot reads

-- the name is used, and its snapshot, while it lives, gives this value for the key
record Holds (s : State) (id : SnapId) (key : List ℕ) (value : Option (List ℕ)) : Type 0 where
  used : IsUsed s id
  gives : (p : ℕ) → snapshot_at s.snapshots id ≡ Some p → answer s.writes p key ≡ value

not_used : (s : State) (id : SnapId) → s.up ≡ true → same_snapshot_id (next_snapshot s) id ≡ true → IsUsed s id → ⊥
not_used s id up same (inl h) = let e = (id_of (next_snapshot s) id same).0 in omega arith
not_used s id up same (inr (e, inl down)) = absurd (true_is_false (sym up ∙ down))
not_used s id up same (inr (e, inr n)) = let k = (id_of (next_snapshot s) id same).1 in omega arith

answer_goes : (s t : State) (more : List Op) (p : ℕ) (key : List ℕ) → Goes s t more → p ≤ length s.writes → answer t.writes p key ≡ answer s.writes p key
answer_goes s t more p key g le = ap (λ (ws : List Op). option_and_then value_of (last_write ws key)) (ap (take p) g.writes ∙ take-append-le p s.writes more le)

step_holds : (s t : State) (id : SnapId) (key : List ℕ) (value : Option (List ℕ)) → Effect s t → Known s → Holds s id key value → Holds t id key value
step_holds s t id key value x known h = record {
  used = step_used s t id x h.used;
  gives = λ p live. elim (was_live s t x id p live) [
    | inl (more, g, old) ↦ answer_goes s t more p key g (known id p old).within ∙ h.gives p old
    | inr (up, same, at, g, made) ↦ absurd (not_used s id up same h.used)
  ];
}

live_where : (up : Bool) (o : Option ℕ) → (if up then (if is_none o then Some say.NoSnapshot else None) else Some say.Down) ≡ None → (p : ℕ) × (o ≡ Some p)
live_where true (Some p) h = (p, refl)
live_where true None h = absurd cc
live_where false o h = absurd cc

-- a get that was answered: its snapshot was live, and this is what it read
get_now : (s : State) (step : Event × Reply) (t : State) (id : SnapId) (key : List ℕ) (value : Option (List ℕ)) → Step s step.0 step.1 t → (say.Get key (Some id), say.Got value) ≡ step
    → (p : ℕ) × (snapshot_at s.snapshots id ≡ Some p) × (value ≡ answer s.writes p key)
get_now s step t id key value h is =
    let here = same_step s t (say.Get key (Some id), say.Got value) step is h in
    let live = live_where s.up (snapshot_at s.snapshots id) here.0 in
    (live.0, live.1, here.1.0 ∙ ap (λ (o : Option ℕ). answer s.writes (unwrap_or o 0) key) live.1)

holds_now : (s : State) (id : SnapId) (key : List ℕ) (value : Option (List ℕ)) → Known s → (p : ℕ) × (snapshot_at s.snapshots id ≡ Some p) × (value ≡ answer s.writes p key) → Holds s id key value
holds_now s id key value known (p, live, is) = record {
  used = (known id p live).used;
  gives = λ q also. ap (λ n. answer s.writes n key) (sym (same_Some p q (sym live ∙ also))) ∙ sym is;
}

run_holds : (s : State) (steps : List (Event × Reply)) (t : State) (id : SnapId) (key : List ℕ) (value other : Option (List ℕ)) → Run s steps t → Known s → Holds s id key value
    → IsIn (say.Get key (Some id), say.Got other) steps → other ≡ value
run_holds s [] t id key value other run known h i = absurd i
run_holds s ((e, r) ∷ steps) t id key value other run known h (inl i) =
    let g = get_now s (e, r) run.0 id key other run.1 i in
    g.2 ∙ h.gives g.0 g.1
run_holds s ((e, r) ∷ steps) t id key value other run known h (inr i) =
    let x = effect s e r run.0 run.1 in
    run_holds run.0 steps t id key value other run.2 (step_known s run.0 x known) (step_holds s run.0 id key value x known h) i

run_agrees : (s : State) (steps : List (Event × Reply)) (t : State) (id : SnapId) (key : List ℕ) (x y : Option (List ℕ)) → Run s steps t → Known s
    → IsIn (say.Get key (Some id), say.Got x) steps → IsIn (say.Get key (Some id), say.Got y) steps → x ≡ y
run_agrees s [] t id key x y run known a b = absurd a
run_agrees s ((e, r) ∷ steps) t id key x y run known (inl a) b =
    sym (run_holds s ((e, r) ∷ steps) t id key x y run known (holds_now s id key x known (get_now s (e, r) run.0 id key x run.1 a)) b)
run_agrees s ((e, r) ∷ steps) t id key x y run known (inr a) (inl b) =
    run_holds s ((e, r) ∷ steps) t id key y x run known (holds_now s id key y known (get_now s (e, r) run.0 id key y run.1 b)) (inr a)
run_agrees s ((e, r) ∷ steps) t id key x y run known (inr a) (inr b) =
    run_agrees run.0 steps t id key x y run.2 (step_known s run.0 (effect s e r run.0 run.1) known) a b

first_known : Known first_state
first_known id p h = absurd (none_is_some p h)

pub snapshots_agree : SnapshotsAgree
snapshots_agree steps run id key x y a b = run_agrees first_state steps run.0 id key x y run.1 first_known a b
