-- What has come of the tables of a version that a follower is to move to, and what is missing.
use Rattle.std.proofs.Common.{◌≡◌, Bool, true, false, not, cond, ◌&&◌, ◌||◌, List, [], ◌∷◌, ◌++◌, Option, None, Some, IfSome, All, filter, get_or, refl, sym, ap, subst, ◌∙◌, inl, inr}
use Rattle.std.proofs.lemmas.Bool.{cases_Bool, false_from_ne_true, not-true, true≢false}
use Rattle.std.proofs.lemmas.List.{map-append}
use Rattle.std.proofs.lemmas.List.Folds.{list_any-append}
use Rattle.lsm_key.specs.Sets.{IsIn}
use Rattle.lsm_key.proofs.AscendingEntries.{IsIn-filter}
use Rattle.lsm_key.proofs.Lists.{IsIn-kept}
use Rattle.lsm_key.proofs.Membership.{IsIn-at, IsIn-map, IsIn-mapped, IsIn-append_cases}
use Rattle.lsm_edit.specs.declared.file.FileMeta.{FileMeta}
use Rattle.lsm_edit.specs.declared.served.Placed.{Placed}
use Rattle.lsm_edit.specs.File.{IsFile, same_file}
use Rattle.lsm_edit.specs.Version.{FileNumbersRise, IsVersion, VersionValue, is_listed, lacking}
use Rattle.lsm_edit.specs.Served.{AreDistinct, AreLacking, IsAsRecorded}
use Rattle.lsm_edit.proofs.ListedFiles.{in_listed, listed_in}
use Rattle.lsm_edit.proofs.VersionLaws.{rise-filter}
use Rattle.lsm_follow.specs.Followers.{FollowerValue, PendingValue, files_in, kept_for, missing_of, pending_for, received_of, with_table}
use Rattle.lsm_follow.specs.Pending.{HasReceived, IsFollower, IsPending, has_come}
use Rattle.lsm_follow.proofs.FilteredFiles.{kept_listed, neither, or_none}

-- ---- distinct places

distinct-if : (b : Bool) (p : Placed) (kept : List Placed) → ((q : Placed) → IsIn q kept → p.meta ≡ q.meta → ⊥) → AreDistinct kept → AreDistinct (cond b (p ∷ kept) kept)
distinct-if true p kept first rest = (first, rest)
distinct-if false p kept first rest = rest

distinct-filter : (test : Placed → Bool) (ps : List Placed) → AreDistinct ps → AreDistinct (filter test ps)
distinct-filter test [] once = tt
distinct-filter test (p ∷ ps) once = distinct-if (test p) p (filter test ps) (λ q m. once.0 q (IsIn-filter test q ps m).0) (distinct-filter test ps once.1)

distinct-append : (ps : List Placed) (p : Placed) → AreDistinct ps → ((q : Placed) → IsIn q ps → q.meta ≡ p.meta → ⊥) → AreDistinct (ps ++ p ∷ [])
distinct-append [] p once new = (λ q m. absurd m, tt)
distinct-append (q ∷ ps) p once new = (
  λ r m. elim (IsIn-append_cases r ps (p ∷ []) m) [
    | inl old ↦ once.0 r old
    | inr last ↦ elim last [ inl one ↦ λ e. new q (inl refl) (e ∙ ap (λ (x : Placed). x.meta) one) | inr none ↦ absurd none ]
  ],
  distinct-append ps p once.1 (λ r m. new r (inr m)),
)

module _ (served : VersionValue) (to : PendingValue) (has : HasReceived served to) where
  is_missing : (f : FileMeta) → IsIn f to.missing → IsIn f (lacking served to.target) × (is_listed (files_in to.received) f ≡ false)
  is_missing f m =
      let found = IsIn-filter (λ (g : FileMeta). not (is_listed (files_in to.received) g)) f (lacking served to.target) (subst (λ (fs : List FileMeta). IsIn f fs) has.missing m) in
      (found.0, not-true (is_listed (files_in to.received) f) found.1)

  missing_in : (f : FileMeta) → IsIn f (lacking served to.target) → is_listed (files_in to.received) f ≡ false → IsIn f to.missing
  missing_in f m new = subst (λ (fs : List FileMeta). IsIn f fs) (sym has.missing) (IsIn-kept (λ (g : FileMeta). not (is_listed (files_in to.received) g)) f (lacking served to.target) m (ap not new))

  missing_file : (f : FileMeta) → IsIn f to.missing → IsIn f to.target.files
  missing_file f m = (IsIn-filter (λ (g : FileMeta). not (is_listed served.files g)) f to.target.files (is_missing f m).0).0

  pub missing_files : IsVersion to.target → All IsFile to.missing
  missing_files ver k d lt = ver.files (get_or to.missing k d) (missing_file (get_or to.missing k d) (IsIn-at to.missing k d lt))

  pub missing_rises : IsVersion to.target → FileNumbersRise to.missing
  missing_rises ver = subst FileNumbersRise (sym has.missing) (rise-filter (λ f. not (is_listed (files_in to.received) f)) (lacking served to.target) (rise-filter (λ f. not (is_listed served.files f)) to.target.files ver.rising))

  -- a file that is not served has come if the version lists it and it is not missing
  pub come_is : (f : FileMeta) → is_listed served.files f ≡ false → (is_listed to.target.files f && not (is_listed to.missing f)) ≡ is_listed (files_in to.received) f
  come_is f new = elim (cases_Bool (is_listed (files_in to.received) f)) [
    | inl come ↦
        let p = IsIn-mapped (λ (q : Placed). q.meta) f to.received (listed_in (files_in to.received) f come) in
        let listed = (IsIn-filter (λ (g : FileMeta). not (is_listed served.files g)) p.0.meta to.target.files (has.lacked p.0 p.1)).0 in
        let there : is_listed to.target.files f ≡ true = in_listed to.target.files f (subst (λ (g : FileMeta). IsIn g to.target.files) (sym p.2) listed) in
        let found : is_listed to.missing f ≡ false = false_from_ne_true (is_listed to.missing f) (λ h. true≢false (sym come ∙ (is_missing f (listed_in to.missing f h)).1)) in
        ap (λ (b : Bool). b && not (is_listed to.missing f)) there ∙ ap not found ∙ sym come
    | inr free ↦ elim (cases_Bool (is_listed to.target.files f)) [
      | inl there ↦
          let m = missing_in f (IsIn-kept (λ (g : FileMeta). not (is_listed served.files g)) f to.target.files (listed_in to.target.files f there) (ap not new)) free in
          ap (λ (b : Bool). b && not (is_listed to.missing f)) there ∙ ap not (in_listed to.missing f m) ∙ sym free
      | inr other ↦ ap (λ (b : Bool). b && not (is_listed to.missing f)) other ∙ sym free
    ]
  ]

  -- if none is missing, the tables of all files that the served version lacks have come
  pub all_come : to.missing ≡ [] → AreLacking served to.target to.received
  all_come none = record {
    recorded = has.recorded;
    files = λ f. (
      λ m. let p = IsIn-mapped (λ (q : Placed). q.meta) f to.received m in subst (λ (g : FileMeta). IsIn g (lacking served to.target)) (sym p.2) (has.lacked p.0 p.1),
      λ m. elim (cases_Bool (is_listed (files_in to.received) f)) [
        | inl come ↦ listed_in (files_in to.received) f come
        | inr free ↦ absurd (subst (λ (fs : List FileMeta). IsIn f fs) none (missing_in f m free))
      ],
    );
    once = has.once;
  }

  -- one table more
  pub received_more : (p : Placed) → IsIn p.meta to.missing → IsAsRecorded p.meta p.table → HasReceived served (with_table p to)
  received_more p m recorded =
      let was = is_missing p.meta m in
      record {
        recorded = λ q n. elim (IsIn-append_cases q to.received (p ∷ []) n) [
          | inl old ↦ has.recorded q old
          | inr last ↦ elim last [ inl one ↦ subst (λ (x : Placed). IsAsRecorded x.meta x.table) (sym one) recorded | inr none ↦ absurd none ]
        ];
        lacked = λ q n. elim (IsIn-append_cases q to.received (p ∷ []) n) [
          | inl old ↦ has.lacked q old
          | inr last ↦ elim last [ inl one ↦ subst (λ (x : Placed). IsIn x.meta (lacking served to.target)) (sym one) was.0 | inr none ↦ absurd none ]
        ];
        once = distinct-append to.received p has.once (λ q n e.
            true≢false (sym (in_listed (files_in to.received) p.meta (subst (λ (f : FileMeta). IsIn f (files_in to.received)) e (IsIn-map (λ (x : Placed). x.meta) q to.received n))) ∙ was.1));
        missing =
            ap (filter (λ f. not (same_file f p.meta))) has.missing
            ∙ sym (neither (is_listed (files_in to.received)) (λ f. is_listed (p.meta ∷ []) f) (λ f. same_file f p.meta) (lacking served to.target) (λ f n new. or_none (same_file f p.meta)))
            ∙ ap (λ (test : FileMeta → Bool). filter (λ f. not (test f)) (lacking served to.target)) (λ i f. sym (ap (λ (fs : List FileMeta). is_listed fs f) (map-append (λ (x : Placed). x.meta) to.received (p ∷ [])) ∙ list_any-append (same_file f) (files_in to.received) (p.meta ∷ [])) i);
      }

-- ---- another version in place of any other

-- what a follower keeps of the version that it is to move to
pub is_of : (f : FollowerValue) → IsFollower f → (to : PendingValue) → f.pending ≡ Some to → IsPending f.served.version to
is_of f is to seen = subst (λ (o : Option PendingValue). IfSome o (IsPending f.served.version)) seen is

module _ (f : FollowerValue) (is : IsFollower f) (target : VersionValue) where
  kept_has : (o : Option PendingValue) → IfSome o (IsPending f.served.version) → HasReceived f.served.version (record { target = target; missing = missing_of f.served.version target (kept_for target o); received = kept_for target o })
  kept_has None is = record { recorded = λ p m. absurd m; lacked = λ p m. absurd m; once = tt; missing = refl }
  kept_has (Some to) is = record {
    recorded = λ p m. is.has.recorded p (IsIn-filter (λ (q : Placed). is_listed target.files q.meta) p to.received m).0;
    lacked = λ p m.
        let found = IsIn-filter (λ (q : Placed). is_listed target.files q.meta) p to.received m in
        let was = IsIn-filter (λ (g : FileMeta). not (is_listed f.served.version.files g)) p.meta to.target.files (is.has.lacked p found.0) in
        IsIn-kept (λ (g : FileMeta). not (is_listed f.served.version.files g)) p.meta target.files (listed_in target.files p.meta found.1) was.1;
    once = distinct-filter (λ q. is_listed target.files q.meta) to.received is.has.once;
    missing = refl;
  }

  pub pending_has : HasReceived f.served.version (pending_for f target)
  pending_has = kept_has f.pending is

  kept_come : (o : Option PendingValue) (g : FileMeta) → IsIn g target.files → is_listed (files_in (received_of o)) g ≡ is_listed (files_in (kept_for target o)) g
  kept_come None g m = refl
  kept_come (Some to) g m = sym (kept_listed target.files to.received g (in_listed target.files g m))

  -- a file of the version is missing if its table is neither served nor has come
  pub missing_are : filter (λ g. not (has_come f g)) target.files ≡ (pending_for f target).missing
  missing_are = neither (is_listed f.served.version.files) (is_listed (files_in (received_of f.pending))) (is_listed (files_in (kept_for target f.pending))) target.files (λ g m new. kept_come f.pending g m)

module _ (f : FollowerValue) (is : IsFollower f) where
  -- whether a file that is not served has come, by what is missing
  pub come_from : (to : PendingValue) → f.pending ≡ Some to → (g : FileMeta) → is_listed f.served.version.files g ≡ false → has_come f g ≡ (is_listed to.target.files g && not (is_listed to.missing g))
  come_from to seen g new =
      ap (λ (b : Bool). b || is_listed (files_in (received_of f.pending)) g) new
      ∙ ap (λ (o : Option PendingValue). is_listed (files_in (received_of o)) g) seen
      ∙ sym (come_is f.served.version to (is_of f is to seen).has g new)
