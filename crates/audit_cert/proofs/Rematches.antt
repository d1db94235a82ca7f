-- Where the same authorization stays the first that matches.
use Rattle.std.proofs.Common.{◌≡◌, ℕ, zero, suc, ◌+◌, ◌-◌, ◌<◌, ◌≤◌, Bool, true, false, cond, List, [], ◌∷◌, take, drop, length, Some, None, refl, sym, ap, ◌∙◌, arith, eqb, add-one}
use Rattle.std.specs.Prelude.{◌&&◌, find, remove, slice_get, option_and_then}
use Rattle.std.specs.declared.option.Option.{Option}
use Rattle.std.specs.Option.{option_map_or}
use Rattle.std.specs.List.{list_any}
use Rattle.std.proofs.Math.ListN.{take-append-drop}
use Rattle.std.proofs.lemmas.Bool.{or_parts}
use Rattle.element_name.specs.Cases.{when}
use Rattle.element_name.specs.Name.{Name}
use Rattle.element_name.specs.Numbered.{put_by, without}
use Rattle.coop_request.specs.Edit.{right_of}
use Rattle.coop_request.specs.Request.{Request, user_of, element_of}
use Rattle.policy_book.specs.Lists.{has_number}
use Rattle.policy_book.specs.declared.auth.Auth.{Auth}
use Rattle.policy_book.specs.declared.auth.UserSet.{UserSet}
use Rattle.policy_book.specs.declared.auth.UserSet.TheVariants.{All, Listed, Groups}
use Rattle.policy_book.specs.declared.op.AdminOp.{AdminOp}
use Rattle.policy_book.specs.declared.op.AdminOp.TheVariants.{AddUser, DelUser, AddObj, DelObj, AddGroup, DelGroup, AddMember, DelMember, AddAuth, DelAuth, Validate}
use Rattle.policy_book.specs.declared.parts.NumberedAuth.{NumberedAuth}
use Rattle.policy_book.specs.declared.reach.Reach.TheVariants.{Everyone}
use Rattle.policy_book.specs.Entry.{Entry}
use Rattle.policy_book.specs.Policy.{Policy, policy_after, is_user}
use Rattle.policy_book.specs.Reach.{reach_of_users, is_reached}
use Rattle.auth_match.specs.declared.verdict.Verdict.TheVariants.{Granted}
use Rattle.auth_match.specs.Requests.{request_verdict}
use Rattle.auth_match.specs.Verdict.{matches, has_user, has_right, object_covers}
use Rattle.auth_match.proofs.FirstMatches.{find_same, outcome, more_off, less_off}
use Rattle.auth_match.proofs.ReachCases.{put_other, without_other}
use Rattle.admin_log.specs.Log.{policy_at, entry_at}
use Rattle.check_remote.specs.State.{verdict_at}
use Rattle.check_remote.proofs.Walks.{entry_next, no_next, next_policy}
use Rattle.admin_log.specs.declared.version_table.VersionTable.{VersionTable}
use Rattle.admin_log.specs.VersionTable.{is_noted}
use Rattle.audit_cert.specs.Grants.{granting_auth, granting_at}
use Rattle.audit_cert.specs.Rematches.{rematch_reach, may_rematch_at, IsRematchTable}

-- a user outside a list of one
outside_one : (v u : ℕ) → has_number (v ∷ []) u ≡ false → eqb v u ≡ false
outside_one v u out = (or_parts (eqb v u) false out).0

-- ---- the first that matches

module _ (names : List Name) (p : Policy) (version : ℕ) (q : Request) where
  -- whether an authorization matches the access of the request, by a policy
  abbrev matching : Policy → NumberedAuth → Bool
  matching p a = matches names p (user_of q) (right_of q.edit) (element_of q) a.auth

  -- a policy with other users matches alike, where the user is one of both or of none
  same_users : (users : List ℕ) → has_number users (user_of q) ≡ is_user p (user_of q)
      → find (matching (record p { users = users })) p.auths ≡ find (matching p) p.auths
  same_users users same =
      find_same (matching (record p { users = users })) (matching p)
      (λ a. ap (λ b. (b && has_user p a.auth.users (user_of q)) && (has_right a.auth.rights (right_of q.edit) && list_any (object_covers names p (element_of q)) a.auth.objects)) same)
      p.auths

  -- one that is of others doesn't match
  of_others : (auth : Auth) → is_reached (reach_of_users auth.users) (user_of q) ≡ false → matches names p (user_of q) (right_of q.edit) (element_of q) auth ≡ false
  of_others auth out = rw (others auth.users out) (neither (is_user p (user_of q)) (has_right auth.rights (right_of q.edit) && list_any (object_covers names p (element_of q)) auth.objects))
    where
      others : (set : UserSet) → is_reached (reach_of_users set) (user_of q) ≡ false → has_user p set (user_of q) ≡ false
      others All h = absurd (cc)
      others (Listed users) h = h
      others (Groups groups) h = absurd (cc)

      neither : (b c : Bool) → ((b && false) && c) ≡ false
      neither true c = refl
      neither false c = refl

  removed : (place : ℕ) (there : Option NumberedAuth) → slice_get p.auths place ≡ there
      → is_reached (option_map_or (λ a. reach_of_users a.auth.users) there Everyone) (user_of q) ≡ false
      → find (matching p) (remove p.auths place) ≡ find (matching p) p.auths
  removed place None is out = absurd (cc)
  removed place (Some a) is out = less_off (matching p) p.auths place a is (of_others a.auth out)

  first_kept : (op : AdminOp) → is_reached (rematch_reach p op) (user_of q) ≡ false → find (matching (policy_after p version op)) (policy_after p version op).auths ≡ find (matching p) p.auths
  first_kept (AddUser v) out = same_users (put_by (λ n. n) v p.users) (put_other v (user_of q) p.users (outside_one v (user_of q) out))
  first_kept (DelUser v) out = same_users (without (λ n. n) v p.users) (without_other v (user_of q) p.users (outside_one v (user_of q) out))
  first_kept (AddObj n extent) out = absurd (cc)
  first_kept (DelObj n) out = absurd (cc)
  first_kept (AddGroup g) out = absurd (cc)
  first_kept (DelGroup g) out = absurd (cc)
  first_kept (AddMember g v) out = absurd (cc)
  first_kept (DelMember g v) out = absurd (cc)
  first_kept (AddAuth place auth) out =
      more_off (matching p) (take place p.auths) (record { number = version; auth = auth }) (drop place p.auths) (of_others auth out)
      ∙ ap (find (matching p)) (take-append-drop place p.auths)
  first_kept (DelAuth place) out = removed place (slice_get p.auths place) refl out
  first_kept (Validate request) out = refl

  granting_kept : (op : AdminOp) → is_reached (rematch_reach p op) (user_of q) ≡ false → granting_auth names (policy_after p version op) q ≡ granting_auth names p q
  granting_kept op out = ap (option_and_then (λ (a : NumberedAuth). when a.auth.grant a.number)) (first_kept op out)

  verdict_kept : (op : AdminOp) → is_reached (rematch_reach p op) (user_of q) ≡ false → request_verdict names (policy_after p version op) q ≡ request_verdict names p q
  verdict_kept op out = ap (λ (o : Option NumberedAuth). cond (eqb (user_of q) 0) Granted (outcome o)) (first_kept op out)

-- ---- from a version to the next

module _ (names : List Name) (log : List Entry) (q : Request) (v : ℕ) (there : v < length log) (out : may_rematch_at log (v + 1) (user_of q) ≡ false) where
  -- what the policy of a version says of the request, where the same that the one before says
  kept : {A : Type 0} (f : Policy → A) → ((e : Entry) → is_reached (rematch_reach (policy_at log v) e.op) (user_of q) ≡ false → f (policy_after (policy_at log v) e.version e.op) ≡ f (policy_at log v))
      → f (policy_at log (v + 1)) ≡ f (policy_at log v)
  kept f same = by (entry_at log (v + 1)) refl
    where
      by : (e : Option Entry) → entry_at log (v + 1) ≡ e → f (policy_at log (v + 1)) ≡ f (policy_at log v)
      by None is = absurd (no_next log v there is)
      by (Some e) is =
          let so : option_map_or (λ (d : Entry). is_reached (rematch_reach (policy_at log v) d.op) (user_of q)) (slice_get log v) false ≡ false = sym (ap (λ n. may_rematch_at log n (user_of q)) (add-one v)) ∙ out in
          let at : slice_get log v ≡ Some e = sym (entry_next log v) ∙ is in
          ap f (next_policy log v e is)
          ∙ same e (sym (ap (λ (o : Option Entry). option_map_or (λ (d : Entry). is_reached (rematch_reach (policy_at log v) d.op) (user_of q)) o false) at) ∙ so)

  granting_next : granting_at names log q (v + 1) ≡ granting_at names log q v
  granting_next = kept (λ (p : Policy). granting_auth names p q) (λ e. granting_kept names (policy_at log v) e.version q e.op)

  verdict_next : verdict_at names log q (v + 1) ≡ verdict_at names log q v
  verdict_next = kept (λ (p : Policy). request_verdict names p q) (λ e. verdict_kept names (policy_at log v) e.version q e.op)

-- ---- up to the next version in the table

-- what each version up to the end says as the one before it, the first says too
same_up_to : {A : Type 0} (f : ℕ → A) (a end : ℕ) → ((v : ℕ) → a ≤ v → v + 1 < end → f (v + 1) ≡ f v) → (n : ℕ) → a + n < end → f (a + n) ≡ f a
same_up_to f a end same zero lt = ap f (let e : a + 0 ≡ a = omega arith in e)
same_up_to f a end same (suc n) lt =
    let e : a + suc n ≡ a + n + 1 = omega arith in
    ap f e ∙ same (a + n) (omega arith) (omega (arith, lt, e)) ∙ same_up_to f a end same n (omega (arith, lt, e))

module _ (names : List Name) (log : List Entry) (q : Request) (table : VersionTable) (is : IsRematchTable log table) (a next : ℕ) (within : next ≤ length log + 1)
    (none : (v : ℕ) → a + 1 ≤ v → v < next → is_noted table v (user_of q) ≡ false) where
  quiet : (v : ℕ) → a ≤ v → v + 1 < next → may_rematch_at log (v + 1) (user_of q) ≡ false
  quiet v low high = sym (is (v + 1) (user_of q)) ∙ none (v + 1) (omega (arith, low)) high

  pub granting_between : (v : ℕ) → a ≤ v → v < next → granting_at names log q v ≡ granting_at names log q a
  granting_between v low high =
      let e : a + (v - a) ≡ v = omega (arith, low) in
      ap (granting_at names log q) (sym e)
      ∙ same_up_to (granting_at names log q) a next (λ w l h. granting_next names log q w (omega (arith, h, within)) (quiet w l h)) (v - a) (omega (arith, e, high))

  pub verdict_between : (v : ℕ) → a ≤ v → v < next → verdict_at names log q v ≡ verdict_at names log q a
  verdict_between v low high =
      let e : a + (v - a) ≡ v = omega (arith, low) in
      ap (verdict_at names log q) (sym e)
      ∙ same_up_to (verdict_at names log q) a next (λ w l h. verdict_next names log q w (omega (arith, h, within)) (quiet w l h)) (v - a) (omega (arith, e, high))
