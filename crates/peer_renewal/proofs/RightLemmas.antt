-- Who may do what in a renewed text, `specs/Laws.antt`.
use Rattle.std.proofs.Common.{◌≡◌, ℕ, zero, suc, Bool, true, false, cond, ◌&&◌, List, [], ◌∷◌, map, find, None, Some, option_map, nat_eq, refl, ap, ap₂, sym, subst, ◌∙◌}
use Rattle.std.specs.Prelude.{slice_get}
use Rattle.std.specs.declared.option.Option.{Option}
use Rattle.std.specs.Option.{option_map_or}
use Rattle.std.specs.List.{list_any, list_all}
use Rattle.std.proofs.lemmas.Bool.{eqb-true}
use Rattle.element_name.specs.Name.{Name}
use Rattle.element_name.specs.Numbered.{find_by}
use Rattle.coop_request.specs.declared.edit.Right.{Right}
use Rattle.coop_request.specs.History.{text_order}
use Rattle.policy_book.specs.Policy.{Policy, is_user, is_member}
use Rattle.policy_book.specs.Lists.{has_number}
use Rattle.policy_book.specs.declared.parts.Object.{Object}
use Rattle.policy_book.specs.declared.parts.Group.{Group}
use Rattle.policy_book.specs.declared.parts.NumberedAuth.{NumberedAuth}
use Rattle.policy_book.specs.declared.auth.Auth.{Auth}
use Rattle.policy_book.specs.declared.auth.UserSet.{UserSet}
use Rattle.policy_book.specs.declared.auth.UserSet.TheVariants.{All, Listed, Groups}
use Rattle.auth_match.specs.Coverage.{covers}
use Rattle.auth_match.specs.declared.verdict.Verdict.TheVariants.{Granted, Denied}
use Rattle.auth_match.specs.Verdict.{has_right, has_user, object_covers, matches, first_match, decided_by}
use Rattle.auth_match.proofs.FirstMatches.{any_same}
use Rattle.coop_request.specs.Request.{Request}
use Rattle.edit_message.specs.declared.message.Message.{Message}
use Rattle.edit_message.specs.declared.message.Message.TheVariants.{Coop, Admin}
use Rattle.edit_message.specs.Message.{key_of, requests_of}
use Rattle.admin_log.specs.Log.{validated_at}
use Rattle.request_state.specs.State.{is_invalid}
use Rattle.check_remote.specs.State.{state_by}
use Rattle.check_remote.proofs.States.{administrator_law}
use Rattle.peer_core.specs.Peer.{Peer, history}
use Rattle.peer_renewal.specs.Coverage.{front_policy, element_bytes, covered_bytes, is_kept, kept_objects}
use Rattle.peer_renewal.specs.Renewal.{Covering, covering, coverings, is_administrators, IsRenewalOf}
use Rattle.peer_renewal.specs.Laws.{ShareByte, SameCoverageLaw, SameRightsLaw, NeverUndoneLaw, FreshRenewal}

-- ---- objects

-- what is noted of the byte at a place
note_at : (test : Name → Bool) (names : List Name) (place : ℕ) (e : Name) → slice_get names place ≡ Some e → slice_get (map test names) place ≡ Some (test e)
note_at test [] place e at = absurd (cc)
note_at test (n ∷ names) zero e at = let same : n ≡ e = cc in ap (λ (m : Name). Some (test m)) same
note_at test (n ∷ names) (suc place) e at = note_at test names place e at

-- an object's coverage of two elements that show the same byte
same_byte : (old new : Peer) (a b : Name) → ShareByte old new a b → (o n : Object) → covered_bytes new n.extent ≡ covered_bytes old o.extent
    → covers (text_order (history new)) n.extent b ≡ covers (text_order (history old)) o.extent a
same_byte old new a b share o n alike =
    let after = note_at (covers (text_order (history new)) n.extent) (element_bytes new) share.place b share.after in
    let before = note_at (covers (text_order (history old)) o.extent) (element_bytes old) share.place a share.before in
    let both : Some (covers (text_order (history new)) n.extent b) ≡ Some (covers (text_order (history old)) o.extent a) =
    sym after ∙ ap (λ (l : List Bool). slice_get l share.place) alike ∙ before in
    cc

-- all objects are kept
all_kept : (objects : List Object) → list_all (λ o. is_kept o.extent) objects ≡ true → kept_objects objects ≡ objects
all_kept [] kept = refl
all_kept (o ∷ objects) kept = by (is_kept o.extent) kept (all_kept objects)
  where
    by : (b : Bool) → (b && list_all (λ x. is_kept x.extent) objects) ≡ true → (list_all (λ x. is_kept x.extent) objects ≡ true → kept_objects objects ≡ objects)
        → cond b (o ∷ kept_objects objects) (kept_objects objects) ≡ o ∷ objects
    by true kept rest = ap (λ (l : List Object). o ∷ l) (rest kept)
    by false kept rest = absurd (cc)

-- the extent of a number covers the one element where it covers the other
abbrev numbered_covers : Peer → Name → ℕ → List Object → Bool
numbered_covers p e n objects = option_map_or (λ extent. covers (text_order (history p)) extent e) (option_map (λ o. o.extent) (find_by (λ o. o.number) n objects)) false

covered_alike : (old new : Peer) (a b : Name) → ShareByte old new a b → (number : ℕ) (olds news : List Object) → coverings new news ≡ coverings old olds
    → numbered_covers new b number news ≡ numbered_covers old a number olds
covered_alike old new a b share number [] [] alike = refl
covered_alike old new a b share number [] (n ∷ news) alike = absurd (cc)
covered_alike old new a b share number (o ∷ olds) [] alike = absurd (cc)
covered_alike old new a b share number (o ∷ olds) (n ∷ news) alike =
    let first : covering new n ≡ covering old o = cc in
    let others : coverings new news ≡ coverings old olds = cc in
    by (nat_eq n.number number) (nat_eq o.number number) (ap (λ (c : Covering). nat_eq c.number number) first)
    (same_byte old new a b share o n (ap (λ (c : Covering). c.bytes) first)) (covered_alike old new a b share number olds news others)
  where
    by : (here there : Bool) → here ≡ there → covers (text_order (history new)) n.extent b ≡ covers (text_order (history old)) o.extent a
        → numbered_covers new b number news ≡ numbered_covers old a number olds
        → option_map_or (λ extent. covers (text_order (history new)) extent b) (option_map (λ y. y.extent) (cond here (Some n) (find_by (λ y. y.number) number news))) false
        ≡ option_map_or (λ extent. covers (text_order (history old)) extent a) (option_map (λ y. y.extent) (cond there (Some o) (find_by (λ y. y.number) number olds))) false
    by true true is first rest = first
    by true false is first rest = absurd (cc)
    by false true is first rest = absurd (cc)
    by false false is first rest = rest

pub same_coverage : SameCoverageLaw
same_coverage old new a b object renewal share =
    covered_alike old new a b share object (front_policy old).objects (front_policy new).objects
    (renewal.objects ∙ ap (coverings old) (all_kept (front_policy old).objects share.kept))

-- ---- authorizations

-- an authorization matches in both peers, or in neither
same_user : (p q : Policy) (users : UserSet) (user : ℕ) → p.groups ≡ q.groups → has_user p users user ≡ has_user q users user
same_user p q All user groups = refl
same_user p q (Listed numbers) user groups = refl
same_user p q (Groups numbers) user groups = any_same (λ g. is_member p g user) (λ g. is_member q g user) (λ g. member g) numbers
  where
    member : (g : ℕ) → is_member p g user ≡ is_member q g user
    member g = ap (λ (gs : List Group). option_map_or (λ members. has_number members user) (option_map (λ o. o.members) (find_by (λ o. o.number) g gs)) false) groups

-- whether the authorization that was found sign_of
abbrev pub sign_of : Option Auth → Bool
sign_of None = false
sign_of (Some auth) = auth.grant

to_sign : (first : Option NumberedAuth) → option_map_or decided_by first (Denied None) ≡ Granted → sign_of (option_map (λ x. x.auth) first) ≡ true
to_sign None h = absurd (cc)
to_sign (Some x) h = by x.auth.grant h
  where
    by : (g : Bool) → cond g Granted (Denied (Some x.number)) ≡ Granted → g ≡ true
    by true h = refl
    by false h = absurd (cc)

from_sign : (first : Option NumberedAuth) → sign_of (option_map (λ x. x.auth) first) ≡ true → option_map_or decided_by first (Denied None) ≡ Granted
from_sign None h = absurd (cc)
from_sign (Some x) h = ap (λ (g : Bool). cond g Granted (Denied (Some x.number))) h

-- the same authorization, found under another number, grants the same
granted_if : (z : Bool) (first second : Option NumberedAuth) → option_map (λ x. x.auth) first ≡ option_map (λ x. x.auth) second
    → cond z Granted (option_map_or decided_by first (Denied None)) ≡ Granted → cond z Granted (option_map_or decided_by second (Denied None)) ≡ Granted
granted_if true first second same h = refl
granted_if false first second same h = from_sign second (sym (ap sign_of same) ∙ to_sign first h)

module _ (old new : Peer) (a b : Name) (user : ℕ) (right : Right) (renewal : IsRenewalOf old new) (share : ShareByte old new a b) where
  abbrev old_matches : Auth → Bool
  old_matches auth = matches (text_order (history old)) (front_policy old) user right a auth

  abbrev new_matches : Auth → Bool
  new_matches auth = matches (text_order (history new)) (front_policy new) user right b auth

  match_same : (auth : Auth) → new_matches auth ≡ old_matches auth
  match_same auth =
      let there : is_user (front_policy new) user ≡ is_user (front_policy old) user = ap (λ (users : List ℕ). has_number users user) renewal.users in
      let one_of = same_user (front_policy new) (front_policy old) auth.users user renewal.groups in
      let covered = any_same (object_covers (text_order (history new)) (front_policy new) b) (object_covers (text_order (history old)) (front_policy old) a)
      (λ n. same_coverage old new a b n renewal share) auth.objects in
      ap₂ (λ (x y : Bool). (x && y) && (has_right auth.rights right && list_any (object_covers (text_order (history new)) (front_policy new) b) auth.objects)) there one_of
      ∙ ap (λ (z : Bool). (is_user (front_policy old) user && has_user (front_policy old) auth.users user) && (has_right auth.rights right && z)) covered

  found_same : (news olds : List NumberedAuth) → map (λ x. x.auth) news ≡ map (λ x. x.auth) olds
      → option_map (λ x. x.auth) (find (λ x. new_matches x.auth) news) ≡ option_map (λ x. x.auth) (find (λ x. old_matches x.auth) olds)
  found_same [] [] same = refl
  found_same [] (o ∷ olds) same = absurd (cc)
  found_same (n ∷ news) [] same = absurd (cc)
  found_same (n ∷ news) (o ∷ olds) same =
      let first : n.auth ≡ o.auth = cc in
      let others : map (λ x. x.auth) news ≡ map (λ x. x.auth) olds = cc in
      by (new_matches n.auth) (old_matches o.auth) (match_same n.auth ∙ ap old_matches first) first (found_same news olds others)
    where
      by : (here there : Bool) → here ≡ there → n.auth ≡ o.auth
          → option_map (λ x. x.auth) (find (λ x. new_matches x.auth) news) ≡ option_map (λ x. x.auth) (find (λ x. old_matches x.auth) olds)
          → option_map (λ x. x.auth) (cond here (Some n) (find (λ x. new_matches x.auth) news)) ≡ option_map (λ x. x.auth) (cond there (Some o) (find (λ x. old_matches x.auth) olds))
      by true true is first rest = ap (λ (x : Auth). Some x) first
      by true false is first rest = absurd (cc)
      by false true is first rest = absurd (cc)
      by false false is first rest = rest

  first_same : option_map (λ x. x.auth) (first_match (text_order (history new)) (front_policy new) user right b)
      ≡ option_map (λ x. x.auth) (first_match (text_order (history old)) (front_policy old) user right a)
  first_same = found_same (front_policy new).auths (front_policy old).auths renewal.auths

pub same_rights : SameRightsLaw
same_rights old new a b user right renewal share =
    let same = first_same old new a b user right renewal share in
    let z : Bool = nat_eq user 0 in
    let first = first_match (text_order (history new)) (front_policy new) user right b in
    let second = first_match (text_order (history old)) (front_policy old) user right a in
    (granted_if z first second same, granted_if z second first (sym same))

-- ---- what is never undone

-- the requests of a row of messages with the administrator's keys alone are his
own_request : (messages : List Message) → list_all (λ m. is_administrators (key_of m)) messages ≡ true → (i : ℕ) (q : Request) → slice_get (requests_of messages) i ≡ Some q → nat_eq q.id.site 0 ≡ true
own_request [] own i q at = absurd (cc)
own_request (Admin e ∷ messages) own i q at = own_request messages own i q at
own_request (Coop r ∷ messages) own i q at = by i (nat_eq r.id.site 0) refl own at (own_request messages)
  where
    by : (i : ℕ) (b : Bool) → nat_eq r.id.site 0 ≡ b → (b && list_all (λ m. is_administrators (key_of m)) messages) ≡ true → slice_get (r ∷ requests_of messages) i ≡ Some q
        → (list_all (λ m. is_administrators (key_of m)) messages ≡ true → (k : ℕ) (s : Request) → slice_get (requests_of messages) k ≡ Some s → nat_eq s.id.site 0 ≡ true)
        → nat_eq q.id.site 0 ≡ true
    by i false is own at rest = absurd (cc)
    by zero true is own at rest = let same : r ≡ q = cc in subst (λ (x : Request). nat_eq x.id.site 0 ≡ true) same is
    by (suc i) true is own at rest = rest own i q at

not_invalid : (validation : Option ℕ) → is_invalid (state_by None validation) ≡ false
not_invalid None = refl
not_invalid (Some v) = refl

pub never_undone : NeverUndoneLaw
never_undone old new i q names entries renewal at =
    let own : q.id.site ≡ 0 = eqb-true q.id.site 0 (own_request new.journal renewal.own i q at) in
    ap is_invalid (administrator_law names entries q own) ∙ not_invalid (validated_at entries q.id)

pub fresh_renewal : FreshRenewal
fresh_renewal = record { site = refl; held = refl; own = refl; text = refl; users = refl; groups = refl; auths = refl; objects = refl }
