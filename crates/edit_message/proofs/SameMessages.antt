-- The comparison of messages, and of each part of one, says whether they are equal.
use Rattle.std.proofs.Common.{◌≡◌, Bool, true, ◌&&◌, List, refl, ap, subst}
use Rattle.std.specs.Bool.{Decides}
use Rattle.std.specs.Cmp.{booleans_Decides}
use Rattle.std.specs.Cmp.Lexicographic.{pointwise}
use Rattle.std.proofs.lemmas.Bool.Decides.{Decides-eqb, Decides-and, Decides-like}
use Rattle.std.proofs.lemmas.Slice.Eq.{slice_eq-Decides, bytes_eq-Decides}
use Rattle.element_name.specs.Name.{Name, name_eq}
use Rattle.element_name.proofs.NameOrder.{name_eq-refl, same_name}
use Rattle.coop_request.specs.declared.edit.Edit.{Edit}
use Rattle.coop_request.specs.declared.edit.Edit.TheVariants.{Insert, Delete, Update}
use Rattle.coop_request.specs.Request.{Request}
use Rattle.policy_book.specs.Rights.{Rights}
use Rattle.policy_book.specs.declared.auth.Extent.{Extent}
use Rattle.policy_book.specs.declared.auth.Extent.TheVariants as extents
use Rattle.policy_book.specs.declared.auth.UserSet.{UserSet}
use Rattle.policy_book.specs.declared.auth.UserSet.TheVariants as users
use Rattle.policy_book.specs.declared.auth.Auth.{Auth}
use Rattle.policy_book.specs.declared.op.AdminOp.{AdminOp}
use Rattle.policy_book.specs.declared.op.AdminOp.TheVariants.{AddUser, DelUser, AddObj, DelObj, AddGroup, DelGroup, AddMember, DelMember, AddAuth, DelAuth, Validate}
use Rattle.policy_book.specs.Entry.{Entry}
use Rattle.edit_message.specs.Same.{edit_eq, request_eq, extent_eq, users_eq, rights_eq, auth_eq, op_eq, entry_eq, message_eq}
use Rattle.edit_message.specs.declared.message.Message.{Message}
use Rattle.edit_message.specs.declared.message.Message.TheVariants.{Coop, Admin}

-- two tests say of two values, each of two parts, whether they are equal
paired : {A B C : Type 0} {a a' : A} {b b' : B} (make : A → B → C) (x y : Bool) → Decides x (a ≡ a') → Decides y (b ≡ b')
    → (make a b ≡ make a' b' → (a ≡ a') × (b ≡ b')) → Decides (x && y) (make a b ≡ make a' b')
paired make x y first second parts = Decides-like (x && y) (λ e i. make (e.0 i) (e.1 i)) parts (Decides-and x y first second)

-- ---- each comparison says whether its two values are equal

name_Decides : (a b : Name) → Decides (name_eq a b) (a ≡ b)
name_Decides a b = (same_name a b, λ e. subst (λ n. name_eq a n ≡ true) e (name_eq-refl a))

names_Decides : (xs ys : List Name) → Decides (pointwise name_eq xs ys) (xs ≡ ys)
names_Decides xs ys = slice_eq-Decides name_Decides xs ys (pointwise name_eq xs ys) refl

edit_Decides : (a b : Edit) → Decides (edit_eq a b) (a ≡ b)
edit_Decides (Insert after letter) (Insert after' letter') = paired Insert _ _ (name_Decides after after') (bytes_eq-Decides letter letter') (λ e. (cc, cc))
edit_Decides (Delete target) (Delete target') = Decides-like _ (ap Delete) (λ e. cc) (name_Decides target target')
edit_Decides (Update target letter) (Update target' letter') = paired Update _ _ (name_Decides target target') (bytes_eq-Decides letter letter') (λ e. (cc, cc))
edit_Decides a b = (λ h. absurd (cc), λ e. absurd (cc))

request_Decides : (a b : Request) → Decides (request_eq a b) (a ≡ b)
request_Decides a b = Decides-like _
    (λ (e : (a.id ≡ b.id) × ((a.version ≡ b.version) × (a.edit ≡ b.edit))) i. record { id = e.0 i; version = e.1.0 i; edit = e.1.1 i })
    (λ e. (ap (λ q. q.id) e, (ap (λ q. q.version) e, ap (λ q. q.edit) e)))
    (Decides-and _ _ (name_Decides a.id b.id) (Decides-and _ _ (Decides-eqb a.version b.version) (edit_Decides a.edit b.edit)))

extent_Decides : (a b : Extent) → Decides (extent_eq a b) (a ≡ b)
extent_Decides extents.All extents.All = (λ h. refl, λ e. refl)
extent_Decides (extents.Span first last) (extents.Span first' last') = paired extents.Span _ _ (name_Decides first first') (name_Decides last last') (λ e. (cc, cc))
extent_Decides (extents.Elems names) (extents.Elems names') = Decides-like _ (ap extents.Elems) (λ e. cc) (names_Decides names names')
extent_Decides (extents.By user) (extents.By user') = Decides-like _ (ap extents.By) (λ e. cc) (Decides-eqb user user')
extent_Decides a b = (λ h. absurd (cc), λ e. absurd (cc))

users_Decides : (a b : UserSet) → Decides (users_eq a b) (a ≡ b)
users_Decides users.All users.All = (λ h. refl, λ e. refl)
users_Decides (users.Listed numbers) (users.Listed numbers') = Decides-like _ (ap users.Listed) (λ e. cc) (bytes_eq-Decides numbers numbers')
users_Decides (users.Groups numbers) (users.Groups numbers') = Decides-like _ (ap users.Groups) (λ e. cc) (bytes_eq-Decides numbers numbers')
users_Decides a b = (λ h. absurd (cc), λ e. absurd (cc))

rights_Decides : (a b : Rights) → Decides (rights_eq a b) (a ≡ b)
rights_Decides a b = Decides-like _
    (λ (e : (a.insert ≡ b.insert) × ((a.delete ≡ b.delete) × (a.update ≡ b.update))) i. record { insert = e.0 i; delete = e.1.0 i; update = e.1.1 i })
    (λ e. (ap (λ r. r.insert) e, (ap (λ r. r.delete) e, ap (λ r. r.update) e)))
    (Decides-and _ _ (booleans_Decides a.insert b.insert) (Decides-and _ _ (booleans_Decides a.delete b.delete) (booleans_Decides a.update b.update)))

auth_Decides : (a b : Auth) → Decides (auth_eq a b) (a ≡ b)
auth_Decides a b = Decides-like _
    (λ (e : (a.users ≡ b.users) × ((a.rights ≡ b.rights) × ((a.objects ≡ b.objects) × (a.grant ≡ b.grant)))) i. record { users = e.0 i; rights = e.1.0 i; objects = e.1.1.0 i; grant = e.1.1.1 i })
    (λ e. (ap (λ x. x.users) e, (ap (λ x. x.rights) e, (ap (λ x. x.objects) e, ap (λ x. x.grant) e))))
    (Decides-and _ _ (users_Decides a.users b.users) (Decides-and _ _ (rights_Decides a.rights b.rights) (Decides-and _ _ (bytes_eq-Decides a.objects b.objects) (booleans_Decides a.grant b.grant))))

op_Decides : (a b : AdminOp) → Decides (op_eq a b) (a ≡ b)
op_Decides (AddUser user) (AddUser user') = Decides-like _ (ap AddUser) (λ e. cc) (Decides-eqb user user')
op_Decides (DelUser user) (DelUser user') = Decides-like _ (ap DelUser) (λ e. cc) (Decides-eqb user user')
op_Decides (AddObj number extent) (AddObj number' extent') = paired AddObj _ _ (Decides-eqb number number') (extent_Decides extent extent') (λ e. (cc, cc))
op_Decides (DelObj number) (DelObj number') = Decides-like _ (ap DelObj) (λ e. cc) (Decides-eqb number number')
op_Decides (AddGroup group) (AddGroup group') = Decides-like _ (ap AddGroup) (λ e. cc) (Decides-eqb group group')
op_Decides (DelGroup group) (DelGroup group') = Decides-like _ (ap DelGroup) (λ e. cc) (Decides-eqb group group')
op_Decides (AddMember group user) (AddMember group' user') = paired AddMember _ _ (Decides-eqb group group') (Decides-eqb user user') (λ e. (cc, cc))
op_Decides (DelMember group user) (DelMember group' user') = paired DelMember _ _ (Decides-eqb group group') (Decides-eqb user user') (λ e. (cc, cc))
op_Decides (AddAuth place auth) (AddAuth place' auth') = paired AddAuth _ _ (Decides-eqb place place') (auth_Decides auth auth') (λ e. (cc, cc))
op_Decides (DelAuth place) (DelAuth place') = Decides-like _ (ap DelAuth) (λ e. cc) (Decides-eqb place place')
op_Decides (Validate request) (Validate request') = Decides-like _ (ap Validate) (λ e. cc) (name_Decides request request')
op_Decides a b = (λ h. absurd (cc), λ e. absurd (cc))

pub entry_Decides : (a b : Entry) → Decides (entry_eq a b) (a ≡ b)
entry_Decides a b = Decides-like _
    (λ (e : (a.version ≡ b.version) × (a.op ≡ b.op)) i. record { version = e.0 i; op = e.1 i })
    (λ e. (ap (λ x. x.version) e, ap (λ x. x.op) e))
    (Decides-and _ _ (Decides-eqb a.version b.version) (op_Decides a.op b.op))

-- two messages are equal exactly where their comparison says so
pub message_Decides : (a b : Message) → Decides (message_eq a b) (a ≡ b)
message_Decides (Coop a) (Coop b) = Decides-like _ (ap Coop) (λ e. cc) (request_Decides a b)
message_Decides (Admin a) (Admin b) = Decides-like _ (ap Admin) (λ e. cc) (entry_Decides a b)
message_Decides a b = (λ h. absurd (cc), λ e. absurd (cc))
