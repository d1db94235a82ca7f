-- The operations that make a policy anew, `specs/Operations.antt`.
use Rattle.std.proofs.Common.{◌≡◌, ℕ, ◌+◌, suc, ◌<◌, ◌≤◌, Bool, true, false, not, cond, List, [], ◌∷◌, ◌++◌, map, length, get_or, drop, filter, flat_map, fold, nat_eq, refl, ap, sym, ◌∙◌, add-one, append_assoc, append-nil, drop-cons, length-append, arith}
use Rattle.std.proofs.lemmas.List.Concat.{flat_map-cons}
use Rattle.std.proofs.lemmas.List.{drop_all, map-append}
use Rattle.std.proofs.lemmas.List.Sums.{fold_push}
use Rattle.peer_step.specs.declared.step.Step.{Step}
use Rattle.peer_step.specs.declared.step.Step.TheVariants.{Administer}
use Rattle.peer_core.specs.Peer.{Peer}
use Rattle.peer_core.specs.After.{peer_after}
use Rattle.policy_book.specs.Policy.{Policy}
use Rattle.policy_book.specs.declared.parts.Object.{Object}
use Rattle.policy_book.specs.declared.parts.NumberedAuth.{NumberedAuth}
use Rattle.policy_book.specs.declared.op.AdminOp.{AdminOp}
use Rattle.policy_book.specs.declared.op.AdminOp.TheVariants.{AddUser, DelObj, AddAuth}
use Rattle.peer_renewal.specs.Operations.{users_made, members_made, group_made, objects_made, auths_made, operations_of}
use Rattle.peer_renewal.proofs.Gathering.{Splits}

-- each of these lists is gathered item by item
pub users_split : Splits users_made
users_split u users = by (nat_eq u 0)
  where
    by : (b : Bool) → map AddUser (cond (not b) (u ∷ filter (λ v. not (nat_eq v 0)) users) (filter (λ v. not (nat_eq v 0)) users))
        ≡ map AddUser (cond (not b) (u ∷ []) []) ++ map AddUser (filter (λ v. not (nat_eq v 0)) users)
    by true = refl
    by false = refl

pub members_split : (group : ℕ) → Splits (members_made group)
members_split group u members = refl

pub groups_split : Splits (flat_map group_made)
groups_split g groups =
    flat_map-cons group_made g groups
    ∙ ap (λ (l : List AdminOp). l ++ flat_map group_made groups) (sym (append-nil (group_made g)) ∙ sym (flat_map-cons group_made g []))

pub objects_split : Splits objects_made
objects_split o objects = refl

-- one authorization more
pub auths_more : (acc whole : List AdminOp) (auths : List NumberedAuth) (place : ℕ) (a : NumberedAuth) → place < length auths → a ≡ get_or auths place a
    → acc ++ auths_made place (drop place auths) ≡ whole → (acc ++ AddAuth place a.auth ∷ []) ++ auths_made (place + 1) (drop (place + 1) auths) ≡ whole
auths_more acc whole auths place a low is so_far =
    append_assoc acc (AddAuth place a.auth ∷ []) (auths_made (place + 1) (drop (place + 1) auths))
    ∙ ap (λ (k : ℕ). acc ++ AddAuth place a.auth ∷ auths_made (place + 1) (drop k auths)) (add-one place)
    ∙ ap (λ (b : NumberedAuth). acc ++ auths_made place (b ∷ drop (suc place) auths)) is
    ∙ ap (λ (l : List NumberedAuth). acc ++ auths_made place l) (sym (drop-cons auths place a low))
    ∙ so_far

pub auths_all : (acc whole : List AdminOp) (auths : List NumberedAuth) (place : ℕ) → length auths ≤ place
    → acc ++ auths_made place (drop place auths) ≡ whole → acc ≡ whole
auths_all acc whole auths place end so_far =
    sym (append-nil acc) ∙ ap (λ (l : List NumberedAuth). acc ++ auths_made place l) (sym (drop_all place auths end)) ∙ so_far

-- as many objects take as many operations
pub as_many_operations : (p : Policy) (objects others : List Object) → length objects ≡ length others → length (operations_of p objects) ≡ length (operations_of p others)
as_many_operations p objects others same =
    counted objects ∙ ap (λ (n : ℕ). length (users_made p.users) + length (flat_map group_made p.groups) + (1 + n + length (auths_made 0 p.auths))) same ∙ sym (counted others)
  where
    length_made : (os : List Object) → length (objects_made os) ≡ length os
    length_made [] = refl
    length_made (o ∷ os) = ap suc (length_made os)

    counted : (os : List Object) → length (operations_of p os) ≡ length (users_made p.users) + length (flat_map group_made p.groups) + (1 + length os + length (auths_made 0 p.auths))
    counted os =
        let us = users_made p.users in
        let gs = flat_map group_made p.groups in
        let front = length-append us gs in
        let made = length-append (us ++ gs) (DelObj 0 ∷ objects_made os) in
        let whole = length-append ((us ++ gs) ++ DelObj 0 ∷ objects_made os) (auths_made 0 p.auths) in
        let as_many = length_made os in
        omega (arith, front, made, whole, as_many)

-- one entry more is issued
pub issued_more : (start p q : Peer) (ops : List AdminOp) (op : AdminOp) → q ≡ peer_after p (Administer op) → p ≡ fold peer_after start (map Administer ops)
    → q ≡ fold peer_after start (map Administer (ops ++ op ∷ []))
issued_more start p q ops op after so_far =
    after
    ∙ ap (λ (x : Peer). peer_after x (Administer op)) so_far
    ∙ sym (fold_push peer_after start (map Administer ops) (Administer op))
    ∙ ap (λ (steps : List Step). fold peer_after start steps) (sym (map-append Administer ops (op ∷ [])))
