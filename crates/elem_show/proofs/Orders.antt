-- Requests in ascending order of name.
use Rattle.std.proofs.Common.{◌≡◌, ℕ, ◌+◌, Bool, true, false, ◌&&◌, List, [], ◌∷◌, ◌++◌, length, map, Some, None, refl, sym, subst, ◌∙◌, ap, arith, if◌then◌else◌}
use Rattle.std.specs.Prelude.{filter, option_and_then}
use Rattle.std.specs.List.{list_all}
use Rattle.std.specs.Option.{option_map, option_or}
use Rattle.std.specs.declared.option.Option.{Option}
use Rattle.element_name.specs.Cases.{given}
use Rattle.element_name.specs.Name.{Name, name_eq, name_lt, are_distinct}
use Rattle.element_name.proofs.NameOrder.{name_eq-comm, same_name}
use Rattle.element_name.proofs.NamedLemmas.{item_named-put_other}
use Rattle.element_name.proofs.CaseLemmas.{option_or-None}
use Rattle.coop_request.specs.Edit.{is_insert, piece_in}
use Rattle.coop_request.specs.Request.{Request}
use Rattle.coop_request.specs.History.{request_of}
use Rattle.elem_show.specs.Cell.{is_insert_of, cell_from, own_of, own_piece, cell_of}
use Rattle.elem_show.specs.Counting.{including}
use Rattle.elem_show.proofs.Cells.{id_of, cell_of_set, once-cons, rest_once, first_new}

-- ---- one more request

pub once-including : (q : Request) (xs : List Request) → are_distinct (map id_of xs) ≡ true → request_of xs q.id ≡ None → are_distinct (map id_of (including q xs)) ≡ true
once-including q [] once new = refl
once-including q (y ∷ ys) once new = by (name_lt q.id y.id) (name_eq y.id q.id) refl new (once-including q ys (rest_once y ys once))
  where
    by : (less same : Bool) → name_eq y.id q.id ≡ same → (if same then Some y else request_of ys q.id) ≡ None
        → (request_of ys q.id ≡ None → are_distinct (map id_of (including q ys)) ≡ true)
        → are_distinct (map id_of (if less then q ∷ y ∷ ys else y ∷ including q ys)) ≡ true
    by less true is absent rest = absurd cc
    by true false is absent rest = once-cons q (y ∷ ys) once new
    by false false is absent rest =
        let other : request_of (including q ys) y.id ≡ None = item_named-put_other id_of y.id q ys (name_eq-comm q.id y.id ∙ is) ∙ first_new y ys once in
        once-cons y (including q ys) (rest absent) other

pub all-including : (f : Request → Bool) (q : Request) (xs : List Request) → list_all f xs ≡ true → f q ≡ true → list_all f (including q xs) ≡ true
all-including f q [] all here = rw here refl
all-including f q (y ∷ ys) all here = by (name_lt q.id y.id) (f y) refl all (λ a. all-including f q ys a here)
  where
    by : (less passes : Bool) → f y ≡ passes → (passes && list_all f ys) ≡ true → (list_all f ys ≡ true → list_all f (including q ys) ≡ true)
        → list_all f (if less then q ∷ y ∷ ys else y ∷ including q ys) ≡ true
    by less false is a rest = absurd cc
    by true true is a rest = rw (here, is) a
    by false true is a rest = rw is (rest a)

pub length-including : (q : Request) (xs : List Request) → length (including q xs) ≡ length xs + 1
length-including q [] = refl
length-including q (y ∷ ys) = by (name_lt q.id y.id) (length-including q ys)
  where
    by : (less : Bool) → length (including q ys) ≡ length ys + 1 → length (if less then q ∷ y ∷ ys else y ∷ including q ys) ≡ length (y ∷ ys) + 1
    by true h = omega arith
    by false h = omega (arith, h)

-- the piece of its element
pub own_piece-absent : (xs : List Request) (e : Name) → request_of xs e ≡ None → own_piece xs e ≡ None
own_piece-absent [] e absent = refl
own_piece-absent (y ∷ ys) e absent = by (name_eq y.id e) absent (own_piece-absent ys e)
  where
    by : (same : Bool) → (if same then Some y else request_of ys e) ≡ None → (request_of ys e ≡ None → own_piece ys e ≡ None)
        → option_or (given (same && is_insert y.edit) (piece_in y.edit)) (own_piece ys e) ≡ None
    by true a rest = absurd cc
    by false a rest = rest a

pub own_piece-including : (q : Request) (xs : List Request) (e : Name) → request_of xs q.id ≡ None → own_piece (including q xs) e ≡ option_or (own_piece xs e) (own_piece (q ∷ []) e)
own_piece-including q [] e new = refl
own_piece-including q (y ∷ ys) e new = by (name_lt q.id y.id) (name_eq y.id q.id) new (own_piece-including q ys e)
  where
    here : (same : Bool) → name_eq q.id e ≡ same → own_piece (q ∷ y ∷ ys) e ≡ option_or (own_piece (y ∷ ys) e) (own_piece (q ∷ []) e)
    here true is =
        let absent : own_piece (y ∷ ys) e ≡ None = subst (λ (n : Name). own_piece (y ∷ ys) n ≡ None) (same_name q.id e is) (own_piece-absent (y ∷ ys) q.id new) in
        ap (option_or (given (is_insert_of e q) (piece_in q.edit))) absent ∙ ap (λ (o : Option (List ℕ)). option_or o (own_piece (q ∷ []) e)) (sym absent)
    here false is =
        let none : own_piece (q ∷ []) e ≡ None = rw is refl in
        ap (λ (b : Bool). option_or (given (b && is_insert q.edit) (piece_in q.edit)) (own_piece (y ∷ ys) e)) is ∙ sym (option_or-None (own_piece (y ∷ ys) e)) ∙ ap (option_or (own_piece (y ∷ ys) e)) (sym none)

    later : (o : Option (List ℕ)) → own_piece (including q ys) e ≡ option_or (own_piece ys e) (own_piece (q ∷ []) e)
        → option_or o (own_piece (including q ys) e) ≡ option_or (option_or o (own_piece ys e)) (own_piece (q ∷ []) e)
    later None h = h
    later (Some x) h = refl

    by : (less same : Bool) → (if same then Some y else request_of ys q.id) ≡ None
        → (request_of ys q.id ≡ None → own_piece (including q ys) e ≡ option_or (own_piece ys e) (own_piece (q ∷ []) e))
        → own_piece (if less then q ∷ y ∷ ys else y ∷ including q ys) e ≡ option_or (own_piece (y ∷ ys) e) (own_piece (q ∷ []) e)
    by less true a rest = absurd cc
    by true false a rest = here (name_eq q.id e) refl
    by false false a rest = later (given (is_insert_of e y) (piece_in y.edit)) (rest a)

-- ---- of a set of requests

pub filter_absent : (test : Request → Bool) (xs : List Request) (n : Name) → request_of xs n ≡ None → request_of (filter test xs) n ≡ None
filter_absent test [] n h = refl
filter_absent test (x ∷ xs) n h = by (name_eq x.id n) refl h (filter_absent test xs n) (test x)
  where
    by : (same : Bool) → name_eq x.id n ≡ same → (if same then Some x else request_of xs n) ≡ None → (request_of xs n ≡ None → request_of (filter test xs) n ≡ None)
        → (passes : Bool) → request_of (if passes then x ∷ filter test xs else filter test xs) n ≡ None
    by true is a rest passes = absurd cc
    by false is a rest true = rw is (rest a)
    by false is a rest false = rest a

pub filter_once : (test : Request → Bool) (xs : List Request) → are_distinct (map id_of xs) ≡ true → are_distinct (map id_of (filter test xs)) ≡ true
filter_once test [] once = refl
filter_once test (x ∷ xs) once = by (test x) (filter_once test xs (rest_once x xs once))
  where
    by : (passes : Bool) → are_distinct (map id_of (filter test xs)) ≡ true → are_distinct (map id_of (if passes then x ∷ filter test xs else filter test xs)) ≡ true
    by true rest = once-cons x (filter test xs) rest (filter_absent test xs x.id (first_new x xs once))
    by false rest = rest

-- the piece is that of the insert of the name
pub own_piece-found : (xs : List Request) (e : Name) → are_distinct (map id_of xs) ≡ true → own_piece xs e ≡ option_and_then own_of (request_of xs e)
own_piece-found [] e once = refl
own_piece-found (x ∷ xs) e once = by (name_eq x.id e) refl (own_piece-found xs e (rest_once x xs once))
  where
    by : (same : Bool) → name_eq x.id e ≡ same → own_piece xs e ≡ option_and_then own_of (request_of xs e)
        → option_or (given (same && is_insert x.edit) (piece_in x.edit)) (own_piece xs e) ≡ option_and_then own_of (if same then Some x else request_of xs e)
    by true is rest =
        let absent : own_piece xs e ≡ None = subst (λ (n : Name). own_piece xs n ≡ None) (same_name x.id e is) (own_piece-absent xs x.id (first_new x xs once)) in
        ap (option_or (own_of x)) absent ∙ option_or-None (own_of x)
    by false is rest = rest

-- a delete or an update is none of the inserts
pub own_piece-other : (xs : List Request) (q : Request) (e : Name) → is_insert q.edit ≡ false → own_piece (xs ++ q ∷ []) e ≡ own_piece xs e
own_piece-other [] q e is = by (name_eq q.id e)
  where
    by : (same : Bool) → option_or (given (same && is_insert q.edit) (piece_in q.edit)) None ≡ None
    by true = ap (λ (b : Bool). option_or (given b (piece_in q.edit)) None) is
    by false = refl
own_piece-other (x ∷ xs) q e is = ap (option_or (given (is_insert_of e x) (piece_in x.edit))) (own_piece-other xs q e is)

-- the same requests, of which the same count, make the same cells
pub cell_of-sets : (xs ys counted also : List Request) (e : Name) → are_distinct (map id_of xs) ≡ true → are_distinct (map id_of ys) ≡ true → ((n : Name) → request_of xs n ≡ request_of ys n)
    → are_distinct (map id_of counted) ≡ true → are_distinct (map id_of also) ≡ true → ((n : Name) → request_of counted n ≡ request_of also n)
    → cell_of xs counted e ≡ cell_of ys also e
cell_of-sets xs ys counted also e once_x once_y alike once_c once_a counted_alike =
    ap (option_map (λ own. cell_from e own counted)) (own_piece-found xs e once_x ∙ ap (option_and_then own_of) (alike e) ∙ sym (own_piece-found ys e once_y))
    ∙ each (own_piece ys e)
  where
    each : (o : Option (List ℕ)) → option_map (λ own. cell_from e own counted) o ≡ option_map (λ own. cell_from e own also) o
    each None = refl
    each (Some own) = ap (λ c. Some c) (cell_of_set e own counted also once_c once_a counted_alike)
