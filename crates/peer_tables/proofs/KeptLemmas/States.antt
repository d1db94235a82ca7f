-- What an entry makes of the states of requests, and of those that count.
use Rattle.std.proofs.Common.{◌≡◌, ℕ, ◌≤◌, Bool, true, false, not, ◌&&◌, ◌||◌, List, [], ◌∷◌, ◌++◌, length, take, get_or, None, Some, refl, sym, ap, subst, ◌∙◌, arith, length-append}
use Rattle.std.specs.Prelude.{max, is_none, is_some, option_map, option_and_then}
use Rattle.std.specs.declared.option.Option.{Option}
use Rattle.std.specs.Option.{option_map_or}
use Rattle.std.proofs.Math.Seq.{take-length}
use Rattle.std.proofs.lemmas.List.{take-append-le, get_or_push}
use Rattle.element_name.proofs.EachAfterLemmas.{EachAfter-push}
use Rattle.element_name.specs.Cases.{when}
use Rattle.element_name.specs.Name.{Name, name_eq}
use Rattle.coop_request.specs.Edit.{right_of}
use Rattle.coop_request.specs.Request.{Request, user_of, element_of}
use Rattle.coop_request.specs.History.{text_order, request_of}
use Rattle.policy_book.specs.declared.op.AdminOp.{AdminOp}
use Rattle.policy_book.specs.declared.op.AdminOp.TheVariants.{AddUser, DelUser, AddObj, DelObj, AddGroup, DelGroup, AddMember, DelMember, AddAuth, DelAuth, Validate}
use Rattle.policy_book.specs.Entry.{Entry}
use Rattle.policy_book.specs.Policy.{Policy, IsLegal}
use Rattle.policy_book.specs.Reach.{narrowed_reach, is_reached}
use Rattle.auth_match.specs.declared.verdict.Verdict.{Verdict}
use Rattle.auth_match.specs.declared.verdict.Verdict.TheVariants.{Granted, Denied}
use Rattle.auth_match.specs.Requests.{request_verdict}
use Rattle.auth_match.proofs.VacuousChanges.{narrowed_reach_law}
use Rattle.admin_log.specs.Log.{IsLog, FollowsLog, policy_of, validates, validated_at}
use Rattle.admin_log.proofs.Logs.{policy_push, legal_at}
use Rattle.request_state.specs.declared.state.State.{State}
use Rattle.request_state.specs.declared.state.State.TheVariants.{Tentative, Valid, Invalid}
use Rattle.request_state.specs.declared.kept.Kept.{Kept}
use Rattle.request_state.specs.State.{is_tentative, is_invalid}
use Rattle.request_state.specs.Table.{is_in_order, requests_kept, counted_of, kept_cell, kept_shows}
use Rattle.elem_show.specs.Cell.{Cell, shown}
use Rattle.elem_show.proofs.Orders.{cell_of-sets, filter_once}
use Rattle.check_remote.specs.State.{until, is_granted, first_denial, state_by, state_of}
use Rattle.check_remote.specs.Laws.{state_after_entry as judged_after}
use Rattle.check_remote.proofs.States.{granted_law}
use Rattle.retro_undo.specs.Undo.{state_after_verdict as swept_after, is_denied}
use Rattle.tomb_seq.proofs.Has.{Has}
use Rattle.peer_tables.specs.Awaiting.{validated_by}
use Rattle.peer_tables.specs.Derived.{state_in, counted_in, cell_in}
use Rattle.peer_tables.specs.Kept.{shows_in}
use Rattle.peer_tables.proofs.SameSetLemmas.{IsOnce, AreAlike, found_has, filter_found}
use Rattle.peer_tables.proofs.HistoryLemmas.{once_law}
use Rattle.coop_request.specs.History.{IsHistory}
use Rattle.peer_tables.proofs.KeptLemmas.Tables.{counts_by, counted_found, counted_once, requests_once, requests_alike, granted_valid, kept_by, IsBy}

-- ---- states

-- an entry confirms a state where it validates, and its policy doesn't deny
abbrev pub confirm_state : State → ℕ → Bool → State
confirm_state s version validation = judged_after s version Granted validation

-- a confirmed state is swept, and is undone where it was Tentative and is Invalid then
swept : (s : State) (version : ℕ) (w : Verdict) (validation : Bool) → (s ≡ Tentative → validation ≡ true → w ≡ Granted)
    → (swept_after (confirm_state s version validation) version w ≡ judged_after s version w validation)
    × ((is_tentative (confirm_state s version validation) && is_denied w) ≡ (is_tentative s && is_invalid (judged_after s version w validation)))
swept Tentative version Granted true h = (refl, refl)
swept Tentative version (Denied by) true h = absurd (let g = h refl refl in cc)
swept Tentative version Granted false h = (refl, refl)
swept Tentative version (Denied by) false h = (refl, refl)
swept (Valid at) version w validation h = (refl, refl)
swept (Invalid at by) version w validation h = (refl, refl)

pub steps_law : (s : State) (version : ℕ) (w : Verdict) (validation : Bool) → (s ≡ Tentative → validation ≡ true → w ≡ Granted)
    → swept_after (confirm_state s version validation) version w ≡ judged_after s version w validation
steps_law s version w validation h = (swept s version w validation h).0

pub undone_law : (s : State) (version : ℕ) (w : Verdict) (validation : Bool) → (s ≡ Tentative → validation ≡ true → w ≡ Granted)
    → (is_tentative (confirm_state s version validation) && is_denied w) ≡ (is_tentative s && is_invalid (judged_after s version w validation))
undone_law s version w validation h = (swept s version w validation h).1

pub confirm_invalid : (s : State) (version : ℕ) (validation : Bool) → is_invalid (confirm_state s version validation) ≡ is_invalid s
confirm_invalid Tentative version true = refl
confirm_invalid Tentative version false = refl
confirm_invalid (Valid at) version validation = refl
confirm_invalid (Invalid at by) version validation = refl

pub confirm_tentative : (s : State) (version : ℕ) (validation : Bool) → is_tentative (confirm_state s version validation) ≡ true → s ≡ Tentative
confirm_tentative Tentative version validation h = refl
confirm_tentative (Valid at) version validation h = absurd cc
confirm_tentative (Invalid at by) version validation h = absurd cc

pub tentative_state : (s : State) → is_tentative s ≡ true → s ≡ Tentative
tentative_state Tentative h = refl
tentative_state (Valid at) h = absurd cc
tentative_state (Invalid at by) h = absurd cc

-- a state that isn't Tentative is Invalid as before
pub settled_invalid : (s : State) (version : ℕ) (w : Verdict) (validation : Bool) → is_tentative s ≡ false → is_invalid (judged_after s version w validation) ≡ is_invalid s
settled_invalid Tentative version w validation h = absurd cc
settled_invalid (Valid at) version w validation h = refl
settled_invalid (Invalid at by) version w validation h = refl

pub confirm_none : (s : State) (version : ℕ) → s ≡ confirm_state s version false
confirm_none Tentative version = refl
confirm_none (Valid at) version = refl
confirm_none (Invalid at by) version = refl

pub confirm_other : (s : State) (version : ℕ) (validation : Bool) → is_tentative s ≡ false → s ≡ confirm_state s version validation
confirm_other Tentative version validation h = absurd cc
confirm_other (Valid at) version validation h = refl
confirm_other (Invalid at by) version validation h = refl

pub confirm_own : (s : State) (version : ℕ) → is_tentative s ≡ true → Valid version ≡ confirm_state s version true
confirm_own Tentative version h = refl
confirm_own (Valid at) version h = absurd cc
confirm_own (Invalid at by) version h = absurd cc

-- a state that isn't undone is Invalid as before
pub undone_none : (s : State) (version : ℕ) (w : Verdict) (validation : Bool) → (is_tentative s && is_invalid (judged_after s version w validation)) ≡ false
    → is_invalid (judged_after s version w validation) ≡ is_invalid s
undone_none Tentative version w validation h = h
undone_none (Valid at) version w validation h = refl
undone_none (Invalid at by) version w validation h = refl

-- ---- operations

-- the operation validates the name
abbrev pub is_validation_of : Option Name → Name → Bool
is_validation_of validated n = option_map_or (name_eq n) validated false

pub validates_by : (n : Name) (op : AdminOp) → validates n op ≡ is_validation_of (validated_by op) n
validates_by n (AddUser u) = refl
validates_by n (DelUser u) = refl
validates_by n (AddObj o x) = refl
validates_by n (DelObj o) = refl
validates_by n (AddGroup g) = refl
validates_by n (DelGroup g) = refl
validates_by n (AddMember g u) = refl
validates_by n (DelMember g u) = refl
validates_by n (AddAuth i a) = refl
validates_by n (DelAuth i) = refl
validates_by n (Validate m) = refl

-- a validation reaches nobody
pub validation_reach : (p : Policy) (n : Name) (u : ℕ) (op : AdminOp) → validates n op ≡ true → is_reached (narrowed_reach p op) u ≡ false
validation_reach p n u (AddUser v) h = absurd cc
validation_reach p n u (DelUser v) h = absurd cc
validation_reach p n u (AddObj o x) h = absurd cc
validation_reach p n u (DelObj o) h = absurd cc
validation_reach p n u (AddGroup g) h = absurd cc
validation_reach p n u (DelGroup g) h = absurd cc
validation_reach p n u (AddMember g v) h = absurd cc
validation_reach p n u (DelMember g v) h = absurd cc
validation_reach p n u (AddAuth i a) h = absurd cc
validation_reach p n u (DelAuth i) h = absurd cc
validation_reach p n u (Validate m) h = refl

next_legal : (L : List Entry) (e : Entry) → IsLog L → FollowsLog L e → IsLegal (policy_of L) e.op
next_legal L e log follows =
    let size = length-append L (e ∷ []) in
    let front : take (length L) (L ++ e ∷ []) ≡ L = take-append-le (length L) L (e ∷ []) (omega arith) ∙ take-length L in
    let last : get_or (L ++ e ∷ []) (length L) e ≡ e = get_or_push L e e (length L) refl in
    let legal = legal_at (L ++ e ∷ []) (length L) e (EachAfter-push FollowsLog L e log follows) (omega (arith, size)) in
    subst (λ (M : List Entry). IsLegal (policy_of M) e.op) front
    (subst (λ (d : Entry). IsLegal (policy_of (take (length L) (L ++ e ∷ []))) d.op) last legal)

-- ---- a Tentative request at the front

module _ (names : List Name) (L : List Entry) (e : Entry) (log : IsLog L) (follows : FollowsLog L e) (q : Request) (carried : q.version ≤ length L) (waits : state_of names L q ≡ Tentative) where
  granted_now : request_verdict names (policy_of L) q ≡ Granted
  granted_now =
      elim (first_denial names L q) as (λ d. first_denial names L q ≡ d → state_by d (validated_at L q.id) ≡ Tentative → request_verdict names (policy_of L) q ≡ Granted) [
        | None ↦ λ f s. by f (validated_at L q.id) refl s
        | Some denial ↦ λ f s. absurd cc
      ] refl waits
    where
      by : first_denial names L q ≡ None → (x : Option ℕ) → validated_at L q.id ≡ x → state_by None x ≡ Tentative → request_verdict names (policy_of L) q ≡ Granted
      by f (Some v) g s = absurd cc
      by f None g s =
          let last : until L q ≡ length L = ap (λ x. option_map_or (λ v. max q.version v) x (length L)) g in
          ap (λ (M : List Entry). request_verdict names (policy_of M) q) (sym (take-length L))
          ∙ (granted_law names L q).0 (ap is_none f) (length L) carried (omega (arith, last))

  -- one of a user outside the reach is granted after the entry
  pub granted_later : is_reached (narrowed_reach (policy_of L) e.op) (user_of q) ≡ false → request_verdict names (policy_of (L ++ e ∷ [])) q ≡ Granted
  granted_later outside =
      ap (λ (p : Policy). request_verdict names p q) (policy_push L e)
      ∙ narrowed_reach_law names (policy_of L) e.version e.op (user_of q) (right_of q.edit) (element_of q) (next_legal L e log follows) outside granted_now

-- ---- what counts

-- the counted requests of a table are those of the definition, where the same are Invalid
pub counted_law : (f : Request → State) (R : List Request) (M : List Entry) (table : List Kept) → IsOnce R → is_in_order table ≡ true → IsBy f R table
    → ((q : Request) → Has R q → is_invalid (f q) ≡ is_invalid (state_in R M q)) → AreAlike (counted_of table) (counted_in R M)
counted_law f R M table once order is agree n =
    counted_found table n order
    ∙ ap (option_and_then counts_by) (is n)
    ∙ each (request_of R n) refl
    ∙ sym (filter_found (is_granted (text_order R) M) R n once)
  where
    each : (o : Option Request) → request_of R n ≡ o → option_and_then counts_by (option_map (kept_by f) o) ≡ option_and_then (λ q. when (is_granted (text_order R) M q) q) o
    each None e = refl
    each (Some q) e = ap (λ b. when b q) (ap not (agree q (found_has R n q e)) ∙ sym (granted_valid (text_order R) M q))

-- the cells of a table are those of the definition
pub cells_kept : (R : List Request) (L : List Entry) (table : List Kept) → IsHistory R → is_in_order table ≡ true → IsBy (state_in R L) R table → (e : Name) → kept_cell table e ≡ cell_in R L e
cells_kept R L table history order is e =
    let once = once_law R history in
    cell_of-sets (requests_kept table) R (counted_of table) (counted_in R L) e (requests_once table order) once (requests_alike (state_in R L) R table is)
    (counted_once table order) (filter_once (is_granted (text_order R) L) R once) (counted_law (state_in R L) R L table once order is (λ q h. refl))

-- and the same elements show
pub shows_kept : (R : List Request) (L : List Entry) (table : List Kept) → IsHistory R → is_in_order table ≡ true → IsBy (state_in R L) R table → (e : Name) → kept_shows table e ≡ shows_in R L e
shows_kept R L table history order is e = ap (λ (c : Option Cell). is_some (option_and_then shown c)) (cells_kept R L table history order is e)

pub reached_by : (t d x : Bool) → (t ≡ true → x ≡ false → d ≡ false) → (not (t && d) || x) ≡ true
reached_by true true true h = refl
reached_by true true false h = absurd (let f = h refl refl in cc)
reached_by true false x h = refl
reached_by false d x h = refl
