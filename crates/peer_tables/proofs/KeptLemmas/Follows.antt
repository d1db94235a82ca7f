-- What a request that may follow a journal finds there.
use Rattle.std.proofs.Common.{◌≡◌, ℕ, ◌≤◌, Bool, true, false, ◌&&◌, ◌||◌, List, [], ◌∷◌, ◌++◌, length, None, Some, refl, ap, sym, subst, ◌∙◌, arith}
use Rattle.std.specs.Prelude.{is_some, filter_map, option_map}
use Rattle.std.specs.declared.option.Option.{Option}
use Rattle.std.specs.Option.{option_or}
use Rattle.std.proofs.Math.Seq.{take-length}
use Rattle.element_name.specs.Cases.{given}
use Rattle.element_name.specs.Name.{Name, start, name_eq, has_name}
use Rattle.element_name.specs.Places.{is_anchor}
use Rattle.element_name.specs.Tree.{FollowsTree, IsTree}
use Rattle.element_name.proofs.EachAfterLemmas.{EachAfter-push, EachAfter-last}
use Rattle.element_name.proofs.NameOrder.{name_eq-comm}
use Rattle.coop_request.specs.declared.edit.Edit.{Edit}
use Rattle.coop_request.specs.declared.edit.Edit.TheVariants.{Insert, Delete, Update}
use Rattle.coop_request.specs.Edit.{is_insert, right_of, element_by, anchor_or_target, targets_start, placed_by}
use Rattle.coop_request.specs.Request.{Request, user_of}
use Rattle.coop_request.specs.History.{placed_of, elements_of, text_order, FollowsHistory}
use Rattle.coop_request.proofs.Histories.{IsTree-placed_of, new_element}
use Rattle.policy_book.specs.Entry.{Entry}
use Rattle.auth_match.specs.Coverage.{IsJudged, names_with, judged_name}
use Rattle.auth_match.specs.Requests.{request_verdict}
use Rattle.admin_log.specs.Log.{policy_of}
use Rattle.check_local.specs.Local.{local_verdict, with_version as told_at}
use Rattle.check_remote.specs.State.{verdict_at}
use Rattle.elem_show.specs.Cell.{own_piece, cell_from}
use Rattle.request_state.specs.declared.kept.Kept.{Kept}
use Rattle.request_state.specs.Table.{kept_cell}
use Rattle.tomb_seq.proofs.Theorems.{no_fault_law}
use Rattle.tomb_seq.specs.declared.slot.Slot.{Slot}
use Rattle.coop_request.specs.declared.request.TheConstants.{MAX_REQUESTS}
use Rattle.peer_tables.specs.Derived.{counted_in}
use Rattle.peer_tables.specs.Kept.{AreKnown, AreTablesOf, IsJoinable, IsPlaceable, judged_by, kept_in, names_after}
use Rattle.peer_tables.proofs.HistoryLemmas.{has_order, order_push, no_start_target, placed_append, other_true}
use Rattle.peer_tables.proofs.KeptLemmas.OneMore.{fresh}
use Rattle.peer_tables.proofs.KeptLemmas.States.{cells_kept}

-- an element has a cell
own_there : (R : List Request) (e : Name) → has_name (elements_of R) e ≡ true → is_some (own_piece R e) ≡ true
own_there [] e h = absurd cc
own_there (q ∷ R) e h = by q.id q.version q.edit h (own_there R e)
  where
    rest : (o : Option (List ℕ)) → is_some (own_piece R e) ≡ true → is_some (option_or o (own_piece R e)) ≡ true
    rest None h = h
    rest (Some p) h = refl

    first : (b : Bool) (letter : List ℕ) → (b ≡ false → is_some (own_piece R e) ≡ true) → is_some (option_or (given (b && true) (Some letter)) (own_piece R e)) ≡ true
    first true letter h = refl
    first false letter h = h refl

    none : (b : Bool) (o : Option (List ℕ)) → is_some (own_piece R e) ≡ true → is_some (option_or (given (b && false) o) (own_piece R e)) ≡ true
    none true o h = h
    none false o h = h

    by : (id : Name) (version : ℕ) (edit : Edit) → has_name (elements_of (record { id = id; version = version; edit = edit } ∷ R)) e ≡ true
        → (has_name (elements_of R) e ≡ true → is_some (own_piece R e) ≡ true)
        → is_some (own_piece (record { id = id; version = version; edit = edit } ∷ R) e) ≡ true
    by id version (Insert after letter) there more =
        first (name_eq id e) letter (λ f. more (other_true (name_eq e id) (has_name (elements_of R) e) there (name_eq-comm e id ∙ f)))
    by id version (Delete target) there more = none (name_eq id e) None (more there)
    by id version (Update target letter) there more = none (name_eq id e) (Some letter) (more there)

module _ (R : List Request) (L : List Entry) (known : AreKnown R L) (r : Request) (follows : FollowsHistory R r) where
  target_there : (edit : Edit) → r.edit ≡ edit → targets_start edit ≡ false → (target : Name) → anchor_or_target edit ≡ target → name_eq target start ≡ false
      → has_name (elements_of R) target ≡ true
  target_there edit is st target at off =
      other_true (name_eq target start) (has_name (elements_of R) target)
      (subst (λ (n : Name). is_anchor (elements_of R) n ≡ true) (ap anchor_or_target is ∙ at) follows.known) off

  no_start_by : (edit : Edit) → r.edit ≡ edit → targets_start edit ≡ false
  no_start_by edit is = subst (λ (x : Edit). targets_start x ≡ false) is (no_start_target r follows.accepted)

  in_order : (n : Name) → has_name (elements_of R) n ≡ true → has_name (text_order R) n ≡ true
  in_order n h = has_order R n known.history ∙ h

  longer_tree : (after : Name) (letter : List ℕ) → r.edit ≡ Insert after letter → IsTree (placed_of R ++ record { name = r.id; anchor = after } ∷ [])
  longer_tree after letter is =
      subst IsTree
      (placed_append R r ∙ ap (λ (edit : Edit). placed_of R ++ filter_map (λ (q : Request). placed_by q.id q.edit) (record { id = r.id; version = r.version; edit = edit } ∷ [])) is)
      (IsTree-placed_of (R ++ r ∷ []) (EachAfter-push FollowsHistory R r known.history follows))

  placeable_by : (edit : Edit) → r.edit ≡ edit → IsPlaceable (text_order R) r.id edit
  placeable_by (Insert after letter) is = no_fault_law (placed_of R) (record { name = r.id; anchor = after }) (longer_tree after letter is)
  placeable_by (Delete target) is = in_order target (target_there (Delete target) is (no_start_by (Delete target) is) target refl (no_start_by (Delete target) is))
  placeable_by (Update target letter) is =
      in_order target (target_there (Update target letter) is (no_start_by (Update target letter) is) target refl (no_start_by (Update target letter) is))

  pub placeable : IsPlaceable (text_order R) r.id r.edit
  placeable = placeable_by r.edit refl

  some_cell : (o : Option (List ℕ)) (C : List Request) (e : Name) → is_some o ≡ true → is_some (option_map (λ own. cell_from e own C) o) ≡ true
  some_cell None C e h = h
  some_cell (Some own) C e h = refl

  module _ (slots : List Slot) (table : List Kept) (stamp : ℕ) (kept : AreTablesOf R L slots table stamp) where
    cell_there : (target : Name) → has_name (elements_of R) target ≡ true → is_some (kept_cell table target) ≡ true
    cell_there target h = ap is_some (cells_kept R L table known.history kept.in_order kept.states target) ∙ some_cell (own_piece R target) (counted_in R L) target (own_there R target h)

    element_there : (edit : Edit) → r.edit ≡ edit → (is_insert edit || is_some (kept_cell table (element_by r.id edit))) ≡ true
    element_there (Insert after letter) is = refl
    element_there (Delete target) is = cell_there target (target_there (Delete target) is (no_start_by (Delete target) is) target refl (no_start_by (Delete target) is))
    element_there (Update target letter) is =
        cell_there target (target_there (Update target letter) is (no_start_by (Update target letter) is) target refl (no_start_by (Update target letter) is))

    pub joinable : length R ≤ MAX_REQUESTS → IsJoinable table r
    joinable few = record {
      new = kept.states r.id ∙ ap (option_map (kept_in R L)) (fresh R L known r follows);
      element = element_there r.edit refl;
      few = let size = kept.size in omega (arith, size, few);
    }

  -- ---- the verdict

  judged_by_edit : (edit : Edit) → r.edit ≡ edit → IsJudged (text_order R) (judged_by r.id edit)
  judged_by_edit (Insert after letter) is = record {
    new = has_order R r.id known.history ∙ new_element R r.id follows.new;
    anchored = ap (λ b. name_eq after start || b) (has_order R after known.history) ∙ subst (λ (edit : Edit). is_anchor (elements_of R) (anchor_or_target edit) ≡ true) is follows.known;
    rising = (EachAfter-last FollowsTree (placed_of R) (record { name = r.id; anchor = after }) (longer_tree after letter is)).rising;
  }
  judged_by_edit (Delete target) is = in_order target (target_there (Delete target) is (no_start_by (Delete target) is) target refl (no_start_by (Delete target) is))
  judged_by_edit (Update target letter) is =
      in_order target (target_there (Update target letter) is (no_start_by (Update target letter) is) target refl (no_start_by (Update target letter) is))

  pub judged : IsJudged (text_order R) (judged_by r.id r.edit)
  judged = judged_by_edit r.edit refl

  names_judged : (edit : Edit) → names_with (text_order R) (judged_by r.id edit) ≡ names_after (text_order R) r.id edit
  names_judged (Insert after letter) = refl
  names_judged (Delete target) = refl
  names_judged (Update target letter) = refl

  name_judged : (edit : Edit) → judged_name (judged_by r.id edit) ≡ element_by r.id edit
  name_judged (Insert after letter) = refl
  name_judged (Delete target) = refl
  name_judged (Update target letter) = refl

  pub told : local_verdict (names_with (text_order R) (judged_by r.id r.edit)) (policy_of L) (length L) (user_of r) (right_of r.edit) (judged_name (judged_by r.id r.edit))
      ≡ told_at (length L) (verdict_at (text_order (R ++ r ∷ [])) L r (length L))
  told =
      ap (λ (names : List Name). local_verdict names (policy_of L) (length L) (user_of r) (right_of r.edit) (judged_name (judged_by r.id r.edit)))
      (names_judged r.edit ∙ sym (order_push R r known.history follows))
      ∙ ap (λ (e : Name). local_verdict (text_order (R ++ r ∷ [])) (policy_of L) (length L) (user_of r) (right_of r.edit) e) (name_judged r.edit)
      ∙ sym (ap (λ (M : List Entry). told_at (length L) (request_verdict (text_order (R ++ r ∷ [])) (policy_of M) r)) (take-length L))
