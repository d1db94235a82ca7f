-- Users with how many names each has, and what is said of these.
use Rattle.std.proofs.Common.{◌≡◌, ◌↔◌, ℕ, ◌<◌, List, [], ◌∷◌, ◌++◌, Option, Some, None, IfSome, IsSome, All, length, get_or, flat_map, refl, sym, ap, subst, ◌∙◌, arith}
use Rattle.std.specs.Prelude.{unwrap_or}
use Rattle.std.specs.Cmp.{nat_cmp_total}
use Rattle.std.specs.Ordering.{nat_cmp}
use Rattle.std.specs.Map.{keys_of}
use Rattle.std.specs.BTreeMap.{BTreeMap, get, keys, IsOrdered}
use Rattle.std.proofs.lemmas.Bool.{false≢true}
use Rattle.std.proofs.lemmas.List.Elements.{All-head, All-tail, All-from_get_or, Contains-get_or}
use Rattle.std.proofs.lemmas.Map.Lookups.{exact_unsigned}
use Rattle.std.proofs.lemmas.Map.Views.{btree_map_get_iff, btree_map_contains_key_iff}
use Rattle.std.proofs.lemmas.Map.Keys.{IsStrictlyIncreasing-from_sorted}
use Rattle.element_name.specs.Name.{Name}
use Rattle.policy_book.specs.declared.op.AdminOp.{AdminOp}
use Rattle.peer_step.specs.declared.step.Step.TheVariants.{Administer}
use Rattle.peer_step.specs.declared.answer.Answer.{Answer}
use Rattle.peer_core.specs.Peer.{Peer}
use Rattle.peer_core.specs.Answers.{answer_of}
use Rattle.line_spelling.specs.Answers.{answer_line}
use Rattle.peer_outlook.specs.Outlook.{names_undone}
use Rattle.host_interface.specs.Foreseen.{names_by, user_line, AreUserLines, IsOutlook}

-- the lines of entries of which each has how many names its user has
lines_alike : (names : List Name) (es : List (ℕ × ℕ)) → All (λ e. names_by names e.0 ≡ e.1) es
    → flat_map (λ e. user_line e.0 e.1) es ≡ flat_map (λ user. user_line user (names_by names user)) (keys_of es)
lines_alike names [] all = refl
lines_alike names (e ∷ es) all =
    let here : names_by names e.0 ≡ e.1 = All-head (λ (x : ℕ × ℕ). names_by names x.0 ≡ x.1) e es all in
    let rest = lines_alike names es (All-tail (λ (x : ℕ × ℕ). names_by names x.0 ≡ x.1) e es all) in
    ap (λ (n : ℕ). user_line e.0 n ++ flat_map (λ (x : ℕ × ℕ). user_line x.0 x.1) es) (sym here)
    ∙ ap (λ (more : List ℕ). user_line e.0 (names_by names e.0) ++ more) rest

-- a user is found exactly if he has some
found_if_some : (n : ℕ) (found : Option ℕ) → unwrap_or found 0 ≡ n → IfSome found (λ count. 0 < count) → IsSome found ↔ (0 < n)
found_if_some n None same some = ((λ there. absurd (false≢true there)), (λ (positive : 0 < n). absurd (omega (arith, same, positive))))
found_if_some n (Some count) same some = ((λ there. omega (arith, same, some)), (λ positive. refl))

-- the lines of a map's entries that has how many names each user has, and nobody who has none
pub lines_of_counts : (names : List Name) (counts : BTreeMap ℕ ℕ) (lines : List ℕ) → IsOrdered nat_cmp counts
    → ((user : ℕ) → unwrap_or (get nat_cmp counts user) 0 ≡ names_by names user) → ((user : ℕ) → IfSome (get nat_cmp counts user) (λ count. 0 < count))
    → lines ≡ flat_map (λ entry. user_line entry.0 entry.1) counts.entries → AreUserLines names lines
lines_of_counts names counts lines ordered number some said =
    let entry_at : (i : ℕ) → i < length counts.entries → names_by names (get_or counts.entries i (0, 0)).0 ≡ (get_or counts.entries i (0, 0)).1 =
    (λ i inside.
    let e = get_or counts.entries i (0, 0) in
    let got : get nat_cmp counts e.0 ≡ Some e.1 = (btree_map_get_iff nat_cmp_total exact_unsigned counts ordered e.0 e.1).1 (Contains-get_or counts.entries i (0, 0) inside) in
    sym (number e.0) ∙ ap (λ (found : Option ℕ). unwrap_or found 0) got) in
    let entries = All-from_get_or (λ (e : ℕ × ℕ). names_by names e.0 ≡ e.1) counts.entries (0, 0) entry_at in
    record {
      users = keys counts;
      ascending = IsStrictlyIncreasing-from_sorted (keys counts) ordered;
      each = λ user.
          let among = btree_map_contains_key_iff nat_cmp_total exact_unsigned counts user in
          let there = found_if_some (names_by names user) (get nat_cmp counts user) (number user) (some user) in
          ((λ has. there.0 (among.1 has)), (λ positive. among.0 (there.1 positive)));
      said = said ∙ lines_alike names counts.entries entries;
    }

-- the line of an answer with the lines of the users behind it
pub outlook_said : (p : Peer) (op : AdminOp) (answer : Answer) (names : List Name) (line whose lines : List ℕ) → answer ≡ answer_of p (Administer op)
    → names ≡ names_undone p op → line ≡ answer_line None answer → AreUserLines names whose → lines ≡ line ++ whose → IsOutlook p op lines
outlook_said p op answer names line whose lines answered undone written are said = record {
  whose = whose;
  undone = subst (λ (ns : List Name). AreUserLines ns whose) undone are;
  said = said ∙ ap (λ (l : List ℕ). l ++ whose) (written ∙ ap (λ (a : Answer). answer_line None a) answered);
}
