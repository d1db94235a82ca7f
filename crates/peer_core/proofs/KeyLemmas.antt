-- In a journal one key is that of one message.
use Rattle.std.proofs.Common.{◌≡◌, inl, inr, Bool, true, false, List, [], ◌∷◌, ◌++◌, refl, ap, sym, subst, ◌∙◌}
use Rattle.std.specs.List.{list_any}
use Rattle.std.proofs.lemmas.Bool.{or_parts, both_ways}
use Rattle.std.proofs.lemmas.List.Folds.{list_any-append, list_any-from_Any}
use Rattle.element_name.specs.Growing.{EachFrom}
use Rattle.tomb_seq.proofs.Has.{Has, Has-append_right, Contains-from_Has}
use Rattle.edit_message.specs.declared.message.Message.{Message}
use Rattle.edit_message.specs.declared.message.Key.{Key}
use Rattle.edit_message.specs.Message.{key_of, key_eq}
use Rattle.peer_tables.specs.Journal.{has_key_of, FollowsJournal}
use Rattle.peer_tables.proofs.PackedKeyLemmas.{own_key}
use Rattle.peer_core.proofs.BeginningLemmas.{Begins, begins_has}

-- the last of a list stands in it
pub has_last : {X : Type 0} (xs : List X) (x : X) → Has (xs ++ x ∷ []) x
has_last xs x = Has-append_right xs (x ∷ []) x (inl refl)

-- what passes a test makes the test of any pass
pub any_has : {X : Type 0} (test : X → Bool) (xs : List X) (x : X) → Has xs x → test x ≡ true → list_any test xs ≡ true
any_has test xs x h passes = let at = Contains-from_Has xs x h in list_any-from_Any test xs (at.0, x, at.1, at.2, passes)

-- a message that stands there is known by its key
pub key_known : (J : List Message) (a m : Message) → Has J a → key_of a ≡ key_of m → has_key_of J m ≡ true
key_known J a m h same =
    any_has (λ k. key_eq (key_of k) (key_of m)) J a h (ap (λ (key : Key). key_eq key (key_of m)) same ∙ own_key (key_of m))

-- a message of a journal is new to those before it
later_new : (B J : List Message) (m : Message) → EachFrom FollowsJournal B J → Has J m → has_key_of B m ≡ false
later_new B [] m each h = absurd h
later_new B (x ∷ J) m each (inl p) = subst (λ (y : Message). has_key_of B y ≡ false) p each.0.new
later_new B (x ∷ J) m each (inr h) =
    (or_parts (has_key_of B m) (has_key_of (x ∷ []) m)
    (sym (list_any-append (λ k. key_eq (key_of k) (key_of m)) B (x ∷ [])) ∙ later_new (B ++ x ∷ []) J m each.1 h)).0

-- two messages of one key are one
pub same_by_key : (B J : List Message) (a b : Message) → EachFrom FollowsJournal B J → Has J a → Has J b → key_of a ≡ key_of b → a ≡ b
same_by_key B [] a b each h g same = absurd h
same_by_key B (x ∷ J) a b each (inl p) (inl q) same = sym p ∙ q
same_by_key B (x ∷ J) a b each (inl p) (inr g) same =
    absurd (both_ways (has_key_of (B ++ x ∷ []) b) (later_new (B ++ x ∷ []) J b each.1 g) (key_known (B ++ x ∷ []) x b (has_last B x) (ap key_of p ∙ same)))
same_by_key B (x ∷ J) a b each (inr h) (inl q) same =
    absurd (both_ways (has_key_of (B ++ x ∷ []) a) (later_new (B ++ x ∷ []) J a each.1 h) (key_known (B ++ x ∷ []) x a (has_last B x) (ap key_of q ∙ sym same)))
same_by_key B (x ∷ J) a b each (inr h) (inr g) same = same_by_key (B ++ x ∷ []) J a b each.1 h g same

-- so two that stand in beginnings of a journal, one of them in a beginning of a beginning, are one
pub one_message : (S F T J : List Message) (a b : Message) → EachFrom FollowsJournal [] J → Begins S F → Begins F J → Begins T J → Has S a → Has T b → key_of a ≡ key_of b → a ≡ b
one_message S F T J a b each first second other h g = same_by_key [] J a b each (begins_has F J a second (begins_has S F a first h)) (begins_has T J b other g)
