-- Lists of pages that begin one another, and lists that are read by `get_elem?`.
use Rattle.std.proofs.Common.{Bool, true, false, MatchBool, ◌≡◌, ◌⊎◌, ℕ, zero, suc, ◌<◌, List, [], ◌∷◌, ◌++◌, length, sym, refl, ap, ◌∙◌, arith, ◌≤◌, inl, inr, ⊎_elim, append_assoc}
use lib.Dec.{leb}
use Rattle.std.proofs.lemmas.Bool.Decides.{nat_tests}
use mathlib.Core.List.{IsPrefix}
use mathlib.Core.Option.{some, some-injective, some-ne-none}
use lib.ListN.{get_elem?}
use Rattle.screen_read.specs.Pages.{PageText, IsAscending, AllBegin}

module _ {A : Type 0} where
  pub prefix_more : (xs ys more : List A) → IsPrefix xs ys → IsPrefix xs (ys ++ more)
  prefix_more xs ys more p = (p.0 ++ more, sym (append_assoc xs p.0 more) ∙ ap (λ (l : List A). l ++ more) p.1)

  -- the last place of a list that is one longer
  pub at_end : (l : List A) (a b : A) (j : ℕ) → get_elem? (l ++ a ∷ []) j ≡ some b → (get_elem? l j ≡ some b) ⊎ ((a ≡ b) × (j ≡ length l))
  at_end [] a b zero e = inr (some-injective a b e, refl)
  at_end [] a b (suc j) e = absurd (some-ne-none b (sym e))
  at_end (x ∷ xs) a b zero e = inl e
  at_end (x ∷ xs) a b (suc j) e = ⊎_elim (λ (t : get_elem? xs j ≡ some b). inl t) (λ (t : (a ≡ b) × (j ≡ length xs)). inr (t.0, ap suc t.1)) (at_end xs a b j e)

-- of two beginnings of one list the shorter begins the longer
pub prefix_shorter : {A : Type 0} (xs ys zs : List A) → IsPrefix xs zs → IsPrefix ys zs → length xs ≤ length ys → IsPrefix xs ys
prefix_shorter [] ys zs p q le = (ys, refl)
prefix_shorter (x ∷ xs) [] zs p q le = absurd (omega arith)
prefix_shorter (x ∷ xs) (y ∷ ys) [] p q le = absurd (cc (p.1))
prefix_shorter (x ∷ xs) (y ∷ ys) (z ∷ zs) p q le =
    let heads : x ≡ y = cc (p.1, q.1) in
    let rest = prefix_shorter xs ys zs (p.0, cc (p.1)) (q.0, cc (q.1)) (omega arith) in
    (rest.0, cc (heads, rest.1))

-- a beginning as long as the whole is the whole
pub prefix_whole : {A : Type 0} (xs ys : List A) → IsPrefix xs ys → length ys ≤ length xs → xs ≡ ys
prefix_whole [] [] p le = refl
prefix_whole [] (y ∷ ys) p le = absurd (omega arith)
prefix_whole (x ∷ xs) [] p le = absurd (cc (p.1))
prefix_whole (x ∷ xs) (y ∷ ys) p le =
    let rest = prefix_whole xs ys (p.0, cc (p.1)) (omega arith) in cc (p.1, rest)

-- of two beginnings of one list, whose lengths are m and n
pub begins_either : (xs ys zs : List PageText) (m n : ℕ) → IsPrefix xs zs → IsPrefix ys zs → m ≡ length xs → n ≡ length ys → (b : Bool) → leb m n ≡ b → MatchBool b (IsPrefix xs ys) (IsPrefix ys xs)
begins_either xs ys zs m n p q e f true is = let le : m ≤ n = grind (arith, nat_tests) in prefix_shorter xs ys zs p q (omega arith)
begins_either xs ys zs m n p q e f false is = let less : n < m = grind (arith, nat_tests) in prefix_shorter ys xs zs q p (omega arith)

pub prefix_trans : {A : Type 0} (xs ys zs : List A) → IsPrefix xs ys → IsPrefix ys zs → IsPrefix xs zs
prefix_trans xs ys zs p q = (p.0 ++ q.0, sym (append_assoc xs p.0 q.0) ∙ ap (λ w. w ++ q.0) p.1 ∙ q.1)

-- what begins a list begins each that it begins
pub all_begin_longer : (ls : List (List PageText)) (xs ys : List PageText) → AllBegin ls xs → IsPrefix xs ys → AllBegin ls ys
all_begin_longer [] xs ys a p = tt
all_begin_longer (l ∷ ls) xs ys a p = (prefix_trans l xs ys a.0 p, all_begin_longer ls xs ys a.1 p)

pub all_begin_more : (ls : List (List PageText)) (pages more : List PageText) → AllBegin ls pages → AllBegin ls (pages ++ more)
all_begin_more [] pages more a = tt
all_begin_more (l ∷ ls) pages more a = (prefix_more l pages more a.0, all_begin_more ls pages more a.1)

pub all_begin_one_more : (ls : List (List PageText)) (l pages : List PageText) → AllBegin ls pages → IsPrefix l pages → AllBegin (ls ++ l ∷ []) pages
all_begin_one_more [] l pages a p = (p, tt)
all_begin_one_more (x ∷ xs) l pages a p = (a.0, all_begin_one_more xs l pages a.1 p)

-- a page with more steps than the last one can follow
pub ascending-push : (xs : List PageText) (p q : PageText) → IsAscending (xs ++ p ∷ []) → p.steps < q.steps → IsAscending ((xs ++ p ∷ []) ++ q ∷ [])
ascending-push [] p q a up = (up, tt)
ascending-push (x ∷ []) p q a up = (a.0, (up, tt))
ascending-push (x ∷ y ∷ ys) p q a up = (a.0, ascending-push (y ∷ ys) p q a.1 up)
