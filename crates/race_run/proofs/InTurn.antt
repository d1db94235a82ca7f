-- There is a run of any three lists: one after the other.
use Rattle.std.proofs.Common.{◌≡◌, ◌≢◌, ℕ, ◌≤◌, List, [], ◌∷◌, ◌++◌, refl, ap, ◌∙◌, arith, cond, eq-eqb, ne_eqb, append-nil}
use Rattle.std.specs.Prelude.{map}
use Rattle.peer_step.specs.declared.step.Step.{Step}
use Rattle.peer_lock.specs.declared.call.Call.{Call}
use Rattle.peer_lock.specs.Run.{call, steps_by}
use Rattle.peer_lock.proofs.Lists.{steps-append}
use Rattle.race_run.specs.Race.{IsRaceOf}

abbrev pub in_turn : List Step → List Step → List Step → List Call
in_turn xs ys zs = map (call 0) xs ++ (map (call 1) ys ++ map (call 2) zs)

own_steps : (n : ℕ) (xs : List Step) → steps_by n (map (call n) xs) ≡ xs
own_steps n [] = refl
own_steps n (x ∷ xs) =
    let rest : List Step = steps_by n (map (call n) xs) in
    ap (λ b. cond {A = List Step} b (x ∷ rest) rest) (eq-eqb n n refl) ∙ ap (λ (l : List Step). x ∷ l) (own_steps n xs)

other_steps : (n m : ℕ) (xs : List Step) → m ≢ n → steps_by n (map (call m) xs) ≡ []
other_steps n m [] ne = refl
other_steps n m (x ∷ xs) ne =
    let rest : List Step = steps_by n (map (call m) xs) in
    ap (λ b. cond {A = List Step} b (x ∷ rest) rest) (ne_eqb m n ne) ∙ other_steps n m xs ne

module _ (xs ys zs : List Step) where
  parts : (n : ℕ) → steps_by n (in_turn xs ys zs) ≡ steps_by n (map (call 0) xs) ++ (steps_by n (map (call 1) ys) ++ steps_by n (map (call 2) zs))
  parts n =
      steps-append n (map (call 0) xs) (map (call 1) ys ++ map (call 2) zs)
      ∙ ap (λ (l : List Step). steps_by n (map (call 0) xs) ++ l) (steps-append n (map (call 1) ys) (map (call 2) zs))

  joined : (n : ℕ) (a b c : List Step) → steps_by n (map (call 0) xs) ≡ a → steps_by n (map (call 1) ys) ≡ b → steps_by n (map (call 2) zs) ≡ c
      → steps_by n (in_turn xs ys zs) ≡ a ++ (b ++ c)
  joined n a b c p q r =
      parts n
      ∙ ap (λ (l : List Step). l ++ (steps_by n (map (call 1) ys) ++ steps_by n (map (call 2) zs))) p
      ∙ ap (λ (l : List Step). a ++ (l ++ steps_by n (map (call 2) zs))) q
      ∙ ap (λ (l : List Step). a ++ (b ++ l)) r

  pub is_race : IsRaceOf xs ys zs (in_turn xs ys zs)
  is_race = record {
    editor = joined 0 xs [] [] (own_steps 0 xs) (other_steps 0 1 ys (λ e. omega arith)) (other_steps 0 2 zs (λ e. omega arith)) ∙ append-nil xs;
    receiver = joined 1 [] ys [] (other_steps 1 0 xs (λ e. omega arith)) (own_steps 1 ys) (other_steps 1 2 zs (λ e. omega arith)) ∙ append-nil ys;
    administrator = joined 2 [] [] zs (other_steps 2 0 xs (λ e. omega arith)) (other_steps 2 1 ys (λ e. omega arith)) (own_steps 2 zs);
    others = λ n le. joined n [] [] [] (other_steps n 0 xs (λ e. omega (arith, le))) (other_steps n 1 ys (λ e. omega (arith, le))) (other_steps n 2 zs (λ e. omega (arith, le)));
  }
