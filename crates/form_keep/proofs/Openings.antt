-- The store of a run, by what the disk told at entry.
use Rattle.std.proofs.Common.{◌≡◌, ℕ, false, List, [], ◌∷◌, Option, Some, None, IfSome, IsSome, length, refl, sym, ap, ◌∙◌, subst}
use Rattle.peer_step.specs.declared.step.Step.{Step}
use Rattle.peer_store.specs.Store.{StandsFor, Saved, IsSaved}
use Rattle.form_keep.specs.Keeping.{AtEntry, OpenedStore}

-- a told file isn't empty
some_told : (entry : Option (List ℕ)) (n : ℕ) → IfSome entry (λ bytes. n ≡ length bytes) → (n ≡ 0 → ⊥) → IfSome entry (λ file. file ≡ [] → ⊥)
some_told None n told some = tt
some_told (Some file) n told some = λ e. some (told ∙ ap length e)

pub opened_old : (site : ℕ) (entry mid now : Option (List ℕ)) (may : List ℕ → Type 0) (store : Saved) (n : ℕ) → IfSome entry (λ bytes. n ≡ length bytes) → (n ≡ 0 → ⊥) → mid ≡ entry → now ≡ mid
    → (IsSome mid → (steps : List Step) × IsSaved site steps store now may) → store.spent ≡ false → OpenedStore site entry store now may
opened_old site entry mid now may store n told some same kept_seen saved unspent =
    by entry (some_told entry n told some) (kept_seen ∙ same) (λ t. saved (subst (λ (o : Option (List ℕ)). IsSome o) (sym same) t))
  where
    at_entry : (kept : List Step) (file : List ℕ) → (file ≡ [] → ⊥) → StandsFor site kept file → AtEntry site kept file
    at_entry kept [] not_empty stands = absurd (not_empty refl)
    at_entry kept (b ∷ file) not_empty stands = stands

    stands_for : (kept : List Step) (file : List ℕ) → now ≡ Some file → IsSaved site kept store now may → StandsFor site kept file
    stands_for kept file is kept_as =
        let told_as : Some kept_as.keeps.file ≡ Some file = sym kept_as.keeps.told ∙ is in
        let one : kept_as.keeps.file ≡ file = cc in
        subst (StandsFor site kept) one (record { bodies = kept_as.bodies; spelled = kept_as.spelled; has = kept_as.keeps.has })

    by : (o : Option (List ℕ)) → IfSome o (λ file. file ≡ [] → ⊥) → now ≡ o → (IsSome o → (steps : List Step) × IsSaved site steps store now may) → OpenedStore site o store now may
    by None not_empty is found = record { kept = []; begins = tt; saved = λ t. absurd (cc t); unspent = unspent }
    by (Some file) not_empty is found = record {
      kept = (found refl).0;
      begins = at_entry (found refl).0 file not_empty (stands_for (found refl).0 file is (found refl).1);
      saved = λ t. (found refl).1;
      unspent = unspent;
    }
