-- The lines of a journal's entries, one message more at a time.
use Rattle.std.proofs.Common.{◌≡◌, ℕ, zero, suc, ◌+◌, List, [], ◌∷◌, ◌++◌, take, refl, ap, sym, ◌∙◌, add-one, append_assoc}
use Rattle.std.specs.Prelude.{slice_get, option_map, unwrap_or}
use Rattle.std.proofs.lemmas.List.{append-nil}
use Rattle.edit_message.specs.declared.message.Message.{Message}
use Rattle.follow_talk.specs.OutputRows.{entry_line, entry_lines}

entries_suc : (J : List Message) (i : ℕ) → entry_lines (take (suc i) J) ≡ entry_lines (take i J) ++ unwrap_or (option_map entry_line (slice_get J i)) []
entries_suc [] zero = refl
entries_suc [] (suc i) = refl
entries_suc (x ∷ J) zero = append-nil (entry_line x)
entries_suc (x ∷ J) (suc i) =
    ap (λ (bs : List ℕ). entry_line x ++ bs) (entries_suc J i)
    ∙ sym (append_assoc (entry_line x) (entry_lines (take i J)) (unwrap_or (option_map entry_line (slice_get J i)) []))

-- one message more
pub entries_more : (J : List Message) (i : ℕ) → entry_lines (take (i + 1) J) ≡ entry_lines (take i J) ++ unwrap_or (option_map entry_line (slice_get J i)) []
entries_more J i = ap (λ (n : ℕ). entry_lines (take n J)) (add-one i) ∙ entries_suc J i
