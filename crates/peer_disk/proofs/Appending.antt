-- Records and buffers of one list behind another.
use Rattle.std.proofs.Common.{◌≡◌, ℕ, List, [], ◌∷◌, ◌++◌, refl, sym, ◌∙◌, ap, append_assoc, Vec}
use Rattle.std.proofs.lemmas.List.{append-nil, map-append}
use Rattle.peer_disk.specs.Records.{record_of, records, bytes_of_each}

pub records-append : (some others : List (List ℕ)) → records (some ++ others) ≡ records some ++ records others
records-append [] others = refl
records-append (body ∷ some) others = ap (λ (l : List ℕ). record_of body ++ l) (records-append some others) ∙ sym (append_assoc (record_of body) (records some) (records others))

pub records-push : (bodies : List (List ℕ)) (body : List ℕ) → records (bodies ++ body ∷ []) ≡ records bodies ++ record_of body
records-push bodies body = records-append bodies (body ∷ []) ∙ ap (λ (l : List ℕ). records bodies ++ l) (append-nil (record_of body))

pub each-append : {A : Type 0} (some others : List (Vec ℕ A)) → bytes_of_each (some ++ others) ≡ bytes_of_each some ++ bytes_of_each others
each-append some others = map-append (λ buffer. buffer.items) some others
