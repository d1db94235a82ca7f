-- How a journal, End and its certificate are put together.
use Rattle.std.proofs.Common.{◌≡◌, ℕ, suc, ◌+◌, List, [], ◌∷◌, ◌++◌, take, Some, Result, Ok, Err, sym, ap, ◌∙◌, append_assoc, arith}
use Rattle.std.specs.Prelude.{slice_get, OnOk}
use Rattle.std.proofs.Math.Seq.{take-suc}
use Rattle.std.proofs.lemmas.Option.{slice_get_within, get_or_from_slice_get}
use Rattle.edit_message.specs.declared.message.Message.{Message}
use Rattle.edit_frame.specs.declared.frame.Frame.TheVariants.{End}
use Rattle.edit_frame.specs.Spelling.{spelling}
use Rattle.audit_cert.specs.Certificate.{certificate_bytes}
use Rattle.form_certificate.specs.Certify.{journal_bytes, certified_bytes}

-- one more message of a journal
pub one_more : (J : List Message) (i : ℕ) (m : Message) (items now : List Message) → items ≡ take i J → Some m ≡ slice_get J i → now ≡ items ++ m ∷ [] → now ≡ take (i + 1) J
one_more J i m items now so_far at pushed =
    let next : suc i ≡ i + 1 = omega arith in
    let there : take (suc i) J ≡ take i J ++ m ∷ [] =
    take-suc J i m (slice_get_within J i m (sym at)) ∙ ap (λ (k : Message). take i J ++ k ∷ []) (get_or_from_slice_get J i m m (sym at)) in
    pushed ∙ ap (λ (K : List Message). K ++ m ∷ []) so_far ∙ sym there ∙ ap (λ (n : ℕ). take n J) next

-- its frames, End and its certificate, put one behind the other
pub put_together : {A E : Type 0} (r : Result A E) (J K M : List Message) (out one two three : List ℕ) → K ≡ J → M ≡ J → one ≡ out ++ journal_bytes K
    → two ≡ one ++ spelling End → OnOk r (three ≡ two ++ certificate_bytes M) → OnOk r (three ≡ out ++ certified_bytes J)
put_together (Err e) J K M out one two three same again framed ended told = tt
put_together (Ok x) J K M out one two three same again framed ended told =
    told
    ∙ ap (λ (N : List Message). two ++ certificate_bytes N) (again ∙ sym same)
    ∙ ap (λ (l : List ℕ). l ++ certificate_bytes K) (ended ∙ ap (λ (l : List ℕ). l ++ spelling End) framed)
    ∙ ap (λ (l : List ℕ). l ++ certificate_bytes K) (append_assoc out (journal_bytes K) (spelling End))
    ∙ append_assoc out (journal_bytes K ++ spelling End) (certificate_bytes K)
    ∙ ap (λ (l : List ℕ). out ++ l) (append_assoc (journal_bytes K) (spelling End) (certificate_bytes K))
    ∙ ap (λ (N : List Message). out ++ certified_bytes N) same
