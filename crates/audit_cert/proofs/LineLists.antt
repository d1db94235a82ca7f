-- The lines of all requests of a journal, and why each may be judged.
use Rattle.std.proofs.Common.{◌≡◌, ℕ, true, List, [], ◌∷◌, ◌++◌, length, refl, sym, ap, ◌∙◌, arith, inl, inr, append_assoc}
use Rattle.std.specs.Prelude.{map, nat_le}
use Rattle.std.specs.List.{concat, flat_map, list_all}
use Rattle.std.proofs.lemmas.Bool.{and_from}
use Rattle.std.proofs.lemmas.Bool.Decides.{nat_tests}
use Rattle.std.proofs.lemmas.List.Folds.{concat-append}
use Rattle.element_name.specs.Name.{Name, has_name}
use Rattle.coop_request.specs.Request.{Request, element_of}
use Rattle.coop_request.specs.History.{text_order}
use Rattle.policy_book.specs.Entry.{Entry}
use Rattle.edit_message.specs.declared.message.Message.{Message}
use Rattle.edit_message.specs.declared.message.Message.TheVariants.{Coop, Admin}
use Rattle.edit_message.specs.Message.{requests_of, entries_of}
use Rattle.tomb_seq.proofs.Has.{Has, Contains-from_Has}
use Rattle.peer_tables.specs.Journal.{IsJournal}
use Rattle.peer_tables.proofs.StableLemmas.{known_law, element_in_order}
use Rattle.audit_cert.specs.Basis.{IsBasisOf, is_judgeable, may_be_judged, message_bytes}
use Rattle.audit_cert.specs.Certificate.{counts_line, element_line, request_lines, certificate_bytes}

-- ---- the bytes

pub all_messages : (names : List Name) (log : List Entry) (J : List Message)
    → flat_map (message_bytes names log) J ≡ concat (flat_map (request_lines names log) (requests_of J))
all_messages names log [] = refl
all_messages names log (Coop q ∷ J) =
    ap (λ (bytes : List ℕ). concat (request_lines names log q) ++ bytes) (all_messages names log J)
    ∙ sym (concat-append (request_lines names log q) (flat_map (request_lines names log) (requests_of J)))
all_messages names log (Admin e ∷ J) = all_messages names log J

pub whole : (J : List Message)
    → counts_line (length (requests_of J)) (length (entries_of J))
    ++ (concat (map element_line (text_order (requests_of J))) ++ flat_map (message_bytes (text_order (requests_of J)) (entries_of J)) J)
    ≡ certificate_bytes J
whole J =
    let names = text_order (requests_of J) in
    let first = counts_line (length (requests_of J)) (length (entries_of J)) in
    ap (λ (bytes : List ℕ). first ++ (concat (map element_line names) ++ bytes)) (all_messages names (entries_of J) J)
    ∙ ap (λ (bytes : List ℕ). first ++ bytes) (sym (concat-append (map element_line names) (flat_map (request_lines names (entries_of J)) (requests_of J))))

-- ---- each request may be judged

all_of : (names : List Name) (front : ℕ) (J : List Message) → ((q : Request) → Has (requests_of J) q → is_judgeable names front q ≡ true)
    → list_all (may_be_judged names front) J ≡ true
all_of names front [] each = refl
all_of names front (Coop q ∷ J) each =
    and_from (is_judgeable names front q) (list_all (may_be_judged names front) J) (each q (inl refl)) (all_of names front J (λ r h. each r (inr h)))
all_of names front (Admin e ∷ J) each = all_of names front J each

pub all_judgeable : (J : List Message) → IsJournal J → list_all (may_be_judged (text_order (requests_of J)) (length (entries_of J))) J ≡ true
all_judgeable J is =
    let known = known_law J is in
    all_of (text_order (requests_of J)) (length (entries_of J)) J (λ q h.
    let le = known.versions q (Contains-from_Has (requests_of J) q h) in
    and_from (nat_le q.version (length (entries_of J))) (has_name (text_order (requests_of J)) (element_of q))
    (grind (arith, nat_tests)) (element_in_order (requests_of J) (entries_of J) q known h))

-- ---- put together

pub certificate_whole : (J : List Message) (log : List Entry) (names : List Name) (ids : List Name) → IsBasisOf J log names ids
    → counts_line (length ids) (length log) ++ (concat (map element_line names) ++ flat_map (message_bytes names log) J) ≡ certificate_bytes J
certificate_whole J log names ids basis =
    ap (λ n. counts_line n (length log) ++ (concat (map element_line names) ++ flat_map (message_bytes names log) J)) basis.count
    ∙ ap (λ (ns : List Name). counts_line (length (requests_of J)) (length log) ++ (concat (map element_line ns) ++ flat_map (message_bytes ns log) J)) basis.elements
    ∙ ap (λ (L : List Entry). counts_line (length (requests_of J)) (length L)
    ++ (concat (map element_line (text_order (requests_of J))) ++ flat_map (message_bytes (text_order (requests_of J)) L) J)) basis.entries
    ∙ whole J

-- the three parts, one behind the other
pub written : (J : List Message) (log : List Entry) (names : List Name) (ids : List Name) → IsBasisOf J log names ids
    → (requests entries : ℕ) (told : List Name) (zero first second third : List ℕ) → zero ≡ [] → requests ≡ length ids → entries ≡ length log → told ≡ names
    → first ≡ zero ++ counts_line requests entries → second ≡ first ++ concat (map element_line told)
    → third ≡ second ++ flat_map (message_bytes names log) J → third ≡ certificate_bytes J
written J log names ids basis requests entries told zero first second third none requests_is entries_is names_is first_is second_is third_is =
    let middle = concat (map element_line names) in
    let last = flat_map (message_bytes names log) J in
    let counts : first ≡ counts_line (length ids) (length log) =
    first_is ∙ ap (λ (xs : List ℕ). xs ++ counts_line requests entries) none ∙ ap (λ n. counts_line n entries) requests_is ∙ ap (counts_line (length ids)) entries_is in
    third_is
    ∙ ap (λ (xs : List ℕ). xs ++ last) (second_is ∙ ap (λ (ns : List Name). first ++ concat (map element_line ns)) names_is ∙ ap (λ (xs : List ℕ). xs ++ middle) counts)
    ∙ append_assoc (counts_line (length ids) (length log)) middle last
    ∙ certificate_whole J log names ids basis
