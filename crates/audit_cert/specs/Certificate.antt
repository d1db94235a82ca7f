-- The certificate of a journal: what it says of each request, line by line.
use Rattle.std.specs.Prelude.{ℕ, List, [], ◌∷◌, ◌++◌, length, map, decimal, codes}
use Rattle.std.specs.List.{concat, flat_map}
use Rattle.element_name.specs.Name.{Name}
use Rattle.coop_request.specs.Request.{Request}
use Rattle.coop_request.specs.History.{text_order}
use Rattle.policy_book.specs.Entry.{Entry}
use Rattle.edit_message.specs.declared.message.Message.{Message}
use Rattle.edit_message.specs.Message.{requests_of, entries_of}
use Rattle.check_remote.specs.State.{state_of}
use Rattle.line_spelling.specs.Line.{line_of}
use Rattle.line_spelling.specs.Values.{spaced, name_text}
use Rattle.line_spelling.specs.Answers.{state_words}
use Rattle.audit_cert.specs.declared.grant.Grant.{Grant}
use Rattle.audit_cert.specs.Grants.{grants_of}

-- how many requests and entries there are
abbrev pub counts_line : ℕ → ℕ → List ℕ
counts_line requests entries = line_of (spaced (codes "certificate" ∷ decimal requests ∷ decimal entries ∷ []))

abbrev pub element_line : Name → List ℕ
element_line n = line_of (spaced (codes "element" ∷ name_text n ∷ []))

abbrev pub grant_line : Grant → List ℕ
grant_line g = line_of (spaced (codes "grant" ∷ decimal g.from ∷ decimal g.to ∷ codes "by" ∷ decimal g.by ∷ []))

-- a request with its state
abbrev pub state_line : List Name → List Entry → Request → List ℕ
state_line names log q = line_of (spaced (codes "request" ∷ name_text q.id ∷ state_words (state_of names log q)))

-- that line, and those of its grants
abbrev pub request_lines : List Name → List Entry → Request → List (List ℕ)
request_lines names log q = state_line names log q ∷ map grant_line (grants_of names log q)

-- of requests and a log: the counts, the elements in text order, and each request
abbrev pub lines_about : List Request → List Entry → List (List ℕ)
lines_about R L = counts_line (length R) (length L) ∷ map element_line (text_order R) ++ flat_map (request_lines (text_order R) L) R

-- the certificate of a journal
abbrev pub certificate : List Message → List (List ℕ)
certificate J = lines_about (requests_of J) (entries_of J)

-- its bytes
abbrev pub certificate_bytes : List Message → List ℕ
certificate_bytes J = concat (certificate J)
