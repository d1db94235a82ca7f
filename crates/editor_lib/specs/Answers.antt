-- What questions are answered by.
use Rattle.std.specs.Prelude.{ℕ, List, [], Option, Some, option_map, map, length, slice_get, unwrap_or}
use Rattle.std.specs.List.{concat, flat_map}
use Rattle.peer_core.specs.Peer.{Peer, state_of_name, text, shown_elements}
use Rattle.peer_core.specs.Carets.{shown_up_to}
use Rattle.line_read.specs.Numbers.{read_name}
use Rattle.peer_outlook.specs.Outlook.{names_undone_by}
use Rattle.editor_lib.specs.declared.question.Question.{Question}
use Rattle.editor_lib.specs.declared.question.Question.TheVariants.{Text, Sizes, Count, PieceAt, Writers, WriterAt, NameAt, ShownUpTo, State, Would}
use Rattle.editor_lib.specs.Told.{kept_state_line, element_word, count_word}
use Rattle.editor_lib.specs.Would.{steps_said, name_line}
use Rattle.editor_lib.specs.Writers.{writer_of, writers_bytes}

-- the bytes of the text
unfoldable pub text_answer : Peer → Option (List ℕ)
text_answer peer = Some (concat (text peer))

-- the line of the state of the request that a word names; none where the word is no name
unfoldable pub state_answer : Peer → List ℕ → Option (List ℕ)
state_answer peer word = option_map (λ name. kept_state_line (state_of_name peer name)) (read_name word)

-- the sizes of the text's pieces
unfoldable pub sizes_answer : Peer → Option (List ℕ)
sizes_answer peer = Some (map length (text peer))

-- how many elements show
unfoldable pub shown_answer : Peer → Option (List ℕ)
shown_answer peer = Some (count_word (Some (length (text peer))))

-- the piece that shows at a place; no bytes where none does
unfoldable pub piece_answer : Peer → ℕ → Option (List ℕ)
piece_answer peer place = Some (unwrap_or (slice_get (text peer) place) [])

-- the sites of who wrote the text's pieces, in order, two bytes each
unfoldable pub writers_answer : Peer → Option (List ℕ)
writers_answer peer = Some (writers_bytes peer)

-- the site of who wrote what shows at a place; no bytes where nothing does
unfoldable pub writer_answer : Peer → ℕ → Option (List ℕ)
writer_answer peer place = Some (count_word (option_map (writer_of peer) (slice_get (shown_elements peer) place)))

-- the name of the element that shows at a place; no bytes where none does
unfoldable pub name_answer : Peer → ℕ → Option (List ℕ)
name_answer peer place = Some (element_word (slice_get (shown_elements peer) place))

-- how many elements show up to the one that a word names, and no bytes where it is none; none where the word is no name
unfoldable pub count_answer : Peer → List ℕ → Option (List ℕ)
count_answer peer word = option_map (λ name. count_word (shown_up_to peer name)) (read_name word)

-- the names of the requests that the steps of these lines would undo, in order of integration, a line each; none where a line is no step line
unfoldable pub would_answer : Peer → List ℕ → Option (List ℕ)
would_answer peer lines = option_map (λ steps. flat_map name_line (names_undone_by peer steps)) (steps_said lines)

-- what answers a question
abbrev pub answer_to : Question → Peer → Option (List ℕ)
answer_to Text peer = text_answer peer
answer_to Sizes peer = sizes_answer peer
answer_to Count peer = shown_answer peer
answer_to (PieceAt place) peer = piece_answer peer place
answer_to Writers peer = writers_answer peer
answer_to (WriterAt place) peer = writer_answer peer place
answer_to (NameAt place) peer = name_answer peer place
answer_to (ShownUpTo word) peer = count_answer peer word.now
answer_to (State word) peer = state_answer peer word.now
answer_to (Would lines) peer = would_answer peer lines.now
