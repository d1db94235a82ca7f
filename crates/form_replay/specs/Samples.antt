-- The shows of a small script.
use Rattle.std.specs.Prelude.{◌≡◌, ℕ, List, [], ◌∷◌, ◌++◌, map, codes}
use Rattle.line_spelling.specs.Line.{line_of}
use Rattle.peer_core.specs.Peer.{text}
use Rattle.form_replay.specs.Headline.{shows_of}

-- one peer writes a letter, and is asked for its text
abbrev pub small_script : List ℕ
small_script = line_of (codes "peers 1") ++ line_of (codes "0 insert 0 a") ++ line_of (codes "show 0")

-- it has one `show` line, behind the answer to the edit
abbrev pub ShowsOfScript : Type 0
ShowsOfScript = map (λ s. s.before) (shows_of small_script) ≡ line_of (codes "done 1 1.0 0") ∷ []

-- its peer shows the letter
abbrev pub TextOfScript : Type 0
TextOfScript = map (λ s. text s.peer) (shows_of small_script) ≡ (codes "a" ∷ []) ∷ []
