-- The law of texts in lines.
use Rattle.std.specs.Prelude.{◌≡◌, ℕ, List, Some, true}
use Rattle.std.specs.Str.{is_utf8}
use Rattle.line_spelling.specs.Values.{text_text}
use Rattle.follow_talk.specs.InputRows.{read_text}

-- a text is read back from its spelling, where that is UTF-8
abbrev pub TextLaw : Type 0
TextLaw = (text : List ℕ) → is_utf8 (text_text text) ≡ true → read_text (text_text text) ≡ Some text
