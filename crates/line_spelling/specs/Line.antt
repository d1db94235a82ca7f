-- Lines of text.
use Rattle.std.specs.Prelude.{ℕ, List, [], ◌∷◌, ◌++◌}
use Rattle.line_spelling.specs.declared.signs.TheConstants.{LINE_END}

-- a text with its line end
abbrev pub line_of : List ℕ → List ℕ
line_of text = text ++ LINE_END ∷ []
