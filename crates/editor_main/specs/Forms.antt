-- The forms: the name of each, and what the words behind it say.
use Rattle.std.specs.Prelude.{ℕ, List, [], ◌∷◌, ◌++◌, map, Option, find, codes}
use Rattle.std.specs.Str.{bytes_eq}
use Rattle.line_spelling.specs.Line.{line_of}
use Rattle.line_spelling.specs.Values.{behind_spaces}
use Rattle.editor_main.specs.declared.form.Form.{Form}
use Rattle.editor_main.specs.declared.form.Form.TheVariants.{Replay, Feed, Make, Race, Serve, Dial, Watch, Certify, Audit, Keep}
use Rattle.editor_main.specs.declared.form.TheConstants.{FORMS}

-- what a word behind a form's name says
pub data Argument : Type 0 where
  Site : Argument
  Seed : Argument
  Edits : Argument
  Port : Argument
  Links : Argument
  Rounds : Argument
  Reads : Argument
  File : Argument

-- an argument, as the usage line calls it
abbrev pub argument_text : Argument → List ℕ
argument_text Site = codes "SITE"
argument_text Seed = codes "SEED"
argument_text Edits = codes "EDITS"
argument_text Port = codes "PORT"
argument_text Links = codes "LINKS"
argument_text Rounds = codes "ROUNDS"
argument_text Reads = codes "READS"
argument_text File = codes "FILE"

-- the first word of a form, and what the words behind it say
abbrev pub form_words : Form → List ℕ × List Argument
form_words Replay = (codes "replay", [])
form_words Feed = (codes "feed", Site ∷ [])
form_words Make = (codes "make", Seed ∷ Edits ∷ [])
form_words Race = (codes "race", Site ∷ [])
form_words Serve = (codes "serve", Site ∷ Port ∷ Links ∷ [])
form_words Dial = (codes "dial", Site ∷ Port ∷ Rounds ∷ [])
form_words Watch = (codes "watch", Site ∷ Reads ∷ [])
form_words Certify = (codes "certify", Site ∷ [])
form_words Audit = (codes "audit", [])
form_words Keep = (codes "keep", Site ∷ File ∷ [])

-- the first word of a form
abbrev pub form_name : Form → List ℕ
form_name form = (form_words form).0

-- what the words behind its name say
abbrev pub arguments_of : Form → List Argument
arguments_of form = (form_words form).1

-- the form of this name
abbrev pub form_of : List ℕ → Option Form
form_of name = find (λ form. bytes_eq (form_name form) name) FORMS

-- a form's words, as the usage line has them
abbrev pub form_text : Form → List ℕ
form_text form = form_name form ++ behind_spaces (map argument_text (arguments_of form))

-- forms, the first behind this sign, and each later one behind a bar
abbrev pub forms_text : List ℕ → List Form → List ℕ
forms_text sign [] = []
forms_text sign (form ∷ forms) = sign ++ form_text form ++ forms_text (codes " | ") forms

-- the line that is written where words name no form
abbrev pub usage_line : List ℕ
usage_line = line_of (forms_text (codes "usage: ") FORMS)
