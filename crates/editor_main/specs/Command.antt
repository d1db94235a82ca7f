-- Which command words name.
use Rattle.std.specs.Prelude.{ℕ, Bool, ◌&&◌, not, ◌==◌, List, [], ◌∷◌, length, Option, Some, None, nat_le}
use Rattle.std.specs.Str.{is_utf8}
use Rattle.element_name.specs.Cases.{when, ◌>>=◌}
use Rattle.line_read.specs.Numbers.{read_number}
use Rattle.edit_make.specs.declared.limits.TheConstants.{MAX_EDITS}
use Rattle.editor_main.specs.declared.limits.TheConstants.{MAX_SITE, MAX_SEED, MAX_PORT, MAX_LINKS, MAX_ROUNDS, MAX_READS, MAX_FILE_NAME}
use Rattle.editor_main.specs.declared.form.Form.{Form}
use Rattle.editor_main.specs.declared.form.Form.TheVariants as forms
use Rattle.editor_main.specs.declared.command.Command.{Command}
use Rattle.editor_main.specs.declared.command.Command.TheVariants.{Replay, Feed, Make, Race, Serve, Dial, Watch, Certify, Audit, Keep}
use Rattle.editor_main.specs.Forms as arguments
use Rattle.editor_main.specs.Forms.{Argument, arguments_of, form_of}

-- a number from 1 on
abbrev pub read_positive : ℕ → List ℕ → Option ℕ
read_positive max word = do
  number ← read_number max word
  when (not (number == 0)) number

-- FILE
abbrev pub is_file_name : List ℕ → Bool
is_file_name word = (not (length word == 0) && nat_le (length word) MAX_FILE_NAME) && is_utf8 word

-- the number that a word says; the name of a file says none, and counts as 0
abbrev pub read_argument : Argument → List ℕ → Option ℕ
read_argument arguments.Site word = read_number MAX_SITE word
read_argument arguments.Seed word = read_number MAX_SEED word
read_argument arguments.Edits word = read_number MAX_EDITS word
read_argument arguments.Port word = read_positive MAX_PORT word
read_argument arguments.Links word = read_positive MAX_LINKS word
read_argument arguments.Rounds word = read_positive MAX_ROUNDS word
read_argument arguments.Reads word = read_positive MAX_READS word
read_argument arguments.File word = when (is_file_name word) 0

-- the numbers that words say, where there is one word for each argument
abbrev pub numbers_of : List Argument → List (List ℕ) → Option (List ℕ)
numbers_of [] [] = Some []
numbers_of (argument ∷ arguments) (word ∷ words) = do
  number ← read_argument argument word
  numbers ← numbers_of arguments words
  Some (number ∷ numbers)
numbers_of arguments words = None

-- the command of a form with these numbers
abbrev pub command_by : Form → List ℕ → Option Command
command_by forms.Replay [] = Some Replay
command_by forms.Feed (site ∷ []) = Some (Feed site)
command_by forms.Make (seed ∷ edits ∷ []) = Some (Make seed edits)
command_by forms.Race (site ∷ []) = Some (Race site)
command_by forms.Serve (site ∷ port ∷ links ∷ []) = Some (Serve site port links)
command_by forms.Dial (site ∷ port ∷ rounds ∷ []) = Some (Dial site port rounds)
command_by forms.Watch (site ∷ reads ∷ []) = Some (Watch site reads)
command_by forms.Certify (site ∷ []) = Some (Certify site)
command_by forms.Audit [] = Some Audit
command_by forms.Keep (site ∷ file ∷ []) = Some (Keep site)
command_by form numbers = None

-- the command of a form by the words behind its name
abbrev pub command_with : Form → List (List ℕ) → Option Command
command_with form words = do
  numbers ← numbers_of (arguments_of form) words
  command_by form numbers

-- the command that words name, if they name one
abbrev pub command_of : List (List ℕ) → Option Command
command_of (name ∷ words) = do
  form ← form_of name
  command_with form words
command_of [] = None
