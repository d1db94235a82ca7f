-- Which words ask to keep a peer in a file.
use Rattle.std.specs.Prelude.{ℕ, List, Option, Some, None}
use Rattle.editor_main.specs.declared.command.Command.{Command}
use Rattle.editor_main.specs.declared.command.Command.TheVariants.{Keep}
use Rattle.editor_main.specs.Command.{command_of}

-- the site of a command that keeps a peer
abbrev pub kept_site : Option Command → Option ℕ
kept_site (Some (Keep site)) = Some site
kept_site command = None

-- the site of the words `keep SITE FILE`
abbrev pub keep_site_of : List (List ℕ) → Option ℕ
keep_site_of words = kept_site (command_of words)
