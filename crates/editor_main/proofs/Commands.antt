-- The calls of the commands.
use Rattle.std.proofs.Common.{◌≡◌, ℕ, Bool, true, false, List, [], None, Some, ◌⊎◌, inl, inr, refl, sym, ap, subst, ◌∙◌}
use Rattle.std.specs.declared.option.Option.{Option}
use Rattle.std.specs.Io.KnownBytes.{Keeps}
use Rattle.std.proofs.lemmas.Bool.{true≢false}
use Rattle.std.proofs.lemmas.Option.{same_Some}
use Rattle.line_engine.specs.declared.status.Status.{Status}
use Rattle.line_engine.specs.declared.status.Status.TheVariants.{ReadFault}
use Rattle.line_engine.specs.Status.{IsSinkFail}
use Rattle.line_engine.specs.Output.{Output, Ends}
use Rattle.line_engine.specs.Engine.{Told, Says, Ran}
use Rattle.form_certificate.specs.Laws.{IsRightlyAnswered}
use Rattle.editor_main.specs.declared.command.Command.{Command}
use Rattle.editor_main.specs.declared.command.Command.TheVariants.{Replay, Audit}
use Rattle.form_replay.specs.Headline.{Headline}
use Rattle.editor_main.specs.Plain.{RanPlain, plain_output, plain_part, is_reader}

-- what words name, by the name of what was found
pub named : (found : Option Command) (f g : Command) → Some f ≡ found → f ≡ g → found ≡ Some g
named found f g e h = sym e ∙ ap (λ (x : Command). Some x) h

-- the run of a command that reads
pub ran_read : (command : Option Command) (output : List ℕ → Output) (part : List ℕ → Option (List ℕ)) (Leaves : Bool → List ℕ → Type 0) (l r a b : Option (List ℕ)) (status : Status)
    → is_reader command ≡ true → ((input : List ℕ) → plain_output command input ≡ output input) → ((bytes : List ℕ) → plain_part command bytes ≡ part bytes)
    → ((input : List ℕ) → command ≡ Some Replay → Headline input)
    → ((input : List ℕ) → command ≡ Some Audit → IsRightlyAnswered input)
    → (input : List ℕ) × (written : List ℕ) × Ran output part Leaves l r a b status input written
    → (input : List ℕ) × (written : List ℕ) × RanPlain command l r a b status input written
ran_read command output part Leaves l r a b status reads outputs parts heads answers (input, written, ran) = (
  input,
  written,
  record {
    told = ran.told;
    appends = ran.appends;
    ends = subst (Ends status written) (sym (outputs input)) ran.ends;
    at_end = λ reader done. ran.at_end done;
    read_fault = λ fault. let f = ran.read_fault fault in (f.0, f.1, f.2, parts f.0 ∙ f.3);
    kept = λ silent. absurd (true≢false (sym reads ∙ silent));
    headline = heads input;
    answer = answers input;
  },
)

-- the run of a command that reads, and is neither the replay nor the audit
pub ran_alone : (command : Option Command) (f : Command) (Leaves : Bool → List ℕ → Type 0) (l r a b : Option (List ℕ)) (status : Status)
    → command ≡ Some f → is_reader (Some f) ≡ true → (f ≡ Replay → ⊥) → (f ≡ Audit → ⊥)
    → (input : List ℕ) × (written : List ℕ) × Ran (plain_output (Some f)) (plain_part (Some f)) Leaves l r a b status input written
    → (input : List ℕ) × (written : List ℕ) × RanPlain command l r a b status input written
ran_alone command f Leaves l r a b status is reads no_replay no_audit =
    ran_read command (plain_output (Some f)) (plain_part (Some f)) Leaves l r a b status
    (ap is_reader is ∙ reads) (λ input. ap (λ (c : Option Command). plain_output c input) is) (λ bytes. ap (λ (c : Option Command). plain_part c bytes) is)
    (λ input other. absurd (no_replay (same_Some f Replay (sym is ∙ other))))
    (λ input other. absurd (no_audit (same_Some f Audit (sym is ∙ other))))

-- any source has some input
some_told : (left : Option (List ℕ)) → (input : List ℕ) × Told left input
some_told None = ([], tt)
some_told (Some left) = (left, refl)

keeps_itself : (left : Option (List ℕ)) → Keeps left left
keeps_itself None = tt
keeps_itself (Some left) = refl

-- a call that reads nothing and says lines doesn't end with a failed read
not_read : (status : Status) (written : List ℕ) (out : Output) → (out.status ≡ ReadFault → ⊥) → (out ≡ record { written = written; status = status }) ⊎ IsSinkFail status → status ≡ ReadFault → ⊥
not_read status written out other (inl e) read = other (ap (λ (o : Output). o.status) e ∙ read)
not_read status written out other (inr (inl e)) read = cc
not_read status written out other (inr (inr e)) read = cc

-- the lines of a command that reads nothing, or of none
pub ran_said : (command : Option Command) (status : Status) (out : Output) (left a b : Option (List ℕ)) (written : List ℕ)
    → is_reader command ≡ false → ((input : List ℕ) → plain_output command input ≡ out) → (out.status ≡ ReadFault → ⊥) → Says a b status out written
    → (input : List ℕ) × (ws : List ℕ) × RanPlain command left left a b status input ws
ran_said command status out left a b written silent is other says =
    let input = some_told left in (
      input.0,
      written,
      record {
        told = input.1;
        appends = says.appends;
        ends = subst (Ends status written) (sym (is input.0)) says.ends;
        at_end = λ reader done. absurd (true≢false (sym reader ∙ silent));
        read_fault = λ read. absurd (not_read status written out other says.given read);
        kept = λ none. keeps_itself left;
        headline = λ named. absurd (true≢false (sym (ap is_reader named) ∙ silent));
        answer = λ named. absurd (true≢false (sym (ap is_reader named) ∙ silent));
      },
    )

-- lines were said that are this text
pub said_lines : (lines text : List ℕ) (due : Status) (a b : Option (List ℕ)) (status : Status) (written : List ℕ)
    → lines ≡ text → Says a b status (record { written = lines; status = due }) written
    → (w : List ℕ) × Says a b status (record { written = text; status = due }) w
said_lines lines text due a b status written is says =
    (written, subst (λ (bytes : List ℕ). Says a b status (record { written = bytes; status = due }) written) is says)
