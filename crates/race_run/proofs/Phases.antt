-- A race in two parts: its input is read, and then something is written at the end.
use Rattle.std.proofs.Common.{◌≡◌, ◌≢◌, ℕ, Bool, true, List, [], ◌∷◌, ◌++◌, Some, ◌⊎◌, inl, inr, refl, sym, ap, ◌∙◌, subst}
use Rattle.std.specs.Prelude.{⊤}
use Rattle.std.specs.declared.option.Option.{Option}
use Rattle.std.specs.Io.KnownBytes.{Appends, Consumes}
use Rattle.std.proofs.KnownBytes.{Appends-trans}
use Rattle.line_engine.specs.declared.status.Status.{Status}
use Rattle.line_engine.specs.declared.status.Status.TheVariants.{Done, ReadFault, WriteFault, NoMemory}
use Rattle.line_engine.specs.Status.{IsSinkFail}
use Rattle.line_engine.specs.Output.{Output, Begins, Ends, is_whole}
use Rattle.line_engine.specs.Input.{is_cut, counted_bytes, lines_of, parts_of}
use Rattle.line_engine.specs.Engine.{Ran, RanLines, Says, StatusCause}
use Rattle.line_engine.proofs.Bytes.{begun_none}
use Rattle.race_run.specs.Lists.{WorkLists, no_work, list_turn, list_closing, lists_of, output_with, list_part}
use Rattle.race_run.proofs.Silence.{DifferAtEnd, differ_lines, nothing_part}

-- an output with these bytes
abbrev ended : List ℕ → Output
ended bytes = record { written = bytes; status = Done }

differ : (bytes input : List ℕ) → DifferAtEnd [] bytes (output_with [] input) (output_with bytes input)
differ bytes input = differ_lines [] bytes (is_cut input) 1 no_work (lines_of (is_cut input) (counted_bytes input))

-- what begins no bytes begins any
begins_any : (w bytes : List ℕ) → Begins w [] → Begins w bytes
begins_any w bytes begun = (bytes, ap (λ (l : List ℕ). l ++ bytes) (sym (no_bytes w begun)))
  where
    no_bytes : (w : List ℕ) → Begins w [] → w ≡ []
    no_bytes [] b = refl
    no_bytes (x ∷ w) b = absurd cc

-- ---- reading ended otherwise than with Done

ends_short : (status : Status) (w bytes : List ℕ) (a b : Output) → status ≢ Done → DifferAtEnd [] bytes a b → Ends status w a → Ends status w b
ends_short status w bytes a b other (inl e) h =
    subst (Ends status w) (sym e.1) (record {
      whole = λ t. absurd (other (sym (ap (λ (o : Output). o.status) (sym e.0 ∙ h.whole t))));
      begun = begins_any w bytes (subst (λ (o : Output). Begins w o.written) e.0 h.begun);
    })
ends_short status w bytes a b other (inr e) h = subst (Ends status w) (sym e.1) h

pub ran_short : (bytes : List ℕ) (lists : WorkLists) (l r a b : Option (List ℕ)) (status : Status) (input w : List ℕ) → status ≢ Done
    → RanLines list_turn list_closing no_work lists l r a b status input w → Ran (output_with bytes) list_part (λ cut counted. ⊤) l r a b status input w
ran_short bytes lists l r a b status input w other ran = record {
  told = ran.told;
  appends = ran.appends;
  ends = ends_short status w bytes (output_with [] input) (output_with bytes input) other (differ bytes input) ran.ends;
  at_end = ran.at_end;
  leaves = λ t. tt;
  read_fault = λ fault. let f = ran.read_fault fault in (f.0, f.1, f.2, f.3, tt);
}

-- ---- reading ended with Done

-- nothing was written then, and the bytes of the end are the output
is_ended : (w bytes : List ℕ) (a b : Output) → DifferAtEnd [] bytes a b → a ≡ ended w → (w ≡ []) × (b ≡ ended bytes)
is_ended w bytes a b (inl e) h = (ap (λ (o : Output). o.written) (sym h ∙ e.0), e.1)
is_ended w bytes a b (inr e) h = absurd (e.0 (ap (λ (o : Output). o.status) h))

pub done_writes : (bytes : List ℕ) (lists : WorkLists) (l r a b : Option (List ℕ)) (input w : List ℕ)
    → RanLines list_turn list_closing no_work lists l r a b Done input w → (w ≡ []) × (output_with bytes input ≡ ended bytes)
done_writes bytes lists l r a b input w ran = is_ended w bytes (output_with [] input) (output_with bytes input) (differ bytes input) (ran.ends.whole refl)

-- what says lines doesn't end with a failed read
not_read : (status : Status) (bytes w : List ℕ) → (ended bytes ≡ record { written = w; status = status }) ⊎ IsSinkFail status → status ≡ ReadFault → ⊥
not_read status bytes w (inl e) read = let same : Done ≡ ReadFault = ap (λ (o : Output). o.status) e ∙ read in cc
not_read status bytes w (inr (inl e)) read = let same : WriteFault ≡ ReadFault = sym e ∙ read in cc
not_read status bytes w (inr (inr e)) read = let same : NoMemory ≡ ReadFault = sym e ∙ read in cc

-- the bytes of the end were said
pub ran_said : (bytes : List ℕ) (lists : WorkLists) (l r a b c : Option (List ℕ)) (status : Status) (input v w : List ℕ)
    → RanLines list_turn list_closing no_work lists l r a b Done input v → Says b c status (ended bytes) w
    → Ran (output_with bytes) list_part (λ cut counted. ⊤) l r a c status input w
ran_said bytes lists l r a b c status input v w ran says =
    let is = done_writes bytes lists l r a b input v ran in
    record {
      told = ran.told;
      appends = subst (λ (front : List ℕ). Appends a c (front ++ w)) is.0 (Appends-trans a b c v w ran.appends says.appends);
      ends = subst (Ends status w) (sym is.1) says.ends;
      at_end = λ done. ran.at_end refl;
      leaves = λ t. tt;
      read_fault = λ read. absurd (not_read status bytes w says.given read);
    }

-- memory was wanting before
pub ran_unsaid : (bytes : List ℕ) (lists : WorkLists) (l r a b : Option (List ℕ)) (input w : List ℕ)
    → RanLines list_turn list_closing no_work lists l r a b Done input w → Ran (output_with bytes) list_part (λ cut counted. ⊤) l r a b NoMemory input w
ran_unsaid bytes lists l r a b input w ran =
    let is = done_writes bytes lists l r a b input w ran in
    record {
      told = ran.told;
      appends = ran.appends;
      ends = record { whole = λ t. cc; begun = subst (λ (front : List ℕ). Begins front (output_with bytes input).written) (sym is.0) ((output_with bytes input).written, refl) };
      at_end = λ done. cc;
      leaves = λ t. tt;
      read_fault = λ read. cc;
    }

-- ---- where reading fails

pub silent_by : (output : List ℕ → Output) (l r a b : Option (List ℕ)) (status : Status) (input w : List ℕ)
    → Ran output list_part (λ cut counted. ⊤) l r a b status input w → status ≡ ReadFault → w ≡ []
silent_by output l r a b status input w ran read = let f = ran.read_fault read in nothing_part no_work (parts_of f.0) w f.3

-- ---- causes

-- the source was left alone after it was read
pub still_caused : (before now : ℕ) (status : Status) → StatusCause before now Done ReadFault → status ≢ ReadFault → StatusCause before now status ReadFault
still_caused before now status c other = record { later = c.later; rose = λ read. absurd (other read); stayed = λ h. c.stayed (λ e. cc) }

pub said_not_read : (b c : Option (List ℕ)) (status : Status) (bytes w : List ℕ) → Says b c status (ended bytes) w → status ≢ ReadFault
said_not_read b c status bytes w says read = not_read status bytes w says.given read
