use Rattle.std.proofs.Common.{◌≡◌, ℕ, List, Some, false, refl, ap, sym, ◌∙◌, rules}
use Rattle.std.specs.Bool.{⊤}
use Rattle.std.specs.declared.option.Option.{Option}
use Rattle.line_engine.specs.Input.{counted_bytes}
use Rattle.form_replay.specs.Replay.{replay_output, replay_part}
use Rattle.form_certificate.specs.Audit.{audit_output, audit_part}
use Rattle.editor_main.specs.declared.command.Command.{Command}
use Rattle.editor_main.specs.declared.command.Command.TheVariants.{Replay, Feed, Make, Certify, Audit}
use Rattle.editor_main.specs.Command.{command_of}
use Rattle.editor_main.specs.Plain.{plain_output, plain_part, is_reader, make_output, usage_output}
use Rattle.editor_main.proofs.Commands.{named, ran_read, ran_alone, ran_said}
use Rattle.editor_main.proofs.plain_call.plain.Goals as goal

pub returns-in-Some-Replay-clause-ran : goal.returns-in-Some-Replay-clause-ran
returns-in-Some-Replay-clause-ran g c =
    let is : command_of c.args.words.now ≡ Some Replay = named (command_of c.args.words.now) c.in-Some-Replay.field-0 Replay c.in-Some-Replay.ensures.command c.in-Some-Replay.field-0-is in
    ran_read (command_of c.args.words.now) replay_output replay_part (λ cut bytes. ⊤) _ _ _ _ _
    (ap is_reader is) (λ (input : List ℕ). ap (λ (f : Option Command). plain_output f input) is) (λ (bytes : List ℕ). ap (λ (f : Option Command). plain_part f bytes) is)
    (λ input named. c.headline.ensures input)
    (λ input other. let clash : Some Replay ≡ Some Audit = sym is ∙ other in let none : ⊥ = cc in absurd none)
    c.replay.ensures.ran

pub returns-in-Some-Feed-clause-ran : goal.returns-in-Some-Feed-clause-ran
returns-in-Some-Feed-clause-ran g c =
    let is = named (command_of c.args.words.now) c.in-Some-Feed.field-0 (Feed c.in-Some-Feed.site) c.in-Some-Feed.ensures.command c.in-Some-Feed.field-0-is in
    ran_alone (command_of c.args.words.now) (Feed c.in-Some-Feed.site) (λ cut bytes. ⊤) _ _ _ _ _ is refl (λ e. cc) (λ e. cc) c.feed.ensures.ran

pub returns-in-Some-Certify-clause-ran : goal.returns-in-Some-Certify-clause-ran
returns-in-Some-Certify-clause-ran g c =
    let is = named (command_of c.args.words.now) c.in-Some-Certify.field-0 (Certify c.in-Some-Certify.site) c.in-Some-Certify.ensures.command c.in-Some-Certify.field-0-is in
    ran_alone (command_of c.args.words.now) (Certify c.in-Some-Certify.site) (λ cut bytes. ⊤) _ _ _ _ _ is refl (λ e. cc) (λ e. cc) c.certify_stream.ensures.ran

pub returns-in-Some-Audit-clause-ran : goal.returns-in-Some-Audit-clause-ran
returns-in-Some-Audit-clause-ran g c =
    let is : command_of c.args.words.now ≡ Some Audit = named (command_of c.args.words.now) c.in-Some-Audit.field-0 Audit c.in-Some-Audit.ensures.command c.in-Some-Audit.field-0-is in
    ran_read (command_of c.args.words.now) audit_output audit_part (λ cut bytes. ⊤) _ _ _ _ _
    (ap is_reader is) (λ (input : List ℕ). ap (λ (f : Option Command). plain_output f input) is) (λ (bytes : List ℕ). ap (λ (f : Option Command). plain_part f bytes) is)
    (λ input other. let clash : Some Audit ≡ Some Replay = sym is ∙ other in let none : ⊥ = cc in absurd none)
    (λ input named fits. c.answer_is_right.ensures (counted_bytes input) fits)
    c.audit_input.ensures.ran

pub returns-in-Some-Make-clause-ran : goal.returns-in-Some-Make-clause-ran
returns-in-Some-Make-clause-ran g c =
    let seed = c.in-Some-Make.seed in
    let edits = c.in-Some-Make.edits in
    let is : command_of c.args.words.now ≡ Some (Make seed edits) = named (command_of c.args.words.now) c.in-Some-Make.field-0 (Make seed edits) c.in-Some-Make.ensures.command c.in-Some-Make.field-0-is in
    ran_said (command_of c.args.words.now) _ (make_output seed edits) _ _ _ _
    (ap is_reader is) (λ (input : List ℕ). ap (λ (f : Option Command). plain_output f input) is) (λ e. cc) c.make.ensures.says.1

-- a command of another call, or none
pub returns-in-Some-Race-clause-ran : goal.returns-in-Some-Race-clause-ran
returns-in-Some-Race-clause-ran g c =
    let silent : is_reader (command_of c.args.words.now) ≡ false = search rules in
    let is : (input : List ℕ) → plain_output (command_of c.args.words.now) input ≡ usage_output = λ input. search rules in
    ran_said (command_of c.args.words.now) _ usage_output _ _ _ _ silent is (λ e. cc) c.say_usage.ensures.says.1
