use Rattle.std.proofs.Common.{◌≡◌, ◌∙◌}
use Rattle.std.proofs.lemmas.Result.{IfOk-weaker}
use Rattle.peer_step.specs.declared.step.Step.TheVariants.{Administer}
use Rattle.peer_outlook.specs.declared.outlook.Outlook.{Outlook}
use Rattle.peer_outlook.specs.Outlook.{IsTried, names_undone}
use Rattle.peer_outlook.proofs.OutlookLemmas.{answer_alike, after_alike, names_told, as_many}
use Rattle.peer_outlook.proofs.outlook.foresee.Goals as goal

pub returns : goal.returns
returns c =
    let p = c.args.peer.now in
    let op = c.args.op.now in
    let second = c.in_ok-second.second in
    let after = c.tried-outlook.new.second in
    let copy = c.in_ok-copied.field-0 in
    let own = c.restored.ensures.own in
    let is = c.in_ok-second.ensures.second in
    let alike = answer_alike p second op copy own is c.in_ok-copied.ensures in
    let Told : Outlook → Type 0 = λ (o : Outlook). IsTried p second after (Administer copy) o.answer o.undone.items in
    let names : (o : Outlook) → Told o → o.undone.items ≡ names_undone p op =
    λ o t. names_told p after op o.undone.items c.in_ok-second.ensures.sound (after_alike p second op copy own is c.in_ok-copied.ensures after t.after) t.undone in
    record {
      answer = IfOk-weaker c.tried-outlook.result Told _ (λ o t. t.answered ∙ alike) c.tried-outlook.ensures;
      undone = IfOk-weaker c.tried-outlook.result Told _ names c.tried-outlook.ensures;
      count = IfOk-weaker c.tried-outlook.result Told _ (λ o t. as_many p op o.answer o.undone.items (t.answered ∙ alike) (names o t)) c.tried-outlook.ensures;
    }
