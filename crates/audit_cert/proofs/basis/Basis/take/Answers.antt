use Rattle.std.proofs.Common.{◌≡◌, true, false, [], ◌∷◌, ◌++◌, length, sym, ap, subst, ◌∙◌}
use Rattle.element_name.specs.Name.{has_name}
use Rattle.edit_message.specs.declared.message.Message.{Message}
use Rattle.edit_message.specs.declared.message.Message.TheVariants.{Coop, Admin}
use Rattle.edit_message.specs.Message.{key_of}
use Rattle.edit_message.specs.Formed.{is_message}
use Rattle.peer_tables.specs.Journal.{IsWithin}
use Rattle.audit_cert.specs.Basis.{IsBasisOf, is_known, may_join}
use Rattle.audit_cert.proofs.NextMessages.{known_refused, request_taken, request_refused, entry_taken, entry_refused}
use Rattle.audit_cert.proofs.basis.Basis.take.Goals as goal

pub returns-then-knows-clause-refused : goal.returns-then-knows-clause-refused
returns-then-knows-clause-refused g c = λ no J basis.
    let self = c.args.self.now in
    known_refused J self.log (g.E.Elements.names self.elements) self.ids basis c.args.message
    (ap (is_known (length self.log) self.ids) (sym c.key.ensures.value) ∙ sym c.knows.ensures ∙ c.if-knows.true)

pub returns-in_ok-joined-in-Coop : goal.returns-in_ok-joined-in-Coop
returns-in_ok-joined-in-Coop g c =
    let self = c.args.self.now in
    let names = g.E.Elements.names in
    let q = c.in-Coop.request in
    let is : Coop q ≡ c.args.message = sym c.in-Coop.is in
    let formed : is_message (Coop q) ≡ true = ap is_message is ∙ c.key.ensures.message in
    let new : has_name self.ids q.id ≡ false =
    ap (λ (m : Message). is_known (length self.log) self.ids (key_of m)) is ∙ ap (is_known (length self.log) self.ids) (sym c.key.ensures.value) ∙ sym c.knows.ensures ∙ c.if-knows.false in
    let joined = c.in_ok-joined-in-Coop.ensures in
    let test = ap (λ n. may_join n (names self.elements) (length self.ids) q) (sym c.len-front.ensures.count) ∙ sym joined.test in
    record {
      taken = λ yes J basis.
          subst (λ (m : Message). IsBasisOf (J ++ m ∷ []) self.log (names c.take_request.new.elements) c.take_request.new.ids) is
          (request_taken J self.log (names self.elements) self.ids basis q (names c.take_request.new.elements) c.take_request.new.ids joined.accepted formed new (test ∙ yes)
          (joined.names yes) (joined.noted yes) (joined.count yes));
      refused = λ no J basis. subst (λ (m : Message). ¬ IsWithin (J ++ m ∷ [])) is (request_refused J self.log (names self.elements) self.ids basis q (test ∙ no));
    }

pub returns-in_ok-pushed-in-Admin : goal.returns-in_ok-pushed-in-Admin
returns-in_ok-pushed-in-Admin g c =
    let self = c.args.self.now in
    let names = g.E.Elements.names self.elements in
    let e = c.in-Admin.entry in
    let is : Admin e ≡ c.args.message = sym c.in-Admin.is in
    let formed : is_message (Admin e) ≡ true = ap is_message is ∙ c.key.ensures.message in
    let pushed = c.in_ok-pushed-in-Admin.ensures in
    record {
      taken = λ yes J basis.
          subst (λ (m : Message). IsBasisOf (J ++ m ∷ []) c.take_entry.new.log names self.ids) is
          (entry_taken J self.log names self.ids basis e c.take_entry.new.log formed (sym pushed.test ∙ yes) (pushed.log yes));
      refused = λ no J basis. subst (λ (m : Message). ¬ IsWithin (J ++ m ∷ [])) is (entry_refused J self.log names self.ids basis e (sym pushed.test ∙ no));
    }
