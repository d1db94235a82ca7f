-- A small journal, and the certificate that the definition computes of it.
use Rattle.std.specs.Prelude.{◌≡◌, true, List, [], ◌∷◌, map, codes}
use Rattle.element_name.specs.Name.{start}
use Rattle.coop_request.specs.declared.edit.Edit.TheVariants.{Insert}
use Rattle.policy_book.specs.declared.op.AdminOp.TheVariants.{AddUser, AddAuth}
use Rattle.edit_message.specs.declared.message.Message.{Message}
use Rattle.edit_message.specs.declared.message.Message.TheVariants.{Coop, Admin}
use Rattle.admin_log.specs.Samples.{entry, inserts_of_1, first_of_1}
use Rattle.line_spelling.specs.Line.{line_of}
use Rattle.audit_cert.specs.Certificate.{certificate}

-- user 1 joins, may insert, and inserts an x
abbrev pub one_granted_insert : List Message
one_granted_insert =
    Admin (entry 1 (AddUser 1)) ∷ Admin (entry 2 (AddAuth 0 (inserts_of_1 true)))
    ∷ Coop (record { id = first_of_1; version = 2; edit = Insert start (codes "x") }) ∷ []

abbrev pub CertificateOfSample : Type 0
CertificateOfSample =
    certificate one_granted_insert
    ≡ map line_of (codes "certificate 1 2" ∷ codes "element 1.1" ∷ codes "request 1.1 tentative" ∷ codes "grant 2 2 by 2" ∷ [])
