-- What a message misses at a front and a set of elements.
use Rattle.std.specs.Prelude.{ℕ, ◌+◌, not, List, [], ◌∷◌, Option, ◌==◌, nat_lt, find, option_map}
use Rattle.element_name.specs.Cases.{when, first_of}
use Rattle.element_name.specs.Name.{Name, has_name}
use Rattle.coop_request.specs.Edit.{anchor_or_target}
use Rattle.element_name.specs.Places.{is_anchor}
use Rattle.policy_book.specs.declared.auth.Extent.{Extent}
use Rattle.policy_book.specs.declared.auth.Extent.TheVariants as extents
use Rattle.policy_book.specs.declared.op.AdminOp.{AdminOp}
use Rattle.policy_book.specs.declared.op.AdminOp.TheVariants.{AddUser, DelUser, AddObj, DelObj, AddGroup, DelGroup, AddMember, DelMember, AddAuth, DelAuth, Validate}
use Rattle.edit_message.specs.declared.message.Message.{Message}
use Rattle.edit_message.specs.declared.message.Message.TheVariants.{Coop, Admin}
use Rattle.edit_message.specs.declared.message.Missing.{Missing}
use Rattle.edit_message.specs.declared.message.Missing.TheVariants.{Element, Version}

-- the two ends of a span
abbrev pub ends_of : Extent → List Name
ends_of extents.All = []
ends_of (extents.Span a b) = a ∷ b ∷ []
ends_of (extents.Elems names) = []
ends_of (extents.By user) = []

-- the ends of the operation's span, if it has one
abbrev pub span_ends : AdminOp → List Name
span_ends (AddUser user) = []
span_ends (DelUser user) = []
span_ends (AddObj n extent) = ends_of extent
span_ends (DelObj n) = []
span_ends (AddGroup group) = []
span_ends (DelGroup group) = []
span_ends (AddMember group user) = []
span_ends (DelMember group user) = []
span_ends (AddAuth place auth) = []
span_ends (DelAuth place) = []
span_ends (Validate request) = []

-- the first end of the operation's span that is no element
abbrev pub missing_end : List Name → AdminOp → Option Missing
missing_end elements op = option_map Element (find (λ n. not (has_name elements n)) (span_ends op))

-- what a message misses where the log has `front` entries and the history these elements
abbrev pub missing_of : ℕ → List Name → Message → Option Missing
missing_of front elements (Coop q) = first_of (
    when (nat_lt front q.version) (Version (front + 1))
    ∷ when (not (is_anchor elements (anchor_or_target q.edit))) (Element (anchor_or_target q.edit))
    ∷ [])
missing_of front elements (Admin e) = first_of (
    when (not (e.version == front + 1)) (Version (front + 1))
    ∷ missing_end elements e.op
    ∷ [])
