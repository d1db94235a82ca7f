-- Requests, and when one is accepted.
use Rattle.std.specs.Prelude.{◌≡◌, ℕ, [], ◌∷◌, Option, None, nat_lt, nat_le}
use Rattle.element_name.specs.Cases.{when, first_of}
use Rattle.element_name.specs.Name.{Name}
use Rattle.element_name.specs.declared.limits.TheConstants.{MAX_VERSION}
use Rattle.coop_request.specs.declared.edit.Edit.{Edit}
use Rattle.coop_request.specs.declared.request.RequestFault.{RequestFault}
use Rattle.coop_request.specs.declared.request.RequestFault.TheVariants.{BadVersion, StartTarget, StampOrder}
use Rattle.coop_request.specs.Edit.{anchor_or_target, targets_start, element_by, new_element_by}

-- a name, the policy version that its sender had, and an edit
pub record Request : Type 0 where
  pub id : Name
  pub version : ℕ
  pub edit : Edit

-- the first fault that keeps a request from being accepted
abbrev pub request_fault : Request → Option RequestFault
request_fault q = first_of (
    when (nat_lt MAX_VERSION q.version) BadVersion
    ∷ when (targets_start q.edit) StartTarget
    ∷ when (nat_le q.id.stamp (anchor_or_target q.edit).stamp) StampOrder
    ∷ [])

abbrev pub IsAccepted : Request → Type 0
IsAccepted q = request_fault q ≡ None

-- its user, who is at the site of that number
abbrev pub user_of : Request → ℕ
user_of q = q.id.site

-- the name of the element that it makes, if it is an insert
abbrev pub new_element_of : Request → Option Name
new_element_of q = new_element_by q.id q.edit

-- the name of its judged element
abbrev pub element_of : Request → Name
element_of q = element_by q.id q.edit
