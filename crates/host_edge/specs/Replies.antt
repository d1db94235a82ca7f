-- Requests over HTTP that are refused, and those that show a device.
use Rattle.std.specs.Prelude.{List, [], ◌∷◌, Option, Some, None, Bool, false, not, is_some}
use Rattle.element_name.specs.Cases.{when, first_of}
use Rattle.host_people.specs.declared.change.Change.{Change}
use Rattle.host_people.specs.Holders.{device_holder}
use Rattle.host_http.specs.declared.answer.Status.{Status}
use Rattle.host_http.specs.declared.answer.Status.TheVariants as statuses
use Rattle.host_http.specs.declared.credential.Credential.{Credential}
use Rattle.host_http.specs.declared.route.Part.{Part}
use Rattle.host_http.specs.declared.route.Part.TheVariants as parts
use Rattle.host_http.specs.declared.route.Route.{Route}
use Rattle.host_http.specs.declared.route.Route.TheVariants as routes
use Rattle.host_house.specs.Household.{holder_by}

-- whether the secret of a device that is open is shown
abbrev pub shows_device : Option Credential → List Change → Bool
shows_device None changes = false
shows_device (Some shown) changes = is_some (holder_by shown.secret (device_holder shown.site changes))

-- why what only devices are told is refused, the first of these: by whether who asks has to wait, and is known
abbrev pub key_status : Bool → Bool → Option Status
key_status slowed known = first_of (when slowed statuses.TooManyRequests ∷ when (not known) statuses.Unauthorized ∷ [])

-- why a part of a document is refused, whatever stands in the folder
abbrev pub part_status : Part → Bool → Bool → Option Status
part_status parts.Page slowed known = None
part_status parts.Link slowed known = Some statuses.BadRequest
part_status parts.Text slowed known = key_status slowed known
part_status parts.Journal slowed known = key_status slowed known
part_status parts.Certificate slowed known = key_status slowed known

-- the same of what a route leads to
abbrev pub refused_status : Route → Bool → Bool → Option Status
refused_status routes.Health slowed known = None
refused_status routes.Metrics slowed known = None
refused_status routes.House slowed known = Some statuses.BadRequest
refused_status (routes.Document name part) slowed known = part_status part slowed known
refused_status (routes.File name) slowed known = None
refused_status routes.Nothing slowed known = Some statuses.NotFound
