-- Links that are admitted.
use Rattle.std.specs.Prelude.{◌≡◌, List, ◌∷◌}
use Rattle.host_core.specs.declared.event.Hello.{Hello}
use Rattle.host_core.specs.declared.event.LinkId.{LinkId}
use Rattle.host_core.specs.declared.event.HostEvent.{HostEvent}
use Rattle.host_core.specs.declared.event.HostEvent.TheVariants.{LinkOpened}
use Rattle.host_core.specs.Past.{links_opened}
use Rattle.host_link.specs.declared.opening.Claim.{Claim}

-- at last a link was opened by a hello with the site, the secret and the place that it claims
pub record IsAdmitted (claim : Claim) (link : LinkId) (past : List HostEvent) : Type 0 where
  pub hello : Hello
  pub before : List HostEvent
  pub opened : past ≡ LinkOpened hello ∷ before
  pub by_site : hello.site ≡ claim.site
  pub by_secret : hello.secret ≡ claim.secret
  pub from : hello.from ≡ claim.from
  pub of_site : link.site ≡ claim.site
  pub number : link.number ≡ links_opened before
