-- What a host keeps of what has happened.
use Rattle.std.specs.Prelude.{◌≡◌, ℕ, List, length, IsSome, unwrap_or}
use Rattle.std.specs.Ordering.{nat_cmp}
use Rattle.std.specs.BTreeMap.{BTreeMap, get}
use Rattle.host_core.specs.declared.event.Device.{Device}
use Rattle.host_core.specs.declared.event.OpenLink.{OpenLink}
use Rattle.host_core.specs.declared.event.HostEvent.{HostEvent}
use Rattle.host_core.specs.Past.{document_of, saved_journal, people_made, devices_made, device_of, links_opened, link_of, denied_of}
use Rattle.host_core.specs.Happens.{IsPast}

-- the document, the counts of persons, devices and links, how much is saved, the open devices and links, and how often each site was
-- denied, with a place for each that has a link
pub record IsRecordOf (es : List HostEvent) (document : List ℕ) (people sites opened saved : ℕ) (devices : BTreeMap ℕ Device) (links : BTreeMap ℕ OpenLink) (denied : BTreeMap ℕ ℕ) : Type 0 where
  pub past : IsPast es
  pub document_is : document ≡ document_of es
  pub people_are : people ≡ people_made es
  pub sites_are : sites ≡ devices_made es
  pub opened_are : opened ≡ links_opened es
  pub saved_is : saved ≡ length (saved_journal es)
  pub devices_are : (u : ℕ) → get nat_cmp devices u ≡ device_of u es
  pub links_are : (u : ℕ) → get nat_cmp links u ≡ link_of u es
  pub denied_are : (u : ℕ) → unwrap_or (get nat_cmp denied u) 0 ≡ denied_of u es
  pub counted : (u : ℕ) → IsSome (link_of u es) → IsSome (get nat_cmp denied u)
