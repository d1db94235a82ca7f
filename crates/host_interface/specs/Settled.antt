-- What is saved of a document that is open.
use Rattle.std.specs.Prelude.{◌≡◌, List}
use Rattle.host_core.specs.declared.event.HostEvent.{HostEvent}
use Rattle.host_core.specs.Past.{host_peer, saved_journal}

-- all that was made is saved
abbrev pub IsSettled : List HostEvent → Type 0
IsSettled past = saved_journal past ≡ (host_peer past).journal
