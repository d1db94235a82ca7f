-- What is saved and sealed of a document that is open.
use Rattle.std.specs.Prelude.{◌≡◌, Bool, false, List}
use Rattle.edit_message.specs.declared.message.Message.{Message}
use Rattle.host_core.specs.declared.event.HostEvent.{HostEvent}
use Rattle.host_core.specs.Past.{saved_journal}
use Rattle.host_seal.specs.Seals.{IsBeginning}
use Rattle.host_interface.specs.Settled.{IsSettled}

-- unless something was made all is saved, and what was taken for the seals is a beginning of what is saved
pub record IsAbreast (has_changed : Bool) (taken : List Message) (past : List HostEvent) : Type 0 where
  pub settled : has_changed ≡ false → IsSettled past
  pub sealed : IsBeginning taken (saved_journal past)
