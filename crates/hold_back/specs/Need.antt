-- What a message waits for.
use Rattle.std.specs.Prelude.{ℕ, ◌-◌, ◌==◌, Bool, false, List, Option, option_map}
use Rattle.element_name.specs.Name.{Name, name_eq}
use Rattle.edit_message.specs.Missing.{missing_of}
use Rattle.edit_message.specs.declared.message.Message.{Message}
use Rattle.edit_message.specs.declared.message.Message.TheVariants.{Coop, Admin}
use Rattle.edit_message.specs.declared.message.Missing.{Missing}
use Rattle.edit_message.specs.declared.message.Missing.TheVariants.{Element, Version}
use Rattle.hold_back.specs.declared.need.Need.{Need}
use Rattle.hold_back.specs.declared.need.Need.TheVariants as needs

-- the element that a message misses; else the front that it carries, or that its entry follows
abbrev pub need_for : Message → Missing → Need
need_for message (Element name) = needs.Element name
need_for (Coop q) (Version next) = needs.Front q.version
need_for (Admin e) (Version next) = needs.Front (e.version - 1)

-- what a message waits for where the log has `front` entries and the history these elements
abbrev pub need_of : ℕ → List Name → Message → Option Need
need_of front elements message = option_map (need_for message) (missing_of front elements message)

-- a and b are one need
abbrev pub need_eq : Need → Need → Bool
need_eq (needs.Element a) (needs.Element b) = name_eq a b
need_eq (needs.Front a) (needs.Front b) = a == b
need_eq (needs.Element a) (needs.Front b) = false
need_eq (needs.Front a) (needs.Element b) = false
