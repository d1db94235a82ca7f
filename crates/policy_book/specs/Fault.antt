-- The numbers of the faults of an entry.
use Rattle.std.specs.Prelude.{ℕ}
use Rattle.policy_book.specs.declared.fault.EntryFault.{EntryFault}
use Rattle.policy_book.specs.declared.fault.EntryFault.TheVariants as faults

-- a fault's number: where several hold, the least is told
abbrev pub fault_number : EntryFault → ℕ
fault_number faults.UserThere = 1
fault_number faults.NoUser = 2
fault_number faults.IsAdministrator = 3
fault_number faults.ObjectThere = 4
fault_number faults.NoObject = 5
fault_number (faults.BadPlace len) = 6
fault_number (faults.TooMany limit) = 7
fault_number (faults.ValidatedAt version) = 8
fault_number faults.GroupThere = 9
fault_number faults.NoGroup = 10
fault_number faults.MemberThere = 11
fault_number faults.NoMember = 12
