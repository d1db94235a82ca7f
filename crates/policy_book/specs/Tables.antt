-- The lists of a policy as its value.
use Rattle.policy_book.specs.declared.tables.Tables.{Tables}
use Rattle.policy_book.specs.Policy.{Policy}

abbrev pub policy_in_tables : Tables → Policy
policy_in_tables t = record { users = t.users.items; objects = t.objects.items; groups = t.groups.items; auths = t.auths.items }
