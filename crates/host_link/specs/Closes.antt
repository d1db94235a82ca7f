-- How a link is closed: the code and the words of each ending, and what RFC 6455 lets a server say.
use Rattle.std.specs.Prelude.{◌≡◌, ◌≤◌, ℕ, List, Bool, true, ◌&&◌, ◌||◌, ◌==◌, nat_le, length, codes, Contains}
use Rattle.host_link.specs.declared.ending.Ending.{Ending}
use Rattle.host_link.specs.declared.ending.Ending.TheVariants.{GoingAway, OtherVersion, BadMessage, OnlyReads, Silent, Slow, OtherDocument, NoDocument, Renewed, Closed, Replaced, TooManyLinks, TooManyDevices, NewRole, WrongSecret, TooManyTries, ForgedSite, EntryOffered, AheadOfHost, StampAhead, Misses, DeniedTooOften, OwnersReserve, StoreFull, DiskFault, NoMemory}
use Rattle.host_link.specs.declared.ending.TheConstants.{ALL_ENDINGS}
use Rattle.host_link.specs.declared.limits.TheConstants.{MAX_REASON}

-- the code of a close, and its words
abbrev pub close_of : Ending → ℕ × List ℕ
close_of GoingAway = (1001, codes "the host ends")
close_of OtherVersion = (4000, codes "version 1 of the protocol is spoken here")
close_of BadMessage = (4002, codes "no message of the protocol")
close_of OnlyReads = (4005, codes "a reader's link")
close_of Silent = (4007, codes "silent for too long")
close_of Slow = (4008, codes "took nothing for too long")
close_of OtherDocument = (4013, codes "another document")
close_of NoDocument = (4014, codes "no such document")
close_of Renewed = (4024, codes "the document was renewed")
close_of Closed = (4015, codes "the device was closed")
close_of Replaced = (4016, codes "a newer link of this device")
close_of TooManyLinks = (4017, codes "too many links of this person")
close_of TooManyDevices = (4018, codes "too many devices in this document")
close_of NewRole = (4019, codes "another role of this person")
close_of WrongSecret = (4001, codes "no such device, or another secret")
close_of TooManyTries = (4009, codes "too many wrong keys: try again in a minute")
close_of ForgedSite = (4003, codes "a request of another site")
close_of EntryOffered = (4004, codes "an entry")
close_of AheadOfHost = (4006, codes "ahead of the host")
close_of StampAhead = (4020, codes "a stamp too far ahead")
close_of Misses = (4021, codes "a request in front of what it needs")
close_of DeniedTooOften = (4022, codes "too many requests were denied")
close_of OwnersReserve = (4023, codes "what room is left is for the owners")
close_of StoreFull = (4010, codes "the store is full")
close_of DiskFault = (4011, codes "the disk failed")
close_of NoMemory = (4012, codes "no memory")

-- the code alone
abbrev pub close_code : Ending → ℕ
close_code why = (close_of why).0

-- the words alone
abbrev pub close_words : Ending → List ℕ
close_words why = (close_of why).1

-- a number lies between two others, or is one of them
abbrev pub lies_within : ℕ → ℕ → ℕ → Bool
lies_within first last n = nat_le first n && nat_le n last

-- a code that a server may send: one of those that RFC 6455 has for it, or one of a library or of an application's own
abbrev pub is_server_code : ℕ → Bool
is_server_code code = lies_within 1000 1003 code || lies_within 1007 1009 code || code == 1011 || lies_within 3000 4999 code

-- each ending has such a code
abbrev pub ServerCodeLaw : Type 0
ServerCodeLaw = (why : Ending) → is_server_code (close_code why) ≡ true

-- the words of each have room in a close
abbrev pub ReasonLaw : Type 0
ReasonLaw = (why : Ending) → length (close_words why) ≤ MAX_REASON

-- endings of one code are one
abbrev pub OneEndingLaw : Type 0
OneEndingLaw = (a b : Ending) → close_code a ≡ close_code b → a ≡ b

-- each is among all of them
abbrev pub AllEndingsLaw : Type 0
AllEndingsLaw = (why : Ending) → Contains ALL_ENDINGS why
