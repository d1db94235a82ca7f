-- Each ending has its own code.
use Rattle.std.proofs.Common.{◌≡◌, ℕ, ◌≤◌, true, ◌==◌, ◌∙◌, length, Option, Some, find, refl, sym, ap, lit<, lit≤}
use Rattle.std.specs.Prelude.{Contains}
use Rattle.host_link.specs.declared.ending.Ending.{Ending}
use Rattle.host_link.specs.declared.ending.Ending.TheVariants.{GoingAway, OtherVersion, BadMessage, OnlyReads, Silent, Slow, OtherDocument, NoDocument, Renewed, Closed, Replaced, TooManyLinks, TooManyDevices, NewRole, WrongSecret, TooManyTries, ForgedSite, EntryOffered, AheadOfHost, StampAhead, Misses, DeniedTooOften, OwnersReserve, StoreFull, DiskFault, NoMemory}
use Rattle.host_link.specs.declared.ending.TheConstants.{ALL_ENDINGS}
use Rattle.host_link.specs.declared.limits.TheConstants.{MAX_REASON}
use Rattle.host_link.specs.Closes.{close_code, close_words, is_server_code, ServerCodeLaw, ReasonLaw, OneEndingLaw, AllEndingsLaw}

-- the ending of a code
by_code : ℕ → Option Ending
by_code code = find (λ (why : Ending). close_code why == code) ALL_ENDINGS

-- a server may send its code, a close has room for its words, it is among all endings, and it is found by its code
told_apart : (why : Ending) → (is_server_code (close_code why) ≡ true) × (length (close_words why) ≤ MAX_REASON) × Contains ALL_ENDINGS why × (by_code (close_code why) ≡ Some why)
unfolding by_code
told_apart GoingAway = (refl, lit≤ tt, (0, lit< tt, refl), refl)
told_apart OtherVersion = (refl, lit≤ tt, (1, lit< tt, refl), refl)
told_apart BadMessage = (refl, lit≤ tt, (2, lit< tt, refl), refl)
told_apart OnlyReads = (refl, lit≤ tt, (3, lit< tt, refl), refl)
told_apart Silent = (refl, lit≤ tt, (4, lit< tt, refl), refl)
told_apart Slow = (refl, lit≤ tt, (5, lit< tt, refl), refl)
told_apart OtherDocument = (refl, lit≤ tt, (6, lit< tt, refl), refl)
told_apart NoDocument = (refl, lit≤ tt, (7, lit< tt, refl), refl)
told_apart Renewed = (refl, lit≤ tt, (8, lit< tt, refl), refl)
told_apart Closed = (refl, lit≤ tt, (9, lit< tt, refl), refl)
told_apart Replaced = (refl, lit≤ tt, (10, lit< tt, refl), refl)
told_apart TooManyLinks = (refl, lit≤ tt, (11, lit< tt, refl), refl)
told_apart TooManyDevices = (refl, lit≤ tt, (12, lit< tt, refl), refl)
told_apart NewRole = (refl, lit≤ tt, (13, lit< tt, refl), refl)
told_apart WrongSecret = (refl, lit≤ tt, (14, lit< tt, refl), refl)
told_apart TooManyTries = (refl, lit≤ tt, (15, lit< tt, refl), refl)
told_apart ForgedSite = (refl, lit≤ tt, (16, lit< tt, refl), refl)
told_apart EntryOffered = (refl, lit≤ tt, (17, lit< tt, refl), refl)
told_apart AheadOfHost = (refl, lit≤ tt, (18, lit< tt, refl), refl)
told_apart StampAhead = (refl, lit≤ tt, (19, lit< tt, refl), refl)
told_apart Misses = (refl, lit≤ tt, (20, lit< tt, refl), refl)
told_apart DeniedTooOften = (refl, lit≤ tt, (21, lit< tt, refl), refl)
told_apart OwnersReserve = (refl, lit≤ tt, (22, lit< tt, refl), refl)
told_apart StoreFull = (refl, lit≤ tt, (23, lit< tt, refl), refl)
told_apart DiskFault = (refl, lit≤ tt, (24, lit< tt, refl), refl)
told_apart NoMemory = (refl, lit≤ tt, (25, lit< tt, refl), refl)

pub server_code : ServerCodeLaw
server_code why = (told_apart why).0

pub reason : ReasonLaw
reason why = (told_apart why).1

pub all_endings : AllEndingsLaw
all_endings why = (told_apart why).2

pub one_ending : OneEndingLaw
one_ending a b same =
    let both : Some a ≡ Some b = sym (told_apart a).3 ∙ ap (λ (code : ℕ). by_code code) same ∙ (told_apart b).3 in
    cc
