-- What is kept beside the held messages: their numbers of arrival, and rows of tickets for what they wait for and for their keys.
use Rattle.std.specs.Prelude.{◌≡◌, ℕ, ◌+◌, ◌*◌, ◌<◌, ◌≤◌, ◌==◌, Bool, true, ◌&&◌, List, [], ◌∷◌, Option, None, Some, map, length, nat_lt, slice_index_or, if◌then◌else◌}
use Rattle.std.specs.VecDeque.{deque_len, deque_capacity}
use Rattle.std.specs.List.{All, AllPairs, list_all, count_by}
use Rattle.edit_message.specs.Message.{key_of}
use Rattle.edit_message.specs.declared.message.Key.{Key}
use Rattle.edit_message.specs.declared.message.Key.TheVariants.{Coop, Admin}
use Rattle.hold_back.specs.declared.held.Held.{Held}
use Rattle.hold_back.specs.declared.awaited.Awaited.{Awaited}
use Rattle.hold_back.specs.declared.awaited.Awaited.TheVariants as awaited
use Rattle.hold_back.specs.declared.awaited.Awaited.TheVariants.{Nothing}
use Rattle.hold_back.specs.declared.index.Index.{Index}
use Rattle.hold_back.specs.declared.need.Need.{Need}
use Rattle.hold_back.specs.declared.need.Need.TheVariants.{Element, Front}
use Rattle.hold_back.specs.declared.ticket.Ticket.{Ticket}
use Rattle.hold_back.specs.Hold.{IsHold}

-- what a message awaits: nothing where it is woken
abbrev pub awaited_need : Option Need → Awaited
awaited_need None = Nothing
awaited_need (Some (Element name)) = awaited.Element name
awaited_need (Some (Front version)) = awaited.Version version

-- the need of a message that awaits this
abbrev pub need_awaited : Awaited → Option Need
need_awaited Nothing = None
need_awaited (awaited.Element name) = Some (Element name)
need_awaited (awaited.Version version) = Some (Front version)

-- what has a key: a request's name, or an entry's version
abbrev pub awaited_key : Key → Awaited
awaited_key (Coop name) = awaited.Element name
awaited_key (Admin version) = awaited.Version version

-- the place of what is awaited in the order: nothing comes first, then versions, then names in their own order
abbrev pub awaited_rank : Awaited → ℕ
awaited_rank Nothing = 0
awaited_rank (awaited.Version version) = version + 1
awaited_rank (awaited.Element name) = 4294967297 + name.stamp * 65536 + name.site

-- it is in the range of its type, so that its rank is that of no other
abbrev pub is_ranked : Awaited → Bool
is_ranked Nothing = true
is_ranked (awaited.Version version) = nat_lt version 4294967296
is_ranked (awaited.Element name) = nat_lt name.site 65536

-- so is what a message awaits
abbrev pub need_fits : Option Need → Bool
need_fits need = is_ranked (awaited_need need)

-- so is what has the key
abbrev pub key_fits : Key → Bool
key_fits key = is_ranked (awaited_key key)

-- so are both
abbrev pub held_fits : Held → Bool
held_fits h = need_fits h.need && key_fits (key_of h.message)

-- the rank of what a message awaits
abbrev pub need_rank : Option Need → ℕ
need_rank need = awaited_rank (awaited_need need)

-- the rank of a key
abbrev pub key_rank : Key → ℕ
key_rank key = awaited_rank (awaited_key key)

-- the ranks of what the messages await, in order of arrival
abbrev pub need_ranks : List Held → List ℕ
need_ranks held = map (λ h. need_rank h.need) held

-- the ranks of their keys, in order of arrival
abbrev pub key_ranks : List Held → List ℕ
key_ranks held = map (λ h. key_rank (key_of h.message)) held

-- the rank of a ticket: that of what is awaited, and then the number of arrival
abbrev pub rank : ℕ → ℕ → ℕ
rank awaited arrival = awaited * 4294967296 + arrival

-- the rank of a ticket, by which tickets are ordered
abbrev pub ticket_rank : Ticket → ℕ
ticket_rank t = rank (awaited_rank t.awaited) t.arrival

-- those of the tickets in a row
abbrev pub ticket_ranks : List Ticket → List ℕ
ticket_ranks row = map ticket_rank row

-- the ranks of the tickets of messages that await what has these ranks, and came so
abbrev pub ranks : List ℕ → List ℕ → List ℕ
ranks [] arrivals = []
ranks (n ∷ awaited) [] = []
ranks (n ∷ awaited) (a ∷ arrivals) = rank n a ∷ ranks awaited arrivals

-- how often x stands in the row
abbrev pub times_in : ℕ → List ℕ → ℕ
times_in x row = count_by (λ y. y == x) row

-- the place of the first that isn't below x
pub record IsFirstNotBelow (x : ℕ) (row : List ℕ) (i : ℕ) : Type 0 where
  pub within : i ≤ length row
  pub below : (k d : ℕ) → k < i → slice_index_or row k d < x
  pub above : (k d : ℕ) → i ≤ k → k < length row → x ≤ slice_index_or row k d

-- no number is below one before it
abbrev pub IsRisingRow : List ℕ → Type 0
IsRisingRow row = AllPairs (λ a b. a ≤ b) row

-- the row is as it was but for one x more
pub record IsWith (x : ℕ) (old new : List ℕ) : Type 0 where
  pub rising : IsRisingRow new
  pub times : (y : ℕ) → times_in y new ≡ times_in y old + (if x == y then 1 else 0)

-- the row is as it was but for one x less
pub record IsWithout (x : ℕ) (old new : List ℕ) : Type 0 where
  pub rising : IsRisingRow new
  pub times : (y : ℕ) → times_in y new + (if x == y then 1 else 0) ≡ times_in y old

-- numbers of arrival rise, in 32 bits
pub record AreArrivals (arrivals : List ℕ) : Type 0 where
  pub rising : AllPairs (λ a b. a < b) arrivals
  pub small : All (λ a. a < 4294967296) arrivals

-- the row has the ranks of the tickets of messages that await what has these ranks, and came so, in rising order
pub record IsTicketRow (awaited arrivals row : List ℕ) : Type 0 where
  pub count : length awaited ≡ length arrivals
  pub rising : IsRisingRow row
  pub tickets : (x : ℕ) → times_in x row ≡ times_in x (ranks awaited arrivals)

-- there is room for one more message
pub record HasIndexRoom (index : Index) : Type 0 where
  pub arrivals : deque_len index.arrivals < deque_capacity index.arrivals
  pub needs : deque_len index.needs < deque_capacity index.needs
  pub keys : deque_len index.keys < deque_capacity index.keys

-- a message of this number of arrival comes behind all
pub record IsNextArrival (index : Index) (arrival : ℕ) : Type 0 where
  pub later : All (λ a. a < arrival) index.arrivals.items
  pub small : arrival < 4294967296

-- there is room for a message of this number of arrival, which comes behind all
pub record HasArrivalRoom (index : Index) (arrival : ℕ) : Type 0 where
  pub room : HasIndexRoom index
  pub next : IsNextArrival index arrival

-- the rows are those of messages that await what has these ranks, and with keys of these ranks
pub record IsIndexOf (needs keys : List ℕ) (index : Index) : Type 0 where
  pub arrivals : AreArrivals index.arrivals.items
  pub waiting : IsTicketRow needs index.arrivals.items (ticket_ranks index.needs.items)
  pub keyed : IsTicketRow keys index.arrivals.items (ticket_ranks index.keys.items)

-- the rows are those of the messages
abbrev pub AreTicketsOf : List Held → Index → Type 0
AreTicketsOf held index = IsIndexOf (need_ranks held) (key_ranks held) index

-- the rows are those of the held messages
pub record IsIndexed (held : List Held) (index : Index) : Type 0 where
  pub hold : IsHold held
  pub fit : list_all held_fits held ≡ true
  pub rows : AreTicketsOf held index
