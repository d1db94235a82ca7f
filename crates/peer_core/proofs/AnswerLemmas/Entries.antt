-- What an integrated message makes, and the answers to the administrator.
use Rattle.std.proofs.Common.{◌≡◌, ◌⊎◌, ℕ, ◌+◌, ◌<◌, inl, inr, ⊎_elim, Bool, true, false, not, cond, List, [], ◌∷◌, ◌++◌, length, None, Some, refl, ap, sym, subst, ◌∙◌, arith, length-append}
use Rattle.std.specs.Prelude.{nat_lt, nat_eq, map, filter, find, position, option_map}
use Rattle.std.specs.declared.option.Option.{Option}
use Rattle.std.specs.Option.{option_or}
use Rattle.std.specs.List.{list_any, list_all, position_or_len}
use Rattle.std.proofs.lemmas.Bool.{and_parts, or_from, eq-eqb, ne_eqb}
use Rattle.std.proofs.lemmas.List.{length-map}
use Rattle.std.proofs.lemmas.List.Folds.{find-append}
use Rattle.std.proofs.lemmas.Option.{same_Some}
use Rattle.element_name.specs.Name.{Name, name_lt}
use Rattle.element_name.specs.Growing.{EachFrom}
use Rattle.coop_request.specs.Request.{Request, user_of}
use Rattle.coop_request.specs.History.{elements_of, text_order}
use Rattle.policy_book.specs.declared.op.AdminOp.{AdminOp}
use Rattle.policy_book.specs.declared.op.AdminOp.TheVariants.{Validate}
use Rattle.policy_book.specs.declared.fault.EntryFault.TheVariants.{ValidatedAt}
use Rattle.policy_book.specs.Entry.{Entry}
use Rattle.edit_message.specs.declared.message.Key.{Key}
use Rattle.edit_message.specs.declared.message.Message.{Message}
use Rattle.edit_message.specs.declared.message.Message.TheVariants.{Coop, Admin}
use Rattle.edit_message.specs.Message.{key_of, key_eq, find_key, requests_of, entries_of}
use Rattle.edit_message.specs.Missing.{missing_end}
use Rattle.admin_log.specs.Log.{entry_fault, validated_at, FollowsLog}
use Rattle.request_state.specs.declared.state.State.{State}
use Rattle.request_state.specs.State.{is_tentative}
use Rattle.request_state.specs.Lines.{lesser}
use Rattle.check_remote.specs.State.{first_denial, state_by, state_of}
use Rattle.hold_back.specs.declared.held.Held.{Held}
use Rattle.hold_back.specs.Hold.{messages_of, find_held, due_at}
use Rattle.peer_tables.specs.Derived.{state_in, undone_between}
use Rattle.peer_core.specs.Peer.{Peer, history, log, front}
use Rattle.peer_core.specs.Sound.{IsSound, is_foreign}
use Rattle.peer_core.specs.Waiting.{MayIntegrate}
use Rattle.peer_tables.specs.Awaiting.{least_name, awaits, least_awaiting}
use Rattle.peer_core.specs.Answers.{next_entry}
use Rattle.peer_tables.proofs.JournalLemmas.{log_law, requests_request, entries_request, entries_entry}
use Rattle.peer_core.proofs.WaitingLemmas.OneMore.{entry_known}
use Rattle.peer_core.proofs.SoundLemmas.Peers.{own_entry_new}

-- ---- what is found

pub find_messages : (key : Key) (held : List Held) → find_held key held ≡ find_key key (messages_of held)
find_messages key [] = refl
find_messages key (h ∷ held) = one (key_eq (key_of h.message) key) h.message h (find (λ (x : Held). key_eq (key_of x.message) key) held) (find_key key (messages_of held)) refl (find_messages key held)
  where
    one : (b : Bool) (m : Message) (h : Held) (rest : Option Held) (others : Option Message) → h.message ≡ m → option_map (λ (x : Held). x.message) rest ≡ others
        → option_map (λ (x : Held). x.message) (cond b (Some h) rest) ≡ cond b (Some m) others
    one true m h rest others same more = ap Some same
    one false m h rest others same more = more

pub found_there : (key : Key) (J H : List Message) (o : Option Message) → o ≡ find_key key J → find_key key (J ++ H) ≡ option_or o (find_key key H)
found_there key J H o is = find-append (λ m. key_eq (key_of m) key) J H ∙ ap (λ (x : Option Message). option_or x (find_key key H)) (sym is)

place_messages : (due : Message → Bool) (held : List Held) → position_or_len (λ (h : Held). due h.message) held ≡ position_or_len due (messages_of held)
place_messages due [] = refl
place_messages due (h ∷ held) = ap (λ (k : ℕ). cond (not (due h.message)) (1 + k) 0) (place_messages due held)

pub due_messages : (due : Message → Bool) (held : List Held) → due_at due held ≡ position due (messages_of held)
due_messages due held =
    let place = place_messages due held in
    let size : length held ≡ length (messages_of held) = sym (length-map held (λ (h : Held). h.message)) in
    ap (λ (k : ℕ). cond (nat_lt k (length held)) (Some k) None) place
    ∙ ap (λ (n : ℕ). cond (nat_lt (position_or_len due (messages_of held)) n) (Some (position_or_len due (messages_of held))) None) size

-- ---- what an integrated message makes

pub state_more : (J : List Message) (q : Request) (s : State) → s ≡ state_in (requests_of J ++ q ∷ []) (entries_of J) q
    → s ≡ state_in (requests_of (J ++ Coop q ∷ [])) (entries_of (J ++ Coop q ∷ [])) q
state_more J q s is =
    is ∙ ap (λ (R : List Request). state_in R (entries_of J) q) (sym (requests_request J q))
    ∙ ap (λ (L : List Entry). state_in (requests_of (J ++ Coop q ∷ [])) L q) (sym (entries_request J q))

pub undone_more : (J : List Message) (e : Entry) (n : ℕ) → n ≡ undone_between (requests_of J) (entries_of J) (entries_of J ++ e ∷ [])
    → n ≡ undone_between (requests_of J) (entries_of J) (entries_of (J ++ Admin e ∷ []))
undone_more J e n is = is ∙ ap (λ (L : List Entry). undone_between (requests_of J) (entries_of J) L) (sym (entries_entry J e))

-- ---- an entry of the administrator

no_version : (before rest : List Entry) (v : ℕ) → EachFrom FollowsLog before rest → length before + length rest < v → list_any (λ e. nat_eq e.version v) rest ≡ false
no_version before [] v each high = refl
no_version before (e ∷ rest) v each high =
    let number = each.0.numbered in
    let size = length-append before (e ∷ []) in
    or_from (nat_eq e.version v) (list_any (λ d. nat_eq d.version v) rest) (ne_eqb e.version v (λ (same : e.version ≡ v). absurd (omega (arith, number, high, same))))
    (no_version (before ++ e ∷ []) rest v each.1 (omega (arith, size, high)))

pub may_issue : (p : Peer) (op : AdminOp) → IsSound p → p.site ≡ 0 → entry_fault (log p) op ≡ None → missing_end (elements_of (history p)) op ≡ None
    → MayIntegrate p (Admin (next_entry p op))
may_issue p op sound administrator legal ends =
    let e : Entry = next_entry p op in
    record {
      follows = record {
        new = entry_known p.journal e ∙ no_version [] (log p) e.version (log_law p.journal sound.journal) (omega arith);
        complete = rw (eq-eqb (front p + 1) (front p + 1) refl, ends) refl;
        legal = legal;
      };
      new = own_entry_new p.held e (subst (λ (site : ℕ). list_all (is_foreign site) p.held ≡ true) administrator sound.foreign);
      room = refl;
    }

tentative_open : (v : Option ℕ) → is_tentative (state_by None v) ≡ true → v ≡ None
tentative_open None h = refl
tentative_open (Some v) h = absurd (cc)

not_validated : (names : List Name) (L : List Entry) (q : Request) → is_tentative (state_of names L q) ≡ true → validated_at L q.id ≡ None
not_validated names L q h = elim (first_denial names L q) as (λ d. is_tentative (state_by d (validated_at L q.id)) ≡ true → validated_at L q.id ≡ None) [
  | Some denial ↦ λ g. absurd (cc)
  | None ↦ λ g. tentative_open (validated_at L q.id) g
] h

lesser_either : (a n : Name) (o : Option Name) → lesser (Some a) o ≡ Some n → (a ≡ n) ⊎ (o ≡ Some n)
lesser_either a n None h = inl (same_Some a n h)
lesser_either a n (Some b) h = elim (name_lt b a) as (λ t. ◌≡◌ {A = Option Name} (Some (cond t b a)) (Some n) → (a ≡ n) ⊎ (Some b ≡ Some n)) [
  | true ↦ λ g. inr g
  | false ↦ λ g. inl (same_Some a n g)
] h

-- what awaits its validation isn't validated
awaiting_open : (R : List Request) (L : List Entry) (Q : List Request) (n : Name) → least_name (map (λ q. q.id) (filter (awaits R L) Q)) ≡ Some n → validated_at L n ≡ None
awaiting_open R L [] n h = absurd (cc)
awaiting_open R L (q ∷ Q) n h = elim (awaits R L q) as (λ b. awaits R L q ≡ b
    → least_name (map (λ r. r.id) (cond b (q ∷ filter (awaits R L) Q) (filter (awaits R L) Q))) ≡ Some n → validated_at L n ≡ None) [
      | true ↦ λ t g. ⊎_elim
          (λ (here : q.id ≡ n).
          subst (λ (m : Name). validated_at L m ≡ None) here
          (not_validated (text_order R) L q (and_parts (is_tentative (state_in R L q)) (not (nat_eq (user_of q) 0)) t).0))
          (λ (later : least_name (map (λ (r : Request). r.id) (filter (awaits R L) Q)) ≡ Some n). awaiting_open R L Q n later)
          (lesser_either q.id n (least_name (map (λ (r : Request). r.id) (filter (awaits R L) Q))) g)
      | false ↦ λ f g. awaiting_open R L Q n g
    ] refl h

pub validation_legal : (R : List Request) (L : List Entry) (n : Name) → Some n ≡ least_awaiting R L → entry_fault L (Validate n) ≡ None
validation_legal R L n h = ap (option_map ValidatedAt) (awaiting_open R L R n (sym h))
