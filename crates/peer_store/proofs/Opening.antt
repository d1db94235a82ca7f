-- A store that is opened, by what was read of its file.
use Rattle.std.proofs.Common.{◌≡◌, inl, inr, ℕ, ◌+◌, ◌<◌, List, [], ◌∷◌, ◌++◌, length, refl, sym, ◌∙◌, ap, subst, arith, length-append, All, Option, Some, None, IfSome, IsSome}
use Rattle.std.proofs.lemmas.List.Elements.{All-take, All-tail}
use Rattle.std.proofs.lemmas.List.{take_at}
use Rattle.peer_disk.specs.Disk.{Only}
use Rattle.peer_disk.specs.declared.walk.Ending.{Ending}
use Rattle.peer_disk.specs.declared.walk.Ending.TheVariants.{Closed, Broken}
use Rattle.peer_disk.specs.Records.{HasHead, file_head, record_of, records, gate_place, bytes_of_each, FitsRecord, HasBodies, BreaksAfter}
use Rattle.peer_disk.specs.declared.walk.Loaded.{Loaded}
use Rattle.peer_disk.specs.declared.fault.LoadFault.{LoadFault}
use Rattle.peer_disk.specs.declared.fault.LoadFault.TheVariants as loads
use Rattle.edit_io.specs.Causes.{Rose}
use Rattle.peer_disk.specs.Loading.{EndsSo, Loads}
use Rattle.peer_store.specs.declared.fault.StoreFault.{StoreFault}
use Rattle.peer_store.specs.declared.fault.StoreFault.TheVariants.{DiskFault, NotAStore, Spent, StoreFull, NoMemory}
use Rattle.peer_store.specs.Faults.{fault_of_load, MayFailOpening}
use Rattle.peer_step.specs.declared.step.Step.{Step}
use Rattle.peer_core.specs.Peer.{Peer, fresh_peer}
use Rattle.peer_store.specs.Store.{Saved, IsSaved, HasGate, BreaksOffAt, IsNoStoreFrom}
use Rattle.peer_store.specs.Replay.{IsReplay, StopsBefore, IsStoppedBy, IsRefusedBy}
use Rattle.peer_store.proofs.Replays.{behind_made}

-- the gate behind the bodies of a file stands in it
gate_in_file : (site : ℕ) (bodies : List (List ℕ)) (file : List ℕ) → HasBodies site bodies file → gate_place bodies < length file
gate_in_file site bodies file has =
    omega (arith, ap length has.bytes, length-append (file_head site ++ records bodies) (has.gate ∷ has.rest), length-append (file_head site) (records bodies))

pub has_gate : (site : ℕ) (bodies : List (List ℕ)) (seen now : Option (List ℕ)) (saved : Saved) → IfSome seen (HasBodies site bodies) → now ≡ seen → saved.place ≡ gate_place bodies → HasGate saved now
has_gate site bodies None now saved has same place_is = subst (HasGate saved) (sym same) tt
has_gate site bodies (Some file) now saved has same place_is =
    let there : saved.place < length file + length (records saved.unsaved) = omega (arith, gate_in_file site bodies file has, place_is) in
    subst (HasGate saved) (sym same) there

-- the peer that the bodies lead to is saved
pub saved_again : (site : ℕ) (bodies : List (List ℕ)) (seen now : Option (List ℕ)) (may_leave : List ℕ → Type 0) (saved : Saved) → IsSome seen → IfSome seen (HasBodies site bodies) → now ≡ seen
    → IfSome now (λ file. Only file may_leave) → IsReplay (fresh_peer site) bodies saved.peer → saved.place ≡ gate_place bodies → saved.unsaved ≡ [] → saved.safe ≡ length saved.peer.journal
    → (steps : List Step) × IsSaved site steps saved now may_leave
saved_again site bodies None now may_leave saved told has same only replay place_is none safe_is = absurd (cc told)
saved_again site bodies (Some file) now may_leave saved told has same only replay place_is none safe_is = (
  replay.steps,
  record {
    bodies = bodies;
    spelled = replay.spelled;
    keeps = record {
      file = file;
      told = same;
      has = has;
      durable = subst (λ (s : Option (List ℕ)). IfSome s (λ f. Only f may_leave)) same only;
      place_is = place_is;
    };
    peer_is = replay.after;
    none = none;
    safe_is = safe_is;
  },
)

-- ---- a file that is no store

-- nothing whole stands behind its records
pub breaks_here : (site offset : ℕ) (bodies : List (List ℕ)) (seen : Option (List ℕ)) (peer : Peer) → IfSome seen (BreaksAfter site bodies) → IsReplay (fresh_peer site) bodies peer → offset ≡ gate_place bodies
    → IfSome seen (IsNoStoreFrom site offset)
breaks_here site offset bodies None peer broken replay offset_is = tt
breaks_here site offset bodies (Some file) peer broken replay offset_is = inr (record {
  steps = replay.steps;
  bodies = bodies;
  rest = broken.rest;
  bytes = broken.bytes;
  short = broken.short;
  spelled = replay.spelled;
  offset_is = offset_is;
  stops = inl broken.broken;
})

first_short : (made others : List (List ℕ)) (body : List ℕ) → All FitsRecord (made ++ body ∷ others) → All FitsRecord made
first_short made others body short = subst (All FitsRecord) (take_at made (body ∷ others) (length made) refl) (All-take FitsRecord (length made) (made ++ body ∷ others) short)

body_short : (made others : List (List ℕ)) (body : List ℕ) → All FitsRecord (made ++ body ∷ others) → FitsRecord body
body_short [] others body short = short 0 [] (omega arith)
body_short (m ∷ made) others body short = body_short made others body (All-tail FitsRecord m (made ++ body ∷ others) short)

stops_in : (site offset : ℕ) (bodies : List (List ℕ)) (file end : List ℕ) → file ≡ file_head site ++ records bodies ++ end → All FitsRecord bodies → StopsBefore (fresh_peer site) offset bodies → BreaksOffAt site offset file
stops_in site offset bodies file end bytes short stop =
    let shorts : All FitsRecord (stop.made ++ stop.body ∷ stop.others) = subst (All FitsRecord) stop.bodies_are short in
    record {
      steps = stop.steps;
      bodies = stop.made;
      rest = record_of stop.body ++ (records stop.others ++ end);
      bytes = bytes ∙ ap (λ (l : List (List ℕ)). file_head site ++ records l ++ end) stop.bodies_are ∙ behind_made site stop.made stop.others stop.body end;
      short = first_short stop.made stop.others stop.body shorts;
      spelled = stop.spelled;
      offset_is = stop.offset_is;
      stops = inr (record { body = stop.body; rest = records stop.others ++ end; bytes_are = refl; short = body_short stop.made stop.others stop.body shorts; no_step = stop.no_step });
    }

-- a record is of no step
pub stops_here : (site offset : ℕ) (bodies : List (List ℕ)) (ending : Ending) (seen : Option (List ℕ)) → IfSome seen (EndsSo ending site bodies) → StopsBefore (fresh_peer site) offset bodies → IfSome seen (IsNoStoreFrom site offset)
stops_here site offset bodies ending None ends stop = tt
stops_here site offset bodies Closed (Some file) ends stop = inr (stops_in site offset bodies file (ends.gate ∷ ends.rest) ends.bytes ends.short stop)
stops_here site offset bodies Broken (Some file) ends stop = inr (stops_in site offset bodies file ends.rest ends.bytes ends.short stop)

-- it begins otherwise
pub begins_otherwise : (site : ℕ) (seen : Option (List ℕ)) → IfSome seen (λ file. ¬ HasHead site file) → IfSome seen (IsNoStoreFrom site 0)
begins_otherwise site None other = tt
begins_otherwise site (Some file) other = inl (refl, other)

-- ---- what was read is refused

pub refused_by : (fault : StoreFault) (site : ℕ) (loaded : Loaded) → IsStoppedBy fault (fresh_peer site) (bytes_of_each loaded.bodies.items) → IsRefusedBy fault site loaded
refused_by DiskFault site loaded stop = absurd stop
refused_by (NotAStore offset) site loaded stop = λ file read. stops_here site offset (bytes_of_each loaded.bodies.items) loaded.ending (Some file) read stop
refused_by Spent site loaded stop = absurd stop
refused_by StoreFull site loaded stop = absurd stop
refused_by NoMemory site loaded stop = tt

pub refused_broken : (site offset : ℕ) (loaded : Loaded) (peer : Peer) → loaded.ending ≡ Broken → IsReplay (fresh_peer site) (bytes_of_each loaded.bodies.items) peer → offset ≡ gate_place (bytes_of_each loaded.bodies.items)
    → IsRefusedBy (NotAStore offset) site loaded
refused_broken site offset loaded peer broken replay offset_is file read =
    breaks_here site offset (bytes_of_each loaded.bodies.items) (Some file) peer (subst (λ e. EndsSo e site (bytes_of_each loaded.bodies.items) file) broken read) replay offset_is

-- of a file that was read
pub no_store_told : (fault : StoreFault) (site : ℕ) (loaded : Loaded) (seen : Option (List ℕ)) (before now : ℕ) → IfSome seen (Loads site loaded) → IsRefusedBy fault site loaded → MayFailOpening fault site seen before now
no_store_told DiskFault site loaded seen before now read refused = absurd refused
no_store_told (NotAStore offset) site loaded None before now read refused = tt
no_store_told (NotAStore offset) site loaded (Some file) before now read refused = refused file read
no_store_told Spent site loaded seen before now read refused = absurd refused
no_store_told StoreFull site loaded seen before now read refused = absurd refused
no_store_told NoMemory site loaded seen before now read refused = tt

-- a file that couldn't be read
pub unread : (load : LoadFault) (fault : StoreFault) (site : ℕ) (seen : Option (List ℕ)) (before now : ℕ) → fault ≡ fault_of_load load → (load ≡ loads.DiskFault → Rose before now)
    → (load ≡ loads.NoHead → IfSome seen (λ file. ¬ HasHead site file)) → MayFailOpening fault site seen before now
unread loads.DiskFault fault site seen before now is rose other = subst (λ f. MayFailOpening f site seen before now) (sym is) (rose refl)
unread loads.NoMemory fault site seen before now is rose other = subst (λ f. MayFailOpening f site seen before now) (sym is) tt
unread loads.NoHead fault site seen before now is rose other = subst (λ f. MayFailOpening f site seen before now) (sym is) (begins_otherwise site seen (other refl))

-- where a file that ends as it should was read
pub closed_loads : (site : ℕ) (loaded : Loaded) (seen : Option (List ℕ)) → loaded.ending ≡ Closed → IfSome seen (Loads site loaded) → IfSome seen (HasBodies site (bytes_of_each loaded.bodies.items))
closed_loads site loaded None closed read = tt
closed_loads site loaded (Some file) closed read = subst (λ e. EndsSo e site (bytes_of_each loaded.bodies.items) file) closed read
