-- Bodies one by one, and the places of their gates.
use Rattle.std.proofs.Common.{◌≡◌, ℕ, suc, ◌+◌, ◌≤◌, ◌<◌, true, List, [], ◌∷◌, ◌++◌, length, get_or, take, drop, refl, sym, ◌∙◌, ap, subst, arith, append_assoc, Vec}
use Rattle.std.proofs.Math.Seq.{drop-cons}
use Rattle.std.proofs.lemmas.List.{take-append-drop}
use Rattle.std.proofs.lemmas.List.Sums.{fold_push}
use Rattle.peer_disk.specs.Records.{file_head, record_of, records, gate_place, bytes_of_each}
use Rattle.peer_disk.proofs.Appending.{records-append, each-append}
use Rattle.peer_disk.proofs.Buffers.{one_more, gate_behind, gate_within}
use Rattle.peer_core.specs.Peer.{Peer}
use Rattle.peer_core.specs.After.{peer_after}
use Rattle.peer_store.specs.Steps.{changes}
use Rattle.peer_store.specs.Store.{IsBodyFor, IsNoStep}
use Rattle.peer_store.specs.Replay.{MakesBody, IsReplay, StopsBefore}
use Rattle.peer_store.proofs.Saving.{kept_push}

-- of bytes that begin with these bodies, those behind the first ones
pub behind_made : (site : ℕ) (made others : List (List ℕ)) (body end : List ℕ)
    → file_head site ++ records (made ++ body ∷ others) ++ end ≡ file_head site ++ records made ++ (record_of body ++ (records others ++ end))
behind_made site made others body end =
    ap (λ (l : List ℕ). file_head site ++ l ++ end) (records-append made (body ∷ others))
    ∙ ap (λ (l : List ℕ). l ++ end) (sym (append_assoc (file_head site) (records made) (record_of body ++ records others)))
    ∙ append_assoc (file_head site ++ records made) (record_of body ++ records others) end
    ∙ ap (λ (l : List ℕ). file_head site ++ records made ++ l) (append_assoc (record_of body) (records others) end)

-- bodies before a place, the one there, and those behind it
pub each_split : {A : Type 0} (buffers : List (Vec ℕ A)) (i : ℕ) (d : Vec ℕ A) → i < length buffers
    → bytes_of_each buffers ≡ bytes_of_each (take i buffers) ++ (get_or buffers i d).items ∷ bytes_of_each (drop (suc i) buffers)
each_split buffers i d within =
    ap bytes_of_each (sym (take-append-drop i buffers) ∙ ap (λ l. take i buffers ++ l) (drop-cons buffers i d within))
    ∙ each-append (take i buffers) (get_or buffers i d ∷ drop (suc i) buffers)

pub nothing_made : (p : Peer) → IsReplay p [] p
nothing_made p = record { steps = []; spelled = tt; after = refl }

-- a replay goes on by one body
pub made_more : (old mid new : Peer) (bodies : List (List ℕ)) (body : List ℕ) → IsReplay old bodies mid → MakesBody mid body new → IsReplay old (bodies ++ body ∷ []) new
made_more old mid new bodies body so_far made = record {
  steps = so_far.steps ++ made.step ∷ [];
  spelled = kept_push old so_far.steps bodies made.step body so_far.spelled (subst (λ p. IsBodyFor p made.step body) so_far.after made.spells) (subst (λ p. changes p made.step ≡ true) so_far.after made.turns);
  after = made.after ∙ ap (λ p. peer_after p made.step) so_far.after ∙ sym (fold_push peer_after old so_far.steps made.step);
}

-- it stops before a body of no step
pub stops_here : (old mid : Peer) (offset : ℕ) (bodies made others : List (List ℕ)) (body : List ℕ) → bodies ≡ made ++ body ∷ others → IsReplay old made mid → IsNoStep mid body → offset ≡ gate_place made
    → StopsBefore old offset bodies
stops_here old mid offset bodies made others body are so_far no_step offset_is = record {
  made = made;
  body = body;
  others = others;
  bodies_are = are;
  steps = so_far.steps;
  spelled = so_far.spelled;
  no_step = subst (λ p. IsNoStep p body) so_far.after no_step;
  offset_is = offset_is;
}

-- ---- a loop over buffers

module _ {A : Type 0} (bodies : List (Vec ℕ A)) (i : ℕ) (item : Vec ℕ A) (within : i < length bodies) (item_is : item ≡ get_or bodies i item) where
  -- the replay and the place of the gate after one body more
  pub next_replay : (old mid new : Peer) (body : List ℕ) → body ≡ item.items → IsReplay old (bytes_of_each (take i bodies)) mid → MakesBody mid body new → IsReplay old (bytes_of_each (take (i + 1) bodies)) new
  next_replay old mid new body body_is so_far made =
      subst (λ (l : List (List ℕ)). IsReplay old l new) (sym (one_more bodies i item within item_is ∙ ap (λ (b : List ℕ). bytes_of_each (take i bodies) ++ b ∷ []) (sym body_is))) (made_more old mid new (bytes_of_each (take i bodies)) body so_far made)

  pub next_place : (place len : ℕ) → len ≡ length item.items → place ≡ gate_place (bytes_of_each (take i bodies)) → place + (3 + len) ≡ gate_place (bytes_of_each (take (i + 1) bodies))
  next_place place len len_is place_is =
      omega (arith, gate_behind bodies i item within item_is, len_is, place_is)

  pub place_below : (place len : ℕ) → len ≡ length item.items → place ≡ gate_place (bytes_of_each (take i bodies)) → place + (3 + len) ≤ gate_place (bytes_of_each bodies)
  place_below place len len_is place_is =
      omega (arith, next_place place len len_is place_is, gate_within bodies i item within item_is)

  pub stops_at_item : (old mid : Peer) (place : ℕ) (body : List ℕ) → body ≡ item.items → place ≡ gate_place (bytes_of_each (take i bodies)) → IsReplay old (bytes_of_each (take i bodies)) mid → IsNoStep mid body
      → StopsBefore old place (bytes_of_each bodies)
  stops_at_item old mid place body body_is place_is so_far no_step =
      let parts : bytes_of_each bodies ≡ bytes_of_each (take i bodies) ++ body ∷ bytes_of_each (drop (suc i) bodies) = each_split bodies i item within
      ∙ ap (λ (v : Vec ℕ A). bytes_of_each (take i bodies) ++ v.items ∷ bytes_of_each (drop (suc i) bodies)) (sym item_is)
      ∙ ap (λ (b : List ℕ). bytes_of_each (take i bodies) ++ b ∷ bytes_of_each (drop (suc i) bodies)) (sym body_is) in
      stops_here old mid place (bytes_of_each bodies) (bytes_of_each (take i bodies)) (bytes_of_each (drop (suc i) bodies)) body parts so_far no_step place_is
