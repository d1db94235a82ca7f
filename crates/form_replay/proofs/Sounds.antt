-- The peers that `show` lines ask for are sound, so those that have the same write the same.
use Rattle.std.proofs.Common.{◌≡◌, ℕ, ◌<◌, ◌≤◌, Bool, true, false, ◌&&◌, Option, Some, None, List, [], ◌∷◌, ◌++◌, length, refl, ap, subst, arith}
use Rattle.std.specs.Prelude.{not, map, option_map, All, nat_le, nat_lt, ⊤, if◌then◌else◌}
use Rattle.std.specs.Option.{option_map_or, option_to_list}
use Rattle.std.proofs.lemmas.List.Elements.{All-cons, All-append, All-map, All-weaker}
use Rattle.std.proofs.lemmas.Bool.{and_parts, ltb-true, leb-true}
use Rattle.element_name.specs.Cases.{◌>>=◌}
use Rattle.element_name.proofs.CaseLemmas.{when-Some}
use Rattle.line_spelling.specs.declared.line.TheConstants.{MAX_LINE}
use Rattle.line_engine.specs.Input.{is_cut, counted_bytes, lines_of}
use Rattle.line_engine.specs.Run.{LineTurn, turn_of_line}
use Rattle.peer_step.specs.declared.answer.Answer.TheVariants.{Shown}
use Rattle.peer_core.specs.Peer.{Peer, fresh_peer}
use Rattle.peer_core.specs.Sound.{IsSound}
use Rattle.peer_tables.specs.Laws.{SetLaw}
use Rattle.replay_net.specs.declared.line.TheConstants.{MAX_PEERS}
use Rattle.replay_net.specs.declared.line.Line.{Line}
use Rattle.replay_net.specs.declared.line.Line.TheVariants.{Peers, Local, Give, Hand, StateOf}
use Rattle.replay_net.specs.Line.{is_receive, is_world_line, is_formed_line}
use Rattle.replay_net.specs.Laws.{HaveSame, SoundWorldLaw, FreshWorldLaw}
use Rattle.replay_net.specs.World.{World, fresh_world, peer_of, turn_of, IsSoundWorld}
use Rattle.script_text.specs.Line.{script_line}
use Rattle.script_text.specs.Laws.{FormedLaw, OpeningLaw, TakenLaw}
use Rattle.line_spelling.specs.Answers.{answer_line}
use Rattle.form_replay.specs.Replay.{script_turn, opening_turn, reply_turn}
use Rattle.form_replay.specs.Headline.{ShowLine, is_show, asked_peer, shown_peer, first_show, behind, show_lines, shows_of, shown_line}

-- the laws that this rests on
pub record Laws : Type 0 where
  pub set : SetLaw
  pub sound_world : SoundWorldLaw
  pub fresh_world_sound : FreshWorldLaw
  pub formed : FormedLaw
  pub opening : OpeningLaw
  pub taken : TakenLaw

-- a script's world is sound, if it has begun
abbrev IsSoundScript : Option World → Type 0
IsSoundScript None = ⊤
IsSoundScript (Some w) = IsSoundWorld (length w.peers) w

-- a sound world has as many peers as it has
sound_itself : (n : ℕ) (w : World) → IsSoundWorld n w → IsSoundWorld (length w.peers) w
sound_itself n w is = record { count = refl; peers = is.peers; issued = is.issued }

-- no element, so anything holds of each
all_none : (P : ShowLine → Type 0) → All P []
all_none P = λ k d h. absurd (omega (arith, h))

-- the peer of a `show` line is sound
abbrev IsSoundShow : ShowLine → Type 0
IsSoundShow s = IsSound s.peer

module _ (laws : Laws) where
  -- the world that a first line begins
  begins_sound : (line : List ℕ) (t : LineTurn (Option World)) → turn_of_line script_turn None line ≡ Some t → IsSoundScript t.world
  begins_sound line t e = by (nat_le (length line) MAX_LINE) (script_line true 0 line) refl e
    where
      by : (b : Bool) (o : Option Line) → script_line true 0 line ≡ o → (if b then (o >>= opening_turn) else None) ≡ Some t → IsSoundScript t.world
      by false o said h = absurd cc
      by true None said h = absurd cc
      by true (Some (Local i s)) said h = absurd cc
      by true (Some (Give m i)) said h = absurd cc
      by true (Some (Hand i m)) said h = absurd cc
      by true (Some (StateOf i n)) said h = absurd cc
      by true (Some (Peers n)) said h =
          let few : n ≤ MAX_PEERS = leb-true n MAX_PEERS (and_parts (nat_lt 0 n) (nat_le n MAX_PEERS) (laws.opening 0 line (Peers n) said)).1 in
          let is : IsSoundWorld n (fresh_world n) = laws.fresh_world_sound n [] few refl refl in
          let world : Some (fresh_world n) ≡ t.world = cc in
          subst IsSoundScript world (sound_itself n (fresh_world n) is)

  -- the world after a later line
  stays_sound : (w : World) (line : List ℕ) (t : LineTurn (Option World)) → IsSoundScript (Some w) → turn_of_line script_turn (Some w) line ≡ Some t → IsSoundScript t.world
  stays_sound w line t is e = by (nat_le (length line) MAX_LINE) (script_line false (length w.peers) line) refl e
    where
      by : (b : Bool) (o : Option Line) → script_line false (length w.peers) line ≡ o → (if b then option_map (reply_turn w) o else None) ≡ Some t → IsSoundScript t.world
      by false o said h = absurd cc
      by true None said h = absurd cc
      by true (Some l) said h =
          let taken : is_world_line (length w.peers) l ≡ true = laws.taken (length w.peers) line l said in
          let formed : is_formed_line l ≡ true = laws.formed false (length w.peers) line l said in
          let after : IsSoundWorld (length w.peers) (turn_of w l).after = laws.sound_world (length w.peers) w (l ∷ []) (rw taken refl) (rw formed refl) is in
          let world : Some (turn_of w l).after ≡ t.world = cc in
          subst IsSoundScript world (sound_itself (length w.peers) (turn_of w l).after after)

  line_sound : (w : Option World) (line : List ℕ) (t : LineTurn (Option World)) → IsSoundScript w → turn_of_line script_turn w line ≡ Some t → IsSoundScript t.world
  line_sound None line t is e = begins_sound line t e
  line_sound (Some w) line t is e = stays_sound w line t is e

  -- the peer whose text a line asks for
  asked_sound : (w : World) (line : List ℕ) (l : Line) (p : Peer) → IsSoundWorld (length w.peers) w → script_line false (length w.peers) line ≡ Some l → asked_peer w l ≡ Some p → IsSound p
  asked_sound w line (Peers n) p is said h = absurd cc
  asked_sound w line (Give m i) p is said h = absurd cc
  asked_sound w line (Hand i m) p is said h = absurd cc
  asked_sound w line (StateOf i n) p is said h = absurd cc
  asked_sound w line (Local i step) p is said h =
      let taken : (nat_lt i (length w.peers) && not (is_receive step)) ≡ true = laws.taken (length w.peers) line (Local i step) said in
      let within : i < length w.peers = ltb-true i (length w.peers) (and_parts (nat_lt i (length w.peers)) (not (is_receive step)) taken).0 in
      let same : peer_of w i ≡ p = (when-Some (is_show step) (peer_of w i) p h).1 in
      subst IsSound same (is.peers.sound i (fresh_peer i) within)

  shown_sound : (w : Option World) (line : List ℕ) (p : Peer) → IsSoundScript w → shown_peer w line ≡ Some p → IsSound p
  shown_sound None line p is h = absurd cc
  shown_sound (Some w) line p is h = by (script_line false (length w.peers) line) refl h
    where
      by : (o : Option Line) → script_line false (length w.peers) line ≡ o → (o >>= asked_peer w) ≡ Some p → IsSound p
      by None said h = absurd cc
      by (Some l) said h = asked_sound w line l p is said h

  own_sound : (o : Option Peer) → ((p : Peer) → o ≡ Some p → IsSound p) → All IsSoundShow (map first_show (option_to_list o))
  own_sound None h = all_none IsSoundShow
  own_sound (Some p) h = All-cons IsSoundShow (first_show p) [] (h p refl) (all_none IsSoundShow)

  -- the peers of all `show` lines are sound
  pub shows_sound : (w : Option World) (lines : List (List ℕ)) → IsSoundScript w → All IsSoundShow (show_lines w lines)
  shows_sound w [] is = all_none IsSoundShow
  shows_sound w (line ∷ lines) is = by (turn_of_line script_turn w line) refl (λ (v : Option World) sound. shows_sound v lines sound)
    where
      by : (o : Option (LineTurn (Option World))) → turn_of_line script_turn w line ≡ o → ((v : Option World) → IsSoundScript v → All IsSoundShow (show_lines v lines))
          → All IsSoundShow (option_map_or (λ t. map first_show (option_to_list (shown_peer w line)) ++ map (behind t.reply) (show_lines t.world lines)) o [])
      by None e rest = all_none IsSoundShow
      by (Some t) e rest =
          All-append IsSoundShow (map first_show (option_to_list (shown_peer w line))) (map (behind t.reply) (show_lines t.world lines))
          (own_sound (shown_peer w line) (λ (p : Peer) h. shown_sound w line p is h))
          (All-map IsSoundShow (behind t.reply) (show_lines t.world lines) (rest t.world (line_sound w line t is e)))

  -- sound peers that have the same write the same
  same_lines : (p q : Peer) → IsSound p → IsSound q → HaveSame p q → shown_line p ≡ shown_line q
  same_lines p q first second have =
      let alike = laws.set p.journal q.journal (record { first = first.journal; second = second.journal; forth = have.forth; back = have.back; logs = have.logs }) in
      ap (λ (pieces : List (List ℕ)). answer_line None (Shown pieces)) alike.texts

  pub equal_of : (input : List ℕ) → All (λ (s : ShowLine). All (λ (t : ShowLine). HaveSame s.peer t.peer → shown_line s.peer ≡ shown_line t.peer) (shows_of input)) (shows_of input)
  equal_of input =
      let sound : All IsSoundShow (shows_of input) = shows_sound None (lines_of (is_cut input) (counted_bytes input)) tt in
      All-weaker IsSoundShow (λ (s : ShowLine). All (λ (t : ShowLine). HaveSame s.peer t.peer → shown_line s.peer ≡ shown_line t.peer) (shows_of input))
      (λ (s : ShowLine) p. All-weaker IsSoundShow (λ (t : ShowLine). HaveSame s.peer t.peer → shown_line s.peer ≡ shown_line t.peer) (λ (t : ShowLine) q. same_lines s.peer t.peer p q) (shows_of input) sound)
      (shows_of input) sound
