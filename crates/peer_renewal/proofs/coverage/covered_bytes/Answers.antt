use Rattle.std.proofs.Common.{◌≡◌, ◌+◌, ◌++◌, ℕ, Bool, List, map, length, drop, replicate, slice_get, option_map, sym, ap, ◌∙◌, arith}
use Rattle.element_name.specs.Name.{Name}
use Rattle.coop_request.specs.History.{text_order}
use Rattle.auth_match.specs.Coverage.{covers}
use Rattle.peer_tables.specs.Derived.{counted_in}
use Rattle.peer_core.specs.Peer.{Peer, history, log, text, shown_elements}
use Rattle.peer_core.proofs.AnswerLemmas.Edits.{as_many_shown}
use Rattle.peer_core.proofs.CaretLemmas.{shown_has}
use Rattle.peer_renewal.specs.Coverage.{each_byte, covered_bytes}
use Rattle.peer_renewal.proofs.CoverageLemmas.{noted_more, noted_all, get_there, size_there}
use Rattle.peer_renewal.proofs.coverage.covered_bytes.Goals as goal

-- as many elements show as pieces
as_many : (p : Peer) → length (shown_elements p) ≡ length (text p)
as_many p = as_many_shown (history p) (counted_in (history p) (log p)) (text_order (history p))

pub unreachable-requires : goal.unreachable-requires
unreachable-requires c =
    let p : Peer = c.args.peer.now in
    let same = as_many p in
    get_there (shown_elements p) c.loop-at.at (omega (arith, same, c.shown_len-at-end.ensures)) (sym c.in_default.ensures)

pub unreachable-requires-in_default-size : goal.unreachable-requires-in_default-size
unreachable-requires-in_default-size c =
    let p : Peer = c.args.peer.now in
    size_there (text p) c.loop-at.at (omega (arith, c.shown_len-at-end.ensures))
    (sym (c.in_default-size.ensures ∙ ap (λ (t : List (List ℕ)). option_map (λ (x : List ℕ). length x) (slice_get t c.loop-at.at)) c.in_ok-shown.ensures))

pub covers-requires : goal.covers-requires
covers-requires c =
    let p : Peer = c.args.peer.now in
    shown_has (history p) (log p) c.loop-at.at c.in-Some.element (sym c.in-Some.ensures)

pub loop-at-preserved : goal.loop-at-preserved
loop-at-preserved c =
    let p : Peer = c.args.peer.now in
    let test : Name → Bool = covers (text_order (history p)) c.args.extent.now in
    let left : List Bool = map test (each_byte (drop (c.loop-at.at + 1) (shown_elements p)) (drop (c.loop-at.at + 1) (text p))) in
    ap (λ (l : List Bool). l ++ left) (c.in_ok-put_times.ensures ∙ ap (λ (b : Bool). c.loop-at.bits.items ++ replicate c.in-Some-size.size b) c.covers.ensures)
    ∙ noted_more test (shown_elements p) (text p) c.loop-at.at c.in-Some.element c.in-Some-size.size c.loop-at.bits.items (covered_bytes p c.args.extent.now)
    c.in-Some.ensures
    (c.in-Some-size.ensures ∙ ap (λ (t : List (List ℕ)). option_map (λ (x : List ℕ). length x) (slice_get t c.loop-at.at)) c.in_ok-shown.ensures)
    c.loop-at.invariant

pub returns : goal.returns
returns c =
    let p : Peer = c.args.peer.now in
    let test : Name → Bool = covers (text_order (history p)) c.args.extent.now in
    let same = as_many p in
    noted_all test (shown_elements p) (text p) c.loop-at.at c.loop-at.bits.items (covered_bytes p c.args.extent.now) (omega (arith, same, c.shown_len-at-end.ensures)) c.loop-at.invariant
