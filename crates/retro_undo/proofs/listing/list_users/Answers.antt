use Rattle.std.proofs.Common.{◌≡◌, ℕ, ◌+◌, ◌<◌, List, [], ◌∷◌, ◌++◌, length, take, ap, sym, ◌∙◌, arith}
use Rattle.std.proofs.Math.Seq.{take-length}
use Rattle.std.proofs.lemmas.List.{append-nil, take_more, flat_map_more}
use Rattle.std.proofs.lemmas.Option.{slice_get-get_or, slice_get_within, get_or_from_slice_get}
use Rattle.element_name.specs.Name.{Name, start}
use Rattle.retro_undo.specs.declared.walk.Whose.TheVariants.{One}
use Rattle.retro_undo.specs.Listed.{taken_of, taken_above, taken_of_users}
use Rattle.retro_undo.proofs.listing.list_users.Goals as goal
use Rattle.retro_undo.proofs.listing.list_users.Goals.{in-Some+in_ok-list_line, in_default}

pub loop-i-init : goal.loop-i-init
loop-i-init c = sym (append-nil c.args.list.now.items)

pub loop-i-preserved : goal.loop-i-preserved
loop-i-preserved c =
    elim c.match-at.branch [
      | in-Some+in_ok-list_line w ↦
          let u : ℕ = w.in-Some.user in
          let users : List ℕ = c.args.users.now in
          let there = sym c.at.ensures ∙ w.in-Some.is in
          let more : take (c.loop-i.i + 1) users ≡ take c.loop-i.i users ++ u ∷ [] =
          take_more users c.loop-i.i u (slice_get_within users c.loop-i.i u there) ∙ ap (λ (d : ℕ). take c.loop-i.i users ++ d ∷ []) (get_or_from_slice_get users c.loop-i.i u u there) in
          let of = λ (v : ℕ). taken_above (taken_of c.args.taken) (One v) start c.args.states.now in
          rw (w.list-is)
          (w.in_ok-list_line.ensures
          ∙ ap (λ (names : List Name). names ++ of u) c.loop-i.invariant
          ∙ flat_map_more of c.args.list.now.items (take c.loop-i.i users) u
          ∙ ap (λ (us : List ℕ). c.args.list.now.items ++ taken_of_users (taken_of c.args.taken) us c.args.states.now) (sym more))
      | in_default w ↦
          let lt : c.loop-i.i < length c.args.users.now = omega (arith, c.len-i-end.ensures, c.loop-i-test.true) in
          let some = slice_get-get_or c.args.users.now c.loop-i.i 0 lt in
          absurd (cc (some, c.at.ensures, w.in_default.is))
    ]

pub returns : goal.returns
returns c =
    let end : c.loop-i.i ≡ length c.args.users.now = omega (arith, c.len-i-end.ensures, c.loop-i-test.false) in
    c.loop-i.invariant
    ∙ ap (λ (i : ℕ). c.args.list.now.items ++ taken_of_users (taken_of c.args.taken) (take i c.args.users.now) c.args.states.now) end
    ∙ ap (λ (us : List ℕ). c.args.list.now.items ++ taken_of_users (taken_of c.args.taken) us c.args.states.now) (take-length c.args.users.now)
