use Rattle.std.proofs.Common.{◌∙◌, ap}
use Rattle.hold_back.specs.Index.{awaited_rank, key_ranks}
use Rattle.hold_back.proofs.Indexes.{key_found, key_missing}
use Rattle.hold_back.proofs.hold.HoldBack.find.Goals as goal

pub returns-in-Some : goal.returns-in-Some
returns-in-Some c =
    let held = c.self.inside.held.items in
    let is = c.self.invariant in
    let known = c.of_key.ensures in
    c.message_at.ensures
    ∙ key_found c.args.key held _ c.args.self.now (awaited_rank c.of_key.result) c.in-Some.place c.place.result is.fit known.fits (ap awaited_rank known.value) c.deref.ensures.value c.self.view_is
    (c.place.ensures (key_ranks held) is.rows.keyed) c.in-Some.is

pub returns-in-None : goal.returns-in-None
returns-in-None c =
    let held = c.self.inside.held.items in
    let is = c.self.invariant in
    let known = c.of_key.ensures in
    key_missing c.args.key held c.args.self.now (awaited_rank c.of_key.result) c.place.result is.fit known.fits (ap awaited_rank known.value) c.self.view_is
    (c.place.ensures (key_ranks held) is.rows.keyed) c.in-None.is
