use Rattle.std.proofs.Common.{◌≡◌, false, List, sym, ap, ◌∙◌}
use Rattle.std.specs.Option.{option_copied, option_map_or}
use Rattle.element_name.specs.Name.{Name}
use Rattle.auth_match.specs.Coverage.{covers, names_with, judged_name}
use Rattle.auth_match.specs.Verdict.{object_covers}
use Rattle.auth_match.proofs.matching.object_covers.Goals as goal

pub returns-in-Some-clause-covers : goal.returns-in-Some-clause-covers
returns-in-Some-clause-covers g c =
    let names : List Name = names_with (g.P.Places.names c.args.places.now) c.args.judged.now in
    let e : Name = judged_name c.args.judged.now in
    sym (c.noted.ensures (object_covers names c.args.policy.now e) c.requires.right c.in-Some.covers c.in-Some.is)

pub returns-in-Some-extent-clause-right : goal.returns-in-Some-extent-clause-right
returns-in-Some-extent-clause-right g c =
    let names : List Name = names_with (g.P.Places.names c.args.places.now) c.args.judged.now in
    let e : Name = judged_name c.args.judged.now in
    let answer : object_covers names c.args.policy.now e c.args.object ≡ c.covers_judged-covers.result =
    ap (λ o. option_map_or (λ extent. covers names extent e) o false) (sym c.extent.ensures ∙ ap option_copied c.in-Some-extent.is)
    ∙ sym c.covers_judged-covers.ensures in
    c.note.ensures (object_covers names c.args.policy.now e) c.requires.right answer
