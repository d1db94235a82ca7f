use Rattle.std.proofs.Common.{◌≡◌, List, ℕ, ◌++◌, length, take, drop, ◌∙◌, ap, arith}
use Rattle.std.proofs.lemmas.List.{take_at}
use Rattle.form_keep.specs.Reader.{unread}
use Rattle.form_keep.proofs.Reading.{read_more}
use Rattle.form_keep.proofs.reader.StepReader.refill.Goals as goal

pub returns-clause-read : goal.returns-clause-read
returns-clause-read g c left steps so_far =
    let buf = c.fetch.new.buf in
    let n = c.in-Ok.n in
    let size : length buf ≡ c.args.self.now.buf.len = omega arith in
    let held = c.in_ok-hold.ensures.ok ∙ ap (λ (l : List ℕ). unread c.args.self.now ++ take n l) (take_at buf (drop (length buf) c.args.self.now.buf.items) c.args.self.now.buf.len size) in
    read_more left (g.S.Source.left c.args.source.now) c.args.self.now steps so_far (g.S.Source.left c.fetch.new.source) c.hold.new.self
    (take n buf) n c.in-Ok.ensures.bytes c.in-Ok.ensures.given c.requires held c.in_ok-hold.ensures.number c.in_ok-hold.ensures.count c.in_ok-hold.ensures.ended
