use Rattle.std.proofs.Common.{◌≡◌, List, ℕ, [], ◌∷◌, ◌++◌, sym, ap, ◌∙◌, subst, append_assoc, All, rules}
use Rattle.std.proofs.lemmas.List.Elements.{All-push}
use Rattle.peer_disk.specs.Records.{record_of, records, FitsRecord, bytes_of_each}
use Rattle.peer_disk.proofs.Appending.{records-push, each-append}
use Rattle.peer_disk.proofs.walk.parse.Goals as goal

pub loop-body-preserved : goal.loop-body-preserved
loop-body-preserved c =
    let bodies = bytes_of_each c.loop-body.bodies.items in
    let body = c.in-Some.body.now in
    let after = c.in-Some.after.now in
    let some = c.in-Some.ensures.some in
    let copied : c.in_ok-to_vec.field-0.items ≡ body = search rules in
    let now_is : bytes_of_each c.push.new.self.items ≡ bodies ++ body ∷ []
    = ap bytes_of_each c.in_ok-push.ensures.items ∙ each-append c.loop-body.bodies.items (c.in_ok-to_vec.field-0 ∷ []) ∙ ap (λ (b : List ℕ). bodies ++ b ∷ []) copied in
    let read : c.args.bytes.now ≡ records (bodies ++ body ∷ []) ++ after
    = c.loop-body.invariant.read ∙ ap (λ (l : List ℕ). records bodies ++ l) some.0 ∙ sym (append_assoc (records bodies) (record_of body) after) ∙ ap (λ (l : List ℕ). l ++ after) (sym (records-push bodies body)) in
    record {
      read = read ∙ ap (λ (l : List (List ℕ)). records l ++ after) (sym now_is);
      short = subst (All FitsRecord) (sym now_is) (All-push FitsRecord bodies body c.loop-body.invariant.short some.1);
    }
