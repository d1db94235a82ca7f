use Rattle.std.proofs.Common.{◌≡◌, ℕ, ◌≤◌, List, Some, sym, ap, ◌∙◌, arith, length}
use Rattle.std.specs.Prelude.{max}
use Rattle.std.specs.Option.{option_map_or}
use Rattle.coop_request.specs.Request.{Request}
use Rattle.policy_book.specs.Entry.{Entry}
use Rattle.admin_log.specs.Log.{IsLog, validated_at}
use Rattle.check_remote.proofs.States.{up_to_front}
use Rattle.audit_cert.proofs.grant.until.Goals as goal

-- a validated request is judged up to a version of its log
judged_within : (log : List Entry) (q : Request) (version : ℕ) → IsLog log → q.version ≤ length log → validated_at log q.id ≡ Some version → max q.version version ≤ length log
judged_within log q version is_log carried at =
    let upto = up_to_front log q is_log carried in
    let is = ap (λ o. option_map_or (λ v. max q.version v) o (length log)) at in
    omega (arith, upto, is)

pub returns-in-Some-clause-within : goal.returns-in-Some-clause-within
returns-in-Some-clause-within c =
    let within = judged_within c.args.log.now c.args.request c.in-Some.version c.len-front.ensures.log c.requires (sym (c.validated.ensures ∙ ap (validated_at c.args.log.now) c.id.ensures.value) ∙ c.in-Some.is) in
    grind (arith, within)

pub returns-in-Some-clause-few : goal.returns-in-Some-clause-few
returns-in-Some-clause-few c =
    let within = judged_within c.args.log.now c.args.request c.in-Some.version c.len-front.ensures.log c.requires (sym (c.validated.ensures ∙ ap (validated_at c.args.log.now) c.id.ensures.value) ∙ c.in-Some.is) in
    grind (arith, within, c.len-front.ensures.count, c.len-front.ensures.few)
