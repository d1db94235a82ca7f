-- Runs of versions with one granting authorization.
use Rattle.std.proofs.Common.{◌≡◌, ℕ, zero, suc, ◌+◌, ◌-◌, ◌<◌, ◌≤◌, Bool, true, false, List, [], ◌∷◌, None, Some, refl, sym, ap, ◌∙◌, arith, eqb, eq-eqb}
use Rattle.std.specs.Prelude.{if◌then◌else◌, length, max}
use Rattle.std.specs.declared.option.Option.{Option}
use Rattle.std.specs.Option.{option_map_or}
use Rattle.std.specs.List.{range_with_len}
use Rattle.element_name.specs.Name.{Name}
use Rattle.coop_request.specs.Request.{Request, user_of}
use Rattle.policy_book.specs.Entry.{Entry}
use Rattle.admin_log.specs.Log.{validated_at}
use Rattle.check_remote.specs.State.{until, judged_versions}
use Rattle.check_remote.proofs.Walks.{range_first, range_none}
use Rattle.audit_cert.specs.declared.grant.Grant.{Grant}
use Rattle.audit_cert.specs.Grants.{granting_at, one_version, put_in_front, grants_over, grants_of}

abbrev pub grant : ℕ → ℕ → ℕ → Grant
grant from to by = record { from = from; to = to; by = by }

-- a grant in front of another by the same authorization is one with it
join_one : (a b c d n : ℕ) (later : List Grant) → put_in_front (grant a b n) (put_in_front (grant c d n) later) ≡ put_in_front (grant a d n) later
join_one a b c d n [] = rw (eq-eqb n n refl) refl
join_one a b c d n (k ∷ later) = by (eqb n k.by)
  where
    by : (x : Bool) → put_in_front (grant a b n) (if x then grant c k.to n ∷ later else grant c d n ∷ k ∷ later)
        ≡ (if x then grant a k.to n ∷ later else grant a d n ∷ k ∷ later)
    by true = rw (eq-eqb n n refl) refl
    by false = rw (eq-eqb n n refl) refl

module _ (f : ℕ → Option ℕ) where
  -- the grants from a version on that is granted
  over_granted : (a end n : ℕ) → a < end → f a ≡ Some n
      → grants_over f (range_with_len a (end - a)) ≡ put_in_front (one_version a n) (grants_over f (range_with_len (a + 1) (end - (a + 1))))
  over_granted a end n lt is =
      ap (grants_over f) (range_first a end lt)
      ∙ ap (λ o. option_map_or (λ by. put_in_front (one_version a by) (grants_over f (range_with_len (a + 1) (end - (a + 1))))) o []) is

  -- from one on that isn't
  pub over_denied : (a end : ℕ) → a < end → f a ≡ None → grants_over f (range_with_len a (end - a)) ≡ []
  over_denied a end lt is =
      ap (grants_over f) (range_first a end lt)
      ∙ ap (λ o. option_map_or (λ by. put_in_front (one_version a by) (grants_over f (range_with_len (a + 1) (end - (a + 1))))) o []) is

  -- behind the last
  pub over_none : (a end : ℕ) → end ≤ a → grants_over f (range_with_len a (end - a)) ≡ []
  over_none a end le = ap (grants_over f) (range_none a end le)

  run : (n a next end k : ℕ) → next ≡ a + n + 1 → next ≤ end → ((v : ℕ) → a ≤ v → v < next → f v ≡ Some k)
      → put_in_front (grant a (next - 1) k) (grants_over f (range_with_len next (end - next))) ≡ grants_over f (range_with_len a (end - a))
  run zero a next end k is le granted =
      let one : next ≡ a + 1 = omega (arith, is) in
      let to : next - 1 ≡ a = omega (arith, is) in
      ap (λ t. put_in_front (grant a t k) (grants_over f (range_with_len next (end - next)))) to
      ∙ ap (λ m. put_in_front (one_version a k) (grants_over f (range_with_len m (end - m)))) one
      ∙ sym (over_granted a end k (omega (arith, is, le)) (granted a (omega arith) (omega (arith, is))))
  run (suc n) a next end k is le granted =
      let more : next ≡ a + 1 + n + 1 = omega (arith, is) in
      sym (join_one a a (a + 1) (next - 1) k (grants_over f (range_with_len next (end - next))))
      ∙ ap (put_in_front (one_version a k)) (run n (a + 1) next end k more le (λ v low high. granted v (omega (arith, low)) high))
      ∙ sym (over_granted a end k (omega (arith, is, le)) (granted a (omega arith) (omega (arith, is))))

  -- from one on that is granted, as all up to another are by the same authorization
  pub over_run : (a next end k : ℕ) → a < next → next ≤ end → ((v : ℕ) → a ≤ v → v < next → f v ≡ Some k)
      → put_in_front (grant a (next - 1) k) (grants_over f (range_with_len next (end - next))) ≡ grants_over f (range_with_len a (end - a))
  over_run a next end k lt le granted = run (next - (a + 1)) a next end k (omega (arith, lt)) le granted

-- a request that carries a version of the log is judged at that one at least
pub until_from : (log : List Entry) (q : Request) → q.version ≤ length log → q.version ≤ until log q
until_from log q carried = by (validated_at log q.id)
  where
    by : (x : Option ℕ) → q.version ≤ option_map_or (λ v. max q.version v) x (length log)
    by None = carried
    by (Some v) = omega arith

-- one that isn't granted at that version has no grants
pub none_granted : (names : List Name) (log : List Entry) (q : Request) → q.version ≤ length log → eqb (user_of q) 0 ≡ false
    → granting_at names log q q.version ≡ None → grants_of names log q ≡ []
none_granted names log q carried other none =
    ap (λ b. if b then [] else grants_over (granting_at names log q) (judged_versions log q)) other
    ∙ over_denied (granting_at names log q) q.version (until log q + 1) (let le = until_from log q carried in omega (arith, le)) none
