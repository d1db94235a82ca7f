-- What a crash leaves over a write and its sync, and over the two of a put.
use Rattle.std.proofs.Common.{◌≡◌, inl, ℕ, ◌+◌, List, [], ◌∷◌, ◌++◌, length, subst, Option, Some, IfSome, option_map}
use Rattle.peer_disk.specs.Disk.{overwritten, Torn, Only, LeavesAfter, Elapses, LeavesOnly}
use Rattle.peer_disk.proofs.Moments.{started, goes_on, weakened, chained}
use Rattle.peer_disk.proofs.Tearing.{torn_same}
use Rattle.peer_disk.specs.declared.layout.TheConstants.{OPEN}
use Rattle.peer_disk.specs.Records.{AreBehindGate, Keeps, IsBeforeOrAll, TornSince}
use Rattle.peer_disk.proofs.Bodies.{before_gate, tail, first_leaves, second_leaves, staged, opened, keeps_more}

module _ {D : Type 0} (moment : D → ℕ) (left_since : D → ℕ → List ℕ → Type 0) (may_leave : D → List ℕ → Type 0) where
  -- one call of a disk, after which it has `may`
  abbrev Passes : D → D → (List ℕ → Type 0) → Type 0
  Passes before now may = Elapses (moment before) (moment now) (left_since before) (left_since now) may

  module _ (old wrote : D) (from n : ℕ) (only_now : (left : List ℕ) → left_since old (moment old) left → may_leave old left) (time : Passes old wrote (may_leave wrote))
      (torn : LeavesAfter (Torn from n) (may_leave old) (may_leave wrote)) where
    -- a crash during a write leaves it cut short
    pub while_written : LeavesOnly moment left_since old wrote (TornSince (may_leave old) from n)
    while_written =
        goes_on moment left_since old old wrote (TornSince (may_leave old) from n) (may_leave wrote)
        (started moment left_since old (TornSince (may_leave old) from n) (λ left since. (left, only_now left since, torn_same from n left))) time torn

    -- and during the sync behind it no more
    pub while_synced : (synced : D) → Passes wrote synced (may_leave synced) → ((left : List ℕ) → may_leave synced left → may_leave wrote left) → LeavesOnly moment left_since old synced (TornSince (may_leave old) from n)
    while_synced synced then fewer =
        goes_on moment left_since old wrote synced (TornSince (may_leave old) from n) (may_leave synced) while_written then (λ left now. torn left (fewer left now))

  -- ---- the two writes of a put

  module _ (seen : D → Option (List ℕ)) (site : ℕ) (bodies : List (List ℕ)) (place : ℕ) (old middle : D) (kept : Keeps site bodies place (seen old) (may_leave old)) (more : List (List ℕ)) where
    -- a crash during the first leaves the bodies
    pub during_first : (n : ℕ) → LeavesOnly moment left_since old middle (TornSince (may_leave old) (place + 1) n) → LeavesOnly moment left_since old middle (IsBeforeOrAll site bodies more)
    during_first n leaves =
        weakened moment left_since old middle (TornSince (may_leave old) (place + 1) n) (IsBeforeOrAll site bodies more) leaves
        (λ left since. inl (first_leaves site bodies place (seen old) (may_leave old) kept n left since))

    module _ (behind : List ℕ) (are : AreBehindGate more behind) (written : seen middle ≡ option_map (λ file. overwritten file (place + 1) behind) (seen old))
        (durable : IfSome (seen middle) (λ file. Only file (may_leave middle))) where
      -- the file after the first
      abbrev file : List ℕ
      file = before_gate site bodies ++ kept.has.gate ∷ (behind ++ tail site bodies place (seen old) (may_leave old) kept behind)

      told : seen middle ≡ Some file
      told = staged site bodies place (seen old) (may_leave old) kept behind (seen middle) written

      only : Only file (may_leave middle)
      only = subst (λ (s : Option (List ℕ)). IfSome s (λ f. Only f (may_leave middle))) told durable

      -- a crash during both leaves the bodies, with all new ones or without
      pub during_both : (n : ℕ) (new : D) → LeavesOnly moment left_since old middle (TornSince (may_leave old) (place + 1) n) → LeavesOnly moment left_since middle new (TornSince (may_leave middle) place 1)
          → LeavesOnly moment left_since old new (IsBeforeOrAll site bodies more)
      during_both n new first second =
          chained moment left_since old middle new (IsBeforeOrAll site bodies more) (during_first n first)
          (weakened moment left_since middle new (TornSince (may_leave middle) place 1) (IsBeforeOrAll site bodies more) second
          (λ left since. second_leaves site bodies place (seen old) (may_leave old) kept more behind are (may_leave middle) left only since))

      -- and after both the disk keeps them all
      pub both_keep : (new : D) → seen new ≡ option_map (λ f. overwritten f place (OPEN ∷ [])) (seen middle) → IfSome (seen new) (λ f. Only f (may_leave new))
          → Keeps site (bodies ++ more) (place + length behind) (seen new) (may_leave new)
      both_keep new is stays =
          let told_then = opened site bodies place (seen old) (may_leave old) kept more behind are (seen middle) (seen new) told is in
          keeps_more site bodies place (seen old) (may_leave old) kept more behind are (seen new) (may_leave new) told_then
          (subst (λ (s : Option (List ℕ)). IfSome s (λ f. Only f (may_leave new))) told_then stays)
