-- The table of versions: what is found in it, and what is put into it.
use Rattle.std.proofs.Common.{◌≡◌, ℕ, ◌≤◌, ◌<◌, Bool, true, false, cond, List, [], ◌∷◌, ◌++◌, refl, sym, subst, ap, ◌∙◌, arith, eqb}
use Rattle.std.specs.Prelude.{◌&&◌, ◌||◌}
use Rattle.std.specs.declared.ops.Bound.{Bound}
use Rattle.std.specs.declared.cmp.Ordering.TheVariants.{Less}
use Rattle.std.specs.Ordering.{nat_cmp, is_gt}
use Rattle.std.specs.BTreeMap.{is_at}
use Rattle.std.specs.BTreeSet.{BTreeSet, contains, IsKeyRangeOf}
use Rattle.std.proofs.Math.Bool.{or-true, or-false}
use Rattle.std.proofs.lemmas.Bool.{false_from_ne_true}
use Rattle.std.proofs.lemmas.Bool.Decides.{nat_tests}
use Rattle.policy_book.specs.Lists.{has_number}
use Rattle.admin_log.specs.declared.version_table.UserVersion.{UserVersion}
use Rattle.admin_log.specs.declared.version_table.VersionTable.{VersionTable}
use Rattle.admin_log.specs.VersionTable.{user_version_cmp, is_noted, NotesMore, KeepsNotes}

-- ---- the first of a range

nat_within : (a b v : ℕ) → a ≤ v → v < b → (is_gt (nat_cmp a v) ≡ false) × (nat_cmp v b ≡ Less)
nat_within a b v low high = (grind (arith, nat_tests), grind (arith, nat_tests))

nat_bounds : (a b k : ℕ) → is_gt (nat_cmp a k) ≡ false → nat_cmp k b ≡ Less → (a ≤ k) × (k < b)
nat_bounds a b k low high = (grind (arith, nat_tests), grind (arith, nat_tests))

-- of these versions none is before the first from `from` on
module _ (s : BTreeSet ℕ) (from end : ℕ) (found : List ℕ) (range : IsKeyRangeOf nat_cmp (Bound.Included from) (Bound.Excluded end) s found) where
  pub none_of_all : found ≡ [] → (v : ℕ) → from ≤ v → v < end → contains nat_cmp s v ≡ false
  none_of_all none v low high = range.5 none v (nat_within from end v low high)

  module _ (k : ℕ) (rest : List ℕ) (is : found ≡ k ∷ rest) where
    abbrev here : IsKeyRangeOf nat_cmp (Bound.Included from) (Bound.Excluded end) s (k ∷ rest)
    here = subst (λ (keys : List ℕ). IsKeyRangeOf nat_cmp (Bound.Included from) (Bound.Excluded end) s keys) is range

    pub first_within : (from ≤ k) × (k < end)
    first_within = nat_bounds from end k here.1.0.0 here.1.0.1

    pub none_before_first : (v : ℕ) → from ≤ v → v < k → contains nat_cmp s v ≡ false
    none_before_first v low high =
        false_from_ne_true (contains nat_cmp s v) (λ there.
        let least = here.2 v (nat_within from end v low (let b = first_within.1 in omega (arith, b, high))) there in
        absurd (grind (arith, nat_tests, least, high)))

abbrev pair : ℕ → ℕ → UserVersion
pair user version = record { user = user; version = version }

pair_within : (u a b v : ℕ) → a ≤ v → v < b → (is_gt (user_version_cmp (pair u a) (pair u v)) ≡ false) × (user_version_cmp (pair u v) (pair u b) ≡ Less)
pair_within u a b v low high = (grind (arith, nat_tests), grind (arith, nat_tests))

pair_bounds : (u a b : ℕ) (k : UserVersion) → is_gt (user_version_cmp (pair u a) k) ≡ false → user_version_cmp k (pair u b) ≡ Less → (a ≤ k.version) × (k.version < b)
pair_bounds u a b k low high = (grind (arith, nat_tests), grind (arith, nat_tests))

pair_user : (u a b : ℕ) (k : UserVersion) → is_gt (user_version_cmp (pair u a) k) ≡ false → user_version_cmp k (pair u b) ≡ Less → k.user ≡ u
pair_user u a b k low high = grind (arith, nat_tests)

pair_least : (u v : ℕ) (k : UserVersion) → k.user ≡ u → v < k.version → is_gt (user_version_cmp k (pair u v)) ≡ false → ⊥
pair_least u v k same high least = grind (arith, nat_tests)

-- nor of a user's
module _ (s : BTreeSet UserVersion) (u from end : ℕ) (found : List UserVersion) (range : IsKeyRangeOf user_version_cmp (Bound.Included (pair u from)) (Bound.Excluded (pair u end)) s found) where
  pub none_of_user : found ≡ [] → (v : ℕ) → from ≤ v → v < end → contains user_version_cmp s (pair u v) ≡ false
  none_of_user none v low high = range.5 none (pair u v) (pair_within u from end v low high)

  module _ (k : UserVersion) (rest : List UserVersion) (is : found ≡ k ∷ rest) where
    abbrev here_too : IsKeyRangeOf user_version_cmp (Bound.Included (pair u from)) (Bound.Excluded (pair u end)) s (k ∷ rest)
    here_too = subst (λ (keys : List UserVersion). IsKeyRangeOf user_version_cmp (Bound.Included (pair u from)) (Bound.Excluded (pair u end)) s keys) is range

    pub pair_first_within : (from ≤ k.version) × (k.version < end)
    pair_first_within = pair_bounds u from end k here_too.1.0.0 here_too.1.0.1

    pub none_before_pair : (v : ℕ) → from ≤ v → v < k.version → contains user_version_cmp s (pair u v) ≡ false
    none_before_pair v low high =
        false_from_ne_true (contains user_version_cmp s (pair u v)) (λ there.
        pair_least u v k (pair_user u from end k here_too.1.0.0 here_too.1.0.1) high
        (here_too.2 (pair u v) (pair_within u from end v low (let b = pair_first_within.1 in omega (arith, b, high))) there))

-- ---- one more

at_version : (a v : ℕ) → is_at (nat_cmp a) v ≡ eqb v a
at_version a v = grind (arith, nat_tests)

at_pair : (u a w v : ℕ) → is_at (user_version_cmp (pair u a)) (pair w v) ≡ (eqb v a && eqb u w)
at_pair u a w v = grind (arith, nat_tests)

pub one_of_all : (old new : VersionTable) (a : ℕ) → ((q : ℕ) → contains nat_cmp new.all q ≡ cond (is_at (nat_cmp a) q) true (contains nat_cmp old.all q))
    → new.single ≡ old.single → NotesMore old new a (λ u. true)
one_of_all old new a put same v u =
    ap (λ b. b || contains user_version_cmp new.single (pair u v)) (put v)
    ∙ ap (λ (s : BTreeSet UserVersion). cond (is_at (nat_cmp a) v) true (contains nat_cmp old.all v) || contains user_version_cmp s (pair u v)) same
    ∙ ap (λ e. cond e true (contains nat_cmp old.all v) || contains user_version_cmp old.single (pair u v)) (at_version a v)
    ∙ by (eqb v a) (contains nat_cmp old.all v) (contains user_version_cmp old.single (pair u v))
  where
    by : (e x y : Bool) → (cond e true x || y) ≡ ((x || y) || (e && true))
    by true x y = sym (or-true (x || y))
    by false x y = sym (or-false (x || y))

pub one_of_user : (old new : VersionTable) (a u : ℕ) → ((q : UserVersion) → contains user_version_cmp new.single q ≡ cond (is_at (user_version_cmp (pair u a)) q) true (contains user_version_cmp old.single q))
    → new.all ≡ old.all → NotesMore old new a (λ w. eqb u w)
one_of_user old new a u put same v w =
    ap (λ b. contains nat_cmp new.all v || b) (put (pair w v))
    ∙ ap (λ (s : BTreeSet ℕ). contains nat_cmp s v || cond (is_at (user_version_cmp (pair u a)) (pair w v)) true (contains user_version_cmp old.single (pair w v))) same
    ∙ ap (λ e. contains nat_cmp old.all v || cond e true (contains user_version_cmp old.single (pair w v))) (at_pair u a w v)
    ∙ by (eqb v a && eqb u w) (contains nat_cmp old.all v) (contains user_version_cmp old.single (pair w v))
  where
    by : (e x y : Bool) → (x || cond e true y) ≡ ((x || y) || e)
    by true x y = or-true x ∙ sym (or-true (x || y))
    by false x y = sym (or-false (x || y))

-- a table with more has what it had
pub more_keeps : (old new : VersionTable) (version : ℕ) (users : ℕ → Bool) → NotesMore old new version users → KeepsNotes old new
more_keeps old new version users more v u had = more v u ∙ ap (λ b. b || (eqb v version && users u)) had

-- notes for some users, and then for one more
pub notes_then_one : (old mid new : VersionTable) (version user : ℕ) (first : List ℕ) → NotesMore old mid version (has_number first) → NotesMore mid new version (λ u. eqb user u)
    → NotesMore old new version (has_number (first ++ user ∷ []))
notes_then_one old mid new version user first some one v u =
    one v u ∙ ap (λ b. b || (eqb v version && eqb user u)) (some v u)
    ∙ by (is_noted old v u) (eqb v version) (has_number first u) (eqb user u)
    ∙ ap (λ b. is_noted old v u || (eqb v version && b)) (sym (has_more first))
  where
    by : (a b c d : Bool) → ((a || (b && c)) || (b && d)) ≡ (a || (b && (c || d)))
    by true b c d = refl
    by false true c d = refl
    by false false c d = refl

    has_more : (numbers : List ℕ) → has_number (numbers ++ user ∷ []) u ≡ (has_number numbers u || eqb user u)
    has_more [] = or-false (eqb user u)
    has_more (n ∷ numbers) = ap (λ b. eqb n u || b) (has_more numbers) ∙ sym (or_assoc (eqb n u) (has_number numbers u) (eqb user u))
      where
        or_assoc : (a b c : Bool) → ((a || b) || c) ≡ (a || (b || c))
        or_assoc true b c = refl
        or_assoc false b c = refl
