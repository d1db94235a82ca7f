-- What makes a renewal, `specs/Renewal.antt`.
use Rattle.std.proofs.Common.{◌≡◌, ℕ, zero, suc, ◌&&◌, slice_get, Some, ◌-◌, take_all, arith, ◌+◌, ◌<◌, ◌≤◌, Bool, true, false, cond, List, [], ◌∷◌, ◌++◌, map, length, get_or, take, drop, refl, ap, ap₂, sym, ◌∙◌, add-one, drop-cons}
use Rattle.std.proofs.lemmas.List.{drop_all, take_more, map-append}
use Rattle.std.specs.List.{list_all}
use Rattle.edit_message.specs.declared.message.Message.{Message}
use Rattle.policy_book.specs.declared.parts.Object.{Object}
use Rattle.policy_book.specs.declared.parts.NumberedAuth.{NumberedAuth}
use Rattle.policy_book.specs.declared.auth.Auth.{Auth}
use Rattle.peer_core.specs.Peer.{Peer}
use Rattle.peer_renewal.specs.Coverage.{is_kept, kept_objects, covered_bytes}
use Rattle.peer_renewal.specs.Renewal.{Covering, coverings}

-- the object that is kept, and then the others
kept_split : (old : Peer) (o : Object) (objects : List Object) → coverings old (kept_objects (o ∷ objects)) ≡ coverings old (kept_objects (o ∷ [])) ++ coverings old (kept_objects objects)
kept_split old o objects = by (is_kept o.extent)
  where
    by : (b : Bool) → coverings old (cond b (o ∷ kept_objects objects) (kept_objects objects)) ≡ coverings old (cond b (o ∷ []) []) ++ coverings old (kept_objects objects)
    by true = refl
    by false = refl

-- an object that isn't kept needs none
pub none_for : (old new : Peer) (o : Object) (made : List Object) → is_kept o.extent ≡ false → coverings new made ≡ coverings old (kept_objects (o ∷ [])) ++ coverings new made
none_for old new o made lost = ap (λ (b : Bool). coverings old (cond b (o ∷ []) []) ++ coverings new made) (sym lost)

-- the first of those that were made stands for it
pub first_for : (old new : Peer) (o n : Object) (rest : List Object) → is_kept o.extent ≡ true → o.number ≡ n.number → covered_bytes new n.extent ≡ covered_bytes old o.extent
    → coverings new (n ∷ rest) ≡ coverings old (kept_objects (o ∷ [])) ++ coverings new rest
first_for old new o n rest kept same alike =
    let one : ℕ → List Bool → List Covering = λ k b. record { number = k; bytes = b } ∷ coverings new rest in
    ap₂ one (sym same) alike ∙ ap (λ (b : Bool). coverings old (cond b (o ∷ []) []) ++ coverings new rest) (sym kept)

-- the same of a list that has a first one
pub first_alike : (old new : Peer) (o n : Object) (made : List Object) → 0 < length made → n ≡ get_or made 0 n → is_kept o.extent ≡ true → o.number ≡ n.number
    → covered_bytes new n.extent ≡ covered_bytes old o.extent
    → coverings new made ≡ coverings old (kept_objects (o ∷ [])) ++ coverings new (take (length made - 1) (drop 1 made))
first_alike old new o n [] some is kept same alike = absurd (omega (arith, some))
first_alike old new o n (m ∷ rest) some is kept same alike =
    let whole : take (length (m ∷ rest) - 1) rest ≡ rest = take_all (length (m ∷ rest) - 1) rest (omega arith) in
    ap (λ (x : Object). coverings new (x ∷ rest)) (sym is)
    ∙ first_for old new o n rest kept same alike
    ∙ ap (λ (l : List Object). coverings old (kept_objects (o ∷ [])) ++ coverings new l) (sym whole)

-- where those behind an object are alike, those from it on are
pub alike_from : (old new : Peer) (olds : List Object) (i : ℕ) (o : Object) (made rest : List Object) → i < length olds → o ≡ get_or olds i o
    → coverings new made ≡ coverings old (kept_objects (o ∷ [])) ++ coverings new rest
    → coverings new rest ≡ coverings old (kept_objects (drop (i + 1) olds)) → coverings new made ≡ coverings old (kept_objects (drop i olds))
alike_from old new olds i o made rest low is first others =
    first
    ∙ ap (λ (l : List Covering). coverings old (kept_objects (o ∷ [])) ++ l) others
    ∙ ap (λ (k : ℕ). coverings old (kept_objects (o ∷ [])) ++ coverings old (kept_objects (drop k olds))) (add-one i)
    ∙ sym (kept_split old o (drop (suc i) olds))
    ∙ ap (λ (x : Object). coverings old (kept_objects (x ∷ drop (suc i) olds))) is
    ∙ ap (λ (l : List Object). coverings old (kept_objects l)) (sym (drop-cons olds i o low))

-- at the end nothing is left of either
pub alike_all : (old new : Peer) (olds : List Object) (i : ℕ) (made : List Object) → length olds ≤ i → made ≡ [] → coverings new made ≡ coverings old (kept_objects (drop i olds))
alike_all old new olds i made end none =
    ap (coverings new) none ∙ ap (λ (l : List Object). coverings old (kept_objects l)) (sym (drop_all i olds end))

-- authorizations that are the same up to a place and there
pub auths_same : (xs ys : List NumberedAuth) (i : ℕ) (a b : NumberedAuth) → i < length xs → i < length ys → a ≡ get_or xs i a → b ≡ get_or ys i b → a.auth ≡ b.auth
    → map (λ (x : NumberedAuth). x.auth) (take i xs) ≡ map (λ (x : NumberedAuth). x.auth) (take i ys)
    → map (λ (x : NumberedAuth). x.auth) (take (i + 1) xs) ≡ map (λ (x : NumberedAuth). x.auth) (take (i + 1) ys)
auths_same xs ys i a b within there a_is b_is same so_far =
    up_to xs a within a_is ∙ ap₂ (λ (l : List Auth) (x : Auth). l ++ x ∷ []) so_far same ∙ sym (up_to ys b there b_is)
  where
    up_to : (zs : List NumberedAuth) (c : NumberedAuth) → i < length zs → c ≡ get_or zs i c
        → map (λ (x : NumberedAuth). x.auth) (take (i + 1) zs) ≡ map (λ (x : NumberedAuth). x.auth) (take i zs) ++ c.auth ∷ []
    up_to zs c low is =
        ap (map (λ (x : NumberedAuth). x.auth)) (take_more zs i c low)
        ∙ map-append (λ (x : NumberedAuth). x.auth) (take i zs) (get_or zs i c ∷ [])
        ∙ ap (λ (x : NumberedAuth). map (λ (y : NumberedAuth). y.auth) (take i zs) ++ x.auth ∷ []) (sym is)

-- ---- messages

-- a message that passes the test leaves it to the others
all_from : (test : Message → Bool) (messages : List Message) (i : ℕ) (m : Message) → slice_get messages i ≡ Some m → test m ≡ true
    → list_all test (drop i messages) ≡ list_all test (drop (suc i) messages)
all_from test [] i m at pass = absurd (cc)
all_from test (k ∷ messages) zero m at pass = let same : k ≡ m = cc in ap (λ (b : Bool). b && list_all test messages) (ap test same ∙ pass)
all_from test (k ∷ messages) (suc i) m at pass = all_from test messages i m at pass

pub all_more : (test : Message → Bool) (messages : List Message) (i : ℕ) (m : Message) (whole : Bool) → Some m ≡ slice_get messages i → test m ≡ true
    → whole ≡ list_all test (drop i messages) → whole ≡ list_all test (drop (i + 1) messages)
all_more test messages i m whole at pass so_far =
    so_far ∙ all_from test messages i m (sym at) pass ∙ ap (λ (k : ℕ). list_all test (drop k messages)) (sym (add-one i))
