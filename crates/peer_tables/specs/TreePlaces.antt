-- The places of a history's elements, and what its spans cover, by the tree.
use Rattle.std.specs.Prelude.{◌≡◌, Bool, true, not, ◌&&◌, List, nat_lt}
use Rattle.element_name.specs.Name.{Name, has_name}
use Rattle.element_name.specs.Places.{place_in}
use Rattle.element_name.specs.Tree.{before}
use Rattle.coop_request.specs.Request.{Request}
use Rattle.coop_request.specs.History.{placed_of, elements_of, text_order, IsHistory}
use Rattle.policy_book.specs.declared.auth.Extent.TheVariants.{Span}
use Rattle.auth_match.specs.Coverage.{covers}

-- the tree of a history's elements has a before b
abbrev pub is_before : List Request → Name → Name → Bool
is_before R a b = before (placed_of R) a b

-- of two elements the one has the smaller place in the text order that the tree has before the other
abbrev pub TextPlaceLaw : Type 0
TextPlaceLaw = (R : List Request) (a b : Name) → IsHistory R → has_name (elements_of R) a ≡ true → has_name (elements_of R) b ≡ true
    → nat_lt (place_in (text_order R) a) (place_in (text_order R) b) ≡ is_before R a b

-- a span covers an element where both its ends are elements, the element isn't before the first end, and the last end isn't before it
abbrev pub SpanCoverLaw : Type 0
SpanCoverLaw = (R : List Request) (first last e : Name) → IsHistory R → has_name (elements_of R) e ≡ true
    → covers (text_order R) (Span first last) e
    ≡ ((has_name (elements_of R) first && has_name (elements_of R) last) && (not (is_before R e first) && not (is_before R last e)))
