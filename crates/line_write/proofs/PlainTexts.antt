-- Texts of which no byte has a spelling of its own.
use Rattle.std.proofs.Common.{◌≡◌, ℕ, suc, ◌+◌, ◌<◌, Bool, true, false, List, [], ◌∷◌, ◌++◌, length, get_or, take, drop, refl, sym, ap, ◌∙◌, append_assoc, arith, length-take, get_or-take}
use Rattle.std.specs.Prelude.{◌||◌, ◌==◌, if◌then◌else◌, Option, Some, None, IfSome, IfNone}
use Rattle.std.proofs.lemmas.List.{take-append-drop}
use Rattle.std.proofs.lemmas.List.Concat.{flat_map-append}
use Rattle.memchr.specs.Find.{IsFirstByte, Nowhere, Passes, is_byte2}
use Rattle.line_spelling.specs.declared.signs.TheConstants.{LINE_END, BACKSLASH, LINE_END_LETTER}
use Rattle.line_spelling.specs.Values.{text_byte, text_text}

plain_byte : (b : ℕ) → (is_byte2 LINE_END BACKSLASH b ≡ true → ⊥) → text_byte b ≡ b ∷ []
plain_byte b plain = by (b == LINE_END) (b == BACKSLASH) plain
  where
    by : (ends slash : Bool) → ((ends || slash) ≡ true → ⊥)
        → (if ends then BACKSLASH ∷ LINE_END_LETTER ∷ [] else (if slash then BACKSLASH ∷ BACKSLASH ∷ [] else b ∷ [])) ≡ b ∷ []
    by true slash none = absurd (none refl)
    by false true none = absurd (none refl)
    by false false none = refl

-- a text with no such byte is written as it is
plain_text : (text : List ℕ) → ((k : ℕ) → k < length text → is_byte2 LINE_END BACKSLASH (get_or text k 0) ≡ true → ⊥) → text_text text ≡ text
plain_text [] none = refl
plain_text (b ∷ text) none =
    ap (λ (bytes : List ℕ). bytes ++ text_text text) (plain_byte b (none 0 (omega arith)))
    ∙ ap (λ (bytes : List ℕ). b ∷ bytes) (plain_text text (λ k within is. none (suc k) (omega arith) is))

-- and so is what stands in front of the first one
plain_front : (text : List ℕ) (i : ℕ) → Nowhere (Passes (is_byte2 LINE_END BACKSLASH) text) 0 i → text_text (take i text) ≡ take i text
plain_front text i none = plain_text (take i text) (λ k within is.
    let below : k < i = omega (arith, length-take i text) in
    none k (omega arith) below (ap (is_byte2 LINE_END BACKSLASH) (sym (get_or-take i text k 0 below)) ∙ is))

-- a text is written in two parts
text_parts : (text : List ℕ) (i : ℕ) → text_text (take i text) ++ text_text (drop i text) ≡ text_text text
text_parts text i = sym (flat_map-append text_byte (take i text) (drop i text)) ∙ ap text_text (take-append-drop i text)

-- a text is written as far as a byte, and then what is left of it
pub text_next : (line more all rest after : List ℕ) (i : ℕ) → more ≡ line ++ text_text (take (i + 1) rest) → after ≡ drop (i + 1) rest
    → line ++ text_text rest ≡ all → more ++ text_text after ≡ all
text_next line more all rest after i put left so_far =
    ap (λ (bytes : List ℕ). bytes ++ text_text after) put ∙ append_assoc line (text_text (take (i + 1) rest)) (text_text after)
    ∙ ap (λ (bytes : List ℕ). line ++ (text_text (take (i + 1) rest) ++ text_text bytes)) left
    ∙ ap (λ (bytes : List ℕ). line ++ bytes) (text_parts rest (i + 1)) ∙ so_far

-- what stands in front of the first such byte is written as it is
pub front_from_first : (text : List ℕ) (place : Option ℕ) → IsFirstByte (is_byte2 LINE_END BACKSLASH) text place → IfSome place (λ i. text_text (take i text) ≡ take i text)
front_from_first text (Some i) first = plain_front text i first.0.before
front_from_first text None first = tt

-- and all where there is none
pub all_from_first : (text : List ℕ) (place : Option ℕ) → IsFirstByte (is_byte2 LINE_END BACKSLASH) text place → IfNone place (text_text text ≡ text)
all_from_first text (Some i) first = tt
all_from_first text None first = plain_text text (λ k within is. first k (omega arith) within is)
