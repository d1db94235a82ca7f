-- A report, and then the lines of what was read.
use Rattle.std.proofs.Common.{◌≡◌, ◌≢◌, ℕ, suc, ◌+◌, ◌<◌, ◌≤◌, List, [], ◌∷◌, ◌++◌, length, take, drop, get_or, drop-cons, ◌⊎◌, inl, inr, refl, sym, ap, ◌∙◌, subst, append_assoc, append-nil}
use Rattle.std.specs.Prelude.{flat_map, map}
use Rattle.std.specs.declared.option.Option.{Option}
use Rattle.std.specs.Io.KnownBytes.{Appends}
use Rattle.std.proofs.KnownBytes.{Appends-trans}
use Rattle.std.proofs.lemmas.List.{take-append-drop, take_all, take_more}
use Rattle.line_engine.specs.declared.status.Status.{Status}
use Rattle.line_engine.specs.declared.status.Status.TheVariants.{Done}
use Rattle.line_engine.specs.Status.{IsSinkFail}
use Rattle.line_engine.specs.Output.{Output, Begins}
use Rattle.line_engine.specs.Engine.{Says}
use Rattle.report_run.proofs.Tellings.{tells_short, says_all, says_part}
use Rattle.screen_read.specs.Pages.{PageText}
use Rattle.form_watch.specs.Reads.{page_line}
use Rattle.form_watch.specs.Workers.{told_page}
use Rattle.form_watch.specs.Watch.{done_with}

-- ---- the lines of pages, one after the other

abbrev page_lines : PageText → List PageText → List ℕ
page_lines q ps = flat_map page_line (map (told_page q) ps)

lines_push : (q : PageText) (ps : List PageText) (p : PageText) → page_lines q (ps ++ p ∷ []) ≡ page_lines q ps ++ page_line (told_page q p)
lines_push q [] p = append-nil (page_line (told_page q p))
lines_push q (x ∷ xs) p =
    ap (λ (l : List ℕ). page_line (told_page q x) ++ l) (lines_push q xs p) ∙ sym (append_assoc (page_line (told_page q x)) (page_lines q xs) (page_line (told_page q p)))

lines-append : (q : PageText) (ps rs : List PageText) → page_lines q (ps ++ rs) ≡ page_lines q ps ++ page_lines q rs
lines-append q [] rs = refl
lines-append q (x ∷ xs) rs =
    ap (λ (l : List ℕ). page_line (told_page q x) ++ l) (lines-append q xs rs) ∙ sym (append_assoc (page_line (told_page q x)) (page_lines q xs) (page_lines q rs))

module _ (a b c : Option (List ℕ)) (q : PageText) (ps : List PageText) (i : ℕ) (p : PageText) (line : List ℕ)
    (lt : i < length ps) (at : p ≡ get_or ps i p) (is : line ≡ page_line (told_page q p)) (told : Appends a b (page_lines q (take i ps))) where
  -- the line of one page more was told
  pub one_told : Appends b c line → Appends a c (page_lines q (take (i + 1) ps))
  one_told more =
      let grown : page_lines q (take (i + 1) ps) ≡ page_lines q (take i ps) ++ line
      = ap (page_lines q) (take_more ps i p lt) ∙ ap (λ (x : PageText). page_lines q (take i ps ++ x ∷ [])) (sym at) ∙ lines_push q (take i ps) p
      ∙ ap (λ (l : List ℕ). page_lines q (take i ps) ++ l) (sym is) in
      subst (Appends a c) (sym grown) (Appends-trans a b c (page_lines q (take i ps)) line told more)

  -- it wasn't told whole
  pub one_short : (status : Status) → (w : List ℕ) × Appends b c w × Begins w line × IsSinkFail status → (w : List ℕ) × Appends a c w × Begins w (page_lines q ps) × IsSinkFail status
  one_short status t =
      let front : List ℕ = page_lines q (take i ps) in
      let later : List ℕ = page_lines q (drop (suc i) ps) in
      let cut : ps ≡ take i ps ++ p ∷ drop (suc i) ps
      = sym (take-append-drop i ps) ∙ ap (λ (l : List PageText). take i ps ++ l) (drop-cons ps i p lt ∙ ap (λ (x : PageText). x ∷ drop (suc i) ps) (sym at)) in
      let whole : page_lines q ps ≡ front ++ (line ++ later)
      = ap (page_lines q) cut ∙ lines-append q (take i ps) (p ∷ drop (suc i) ps) ∙ ap (λ (l : List ℕ). front ++ (l ++ later)) (sym is) in (
        front ++ t.0,
        Appends-trans a b c front t.0 told t.1,
        (
          t.2.0 ++ later,
          whole ∙ ap (λ (l : List ℕ). front ++ (l ++ later)) t.2.1 ∙ ap (λ (l : List ℕ). front ++ l) (append_assoc t.0 t.2.0 later) ∙ sym (append_assoc front t.0 (t.2.0 ++ later)),
        ),
        t.3,
      )

-- and to the end of them
pub all_told : (a b : Option (List ℕ)) (q : PageText) (ps : List PageText) (i : ℕ) → length ps ≤ i → Appends a b (page_lines q (take i ps)) → Appends a b (page_lines q ps)
all_told a b q ps i past told = subst (λ (l : List PageText). Appends a b (page_lines q l)) (take_all i ps past) told

-- ---- the report, and then the lines

-- the report was said whole
module _ (a b c : Option (List ℕ)) (front lines more : List ℕ) (s : Status) (is : lines ≡ more) (done : s ≡ Done) (told : (v : List ℕ) × Says a b s (done_with front) v) where
  front_told : Appends a b front
  front_told =
      let first : Says a b Done (done_with front) told.0 = subst (λ (t : Status). Says a b t (done_with front) told.0) done told.1 in
      let all : front ≡ told.0 = ap (λ (o : Output). o.written) (first.ends.whole refl) in
      subst (Appends a b) (sym all) first.appends

  pub said_all : Appends b c lines → (w : List ℕ) × Says a c Done (done_with (front ++ more)) w
  said_all next = says_all a c (front ++ more) (subst (λ (l : List ℕ). Appends a c (front ++ l)) is (Appends-trans a b c front lines front_told next))

  pub said_part : (t : Status) → (w : List ℕ) × Appends b c w × Begins w lines × IsSinkFail t → (w : List ℕ) × Says a c t (done_with (front ++ more)) w
  said_part t next =
      says_part a c t (front ++ more) (
        front ++ next.0,
        Appends-trans a b c front next.0 front_told next.1,
        (next.2.0, ap (λ (l : List ℕ). front ++ l) (sym is ∙ next.2.1) ∙ sym (append_assoc front next.0 next.2.0)),
        next.3,
      )

-- it wasn't
pub said_short : (a b : Option (List ℕ)) (front lines : List ℕ) (s : Status) → s ≢ Done → (v : List ℕ) × Says a b s (done_with front) v → (v : List ℕ) × Says a b s (done_with (front ++ lines)) v
said_short a b front lines s other (v, says) = says_part a b s (front ++ lines) (tells_short a b front lines s (v, says.appends, says.ends.begun, sink_failed says.given))
  where
    sink_failed : (done_with front ≡ record { written = v; status = s }) ⊎ IsSinkFail s → IsSinkFail s
    sink_failed (inl e) = absurd (other (sym (ap (λ (o : Output). o.status) e)))
    sink_failed (inr failed) = failed
