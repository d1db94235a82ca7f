-- What a reader has read, beside what was told.
use Rattle.std.proofs.Common.{◌≡◌, ℕ, ◌≤◌, List, [], ◌∷◌, ◌++◌, length, map, refl, sym, ap, ◌∙◌, subst, append-nil}
use mathlib.Core.List.{IsPrefix}
use Rattle.peer_lock.specs.declared.call.Call.{Call}
use Rattle.screen_read.specs.Pages.{PageText, IsNewest, AllBegin}
use Rattle.screen_read.specs.Ends.{ReaderPages, told_also, ReadsNewest}
use Rattle.screen_read.specs.Screen.{ArePagesOf}
use Rattle.form_watch.specs.Reads.{NeverFalls}
use Rattle.form_watch.specs.Workers.{HasRead, BothBegin, told_page, AreReadPages}
use Rattle.form_watch.proofs.Pages.{prefix_trans, last_begins, Each, each_newest, newest_most, told_rises, IsOfRun, all_of_run}

-- one more read
pub read_more : (r s t : ReaderPages) (ps : List PageText) (p : PageText) → HasRead r ps s → ReadsNewest s p t → HasRead r (ps ++ p ∷ []) t
read_more r s t [] p same read = (t, subst (λ (x : ReaderPages). ReadsNewest x p t) same read, refl)
read_more r s t (q ∷ qs) p (m, first, rest) read = (m, first, read_more m s t qs p rest read)

-- the reader has learnt these pages, and has read once more
pub both_begin : (r m s : ReaderPages) (told : List PageText) (last : PageText) → m ≡ told_also r told → ReadsNewest m last s → BothBegin r.pages told
both_begin r m s told last is read = record {
  all = s.pages;
  ascending = read.ascending;
  first = subst (λ (x : ReaderPages). IsPrefix x.pages s.pages) is read.seen;
  second = last_begins r.told told s.pages (subst (λ (x : ReaderPages). AllBegin x.told s.pages) is read.told);
}

-- the reader stays at its board
pub has_table : (r s : ReaderPages) (ps : List PageText) → HasRead r ps s → s.table ≡ r.table
has_table r s [] same = ap (λ (x : ReaderPages). x.table) same
has_table r s (p ∷ ps) (m, first, rest) = has_table m s ps rest ∙ first.table

-- what was seen first begins what was seen last
has_seen : (r s : ReaderPages) (ps : List PageText) → HasRead r ps s → IsPrefix r.pages s.pages
has_seen r s [] same = ([], append-nil r.pages ∙ sym (ap (λ (x : ReaderPages). x.pages) same))
has_seen r s (p ∷ ps) (m, first, rest) = prefix_trans r.pages m.pages s.pages first.seen (has_seen m s ps rest)

of_run : (site : ℕ) (run : List Call) (q : PageText) (r s : ReaderPages) (ps all : List PageText) → Each (IsOfRun site run q) all → IsPrefix s.pages all → HasRead r ps s → ArePagesOf site run (map (told_page q) ps)
of_run site run q r s [] all each begins read = tt
of_run site run q r s (p ∷ ps) all each begins (m, first, rest) = (
  each_newest (IsOfRun site run q) all m.pages p each (prefix_trans m.pages s.pages all (has_seen m s ps rest) begins) first.newest,
  of_run site run q m s ps all each begins rest,
)

rises : (q : PageText) (r s : ReaderPages) (ps : List PageText) → HasRead r ps s → NeverFalls (map (λ (p : PageText). p.steps) (map (told_page q) ps))
rises q r s [] read = tt
rises q r s (p ∷ []) read = tt
rises q r s (p ∷ x ∷ xs) (m, first, (n, second, rest)) =
    let later : p.steps ≤ x.steps =
    each_newest (λ (y : PageText). y.steps ≤ x.steps) n.pages m.pages p (newest_most n.pages x second.ascending second.newest) second.seen first.newest in
    (told_rises q p x later, rises q m s (x ∷ xs) (n, second, rest))

-- the pages that a reader has read, by what it was told at the end
pub read_pages : (site reads : ℕ) (run : List Call) (r s : ReaderPages) (ps told : List PageText) (q : PageText) → length ps ≡ reads → HasRead r ps s → BothBegin s.pages told → IsNewest told q → ArePagesOf site run told
    → AreReadPages site reads run ps q
read_pages site reads run r s ps told q many read both last of = record {
  many = many;
  rising = rises q r s ps read;
  of_run = of_run site run q r s ps both.all (all_of_run site run q told both.all last of both.ascending both.second) both.first read;
}
