-- What a reader knows.
use Rattle.std.proofs.Common.{◌≡◌, List, [], ◌∷◌, ◌++◌, sym, refl, ap, ◌∙◌, subst, append-nil}
use mathlib.Core.List.{IsPrefix}
use Rattle.screen_read.specs.Pages.{PageText, IsAscending, IsNewest, AllBegin}
use Rattle.screen_read.specs.Ends.{BoardPages, ReaderPages, reader_pages, ReadsNewest}
use Rattle.screen_read.proofs.Lists.{prefix_trans, all_begin_longer, all_begin_one_more}

-- a read that gave the last of longer pages
pub reads_newest : (r : ReaderPages) (known old new seen : BoardPages) (told : List (List PageText)) (page given : PageText) → r ≡ reader_pages known.table old.pages told
    → IsPrefix old.pages known.pages → AllBegin told known.pages → new.table ≡ known.table → IsPrefix known.pages new.pages
    → IsNewest new.pages given → page ≡ given → IsAscending new.pages → seen ≡ new
    → ReadsNewest r page (reader_pages new.table seen.pages [])
reads_newest r known old new seen told page given is saw heard same longer newest gives up kept =
    let pages : new.pages ≡ seen.pages = ap (λ (s : BoardPages). s.pages) (sym kept) in
    let before : IsPrefix old.pages new.pages = prefix_trans old.pages known.pages new.pages saw longer in
    let all : AllBegin told new.pages = all_begin_longer told known.pages new.pages heard longer in record {
      table = same ∙ sym (ap (λ (x : ReaderPages). x.table) is);
      newest = subst (λ (l : List PageText). IsNewest l page) pages (subst (IsNewest new.pages) (sym gives) newest);
      seen = subst (λ (l : List PageText). IsPrefix r.pages l) pages (subst (λ (l : List PageText). IsPrefix l new.pages) (sym (ap (λ (x : ReaderPages). x.pages) is)) before);
      told = subst (AllBegin r.told) pages (subst (λ (ls : List (List PageText)). AllBegin ls new.pages) (sym (ap (λ (x : ReaderPages). x.told) is)) all);
      told_none = refl;
      ascending = subst IsAscending pages up;
    }

-- what was told begins the later pages too
pub learns_also : (told : List (List PageText)) (known new shown list : BoardPages) → AllBegin told known.pages → IsPrefix known.pages new.pages → IsPrefix shown.pages new.pages → list ≡ shown
    → AllBegin (told ++ list.pages ∷ []) new.pages
learns_also told known new shown list heard longer more is = all_begin_one_more told list.pages new.pages (all_begin_longer told known.pages new.pages heard longer) (subst (λ (s : BoardPages). IsPrefix s.pages new.pages) (sym is) more)

-- what is as long begins
pub same_begins : (x y : BoardPages) → x ≡ y → IsPrefix x.pages y.pages
same_begins x y is = ([], append-nil x.pages ∙ ap (λ (s : BoardPages). s.pages) is)
