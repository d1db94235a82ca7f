use Rattle.std.proofs.Common.{◌≡◌, List, [], ◌∷◌, ◌++◌, length, refl, sym, ap, subst, arith, length-append}
use Rattle.screen_read.specs.Pages.{PageText}
use Rattle.form_watch.specs.Workers.{HasRead}
use Rattle.form_watch.proofs.ReadPages.{read_more}
use Rattle.form_watch.proofs.reading.read_all.Goals as goal

pub loop-read-init : goal.loop-read-init
loop-read-init g c =
    let none : c.new-pages.result.items ≡ [] = c.new-pages.ensures.items in record {
      many = ap (λ (l : List PageText). length l) none;
      pages = subst (λ (l : List PageText). HasRead c.args.reader l c.args.reader) (sym none) refl;
    }

pub loop-read-preserved : goal.loop-read-preserved
loop-read-preserved g c =
    let before : List PageText = c.loop-read.pages.items in
    let page : PageText = c.in_ok-page.page in
    let items : c.push.new.self.items ≡ before ++ page ∷ [] = c.in_ok-push.ensures.items in record {
      many = omega (arith, ap (λ (l : List PageText). length l) items, length-append before (page ∷ []), c.loop-read.invariant.many);
      pages = subst (λ (l : List PageText). HasRead c.args.reader l c.read.new.self) (sym items)
          (read_more c.args.reader c.loop-read.reader c.read.new.self before page c.loop-read.invariant.pages c.in_ok-page.ensures);
    }
