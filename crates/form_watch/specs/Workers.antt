-- What the two workers of a watch leave.
use Rattle.std.specs.Prelude.{◌≡◌, ℕ, ◌+◌, ◌<◌, List, [], ◌∷◌, length, map, nat_lt, if◌then◌else◌}
use mathlib.Core.List.{IsPrefix}
use Rattle.peer_step.specs.declared.step.Step.{Step}
use Rattle.peer_step.specs.declared.step.Step.TheVariants.{Show}
use Rattle.peer_lock.specs.declared.limits.TheConstants.{MAX_RUN}
use Rattle.peer_lock.specs.declared.call.Call.{Call}
use Rattle.peer_lock.specs.KnownPass.{KnownPass}
use Rattle.peer_lock.specs.Answers.{IsSame, KnowsFull}
use Rattle.peer_lock.specs.Made.{Made, MadeFirst}
use Rattle.peer_lock.specs.Laws.{steps_below}
use Rattle.screen_read.specs.declared.fail.ScreenFail.{ScreenFail}
use Rattle.screen_read.specs.declared.fail.ScreenFail.TheVariants.{RunFull}
use Rattle.screen_read.specs.Pages.{PageText, IsAscending, IsNewest}
use Rattle.screen_read.specs.Ends.{ReaderPages, ReadsNewest}
use Rattle.screen_read.specs.Screen.{KnownScreen, page_after, ArePagesOf, ArePublished}
use Rattle.form_watch.specs.Run.{each_shown}
use Rattle.form_watch.specs.Reads.{NeverFalls}

-- a screen's last page is that of all that its pass has seen
pub record IsCurrent (s : KnownScreen) (k : KnownPass) : Type 0 where
  pub pass : s.pass ≡ k
  pub newest : IsNewest s.pages (page_after k.view.origin k.view.seen)
  pub published : ArePublished k.view s.pages

-- the pass has made one Show step more, and the screen is made of it, beside its reader
pub record Opens (k l : KnownPass) (s : KnownScreen) (r : ReaderPages) : Type 0 where
  pub same : IsSame k l
  pub made : Made k.view l.view (Show ∷ [])
  pub current : IsCurrent s l
  pub board : r.table ≡ s.table

-- the pass has made these steps, each followed by Show, and the screen has published a page after each
pub record Publishing (s : KnownScreen) (k : KnownPass) (steps : List Step) (t : KnownScreen) (l : KnownPass) : Type 0 where
  pub same : IsSame k l
  pub made : Made k.view l.view (each_shown steps)
  pub board : t.table ≡ s.table
  pub grown : length t.pages ≡ length s.pages + length steps
  pub current : IsCurrent t l

-- the pass was to make these steps, has made the first of them, or all, and then failed; where the run was full it knows that
pub record StopsShort (k : KnownPass) (steps : List Step) (l : KnownPass) (fail : ScreenFail) : Type 0 where
  pub same : IsSame k l
  pub made : MadeFirst k.view l.view steps
  pub full : fail ≡ RunFull → KnowsFull l.view

-- a pass that stands for all has failed so, and they have made fewer steps than a run may have
pub record HasStopped (k : KnownPass) (fail : ScreenFail) : Type 0 where
  pub whole : length k.view.numbers ≡ k.view.made
  pub few : steps_below k.view.made k.view.seen < MAX_RUN
  pub full : fail ≡ RunFull → KnowsFull k.view

-- the reader has read these pages, in this order
abbrev pub HasRead : ReaderPages → List PageText → ReaderPages → Type 0
HasRead r [] s = s ≡ r
HasRead r (p ∷ ps) s = (m : ReaderPages) × ReadsNewest r p m × HasRead m ps s

-- both lists begin one list of ascending pages
pub record BothBegin (xs ys : List PageText) : Type 0 where
  pub all : List PageText
  pub ascending : IsAscending all
  pub first : IsPrefix xs all
  pub second : IsPrefix ys all

-- a page that was read, or the last one that was told where it has more steps than that
abbrev pub told_page : PageText → PageText → PageText
told_page newest p = if nat_lt newest.steps p.steps then newest else p

-- So many pages were read beside a run of a site's peer, of which this one was told last: each that has no more steps
-- is a page of the run, and their steps never fall.
pub record AreReadPages (site reads : ℕ) (run : List Call) (pages : List PageText) (newest : PageText) : Type 0 where
  pub many : length pages ≡ reads
  pub rising : NeverFalls (map (λ p. p.steps) (map (told_page newest) pages))
  pub of_run : ArePagesOf site run (map (told_page newest) pages)
