-- Screens: the texts of a shared peer, as one pass publishes them.
use Rattle.std.specs.Prelude.{◌≡◌, ℕ, ◌≤◌, ◌<◌, ◌⊎◌, List, [], ◌∷◌, ◌++◌, length, take, Result, Ok, Err}
use Rattle.logbook.specs.Pages.{Book}
use Rattle.peer_step.specs.declared.step.Step.TheVariants.{Show}
use Rattle.peer_step.specs.declared.answer.Answer.{Answer}
use Rattle.peer_core.specs.Peer.{fresh_peer, text}
use Rattle.peer_lock.specs.declared.limits.TheConstants.{MAX_RUN}
use Rattle.peer_lock.specs.declared.call.Call.{Call}
use Rattle.peer_lock.specs.declared.view.View.{View}
use Rattle.peer_lock.specs.Run.{peer_after_run, StartsWith}
use Rattle.peer_lock.specs.KnownPass.{KnownPass}
use Rattle.peer_lock.specs.Answers.{KnowsFull, Stepped}
use Rattle.screen_read.specs.declared.fail.ScreenFail.{ScreenFail}
use Rattle.screen_read.specs.declared.fail.ScreenFail.TheVariants.{RunFull, NoMemory}
use Rattle.screen_read.specs.Pages.{PageText, page_text, IsAscending}
use Rattle.screen_read.specs.Ends.{ReaderPages, reader_pages}

-- the page after a run of a site's peer: how long the run is, and the peer's text
abbrev pub page_after : ℕ → List Call → PageText
page_after site run = page_text (length run) (text (peer_after_run (fresh_peer site) run))

-- the page is the one after so many first steps of a run
abbrev pub IsPageOf : ℕ → List Call → PageText → Type 0
IsPageOf site run p = (p.steps ≤ length run) × (p ≡ page_after site (take p.steps run))

-- each page is one of the run
abbrev pub ArePagesOf : ℕ → List Call → List PageText → Type 0
ArePagesOf site run [] = Unit {0}
ArePagesOf site run (p ∷ ps) = IsPageOf site run p × ArePagesOf site run ps

-- the pages ascend, and each is one of the run that the pass has seen
pub record ArePublished (v : View) (pages : List PageText) : Type 0 where
  pub ascending : IsAscending pages
  pub of_run : ArePagesOf v.origin v.seen pages

-- what contracts see of a screen: the name of its board, its pass as it was after the last page, and the pages so far
pub record KnownScreen : Type 0 where
  pub table : Book
  pub pass : KnownPass
  pub pages : List PageText

abbrev pub known_screen : Book → KnownPass → List PageText → KnownScreen
known_screen table pass pages = record { table = table; pass = pass; pages = pages }

-- the screen was made with this pass, which has forgotten nothing since the last page
pub record IsPassOf (s : KnownScreen) (k : KnownPass) : Type 0 where
  pub table : k.table ≡ s.pass.table
  pub id : k.id ≡ s.pass.id
  pub origin : k.view.origin ≡ s.pass.view.origin
  pub seen : StartsWith k.view.seen s.pass.view.seen

-- a Show step was made
abbrev pub StepsShow : View → View → Type 0
StepsShow v w = (a : Answer) × Stepped v Show a w

-- one Show step; none where the run is full; where memory was wanting it may have been made
abbrev pub TriesShow : {A : Type 0} → View → Result A ScreenFail → View → Type 0
TriesShow v (Ok x) w = StepsShow v w
TriesShow v (Err RunFull) w = (w.seen ≡ v.seen) × KnowsFull w
TriesShow v (Err NoMemory) w = StepsShow v w ⊎ ((w.seen ≡ v.seen) × (v.floor ≤ w.floor) × (w.floor < MAX_RUN))

-- a screen and its reader begin with the page of the pass
pub record OpensScreen (k : KnownPass) (s : KnownScreen) (r : ReaderPages) : Type 0 where
  pub pass : s.pass ≡ k
  pub pages : s.pages ≡ page_after k.view.origin k.view.seen ∷ []
  pub reader : r ≡ reader_pages s.table s.pages []

-- the page of the pass is published behind the others, and its steps are told; a screen that fails stays as it was
abbrev pub Publishes : KnownScreen → KnownPass → Result ℕ ScreenFail → KnownScreen → Type 0
Publishes s k (Ok steps) t = (steps ≡ length k.view.seen) × (t ≡ known_screen s.table k (s.pages ++ page_after k.view.origin k.view.seen ∷ []))
Publishes s k (Err e) t = t ≡ s
