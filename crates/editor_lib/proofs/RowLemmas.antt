-- Bytes are a row of messages in one way alone.
use Rattle.std.proofs.Common.{◌≡◌, ◌≢◌, ℕ, true, ◌&&◌, List, [], ◌∷◌, ◌++◌, length, Ok, refl, sym, ap, subst, ◌∙◌, append_assoc, arith}
use Rattle.std.specs.Prelude.{map}
use Rattle.std.specs.List.{flat_map, list_all}
use Rattle.std.proofs.lemmas.Bool.{and_parts, and_from}
use Rattle.std.proofs.lemmas.Grind.{flat_map-append}
use Rattle.std.proofs.lemmas.List.{append-nil, map-append}
use Rattle.std.proofs.lemmas.List.Concat.{flat_map-cons}
use Rattle.std.proofs.lemmas.List.Folds.{list_all-append}
use Rattle.edit_message.specs.declared.message.Message.{Message}
use Rattle.edit_message.specs.Formed.{is_message}
use Rattle.edit_frame.specs.declared.frame.Frame.{Frame}
use Rattle.edit_frame.specs.declared.frame.Frame.TheVariants.{Item}
use Rattle.edit_frame.specs.declared.frame.FrameKind.TheVariants.{Truncated}
use Rattle.edit_frame.specs.Spelling.{spelling}
use Rattle.edit_frame.specs.Reading.{frame_at}
use Rattle.edit_frame.proofs.Frames.{no_prefix, frame_at_again}
use Rattle.edit_frame.proofs.Outcomes.{no_frame}
use Rattle.edit_frame.proofs.Streams.{nothing_waits}
use Rattle.peer_core.specs.declared.restore.RestoreFail.{RestoreFail}
use Rattle.peer_core.specs.declared.restore.RestoreFail.TheVariants.{NotJournal, NoMemory}
use Rattle.peer_tables.specs.Journal.{IsWithin}
use Rattle.peer_core.specs.Restore.{IsRestoreFailOf}
use Rattle.peer_core.proofs.RestoreLemmas.{no_fail_law}
use Rattle.editor_lib.specs.declared.journal.JournalFail.TheVariants.{Bad}
use Rattle.editor_lib.specs.Journal.{SpellsRow, SpellsJournal, fail_by}

-- the frames of messages, one behind another
abbrev pub row : List Message → List ℕ
row messages = flat_map spelling (map Item messages)

-- the bytes begin with the frames of these messages, and then comes the rest
pub record StartsRow (bytes : List ℕ) (messages : List Message) (rest : List ℕ) : Type 0 where
  pub whole : bytes ≡ row messages ++ rest
  pub formed : list_all is_message messages ≡ true

-- ---- one message more

pub none_yet : (bytes : List ℕ) → StartsRow bytes [] bytes
none_yet bytes = record { whole = refl; formed = refl }

row_cons : (m : Message) (M : List Message) → row (m ∷ M) ≡ spelling (Item m) ++ row M
row_cons m M = flat_map-cons spelling (Item m) (map Item M)

row_last : (M : List Message) (m : Message) → row (M ++ m ∷ []) ≡ row M ++ spelling (Item m)
row_last M m =
    ap (λ (fs : List Frame). flat_map spelling fs) (map-append Item M (m ∷ []))
    ∙ flat_map-append spelling (map Item M) (Item m ∷ [])
    ∙ ap (λ (xs : List ℕ). row M ++ xs) (row_cons m [] ∙ append-nil (spelling (Item m)))

pub one_more : (bytes rest behind : List ℕ) (M : List Message) (m : Message) → StartsRow bytes M rest → rest ≡ spelling (Item m) ++ behind → is_message m ≡ true → StartsRow bytes (M ++ m ∷ []) behind
one_more bytes rest behind M m start next formed = record {
  whole = start.whole ∙ ap (λ (xs : List ℕ). row M ++ xs) next ∙ sym (append_assoc (row M) (spelling (Item m)) behind) ∙ ap (λ (xs : List ℕ). xs ++ behind) (sym (row_last M m));
  formed = list_all-append is_message M (m ∷ []) ∙ and_from (list_all is_message M) (is_message m && true) start.formed (and_from (is_message m) true formed refl);
}

pub all_read : (bytes rest : List ℕ) (M : List Message) → StartsRow bytes M rest → length rest ≡ 0 → SpellsRow bytes M
all_read bytes [] M start none = record { whole = start.whole ∙ append-nil (row M); formed = start.formed }
all_read bytes (b ∷ rest) M start none = absurd (omega arith)

-- ---- one row alone

-- a row that begins so goes on with further messages
pub record GoesOn (J M : List Message) (rest : List ℕ) : Type 0 where
  pub later : List Message
  pub whole : J ≡ M ++ later
  pub rest_is : rest ≡ row later
  pub formed : list_all is_message later ≡ true

no_bytes : (m : Message) (x : List ℕ) → is_message m ≡ true → [] ≡ spelling (Item m) ++ x → ⊥
no_bytes m x formed is = no_frame Truncated (Item m) (sym nothing_waits ∙ ap frame_at is ∙ frame_at_again (Item m) x formed)

row_begins : (m : Message) (M : List Message) (rest : List ℕ) → row (m ∷ M) ++ rest ≡ spelling (Item m) ++ (row M ++ rest)
row_begins m M rest = ap (λ (xs : List ℕ). xs ++ rest) (row_cons m M) ∙ append_assoc (spelling (Item m)) (row M) rest

same_message : (m k : Message) → Item m ≡ Item k → m ≡ k
same_message m k is = cc

goes_on : (M J : List Message) (rest : List ℕ) → list_all is_message M ≡ true → list_all is_message J ≡ true → row J ≡ row M ++ rest → GoesOn J M rest
goes_on [] J rest hm hj is = record { later = J; whole = refl; rest_is = sym is; formed = hj }
goes_on (m ∷ M) [] rest hm hj is = absurd (no_bytes m (row M ++ rest) (and_parts (is_message m) (list_all is_message M) hm).0 (is ∙ row_begins m M rest))
goes_on (m ∷ M) (k ∷ J) rest hm hj is =
    let ms = and_parts (is_message m) (list_all is_message M) hm in
    let ks = and_parts (is_message k) (list_all is_message J) hj in
    let next = no_prefix (Item k) (Item m) (row J) (row M ++ rest) ks.0 ms.0 (sym (row_cons k J) ∙ is ∙ row_begins m M rest) in
    let on = goes_on M J rest ms.1 ks.1 next.1 in
    record {
      later = on.later;
      whole = ap (λ (K : List Message). k ∷ K) on.whole ∙ ap (λ (x : Message). x ∷ (M ++ on.later)) (same_message k m next.0);
      rest_is = on.rest_is;
      formed = on.formed;
    }

-- bytes that go on with no message are no row
pub no_row : (bytes rest : List ℕ) (M J : List Message) → StartsRow bytes M rest → length rest ≢ 0 → ((m : Message) → frame_at rest ≢ Ok (Item m)) → ¬ SpellsRow bytes J
no_row bytes rest M J start some none spelled = ended (goes_on M J rest start.formed spelled.formed (sym spelled.whole ∙ start.whole))
  where
    ended : GoesOn J M rest → ⊥
    ended on = at on.later on.rest_is on.formed
      where
        at : (later : List Message) → rest ≡ row later → list_all is_message later ≡ true → ⊥
        at [] is formed = some (ap length is)
        at (k ∷ later) is formed =
            none k (ap frame_at (is ∙ row_cons k later) ∙ frame_at_again (Item k) (row later) (and_parts (is_message k) (list_all is_message later) formed).0)

-- two rows of the same bytes are one
pub one_row : (bytes : List ℕ) (M J : List Message) → SpellsRow bytes M → SpellsRow bytes J → J ≡ M
one_row bytes M J first second = ended (goes_on M J [] first.formed second.formed (sym second.whole ∙ first.whole ∙ sym (append-nil (row M))))
  where
    ended : GoesOn J M [] → J ≡ M
    ended on = on.whole ∙ ap (λ (K : List Message). M ++ K) (none on.later on.rest_is on.formed) ∙ append-nil M
      where
        none : (later : List Message) → [] ≡ row later → list_all is_message later ≡ true → later ≡ []
        none [] is formed = refl
        none (k ∷ later) is formed = absurd (no_bytes k (row later) (and_parts (is_message k) (list_all is_message later) formed).0 (is ∙ row_cons k later))

-- ---- journals

pub journal_row : (bytes : List ℕ) (J : List Message) → SpellsJournal bytes J → SpellsRow bytes J
journal_row bytes J spelled = record { whole = spelled.whole; formed = spelled.within.formed }

-- bytes that are no row of messages are no journal
pub no_journal : (bytes : List ℕ) → ((M : List Message) → ¬ SpellsRow bytes M) → (J : List Message) → ¬ SpellsJournal bytes J
no_journal bytes none J spelled = none J (journal_row bytes J spelled)

-- a row whose messages are no journal is none
pub bad_journal : (bytes : List ℕ) (M J : List Message) → SpellsRow bytes M → ¬ IsWithin M → ¬ SpellsJournal bytes J
bad_journal bytes M J row other spelled = other (subst IsWithin (one_row bytes M J row (journal_row bytes J spelled)) spelled.within)

-- where messages give no peer but for memory, their row is no journal
pub bad_peer : (bytes : List ℕ) (M : List Message) (fail : RestoreFail) → SpellsRow bytes M → IsRestoreFailOf M fail → fail_by fail ≡ Bad → (J : List Message) → ¬ SpellsJournal bytes J
bad_peer bytes M (NotJournal place) row fails is J = bad_journal bytes M J row (λ within. no_fail_law M place within fails)
bad_peer bytes M NoMemory row fails is J = absurd cc
