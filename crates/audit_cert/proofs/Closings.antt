-- Bytes are frames, the first End, and what is told in one way alone.
use Rattle.std.proofs.Common.{◌≡◌, ℕ, ◌-◌, true, false, ◌||◌, List, [], ◌∷◌, ◌++◌, length, Err, refl, sym, ap, subst, ◌∙◌, append_assoc, arith}
use Rattle.std.specs.Prelude.{◌&&◌}
use Rattle.std.specs.List.{flat_map, list_all, list_any}
use Rattle.std.proofs.lemmas.Bool.{and_parts, and_from, or_parts}
use Rattle.std.proofs.lemmas.Grind.{flat_map-append}
use Rattle.std.proofs.lemmas.List.{append-nil, length-append}
use Rattle.std.proofs.lemmas.List.Concat.{flat_map-cons}
use Rattle.std.proofs.lemmas.List.Folds.{list_all-append, list_any-append}
use Rattle.edit_frame.specs.declared.frame.Frame.{Frame}
use Rattle.edit_frame.specs.declared.frame.Frame.TheVariants.{End}
use Rattle.edit_frame.specs.declared.frame.FrameKind.{FrameKind}
use Rattle.edit_frame.specs.Spelling.{spelling}
use Rattle.edit_frame.specs.Spells.{is_frame}
use Rattle.edit_frame.specs.Reading.{frame_at}
use Rattle.edit_frame.proofs.Outcomes.{no_frame}
use Rattle.edit_frame.proofs.Frames.{frame_at_again, no_prefix}
use Rattle.audit_cert.specs.declared.fault.AuditFault.{AuditFault}
use Rattle.audit_cert.specs.declared.fault.AuditFault.TheVariants.{BadFrame, NotJournal, Differs, NoMemory}
use Rattle.audit_cert.specs.Audit.{is_end_frame, StartWith, IsFaultAt, IsAuditFault}

-- ---- one frame more

pub none_yet : (bytes : List ℕ) (frames : List Frame) → frames ≡ [] → StartWith bytes frames bytes
none_yet bytes frames none = subst (λ (fs : List Frame). StartWith bytes fs bytes) (sym none) (record { whole = refl; formed = refl; before_end = refl })

flat_last : (frames : List Frame) (f : Frame) → flat_map spelling (frames ++ f ∷ []) ≡ flat_map spelling frames ++ spelling f
flat_last frames f =
    flat_map-append spelling frames (f ∷ [])
    ∙ ap (λ (xs : List ℕ). flat_map spelling frames ++ xs) (flat_map-cons spelling f [] ∙ append-nil (spelling f))

pub one_more : (bytes rest behind : List ℕ) (frames : List Frame) (f : Frame) → StartWith bytes frames rest → rest ≡ spelling f ++ behind → is_frame f ≡ true → is_end_frame f ≡ false
    → StartWith bytes (frames ++ f ∷ []) behind
one_more bytes rest behind frames f start next formed other = record {
  whole = start.whole ∙ ap (λ (xs : List ℕ). flat_map spelling frames ++ xs) next
      ∙ sym (append_assoc (flat_map spelling frames) (spelling f) behind)
      ∙ ap (λ (xs : List ℕ). xs ++ behind) (sym (flat_last frames f));
  formed = list_all-append is_frame frames (f ∷ []) ∙ and_from (list_all is_frame frames) (is_frame f && true) start.formed (and_from (is_frame f) true formed refl);
  before_end = list_any-append is_end_frame frames (f ∷ []) ∙ ap (λ b. b || (is_end_frame f || false)) start.before_end ∙ ap (λ b. b || false) other;
}

pub broken_here : (bytes rest : List ℕ) (frames : List Frame) (fault : AuditFault) → StartWith bytes frames rest → IsFaultAt (length bytes - length rest) rest fault → IsAuditFault bytes fault
broken_here bytes rest frames (BadFrame fault) start at =
    let size = ap length start.whole ∙ length-append (flat_map spelling frames) rest in
    let place : length bytes - length rest ≡ length (flat_map spelling frames) = omega (arith, size) in
    record {
      frames = frames;
      rest = rest;
      prefix = start;
      place = at.0 ∙ place;
      kind = at.1;
    }
broken_here bytes rest frames (NotJournal k) start at = absurd at
broken_here bytes rest frames (Differs k) start at = absurd at
broken_here bytes rest frames NoMemory start at = tt

-- ---- one way alone

no_end : (f : Frame) → End ≡ f → is_end_frame f ≡ false → ⊥
no_end f is other = let yes : true ≡ is_end_frame f = ap is_end_frame is in cc

grouped : (f : Frame) (frames : List Frame) (rest : List ℕ) → flat_map spelling (f ∷ frames) ++ rest ≡ spelling f ++ (flat_map spelling frames ++ rest)
grouped f frames rest = ap (λ (xs : List ℕ). xs ++ rest) (flat_map-cons spelling f frames) ∙ append_assoc (spelling f) (flat_map spelling frames) rest

none_first : (f : Frame) (frames : List Frame) → list_any is_end_frame (f ∷ frames) ≡ false → (is_end_frame f ≡ false) × (list_any is_end_frame frames ≡ false)
none_first f frames h = or_parts (is_end_frame f) (list_any is_end_frame frames) h

pub one_closing : (fs gs : List Frame) (x y : List ℕ) → list_all is_frame fs ≡ true → list_all is_frame gs ≡ true → list_any is_end_frame fs ≡ false → list_any is_end_frame gs ≡ false
    → flat_map spelling fs ++ (spelling End ++ x) ≡ flat_map spelling gs ++ (spelling End ++ y) → (fs ≡ gs) × (x ≡ y)
one_closing [] [] x y hf hg ef eg h = (refl, (no_prefix End End x y refl refl h).1)
one_closing [] (g ∷ gs) x y hf hg ef eg h =
    let formed = and_parts (is_frame g) (list_all is_frame gs) hg in
    absurd (no_end g (no_prefix End g x (flat_map spelling gs ++ (spelling End ++ y)) refl formed.0 (h ∙ grouped g gs (spelling End ++ y))).0 (none_first g gs eg).0)
one_closing (f ∷ fs) [] x y hf hg ef eg h =
    let formed = and_parts (is_frame f) (list_all is_frame fs) hf in
    absurd (no_end f (no_prefix End f y (flat_map spelling fs ++ (spelling End ++ x)) refl formed.0 (sym h ∙ grouped f fs (spelling End ++ x))).0 (none_first f fs ef).0)
one_closing (f ∷ fs) (g ∷ gs) x y hf hg ef eg h =
    let pf = and_parts (is_frame f) (list_all is_frame fs) hf in
    let pg = and_parts (is_frame g) (list_all is_frame gs) hg in
    let first = no_prefix f g (flat_map spelling fs ++ (spelling End ++ x)) (flat_map spelling gs ++ (spelling End ++ y)) pf.0 pg.0
    (sym (grouped f fs (spelling End ++ x)) ∙ h ∙ grouped g gs (spelling End ++ y)) in
    let later = one_closing fs gs x y pf.1 pg.1 (none_first f fs ef).1 (none_first g gs eg).1 first.1 in
    (ap (λ (a : Frame). a ∷ fs) first.0 ∙ ap (λ (hs : List Frame). g ∷ hs) later.0, later.1)

-- a frame stands at what is read as a fault
no_fault : (f : Frame) (rest : List ℕ) (kind : FrameKind) → is_frame f ≡ true → frame_at (spelling f ++ rest) ≡ Err kind → ⊥
no_fault f rest kind formed fault = no_frame kind f (sym fault ∙ frame_at_again f rest formed)

pub not_broken : (fs gs : List Frame) (x rest : List ℕ) (kind : FrameKind) → list_all is_frame fs ≡ true → list_all is_frame gs ≡ true → list_any is_end_frame gs ≡ false
    → flat_map spelling fs ++ (spelling End ++ x) ≡ flat_map spelling gs ++ rest → frame_at rest ≡ Err kind → ⊥
not_broken [] [] x rest kind hf hg eg h fault = no_fault End x kind refl (ap frame_at h ∙ fault)
not_broken (f ∷ fs) [] x rest kind hf hg eg h fault =
    no_fault f (flat_map spelling fs ++ (spelling End ++ x)) kind (and_parts (is_frame f) (list_all is_frame fs) hf).0
    (ap frame_at (sym (grouped f fs (spelling End ++ x)) ∙ h) ∙ fault)
not_broken [] (g ∷ gs) x rest kind hf hg eg h fault =
    let formed = and_parts (is_frame g) (list_all is_frame gs) hg in
    no_end g (no_prefix End g x (flat_map spelling gs ++ rest) refl formed.0 (h ∙ grouped g gs rest)).0 (none_first g gs eg).0
not_broken (f ∷ fs) (g ∷ gs) x rest kind hf hg eg h fault =
    let pf = and_parts (is_frame f) (list_all is_frame fs) hf in
    let pg = and_parts (is_frame g) (list_all is_frame gs) hg in
    let first = no_prefix f g (flat_map spelling fs ++ (spelling End ++ x)) (flat_map spelling gs ++ rest) pf.0 pg.0
    (sym (grouped f fs (spelling End ++ x)) ∙ h ∙ grouped g gs rest) in
    not_broken fs gs x rest kind pf.1 pg.1 (none_first g gs eg).1 first.1 fault
