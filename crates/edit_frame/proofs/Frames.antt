-- A frame that is read is spelled so, and what is spelled so is read.
use Rattle.std.proofs.Common.{◌≡◌, ℕ, ◌+◌, ◌^◌, ◌<◌, ◌≤◌, Bool, true, false, cond, ◌&&◌, ◌||◌, not, ◌⊎◌, inl, inr, List, [], ◌∷◌, ◌++◌, length, take, drop, Option, Some, None, Result, Ok, refl, sym, ap, subst, ◌∙◌, append_assoc, arith}
use Rattle.std.specs.Prelude.{nat_lt, nat_le, ◌==◌, is_none, option_map}
use Rattle.std.specs.Int.{w32, from_be_bytes, to_be_bytes}
use Rattle.std.proofs.lemmas.Bool.{ltb-false, le-ltb, leb-false, eqb-true, eq-eqb, not-false, or_parts, and_parts, and_from}
use Rattle.std.proofs.lemmas.List.{append-nil, nil_from_length, take_at, drop_at, take-append-drop, length-append, length-take, length-drop, drop-drop}
use Rattle.coop_request.specs.declared.edit.Edit.{Edit}
use Rattle.coop_request.specs.declared.edit.Edit.TheVariants.{Insert, Delete, Update}
use Rattle.coop_request.specs.declared.request.RequestFault.{RequestFault}
use Rattle.coop_request.specs.declared.request.RequestFault.TheVariants.{BadVersion, StartTarget, StampOrder}
use Rattle.element_name.specs.Cases.{when}
use Rattle.element_name.proofs.CaseLemmas.{when-None, first_of-None}
use Rattle.coop_request.specs.Edit.{anchor_or_target, targets_start}
use Rattle.element_name.specs.declared.limits.TheConstants.{MAX_VERSION}
use Rattle.coop_request.specs.Request.{Request, request_fault}
use Rattle.policy_book.specs.Lists.{is_short, is_name}
use Rattle.edit_message.specs.Formed.{is_edit, is_request}
use Rattle.edit_message.specs.declared.message.Message.TheVariants.{Coop, Admin}
use Rattle.edit_frame.specs.declared.frame.Frame.{Frame}
use Rattle.edit_frame.specs.declared.frame.Frame.TheVariants.{Item, Turn, End}
use Rattle.edit_frame.specs.declared.frame.FrameKind.{FrameKind}
use Rattle.edit_frame.specs.declared.frame.FrameKind.TheVariants.{BadKind, BadField, LeftOver, BadRequest}
use Rattle.edit_frame.specs.Fields.{Field, constant, as_value}
use Rattle.edit_frame.specs.Reading.{request_at, entry_fields_at, other_at, is_kind, fault_or, request_frame, unless_left_over, frame_by, frame_of, length_field, cut_fault, inner, prefix_frame, frame_at, decoded_frame}
use Rattle.edit_frame.specs.Spelling.{request_fields, entry_fields, is_one_char, edit_version, edit_kind, version_of, kind_of, fields, body, spelling}
use Rattle.edit_frame.specs.Spells.{IsBytes, is_frame, Spells}
use Rattle.edit_frame.proofs.Readers.{IsBytes-drop, IsBytes-take, IsBytes-rest, chosen, TakesRows, no_rows, more_rows, row_of, row_constant, wide32}
use Rattle.edit_frame.proofs.Edits.{fits_version, fitting_version, fits_edit, fits_request, reads_request, edit_by_fit, fit_of_edit, reads_entry}
use Rattle.edit_frame.proofs.Outcomes.{good, bad, same_frame, no_frame}
use Rattle.edit_frame.proofs.Cut.{IsWhole, whole_by, by_whole}
use Rattle.edit_frame.proofs.Lengths.{short_body}

-- ---- what was read to its end

record IsEnded (A : Type 0) (more : Bool) (make : A → Result Frame FrameKind) (read : Field A) (f : Frame) : Type 0 where
  value : A
  found : read ≡ Some (value, [])
  alone : more ≡ false
  made : make value ≡ Ok f

over : (n : ℕ) (more : Bool) → (nat_lt 0 n || more) ≡ false → (n ≡ 0) × (more ≡ false)
over n more h =
    let p = or_parts (nat_lt 0 n) more h in
    let none : n ≤ 0 = ltb-false 0 n p.0 in
    (omega arith, p.1)

ended_ok : {A : Type 0} (more : Bool) (make : A → Result Frame FrameKind) (read : Field A) (f : Frame) → unless_left_over more make read ≡ Ok f → IsEnded A more make read f
ended_ok more make None f e = absurd (no_frame BadField f e)
ended_ok more make (Some x) f e = elim (chosen (nat_lt 0 (length x.1) || more) (bad LeftOver) (make x.0) (Ok f) e) [
  | inl c ↦ absurd (no_frame LeftOver f c.1)
  | inr c ↦ (
      let o = over (length x.1) more c.0 in
      let nothing : x.1 ≡ [] = nil_from_length x.1 o.0 in
      record { value = x.0; found = ap (λ (r : List ℕ). Some (x.0, r)) nothing; alone = o.1; made = c.1 })
]

accepted_by : (fault : Option RequestFault) (q : Request) (f : Frame) → fault_or (option_map BadRequest fault) (good (Item (Coop q))) ≡ Ok f → (is_none fault ≡ true) × (Item (Coop q) ≡ f)
accepted_by None q f e = (refl, same_frame _ _ e)
accepted_by (Some r) q f e = absurd (no_frame (BadRequest r) f e)

-- ---- frames that are no requests

other_rows : TakesRows Frame kind_of fields is_frame ((4, as_value (λ e. Item (Admin e)) entry_fields_at) ∷ (5, constant Turn) ∷ (6, constant End) ∷ [])
unfolding fields
other_rows =
    more_rows kind_of fields is_frame 4 _ _ (row_of (λ e. Item (Admin e)) 4 _ _ _ kind_of fields is_frame reads_entry (λ x. refl) (λ x. refl) (λ x. refl))
    (more_rows kind_of fields is_frame 5 _ _ (row_constant Turn 5 kind_of fields is_frame refl refl refl)
    (more_rows kind_of fields is_frame 6 _ _ (row_constant End 6 kind_of fields is_frame refl refl refl)
    (no_rows kind_of fields is_frame)))

few_kinds : (e : Edit) → 3 < edit_kind e → ⊥
few_kinds (Insert after p) h = omega arith
few_kinds (Delete target) h = omega arith
few_kinds (Update target p) h = omega arith

-- the version of a frame whose kind is above 3
version_above : (f : Frame) → 3 < kind_of f → version_of f ≡ 1
version_above (Item (Coop q)) h = absurd (few_kinds q.edit h)
version_above (Item (Admin e)) h = refl
version_above Turn h = refl
version_above End h = refl

version_1 : (v k : ℕ) → is_kind v k ≡ true → 3 < k → v ≡ 1
version_1 v k h g = grind arith

kind_above : (v k : ℕ) → is_kind v k ≡ true → nat_le k 3 ≡ false → (v ≡ 1) × (3 < k)
kind_above v k h g = (version_1 v k h (leb-false k 3 g), leb-false k 3 g)

versions : (v k : ℕ) → is_kind v k ≡ true → (v ≡ 1) ⊎ (v ≡ 2)
versions v k h = grind arith

version_of_delete : (v k : ℕ) → is_kind v k ≡ true → k ≡ 2 → v ≡ 1
version_of_delete v k h e = grind arith

-- ---- requests

version_by_fit : (v k : ℕ) (e : Edit) → is_kind v k ≡ true → edit_kind e ≡ k → fits_edit v e ≡ true → edit_version e ≡ v
version_by_fit v k (Insert after p) h ek g = fitting_version v p (versions v k h) (and_parts _ (fits_version v p) (and_parts (is_name after) _ g).1).1
version_by_fit v k (Delete target) h ek g = sym (version_of_delete v k h (sym ek))
version_by_fit v k (Update target p) h ek g = fitting_version v p (versions v k h) (and_parts _ (fits_version v p) (and_parts (is_name target) _ g).1).1

kind_by_piece : (b : Bool) (k : ℕ) → is_kind 1 k ≡ true → is_kind 2 k ≡ true → is_kind (cond b 1 2) k ≡ true
kind_by_piece true k one two = one
kind_by_piece false k one two = two

kind_by_edit : (e : Edit) → (is_kind (edit_version e) (edit_kind e) ≡ true) × (nat_le (edit_kind e) 3 ≡ true)
kind_by_edit (Insert after p) = (kind_by_piece (is_one_char p) 1 refl refl, refl)
kind_by_edit (Delete target) = (refl, refl)
kind_by_edit (Update target p) = (kind_by_piece (is_one_char p) 3 refl refl, refl)

-- ---- a frame of its version, kind and fields

pub record IsRead (more : Bool) (v k : ℕ) (bytes : List ℕ) (f : Frame) : Type 0 where
  pub version : version_of f ≡ v
  pub kind : kind_of f ≡ k
  pub spelled : bytes ≡ fields f
  pub formed : is_frame f ≡ true
  pub alone : more ≡ false

request_taken : (more : Bool) (v k : ℕ) (bytes : List ℕ) (f : Frame) → IsBytes bytes → is_kind v k ≡ true → unless_left_over more request_frame (request_at v k bytes) ≡ Ok f → IsRead more v k bytes f
unfolding fields
request_taken more v k bytes f fits h e =
    let a = ended_ok more request_frame (request_at v k bytes) f e in
    let q = a.value in
    let t = (reads_request v k).takes bytes (q, []) fits a.found in
    let m = accepted_by (request_fault q) q f a.made in
    let g = and_parts (is_name q.id) (is_short q.version && ((edit_kind q.edit == k) && fits_edit v q.edit)) t.1 in
    let i = and_parts (is_short q.version) ((edit_kind q.edit == k) && fits_edit v q.edit) g.1 in
    let j = and_parts (edit_kind q.edit == k) (fits_edit v q.edit) i.1 in
    let kind : edit_kind q.edit ≡ k = eqb-true (edit_kind q.edit) k j.0 in
    let version : edit_version q.edit ≡ v = version_by_fit v k q.edit h kind j.1 in
    let good_edit : is_edit q.edit ≡ true = edit_by_fit v q.edit j.1 in
    let range : is_request q ≡ true = and_from (is_name q.id) (is_edit q.edit && is_none (request_fault q)) g.0 (and_from (is_edit q.edit) (is_none (request_fault q)) good_edit m.0) in
    let made : IsRead more v k bytes (Item (Coop q)) = record { version = version; kind = kind; spelled = t.0.parts ∙ append-nil (request_fields q); formed = range; alone = a.alone } in
    subst (λ (g : Frame). IsRead more v k bytes g) m.1 made

other_taken : (more : Bool) (v k : ℕ) (bytes : List ℕ) (f : Frame) → IsBytes bytes → is_kind v k ≡ true → nat_le k 3 ≡ false → unless_left_over more (λ g. Ok g) (other_at k bytes) ≡ Ok f → IsRead more v k bytes f
unfolding other_at
other_taken more v k bytes f fits h big e =
    let a = ended_ok more (λ g. good g) (other_at k bytes) f e in
    let t = other_rows.takes k bytes (a.value, []) fits a.found in
    let u = kind_above v k h big in
    let up : 3 < kind_of a.value = subst (λ (n : ℕ). 3 < n) (sym t.0) u.1 in
    let made : IsRead more v k bytes a.value = record { version = version_above a.value up ∙ sym u.0; kind = t.0; spelled = t.1.parts ∙ append-nil (fields a.value); formed = t.2; alone = a.alone } in
    subst (λ (g : Frame). IsRead more v k bytes g) (same_frame a.value f a.made) made

pub frame_taken : (more : Bool) (v k : ℕ) (bytes : List ℕ) (f : Frame) → IsBytes bytes → frame_by more v k bytes ≡ Ok f → IsRead more v k bytes f
unfolding frame_by
frame_taken more v k bytes f fits e = elim (chosen (not (is_kind v k)) (bad BadKind) (cond (nat_le k 3) (unless_left_over more request_frame (request_at v k bytes)) (unless_left_over more (λ g. Ok g) (other_at k bytes))) (Ok f) e) [
  | inl c ↦ absurd (no_frame BadKind f c.1)
  | inr c ↦ elim (chosen (nat_le k 3) (unless_left_over more request_frame (request_at v k bytes)) (unless_left_over more (λ g. Ok g) (other_at k bytes)) (Ok f) c.1) [
    | inl d ↦ request_taken more v k bytes f fits (not-false (is_kind v k) c.0) d.1
    | inr d ↦ other_taken more v k bytes f fits (not-false (is_kind v k) c.0) d.0 d.1
  ]
]

none_is : (fault : Option RequestFault) → is_none fault ≡ true → fault ≡ None
none_is None h = refl
none_is (Some r) h = absurd cc

fault_free : (q : Request) → is_none (request_fault q) ≡ true → request_frame q ≡ Ok (Item (Coop q))
fault_free q h = ap (λ (r : Option RequestFault). fault_or (option_map BadRequest r) (good (Item (Coop q)))) (none_is (request_fault q) h)

-- an accepted request's version isn't above the greatest
few_by : (q : Request) → request_fault q ≡ None → nat_lt MAX_VERSION q.version ≡ false
few_by q h =
    let rows : List (Option RequestFault) = when (targets_start q.edit) StartTarget ∷ when (nat_le q.id.stamp (anchor_or_target q.edit).stamp) StampOrder ∷ [] in
    when-None (nat_lt MAX_VERSION q.version) BadVersion (first_of-None (when (nat_lt MAX_VERSION q.version) BadVersion) rows h).0

short_by : (n : ℕ) → nat_lt MAX_VERSION n ≡ false → nat_lt n (2 ^ 16) ≡ true
short_by n h = grind arith

-- an accepted request's version has two bytes
short_version : (q : Request) → is_none (request_fault q) ≡ true → is_short q.version ≡ true
short_version q h = short_by q.version (few_by q (none_is (request_fault q) h))

pub frame_again : (f : Frame) → is_frame f ≡ true → frame_by false (version_of f) (kind_of f) (fields f) ≡ Ok f
unfolding frame_by fields other_at
frame_again (Item (Coop q)) h =
    let a = and_parts (is_name q.id) (is_edit q.edit && is_none (request_fault q)) h in
    let b = and_parts (is_edit q.edit) (is_none (request_fault q)) a.1 in
    let v = edit_version q.edit in
    let k = edit_kind q.edit in
    let kinds = kind_by_edit q.edit in
    let fit : fits_request v k q ≡ true = and_from (is_name q.id) _ a.0 (and_from (is_short q.version) ((k == k) && fits_edit v q.edit) (short_version q b.1) (and_from (k == k) (fits_edit v q.edit) (eq-eqb k k refl) (fit_of_edit q.edit b.0))) in
    let read : request_at v k (request_fields q) ≡ Some (q, []) = ap (request_at v k) (sym (append-nil (request_fields q))) ∙ (reads_request v k).again q [] fit in
    rw (kinds.0, kinds.1, read) (fault_free q b.1)
frame_again (Item (Admin e)) h =
    let read : entry_fields_at (entry_fields e) ≡ Some (e, []) = ap entry_fields_at (sym (append-nil (entry_fields e))) ∙ reads_entry.again e [] h in
    rw read refl
frame_again Turn h = refl
frame_again End h = refl

-- ---- after the length field

inner_taken : (more : Bool) (xs : List ℕ) (f : Frame) → IsBytes xs → 2 ≤ length xs → frame_of more xs ≡ Ok f → (xs ≡ body f) × (is_frame f ≡ true) × (more ≡ false)
inner_taken more [] f fits l e = absurd (omega arith)
inner_taken more (v ∷ []) f fits l e = absurd (omega arith)
inner_taken more (v ∷ k ∷ bytes) f fits l e =
    let t = frame_taken more v k bytes f (IsBytes-rest k bytes (IsBytes-rest v (k ∷ bytes) fits)) e in
    (rw (t.version, t.kind, ← t.spelled) refl, t.formed, t.alone)

pub record HasPrefix (more : Bool) (bytes : List ℕ) (f : Frame) : Type 0 where
  pub split : bytes ≡ spelling f ++ drop (4 + length_field bytes) bytes
  pub formed : is_frame f ≡ true
  pub alone : more ≡ false
  pub len : length (spelling f) ≡ 4 + length_field bytes

prefix_by : (read : Result Frame FrameKind) (f : Frame) (fault : Option FrameKind) → fault_or fault read ≡ Ok f → (fault ≡ None) × (read ≡ Ok f)
prefix_by read f (Some k) e = absurd (no_frame k f e)
prefix_by read f None e = (refl, e)

four_more : (a b n : ℕ) → a ≡ 4 → b ≡ n → a + b ≡ 4 + n
four_more a b n h g = omega arith

pub prefix_taken : (more : Bool) (bytes : List ℕ) (f : Frame) → IsBytes bytes → prefix_frame more bytes ≡ Ok f → HasPrefix more bytes f
unfolding spelling
prefix_taken more bytes f fits e =
    let b = prefix_by (frame_of more (inner bytes)) f (cut_fault bytes) e in
    let w = whole_by bytes b.0 in
    let n = length_field bytes in
    let room : length (inner bytes) ≡ n = omega (arith, length-take n (drop 4 bytes), length-drop 4 bytes, w.room) in
    let two : 2 ≤ length (inner bytes) = omega (arith, w.low) in
    let t = inner_taken more (inner bytes) f (IsBytes-take n (drop 4 bytes) (IsBytes-drop 4 bytes fits)) two b.1 in
    let len : length (body f) ≡ n = ap length (sym t.0) ∙ room in
    let head : to_be_bytes w32 n ≡ take 4 bytes = wide32.back (take 4 bytes) (omega (arith, length-take 4 bytes, w.field)) (IsBytes-take 4 bytes fits) in
    let rest : inner bytes ++ drop (4 + n) bytes ≡ drop 4 bytes = ap (λ (r : List ℕ). inner bytes ++ r) (sym (drop-drop n 4 bytes)) ∙ take-append-drop n (drop 4 bytes) in
    let spelled : spelling f ≡ take 4 bytes ++ inner bytes = ap (λ (k : ℕ). to_be_bytes w32 k ++ body f) len ∙ ap (λ (x : List ℕ). x ++ body f) head ∙ ap (λ (x : List ℕ). take 4 bytes ++ x) (sym t.0) in
    let whole : (take 4 bytes ++ inner bytes) ++ drop (4 + n) bytes ≡ bytes = append_assoc (take 4 bytes) (inner bytes) (drop (4 + n) bytes) ∙ ap (λ (x : List ℕ). take 4 bytes ++ x) rest ∙ take-append-drop 4 bytes in
    record {
      split = sym whole ∙ ap (λ (x : List ℕ). x ++ drop (4 + n) bytes) (sym spelled);
      formed = t.1;
      alone = t.2;
      len = ap length spelled ∙ length-append (take 4 bytes) (inner bytes) ∙ four_more (length (take 4 bytes)) (length (inner bytes)) n (omega (arith, length-take 4 bytes, w.field)) room;
    }

-- ---- a spelling is read again

pub record IsAgain (f : Frame) (rest : List ℕ) : Type 0 where
  pub field : length_field (spelling f ++ rest) ≡ length (body f)
  pub inside : inner (spelling f ++ rest) ≡ body f
  pub whole : IsWhole (spelling f ++ rest)

sum_up : (a b n r : ℕ) → a ≡ 4 → b ≡ n + r → a + b ≡ 4 + (n + r)
sum_up a b n r h g = omega arith

pub spelled_again : (f : Frame) (rest : List ℕ) → is_frame f ≡ true → IsAgain f rest
unfolding spelling
spelled_again f rest h =
    let n = length (body f) in
    let high : n ≤ 276 = short_body f h in
    let low : 2 ≤ n = omega arith in
    let head : List ℕ = to_be_bytes w32 n in
    let len : length head ≡ 4 = wide32.len n in
    let grouped : spelling f ++ rest ≡ head ++ (body f ++ rest) = append_assoc head (body f) rest in
    let taken : take 4 (spelling f ++ rest) ≡ head = ap (take 4) grouped ∙ take_at head (body f ++ rest) 4 len in
    let left : drop 4 (spelling f ++ rest) ≡ body f ++ rest = ap (drop 4) grouped ∙ drop_at head (body f ++ rest) 4 len in
    let field : length_field (spelling f ++ rest) ≡ n = ap (from_be_bytes w32) taken ∙ wide32.again n (omega arith) in
    let inside : inner (spelling f ++ rest) ≡ body f = ap (λ (k : ℕ). take k (drop 4 (spelling f ++ rest))) field ∙ ap (take n) left ∙ take_at (body f) rest n refl in
    let size : length (spelling f ++ rest) ≡ 4 + (n + length rest) = ap length grouped ∙ length-append head (body f ++ rest) ∙ sum_up (length head) (length (body f ++ rest)) n (length rest) len (length-append (body f) rest) in
    record {
      field = field;
      inside = inside;
      whole = record { field = omega arith; low = omega arith; high = omega arith; room = omega arith };
    }

pub prefix_again : (f : Frame) (rest : List ℕ) → is_frame f ≡ true → prefix_frame false (spelling f ++ rest) ≡ Ok f
prefix_again f rest h =
    let a = spelled_again f rest h in
    ap (λ (k : Option FrameKind). fault_or k (frame_of false (inner (spelling f ++ rest)))) (by_whole (spelling f ++ rest) a.whole) ∙ ap (frame_of false) a.inside ∙ frame_again f h

-- ---- the two readings

pub frame_at_taken : (bytes : List ℕ) (f : Frame) → IsBytes bytes → frame_at bytes ≡ Ok f → HasPrefix false bytes f
unfolding frame_at
frame_at_taken bytes f fits e = prefix_taken false bytes f fits e

pub frame_at_again : (f : Frame) (rest : List ℕ) → is_frame f ≡ true → frame_at (spelling f ++ rest) ≡ Ok f
unfolding frame_at
frame_at_again f rest h = prefix_again f rest h

ended_by : (n : ℕ) (bytes : List ℕ) → nat_lt n (length bytes) ≡ false → drop n bytes ≡ []
ended_by n bytes h = nil_from_length (drop n bytes) (omega (arith, length-drop n bytes, ltb-false n (length bytes) h))

pub decoded_spells : (bytes : List ℕ) (f : Frame) → IsBytes bytes → decoded_frame bytes ≡ Ok f → Spells bytes f
unfolding decoded_frame
decoded_spells bytes f fits e =
    let t = prefix_taken (nat_lt (4 + length_field bytes) (length bytes)) bytes f fits e in
    let nothing : drop (4 + length_field bytes) bytes ≡ [] = ended_by (4 + length_field bytes) bytes t.alone in
    record { spelled = t.split ∙ ap (λ (r : List ℕ). spelling f ++ r) nothing ∙ append-nil (spelling f); formed = t.formed }

length_again : (f : Frame) → is_frame f ≡ true → length (spelling f) ≡ 4 + length (body f)
unfolding spelling
length_again f h = length-append (to_be_bytes w32 (length (body f))) (body f)

pub decoded_again : (bytes : List ℕ) (f : Frame) → Spells bytes f → decoded_frame bytes ≡ Ok f
unfolding decoded_frame
decoded_again bytes f s =
    let same : bytes ≡ spelling f ++ [] = s.spelled ∙ sym (append-nil (spelling f)) in
    let a = spelled_again f [] s.formed in
    let field : length_field bytes ≡ length (body f) = ap length_field same ∙ a.field in
    let size : length bytes ≡ 4 + length (body f) = ap length s.spelled ∙ length_again f s.formed in
    let alone : nat_lt (4 + length_field bytes) (length bytes) ≡ false = le-ltb (4 + length_field bytes) (length bytes) (omega arith) in
    rw alone (ap (prefix_frame false) same ∙ prefix_again f [] s.formed)

-- ---- one spelling for each frame, and none before another

pub one_frame : (bytes : List ℕ) (f g : Frame) → Spells bytes f → Spells bytes g → f ≡ g
one_frame bytes f g s t = same_frame f g (sym (decoded_again bytes f s) ∙ decoded_again bytes g t)

pub no_prefix : (f g : Frame) (x y : List ℕ) → is_frame f ≡ true → is_frame g ≡ true → spelling f ++ x ≡ spelling g ++ y → (f ≡ g) × (x ≡ y)
no_prefix f g x y hf hg e =
    let same : f ≡ g = same_frame f g (sym (frame_at_again f x hf) ∙ ap frame_at e ∙ frame_at_again g y hg) in
    let e2 : spelling g ++ x ≡ spelling g ++ y = subst (λ (h : Frame). spelling h ++ x ≡ spelling g ++ y) same e in
    (same, sym (drop_at (spelling g) x (length (spelling g)) refl) ∙ ap (drop (length (spelling g))) e2 ∙ drop_at (spelling g) y (length (spelling g)) refl)
