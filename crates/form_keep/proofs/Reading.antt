-- What was read of a source, and how reading ends.
use Rattle.std.proofs.Common.{◌≡◌, ◌≢◌, ◌⊎◌, inl, inr, ℕ, ◌+◌, ◌-◌, ◌<◌, ◌≤◌, Bool, true, false, List, [], ◌∷◌, ◌++◌, Option, Some, None, length, take, drop, get_or, refl, sym, ap, ◌∙◌, subst, arith, append_assoc, append-nil}
use Rattle.std.specs.Io.KnownBytes.{Consumes, IsAtEnd, Keeps}
use Rattle.std.proofs.KnownBytes.{Consumes-nil, Consumes-trans, Consumes-kept}
use Rattle.std.proofs.lemmas.Bool.Decides.{nat_tests}
use Rattle.std.proofs.lemmas.List.{length-append, take_all, take_at}
use Rattle.line_spelling.specs.declared.signs.TheConstants.{LINE_END}
use Rattle.line_engine.specs.declared.limits.TheConstants.{MAX_INPUT}
use Rattle.line_spelling.specs.declared.line.TheConstants.{MAX_LINE}
use Rattle.line_engine.specs.Input.{is_cut, counted_bytes, lines_of}
use Rattle.line_engine.specs.Rest.{NoLf}
use Rattle.line_engine.specs.Engine.{Told, Reads}
use Rattle.line_engine.proofs.Bytes.{left_known, told_read, counted_read}
use Rattle.line_engine.proofs.LineRuns.{lines_cut_rest, no_lf_take, no_lf_all}
use Rattle.peer_step.specs.declared.step.Step.{Step}
use Rattle.line_read.specs.Step.{step_line}
use Rattle.line_input.specs.declared.reading.InputEnd.TheVariants as ends
use Rattle.line_input.specs.Steps.{good_steps, first_bad, input_lines, steps_of, end_at}
use Rattle.form_keep.specs.declared.stopped.Stopped.{Stopped}
use Rattle.form_keep.specs.declared.stopped.Stopped.TheVariants.{BadLine, TooLong, ReadFault, WriteFault, NoMemory, DiskFault, BadStore, StoreFull}
use Rattle.form_keep.specs.declared.reader.StepReader.{StepReader}
use Rattle.form_keep.specs.Reader.{unread, EndsAt, IsLine, RefillStops, MayFollow, StepsRead, StepsEnd, StepsStop}
use Rattle.form_keep.proofs.StepLines.{good_first, good_number, bad_first, bad_number, step_begins, bad_begins}

known_end : (a : Option (List ℕ)) → IsAtEnd a → left_known a ≡ []
known_end None e = refl
known_end (Some x) e = e

not_cut : (bytes : List ℕ) → length bytes ≤ MAX_INPUT → is_cut bytes ≡ false
not_cut bytes le = grind (arith, nat_tests)

cut_at : (bytes : List ℕ) → MAX_INPUT < length bytes → is_cut bytes ≡ true
cut_at bytes lt = grind (arith, nat_tests)

-- nothing was read yet
pub unread_source : (left : Option (List ℕ)) (r : StepReader) → unread r ≡ [] → r.count ≡ 0 → r.number ≡ 1 → r.ended ≡ false → StepsRead left left r []
unread_source left r none count number ended = record {
  read = [];
  consumed = Consumes-nil left;
  size = sym count;
  at_end = λ e. absurd (let is : true ≡ false = sym e ∙ ended in cc);
  lists = λ cut more may. ap (λ (l : List ℕ). good_steps (lines_of cut (l ++ more))) (sym none);
  numbers = λ cut more may. ap (λ (k : ℕ). first_bad k (lines_of cut more)) (sym number) ∙ ap (λ (l : List ℕ). first_bad r.number (lines_of cut (l ++ more))) (sym none);
}

module _ (left now : Option (List ℕ)) (r : StepReader) (steps : List Step) (so_far : StepsRead left now r steps) where
  -- ---- the input that was begun

  abbrev input : List ℕ
  input = so_far.read ++ left_known now

  -- what follows what was read in the part that counts
  abbrev later : List ℕ
  later = take (MAX_INPUT - length so_far.read) (left_known now)

  short : length so_far.read ≤ MAX_INPUT
  short = omega (arith, so_far.size, r.few)

  counted : counted_bytes input ≡ so_far.read ++ later
  counted = counted_read so_far.read (left_known now) MAX_INPUT short

  follows : MayFollow r.ended (is_cut input) later
  follows = by r.ended (λ e. so_far.at_end e)
    where
      by : (ended : Bool) → (ended ≡ true → IsAtEnd now) → MayFollow ended (is_cut input) later
      by false end = tt
      by true end =
          let none : left_known now ≡ [] = known_end now (end refl) in
          let same : input ≡ so_far.read = ap (λ (l : List ℕ). so_far.read ++ l) none ∙ append-nil so_far.read in
          (ap is_cut same ∙ not_cut so_far.read short, ap (take (MAX_INPUT - length so_far.read)) none ∙ take_all (MAX_INPUT - length so_far.read) [] (omega arith))

  told : Told left input
  told = told_read left now so_far.read so_far.consumed

  reads : Reads left now
  reads = record { read = so_far.read; consumed = so_far.consumed; bounded = omega (arith, short) }

  steps_are : steps_of input ≡ steps ++ good_steps (lines_of (is_cut input) (unread r ++ later))
  steps_are = ap (λ (l : List ℕ). good_steps (lines_of (is_cut input) l)) counted ∙ so_far.lists (is_cut input) later follows

  bad_is : first_bad 1 (input_lines input) ≡ first_bad r.number (lines_of (is_cut input) (unread r ++ later))
  bad_is = ap (λ (l : List ℕ). first_bad 1 (lines_of (is_cut input) l)) counted ∙ so_far.numbers (is_cut input) later follows

  -- the steps are the first ones of an input
  pub begun : (bytes : List ℕ) × Told left bytes × ((others : List Step) × (steps_of bytes ≡ steps ++ others))
  begun = (input, told, (good_steps (lines_of (is_cut input) (unread r ++ later)), steps_are))

  pub read_so_far : Reads left now
  read_so_far = reads

  -- ---- a line is passed

  pub passed : (next : StepReader) (step : Step) (len : ℕ) → IsLine r len → 0 < length (unread r) → step_line (take len (unread r)) ≡ Some step
      → unread next ≡ drop (len + 1) (unread r) → next.number ≡ r.number + 1 → next.count ≡ r.count → next.ended ≡ r.ended → StepsRead left now next (steps ++ step ∷ [])
  passed next step len line some said behind number count ended = record {
    read = so_far.read;
    consumed = so_far.consumed;
    size = so_far.size ∙ sym count;
    at_end = λ e. so_far.at_end (sym ended ∙ e);
    lists = λ cut more may. so_far.lists cut more (may_before cut more may)
        ∙ ap (λ (ls : List (List ℕ)). steps ++ good_steps ls) (begins cut more (may_before cut more may))
        ∙ ap (λ (xs : List Step). steps ++ xs) (good_first (take len (unread r)) (lines_of cut (unread next ++ more)) step said)
        ∙ sym (append_assoc steps (step ∷ []) (good_steps (lines_of cut (unread next ++ more))));
    numbers = λ cut more may. so_far.numbers cut more (may_before cut more may)
        ∙ ap (first_bad r.number) (begins cut more (may_before cut more may))
        ∙ good_number r.number (take len (unread r)) (lines_of cut (unread next ++ more)) step said
        ∙ ap (λ (k : ℕ). first_bad k (lines_of cut (unread next ++ more))) (sym number);
  }
    where
      may_before : (cut : Bool) (more : List ℕ) → MayFollow next.ended cut more → MayFollow r.ended cut more
      may_before cut more may = subst (λ (b : Bool). MayFollow b cut more) ended may

      begins : (cut : Bool) (more : List ℕ) → MayFollow r.ended cut more → lines_of cut (unread r ++ more) ≡ take len (unread r) ∷ lines_of cut (unread next ++ more)
      begins cut more may =
          step_begins (unread r) len r.ended cut more step line.no_lf some may line.stop said
          ∙ ap (λ (l : List ℕ). take len (unread r) ∷ lines_of cut (l ++ more)) (sym behind)

  -- ---- more is read

  pub read_more : (then : Option (List ℕ)) (next : StepReader) (chunk : List ℕ) (n : ℕ) → Consumes now then chunk → length chunk ≡ n → r.ended ≡ false
      → unread next ≡ unread r ++ chunk → next.number ≡ r.number → next.count ≡ r.count + n → next.ended ≡ r.ended → StepsRead left then next steps
  read_more then next chunk n took size going held number count ended = record {
    read = so_far.read ++ chunk;
    consumed = Consumes-trans left now then so_far.read chunk so_far.consumed took;
    size = omega (arith, length-append so_far.read chunk, so_far.size);
    at_end = λ e. absurd (let is : true ≡ false = sym e ∙ ended ∙ going in cc);
    lists = λ cut more may. ap (λ (l : List ℕ). good_steps (lines_of cut l)) (append_assoc so_far.read chunk more)
        ∙ so_far.lists cut (chunk ++ more) (any cut (chunk ++ more))
        ∙ ap (λ (l : List ℕ). steps ++ good_steps (lines_of cut l)) (joined more);
    numbers = λ cut more may. ap (λ (l : List ℕ). first_bad 1 (lines_of cut l)) (append_assoc so_far.read chunk more)
        ∙ so_far.numbers cut (chunk ++ more) (any cut (chunk ++ more))
        ∙ ap (λ (l : List ℕ). first_bad r.number (lines_of cut l)) (joined more)
        ∙ ap (λ (k : ℕ). first_bad k (lines_of cut (unread next ++ more))) (sym number);
  }
    where
      any : (cut : Bool) (more : List ℕ) → MayFollow r.ended cut more
      any cut more = subst (λ (b : Bool). MayFollow b cut more) (sym going) tt

      joined : (more : List ℕ) → unread r ++ (chunk ++ more) ≡ unread next ++ more
      joined more = sym (append_assoc (unread r) chunk more) ∙ ap (λ (l : List ℕ). l ++ more) (sym held)

  -- ---- reading ends

  -- all lines were passed
  pub whole : r.ended ≡ true → unread r ≡ [] → StepsEnd left now steps ends.Whole
  whole ended none = record {
    input = input;
    ends = record {
      told = told;
      ends = λ a b. sym (ap (end_at (is_cut input)) no_bad ∙ ap (λ (cut : Bool). end_at cut None) uncut);
      lists = λ a b. sym (all ∙ append-nil steps);
      begins = λ e. absurd (cc e);
      at_end = λ e. so_far.at_end ended;
      read_fault = λ e. absurd (cc e);
    };
    others = [];
    first = all;
    reads = reads;
  }
    where
      may : MayFollow true (is_cut input) later
      may = subst (λ (b : Bool). MayFollow b (is_cut input) later) ended follows

      uncut : is_cut input ≡ false
      uncut = may.0

      no_line : lines_of (is_cut input) (unread r ++ later) ≡ []
      no_line = ap (λ (cut : Bool). lines_of cut (unread r ++ later)) uncut ∙ ap (λ (l : List ℕ). lines_of false (l ++ later)) none ∙ ap (lines_of false) may.1

      all : steps_of input ≡ steps ++ []
      all = steps_are ∙ ap (λ (ls : List (List ℕ)). steps ++ good_steps ls) no_line

      no_bad : first_bad 1 (input_lines input) ≡ None
      no_bad = bad_is ∙ ap (first_bad r.number) no_line

  -- a line is bad
  pub bad : (len : ℕ) → IsLine r len → 0 < length (unread r) → step_line (take len (unread r)) ≡ None → StepsEnd left now steps (ends.BadLine r.number)
  bad len line some said = record {
    input = input;
    ends = record {
      told = told;
      ends = λ a b. sym (ap (end_at (is_cut input)) (bad_is ∙ ap (first_bad r.number) first.2 ∙ bad_number r.number first.0 first.1 first.3));
      lists = λ a b. sym (all ∙ append-nil steps);
      begins = λ e. absurd (cc e);
      at_end = λ e. absurd (cc e);
      read_fault = λ e. absurd (cc e);
    };
    others = [];
    first = all;
    reads = reads;
  }
    where
      first : (line : List ℕ) × (others : List (List ℕ)) × (lines_of (is_cut input) (unread r ++ later) ≡ line ∷ others) × (step_line line ≡ None)
      first = bad_begins (unread r) len r.ended (is_cut input) later line.no_lf some follows line.stop said

      all : steps_of input ≡ steps ++ []
      all = steps_are ∙ ap (λ (ls : List (List ℕ)). steps ++ good_steps ls) first.2 ∙ ap (λ (xs : List Step). steps ++ xs) (bad_first first.0 first.1 first.3)

  -- nothing is said
  pub untold : (then : Option (List ℕ)) → Reads left then → Told left input → StepsEnd left then steps ends.NoMemory
  untold then bounded has = record {
    input = input;
    ends = record {
      told = has;
      ends = λ a b. absurd (b refl);
      lists = λ a b. absurd (b refl);
      begins = λ e. (good_steps (lines_of (is_cut input) (unread r ++ later)), sym steps_are);
      at_end = λ e. absurd (cc e);
      read_fault = λ e. absurd (cc e);
    };
    others = good_steps (lines_of (is_cut input) (unread r ++ later));
    first = steps_are;
    reads = bounded;
  }

  pub no_memory : StepsEnd left now steps ends.NoMemory
  no_memory = untold now reads told

  -- ---- reading stops where nothing whole is left

  module _ (going : r.ended ≡ false) (no_lf : NoLf (unread r)) (few : length (unread r) ≤ MAX_LINE) where
    any : (cut : Bool) (more : List ℕ) → MayFollow r.ended cut more
    any cut more = subst (λ (b : Bool). MayFollow b cut more) (sym going) tt

    no_line : lines_of true (unread r ++ []) ≡ []
    no_line = ap (lines_of true) (append-nil (unread r)) ∙ lines_cut_rest (unread r) no_lf few

    lists_here : good_steps (lines_of true so_far.read) ≡ steps
    lists_here = ap (λ (l : List ℕ). good_steps (lines_of true l)) (sym (append-nil so_far.read)) ∙ so_far.lists true [] (any true [])
        ∙ ap (λ (ls : List (List ℕ)). steps ++ good_steps ls) no_line ∙ append-nil steps

    none_bad : first_bad 1 (lines_of true so_far.read) ≡ None
    none_bad = ap (λ (l : List ℕ). first_bad 1 (lines_of true l)) (sym (append-nil so_far.read)) ∙ so_far.numbers true [] (any true []) ∙ ap (first_bad r.number) no_line

    -- the source failed
    failed : StepsEnd left now steps ends.ReadFault
    failed = record {
      input = input;
      ends = record {
        told = told;
        ends = λ a b. absurd (a refl);
        lists = λ a b. absurd (a refl);
        begins = λ e. absurd (cc e);
        at_end = λ e. absurd (cc e);
        read_fault = λ e. (so_far.read, so_far.consumed, short, none_bad, sym lists_here);
      };
      others = good_steps (lines_of (is_cut input) (unread r ++ later));
      first = steps_are;
      reads = reads;
    }

    -- one byte more came than counts
    cut_off : (then : Option (List ℕ)) (chunk : List ℕ) → Consumes now then chunk → length chunk ≡ 1 → r.count ≡ MAX_INPUT → StepsEnd left then steps ends.TooLong
    cut_off then chunk took one full =
        let consumed = Consumes-trans left now then so_far.read chunk so_far.consumed took in
        let rest = left_known then in
        let bytes = (so_far.read ++ chunk) ++ rest in
        let size : length bytes ≡ (length so_far.read + length chunk) + length rest = simp length-append in
        let long : MAX_INPUT < length bytes = omega (arith, size, so_far.size) in
        let cut : is_cut bytes ≡ true = cut_at bytes long in
        let counts : counted_bytes bytes ≡ so_far.read = ap (take MAX_INPUT) (append_assoc so_far.read chunk rest) ∙ take_at so_far.read (chunk ++ rest) MAX_INPUT (so_far.size ∙ full) in
        let lines : input_lines bytes ≡ lines_of true so_far.read = ap (λ (b : Bool). lines_of b (counted_bytes bytes)) cut ∙ ap (lines_of true) counts in
        record {
          input = bytes;
          ends = record {
            told = told_read left then (so_far.read ++ chunk) consumed;
            ends = λ a b. sym (ap (end_at (is_cut bytes)) (ap (first_bad 1) lines ∙ none_bad) ∙ ap (λ (b : Bool). end_at b None) cut);
            lists = λ a b. sym (ap good_steps lines ∙ lists_here);
            begins = λ e. absurd (cc e);
            at_end = λ e. absurd (cc e);
            read_fault = λ e. absurd (cc e);
          };
          others = [];
          first = ap good_steps lines ∙ lists_here ∙ sym (append-nil steps);
          reads = record { read = so_far.read ++ chunk; consumed = consumed; bounded = omega (arith, length-append so_far.read chunk, short) };
        }

    no_room : (then : Option (List ℕ)) (chunk : List ℕ) → Consumes now then chunk → r.count + length chunk ≤ MAX_INPUT + 1 → StepsEnd left then steps ends.NoMemory
    no_room then chunk took le =
        let consumed = Consumes-trans left now then so_far.read chunk so_far.consumed took in
        untold then (record { read = so_far.read ++ chunk; consumed = consumed; bounded = omega (arith, length-append so_far.read chunk, so_far.size) }) told

-- a failed read takes nothing
kept_read : (left now then : Option (List ℕ)) (r : StepReader) (steps : List Step) → StepsRead left now r steps → r.ended ≡ false → Keeps now then → StepsRead left then r steps
kept_read left now then r steps so_far going kept = record {
  read = so_far.read;
  consumed = Consumes-kept left now then so_far.read so_far.consumed kept;
  size = so_far.size;
  at_end = λ e. absurd (let is : true ≡ false = sym e ∙ going in cc);
  lists = so_far.lists;
  numbers = so_far.numbers;
}

stops : (left now then : Option (List ℕ)) (r : StepReader) (steps : List Step) → StepsRead left now r steps → r.ended ≡ false → NoLf (unread r) → length (unread r) ≤ MAX_LINE
    → (stopped : Stopped) → RefillStops stopped r.count now then → StepsStop left then steps stopped
stops left now then r steps so_far going no_lf few TooLong h = cut_off left now r steps so_far going no_lf few then h.1.0 h.1.1 h.1.2 h.0
stops left now then r steps so_far going no_lf few ReadFault h = failed left then r steps (kept_read left now then r steps so_far going h) going no_lf few
stops left now then r steps so_far going no_lf few NoMemory h = no_room left now r steps so_far going no_lf few then h.0 h.1 h.2
stops left now then r steps so_far going no_lf few (BadLine number) h = absurd h
stops left now then r steps so_far going no_lf few WriteFault h = absurd h
stops left now then r steps so_far going no_lf few DiskFault h = absurd h
stops left now then r steps so_far going no_lf few (BadStore offset) h = absurd h
stops left now then r steps so_far going no_lf few StoreFull h = absurd h

-- ---- the next line

-- it ends by a line end
pub found_line : (r : StepReader) (rest : List ℕ) (len : ℕ) → rest ≡ unread r → len < length rest → get_or rest len 0 ≡ LINE_END → ((k : ℕ) → k < len → get_or rest k 0 ≢ LINE_END) → IsLine r len
found_line r rest len same lt found first = record {
  within = omega (arith, here);
  no_lf = no_lf_take (unread r) len (subst (λ (l : List ℕ). (k : ℕ) → k < len → get_or l k 0 ≢ LINE_END) same first);
  stop = inl (here, subst (λ (l : List ℕ). get_or l len 0 ≡ LINE_END) same found);
}
  where
    here : len < length (unread r)
    here = subst (λ (l : List ℕ). len < length l) same lt

no_lf_in : (r : StepReader) (rest : List ℕ) → rest ≡ unread r → ((k : ℕ) → k < length rest → get_or rest k 0 ≢ LINE_END) → NoLf (unread r)
no_lf_in r rest same none = no_lf_all (unread r) (subst (λ (l : List ℕ). (k : ℕ) → k < length l → get_or l k 0 ≢ LINE_END) same none)

-- it is all that is left
pub whole_line : (r : StepReader) (rest : List ℕ) → rest ≡ unread r → ((k : ℕ) → k < length rest → get_or rest k 0 ≢ LINE_END) → (r.ended ≡ true) ⊎ (MAX_LINE < length rest) → IsLine r (length rest)
whole_line r rest same none either = record {
  within = omega (arith, size);
  no_lf = subst NoLf (sym (take_all (length rest) (unread r) (omega (arith, size)))) (no_lf_in r rest same none);
  stop = inr (size, either);
}
  where
    size : length rest ≡ length (unread r)
    size = ap length same

-- where nothing is left the source has ended
pub ended_there : (r : StepReader) (len : ℕ) → IsLine r len → length (unread r) ≤ 0 → r.ended ≡ true
ended_there r len line none = by line.stop
  where
    by : EndsAt (unread r) r.ended len → r.ended ≡ true
    by (inl h) = let lt : len < length (unread r) = h.0 in absurd (omega (arith, lt))
    by (inr (all, inl e)) = e
    by (inr (all, inr long)) = absurd (omega (arith, all, long))

-- reading stops where no line end is left
pub refill_stops : (left now then : Option (List ℕ)) (r : StepReader) (steps : List Step) (rest : List ℕ) → StepsRead left now r steps → r.ended ≡ false → rest ≡ unread r
    → ((k : ℕ) → k < length rest → get_or rest k 0 ≢ LINE_END) → length rest ≤ MAX_LINE → (stopped : Stopped) → RefillStops stopped r.count now then → StepsStop left then steps stopped
refill_stops left now then r steps rest so_far going same none few stopped h =
    let size : length rest ≡ length (unread r) = ap length same in
    stops left now then r steps so_far going (no_lf_in r rest same none) (omega (arith, size)) stopped h

-- the bytes of the next line
pub part_is : (seen items : List ℕ) (at len : ℕ) → seen ≡ items → take (at + len - at) (drop at seen) ≡ take len (drop at items)
part_is seen items at len e = ap (λ (n : ℕ). take n (drop at seen)) (let n_is : at + len - at ≡ len = omega arith in n_is) ∙ ap (λ (l : List ℕ). take len (drop at l)) e
