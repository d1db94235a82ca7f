-- How the form that feeds a stream goes from one state to the next, and how it ends.
use Rattle.std.proofs.Common.{◌≡◌, ℕ, ◌<◌, true, false, List, [], ◌++◌, length, Ok, Err, refl, sym, ap, subst, ◌∙◌}
use Rattle.std.specs.Prelude.{OnOk, is_ok}
use Rattle.std.specs.Result.{result_or}
use Rattle.std.specs.declared.result.Result.{Result}
use Rattle.std.proofs.lemmas.Bool.{true≢false}
use Rattle.line_engine.specs.declared.status.Status.TheVariants.{Done, BadInput, TooLong}
use Rattle.line_engine.specs.Output.{too_long_text}
use Rattle.line_engine.specs.Form.{Meaning, Follows, IsBad, Rests}
use Rattle.line_engine.proofs.Pumping.{after_none}
use Rattle.line_engine.proofs.LineRuns.{written_is}
use Rattle.edit_frame.specs.declared.frame.Frame.{Frame}
use Rattle.edit_frame.specs.declared.frame.FrameFault.{FrameFault}
use Rattle.edit_frame.specs.declared.frame.FrameKind.TheVariants.{Truncated}
use Rattle.edit_frame.specs.Reading.{frame_at}
use Rattle.edit_frame.specs.Splitter.{Splitter, past_frame, IsWaiting, is_truncated}
use Rattle.report_text.specs.Frame.{frame_fault_line}
use Rattle.form_feed.specs.declared.feeding.Feeding.{Feeding}
use Rattle.form_feed.specs.Stream.{FrameTurn, stream_part}
use Rattle.form_feed.specs.Form.{feed_meaning}
use Rattle.form_feed.proofs.Outputs.{output_prefix, part_prefix, after_prefix, output_bad, after_bad, output_cut, output_short, output_end, part_waits, after_waits}

-- where a call's failure is told as another, and there is none, what its success says is so
pub where_ok : {A E F : Type 0} {P : Type 0} (call : Result A E) (told : Result A F) (fail : F) (value : A)
    → told ≡ result_or call (Err fail) → told ≡ Ok value → OnOk call P → P
where_ok (Ok x) told fail value by_or was so = so
where_ok (Err x) told fail value by_or was so = absurd (true≢false (ap is_ok (sym was ∙ by_or)))

abbrev feeding : {I : Type 0} → I → Splitter → Feeding I
feeding i s = record { intake = i; splitter = s }

-- a form is its intake and its splitter
same_feeding : {I : Type 0} (f : Feeding I) (i : I) (s : Splitter) → f.intake ≡ i → f.splitter ≡ s → f ≡ feeding i s
same_feeding f i s a b = ap (λ j. feeding j f.splitter) a ∙ ap (feeding i) b

module _ {I : Type 0} (turn : I → Frame → FrameTurn I) (lines : I → List ℕ) where
  abbrev meaning : Meaning (Feeding I)
  meaning = feed_meaning turn lines

  -- ---- a frame is taken in

  taken : (old : Feeding I) (f : Frame) → frame_at old.splitter.rest ≡ Ok f
      → Follows meaning old (feeding (turn old.intake f).after (past_frame old.splitter)) [] (turn old.intake f).reply
  taken old f e =
      let rest = old.splitter.rest in
      record {
        outputs = λ cut more. output_prefix turn lines cut old.intake old.splitter.offset rest more f e;
        parts = λ more. part_prefix turn lines old.intake rest more f e;
        ends = λ cut more last left. left ∙ sym (after_prefix turn lines old.intake rest more f e);
      }

  pub follows_frame : (old new : Feeding I) (f : Frame) (before reply : List ℕ) → frame_at old.splitter.rest ≡ Ok f → new.splitter ≡ past_frame old.splitter
      → new.intake ≡ (turn old.intake f).after → reply ≡ before ++ (turn old.intake f).reply → before ≡ [] → Follows meaning old new [] reply
  follows_frame old new f before reply e splitter intake reply_is none =
      let reply_now : reply ≡ (turn old.intake f).reply = reply_is ∙ ap (λ (l : List ℕ). l ++ (turn old.intake f).reply) none in
      subst (λ (l : List ℕ). Follows meaning old new [] l) (sym reply_now)
      (subst (λ (g : Feeding I). Follows meaning old g [] (turn old.intake f).reply) (sym (same_feeding new _ _ intake splitter)) (taken old f e))

  -- ---- nothing whole is held

  pub rests_by : (f : Feeding I) → IsWaiting f.splitter → Rests meaning f
  rests_by f e = record {
    idle = e;
    none = part_waits turn lines f.intake f.splitter.rest e;
    stays = sym (after_waits turn lines f.intake f.splitter.rest e);
  }

  -- nothing is written where the form stays
  stays_so : (f : Feeding I) → Follows meaning f f [] []
  stays_so f = record {
    outputs = λ cut more. refl;
    parts = λ more. after_none (stream_part turn f.intake (f.splitter.rest ++ more));
    ends = λ cut more last left. left;
  }

  pub waits_by : (old new : Feeding I) → IsWaiting old.splitter → new.splitter ≡ old.splitter → new.intake ≡ old.intake → Follows meaning old new [] [] × Rests meaning new
  waits_by old new e splitter intake =
      let same : new ≡ old = same_feeding new old.intake old.splitter intake splitter in
      subst (λ (f : Feeding I). Follows meaning old f [] [] × Rests meaning f) (sym same) (stays_so old, rests_by old e)

  -- ---- a frame is bad

  pub bad_by : (old new : Feeding I) (fault : FrameFault) (before now : List ℕ) → frame_at old.splitter.rest ≡ Err fault.kind → is_truncated fault.kind ≡ false
      → fault.offset ≡ old.splitter.offset → new.intake ≡ old.intake → now ≡ before ++ frame_fault_line fault → before ≡ [] → IsBad meaning old new now
  bad_by old new fault before now e whole place intake appended none =
      let line_is : frame_fault_line (record { offset = old.splitter.offset; kind = fault.kind }) ≡ frame_fault_line fault
      = ap (λ (offset : ℕ). frame_fault_line (record { offset = offset; kind = fault.kind })) (sym place) in
      record {
        outputs = λ cut more. written_is _ _ before now BadInput (output_bad turn lines cut old.intake old.splitter.offset old.splitter.rest more fault.kind e whole)
            (appended ∙ ap (λ (l : List ℕ). before ++ l) (sym line_is)) none;
        ends = λ cut more. intake ∙ sym (after_bad turn lines old.intake old.splitter.rest more fault.kind e whole);
      }

  -- ---- the end

  pub ends_cut : (f : Feeding I) (before now : List ℕ) → IsWaiting f.splitter → now ≡ before ++ too_long_text → before ≡ []
      → meaning.output f true [] ≡ record { written = now; status = TooLong }
  ends_cut f before now e appended none = written_is _ too_long_text before now TooLong (output_cut turn lines f.intake f.splitter.offset f.splitter.rest e) appended none

  pub ends_short : (f : Feeding I) (fault : FrameFault) (before now : List ℕ) → IsWaiting f.splitter → 0 < length f.splitter.rest
      → fault ≡ record { offset = f.splitter.offset; kind = Truncated } → now ≡ before ++ frame_fault_line fault → before ≡ []
      → meaning.output f false [] ≡ record { written = now; status = BadInput }
  ends_short f fault before now e lt is appended none =
      written_is _ _ before now BadInput (output_short turn lines f.intake f.splitter.offset f.splitter.rest e lt) (appended ∙ ap (λ (x : FrameFault). before ++ frame_fault_line x) is) none

  pub ends_done : (f : Feeding I) (before now : List ℕ) → IsWaiting f.splitter → f.splitter.rest ≡ [] → now ≡ before ++ lines f.intake → before ≡ []
      → meaning.output f false [] ≡ record { written = now; status = Done }
  ends_done f before now e rest appended none = written_is _ _ before now Done (output_end turn lines f.intake f.splitter.offset f.splitter.rest e rest) appended none
