-- The answers to a chunk: what was offered of them, and what is gathered.
use Rattle.std.proofs.Common.{◌≡◌, ℕ, Bool, true, false, inl, inr, List, [], ◌++◌, take, drop, refl, sym, ap, ◌∙◌, append_assoc, append-nil, subst, take-append-drop}
use Rattle.std.specs.declared.option.Option.{Option}
use Rattle.std.specs.Io.KnownBytes.{Appends}
use Rattle.std.proofs.KnownBytes.{Appends-trans}
use Rattle.line_engine.specs.declared.status.Status.{Status}
use Rattle.line_engine.specs.declared.status.Status.TheVariants.{BadInput}
use Rattle.line_engine.specs.declared.form.Next.{Next}
use Rattle.line_engine.specs.declared.form.Next.TheVariants.{Answered, Bad, Waiting}
use Rattle.line_engine.specs.Status.{IsSinkFail}
use Rattle.line_engine.specs.Output.{Output, is_whole, Begins, Ends}
use Rattle.line_engine.specs.Form.{Meaning, Follows, IsBad}
use Rattle.line_engine.specs.Steps.{Answers, Offers, BreaksOff, Takes, Stops}
use Rattle.line_engine.proofs.Endings.{ends_after, Follows-step}

-- a sink's failure isn't a whole output
fail_whole : (status : Status) → IsSinkFail status → is_whole status ≡ true → ⊥
fail_whole status (inl e) t = let no : is_whole status ≡ false = ap is_whole e in cc
fail_whole status (inr e) t = let no : is_whole status ≡ false = ap is_whole e in cc

-- so far: the answers to what was taken were offered, but for those that are gathered
pub record Gathering {F : Type 0} (m : Meaning F) (start now : F) (sink_old sink_new : Option (List ℕ)) (taken gathered : List ℕ) : Type 0 where
  pub answers : List ℕ
  pub offered : List ℕ
  pub follows : Follows m start now taken answers
  pub appends : Appends sink_old sink_new offered
  pub all : answers ≡ offered ++ gathered

module _ {F : Type 0} {m : Meaning F} {start now : F} {sink_old sink_mid : Option (List ℕ)} {taken gathered : List ℕ}
    (so_far : Gathering m start now sink_old sink_mid taken gathered) where
  -- a sink that fails has taken the beginning of what would be written
  breaks : (last : F) (sink_new : Option (List ℕ)) (status : Status) (left more : List ℕ) → IsSinkFail status
      → ((cut : Bool) (coming : List ℕ) → Begins (so_far.answers ++ more) (m.output start cut (taken ++ coming)).written)
      → left ≡ gathered ++ more → BreaksOff sink_mid sink_new left
      → (written : List ℕ) × Stops m start last sink_old sink_new taken status written
  breaks last sink_new status left more fail begins is (n, broken) = (
    so_far.offered ++ take n left,
    record {
      ends = λ cut coming. record {
        whole = λ t. absurd (fail_whole status fail t);
        begun = begun cut coming (begins cut coming);
      };
      appends = Appends-trans sink_old sink_mid sink_new so_far.offered (take n left) so_far.appends broken;
      leaves = λ t. absurd (fail_whole status fail t);
    },
  )
    where
      whole : so_far.answers ++ more ≡ (so_far.offered ++ take n left) ++ drop n left
      whole = ap (λ (l : List ℕ). l ++ more) so_far.all ∙ append_assoc so_far.offered gathered more
          ∙ ap (λ (l : List ℕ). so_far.offered ++ l) (sym is ∙ sym (take-append-drop n left))
          ∙ sym (append_assoc so_far.offered (take n left) (drop n left))

      begun : (cut : Bool) (coming : List ℕ) → Begins (so_far.answers ++ more) (m.output start cut (taken ++ coming)).written
          → Begins (so_far.offered ++ take n left) (m.output start cut (taken ++ coming)).written
      begun cut coming (rest, e) =
          (drop n left ++ rest, e ∙ ap (λ (l : List ℕ). l ++ rest) whole ∙ append_assoc (so_far.offered ++ take n left) (drop n left) rest)

  -- what comes of the taken bytes begins with the answers to them
  follows_begin : (then : F) (reply : List ℕ) → Follows m now then [] reply → (cut : Bool) (coming : List ℕ)
      → Begins (so_far.answers ++ reply) (m.output start cut (taken ++ coming)).written
  follows_begin then reply f cut coming =
      let all = Follows-step m start now then taken so_far.answers reply so_far.follows f in
      ((m.output then cut coming).written, ap (λ (o : Output). o.written) (all.outputs cut coming))

  -- and where one is bad, that is all
  bad_ends : (then : F) (reply : List ℕ) → IsBad m now then reply → (cut : Bool) (coming : List ℕ)
      → Ends BadInput (so_far.answers ++ reply) (m.output start cut (taken ++ coming))
  bad_ends then reply bad cut coming =
      ends_after BadInput so_far.answers reply (m.output now cut coming) (m.output start cut (taken ++ coming)) (so_far.follows.outputs cut coming)
      (record { whole = λ t. bad.outputs cut coming; begun = ([], ap (λ (o : Output). o.written) (bad.outputs cut coming) ∙ sym (append-nil reply)) })

  -- memory was wanting for the next answer
  pub gives_up : (last : F) (left : List ℕ) (sink_new : Option (List ℕ)) (status : Status) → left ≡ gathered → IsSinkFail status → BreaksOff sink_mid sink_new left
      → (written : List ℕ) × Stops m start last sink_old sink_new taken status written
  gives_up last left sink_new status is fail broken =
      breaks last sink_new status left [] fail nothing (is ∙ sym (append-nil gathered)) broken
    where
      nothing : (cut : Bool) (coming : List ℕ) → Begins (so_far.answers ++ []) (m.output start cut (taken ++ coming)).written
      nothing cut coming = (
        (m.output now cut coming).written,
        ap (λ (o : Output). o.written) (so_far.follows.outputs cut coming)
            ∙ ap (λ (l : List ℕ). l ++ (m.output now cut coming).written) (sym (append-nil so_far.answers)),
      )

  -- whatever became of the next thing, what would be written begins with the answers and its reply
  reply_begins : (then : F) (after : List ℕ) (next : Next) (h : Answers m now then gathered after next) (cut : Bool) (coming : List ℕ)
      → Begins (so_far.answers ++ h.reply) (m.output start cut (taken ++ coming)).written
  reply_begins then after Answered h cut coming = follows_begin then h.reply h.goes cut coming
  reply_begins then after Bad h cut coming = (bad_ends then h.reply h.goes cut coming).begun
  reply_begins then after Waiting h cut coming =
      subst (λ (l : List ℕ). Begins (so_far.answers ++ l) (m.output start cut (taken ++ coming)).written) (sym (h.quiet refl))
      (follows_begin then [] h.goes.0 cut coming)

  -- the sink failed in what was gathered
  pub breaks_off : (then last : F) (after : List ℕ) (next : Next) (sink_new : Option (List ℕ)) (status : Status) → Answers m now then gathered after next
      → IsSinkFail status → BreaksOff sink_mid sink_new after → (written : List ℕ) × Stops m start last sink_old sink_new taken status written
  breaks_off then last after next sink_new status h fail broken =
      breaks last sink_new status after h.reply fail (reply_begins then after next h) h.behind broken

  module _ (then : F) (after left : List ℕ) (sink_new : Option (List ℕ)) (offers : Offers sink_mid sink_new after left) where
    -- the same with the reply to the next thing, as far as it is offered
    all_but_left : (reply : List ℕ) → after ≡ gathered ++ reply → so_far.answers ++ reply ≡ (so_far.offered ++ offers.0) ++ left
    all_but_left reply is =
        ap (λ (l : List ℕ). l ++ reply) so_far.all ∙ append_assoc so_far.offered gathered reply
        ∙ ap (λ (l : List ℕ). so_far.offered ++ l) (sym is ∙ offers.2) ∙ sym (append_assoc so_far.offered offers.0 left)

    appends_more : Appends sink_old sink_new (so_far.offered ++ offers.0)
    appends_more = Appends-trans sink_old sink_mid sink_new so_far.offered offers.0 so_far.appends offers.1

    -- nothing is left
    appends_all : (reply : List ℕ) → after ≡ gathered ++ reply → left ≡ [] → Appends sink_old sink_new (so_far.answers ++ reply)
    appends_all reply is none =
        subst (Appends sink_old sink_new) (sym (all_but_left reply is ∙ ap (λ (l : List ℕ). (so_far.offered ++ offers.0) ++ l) none ∙ append-nil (so_far.offered ++ offers.0)))
        appends_more

    -- the next thing was answered
    pub gathers_more : Answers m now then gathered after Answered → Gathering m start then sink_old sink_new taken left
    gathers_more h = record {
      answers = so_far.answers ++ h.reply;
      offered = so_far.offered ++ offers.0;
      follows = Follows-step m start now then taken so_far.answers h.reply so_far.follows h.goes;
      appends = appends_more;
      all = all_but_left h.reply h.behind;
    }

    -- it is bad
    pub ends_bad : Answers m now then gathered after Bad → left ≡ [] → (written : List ℕ) × Stops m start then sink_old sink_new taken BadInput written
    ends_bad h none = (
      so_far.answers ++ h.reply,
      record {
        ends = bad_ends then h.reply h.goes;
        appends = appends_all h.reply h.behind none;
        leaves = λ t cut coming. so_far.follows.ends cut coming then (h.goes.ends cut coming);
      },
    )

    -- it isn't whole yet
    pub takes_all : Answers m now then gathered after Waiting → left ≡ [] → (written : List ℕ) × Takes m start then sink_old sink_new taken written
    takes_all h none = (
      so_far.answers ++ [],
      record {
        follows = Follows-step m start now then taken so_far.answers [] so_far.follows h.goes.0;
        rests = h.goes.1;
        appends = appends_all [] (h.behind ∙ ap (λ (l : List ℕ). gathered ++ l) (h.quiet refl)) none;
      },
    )
