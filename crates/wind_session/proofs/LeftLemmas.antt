-- What a run leaves, and with which status.
use Rattle.std.proofs.Common.{◌≡◌, ℕ, true, false, List, Option, refl, sym, ap, subst, ◌∙◌, inl, inr, length}
use Rattle.std.specs.Prelude.{◌⊎◌}
use Rattle.wind_outside.specs.Requests.{Request}
use Rattle.generated_session.specs.Puts.{ArePut, AreCutOff, SinkLog}
use Rattle.generated_session.specs.Session.{summary_texts}
use Rattle.board_player.specs.WindMachineState.{State}
use Rattle.board_player.specs.WindMachineRun.{Answers, after, text}
use Rattle.wind_session.specs.Modules.{Shelf}
use Rattle.wind_session.specs.Generated.{summary}
use Rattle.wind_session.specs.Outside.{Outside, outside}
use Rattle.wind_session.specs.declared.command.Source.{Source}
use Rattle.wind_session.specs.declared.command.Source.TheVariants as sources
use Rattle.wind_session.specs.Headline.{IsLeft, IsSummed, SumsUp, status_of}
use Rattle.wind_session.specs.Runs.{is_given_up, Counted, Ran}
use Rattle.wind_session.specs.Status.{status_number}
use Rattle.wind_session.specs.declared.run.RunEnd.{RunEnd}
use Rattle.wind_session.specs.declared.run.RunEnd.TheVariants as ends
use Rattle.wind_session.specs.declared.ending.Status.{Status}
use Rattle.wind_session.specs.declared.ending.Status.TheVariants as status

-- the texts were put, or the put of one of them failed, after a run that wasn't given up
summed : (end : RunEnd) (s : Status) (texts : List (List ℕ)) (old new : SinkLog) → is_given_up end ≡ false
    → ((s ≡ status_of end) × ArePut texts old new) ⊎ ((s ≡ status.WriteFault) × AreCutOff texts old new) → IsSummed end s texts old new
summed ends.Quiet s texts old new some h = h
summed ends.Limit s texts old new some h = h
summed ends.WriteFault s texts old new some h = h
summed ends.ReadFault s texts old new some h = absurd (cc)
summed ends.NoMemory s texts old new some h = absurd (cc)

-- nothing was put after a run that was given up
pub summed_none : (end : RunEnd) (s : Status) (texts : List (List ℕ)) (old new : SinkLog) → is_given_up end ≡ true → s ≡ status_of end → new ≡ old → IsSummed end s texts old new
summed_none ends.ReadFault s texts old new up own same = (own, same)
summed_none ends.NoMemory s texts old new up own same = (own, same)
summed_none ends.Quiet s texts old new up own same = absurd (cc)
summed_none ends.Limit s texts old new up own same = absurd (cc)
summed_none ends.WriteFault s texts old new up own same = absurd (cc)

-- nothing was put before them
pub summed_from : (end : RunEnd) (s : Status) (texts : List (List ℕ)) (old mid new : SinkLog) → mid ≡ old → IsSummed end s texts mid new → IsSummed end s texts old new
summed_from end s texts old mid new same h = subst (λ log. IsSummed end s texts log new) same h

module _ (n bytes steps ticks k tick number : ℕ) (end : RunEnd) (s : Status) (some : is_given_up end ≡ false) (is_steps : steps ≡ k) (is_ticks : ticks ≡ tick) (own : s ≡ status_of end) (is_number : number ≡ status_number s) (old new : SinkLog) where
  own_texts : summary_texts n bytes steps ticks number ≡ summary_texts n bytes k tick (status_number (status_of end))
  own_texts =
      ap (summary_texts n bytes steps ticks) (is_number ∙ ap status_number own)
      ∙ ap (λ m. summary_texts n bytes m ticks (status_number (status_of end))) is_steps
      ∙ ap (λ t. summary_texts n bytes k t (status_number (status_of end))) is_ticks

  -- the line was put, and a put of it failed
  pub summed_whole : ArePut (summary_texts n bytes steps ticks number) old new → IsSummed end s (summary_texts n bytes k tick (status_number (status_of end))) old new
  summed_whole put = summed end s (summary_texts n bytes k tick (status_number (status_of end))) old new some (inl (own, subst (λ texts. ArePut texts old new) own_texts put))

  pub summed_cut : AreCutOff (summary_texts n bytes steps ticks number) old new → IsSummed end status.WriteFault (summary_texts n bytes k tick (status_number (status_of end))) old new
  summed_cut cut = summed end status.WriteFault (summary_texts n bytes k tick (status_number (status_of end))) old new some (inr (refl, subst (λ texts. AreCutOff texts old new) own_texts cut))

-- the line of a run that was counted
line_of : (n bytes k x : ℕ) (said : Answers) (s board : State) → bytes ≡ length (text said s k) → board.steps ≡ k → board ≡ after said s k → summary_texts n bytes board.steps board.world.kern.tick x ≡ summary n said s k x
unfolding summary
line_of n bytes k x said s board appended counted same =
    ap (λ b. summary_texts n b board.steps board.world.kern.tick x) appended
    ∙ ap (λ m. summary_texts n (length (text said s k)) m board.world.kern.tick x) counted
    ∙ ap (λ (u : State). summary_texts n (length (text said s k)) k u.world.kern.tick x) same

module _ (limit bytes : ℕ) (shelf : Shelf) (s board : State) (end : RunEnd) (first last : Option (List Request)) (counted : Counted end shelf s limit bytes board first last) (x : Status) (old new : SinkLog) where
  -- the run is summed up by its line
  sums : (n : ℕ) → IsSummed end x (summary_texts n bytes board.steps board.world.kern.tick (status_number (status_of end))) old new → SumsUp n x end shelf s limit board (outside first old.bytes old.pieces) (outside last new.bytes new.pieces)
  sums n h = record {
    said = counted.said;
    k = counted.k;
    made = counted.made;
    summed = subst (λ texts. IsSummed end x texts old new) (line_of n bytes counted.k (status_number (status_of end)) counted.said s board counted.bytes_are counted.made.counted counted.made.state) h;
    all_put = counted.all_put;
  }

  pub left_summed : (source : Source) (n : ℕ) → source ≡ sources.Generated n → IsSummed end x (summary_texts n bytes board.steps board.world.kern.tick (status_number (status_of end))) old new
      → IsLeft source x end shelf s limit board (outside first old.bytes old.pieces) (outside last new.bytes new.pieces)
  left_summed source n is h = subst (λ v. IsLeft v x end shelf s limit board (outside first old.bytes old.pieces) (outside last new.bytes new.pieces)) (sym is) (sums n h)

-- what the steps wrote was put
pub left_put : (source : Source) (x : Status) (end : RunEnd) (shelf : Shelf) (s : State) (limit : ℕ) (board : State) (old new : Outside) → source ≡ sources.Files → x ≡ status_of end → Ran end shelf s limit board old new
    → IsLeft source x end shelf s limit board old new
left_put source x end shelf s limit board old new is own ran = subst (λ v. IsLeft v x end shelf s limit board old new) (sym is) (own, ran)
