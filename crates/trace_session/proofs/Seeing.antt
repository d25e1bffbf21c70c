-- A run whose tasks are looked at.
use Rattle.std.proofs.Common.{◌≡◌, ◌≢◌, ◌⊎◌, ℕ, List, Option, inl, inr, sym, ap, subst, ◌∙◌}
use Rattle.wind_outside.specs.Requests.{Request}
use Rattle.wind_machine.specs.State.{State}
use Rattle.wind_machine.specs.Run.{Answers}
use Rattle.wind_session.specs.Modules.{Shelf}
use Rattle.wind_session.specs.Runs.{Counted}
use Rattle.wind_session.specs.Telling.{After, IsTold, Told}
use Rattle.wind_session.specs.declared.run.RunEnd.{RunEnd}
use Rattle.wind_session.specs.declared.run.RunEnd.TheVariants as ends
use Rattle.wind_session.proofs.RunLemmas.{stopped}
use Rattle.board_changes.specs.Spans.{SpanState, closed}
use Rattle.trace_session.specs.Choice.{ChoiceState}
use Rattle.trace_session.specs.Shown.{Carries, Pictures, shown_areas}
use Rattle.trace_session.specs.Spans.{part_after}
use Rattle.trace_picture.specs.declared.areas.Area.{Area}
use Rattle.trace_state.specs.Board.{IsTextOf, board_data}
use Rattle.trace_session.specs.declared.traced.Product.{Product}
use Rattle.trace_session.specs.declared.traced.Product.TheVariants as products
use Rattle.trace_session.specs.Traced.{Alone, IsPutOf, SeesSteps, TellsAreas, TellsNothing, TellsState}
use Rattle.trace_session.proofs.Telling.{lost_if, tells_unless}

-- nothing is told of the run
pub untold : (shelf : Shelf) (said : Answers) (s u : State) (n i : ℕ) (old mid : Option (List Request)) → After shelf said s n i u old mid → Told TellsNothing shelf s n u old mid
untold shelf said s u n i old mid run = record { said = said; k = i; end = ends.WriteFault; made = stopped shelf said s u n i old mid run; tells = tt }

-- a text was put, and nothing else is left
pub alone : (product : Product) (Tells : Answers → ℕ → RunEnd → Type 0) (shelf : Shelf) (s t : State) (n : ℕ) (old new : Option (List Request)) → product ≡ products.Text → Told Tells shelf s n t old new → Told (Alone product Tells) shelf s n t old new
alone product Tells shelf s t n old new none ran = record { said = ran.said; k = ran.k; end = ran.end; made = ran.made; tells = (none, ran.tells) }

-- the picture of the spans of a run, and no put was lost
abbrev pub Sees : ChoiceState → RunEnd → SpanState → List Area → State → Answers → ℕ → RunEnd → Type 0
Sees c end kept drawn s = IsTold (SeesSteps c kept drawn) (λ said t k. ⊥) end s

module _ (shelf : Shelf) (s t : State) (n : ℕ) (old new : Option (List Request)) where
  -- whatever was told of a run, nothing is left of it
  pub unseen : (Tells : Answers → ℕ → RunEnd → Type 0) → Told Tells shelf s n t old new → Told TellsNothing shelf s n t old new
  unseen Tells ran = record { said = ran.said; k = ran.k; end = ran.end; made = ran.made; tells = tt }

  module _ (c later : ChoiceState) (stays : later ≡ c) (kept : SpanState) (drawn : List Area) (end : RunEnd) (ran : Told (Sees later end kept drawn s) shelf s n t old new) where
    none_lost : ran.end ≢ ends.WriteFault
    none_lost e = lost_if (SeesSteps later kept drawn) (λ said u k. ⊥) ran.said s ran.k ran.end e ran.tells.1

    pub not_lost : end ≢ ends.WriteFault
    not_lost e = none_lost (sym ran.tells.0 ∙ e)

    shown : Pictures c kept drawn (part_after c ran.said s ran.k)
    shown = subst (λ x. SeesSteps x kept drawn ran.said s ran.k) stays (tells_unless (SeesSteps later kept drawn) (λ said u k. ⊥) ran.said s ran.k ran.end none_lost ran.tells.1)

    -- the spans ended with the run, and these are their areas
    pub areas_told : (last : SpanState) (areas : List Area) (mine : ChoiceState) (product : Product) (result : RunEnd) → product ≡ products.Picture areas
        → mine ≡ c → Carries mine kept drawn last areas (λ spans. closed spans t.time)
        → (result ≡ end) ⊎ (result ≡ ends.WriteFault) → Told (TellsAreas c product result s) shelf s n t old new
    areas_told last areas mine product result product_is same closes put = record {
      said = ran.said;
      k = ran.k;
      end = ran.end;
      made = ran.made;
      tells = (
        subst (λ e. (result ≡ e) ⊎ (result ≡ ends.WriteFault)) ran.tells.0 put,
        product_is
            ∙ ap products.Picture ((subst (λ x. Carries x kept drawn last areas (λ spans. closed spans t.time)) same closes (part_after c ran.said s ran.k) shown).areas_are
            ∙ ap (λ (v : State). shown_areas c (closed (part_after c ran.said s ran.k) v.time).done) ran.made.state),
      );
    }

-- a text was put or that put failed, so the run ended like this or the put failed
pub put_after : (text : List ℕ) (result end : RunEnd) (old new : Option (List ℕ)) → IsPutOf text result end old new → (result ≡ end) ⊎ (result ≡ ends.WriteFault)
put_after text result end old new (inl (same, all)) = inl same
put_after text result end old new (inr (failed, part)) = inr failed

-- the board that is left was put as JSON, or that put failed
pub state_told : (shelf : Shelf) (s t : State) (n bytes : ℕ) (old new : Option (List Request)) (end result : RunEnd) (text : List ℕ) (first now last : Option (List ℕ))
    → Counted end shelf s n bytes t old new → now ≡ first → IsTextOf text (board_data t) → IsPutOf text result end now last
    → Told (TellsState result s first last) shelf s n t old new
state_told shelf s t n bytes old new end result text first now last ran same is put = record {
  said = ran.said;
  k = ran.k;
  end = end;
  made = ran.made;
  tells = (
    text,
    subst (λ (v : State). IsTextOf text (board_data v)) ran.made.state is,
    subst (λ before. IsPutOf text result end before last) same put,
  );
}
