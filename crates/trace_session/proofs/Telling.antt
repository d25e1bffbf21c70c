-- A run that is told, under way.
use Rattle.std.proofs.Common.{◌≡◌, ◌≢◌, ℕ, zero, suc, ◌+◌, ◌<◌, ◌≤◌, List, [], Option, None, Result, Ok, Err, inl, inr, refl, sym, ap, ap₂, subst, ◌∙◌, arith, add-one}
use Rattle.std.specs.Prelude.{IfOk, OnOk}
use Rattle.wind_outside.specs.Requests.{Request}
use Rattle.kernel_world.specs.declared.reply.Reply.{Reply}
use Rattle.wind_machine.specs.State.{State}
use Rattle.wind_machine.specs.Run.{Answers, after}
use Rattle.wind_machine.specs.Silent.{SilentLaw, SilentSteps}
use Rattle.wind_session.proofs.AppendingLemmas.{appended_none}
use Rattle.wind_session.specs.Modules.{Shelf}
use Rattle.wind_session.specs.Runs.{TellsOr}
use Rattle.wind_session.specs.Telling.{GoesOn, IsTold, IsToldInPart, Told}
use Rattle.wind_session.specs.declared.run.RunEnd.{RunEnd}
use Rattle.wind_session.specs.declared.run.RunEnd.TheVariants as ends
use Rattle.wind_session.proofs.Continuing.{burst_counted}
use Rattle.wind_session.proofs.Saying.{Agree, same_after, state_after, state_before}
use Rattle.board_trace.specs.Before.{before_step}
use Rattle.board_trace.specs.Runs.{Line, with_lines}
use Rattle.board_trace.specs.Snapshots.{snapshot_of}
use Rattle.board_trace.specs.Views.{SnapshotState}
use Rattle.trace_text.specs.Forms.{HasLines, Joins, OutcomeState}
use Rattle.trace_text.specs.Pages.{Ends, PageState, count_in}
use Rattle.trace_session.specs.Choice.{ChoiceState, chosen_in, chosen_lines}
use Rattle.trace_session.specs.declared.traced.Product.{Product}
use Rattle.trace_session.specs.Spans.{looked_by, part_after}
use Rattle.trace_session.specs.Traced.{Alone, HoldsLines, HoldsPart, HoldsSome, HoldsSteps, IsPutOf, TellsEvents, TellsLines, TellsPart, TellsSome, outcome_of}
use Rattle.trace_session.proofs.Puts.{IsEndText, IsLineText, events_text_of, prefix_of_some, some_put}

-- ---- the same is said at the first steps
shorter : (a b : Answers) (k : ℕ) → Agree a b (suc k) → Agree a b k
shorter a b k same j below = same j (omega (arith, below))

pub same_lines : (c : ChoiceState) (a b : Answers) (s : State) (k : ℕ) → Agree a b k → chosen_lines c a s k ≡ chosen_lines c b s k
same_lines c a b s zero same = refl
same_lines c a b s (suc k) same =
    ap₂ (λ (u v : State). with_lines (chosen_in c (a k) u v) (chosen_lines c a s k)) (same_after a b s k (shorter a b k same)) (same_after a b s (suc k) same)
    ∙ ap (λ said. with_lines (chosen_in c said (after b s k) (after b s (suc k))) (chosen_lines c a s k)) (same k (omega arith))
    ∙ ap (with_lines (chosen_in c (b k) (after b s k) (after b s (suc k)))) (same_lines c a b s k (shorter a b k same))

pub same_part : (c : ChoiceState) (a b : Answers) (s : State) (k : ℕ) → Agree a b k → part_after c a s k ≡ part_after c b s k
same_part c a b s zero same = refl
same_part c a b s (suc k) same =
    ap₂ (λ (u v : State). looked_by c (before_step u) (part_after c a s k) v) (same_after a b s k (shorter a b k same)) (same_after a b s (suc k) same)
    ∙ ap (λ spans. looked_by c (before_step (after b s k)) spans (after b s (suc k))) (same_part c a b s k (shorter a b k same))

-- ---- one step more
module _ (said next : Answers) (s u t : State) (reply : Option Reply) (i : ℕ) (on : GoesOn said next s u t reply i) where
  pub lines_now : (c : ChoiceState) → with_lines (chosen_in c (next i) u t) (chosen_lines c said s i) ≡ chosen_lines c next s (i + 1)
  lines_now c =
      ap₂ (λ (a b : State). with_lines (chosen_in c (next i) a b) (chosen_lines c said s i)) (state_before said next s u t reply i on) (state_after said next s u t reply i on)
      ∙ ap (with_lines (chosen_in c (next i) (after next s i) (after next s (suc i)))) (same_lines c said next s i on.same)
      ∙ ap (chosen_lines c next s) (sym (add-one i))

  pub part_now : (c : ChoiceState) → looked_by c (before_step u) (part_after c said s i) t ≡ part_after c next s (i + 1)
  part_now c =
      ap₂ (λ (a b : State). looked_by c (before_step a) (part_after c said s i) b) (state_before said next s u t reply i on) (state_after said next s u t reply i on)
      ∙ ap (λ spans. looked_by c (before_step (after next s i)) spans (after next s (suc i))) (same_part c said next s i on.same)
      ∙ ap (part_after c next s) (sym (add-one i))

-- ---- by how the run ended
module _ (Tells Lost : Answers → State → ℕ → Type 0) (said : Answers) (s : State) (k : ℕ) where
  pub tells_unless : (end : RunEnd) → end ≢ ends.WriteFault → TellsOr Tells Lost end said s k → Tells said s k
  tells_unless ends.WriteFault other holds = absurd (other refl)
  tells_unless ends.Quiet other holds = holds
  tells_unless ends.Limit other holds = holds
  tells_unless ends.ReadFault other holds = holds
  tells_unless ends.NoMemory other holds = holds

  pub lost_if : (end : RunEnd) → end ≡ ends.WriteFault → TellsOr Tells Lost end said s k → Lost said s k
  lost_if end e holds = subst (λ x. TellsOr Tells Lost x said s k) e holds

-- ---- lines in a form
module _ (is_line : Line → List ℕ → Type 0) where
  -- before the first step
  pub no_lines : (first : Option (List ℕ)) (page : PageState) → page ≡ record { text = []; growing = None } → HoldsLines is_line first first page []
  no_lines first page empty = record {
    given = [];
    gained = appended_none first;
    ends = subst (λ (p : PageState). Ends is_line [] p []) (sym empty) (refl, refl);
  }

  -- what the sink gained of them, whatever is said of the files later
  pub part_held : (c : ChoiceState) (first now : Option (List ℕ)) (page : PageState) (said next : Answers) (s : State) (i : ℕ) → ((j : ℕ) → j < i → said j ≡ next j) → HoldsSteps is_line c first now page said s i → HoldsPart is_line c first now next s i
  part_held c first now page said next s i same holds = subst (HoldsSome is_line first now) (same_lines c said next s i same) (some_put is_line first now page (chosen_lines c said s i) holds)

  -- a step more was told
  pub held_on : (c : ChoiceState) (first now : Option (List ℕ)) (page later : PageState) (said next : Answers) (s u t : State) (reply : Option Reply) (i : ℕ) → GoesOn said next s u t reply i
      → ((given : List ℕ) (lines : List Line) → Ends is_line given page lines → Ends is_line given later (with_lines (chosen_in c (next i) u t) lines)) → HoldsSteps is_line c first now page said s i → HoldsSteps is_line c first now later next s (i + 1)
  held_on c first now page later said next s u t reply i on lines holds = record {
    given = holds.given;
    gained = holds.gained;
    ends = subst (Ends is_line holds.given later) (lines_now said next s u t reply i on c) (lines holds.given (chosen_lines c said s i) holds.ends);
  }

pub none_waits : (page : PageState) (n : ℕ) → page ≡ record { text = []; growing = None } → count_in page.growing ≤ n
none_waits page n empty = let none : count_in page.growing ≡ 0 = ap (λ (p : PageState). count_in p.growing) empty in omega (arith, none)

-- after instructions that were made at once, the next step can be told
pub ready_on : {E : Type 0} (r : Result ℕ E) (u t : State) (waited waits : ℕ) (snapshot : SnapshotState) → SilentLaw → waited ≤ u.steps
    → IfOk r (λ k. SilentSteps k u t) → IfOk r (λ k. waits ≤ waited + k) → OnOk r (snapshot ≡ snapshot_of t.world) → OnOk r ((snapshot ≡ snapshot_of t.world) × (waits ≤ t.steps))
ready_on (Err e) u t waited waits snapshot law few steps more same = tt
ready_on (Ok k) u t waited waits snapshot law few steps more same = (same, omega (arith, few, more, burst_counted law u t k steps))

-- by a choice that stays the same
pub with_scope : {E A : Type 0} (r : Result ℕ E) (P Q : ℕ → Type 0) → OnOk r A → ((k : ℕ) → A → P k → Q k) → IfOk r P → IfOk r Q
with_scope (Err e) P Q same leads holds = tt
with_scope (Ok k) P Q same leads holds = leads k same holds

module _ (is_line : Line → List ℕ → Type 0) (c mine later : ChoiceState) (same : mine ≡ c) (shelf : Shelf) (s board : State) (n : ℕ) (old mid : Option (List Request)) (first now : Option (List ℕ)) where
  pub told_of : (page : PageState) (end : RunEnd) → Told (IsTold (HoldsSteps is_line later first now page) (HoldsPart is_line mine first now) end s) shelf s n board old mid
      → Told (IsTold (HoldsSteps is_line later first now page) (HoldsPart is_line c first now) end s) shelf s n board old mid
  told_of page end = subst (λ x. Told (IsTold (HoldsSteps is_line later first now page) (HoldsPart is_line x first now) end s) shelf s n board old mid) same

  pub part_of : Told (IsToldInPart (HoldsPart is_line mine first now) s) shelf s n board old mid → Told (TellsSome is_line c s first now) shelf s n board old mid
  part_of = subst (λ x. Told (TellsSome is_line x s first now) shelf s n board old mid) same

-- ---- how the run ended
module _ (is_line : Line → List ℕ → Type 0) (is_end : OutcomeState → List ℕ → Type 0) (c later : ChoiceState) (stays : later ≡ c) (shelf : Shelf) (s board : State) (n : ℕ) (old mid : Option (List Request)) (first now : Option (List ℕ)) (page : PageState) (end : RunEnd)
    (ran : Told (IsTold (HoldsSteps is_line later first now page) (HoldsPart is_line c first now) end s) shelf s n board old mid) where
  abbrev lines : List Line
  lines = chosen_lines c ran.said s ran.k

  -- a put failed before it
  pub lost_before : end ≡ ends.WriteFault → Told (TellsLines is_line is_end c end s first now) shelf s n board old mid
  lost_before e = record {
    said = ran.said;
    k = ran.k;
    end = ran.end;
    made = ran.made;
    tells = inr (e, lost_if (HoldsSteps is_line later first now page) (HoldsPart is_line c first now) ran.said s ran.k ran.end (sym ran.tells.0 ∙ e) ran.tells.1);
  }

  module _ (other : end ≢ ends.WriteFault) where
    held : HoldsLines is_line first now page lines
    held =
        subst (λ x. HoldsSteps is_line x first now page ran.said s ran.k) stays
        (tells_unless (HoldsSteps is_line later first now page) (HoldsPart is_line c first now) ran.said s ran.k ran.end (λ e. other (ran.tells.0 ∙ e)) ran.tells.1)

    -- it was put, or that put failed
    pub last_told : (new : Option (List ℕ)) (result : RunEnd) → ((ls : List Line) → HoldsLines is_line first now page ls → (text : List ℕ) × Joins (HasLines is_line ls) (is_end (outcome_of end board)) text × IsPutOf text result end first new)
        → Told (TellsLines is_line is_end c result s first new) shelf s n board old mid
    last_told new result puts =
        let P : RunEnd → State → Type 0 = λ e v. (text : List ℕ) × Joins (HasLines is_line lines) (is_end (outcome_of e v)) text × IsPutOf text result e first new in
        record {
          said = ran.said;
          k = ran.k;
          end = ran.end;
          made = ran.made;
          tells = inl (subst (P ran.end) ran.made.state (subst (λ e. P e board) ran.tells.0 (puts lines held)));
        }

    -- memory ran out for it
    pub last_given_up : (new : Option (List ℕ)) → new ≡ now → Told (TellsSome is_line c s first new) shelf s n board old mid
    last_given_up new same = record {
      said = ran.said;
      k = ran.k;
      end = ran.end;
      made = ran.made;
      tells = (ran.k, omega arith, subst (λ bytes. HoldsSome is_line first bytes lines) (sym same) (some_put is_line first now page lines held));
    }

-- ---- lines for people
module _ (c : ChoiceState) (shelf : Shelf) (s board : State) (n : ℕ) (old mid : Option (List Request)) (first now : Option (List ℕ)) where
  pub events_of : (product : Product) (result : RunEnd) → Told (Alone product (TellsLines IsLineText IsEndText c result s first now)) shelf s n board old mid → Told (Alone product (TellsEvents c result s first now)) shelf s n board old mid
  events_of product result ran = record {
    said = ran.said;
    k = ran.k;
    end = ran.end;
    made = ran.made;
    tells = (ran.tells.0, events_text_of first now (chosen_lines c ran.said s ran.k) (outcome_of ran.end (after ran.said s ran.k)) result ran.end ran.tells.1);
  }

  pub events_part : Told (TellsSome IsLineText c s first now) shelf s n board old mid → Told (TellsPart c s first now) shelf s n board old mid
  events_part ran = record {
    said = ran.said;
    k = ran.k;
    end = ran.end;
    made = ran.made;
    tells = (ran.tells.0, ran.tells.1, prefix_of_some first now (chosen_lines c ran.said s ran.tells.0) ran.tells.2);
  }
