-- A run whose coverage is told.
use Rattle.std.proofs.Common.{◌≡◌, ◌≢◌, ℕ, zero, suc, ◌+◌, List, ◌++◌, Option, inl, inr, refl, sym, ap, ap₂, subst, ◌∙◌, arith, add-one}
use Rattle.wind_outside.specs.Appending.{Appended, AppendedPrefix}
use Rattle.wind_outside.specs.Requests.{Request}
use Rattle.kernel_world.specs.declared.reply.Reply.{Reply}
use Rattle.kernel_world.specs.State.{WorldState}
use Rattle.wind_machine.specs.State.{State}
use Rattle.wind_machine.specs.Run.{Answers, after}
use Rattle.wind_session.specs.Modules.{Shelf}
use Rattle.wind_session.specs.Telling.{GoesOn, IsTold, Told}
use Rattle.wind_session.specs.declared.run.RunEnd.{RunEnd}
use Rattle.wind_session.specs.declared.run.RunEnd.TheVariants as ends
use Rattle.wind_session.proofs.AppendingLemmas.{appended_none}
use Rattle.wind_session.proofs.Saying.{Agree, same_after, state_after, state_before}
use Rattle.trace_coverage.specs.Covered.{CoverageState, with_executed, with_table}
use Rattle.trace_coverage.specs.Executed.{coverage_after, executed_at}
use Rattle.trace_coverage.specs.Text.{Holds, coverage_text, modules_text}
use Rattle.trace_coverage.specs.declared.coverage.Coverage.{Coverage}
use Rattle.trace_session.specs.Covering.{CoversPart, CoversSteps, TellsCoverage, TellsCoveragePart}
use Rattle.trace_session.specs.Traced.{IsPutOf}
use Rattle.trace_session.proofs.Puts.{prefix_more, prefix_whole, text_lost, text_put}
use Rattle.trace_session.proofs.Telling.{lost_if, tells_unless}

-- one step more
abbrev covered_by : CoverageState → State → State → CoverageState
covered_by c u t = with_table t.world.modules.rows (with_executed (executed_at u) c)

shorter : (a b : Answers) (k : ℕ) → Agree a b (suc k) → Agree a b k
shorter a b k same j below = same j (omega (arith, below))

same_coverage : (a b : Answers) (s : State) (k : ℕ) → Agree a b k → coverage_after a s k ≡ coverage_after b s k
same_coverage a b s zero same = refl
same_coverage a b s (suc k) same =
    ap₂ (λ (u v : State). covered_by (coverage_after a s k) u v) (same_after a b s k (shorter a b k same)) (same_after a b s (suc k) same)
    ∙ ap (λ c. covered_by c (after b s k) (after b s (suc k))) (same_coverage a b s k (shorter a b k same))

module _ (said next : Answers) (s u t : State) (reply : Option Reply) (i : ℕ) (on : GoesOn said next s u t reply i) where
  coverage_now : covered_by (coverage_after said s i) u t ≡ coverage_after next s (i + 1)
  coverage_now =
      ap₂ (λ (a b : State). covered_by (coverage_after said s i) a b) (state_before said next s u t reply i on) (state_after said next s u t reply i on)
      ∙ ap (λ c. covered_by c (after next s i) (after next s (suc i))) (same_coverage said next s i on.same)
      ∙ ap (coverage_after next s) (sym (add-one i))

  -- the coverage after a step, whose instruction and table were read
  pub covers_step : (old later : Coverage) (first now : Option (List ℕ)) (at : Option ℕ) (w : WorldState) → at ≡ executed_at u → w ≡ t.world
      → ((given : List ℕ) (c : CoverageState) → Holds old given c → Holds later given (with_table w.modules.rows (with_executed at c)))
      → CoversSteps old first now said s i → CoversSteps later first now next s (i + 1)
  covers_step old later first now at w at_is world_is leads covers = record {
    given = covers.given;
    gained = covers.gained;
    holds =
        subst (Holds later covers.given)
        (ap₂ (λ (x : WorldState) (o : Option ℕ). with_table x.modules.rows (with_executed o (coverage_after said s i))) world_is at_is ∙ coverage_now)
        (leads covers.given (coverage_after said s i) covers.holds);
  }

-- ---- what was put
module _ (coverage : Coverage) (first now : Option (List ℕ)) (said : Answers) (s : State) (k : ℕ) (covers : CoversSteps coverage first now said s k) where
  abbrev state : CoverageState
  state = coverage_after said s k

  -- it is a prefix of the text
  pub covers_part : CoversPart first now said s k
  covers_part =
      prefix_more first now (modules_text state.gone) (modules_text state.live)
      (subst (AppendedPrefix first now) covers.holds.gone
      (prefix_more first now covers.given coverage.gone.items (prefix_whole first now covers.given covers.gained)))

  -- also if a put of more of it failed
  pub covers_lost : (new : Option (List ℕ)) → AppendedPrefix now new coverage.gone.items → CoversPart first new said s k
  covers_lost new part =
      prefix_more first new (modules_text state.gone) (modules_text state.live)
      (subst (AppendedPrefix first new) covers.holds.gone (text_lost first now new covers.given coverage.gone.items covers.gained part))

  -- if more of it was put, that was given too
  pub covers_more : (later : Coverage) (new : Option (List ℕ)) → ((given : List ℕ) (c : CoverageState) → Holds coverage given c → Holds later (given ++ coverage.gone.items) c)
      → Appended now new coverage.gone.items → CoversSteps later first new said s k
  covers_more later new leads put = record {
    given = covers.given ++ coverage.gone.items;
    gained = text_put first now new covers.given coverage.gone.items covers.gained put;
    holds = leads covers.given state covers.holds;
  }

-- whatever is said of the files later
pub covers_part_later : (coverage : Coverage) (first now : Option (List ℕ)) (said next : Answers) (s : State) (i : ℕ) → Agree said next i
    → CoversSteps coverage first now said s i → CoversPart first now next s i
covers_part_later coverage first now said next s i same covers =
    subst (λ c. AppendedPrefix first now (coverage_text c)) (same_coverage said next s i same) (covers_part coverage first now said s i covers)

-- before the first step nothing was put
pub nothing_put : (old : Option (List ℕ)) (text : List ℕ) → AppendedPrefix old old text
nothing_put old text = (0, appended_none old)

-- ---- how the run ended
module _ (shelf : Shelf) (s t : State) (n : ℕ) (old new : Option (List Request)) (coverage : Coverage) (end : RunEnd) (first now : Option (List ℕ))
    (ran : Told (IsTold (CoversSteps coverage first now) (CoversPart first now) end s) shelf s n t old new) where
  -- a put failed under way
  pub coverage_lost : end ≡ ends.WriteFault → Told (TellsCoverage end s first now) shelf s n t old new
  coverage_lost e = record {
    said = ran.said;
    k = ran.k;
    end = ran.end;
    made = ran.made;
    tells = inr (e, lost_if (CoversSteps coverage first now) (CoversPart first now) ran.said s ran.k ran.end (sym ran.tells.0 ∙ e) ran.tells.1);
  }

  module _ (other : end ≢ ends.WriteFault) where
    held : CoversSteps coverage first now ran.said s ran.k
    held = tells_unless (CoversSteps coverage first now) (CoversPart first now) ran.said s ran.k ran.end (λ e. other (ran.tells.0 ∙ e)) ran.tells.1

    -- the rest of the text was put, or that put failed
    rest_put : (text : List ℕ) (result : RunEnd) (last : Option (List ℕ)) → held.given ++ text ≡ coverage_text (coverage_after ran.said s ran.k)
        → IsPutOf text result end now last → IsPutOf (coverage_text (coverage_after ran.said s ran.k)) result end first last
    rest_put text result last text_is (inl put) = inl (put.0, subst (Appended first last) text_is (text_put first now last held.given text held.gained put.1))
    rest_put text result last text_is (inr lost) = inr (lost.0, subst (AppendedPrefix first last) text_is (text_lost first now last held.given text held.gained lost.1))

    pub coverage_told : (text : List ℕ) (result : RunEnd) (last : Option (List ℕ)) → ((given : List ℕ) (c : CoverageState) → Holds coverage given c → given ++ text ≡ coverage_text c)
        → IsPutOf text result end now last → Told (TellsCoverage result s first last) shelf s n t old new
    coverage_told text result last text_is put = record {
      said = ran.said;
      k = ran.k;
      end = ran.end;
      made = ran.made;
      tells =
          subst (λ e. IsPutOf (coverage_text (coverage_after ran.said s ran.k)) result e first last) ran.tells.0
          (rest_put text result last (text_is held.given (coverage_after ran.said s ran.k) held.holds) put);
    }

    -- memory ran out for it
    pub coverage_part : Told (TellsCoveragePart s first now) shelf s n t old new
    coverage_part = record {
      said = ran.said;
      k = ran.k;
      end = ran.end;
      made = ran.made;
      tells = (ran.k, omega arith, covers_part coverage first now ran.said s ran.k held);
    }
