-- What each call does to the counts.
use Rattle.std.proofs.Common.{◌≡◌, ◌≢◌, ℕ, ◌<◌, true, false, cond, List, [], ◌∷◌, ◌++◌, length, refl, ap, ◌∙◌, sym, arith}
use mathlib.Core.Logic.{⊎_elim}
use Rattle.std.proofs.lemmas.Bool.{cases_eq}
use Rattle.std.proofs.lemmas.List.{get_or-set_same, get_or-set_other}
use Rattle.isr_watch.specs.declared.watchdog.Routine.{Routine}
use Rattle.dev_irq.specs.declared.line.Line.{Line}
use Rattle.dev_irq.specs.State.{idle_line, line_of, pending_of}
use Rattle.dev_irq.specs.Calls.{with_routines, is_full, with_routine, without_routine, with_mark, with_one_more, with_one_less, changed}
use Rattle.dev_irq.specs.Laws.{CountLaw}

module _ (lines : List Line) (i : ℕ) (within : i < length lines) where
  own_line : (f : Line → Line) → line_of (changed f lines i) i ≡ f (line_of lines i)
  own_line f = get_or-set_same lines i (f (line_of lines i)) idle_line within

  other_line : (f : Line → Line) (j : ℕ) → j ≢ i → line_of (changed f lines i) j ≡ line_of lines j
  other_line f j apart = get_or-set_other lines i j (f (line_of lines i)) idle_line apart

  own_count : (f : Line → Line) → pending_of (changed f lines i) i ≡ (f (line_of lines i)).pending
  own_count f = ap (λ (l : Line). l.pending) (own_line f)

  same_count : (f : Line → Line) (j : ℕ) → ((l : Line) → (f l).pending ≡ l.pending) → pending_of (changed f lines i) j ≡ pending_of lines j
  same_count f j same =
      ⊎_elim
      (λ e. ap (pending_of (changed f lines i)) e ∙ own_count f ∙ same (line_of lines i) ∙ ap (pending_of lines) (sym e))
      (λ apart. ap (λ (l : Line). l.pending) (other_line f j apart))
      (cases_eq j i)

routine_count : (routine : Routine) (l : Line) → (with_routine routine l).pending ≡ l.pending
routine_count routine l =
    elim (is_full l) as (λ b. (cond b l (with_routines (l.routines.items ++ routine ∷ []) l)).pending ≡ l.pending) [ true ↦ refl | false ↦ refl ]

pub counts : CountLaw
counts lines i j within = record {
  raising = λ few. own_count lines i within with_one_more ∙ omega arith;
  brimming = λ full. own_count lines i within with_one_more ∙ omega arith;
  delivering = λ some. let one = own_count lines i within with_one_less in omega arith;
  clearing = own_line lines i within (λ l. idle_line);
  connecting = λ routine. same_count lines i within (with_routine routine) j (routine_count routine);
  disconnecting = λ entry. same_count lines i within (without_routine entry) j (λ l. refl);
  enabling = λ mark. same_count lines i within (with_mark mark) j (λ l. refl);
  others = λ f apart. other_line lines i within f j apart;
}
