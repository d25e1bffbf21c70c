-- A change of one line keeps the controller's invariant, which holds at first.
use Rattle.std.proofs.Common.{◌≡◌, ℕ, zero, suc, ◌<◌, ◌≤◌, Bool, true, false, cond, List, [], ◌∷◌, ◌++◌, length, replicate, Option, None, Some, refl, sym, ◌∙◌, subst, arith}
use Rattle.std.specs.Prelude.{◌==◌}
use Rattle.std.specs.List.{All, list_any}
use Rattle.std.specs.Array.{AllOfLen}
use Rattle.std.proofs.lemmas.Bool.Decides.{nat_tests}
use Rattle.std.proofs.lemmas.List.{length-set, length_push, get_or-replicate, length-replicate, ext_get_or}
use Rattle.std.proofs.lemmas.List.Edits.{length-remove}
use Rattle.std.proofs.lemmas.List.Elements.{All-set, All-tail, All-replicate}
use Rattle.std.proofs.lemmas.List.Quantifiers.{position-Some}
use Rattle.isr_watch.specs.declared.watchdog.Routine.{Routine}
use Rattle.dev_irq.specs.declared.line.Line.{Line}
use Rattle.dev_irq.specs.State.{idle_line, line_of, is_waiting, IsLine, IsIrqs}
use Rattle.dev_irq.specs.Calls.{with_routines, is_full, with_routine, position_of, without_position, without_routine, with_mark, with_one_more, with_one_less, changed}
use Rattle.dev_irq.specs.Laws.{KeptLaw}

-- ---- the invariant
pub idle_is : IsLine idle_line
idle_is = record { few = omega arith; word = omega arith }

line_is : (lines : List Line) (i : ℕ) → All IsLine lines → IsLine (line_of lines i)
line_is [] i all = idle_is
line_is (l ∷ ls) zero all = all 0 l (omega arith)
line_is (l ∷ ls) (suc i) all = line_is ls i (All-tail IsLine l ls all)

pub changed_stays : (f : Line → Line) (lines : List Line) (i : ℕ) → ((l : Line) → IsLine l → IsLine (f l)) → IsIrqs lines → IsIrqs (changed f lines i)
changed_stays f lines i stays is = record {
  all = length-set lines i (f (line_of lines i)) ∙ is.all;
  each = All-set IsLine lines i (f (line_of lines i)) (stays (line_of lines i) (line_is lines i is.each)) is.each;
}

pub routine_stays : (routine : Routine) (l : Line) → IsLine l → IsLine (with_routine routine l)
routine_stays routine l is =
    elim (is_full l) as (λ b. is_full l ≡ b → IsLine (cond b l (with_routines (l.routines.items ++ routine ∷ []) l))) [
      | true ↦ λ e. is
      | false ↦ λ e. record { few = room e; word = is.word }
    ] refl
  where
    room : is_full l ≡ false → length (l.routines.items ++ routine ∷ []) ≤ 4
    room e = let fits : length l.routines.items < 4 = grind (arith, nat_tests) in omega (arith, length_push l.routines.items routine)

pub removal_stays : (entry : ℕ) (l : Line) → IsLine l → IsLine (without_routine entry l)
removal_stays entry l is = by (position_of entry l.routines.items) refl
  where
    by : (o : Option ℕ) → position_of entry l.routines.items ≡ o → IsLine (with_routines (without_position l.routines.items o) l)
    by None e = is
    by (Some i) e =
        let found = position-Some (λ (r : Routine). r.entry == entry) l.routines.items i (record { entry = 0; param = 0 }) e in
        record { few = omega (arith, is.few, length-remove l.routines.items i found.0); word = is.word }

pub mark_stays : (mark : Bool) (l : Line) → IsLine l → IsLine (with_mark mark l)
mark_stays mark l is = record { few = is.few; word = is.word }

pub more_stays : (l : Line) → IsLine l → IsLine (with_one_more l)
more_stays l is = record { few = is.few; word = omega arith }

pub less_stays : (l : Line) → IsLine l → IsLine (with_one_less l)
less_stays l is = record { few = is.few; word = omega (arith, is.word) }

pub lines_stay : KeptLaw
lines_stay lines i is = record {
  connecting = λ routine. changed_stays (with_routine routine) lines i (routine_stays routine) is;
  disconnecting = λ entry. changed_stays (without_routine entry) lines i (removal_stays entry) is;
  enabling = λ mark. changed_stays (with_mark mark) lines i (mark_stays mark) is;
  raising = changed_stays with_one_more lines i more_stays is;
  delivering = changed_stays with_one_less lines i less_stays is;
  clearing = changed_stays (λ l. idle_line) lines i (λ l h. idle_is) is;
}

-- ---- the lines at first
pub lines_at_first : (lines : List Line) (n : ℕ) → AllOfLen (λ l. l ≡ idle_line) lines n → lines ≡ replicate n idle_line
lines_at_first lines n all =
    let size : length (replicate n idle_line) ≡ n = length-replicate n idle_line in
    ext_get_or idle_line lines (replicate n idle_line) (all.long ∙ sym size)
    (λ i h. all.at i idle_line (omega (arith, h, all.long)) ∙ sym (get_or-replicate n i idle_line idle_line (omega (arith, h, all.long))))

pub first_is : (lines : List Line) → lines ≡ replicate 16 idle_line → IsIrqs lines × (false ≡ list_any is_waiting lines)
first_is lines e =
    subst (λ ls. IsIrqs ls × (false ≡ list_any is_waiting ls)) (sym e) (record { all = refl; each = All-replicate IsLine 16 idle_line idle_is }, refl)
