-- A thread is in the list exactly if its registers are told.
use Rattle.std.proofs.Common.{◌≡◌, ℕ, ◌==◌, Bool, true, false, cond, List, [], ◌∷◌, ◌++◌, map, Option, None, Some, refl, sym, ap, ap₂, ◌∙◌, inl, inr, arith}
use Rattle.std.specs.Prelude.{◌||◌, is_some, option_to_list}
use Rattle.std.specs.List.{list_any}
use Rattle.std.specs.Option.{option_map, option_or}
use Rattle.std.proofs.lemmas.Bool.Decides.{eqb_tells, nat_tests}
use Rattle.std.proofs.lemmas.List.Folds.{list_any-append}
use Rattle.wind_base.specs.declared.regs.Regs.{Regs}
use Rattle.task_block.specs.declared.task.Task.{Task}
use Rattle.wind_core.specs.State.{task_id, task_of}
use Rattle.kernel_world.specs.State.{WorldState}
use Rattle.kernel_world.specs.declared.objects.Objects.{Objects}
use Rattle.board_reading.specs.WindMachinePhase.{Phase}
use Rattle.debug_texts.specs.Lists.{ThreadRow}
use Rattle.debug_view.specs.Laws.{ListedLaw}
use Rattle.debug_view.specs.Rows.{ended_row, interrupt_rows, rows_of, task_row}
use Rattle.debug_view.specs.Threads.{interrupt_thread, is_told, regs_ended}
use Rattle.debug_view.specs.declared.ended.Ended.{Ended}
use Rattle.debug_view.proofs.Absent.{none_there}

abbrev is_row : ℕ → ThreadRow → Bool
is_row thread row = row.id == thread

-- ---- options
some_or : {T : Type 0} (a b : Option T) → is_some (option_or a b) ≡ (is_some a || is_some b)
some_or None b = refl
some_or (Some x) b = refl

some_map : {T U : Type 0} (f : T → U) (o : Option T) → is_some (option_map f o) ≡ is_some o
some_map f None = refl
some_map f (Some x) = refl

or_false : (t : Bool) → (t || false) ≡ t
or_false true = refl
or_false false = refl

some_if : {T : Type 0} (t : Bool) (x : T) → is_some (cond t (Some x) None) ≡ t
some_if true x = refl
some_if false x = refl

-- ---- the rows of each kind
tasks_listed : (phase : Phase) (objects : Objects) (ts : List Task) (thread : ℕ) → list_any (is_row thread) (map (task_row phase objects) ts) ≡ is_some (task_of ts thread)
tasks_listed phase objects [] thread = refl
tasks_listed phase objects (t ∷ ts) thread =
    let rest = tasks_listed phase objects ts thread in
    elim (task_id t == thread) as (λ b. (b || list_any (is_row thread) (map (task_row phase objects) ts)) ≡ is_some (cond b (Some t) (task_of ts thread))) [
      | true ↦ refl
      | false ↦ rest
    ]

level_listed : (level : Option Regs) (thread : ℕ) → (interrupt_thread == thread) ≡ true → list_any (is_row thread) (interrupt_rows level) ≡ is_some level
level_listed None thread same = refl
level_listed (Some regs) thread same = rw same refl

level_other : (level : Option Regs) (thread : ℕ) → (interrupt_thread == thread) ≡ false → list_any (is_row thread) (interrupt_rows level) ≡ false
level_other None thread other = refl
level_other (Some regs) thread other = rw other refl

ended_listed : (ended : Option Ended) (thread : ℕ) → list_any (is_row thread) (option_to_list (option_map ended_row ended)) ≡ is_some (regs_ended ended thread)
ended_listed None thread = refl
ended_listed (Some e) thread = or_false (e.thread == thread) ∙ sym (some_if (e.thread == thread) e.regs)

-- ---- all rows
all_listed : (phase : Phase) (w : WorldState) (ended : Option Ended) (thread : ℕ)
    → list_any (is_row thread) (rows_of phase w ended)
    ≡ (is_some (task_of w.kern.tasks thread) || (list_any (is_row thread) (interrupt_rows w.watch.level) || is_some (regs_ended ended thread)))
unfolding rows_of
all_listed phase w ended thread =
    let tasks = map (task_row phase w.objects) w.kern.tasks in
    let level = interrupt_rows w.watch.level in
    let gone = option_to_list (option_map ended_row ended) in
    list_any-append (is_row thread) tasks (level ++ gone)
    ∙ ap₂ (λ (a b : Bool). a || b) (tasks_listed phase w.objects w.kern.tasks thread) (list_any-append (is_row thread) level gone ∙ ap (λ b. list_any (is_row thread) level || b) (ended_listed ended thread))

told_level : (w : WorldState) (ended : Option Ended) (thread : ℕ) → (thread == interrupt_thread) ≡ true
    → is_told w ended thread ≡ (is_some w.watch.level || is_some (regs_ended ended thread))
told_level w ended thread same = rw same (some_or w.watch.level (regs_ended ended thread))

told_task : (w : WorldState) (ended : Option Ended) (thread : ℕ) → (thread == interrupt_thread) ≡ false → (thread == 0) ≡ false
    → is_told w ended thread ≡ (is_some (task_of w.kern.tasks thread) || is_some (regs_ended ended thread))
told_task w ended thread other some =
    rw (other, some)
    (some_or (option_map (λ t. t.regs) (task_of w.kern.tasks thread)) (regs_ended ended thread)
    ∙ ap (λ b. b || is_some (regs_ended ended thread)) (some_map (λ t. t.regs) (task_of w.kern.tasks thread)))

pub in_list : ListedLaw
in_list phase w ended thread kern some =
    elim (eqb_tells thread interrupt_thread) [
      | inl p ↦
          let back : (interrupt_thread == thread) ≡ true = grind (arith, nat_tests, p.1) in
          let none : task_of w.kern.tasks thread ≡ None = none_there w.kern thread kern (omega (arith, p.1)) in
          all_listed phase w ended thread
          ∙ ap₂ (λ (a b : Bool). a || (b || is_some (regs_ended ended thread))) (ap is_some none) (level_listed w.watch.level thread back)
          ∙ sym (told_level w ended thread p.0)
      | inr p ↦
          let back : (interrupt_thread == thread) ≡ false = grind (arith, nat_tests, p.1) in
          let positive : (thread == 0) ≡ false = grind (arith, nat_tests, some) in
          all_listed phase w ended thread
          ∙ ap (λ b. is_some (task_of w.kern.tasks thread) || (b || is_some (regs_ended ended thread))) (level_other w.watch.level thread back)
          ∙ sym (told_task w ended thread p.0 positive)
    ]
