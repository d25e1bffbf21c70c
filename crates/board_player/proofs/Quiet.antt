-- Settling changes nothing after an event that wakes nobody, nor after a delivery.
use Rattle.std.proofs.Common.{◌≡◌, ℕ, ◌+◌, ◌<◌, true, false, cond, eqb, leb, List, [], ◌∷◌, map, Option, None, Some, IfSome, refl, sym, ap, ◌∙◌, subst}
use Rattle.std.specs.List.{All, filter, fold}
use Rattle.std.proofs.lemmas.Bool.{lt-leb}
use Rattle.std.proofs.lemmas.List.Elements.{All-head, All-tail}
use Rattle.tick_file.specs.declared.event.Event.{Event}
use Rattle.tick_file.specs.declared.event.Event.TheVariants.{Tick, Rx, Irq}
use Rattle.task_block.specs.declared.task.Task.{Task}
use Rattle.id_table.specs.Sorting.{sorted}
use Rattle.wind_core.specs.State.{KernState, IsKern, WakesAhead}
use Rattle.wind_core.specs.Orders.{running, arrives_before, has_come, is_due}
use Rattle.wind_core.specs.Moves.{renewed, unreserved}
use Rattle.wind_core.specs.Tick.{slice_counted, count_found_slice, count_slice_of, count_slice, time_out, tick_counted, tick}
use Rattle.wind_core.proofs.Unwritten.{with_id, map-change}
use Rattle.wind_machine.specs.LiveLoadingSaid.{FileSaid}
use Rattle.wind_machine.specs.State.{State}
use Rattle.wind_machine.specs.Good.{Good}
use Rattle.wind_machine.specs.Events.{delivery_step, event_step}
use Rattle.wind_machine.specs.Reserving.{drop_all}
use Rattle.wind_machine.specs.Machine.{state_after, settled_state}
use Rattle.wind_machine.specs.declared.next.Next.{Next}
use Rattle.wind_machine.specs.declared.next.Next.TheVariants.{Deliver}
use Rattle.wind_machine.proofs.Alike.{lends, SameLends}
use Rattle.board_player.specs.Settling.{CanSettle, Makes, IsQuiet}
use Rattle.board_player.proofs.Settled.{all_lend, still_settled, deliver_left, deliver_makes}

-- ---- a field that neither an order number nor a time slice changes
module _ {A : Type 0} (field : Task → A) (renews : (n : ℕ) (t : Task) → field (renewed n t) ≡ field t) (turns : (n : ℕ) (t : Task) → field (record t { turns = n }) ≡ field t) where
  slice-same : (slice since : ℕ) (t : Task) → field (slice_counted slice since t) ≡ field t
  slice-same slice since t =
      elim (leb slice (t.turns + 1)) as (λ b. field (cond b (renewed since (record t { turns = 0 })) (record t { turns = t.turns + 1 })) ≡ field t) [
        | true ↦ renews since (record t { turns = 0 }) ∙ turns 0 t
        | false ↦ turns (t.turns + 1) t
      ]

  slice_of-same : (k : KernState) (o : Option Task) → map field (count_slice_of k o).tasks ≡ map field k.tasks
  slice_of-same k None = refl
  slice_of-same k (Some t) =
      elim (eqb t.locks 0) as (λ b. map field (cond b (count_found_slice k t) k).tasks ≡ map field k.tasks) [
        | true ↦ map-change field k.tasks t.id (slice_counted k.slice k.next_since) (slice-same k.slice k.next_since)
        | false ↦ refl
      ]

  slices-same : (k : KernState) → map field (count_slice k).tasks ≡ map field k.tasks
  slices-same k = elim (eqb k.slice 0) as (λ b. map field (cond b k (count_slice_of k (running k))).tasks ≡ map field k.tasks) [ true ↦ refl | false ↦ slice_of-same k (running k) ]

-- ---- a tick at which no task wakes
abbrev wake : Task → Option ℕ
wake t = t.wake

not_yet : (n : ℕ) (o : Option ℕ) → IfSome o (λ w. n < w) → has_come n o ≡ false
not_yet n None ahead = refl
not_yet n (Some w) ahead = lt-leb w n ahead

none_due : (n : ℕ) (ts us : List Task) → All (WakesAhead n) ts → map wake us ≡ map wake ts → filter (is_due n) us ≡ []
none_due n ts [] ahead same = refl
none_due n [] (u ∷ us) ahead same = absurd (cc)
none_due n (t ∷ ts) (u ∷ us) ahead same =
    let here : u.wake ≡ t.wake = cc in
    let rest : map wake us ≡ map wake ts = cc in
    ap (λ b. cond b (u ∷ filter (is_due n) us) (filter (is_due n) us)) (ap (has_come n) here ∙ not_yet n t.wake (All-head (WakesAhead n) t ts ahead))
    ∙ none_due n ts us (All-tail (WakesAhead n) t ts ahead) rest

wakes-unreserved : (ts : List Task) → map wake (map unreserved ts) ≡ map wake ts
wakes-unreserved [] = refl
wakes-unreserved (t ∷ ts) = ap (λ os. t.wake ∷ os) (wakes-unreserved ts)

pub tick_lends : (k : KernState) → All (WakesAhead (k.tick + 1)) k.tasks → SameLends k.tasks (tick (drop_all k)).tasks
tick_lends k ahead =
    let before : KernState = tick_counted (drop_all k) in
    let counted : KernState = count_slice before in
    let same : map wake counted.tasks ≡ map wake k.tasks = slices-same wake (λ n t. refl) (λ n t. refl) before ∙ wakes-unreserved k.tasks in
    let none : filter (is_due (k.tick + 1)) counted.tasks ≡ [] = none_due (k.tick + 1) k.tasks counted.tasks ahead same in
    ap (λ (ts : List Task). map (with_id lends) (fold time_out counted (sorted arrives_before ts)).tasks) none
    ∙ slices-same (with_id lends) (λ n t. refl) (λ n t. refl) before
    ∙ all_lend k.tasks

-- ---- an event that wakes nobody
event_lends : (s : State) (e : Event) → IsQuiet s.world.kern e → SameLends s.world.kern.tasks (event_step s e).world.kern.tasks
event_lends s Tick quiet = tick_lends s.world.kern quiet
event_lends s (Rx n) quiet = absurd quiet
event_lends s (Irq i) quiet = all_lend s.world.kern.tasks

event_objects : (s : State) (e : Event) → (event_step s e).world.objects ≡ s.world.objects
event_objects s Tick = refl
event_objects s (Rx n) = refl
event_objects s (Irq i) = refl

pub event_still : (s t : State) (e : Event) → IsQuiet s.world.kern e → t ≡ event_step s e → CanSettle (event_step s e) → Good s → t ≡ settled_state (event_step s e)
event_still s t e quiet same left good =
    let is : IsKern t.world.kern = (subst CanSettle (sym same) left).0.world.kern in
    let alike : SameLends s.world.kern.tasks t.world.kern.tasks = subst (λ (u : State). SameLends s.world.kern.tasks u.world.kern.tasks) (sym same) (event_lends s e quiet) in
    sym (still_settled s t is (ap (λ (u : State). u.world.objects) same ∙ event_objects s e) alike good.exact) ∙ ap settled_state same

-- ---- a delivery
pub deliver_still : (said : FileSaid) (s t : State) (n : Next) (i : ℕ) → n ≡ Deliver i → t ≡ delivery_step s i → IfSome (state_after said s n) CanSettle → Good s → Makes s n t
deliver_still said s t n i is same left good =
    let can : CanSettle t = deliver_left said s t n i is same left in
    let alike : SameLends s.world.kern.tasks t.world.kern.tasks = subst (λ (u : State). SameLends s.world.kern.tasks u.world.kern.tasks) (sym same) (all_lend s.world.kern.tasks) in
    deliver_makes s t t n i is same (sym (still_settled s t can.0.world.kern (ap (λ (u : State). u.world.objects) same) alike good.exact))
