-- Settling priorities at the end of a step changes nothing after an instruction.
use Rattle.std.proofs.Common.{◌≡◌, ℕ, ◌+◌, ◌<◌, true, false, cond, eqb, List, [], ◌∷◌, map, Option, None, Some, IfSome, refl, sym, ap, ◌∙◌, subst, arith}
use Rattle.std.specs.Option.{option_map}
use Rattle.wind_base.specs.Limits.{most_steps}
use Rattle.wind_base.specs.declared.regs.Regs.{Regs}
use Rattle.task_block.specs.declared.task.Task.{Task}
use Rattle.id_table.specs.Records.{change}
use Rattle.wind_core.specs.State.{KernState, IsKern, task_id}
use Rattle.wind_core.specs.Moves.{unreserved, set_regs}
use Rattle.wind_core.specs.Move.{SetRegs}
use Rattle.wind_core.proofs.Moving.{move_keeps}
use Rattle.wind_core.proofs.Unwritten.{with_id, map-change}
use Rattle.inheritance.specs.Mutexes.{both as with_mutexes}
use Rattle.inheritance.specs.Reach.{IsExact}
use Rattle.tick_file.specs.Laws.{IsEarly}
use Rattle.tick_file.specs.declared.event.Event.{Event}
use Rattle.live_loading.specs.KernelWorldSettling.{HasExact}
use Rattle.live_loading.proofs.KernelWorldSettling.{settled_same}
use Rattle.wind_machine.specs.LiveLoadingSaid.{FileSaid}
use Rattle.wind_machine.specs.State.{State}
use Rattle.wind_machine.specs.Good.{Good, KeepsEffect}
use Rattle.wind_machine.specs.Laws.{EffectLaw, CountLaw}
use Rattle.wind_machine.specs.Events.{next_event, delivery_step, event_step, arrival, jump}
use Rattle.wind_machine.specs.ActorSteps.{step_of, routine_step}
use Rattle.wind_machine.specs.Next.{next}
use Rattle.wind_machine.specs.Reserving.{unless_own, drop_others, drop_all}
use Rattle.wind_machine.specs.Machine.{state_after, machine_step, settled_state}
use Rattle.wind_machine.specs.declared.next.Next.{Next}
use Rattle.wind_machine.specs.declared.next.Next.TheVariants.{Deliver, Come, Arrive, Jump}
use Rattle.wind_machine.proofs.Alike.{lends, SameLends, exact_alike}
use Rattle.board_player.specs.Going.{OnlyStepped}
use Rattle.board_player.specs.Settling.{CanSettle, Makes}

-- ---- neither registers nor reservations are read by inheritance
pub regs_lend : (ts : List Task) (who : ℕ) (m : Regs) → SameLends ts (change task_id ts who (λ t. record t { regs = m }))
regs_lend ts who m = map-change (with_id lends) ts who (λ t. record t { regs = m }) (λ t. refl)

other_lends : (who : ℕ) (ts : List Task) → SameLends ts (map (unless_own who) ts)
other_lends who [] = refl
other_lends who (t ∷ ts) =
    let own : with_id lends (unless_own who t) ≡ with_id lends t = elim (eqb t.id who) as (λ b. with_id lends (cond b t (unreserved t)) ≡ with_id lends t) [ true ↦ refl | false ↦ refl ] in
    ap (λ q. q ∷ map (with_id lends) (map (unless_own who) ts)) own ∙ ap (λ qs. with_id lends t ∷ qs) (other_lends who ts)

pub all_lend : (ts : List Task) → SameLends ts (map unreserved ts)
all_lend [] = refl
all_lend (t ∷ ts) = ap (λ qs. with_id lends t ∷ qs) (all_lend ts)

pub stepped_lends : (old new : KernState) (who : ℕ) → OnlyStepped old new who → SameLends old.tasks new.tasks
stepped_lends old new who only =
    subst (λ (k : KernState). SameLends old.tasks k.tasks) (sym only.1) (regs_lend (drop_others old who).tasks who only.0 ∙ other_lends who old.tasks)

pub dropped_lends : (old new : KernState) → new ≡ drop_all old → SameLends old.tasks new.tasks
dropped_lends old new e = subst (λ (k : KernState). SameLends old.tasks k.tasks) (sym e) (all_lend old.tasks)

-- ---- so after such a step priorities are exact
pub still_exact : (s t : State) → t.world.objects ≡ s.world.objects → SameLends s.world.kern.tasks t.world.kern.tasks → HasExact s.world → HasExact t.world
still_exact s t same alike exact =
    subst (λ o. IsExact (with_mutexes t.world.kern o.mutexes)) (sym same) (exact_alike s.world.kern t.world.kern alike s.world.objects.mutexes exact)

pub still_settled : (s t : State) → IsKern t.world.kern → t.world.objects ≡ s.world.objects → SameLends s.world.kern.tasks t.world.kern.tasks → HasExact s.world → settled_state t ≡ t
still_settled s t is same alike exact = ap (λ w. record t { world = w }) (settled_same t.world is (still_exact s t same alike exact))

pub regs_keep : (k : KernState) (who : ℕ) (m : Regs) → IsKern k → IsKern (set_regs k who m)
regs_keep k who m is = move_keeps k (SetRegs who m) is tt

-- ---- what a step leaves can be settled
module _ (effect : EffectLaw) (count : CountLaw) (s : State) (early : IfSome (next_event s) IsEarly) (good : Good s) (few : s.steps < most_steps) where
  counted : (said : FileSaid) (o : Option State) → state_after said s (next s) ≡ o → IfSome o KeepsEffect → IfSome o CanSettle
  unfolding machine_step
  counted said None e h = tt
  counted said (Some u) e h =
      let same : u.steps ≡ s.steps + 1 = count said s (settled_state u) (ap (option_map settled_state) e) in
      (h, omega (arith, same, few))

  pub leaves : (n : Next) → n ≡ next s → (said : FileSaid) → IfSome (state_after said s n) CanSettle
  leaves n e said = subst (λ m. IfSome (state_after said s m) CanSettle) (sym e) (counted said (state_after said s (next s)) refl (effect said s early good))

pub left_by : (said : FileSaid) (s t u : State) (n m : Next) → n ≡ m → state_after said s m ≡ Some u → t ≡ u → IfSome (state_after said s n) CanSettle → CanSettle t
left_by said s t u n m e is same h =
    subst CanSettle (sym same) (subst (λ o. IfSome o CanSettle) is (subst (λ x. IfSome (state_after said s x) CanSettle) e h))

-- ---- a step and settling
pub makes : (s t u v : State) (n m : Next) → n ≡ m → ((said : FileSaid) → state_after said s m ≡ Some u) → v ≡ u → t ≡ settled_state v → Makes s n t
makes s t u v n m e is same settled said =
    ap (λ x. option_map settled_state (state_after said s x)) e ∙ ap (option_map settled_state) (is said) ∙ ap (λ x. Some (settled_state x)) (sym same) ∙ ap Some (sym settled)

-- the same of a delivery, of an event, and of bytes that arrive
pub deliver_left : (said : FileSaid) (s t : State) (n : Next) (i : ℕ) → n ≡ Deliver i → t ≡ delivery_step s i → IfSome (state_after said s n) CanSettle → CanSettle t
deliver_left said s t n i is same h = left_by said s t (delivery_step s i) n (Deliver i) is refl same h

pub deliver_makes : (s t v : State) (n : Next) (i : ℕ) → n ≡ Deliver i → v ≡ delivery_step s i → t ≡ settled_state v → Makes s n t
deliver_makes s t v n i is same settled = makes s t (delivery_step s i) v n (Deliver i) is (λ said. refl) same settled

pub come_left : (said : FileSaid) (s t : State) (n : Next) (e : Event) → n ≡ next s → n ≡ Come e → t ≡ event_step s e → IfSome (state_after said s n) CanSettle → CanSettle t
come_left said s t n e first is same h = left_by said s t (event_step s e) n (Come e) is refl same h

pub come_makes : (s t v : State) (n : Next) (e : Event) → n ≡ next s → n ≡ Come e → v ≡ event_step s e → t ≡ settled_state v → Makes s n t
come_makes s t v n e first is same settled = makes s t (event_step s e) v n (Come e) is (λ said. refl) same settled

pub arrive_left : (said : FileSaid) (s t : State) (n : Next) → n ≡ Arrive → t ≡ arrival s → IfSome (state_after said s n) CanSettle → CanSettle t
arrive_left said s t n is same h = left_by said s t (arrival s) n Arrive is refl same h

pub arrive_makes : (s t v : State) (n : Next) → n ≡ Arrive → v ≡ arrival s → t ≡ settled_state v → Makes s n t
arrive_makes s t v n is same settled = makes s t (arrival s) v n Arrive is (λ said. refl) same settled

-- time jumps: nothing else changes
pub jumps : (s t : State) (n : Next) (time : ℕ) → Good s → n ≡ Jump time → t ≡ jump s time → Makes s n t
jumps s t n time good e same =
    let still : settled_state (jump s time) ≡ jump s time = still_settled s (jump s time) good.kept.world.kern refl refl good.exact in
    makes s t (jump s time) (jump s time) n (Jump time) e (λ said. refl) refl (same ∙ sym still)

-- nor does settling change anything after an instruction of a task
pub stepped_still : (s t : State) (who : ℕ) → t ≡ step_of s who → CanSettle (step_of s who) → OnlyStepped s.world.kern t.world.kern who → t.world.objects ≡ s.world.objects → Good s → t ≡ settled_state (step_of s who)
stepped_still s t who same left only objects good =
    let is : IsKern t.world.kern = (subst CanSettle (sym same) left).0.world.kern in
    sym (still_settled s t is objects (stepped_lends s.world.kern t.world.kern who only) good.exact) ∙ ap settled_state same

-- nor after one of the active interrupt routine
pub routine_still : (s t : State) → t ≡ routine_step s → CanSettle (routine_step s) → t.world.kern ≡ drop_all s.world.kern → t.world.objects ≡ s.world.objects → Good s → t ≡ settled_state (routine_step s)
routine_still s t same left dropped objects good =
    let is : IsKern t.world.kern = (subst CanSettle (sym same) left).0.world.kern in
    sym (still_settled s t is objects (dropped_lends s.world.kern t.world.kern dropped) good.exact) ∙ ap settled_state same
