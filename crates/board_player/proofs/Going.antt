-- After an instruction of a task, the same task runs on.
use Rattle.std.proofs.Common.{◌≡◌, ℕ, Bool, true, false, cond, eqb, not, List, [], ◌∷◌, map, Option, None, Some, is_some, refl, sym, ap, ◌∙◌, subst}
use Rattle.std.specs.List.{filter, find}
use Rattle.std.specs.Option.{option_map}
use Rattle.std.proofs.lemmas.Option.{same_Some}
use Rattle.std.proofs.lemmas.Simd.{map-map}
use Rattle.wind_base.specs.declared.regs.Regs.{Regs}
use Rattle.task_block.specs.declared.task.Task.{Task}
use Rattle.task_block.specs.Standing.{is_ready}
use Rattle.id_table.specs.Records.{Rising}
use Rattle.id_table.specs.Sorting.{insert_sorted, sorted, in_line, first}
use Rattle.wind_core.specs.State.{KernState, task_id, task_of}
use Rattle.wind_core.specs.Orders.{is_before, most_urgent, keeps_running, keeper, last_task, or_else, running, runner}
use Rattle.wind_core.specs.Moves.{set_regs, unreserved}
use Rattle.wind_core.proofs.Ticks.{running_found}
use Rattle.wind_core.proofs.Waking.{id_found}
use Rattle.isr_watch.specs.State.{WatchState}
use Rattle.live_loading.specs.KernelWorldState.{WorldState}
use Rattle.live_loading.specs.KernelWorldActor.TheVariants.{Task as by_task}
use Rattle.wind_machine.specs.Reserving.{unless_own, drop_others}
use Rattle.wind_machine.specs.Next.{holds_back}
use Rattle.board_actors.specs.Running.{OnlyRegs}
use Rattle.board_player.specs.Going.{IsRunner, IsKnown, OnlyStepped}
use Rattle.board_player.specs.declared.order.Running.{Running}
use Rattle.board_player.specs.declared.order.Known.{Known}
use Rattle.board_player.specs.declared.order.Known.TheVariants.{Nothing, Called, Runner, Routine}

-- ---- a list in which each element is changed, if that keeps the order and the test
module _ {X : Type 0} (f : X → X) where
  filter_changed : (p : X → Bool) → ((x : X) → p (f x) ≡ p x) → (xs : List X) → filter p (map f xs) ≡ map f (filter p xs)
  filter_changed p same [] = refl
  filter_changed p same (x ∷ xs) =
      ap (λ b. cond b (f x ∷ filter p (map f xs)) (filter p (map f xs))) (same x)
      ∙ elim (p x) as (λ b. cond b (f x ∷ filter p (map f xs)) (filter p (map f xs)) ≡ map f (cond b (x ∷ filter p xs) (filter p xs))) [
        | true ↦ ap (λ ys. f x ∷ ys) (filter_changed p same xs)
        | false ↦ filter_changed p same xs
      ]

  insert_changed : (lt : X → X → Bool) → ((x y : X) → lt (f x) (f y) ≡ lt x y) → (x : X) (ys : List X) → insert_sorted lt (f x) (map f ys) ≡ map f (insert_sorted lt x ys)
  insert_changed lt same x [] = refl
  insert_changed lt same x (y ∷ ys) =
      ap (λ b. cond b (f y ∷ insert_sorted lt (f x) (map f ys)) (f x ∷ f y ∷ map f ys)) (same y x)
      ∙ elim (lt y x) as (λ b. cond b (f y ∷ insert_sorted lt (f x) (map f ys)) (f x ∷ f y ∷ map f ys) ≡ map f (cond b (y ∷ insert_sorted lt x ys) (x ∷ y ∷ ys))) [
        | true ↦ ap (λ zs. f y ∷ zs) (insert_changed lt same x ys)
        | false ↦ refl
      ]

  sorted_changed : (lt : X → X → Bool) → ((x y : X) → lt (f x) (f y) ≡ lt x y) → (xs : List X) → sorted lt (map f xs) ≡ map f (sorted lt xs)
  sorted_changed lt same [] = refl
  sorted_changed lt same (x ∷ xs) = ap (insert_sorted lt (f x)) (sorted_changed lt same xs) ∙ insert_changed lt same x (sorted lt xs)

  first_changed : (xs : List X) → first (map f xs) ≡ option_map f (first xs)
  first_changed [] = refl
  first_changed (x ∷ xs) = refl

  pub find_changed : (p : X → Bool) → ((x : X) → p (f x) ≡ p x) → (xs : List X) → find p (map f xs) ≡ option_map f (find p xs)
  find_changed p same [] = refl
  find_changed p same (x ∷ xs) =
      ap (λ b. cond b (Some (f x)) (find p (map f xs))) (same x)
      ∙ elim (p x) as (λ b. cond b (Some (f x)) (find p (map f xs)) ≡ option_map f (cond b (Some x) (find p xs))) [
        | true ↦ refl
        | false ↦ find_changed p same xs
      ]

-- ---- a task with other registers is as ready as before
module _ (who : ℕ) (regs : Regs) where
  -- what a step of the task leaves of each record
  abbrev left : Task → Task
  left t = cond (eqb (unless_own who t).id who) (record (unless_own who t) { regs = regs }) (unless_own who t)

  other_regs : (t : Task) → (r : Regs) × (left t ≡ record t { regs = r })
  other_regs t =
      elim (eqb t.id who) as (λ b. eqb t.id who ≡ b → (r : Regs) × (cond (eqb (cond b t (unreserved t)).id who) (record (cond b t (unreserved t)) { regs = regs }) (cond b t (unreserved t)) ≡ record t { regs = r })) [
        | true ↦ λ e. (regs, ap (λ c. cond c (record t { regs = regs }) t) e)
        | false ↦ λ e. ((unreserved t).regs, ap (λ c. cond c (record (unreserved t) { regs = regs }) (unreserved t)) e)
      ] refl

  same_id : (t : Task) → (left t).id ≡ t.id
  same_id t = ap (λ u. u.id) (other_regs t).1

  same_standing : (t : Task) → is_ready (left t) ≡ is_ready t
  same_standing t = ap is_ready (other_regs t).1

  same_order : (t u : Task) → is_before (left t) (left u) ≡ is_before t u
  same_order t u = ap (λ v. is_before v (left u)) (other_regs t).1 ∙ ap (is_before t) (other_regs u).1

  same_keeping : (t : Task) → keeps_running (left t) ≡ keeps_running t
  same_keeping t = ap keeps_running (other_regs t).1

  same_lock : (t : Task) → (left t).int_locked ≡ t.int_locked
  same_lock t = ap (λ u. u.int_locked) (other_regs t).1

  urgent_left : (ts : List Task) → most_urgent (map left ts) ≡ option_map left (most_urgent ts)
  urgent_left ts =
      ap (λ xs. first (sorted is_before xs)) (filter_changed left is_ready same_standing ts)
      ∙ ap first (sorted_changed left is_before same_order (filter is_ready ts))
      ∙ first_changed left (in_line is_before is_ready ts)

  task_left : (ts : List Task) → task_of (map left ts) who ≡ option_map left (task_of ts who)
  task_left ts = find_changed left (λ t. eqb t.id who) (λ t. ap (λ n. eqb n who) (same_id t)) ts

  keeper_left : (o : Option Task) → keeper (option_map left o) ≡ option_map left (keeper o)
  keeper_left None = refl
  keeper_left (Some t) =
      ap (λ b. cond b (Some (left t)) None) (same_keeping t)
      ∙ elim (keeps_running t) as (λ b. cond b (Some (left t)) None ≡ option_map left (cond b (Some t) None)) [ true ↦ refl | false ↦ refl ]

  either_left : (o p : Option Task) → or_else (option_map left o) (option_map left p) ≡ option_map left (or_else o p)
  either_left None p = refl
  either_left (Some t) p = refl

  tasks_left : (k : KernState) → (set_regs (drop_others k who) who regs).tasks ≡ map left k.tasks
  tasks_left k = map-map (λ t. cond (eqb t.id who) (record t { regs = regs }) t) (unless_own who) k.tasks

  running_left : (k : KernState) → running (record (set_regs (drop_others k who) who regs) { last = Some who }) ≡ option_map left (running (record k { last = Some who }))
  running_left k =
      ap (λ ts. or_else (keeper (task_of ts who)) (most_urgent ts)) (tasks_left k)
      ∙ ap (λ o. or_else (keeper o) (most_urgent (map left k.tasks))) (task_left k.tasks)
      ∙ ap (λ o. or_else o (most_urgent (map left k.tasks))) (keeper_left (task_of k.tasks who))
      ∙ ap (or_else (option_map left (keeper (task_of k.tasks who)))) (urgent_left k.tasks)
      ∙ either_left (keeper (task_of k.tasks who)) (most_urgent k.tasks)

-- ---- the running task runs on if it is noted as the one that ran last
keeps : (o : Option Task) (x : Task) → keeper o ≡ Some x → keeps_running x ≡ true
keeps None x e = absurd (cc)
keeps (Some t) x e =
    elim (keeps_running t) as (λ b. keeps_running t ≡ b → cond b (Some t) None ≡ Some x → keeps_running x ≡ true) [
      | true ↦ λ h q. ap keeps_running (sym (same_Some t x q)) ∙ h
      | false ↦ λ h q. absurd (cc)
    ] refl e

again : (o p : Option Task) (x : Task) → or_else (keeper o) p ≡ Some x → or_else (keeper (Some x)) p ≡ Some x
again o p x e =
    elim (keeper o) as (λ q. keeper o ≡ q → or_else q p ≡ Some x → or_else (keeper (Some x)) p ≡ Some x) [
      | None ↦ λ h d. elim (keeps_running x) as (λ b. or_else (cond b (Some x) None) p ≡ Some x) [ true ↦ refl | false ↦ d ]
      | Some y ↦ λ h d. ap (λ b. or_else (cond b (Some x) None) p) (keeps o x (h ∙ d))
    ] refl e

runs_again : (k : KernState) (x : Task) → Rising task_id k.tasks → running k ≡ Some x → running (record k { last = Some x.id }) ≡ Some x
runs_again k x up e =
    ap (λ o. or_else (keeper o) (most_urgent k.tasks)) (running_found k x up e)
    ∙ again (last_task k.tasks k.last) (most_urgent k.tasks) x e

-- ---- after a step in which only registers change
runs_on : (k : KernState) (level : Option Regs) (r : Running) (regs : Regs) (x : Task) → Rising task_id k.tasks → running k ≡ Some x → IsRunner k level r
    → IsRunner (record (set_regs (drop_others k x.id) x.id regs) { last = Some x.id }) level r
runs_on k level r regs x up e is =
    let on : running (record (set_regs (drop_others k x.id) x.id regs) { last = Some x.id }) ≡ Some (left x.id regs x) =
    running_left x.id regs k ∙ ap (option_map (left x.id regs)) (runs_again k x up e) in
    record {
      who = is.who ∙ ap (option_map task_id) e ∙ ap Some (sym (same_id x.id regs x)) ∙ ap (option_map task_id) (sym on);
      back = is.back ∙ ap (λ o. not (holds_back o)) e ∙ ap not (sym (same_lock x.id regs x)) ∙ ap (λ o. not (holds_back o)) (sym on);
      idle = is.idle;
    }

pub goes_on : (old new : KernState) (level : Option Regs) (r : Running) (who : ℕ) → Rising task_id old.tasks → IsRunner old level r → r.who ≡ Some who → OnlyStepped old new who → IsRunner new level r
goes_on old new level r who up is some stepped =
    let x = id_found (running old) who (sym some ∙ is.who) in
    subst (λ k. IsRunner k level r) (sym stepped.1)
    (subst (λ n. IsRunner (record (set_regs (drop_others old n) n stepped.0) { last = Some n }) level r) (sym x.2) (runs_on old level r stepped.0 x.0 up x.1 is))

-- ---- what the step of an instruction leaves of the kernel
pub only_stepped : (k : KernState) (began done : WorldState) (new : KernState) (who : ℕ) → began.kern ≡ drop_others k who → OnlyRegs began done (by_task who) → new ≡ record done.kern { last = Some who } → OnlyStepped k new who
only_stepped k began done new who dropped only ended =
    (only.regs, ended ∙ ap (λ (w : WorldState). record w.kern { last = Some who }) only.world ∙ ap (λ (j : KernState). record (set_regs j who only.regs) { last = Some who }) dropped)

-- what is known stays so after such an instruction
pub stays_known : (old new : KernState) (watch then : WatchState) (who : ℕ) (known : Known) → Rising task_id old.tasks → is_some watch.level ≡ false → Some who ≡ runner old
    → IsKnown old watch.level known → OnlyStepped old new who → then ≡ watch → IsKnown new then.level known
stays_known old new watch then who Nothing up idle runs is only same = tt
stays_known old new watch then who (Called reply) up idle runs is only same = tt
stays_known old new watch then who (Runner r) up idle runs is only same =
    subst (λ (w : WatchState). IsRunner new w.level r) (sym same) (goes_on old new watch.level r who up is (is.who ∙ sym runs) only)
stays_known old new watch then who Routine up idle runs is only same = let bad : true ≡ false = sym is.active ∙ idle in absurd (cc)
