-- Each wait is for a live object, through the calls on semaphores and the kernel's other moves; and which task gets a semaphore.
use Rattle.std.proofs.Common.{◌≡◌, ℕ, Bool, true, false, ◌&&◌, ◌||◌, not, cond, eqb, List, [], ◌∷◌, ◌++◌, get_or, Option, None, Some, IfSome, is_some, refl, ap, ◌∙◌, subst}
use Rattle.std.specs.List.{Contains, filter}
use Rattle.std.specs.Option.{option_map}
use Rattle.std.proofs.lemmas.List.Elements.{All-weaker, All-contains, All-filter, All-contains_itself}
use Rattle.wind_base.specs.declared.errno.Errno.{Errno}
use Rattle.wind_base.specs.declared.errno.Errno.TheVariants as errors
use Rattle.wind_base.specs.SemBits.{is_priority}
use Rattle.id_table.specs.Rows.{object_of, with_object, without}
use Rattle.id_table.specs.declared.ident.Place.{Place}
use Rattle.id_table.proofs.Lookups.{object_of-write, object_of-without, object_of-push}
use Rattle.task_block.specs.declared.task.Task.{Task}
use Rattle.id_table.specs.Sorting.{first}
use Rattle.id_table.proofs.Orders.{first_least}
use Rattle.id_table.proofs.Passing.{contains_filter, front_passes, none_passes}
use Rattle.wind_core.specs.State.{KernState, IsKern, task_id}
use Rattle.wind_core.specs.Orders.{same_place, is_place, waits_at, waits_before}
use Rattle.wind_core.specs.Moves.{pend, end_wait, wake_all}
use Rattle.wind_core.proofs.Passes.{waits_before-order}
use Rattle.wind_core.proofs.Lawful.{none_left}
use Rattle.sem_plain.specs.declared.semaphore.Semaphore.{Semaphore}
use Rattle.sem_plain.specs.State.{SemState, both, sem_place}
use Rattle.sem_plain.specs.Calls.{live, new_semaphore, declined, taken, starved, take_deed, counted_down, after_take, take, denied, passed_on, counted, give_deed, counted_up, next_of, after_give, give}
use Rattle.sem_plain.specs.Kept.{WaitsLive, live_with, BeginsOnly}
use Rattle.sem_plain.specs.Laws.{nowhere, LiveBesideLaw, WaitsLiveIn, LiveCallsLaw, HandLaw, WokenLaw}
use Rattle.sem_plain.proofs.Beginning.{all_old}
use Rattle.sem_plain.proofs.Deeds.{TakeIs, take_is}
use Rattle.sem_plain.proofs.Moving.{begins-pend, begins-end_wait, begins-wake_all}
use Rattle.sem_plain.proofs.Keeping.{place_is}

pub live_beside : LiveBesideLaw
live_beside live begins k n all moves may = all_old (λ w. IfSome w (λ p. live p ≡ true)) begins k.tasks n.tasks tt all may moves.waits

module _ (others : Place → Bool) where
  live_calmly : (s : SemState) (n : KernState) → WaitsLiveIn others s → BeginsOnly nowhere s.kern n → WaitsLiveIn others (both n s.semaphores)
  live_calmly s n all moves = live_beside (live_with others s.semaphores) nowhere s.kern n all moves (λ p b. absurd (cc))

  -- a place that is live with some semaphores is live with others that have at least their ids
  grows : (ss us : List (ℕ × Semaphore)) → ((n : ℕ) → is_some (object_of ss n) ≡ true → is_some (object_of us n) ≡ true) → (p : Place) → live_with others ss p ≡ true → live_with others us p ≡ true
  grows ss us more p =
      elim (eqb p.side 0) as (λ b. ((b && is_some (object_of ss p.id)) || others p) ≡ true → ((b && is_some (object_of us p.id)) || others p) ≡ true) [
        | true ↦
            elim (is_some (object_of ss p.id)) as (λ c. is_some (object_of ss p.id) ≡ c → (c || others p) ≡ true → (is_some (object_of us p.id) || others p) ≡ true) [
              | true ↦ λ c h. ap (λ d. d || others p) (more p.id c)
              | false ↦ λ c h. ap (λ d. is_some (object_of us p.id) || d) h ∙ or_true (is_some (object_of us p.id))
            ] refl
        | false ↦ λ h. h
      ]
    where
      or_true : (b : Bool) → (b || true) ≡ true
      or_true true = refl
      or_true false = refl

  all_grow : (k : KernState) (ss us : List (ℕ × Semaphore)) → ((n : ℕ) → is_some (object_of ss n) ≡ true → is_some (object_of us n) ≡ true) → WaitsLive (live_with others ss) k → WaitsLive (live_with others us) k
  all_grow k ss us more all =
      All-weaker (λ t. IfSome t.wait (λ p. live_with others ss p ≡ true)) (λ t. IfSome t.wait (λ p. live_with others us p ≡ true)) (λ t. each t.wait) k.tasks all
    where
      each : (w : Option Place) → IfSome w (λ p. live_with others ss p ≡ true) → IfSome w (λ p. live_with others us p ≡ true)
      each None h = tt
      each (Some p) h = grows ss us more p h

  more_written : (ss : List (ℕ × Semaphore)) (id : ℕ) (y : Semaphore) (n : ℕ) → is_some (object_of ss n) ≡ true → is_some (object_of (with_object ss id y) n) ≡ true
  more_written ss id y n h =
      ap is_some (object_of-write ss id n y) ∙ elim (object_of ss n) as (λ o. is_some o ≡ true → is_some (option_map (λ x. cond (eqb n id) y x) o) ≡ true) [ None ↦ λ q. absurd (cc) | Some x ↦ λ q. refl ] h

  more_pushed : (ss : List (ℕ × Semaphore)) (id : ℕ) (v : Semaphore) (n : ℕ) → is_some (object_of ss n) ≡ true → is_some (object_of (ss ++ (id, v) ∷ []) n) ≡ true
  more_pushed ss id v n h = ap is_some (object_of-push ss id n v) ∙ ap (λ c. is_some (cond c (object_of ss n) (cond (eqb id n) (Some v) None))) h ∙ h

  -- tasks wait for a semaphore at a live place
  lives_there : (s : SemState) (id : ℕ) (v : Semaphore) (p : Place) → live s id ≡ Some v → same_place (sem_place id) p ≡ true → live_with others s.semaphores p ≡ true
  lives_there s id v p e here = subst (λ q. live_with others s.semaphores q ≡ true) (place_is (sem_place id) p here) (ap (λ o. is_some o || others (sem_place id)) e)

  take_lives : (s : SemState) (who id n : ℕ) → WaitsLiveIn others s → WaitsLiveIn others (take s who id n)
  take_lives s who id n all =
      elim (take_deed n (live s id)) as (λ d. TakeIs s id n d → WaitsLiveIn others (after_take s who id n d)) [
        | declined e ↦ λ is. all
        | taken v ↦ λ is. all_grow s.kern s.semaphores (with_object s.semaphores id (counted_down v)) (more_written s.semaphores id (counted_down v)) all
        | starved v ↦ λ is.
            live_beside (live_with others s.semaphores) (same_place (sem_place id)) s.kern (pend s.kern who (sem_place id) (not (is_priority v.options)) n) all
            (begins-pend s.kern who (sem_place id) (not (is_priority v.options)) n) (λ p here. lives_there s id v p is.0 here)
      ] (take_is s id n)

  give_lives : (s : SemState) (id : ℕ) → WaitsLiveIn others s → WaitsLiveIn others (give s id)
  give_lives s id all =
      elim (give_deed (next_of s id) (live s id)) as (λ d. WaitsLiveIn others (after_give s id d)) [
        | denied e ↦ all
        | passed_on t ↦ live_calmly s (end_wait s.kern t.id 0 None) all (begins-end_wait s.kern t.id 0 None)
        | counted v ↦ all_grow s.kern s.semaphores (with_object s.semaphores id (counted_up v)) (more_written s.semaphores id (counted_up v)) all
      ]

  wake_lives : (s : SemState) (id answer : ℕ) (errno : Option Errno) → WaitsLiveIn others s → WaitsLiveIn others (both (wake_all s.kern (sem_place id) answer errno) s.semaphores)
  wake_lives s id answer errno all = live_calmly s (wake_all s.kern (sem_place id) answer errno) all (begins-wake_all s.kern (sem_place id) answer errno)

  -- if no task waits for it, a semaphore can be removed
  goes : (ss : List (ℕ × Semaphore)) (id : ℕ) (w : Option Place) → IfSome w (λ p. live_with others ss p ≡ true) → is_place (sem_place id) w ≡ false → IfSome w (λ p. live_with others (without ss id) p ≡ true)
  goes ss id None lives away = tt
  goes ss id (Some p) lives away =
      elim (eqb p.side 0) as (λ b. ((b && is_some (object_of ss p.id)) || others p) ≡ true → (b && eqb p.id id) ≡ false → ((b && is_some (object_of (without ss id) p.id)) || others p) ≡ true) [
        | true ↦ λ h other. ap (λ o. is_some o || others p) (object_of-without ss id p.id ∙ ap (λ c. cond c None (object_of ss p.id)) other) ∙ h
        | false ↦ λ h other. h
      ] lives away

  delete_lives : (s : SemState) (id answer : ℕ) (errno : Option Errno) → IsKern s.kern → WaitsLiveIn others s → WaitsLiveIn others (both (wake_all s.kern (sem_place id) answer errno) (without s.semaphores id))
  delete_lives s id answer errno is all =
      let woken = wake_all s.kern (sem_place id) answer errno in
      let none = none_passes task_id waits_before waits_before-order (waits_at (sem_place id)) woken.tasks (ap first (none_left s.kern is (sem_place id) answer errno)) in
      λ i d within. goes s.semaphores id (get_or woken.tasks i d).wait (wake_lives s id answer errno all i d within) (none i d within)

pub calls_live : LiveCallsLaw
calls_live others s is all = record {
  creating = λ kind options count. all_grow others s.kern s.semaphores (s.semaphores ++ (s.kern.next_id, new_semaphore kind options count) ∷ []) (more_pushed others s.semaphores s.kern.next_id (new_semaphore kind options count)) all;
  taking = λ who id n. take_lives others s who id n all;
  giving = λ id. give_lives others s id all;
  flushing = λ id. wake_lives others s id 0 None all;
  deleting = λ id. delete_lives others s id 4294967295 (Some errors.ObjDeleted) is all;
}

-- ---- which task gets it
pub hands : HandLaw
hands s id x e =
    let waits : Task → Bool = waits_at (sem_place id) in
    let least = first_least waits_before waits_before-order (filter waits s.kern.tasks) x e in
    record {
      lives = All-contains (Contains s.kern.tasks) (filter waits s.kern.tasks) x (All-filter waits (Contains s.kern.tasks) s.kern.tasks (All-contains_itself s.kern.tasks)) least.0;
      waits = front_passes task_id waits_before waits_before-order waits s.kern.tasks x e;
      first = λ u at there. least.1 u (All-contains (λ y. waits y ≡ true → Contains (filter waits s.kern.tasks) y) s.kern.tasks u (contains_filter waits s.kern.tasks) at there);
    }

pub wakes : WokenLaw
wakes s id is = (none_left s.kern is (sem_place id) 0 None, none_left s.kern is (sem_place id) 4294967295 (Some errors.ObjDeleted))
