-- Each call on watchdogs keeps their invariant.
use Rattle.std.proofs.Common.{◌≡◌, ℕ, suc, ◌+◌, ◌<◌, ◌≤◌, true, false, not, cond, eqb, leb, ltb, List, [], ◌∷◌, ◌++◌, length, map, get_or, Option, None, Some, refl, sym, subst, arith}
use Rattle.std.specs.List.{All}
use Rattle.std.proofs.lemmas.Bool.{leb-false}
use Rattle.std.proofs.lemmas.List.{length-map, get_or-map, length_push}
use Rattle.std.proofs.lemmas.List.Elements.{All-filter, All-head, All-tail, All-cons}
use Rattle.std.proofs.lemmas.List.Kept.{AllPairs-cons}
use Rattle.wind_base.specs.declared.errno.Errno.TheVariants as errors
use Rattle.id_table.specs.Records.{Rising, change, without}
use Rattle.isr_watch.specs.declared.watchdog.Watchdog.{Watchdog}
use Rattle.isr_watch.specs.declared.watchdog.Routine.{Routine}
use Rattle.isr_watch.specs.State.{WatchState, IsWatch, watchdog_id, watchdog_of, is_due}
use Rattle.isr_watch.specs.Calls.{new_watchdog, create_refusal, created, deleted, started, start_found, stopped, cancel_found, stop_due, level_of, rest_of, due, begun, finish}
use Rattle.isr_watch.specs.Laws.{AllBelow, KeptLaw}

-- ---- ids rise
rising_map : (f : Watchdog → Watchdog) (ws : List Watchdog) → ((w : Watchdog) → (f w).id ≡ w.id) → Rising watchdog_id ws → Rising watchdog_id (map f ws)
rising_map f ws same all i j d below within =
    let size : length (map f ws) ≡ length ws = length-map ws f in
    let last : j < length ws = omega (arith, within, size) in
    let first : i < length ws = omega (arith, last, below) in
    subst (λ w. w.id < (get_or (map f ws) j d).id) (sym (get_or-map f ws i d d first))
    (subst (λ v. (f (get_or ws i d)).id < v.id) (sym (get_or-map f ws j d d last))
    (omega (arith, same (get_or ws i d), same (get_or ws j d), all i j d below last)))

rising_change : (ws : List Watchdog) (id : ℕ) (f : Watchdog → Watchdog) → ((w : Watchdog) → (f w).id ≡ w.id) → Rising watchdog_id ws → Rising watchdog_id (change watchdog_id ws id f)
rising_change ws id f same = rising_map (λ w. cond (eqb w.id id) (f w) w) ws (λ w. elim (eqb w.id id) as (λ b. (cond b (f w) w).id ≡ w.id) [ true ↦ same w | false ↦ refl ])

rising_due : (tick : ℕ) (ws : List Watchdog) → Rising watchdog_id ws → Rising watchdog_id (stop_due tick ws)
rising_due tick ws = rising_map (λ w. cond (is_due tick w) (stopped w) w) ws (λ w. elim (is_due tick w) as (λ b. (cond b (stopped w) w).id ≡ w.id) [ true ↦ refl | false ↦ refl ])

rises_head : (w : Watchdog) (ws : List Watchdog) → Rising watchdog_id (w ∷ ws) → All (λ v. w.id < v.id) ws
rises_head w ws all k d within = all 0 (suc k) d (omega arith) (omega (arith, within))

rises_tail : (w : Watchdog) (ws : List Watchdog) → Rising watchdog_id (w ∷ ws) → Rising watchdog_id ws
rises_tail w ws all i j d below within = all (suc i) (suc j) d (omega (arith, below)) (omega (arith, within))

rising_without : (ws : List Watchdog) (id : ℕ) → Rising watchdog_id ws → Rising watchdog_id (without watchdog_id ws id)
rising_without [] id all = all
rising_without (w ∷ ws) id all =
    let rest = rising_without ws id (rises_tail w ws all) in
    elim (eqb w.id id) as (λ b. Rising watchdog_id (cond (not b) (w ∷ without watchdog_id ws id) (without watchdog_id ws id))) [
      | true ↦ rest
      | false ↦ AllPairs-cons (λ v u. watchdog_id v < watchdog_id u) w (without watchdog_id ws id) (All-filter (λ (v : Watchdog). not (eqb v.id id)) (λ v. w.id < v.id) ws (rises_head w ws all)) rest
    ]

rising_push : (ws : List Watchdog) (v : Watchdog) → All (λ w. w.id < v.id) ws → Rising watchdog_id ws → Rising watchdog_id (ws ++ v ∷ [])
rising_push [] v below all = AllPairs-cons (λ w u. watchdog_id w < watchdog_id u) v [] (λ k d within. absurd (omega (arith, within))) all
rising_push (w ∷ ws) v below all =
    let rest = rising_push ws v (All-tail (λ u. u.id < v.id) w ws below) (rises_tail w ws all) in
    AllPairs-cons (λ u x. watchdog_id u < watchdog_id x) w (ws ++ v ∷ []) (after ws (rises_head w ws all)) rest
  where
    after : (us : List Watchdog) → All (λ u. w.id < u.id) us → All (λ u. w.id < u.id) (us ++ v ∷ [])
    after [] each = All-cons (λ u. w.id < u.id) v [] (All-head (λ u. u.id < v.id) w ws below) each
    after (u ∷ us) each = All-cons (λ x. w.id < x.id) u (us ++ v ∷ []) (All-head (λ x. w.id < x.id) u us each) (after us (All-tail (λ x. w.id < x.id) u us each))

-- ---- the number of live watchdogs
few_without : (ws : List Watchdog) (id : ℕ) → length (without watchdog_id ws id) ≤ length ws
few_without [] id = omega arith
few_without (w ∷ ws) id =
    elim (eqb w.id id) as (λ b. length (cond (not b) (w ∷ without watchdog_id ws id) (without watchdog_id ws id)) ≤ length (w ∷ ws)) [
      | true ↦ omega (arith, few_without ws id)
      | false ↦ omega (arith, few_without ws id)
    ]

has_room : (live next : ℕ) → create_refusal live next ≡ None → live + 1 ≤ 256
has_room live next =
    elim (leb 256 live) as (λ b. leb 256 live ≡ b → cond b (Some errors.TooMany) (cond (ltb 1048576 next) (Some errors.IdsSpent) None) ≡ None → live + 1 ≤ 256) [
      | true ↦ λ e none. absurd (cc)
      | false ↦ λ e none. omega (arith, leb-false 256 live e)
    ] refl

-- ---- the interrupt level
idle_next : (top link : ℕ) (listed : List Routine) → level_of top link listed ≡ None → rest_of listed ≡ []
idle_next top link [] none = refl
idle_next top link (x ∷ xs) none = absurd (cc)

module _ (n : ℕ) (s : WatchState) (is : IsWatch s) (below : AllBelow n s) where
  deleted_is : (id : ℕ) (o : Option Watchdog) → IsWatch (deleted s id o)
  deleted_is id None = is
  deleted_is id (Some w) = record { few = omega (arith, is.few, few_without s.watchdogs id); rising = rising_without s.watchdogs id is.rising; idle = is.idle }

  started_is : (id tick delay : ℕ) (routine : Routine) (o : Option Watchdog) → IsWatch (start_found s id tick delay routine o)
  started_is id tick delay routine None = is
  started_is id tick delay routine (Some w) = record {
    few = omega (arith, is.few, length-map s.watchdogs (λ (v : Watchdog). cond (eqb v.id id) (started tick delay routine s.next_start v) v));
    rising = rising_change s.watchdogs id (started tick delay routine s.next_start) (λ v. refl) is.rising;
    idle = is.idle;
  }

  cancelled_is : (id : ℕ) (o : Option Watchdog) → IsWatch (cancel_found s id o)
  cancelled_is id None = is
  cancelled_is id (Some w) = record {
    few = omega (arith, is.few, length-map s.watchdogs (λ (v : Watchdog). cond (eqb v.id id) (stopped v) v));
    rising = rising_change s.watchdogs id stopped (λ v. refl) is.rising;
    idle = is.idle;
  }

  due_is : (tick top : ℕ) → IsWatch (due s tick top)
  due_is tick top = record {
    few = omega (arith, is.few, length-map s.watchdogs (λ (v : Watchdog). cond (is_due tick v) (stopped v) v));
    rising = rising_due tick s.watchdogs is.rising;
    idle = idle_next top s.link _;
  }

  begun_is : (routines : List Routine) (top : ℕ) → IsWatch (begun s routines top)
  begun_is routines top = record { few = is.few; rising = is.rising; idle = idle_next top s.link (s.listed ++ routines) }

  finished_is : (top : ℕ) → IsWatch (finish s top)
  finished_is top = record { few = is.few; rising = is.rising; idle = idle_next top s.link s.listed }

  created_is : create_refusal (length s.watchdogs) n ≡ None → IsWatch (created s n)
  created_is none = record {
    few = omega (arith, length_push s.watchdogs (new_watchdog n), has_room (length s.watchdogs) n none);
    rising = rising_push s.watchdogs (new_watchdog n) below is.rising;
    idle = is.idle;
  }

pub watch_stays : KeptLaw
watch_stays n s is below = record {
  creating = created_is n s is below;
  deleting = λ id. deleted_is n s is below id (watchdog_of s.watchdogs id);
  starting = λ id tick delay routine. started_is n s is below id tick delay routine (watchdog_of s.watchdogs id);
  cancelling = λ id. cancelled_is n s is below id (watchdog_of s.watchdogs id);
  ticking = due_is n s is below;
  beginning = begun_is n s is below;
  finishing = finished_is n s is below;
  returning = λ link. record { few = is.few; rising = is.rising; idle = is.idle };
  going_on = λ regs some. record { few = is.few; rising = is.rising; idle = λ none. absurd (cc) };
}
