-- There is room for a new request: the valid ones are of tasks that wait, and the caller doesn't wait.
use Rattle.std.proofs.Common.{◌≡◌, ◌≢◌, ℕ, ◌+◌, ◌<◌, ◌≤◌, true, false, ◌||◌, cond, eqb, List, [], ◌∷◌, map, length, get_or, Option, None, Some, refl, sym, ap, ◌∙◌, subst, arith}
use Rattle.std.specs.List.{All, AllPairs, filter, list_any, IsDistinct}
use Rattle.std.proofs.lemmas.Bool.{eqb-true, eqb-false, eq-eqb, ne_eqb}
use Rattle.std.proofs.lemmas.Bool.Decides.{Decides-eqb}
use Rattle.std.proofs.lemmas.Cmp.{nat_eq_equiv}
use Rattle.std.proofs.lemmas.List.{length-map, get_or-map}
use Rattle.std.proofs.lemmas.List.Elements.{All-cons, All-head, All-tail, All-map, All-weaker, recursion_from_All, filter_passes}
use Rattle.std.proofs.lemmas.List.Kept.{AllPairs-filter}
use Rattle.std.proofs.lemmas.Map.Keys.{IsDistinct-cons}
use Rattle.std.proofs.lemmas.Map.Made.{IsDistinct-from_AllPairs, length-le_from_is_member}
use Rattle.task_block.specs.declared.task.Task.{Task}
use Rattle.task_block.specs.Standing.{is_ready}
use Rattle.wind_core.specs.State.{KernState, IsKern, task_id, task_of}
use Rattle.msg_queue.specs.declared.asks.Ask.{Ask}
use Rattle.msg_queue.specs.State.{waits_there, counts}
use Rattle.msg_queue.proofs.Waits.{ready_waits, other_asks}

any_of : (q : ℕ) (xs ys : List ℕ) → All (λ n. list_any (eqb n) ys ≡ true) xs → list_any (eqb q) xs ≡ true → list_any (eqb q) ys ≡ true
any_of q [] ys all e = absurd (cc)
any_of q (x ∷ xs) ys all e =
    elim (eqb q x) as (λ b. eqb q x ≡ b → (b || list_any (eqb q) xs) ≡ true → list_any (eqb q) ys ≡ true) [
      | true ↦ λ b h. subst (λ n. list_any (eqb n) ys ≡ true) (sym (eqb-true q x b)) (All-head (λ n. list_any (eqb n) ys ≡ true) x xs all)
      | false ↦ λ b h. any_of q xs ys (All-tail (λ n. list_any (eqb n) ys ≡ true) x xs all) h
    ] refl e

among_tasks : (ts : List Task) (n : ℕ) (t : Task) → task_of ts n ≡ Some t → list_any (eqb n) (map task_id ts) ≡ true
among_tasks [] n t e = absurd (cc)
among_tasks (x ∷ ts) n t e =
    elim (eqb x.id n) as (λ b. eqb x.id n ≡ b → cond b (Some x) (task_of ts n) ≡ Some t → (eqb n x.id || list_any (eqb n) (map task_id ts)) ≡ true) [
      | true ↦ λ b h. ap (λ v. v || list_any (eqb n) (map task_id ts)) (eq-eqb n x.id (sym (eqb-true x.id n b)))
      | false ↦ λ b h. ap (λ v. v || list_any (eqb n) (map task_id ts)) (ne_eqb n x.id (λ q. eqb-false x.id n b (sym q))) ∙ among_tasks ts n t h
    ] refl e

live_there : (a : Ask) (o : Option Task) → waits_there a.place o ≡ true → (t : Task) × (o ≡ Some t)
live_there a None e = absurd (cc)
live_there a (Some t) e = (t, refl)

distinct_whos : (asks : List Ask) → AllPairs (λ a b. a.who ≡ b.who → ⊥) asks → AllPairs (λ m n. m ≢ n) (map (λ (a : Ask). a.who) asks)
distinct_whos asks apart i j d hij hj =
    let long = length-map asks (λ (a : Ask). a.who) in
    let within : j < length asks = omega (arith, long) in
    let front : i < length asks = omega arith in
    let e : Ask = get_or asks i (record { who = 0; place = record { side = 0; id = 0 }; buffer = 0; count = 0; urgent = false }) in
    λ same. apart i j e hij within (sym (get_or-map (λ (a : Ask). a.who) asks i e d front) ∙ same ∙ get_or-map (λ (a : Ask). a.who) asks j e d within)

pub room : (k : KernState) (asks : List Ask) (who : ℕ) (t : Task) → IsKern k → AllPairs (λ a b. a.who ≡ b.who → ⊥) asks → task_of k.tasks who ≡ Some t → is_ready t ≡ true
    → length (filter (counts k) asks) < 256
room k asks who t is apart here ready =
    let fs = filter (counts k) asks in
    let ws : List ℕ = map (λ (a : Ask). a.who) fs in
    let others : All (λ n. eqb who n ≡ false) ws = All-map (λ n. eqb who n ≡ false) (λ (a : Ask). a.who) fs
    (All-weaker (λ (a : Ask). eqb a.who who ≡ false) (λ (a : Ask). eqb who a.who ≡ false) (λ a e. ne_eqb who a.who (λ q. eqb-false a.who who e (sym q))) fs (other_asks k asks who t here (ready_waits t ready))) in
    let distinct : IsDistinct eqb (who ∷ ws) = IsDistinct-cons eqb who ws (recursion_from_All (λ n. eqb who n ≡ false) ws others)
    (IsDistinct-from_AllPairs Decides-eqb ws (distinct_whos fs (AllPairs-filter (λ a b. a.who ≡ b.who → ⊥) (counts k) asks apart))) in
    let live : All (λ n. list_any (eqb n) (map task_id k.tasks) ≡ true) ws = All-map (λ n. list_any (eqb n) (map task_id k.tasks) ≡ true) (λ (a : Ask). a.who) fs
    (All-weaker (λ (a : Ask). counts k a ≡ true) (λ (a : Ask). list_any (eqb a.who) (map task_id k.tasks) ≡ true)
    (λ a e. let u = live_there a (task_of k.tasks a.who) e in among_tasks k.tasks a.who u.0 u.1) fs (filter_passes (counts k) asks)) in
    let all_live = All-cons (λ n. list_any (eqb n) (map task_id k.tasks) ≡ true) who ws (among_tasks k.tasks who t here) live in
    let few : length (who ∷ ws) ≤ length (map task_id k.tasks) = length-le_from_is_member nat_eq_equiv (who ∷ ws) (map task_id k.tasks) distinct (λ q e. any_of q (who ∷ ws) (map task_id k.tasks) all_live e) in
    let count : length ws ≡ length fs = length-map fs (λ (a : Ask). a.who) in
    let tasks : length (map task_id k.tasks) ≡ length k.tasks = length-map k.tasks task_id in
    let more : length (who ∷ ws) ≡ length ws + 1 = omega arith in
    omega (arith, is.few, few, count, tasks, more)
