-- Only the task that ran last may have a reservation, so at most one is dropped.
use Rattle.std.proofs.Common.{◌≡◌, ℕ, Bool, true, false, cond, eqb, List, [], ◌∷◌, map, Option, None, Some, IsSome, refl, sym, ap, ◌∙◌, subst, arith}
use Rattle.std.specs.List.{All}
use Rattle.std.proofs.lemmas.List.Elements.{All-head, All-tail}
use Rattle.std.proofs.lemmas.Bool.Decides.{nat_tests}
use Rattle.task_block.specs.declared.task.Task.{Task}
use Rattle.id_table.specs.Records.{change}
use Rattle.id_table.proofs.Records.{change_alike}
use Rattle.wind_core.specs.State.{KernState, IsKern, task_id, task_of}
use Rattle.wind_core.specs.Moves.{unreserved, unreserve, set_regs}
use Rattle.wind_machine.specs.Reserving.{unless_own}

-- a task with a reservation is this one
abbrev Own : Option ℕ → Task → Type 0
Own who t = IsSome t.regs.reserve → who ≡ Some t.id

-- a record without a reservation stays
pub none_stays : (t : Task) → (IsSome t.regs.reserve → ⊥) → unreserved t ≡ t
none_stays t none =
    elim t.regs.reserve as (λ o. t.regs.reserve ≡ o → unreserved t ≡ t) [
      | None ↦ λ e. ap (λ o. record t { regs = record t.regs { reserve = o } }) (sym e)
      | Some at ↦ λ e. absurd (none (subst (λ o. IsSome o) (sym e) refl))
    ] refl

-- a test that holds for equal numbers
same_test : (a b : ℕ) → Some a ≡ Some b → eqb b a ≡ true
same_test a b e = let same : a ≡ b = cc in grind (arith, nat_tests, same)

clash : (b : Bool) → b ≡ true → b ≡ false → ⊥
clash b t f = cc

two_tests : (a b c : ℕ) → eqb a b ≡ true → eqb b c ≡ false → eqb a c ≡ false
two_tests a b c e d = grind (arith, nat_tests, e, d)

other_stays : (last : Option ℕ) (t : Task) → Own last t → (last ≡ Some t.id → ⊥) → unreserved t ≡ t
other_stays last t own other = none_stays t (λ some. other (own some))

-- only the task itself had a reservation
own_kept : (who : ℕ) (t : Task) → Own (Some who) t → unless_own who t ≡ t
own_kept who t own =
    elim (eqb t.id who) as (λ b. eqb t.id who ≡ b → cond b t (unreserved t) ≡ t) [
      | true ↦ λ e. refl
      | false ↦ λ e. other_stays (Some who) t own (λ same. clash (eqb t.id who) (same_test who t.id same) e)
    ] refl

pub last_own : (ts : List Task) (who : ℕ) → All (Own (Some who)) ts → map (unless_own who) ts ≡ ts
last_own [] who h = refl
last_own (t ∷ ts) who h = ap (λ u. u ∷ map (unless_own who) ts) (own_kept who t (All-head (Own (Some who)) t ts h)) ∙ ap (λ us. t ∷ us) (last_own ts who (All-tail (Own (Some who)) t ts h))

-- only another task had one
other_dropped : (who last : ℕ) (t : Task) → eqb last who ≡ false → Own (Some last) t → unless_own who t ≡ cond (eqb t.id last) (unreserved t) t
other_dropped who last t apart own =
    elim (eqb t.id last) as (λ b. eqb t.id last ≡ b → unless_own who t ≡ cond b (unreserved t) t) [
      | true ↦ λ e. ap (λ b. cond b t (unreserved t)) (two_tests t.id last who e apart)
      | false ↦ λ e.
          let none : unreserved t ≡ t = other_stays (Some last) t own (λ same. clash (eqb t.id last) (same_test last t.id same) e) in
          elim (eqb t.id who) as (λ b. cond b t (unreserved t) ≡ t) [ true ↦ refl | false ↦ none ]
    ] refl

pub last_other : (ts : List Task) (who last : ℕ) → eqb last who ≡ false → All (Own (Some last)) ts → map (unless_own who) ts ≡ change task_id ts last unreserved
last_other [] who last apart h = refl
last_other (t ∷ ts) who last apart h =
    ap (λ u. u ∷ map (unless_own who) ts) (other_dropped who last t apart (All-head (Own (Some last)) t ts h))
    ∙ ap (λ us. cond (eqb t.id last) (unreserved t) t ∷ us) (last_other ts who last apart (All-tail (Own (Some last)) t ts h))

-- nobody had one
pub last_none : (ts : List Task) (who : ℕ) → All (Own None) ts → map (unless_own who) ts ≡ ts
last_none [] who h = refl
last_none (t ∷ ts) who h =
    let none : unreserved t ≡ t = other_stays None t (All-head (Own None) t ts h) (λ e. absurd (cc)) in
    ap (λ u. u ∷ map (unless_own who) ts) (elim (eqb t.id who) as (λ b. cond b t (unreserved t) ≡ t) [ true ↦ refl | false ↦ none ])
    ∙ ap (λ us. t ∷ us) (last_none ts who (All-tail (Own None) t ts h))

-- all reservations are dropped
pub all_none : (ts : List Task) → All (Own None) ts → map unreserved ts ≡ ts
all_none [] h = refl
all_none (t ∷ ts) h =
    ap (λ u. u ∷ map unreserved ts) (other_stays None t (All-head (Own None) t ts h) (λ e. absurd (cc)))
    ∙ ap (λ us. t ∷ us) (all_none ts (All-tail (Own None) t ts h))

all_dropped : (last : ℕ) (t : Task) → Own (Some last) t → unreserved t ≡ cond (eqb t.id last) (unreserved t) t
all_dropped last t own =
    elim (eqb t.id last) as (λ b. eqb t.id last ≡ b → unreserved t ≡ cond b (unreserved t) t) [
      | true ↦ λ e. refl
      | false ↦ λ e. other_stays (Some last) t own (λ same. clash (eqb t.id last) (same_test last t.id same) e)
    ] refl

pub all_last : (ts : List Task) (last : ℕ) → All (Own (Some last)) ts → map unreserved ts ≡ change task_id ts last unreserved
all_last [] last h = refl
all_last (t ∷ ts) last h =
    ap (λ u. u ∷ map unreserved ts) (all_dropped last t (All-head (Own (Some last)) t ts h))
    ∙ ap (λ us. cond (eqb t.id last) (unreserved t) t ∷ us) (all_last ts last (All-tail (Own (Some last)) t ts h))

-- ---- a task gets its registers back
pub change_identity : (ts : List Task) (who : ℕ) → change task_id ts who (λ t. t) ≡ ts
change_identity [] who = refl
change_identity (t ∷ ts) who = ap (λ u. u ∷ change task_id ts who (λ v. v)) (elim (eqb t.id who) as (λ b. cond b t t ≡ t) [ true ↦ refl | false ↦ refl ]) ∙ ap (λ us. t ∷ us) (change_identity ts who)

change_twice : (ts : List Task) (who : ℕ) (f g : Task → Task) → ((t : Task) → (f t).id ≡ t.id) → change task_id (change task_id ts who f) who g ≡ change task_id ts who (λ t. g (f t))
change_twice [] who f g keeps = refl
change_twice (t ∷ ts) who f g keeps =
    let head : cond (eqb (cond (eqb t.id who) (f t) t).id who) (g (cond (eqb t.id who) (f t) t)) (cond (eqb t.id who) (f t) t) ≡ cond (eqb t.id who) (g (f t)) t =
    elim (eqb t.id who) as (λ b. eqb t.id who ≡ b → cond (eqb (cond b (f t) t).id who) (g (cond b (f t) t)) (cond b (f t) t) ≡ cond b (g (f t)) t) [
      | true ↦ λ e. ap (λ c. cond c (g (f t)) (f t)) (ap (λ i. eqb i who) (keeps t) ∙ e)
      | false ↦ λ e. ap (λ c. cond c (g t) t) e
    ] refl
    in
    ap (λ u. u ∷ change task_id (change task_id ts who f) who g) head ∙ ap (λ us. cond (eqb t.id who) (g (f t)) t ∷ us) (change_twice ts who f g keeps)

-- writing the registers that a task has changes nothing
pub own_regs : (k : KernState) (who : ℕ) (t : Task) → IsKern k → task_of k.tasks who ≡ Some t → set_regs k who t.regs ≡ k
own_regs k who t is found =
    ap (λ ts. record k { tasks = ts }) (change_alike task_id k.tasks who t (λ u. record u { regs = t.regs }) (λ u. u) is.rising found refl ∙ change_identity k.tasks who)

-- writing them back after the reservation was dropped restores the kernel
pub regs_again : (k : KernState) (who : ℕ) (t : Task) → IsKern k → task_of k.tasks who ≡ Some t → set_regs (unreserve k who) who t.regs ≡ k
regs_again k who t is found =
    ap (λ ts. record k { tasks = ts }) (change_twice k.tasks who unreserved (λ u. record u { regs = t.regs }) (λ u. refl)) ∙ own_regs k who t is found
