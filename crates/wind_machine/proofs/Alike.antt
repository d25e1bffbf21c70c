-- Priorities stay exact when only what inheritance doesn't read changes.
use Rattle.std.proofs.Common.{◌≡◌, ℕ, ◌<◌, List, [], ◌∷◌, map, length, get_or, Option, None, Some, refl, sym, ap, ◌∙◌, arith}
use mathlib.Core.Path.{fun_ext}
use Rattle.std.specs.Option.{option_map}
use Rattle.std.proofs.lemmas.Option.{same_Some}
use Rattle.std.proofs.lemmas.List.{length-map, get_or-map}
use Rattle.wind_base.specs.declared.profile.Profile.{Profile}
use Rattle.wind_base.specs.declared.profile.Profile.TheVariants.{One, Two}
use Rattle.id_table.specs.declared.ident.Place.{Place}
use Rattle.task_block.specs.declared.task.Task.{Task}
use Rattle.wind_core.specs.State.{KernState, task_id, task_of}
use Rattle.wind_core.proofs.Unwritten.{with_id, found_by}
use Rattle.inheritance.specs.declared.mutex.Mutex.{Mutex}
use Rattle.inheritance.specs.Mutexes.{LiveMutexes, both as with_mutexes}
use Rattle.inheritance.specs.Reach.{boss, urgency, pri_in, normal_in, lent_pri, lifted, IsExact}
use Rattle.inheritance.proofs.Raising.{boss-alike}

-- what it reads of a task
pub record Lends : Type 0 where
  pub pri : ℕ
  pub normal : ℕ
  pub wait : Option Place

abbrev pub lends : Task → Lends
lends t = record { pri = t.pri; normal = t.normal; wait = t.wait }

-- these tasks have the same ids, priorities and waits as those
abbrev pub SameLends : List Task → List Task → Type 0
SameLends ts us = map (with_id lends) us ≡ map (with_id lends) ts

same_ends : (p q : ℕ × Lends) (ps qs : List (ℕ × Lends)) → p ∷ ps ≡ q ∷ qs → (p.0 ≡ q.0) × (ps ≡ qs)
same_ends p q ps qs e = (cc, cc)

ids_alike : (ts us : List Task) → map (with_id lends) us ≡ map (with_id lends) ts → map task_id us ≡ map task_id ts
ids_alike [] [] e = refl
ids_alike [] (u ∷ us) e = absurd (cc)
ids_alike (t ∷ ts) [] e = absurd (cc)
ids_alike (t ∷ ts) (u ∷ us) e =
    let same = same_ends (with_id lends u) (with_id lends t) (map (with_id lends) us) (map (with_id lends) ts) e in
    ap (λ n. n ∷ map task_id us) same.0 ∙ ap (λ ns. t.id ∷ ns) (ids_alike ts us same.1)

module _ (k j : KernState) (same : SameLends k.tasks j.tasks) where
  found_alike : (y : ℕ) → option_map lends (task_of j.tasks y) ≡ option_map lends (task_of k.tasks y)
  found_alike y = found_by lends j.tasks k.tasks y same

  wait_alike : (o p : Option Task) → option_map lends o ≡ option_map lends p → option_map (λ t. t.wait) o ≡ option_map (λ t. t.wait) p
  wait_alike None None e = refl
  wait_alike None (Some u) e = absurd (cc)
  wait_alike (Some t) None e = absurd (cc)
  wait_alike (Some t) (Some u) e = ap (λ (q : Lends). Some q.wait) (same_Some (lends t) (lends u) e)

  pri_alike : (o p : Option Task) → option_map lends o ≡ option_map lends p → pri_in o ≡ pri_in p
  pri_alike None None e = refl
  pri_alike None (Some u) e = absurd (cc)
  pri_alike (Some t) None e = absurd (cc)
  pri_alike (Some t) (Some u) e = ap (λ (q : Lends). q.pri) (same_Some (lends t) (lends u) e)

  normal_alike : (o p : Option Task) → option_map lends o ≡ option_map lends p → normal_in o ≡ normal_in p
  normal_alike None None e = refl
  normal_alike None (Some u) e = absurd (cc)
  normal_alike (Some t) None e = absurd (cc)
  normal_alike (Some t) (Some u) e = ap (λ (q : Lends). q.normal) (same_Some (lends t) (lends u) e)

  lent_alike : (p : Profile) → lent_pri p j.tasks ≡ lent_pri p k.tasks
  lent_alike One = fun_ext (λ y. pri_alike (task_of j.tasks y) (task_of k.tasks y) (found_alike y))
  lent_alike Two = fun_ext (λ y. normal_alike (task_of j.tasks y) (task_of k.tasks y) (found_alike y))

  lifted_alike : (p : Profile) (ms : List (ℕ × Mutex)) (x : ℕ) → lifted p j ms x ≡ lifted p k ms x
  lifted_alike p ms x =
      ap (λ up. urgency up (lent_pri p j.tasks) 256 (map task_id j.tasks) x) (fun_ext (boss-alike k.tasks j.tasks ms (λ y. wait_alike (task_of j.tasks y) (task_of k.tasks y) (found_alike y))))
      ∙ ap (λ pri. urgency (boss k.tasks ms) pri 256 (map task_id j.tasks) x) (lent_alike p)
      ∙ ap (λ all. urgency (boss k.tasks ms) (lent_pri p k.tasks) 256 all x) (ids_alike k.tasks j.tasks same)

  pub exact_alike : (live : LiveMutexes) → IsExact (with_mutexes k live) → IsExact (with_mutexes j live)
  exact_alike live exact i d hi =
      let t : Task = get_or j.tasks i d in
      let u : Task = get_or k.tasks i d in
      let size : length j.tasks ≡ length k.tasks = sym (length-map j.tasks (with_id lends)) ∙ ap length same ∙ length-map k.tasks (with_id lends) in
      let within : i < length k.tasks = omega (arith, hi, size) in
      let here : with_id lends t ≡ with_id lends u =
      sym (get_or-map (with_id lends) j.tasks i d (with_id lends d) hi) ∙ ap (λ xs. get_or xs i (with_id lends d)) same ∙ get_or-map (with_id lends) k.tasks i d (with_id lends d) within in
      ap (λ (q : ℕ × Lends). q.1.pri) here
      ∙ exact i d within
      ∙ ap (λ (q : ℕ × Lends). lifted live.profile k live.rows q.0) (sym here)
      ∙ sym (lifted_alike live.profile live.rows t.id)
