-- Ids of objects of several kinds stay distinct as objects come and go.
use Rattle.std.proofs.Common.{◌≡◌, ℕ, zero, suc, ◌+◌, ◌<◌, ◌≤◌, true, false, not, cond, eqb, List, [], ◌∷◌, ◌++◌, map, Option, None, Some, IfSome, refl, ap, ◌∙◌, subst, arith}
use Rattle.std.specs.List.{All}
use Rattle.std.proofs.lemmas.Bool.{eq-eqb, eqb-true}
use Rattle.std.proofs.lemmas.List.{map-append}
use Rattle.std.proofs.lemmas.List.Elements.{All-weaker, All-cons}
use Rattle.id_table.specs.Records as records
use Rattle.id_table.specs.Rows.{row_id, ids, with_object, without}
use Rattle.module_loader.specs.Holding.{occurs}
use Rattle.module_loader.proofs.Holds.{occurs-append}
use Rattle.sem_mutex.specs.InheritanceMutex.{Mutex}
use Rattle.kernel_world.specs.LiveIds.{AreIds}

-- the owner's id, if there is an owner, is below the next one and none of these
abbrev pub Owns : ℕ → List ℕ → Option ℕ → Type 0
Owns next others o = IfSome o (λ n. (n < next) × (occurs n others ≡ 0))

-- the same for the owner of a mutex
abbrev pub HasOwner : ℕ → List ℕ → ℕ × Mutex → Type 0
HasOwner next others r = Owns next others r.1.owner

-- no number occurs more often in the first list
abbrev pub Fewer : List ℕ → List ℕ → Type 0
Fewer ys xs = (n : ℕ) → occurs n ys ≤ occurs n xs

-- from one list of ids to another while the next id rises: no id is added, or only the next one
pub data Given (next after : ℕ) (xs ys : List ℕ) : Type 0 where
  Nothing : next ≤ after → Fewer ys xs → Given next after xs ys
  One : after ≡ next + 1 → ((n : ℕ) → occurs n ys ≤ occurs n xs + occurs n (next ∷ [])) → Given next after xs ys

-- ---- counts
-- a number is this id, or it doesn't occur in the id's list
either : (x n : ℕ) (P : Type 0) → (x ≡ n → occurs n (x ∷ []) ≡ 1 → P) → (occurs n (x ∷ []) ≡ 0 → P) → P
either x n P same other =
    elim (eqb x n) as (λ b. eqb x n ≡ b → P) [
      | true ↦ λ e. let q : x ≡ n = eqb-true x n e in same q (ap (λ b. cond b 1 0 + 0) e)
      | false ↦ λ e. other (ap (λ b. cond b 1 0 + 0) e)
    ] refl

-- the same list has no more ids
pub fewer_same : (xs ys : List ℕ) → ys ≡ xs → Fewer ys xs
fewer_same xs ys e n = let q : occurs n ys ≡ occurs n xs = ap (occurs n) e in omega arith

pub fewer_before : (zs xs ys : List ℕ) → Fewer ys xs → Fewer (zs ++ ys) (zs ++ xs)
fewer_before zs xs ys h n = omega (arith, h n, occurs-append n zs ys, occurs-append n zs xs)

pub fewer_after : (zs xs ys : List ℕ) → Fewer ys xs → Fewer (ys ++ zs) (xs ++ zs)
fewer_after zs xs ys h n = omega (arith, h n, occurs-append n ys zs, occurs-append n xs zs)

-- ---- kinds one after the other
pub given_before : (next after : ℕ) (zs xs ys : List ℕ) → Given next after xs ys → Given next after (zs ++ xs) (zs ++ ys)
given_before next after zs xs ys (Nothing more few) = Nothing more (fewer_before zs xs ys few)
given_before next after zs xs ys (One own more) = One own (λ n. omega (arith, more n, occurs-append n zs ys, occurs-append n zs xs))

pub given_after : (next after : ℕ) (zs xs ys : List ℕ) → Given next after xs ys → Given next after (xs ++ zs) (ys ++ zs)
given_after next after zs xs ys (Nothing more few) = Nothing more (fewer_after zs xs ys few)
given_after next after zs xs ys (One own more) = One own (λ n. omega (arith, more n, occurs-append n ys zs, occurs-append n xs zs))

pub given_none : (next after : ℕ) (xs : List ℕ) → next ≤ after → Given next after xs xs
given_none next after xs more = Nothing more (λ n. omega arith)

-- ---- lists of objects
-- one is added under the next id
pub given_record : {X : Type 0} (id : X → ℕ) (xs : List X) (x : X) → Given (id x) (id x + 1) (map id xs) (map id (xs ++ x ∷ []))
given_record id xs x =
    One refl (λ n. let q : occurs n (map id (xs ++ x ∷ [])) ≡ occurs n (map id xs ++ id x ∷ []) = ap (occurs n) (map-append id xs (x ∷ [])) in
    omega (arith, q, occurs-append n (map id xs) (id x ∷ [])))

pub given_push : {T : Type 0} (rs : List (ℕ × T)) (next : ℕ) (v : T) → Given next (next + 1) (ids rs) (ids (rs ++ (next, v) ∷ []))
given_push rs next v = given_record row_id rs (next, v)

-- each element is rewritten and keeps its id
pub ids_map : {X : Type 0} (id : X → ℕ) (f : X → X) (xs : List X) → ((x : X) → id (f x) ≡ id x) → map id (map f xs) ≡ map id xs
ids_map id f [] same = refl
ids_map id f (x ∷ xs) same = ap (λ n. n ∷ map id (map f xs)) (same x) ∙ ap (λ ns. id x ∷ ns) (ids_map id f xs same)

-- one is rewritten
pub ids_change : {X : Type 0} (id : X → ℕ) (xs : List X) (who : ℕ) (f : X → X) → ((x : X) → id (f x) ≡ id x) → map id (records.change id xs who f) ≡ map id xs
ids_change {X} id xs who f same =
    ids_map id (λ x. cond (eqb (id x) who) (f x) x) xs (λ x. elim (eqb (id x) who) as (λ b. id (cond b (f x) x) ≡ id x) [ true ↦ same x | false ↦ refl ])

pub ids_write : {T : Type 0} (rs : List (ℕ × T)) (id : ℕ) (v : T) → ids (with_object rs id v) ≡ ids rs
ids_write {T} rs id v = ids_change row_id rs id (λ (r : ℕ × T). (r.0, v)) (λ r. refl)

-- one is taken out
pub fewer_records : {X : Type 0} (id : X → ℕ) (xs : List X) (who : ℕ) → Fewer (map id (records.without id xs who)) (map id xs)
fewer_records id [] who n = omega arith
fewer_records {X} id (x ∷ xs) who n =
    let rest : occurs n (map id (records.without id xs who)) ≤ occurs n (map id xs) = fewer_records id xs who n in
    elim (eqb (id x) who) as (λ b. occurs n (map id (cond (not b) (x ∷ records.without id xs who) (records.without id xs who))) ≤ occurs n (map id (x ∷ xs))) [
      | true ↦ omega (arith, rest)
      | false ↦ omega (arith, rest)
    ]

pub fewer_without : {T : Type 0} (rs : List (ℕ × T)) (id : ℕ) → Fewer (ids (without rs id)) (ids rs)
fewer_without rs id = fewer_records row_id rs id

-- what holds of each id in the list holds of each object's
pub all_by_id : {X : Type 0} (id : X → ℕ) (P : ℕ → Type 0) (xs : List X) → ((n : ℕ) → 0 < occurs n (map id xs) → P n) → All (λ x. P (id x)) xs
all_by_id id P [] h = λ i d within. absurd (omega arith)
all_by_id {X} id P (x ∷ xs) h =
    let head : occurs (id x) (map id (x ∷ xs)) ≡ 1 + occurs (id x) (map id xs) = ap (λ b. cond b 1 0 + occurs (id x) (map id xs)) (eq-eqb (id x) (id x) refl) in
    All-cons (λ (y : X). P (id y)) x xs (h (id x) (omega (arith, head))) (all_by_id id P xs (λ n some. h n (omega (arith, some))))

-- ---- the invariant of ids
module _ (next : ℕ) (ts os : List ℕ) (ms : List (ℕ × Mutex)) (are : AreIds next ts os ms) where
  -- a live task's id is below the next, and no object has it
  pub task_owns : (n : ℕ) → 0 < occurs n ts → (n < next) × (occurs n os ≡ 0)
  task_owns n lives = (are.below n (omega (arith, lives)), omega (arith, lives, are.distinct n))

  -- nobody has the next id yet
  next_none : occurs next ts + occurs next os ≡ 0
  next_none =
      elim (eqb (occurs next ts + occurs next os) 0) as (λ b. eqb (occurs next ts + occurs next os) 0 ≡ b → occurs next ts + occurs next os ≡ 0) [
        | true ↦ λ e. eqb-true (occurs next ts + occurs next os) 0 e
        | false ↦ λ e. some (occurs next ts + occurs next os) refl e
      ] refl
    where
      some : (m : ℕ) → occurs next ts + occurs next os ≡ m → eqb m 0 ≡ false → occurs next ts + occurs next os ≡ 0
      some zero same e = same
      some (suc m) same e = let below : next < next = are.below next (omega (arith, same)) in absurd (omega arith)

  -- some tasks and objects are gone, and the next id has risen
  pub ids_fewer : (after : ℕ) (us ps : List ℕ) (ns : List (ℕ × Mutex)) → next ≤ after → Fewer us ts → Fewer ps os → All (HasOwner next os) ns → AreIds after us ps ns
  ids_fewer after us ps ns more tasks others owns = record {
    distinct = λ n. omega (arith, are.distinct n, tasks n, others n);
    below = λ n some. let old : n < next = are.below n (omega (arith, some, tasks n, others n)) in omega (arith, old, more);
    owners = All-weaker (HasOwner next os) (HasOwner after ps) (λ r h. weaker r.1.owner h) ns owns;
  }
    where
      weaker : (o : Option ℕ) → Owns next os o → Owns after ps o
      weaker None h = tt
      weaker (Some n) h = (omega (arith, h.0, more), omega (arith, h.1, others n))

  -- the same, and perhaps one more object
  pub ids_given : (after : ℕ) (us ps : List ℕ) (ns : List (ℕ × Mutex)) → Fewer us ts → Given next after os ps → All (HasOwner next os) ns → AreIds after us ps ns
  ids_given after us ps ns tasks (Nothing more others) owns = ids_fewer after us ps ns more tasks others owns
  ids_given after us ps ns tasks (One own more) owns = record {
    distinct = λ n. either next n (occurs n us + occurs n ps ≤ 1)
        (λ same one. let none : occurs n ts + occurs n os ≡ 0 = subst (λ m. occurs m ts + occurs m os ≡ 0) same next_none in omega (arith, none, one, tasks n, more n))
        (λ absent. omega (arith, absent, are.distinct n, tasks n, more n));
    below = λ n some. either next n (n < after)
        (λ same one. omega (arith, same, own))
        (λ absent. let old : n < next = are.below n (omega (arith, some, absent, tasks n, more n)) in omega (arith, old, own));
    owners = All-weaker (HasOwner next os) (HasOwner after ps) (λ r h. weaker r.1.owner h) ns owns;
  }
    where
      weaker : (o : Option ℕ) → Owns next os o → Owns after ps o
      weaker None h = tt
      weaker (Some n) h = (omega (arith, h.0, own), either next n (occurs n ps ≡ 0) (λ same one. absurd (omega (arith, same, h.0))) (λ absent. omega (arith, absent, h.1, more n)))

  -- one task more, under the next id
  pub ids_task : AreIds (next + 1) (ts ++ next ∷ []) os ms
  ids_task = record {
    distinct = λ n. let split = occurs-append n ts (next ∷ []) in either next n (occurs n (ts ++ next ∷ []) + occurs n os ≤ 1)
        (λ same one. let none : occurs n ts + occurs n os ≡ 0 = subst (λ m. occurs m ts + occurs m os ≡ 0) same next_none in omega (arith, none, one, split))
        (λ absent. omega (arith, absent, are.distinct n, split));
    below = λ n some. let split = occurs-append n ts (next ∷ []) in either next n (n < next + 1)
        (λ same one. omega (arith, same))
        (λ absent. let old : n < next = are.below n (omega (arith, some, absent, split)) in omega (arith, old));
    owners = All-weaker (HasOwner next os) (HasOwner (next + 1) os) (λ r h. weaker r.1.owner h) ms are.owners;
  }
    where
      weaker : (o : Option ℕ) → Owns next os o → Owns (next + 1) os o
      weaker None h = tt
      weaker (Some n) h = (omega (arith, h.0), h.1)
