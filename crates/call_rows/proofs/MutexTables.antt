-- A list of mutexes or of other objects after one is made, written or taken out: its ids, and the waits for what lives.
use Rattle.std.proofs.Common.{◌≡◌, ℕ, ◌<◌, ◌≤◌, Bool, true, false, cond, ◌&&◌, ◌||◌, not, eqb, List, [], ◌∷◌, ◌++◌, length, get_or, Option, None, Some, IfSome, is_some, refl, sym, ap, ◌∙◌, subst, arith}
use Rattle.std.specs.List.{All}
use Rattle.std.proofs.lemmas.Bool.{or_left, or_right}
use Rattle.std.proofs.lemmas.List.{length-map, length_push, get_or-map}
use Rattle.std.proofs.lemmas.List.Elements.{All-weaker, All-filter, All-push}
use Rattle.std.proofs.lemmas.List.Kept.{AllPairs-filter}
use Rattle.std.proofs.lemmas.List.Quantifiers.{all_pairs_push}
use Rattle.wind_base.specs.declared.board_kind.BoardKind.{BoardKind}
use Rattle.id_table.specs.Rows.{IsId, IdsBelow, row_id, ids, object_of, with_object, without}
use Rattle.id_table.specs.declared.ident.Place.{Place}
use Rattle.id_table.proofs.Kept.{object_of-cons}
use Rattle.id_table.proofs.Lookups.{object_of-push, object_of-without}
use Rattle.id_table.proofs.Passing.{length-filter}
use Rattle.wind_core.specs.State.{KernState}
use Rattle.wind_core.specs.Orders.{is_place}
use Rattle.kernel_world.specs.SemPlainState.{both as with_semaphores}
use Rattle.kernel_world.specs.SemPlainKept.{KeepsSemaphores}
use Rattle.kernel_world.specs.InheritanceMutex.{Mutex}
use Rattle.kernel_world.specs.InheritanceMutexes.{AreMutexes, LiveMutexes, mutex_place}
use Rattle.kernel_world.specs.Objects.{is_queue_side, is_live, KeepsWaits}
use Rattle.kernel_world.specs.declared.objects.Objects.{Objects}

-- the objects with other mutexes
abbrev pub with_mutexes : Objects → LiveMutexes → Objects
with_mutexes o live = record o { mutexes = live }

-- the mutexes under the same rule with other rows
abbrev pub with_rows : Objects → List (ℕ × Mutex) → LiveMutexes
with_rows o ms = record o.mutexes { rows = ms }

-- ---- the same ids
-- one object is written
pub ids-write : {X : Type 0} (ms : List (ℕ × X)) (id : ℕ) (m : X) → ids (with_object ms id m) ≡ ids ms
ids-write [] id m = refl
ids-write (r ∷ rs) id m =
    elim (eqb r.0 id) as (λ b. (cond b (r.0, m) r).0 ∷ ids (with_object rs id m) ≡ r.0 ∷ ids rs) [
      | true ↦ ap (λ is. r.0 ∷ is) (ids-write rs id m)
      | false ↦ ap (λ is. r.0 ∷ is) (ids-write rs id m)
    ]

module _ {X : Type 0} (ms ns : List (ℕ × X)) (same : ids ns ≡ ids ms) where
  pub long : length ns ≡ length ms
  long = sym (length-map ns row_id) ∙ ap length same ∙ length-map ms row_id

  pub id-same : (k : ℕ) (d : ℕ × X) → k < length ns → (get_or ns k d).0 ≡ (get_or ms k d).0
  id-same k d within =
      sym (get_or-map row_id ns k d d.0 within) ∙ ap (λ is. get_or is k d.0) same ∙ get_or-map row_id ms k d d.0 (omega (arith, long, within))

  -- what holds of each id
  pub all-ids : (P : ℕ → Type 0) → All (λ r. P r.0) ms → All (λ r. P r.0) ns
  all-ids P all k d within = subst P (sym (id-same k d within)) (all k d (omega (arith, long, within)))

pub table-ids : (ms ns : List (ℕ × Mutex)) → ids ns ≡ ids ms → AreMutexes ms → AreMutexes ns
table-ids ms ns same is = record {
  few = omega (arith, long ms ns same, is.few);
  rising = λ i j d hij hj. omega (arith, id-same ms ns same i d (omega (arith, hij, hj)), id-same ms ns same j d hj, is.rising i j d hij (omega (arith, long ms ns same, hj)));
  ranged = all-ids ms ns same IsId is.ranged;
}

-- what lives does so by its id
pub lives-ids : {X : Type 0} (ms ns : List (ℕ × X)) → ids ns ≡ ids ms → (n : ℕ) → is_some (object_of ns n) ≡ is_some (object_of ms n)
lives-ids [] [] same n = refl
lives-ids [] (s ∷ ss) same n = absurd (cc)
lives-ids (r ∷ rs) [] same n = absurd (cc)
lives-ids (r ∷ rs) (s ∷ ss) same n =
    let heads : s.0 ≡ r.0 = cc in
    let rest : ids ss ≡ ids rs = cc in
    ap is_some (object_of-cons s.0 s.1 ss n)
    ∙ ap (λ i. is_some (cond (eqb i n) (Some s.1) (object_of ss n))) heads
    ∙ elim (eqb r.0 n) as (λ b. is_some (cond b (Some s.1) (object_of ss n)) ≡ is_some (cond b (Some r.1) (object_of rs n))) [ true ↦ refl | false ↦ lives-ids rs ss rest n ]
    ∙ sym (ap is_some (object_of-cons r.0 r.1 rs n))

-- ---- one is taken out, or made
pub table-without : (ms : List (ℕ × Mutex)) (id : ℕ) → AreMutexes ms → AreMutexes (without ms id)
table-without ms id is =
    let stays : ℕ × Mutex → Bool = λ r. not (eqb r.0 id) in
    record {
      few = omega (arith, is.few, length-filter stays ms);
      rising = AllPairs-filter (λ r s. r.0 < s.0) stays ms is.rising;
      ranged = All-filter stays (λ r. IsId r.0) ms is.ranged;
    }

pub table-push : (ms : List (ℕ × Mutex)) (n : ℕ) (m : Mutex) → AreMutexes ms → length ms < 1024 → 0 < n → n ≤ 1048576 → IdsBelow n ms → AreMutexes (ms ++ (n, m) ∷ [])
table-push ms n m is few first last below = record {
  few = omega (arith, length_push ms (n, m), few);
  rising = all_pairs_push (λ r s. r.0 < s.0) ms (n, m) is.rising below;
  ranged = All-push (λ r. IsId r.0) ms (n, m) is.ranged (first, last);
}

-- ---- waits for what lives
-- the place is that of a queue, of a task to delete, or of the console
abbrev is_beyond : Objects → Place → Bool
is_beyond o p = is_queue_side p.side && is_some (object_of o.queues.queues p.id) || (eqb p.side 2 || eqb p.side 3)

monotone : (a b c e d : Bool) → (c ≡ true → e ≡ true) → (a || ((b && c) || d)) ≡ true → (a || ((b && e) || d)) ≡ true
monotone true b c e d more h = refl
monotone false false c e d more h = h
monotone false true c e true more h = or_right e true refl
monotone false true true e false more h = or_left e false (more refl)
monotone false true false e false more h = absurd (cc)

-- other objects, if each for which a task may wait lives among them
pub waits_live : {board : BoardKind} (k : KernState) (o p : Objects) → KeepsSemaphores (with_semaphores k p.semaphores) → ((q : Place) → is_live o q ≡ true → is_live p q ≡ true) → KeepsWaits board k o → KeepsWaits board k p
waits_live k o p semaphores more kept = record {
  semaphores = semaphores;
  deleters = kept.deleters;
  live = All-weaker (λ t. IfSome t.wait (λ q. is_live o q ≡ true)) (λ t. IfSome t.wait (λ q. is_live p q ≡ true)) (λ t. each t.wait) k.tasks kept.live;
  right = kept.right;
}
  where
    each : (w : Option Place) → IfSome w (λ q. is_live o q ≡ true) → IfSome w (λ q. is_live p q ≡ true)
    each None h = tt
    each (Some q) h = more q h

-- each mutex that lived lives among others
pub waits-more : {board : BoardKind} (k : KernState) (o : Objects) (ns : LiveMutexes) → ((n : ℕ) → is_some (object_of o.mutexes.rows n) ≡ true → is_some (object_of ns.rows n) ≡ true) → KeepsWaits board k o → KeepsWaits board k (with_mutexes o ns)
waits-more k o ns more kept = waits_live k o (with_mutexes o ns) kept.semaphores (λ p h.
    monotone (eqb p.side 0 && is_some (object_of o.semaphores p.id)) (eqb p.side 0) (is_some (object_of o.mutexes.rows p.id)) (is_some (object_of ns.rows p.id)) (is_beyond o p) (more p.id) h) kept

-- if the ids are the same
pub waits-ids : {board : BoardKind} (k : KernState) (o : Objects) (ns : LiveMutexes) → ids ns.rows ≡ ids o.mutexes.rows → KeepsWaits board k o → KeepsWaits board k (with_mutexes o ns)
waits-ids k o ns same kept = waits-more k o ns (λ n lives. lives-ids o.mutexes.rows ns.rows same n ∙ lives) kept

-- one mutex is added
pub waits-push : {board : BoardKind} (k : KernState) (o : Objects) (id : ℕ) (m : Mutex) → KeepsWaits board k o → KeepsWaits board k (with_mutexes o (with_rows o (o.mutexes.rows ++ (id, m) ∷ [])))
waits-push k o id m kept =
    waits-more k o (with_rows o (o.mutexes.rows ++ (id, m) ∷ []))
    (λ n lives. ap is_some (object_of-push o.mutexes.rows id n m) ∙ ap (λ c. is_some (cond c (object_of o.mutexes.rows n) (cond (eqb id n) (Some m) None))) lives ∙ lives) kept

elsewhere : (a b q d : Bool) (x : Option Mutex) → (b && q) ≡ false → (a || ((b && is_some x) || d)) ≡ true → (a || ((b && is_some (cond q None x)) || d)) ≡ true
elsewhere true b q d x away h = refl
elsewhere false false q d x away h = h
elsewhere false true true d x away h = absurd (cc)
elsewhere false true false d x away h = h

-- a mutex that nobody waits for is gone
pub waits-without : {board : BoardKind} (k : KernState) (o : Objects) (id : ℕ) → All (λ t. is_place (mutex_place id) t.wait ≡ false) k.tasks → KeepsWaits board k o → KeepsWaits board k (with_mutexes o (with_rows o (without o.mutexes.rows id)))
waits-without k o id away kept = record {
  semaphores = kept.semaphores;
  deleters = kept.deleters;
  live = λ i d within. each (get_or k.tasks i d).wait (away i d within) (kept.live i d within);
  right = kept.right;
}
  where
    each : (w : Option Place) → is_place (mutex_place id) w ≡ false → IfSome w (λ p. is_live o p ≡ true) → IfSome w (λ p. is_live (with_mutexes o (with_rows o (without o.mutexes.rows id))) p ≡ true)
    each None apart h = tt
    each (Some p) apart h =
        subst (λ x. ((eqb p.side 0 && is_some (object_of o.semaphores p.id)) || ((eqb p.side 0 && is_some x) || is_beyond o p)) ≡ true) (sym (object_of-without o.mutexes.rows id p.id))
        (elsewhere (eqb p.side 0 && is_some (object_of o.semaphores p.id)) (eqb p.side 0) (eqb p.id id) (is_beyond o p) (object_of o.mutexes.rows p.id) apart h)
