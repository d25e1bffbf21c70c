-- Ids of objects of several kinds: each id belongs to one kind only.
use Rattle.std.proofs.Common.{◌≡◌, ℕ, ◌<◌, ◌≤◌, true, false, cond, eqb, List, [], ◌∷◌, ◌++◌, length, replicate, Option, None, Some, is_some, refl, ap, ◌∙◌, subst, arith}
use Rattle.std.specs.List.{All}
use Rattle.std.specs.Option.{option_map}
use Rattle.std.proofs.lemmas.Bool.{ne_eqb}
use Rattle.std.proofs.lemmas.List.{length-replicate}
use Rattle.std.proofs.lemmas.List.Elements.{All-contains}
use Rattle.wind_base.specs.Boards.{board_rules}
use Rattle.wind_base.specs.declared.board_kind.BoardKind.{BoardKind}
use Rattle.id_table.specs.Rows.{IdsBelow, row_id, row_object, object_of, with_object, without}
use Rattle.id_table.proofs.Lookups.{object_of-push, object_of-write, object_of-without, found_below}
use Rattle.id_table.specs.Records.{of_id}
use Rattle.id_table.proofs.Records.{found_id, found_at}
use Rattle.wind_core.specs.State.{KernState, IsKern}
use Rattle.kernel_world.specs.Objects.{KeepsObjects}
use Rattle.kernel_world.specs.declared.objects.Objects.{Objects}

-- ---- look-ups
pub not_some : {X : Type 0} (o : Option X) → is_some o ≡ false → o ≡ None
not_some None e = refl
not_some (Some x) e = absurd (cc)

-- what holds of each id holds of one that is found
pub by_id : {X : Type 0} (P : ℕ → Type 0) (rs : List (ℕ × X)) (n : ℕ) → All (λ r. P r.0) rs → is_some (object_of rs n) ≡ true → P n
by_id {X} P rs n all e =
    elim (of_id row_id rs n) as (λ o. of_id row_id rs n ≡ o → is_some (option_map row_object o) ≡ true → P n) [
      | None ↦ λ q f. absurd (cc)
      | Some r ↦ λ q f. subst P (found_id row_id rs n r q) (All-contains (λ x. P x.0) rs r all (found_at row_id rs n r q))
    ] refl e

-- an id from the next on is that of none
pub none_from : {X : Type 0} (rs : List (ℕ × X)) (next n : ℕ) → IdsBelow next rs → next ≤ n → object_of rs n ≡ None
none_from {X} rs next n below h =
    elim (object_of rs n) as (λ o. object_of rs n ≡ o → o ≡ None) [
      | None ↦ λ e. refl
      | Some v ↦ λ e. absurd (omega (arith, h, found_below rs next n v below e))
    ] refl

-- one that is none stays so: as another is made, written or taken out
pub none_push : {X : Type 0} (rs : List (ℕ × X)) (next n : ℕ) (v : X) → n < next → object_of rs n ≡ None → object_of (rs ++ (next, v) ∷ []) n ≡ None
none_push rs next n v below none =
    object_of-push rs next n v
    ∙ ap (λ q. cond (is_some q) q (cond (eqb next n) (Some v) None)) none
    ∙ ap (λ b. cond b (Some v) None) (ne_eqb next n (λ e. omega (arith, e, below)))

pub none_write : {X : Type 0} (rs : List (ℕ × X)) (id n : ℕ) (v : X) → object_of rs n ≡ None → object_of (with_object rs id v) n ≡ None
none_write rs id n v none = object_of-write rs id n v ∙ ap (option_map (λ x. cond (eqb n id) v x)) none

pub none_without : {X : Type 0} (rs : List (ℕ × X)) (id n : ℕ) → object_of rs n ≡ None → object_of (without rs id) n ≡ None
none_without {X} rs id n none =
    object_of-without rs id n ∙ ap (cond (eqb n id) None) none ∙ elim (eqb n id) as (λ b. ◌≡◌ {A = Option X} (cond b None None) None) [ true ↦ refl | false ↦ refl ]

-- if the ids of these objects are none of those, each of those ids is none of these
pub other_kind : {X Y : Type 0} (rs : List (ℕ × X)) (ss : List (ℕ × Y)) (n : ℕ) → All (λ r. object_of ss r.0 ≡ None) rs → is_some (object_of ss n) ≡ true → object_of rs n ≡ None
other_kind {X} {Y} rs ss n apart there =
    elim (object_of rs n) as (λ o. object_of rs n ≡ o → o ≡ None) [
      | None ↦ λ e. refl
      | Some x ↦ λ e.
          let none : object_of ss n ≡ None = by_id (λ i. object_of ss i ≡ None) rs n apart (ap is_some e) in
          let lost : false ≡ true = subst (λ q. is_some q ≡ true) none there in
          absurd (cc)
    ] refl

-- ---- the invariant of the queues with any RAM of the board's size
-- what holds with any list of a length holds
beside_any : {C : Type 0} (n : ℕ) → ((ram : List ℕ) → length ram ≡ n → C) → C
beside_any n holds = holds (replicate n 0) (length-replicate n 0)

module _ {board : BoardKind} (k : KernState) (o : Objects) (kept : KeepsObjects board k o) where
  pub kern_kept : IsKern k
  kern_kept = beside_any (board_rules board).ram_bytes (λ ram long. (kept.queues ram long).kern)

  pub queue_ids : IdsBelow k.next_id o.queues.queues
  queue_ids = beside_any (board_rules board).ram_bytes (λ ram long. (kept.queues ram long).ids)
