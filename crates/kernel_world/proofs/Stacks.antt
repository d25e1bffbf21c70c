-- The stacks stay Kernel blocks of their sizes when other blocks are allocated or freed.
use Rattle.std.proofs.Common.{◌≡◌, ℕ, max, true, eqb, List, [], ◌∷◌, ◌++◌, get_or, Option, Some, None, IsSome, Result, Ok, Err, refl, sym, ◌∙◌, subst, arith}
use Rattle.std.proofs.lemmas.List.Elements.{All-weaker, All-push}
use Rattle.std.proofs.lemmas.List.Quantifiers.{all_pairs_push}
use Rattle.std.proofs.lemmas.Bool.{eq-eqb, ne_eqb, and_from, and_left}
use Rattle.wind_base.specs.declared.board_kind.BoardKind.{BoardKind}
use Rattle.wind_base.specs.declared.board_kind.Side.{Side}
use Rattle.wind_base.specs.declared.board_kind.Side.TheVariants.{Low}
use Rattle.mem_partition.specs.Place.{aligned, rounded}
use Rattle.mem_partition.specs.State.{PartState, IsPart, own_block, same_class, alloc_of, alloc_on, after_alloc, after_alloc_on, taken_at, size_or, freed, after_free, with_block}
use Rattle.mem_partition.specs.declared.block.Block.{Block}
use Rattle.mem_partition.specs.declared.block.Class.{Class}
use Rattle.mem_partition.specs.declared.block.Class.TheVariants.{User, Kernel}
use Rattle.mem_partition.specs.declared.block.PartErr.{PartErr}
use Rattle.mem_partition.proofs.Keeping.{free_kept, with_blocks}
use Rattle.mem_partition.proofs.Places.{aligned_above, aligned_least, aligned_multiple}
use Rattle.mem_partition.proofs.Allocs.{rounded_some, find_with, alloc_on_lies, alloc_lies, alloc_on_kept, given_block, after_on_is, after_is}
use Rattle.mem_partition.proofs.Owners.{is_own, find-with_block, fresh_address, own-without, classes_apart}
use Rattle.kernel_world.specs.Kept.{KeepsPool, Stack, IsStack, AreApart, AreStacks}

-- the pool is that of the board, whatever blocks there are
pool_with : {board : BoardKind} (p : PartState) (bs : List Block) → KeepsPool board p → IsPart (with_blocks p bs) → KeepsPool board (with_blocks p bs)
pool_with p bs k is = record { blocks = is; start = k.start; end = k.end; room = k.room }

pub pool-alloc_on : {board : BoardKind} (side : Side) (p : PartState) (n align : ℕ) (class : Class) → KeepsPool board p → KeepsPool board (after_alloc_on side p n align class)
unfolding after_alloc_on
pool-alloc_on {board} side p n align class k = go (alloc_on side p n align) refl where
  go : (r : Result ℕ PartErr) → alloc_on side p n align ≡ r → KeepsPool board (taken_at p n class r)
  go (Err e) same = k
  go (Ok at) same =
      let b = given_block n at class in
      pool_with p (with_block b p.blocks) k (subst IsPart (after_on_is side p n align at class same) (alloc_on_kept side p n align class k.blocks))

pub pool-alloc : {board : BoardKind} (p : PartState) (n align : ℕ) (class : Class) → KeepsPool board p → KeepsPool board (after_alloc p n align class)
pool-alloc p n align class k = pool-alloc_on Low p n align class k

pub pool-free : {board : BoardKind} (p : PartState) (at : ℕ) (class : Class) → KeepsPool board p → KeepsPool board (after_free p at class)
unfolding after_free
pool-free {board} p at class k = go (own_block p.blocks at class) refl where
  go : (o : Option Block) → own_block p.blocks at class ≡ o → KeepsPool board (freed p at (size_or o))
  go None same = k
  go (Some b) same = pool_with p _ k (subst (λ o. IsPart (freed p at (size_or o))) same (free_kept p at class k.blocks))

-- the Kernel block at an address stays as it is when a block is allocated
pub kernels-alloc_on : (side : Side) (p : PartState) (n align : ℕ) (class : Class) (a : ℕ) → IsPart p → IsSome (own_block p.blocks a Kernel)
    → own_block (after_alloc_on side p n align class).blocks a Kernel ≡ own_block p.blocks a Kernel
unfolding after_alloc_on
kernels-alloc_on side p n align class a is there = go (alloc_on side p n align) refl where
  go : (r : Result ℕ PartErr) → alloc_on side p n align ≡ r → own_block (taken_at p n class r).blocks a Kernel ≡ own_block p.blocks a Kernel
  go (Err e) same = refl
  go (Ok at) same =
      let other : at ≡ a → ⊥ = λ e. fresh_address p.start p.end p.blocks (rounded n) at a Kernel is.laid (rounded_some n) (alloc_on_lies side p n align at same).apart there (sym e) in
      find-with_block (is_own a Kernel) (given_block n at class) p.blocks (and_left (eqb at a) (same_class class Kernel) (ne_eqb at a other))

pub kernels-alloc : (p : PartState) (n align : ℕ) (class : Class) (a : ℕ) → IsPart p → IsSome (own_block p.blocks a Kernel)
    → own_block (after_alloc p n align class).blocks a Kernel ≡ own_block p.blocks a Kernel
kernels-alloc = kernels-alloc_on Low

-- and when a User block is freed
pub kernels-free : (p : PartState) (at a : ℕ) → IsPart p → IsSome (own_block p.blocks a Kernel)
    → own_block (after_free p at User).blocks a Kernel ≡ own_block p.blocks a Kernel
unfolding after_free
kernels-free p at a is h = go (own_block p.blocks at User) refl where
  go : (o : Option Block) → own_block p.blocks at User ≡ o → own_block (freed p at (size_or o)).blocks a Kernel ≡ own_block p.blocks a Kernel
  go None same = refl
  go (Some b) same =
      let there : IsSome (own_block p.blocks at User) = subst IsSome (sym same) refl in
      own-without at a Kernel p.blocks (classes_apart p.start p.end p.blocks at a User Kernel is.laid refl there h)

-- and when another Kernel block is
pub kernels-other : (p : PartState) (at a : ℕ) → (a ≡ at → ⊥) → own_block (after_free p at Kernel).blocks a Kernel ≡ own_block p.blocks a Kernel
unfolding after_free
kernels-other p at a apart = go (own_block p.blocks at Kernel) where
  go : (o : Option Block) → own_block (freed p at (size_or o)).blocks a Kernel ≡ own_block p.blocks a Kernel
  go None = refl
  go (Some b) = own-without at a Kernel p.blocks apart

pub is_there : (p : PartState) (s : Stack) → IsStack p s → IsSome (own_block p.blocks s.addr Kernel)
is_there p s h = subst IsSome (sym h) refl

pub stacks-alloc_on : (side : Side) (p : PartState) (n align : ℕ) (class : Class) (stacks : List Stack) → IsPart p → AreStacks p stacks → AreStacks (after_alloc_on side p n align class) stacks
stacks-alloc_on side p n align class stacks is s = record {
  kernels = All-weaker (IsStack p) (IsStack (after_alloc_on side p n align class)) (λ x h. kernels-alloc_on side p n align class x.addr is (is_there p x h) ∙ h) stacks s.kernels;
  apart = s.apart;
}

pub stacks-alloc : (p : PartState) (n align : ℕ) (class : Class) (stacks : List Stack) → IsPart p → AreStacks p stacks → AreStacks (after_alloc p n align class) stacks
stacks-alloc = stacks-alloc_on Low

pub stacks-free : (p : PartState) (at : ℕ) (stacks : List Stack) → IsPart p → AreStacks p stacks → AreStacks (after_free p at User) stacks
stacks-free p at stacks is s = record {
  kernels = All-weaker (IsStack p) (IsStack (after_free p at User)) (λ x h. kernels-free p at x.addr is (is_there p x h) ∙ h) stacks s.kernels;
  apart = s.apart;
}

-- the size of a block, rounded up once more
rounded_again : (n : ℕ) → rounded (rounded n) ≡ rounded n
unfolding rounded
rounded_again n =
    let m = aligned (max n 1) 16 in
    let some = aligned_above (max n 1) 16 (omega arith) in
    let above = aligned_above (max m 1) 16 (omega arith) in
    let least = aligned_least (max m 1) 16 m (omega arith) (omega (arith, some)) (aligned_multiple (max n 1) 16 (omega arith)) in
    omega (arith, some, above, least)

-- a new Kernel block is one more stack
new_stack : (p : PartState) (n align at : ℕ) → IsPart p → alloc_of p n align ≡ Ok at → IsStack (after_alloc p n align Kernel) (record { addr = at; size = rounded n })
new_stack p n align at is e =
    let b = given_block n at Kernel in
    subst (λ size. own_block (after_alloc p n align Kernel).blocks at Kernel ≡ Some (record { addr = at; size = size; class = Kernel })) (sym (rounded_again n))
    (subst (λ (q : PartState). own_block q.blocks at Kernel ≡ Some b) (sym (after_is p n align at Kernel e))
    (find_with (is_own at Kernel) b p.start p.end p.blocks is.laid (rounded_some n) (alloc_lies p n align at e).apart
    (and_from (eqb at at) true (eq-eqb at at refl) refl)
    (λ c q. and_left (eqb c.addr at) (same_class c.class Kernel) (ne_eqb c.addr at q))))

pub stacks-more : (p : PartState) (n align at : ℕ) (stacks : List Stack) → IsPart p → alloc_of p n align ≡ Ok at → AreStacks p stacks
    → AreStacks (after_alloc p n align Kernel) (stacks ++ record { addr = at; size = rounded n } ∷ [])
stacks-more p n align at stacks is e s =
    let new : Stack = record { addr = at; size = rounded n } in
    let q = after_alloc p n align Kernel in
    record {
      kernels = All-push (IsStack q) stacks new (stacks-alloc p n align Kernel stacks is s).kernels (new_stack p n align at is e);
      apart = all_pairs_push AreApart stacks new s.apart
          (λ k d within. fresh_address p.start p.end p.blocks (rounded n) at (get_or stacks k d).addr Kernel is.laid (rounded_some n) (alloc_lies p n align at e).apart
          (is_there p (get_or stacks k d) (s.kernels k d within)));
    }
