-- A spawn by its cases.
use Rattle.std.proofs.Common.{◌≡◌, ℕ, ◌+◌, ◌<◌, ◌^◌, None, Ok, Err, sym, ap, ◌∙◌, arith}
use Rattle.wind_base.specs.declared.board_kind.Side.TheVariants.{Low}
use Rattle.wind_base.specs.declared.errno.Errno.TheVariants as errors
use Rattle.mem_partition.specs.Place.{rounded}
use Rattle.mem_partition.specs.State.{PartState, alloc_of, after_alloc}
use Rattle.mem_partition.specs.declared.block.Class.{Class}
use Rattle.mem_partition.specs.declared.block.PartErr.{PartErr}
use Rattle.mem_partition.proofs.Allocs.{alloc_lies, refused_is}
use Rattle.wind_core.specs.Moves.{spawn_refusal}
use Rattle.call_rows.specs.Unless.{unless}
use Rattle.call_rows.specs.Spawning.{SpawnState, no_spawn, spawned_on, spawned_at, spawned, stack_bytes}
use Rattle.call_rows.specs.declared.spawning.Wanted.{Wanted}
use Rattle.kernel_world.specs.declared.reply.Reply.TheVariants.{Answer}

-- a partition that refuses a block stays
pub refused_part : (p : PartState) (n align : ℕ) (class : Class) (e : PartErr) → Err e ≡ alloc_of p n align → after_alloc p n align class ≡ p
refused_part p n align class e h = refused_is Low p n align class e (sym h)

-- a block of the pool ends within 32-bit addresses
pub block_within : (p : PartState) (n align at : ℕ) → p.end < 2 ^ 32 → Ok at ≡ alloc_of p n align → at + rounded n < 2 ^ 32
block_within p n align at e h = omega (arith, (alloc_lies p n align at (sym h)).high, e)

module _ (w : SpawnState) (s : Wanted) (none : None ≡ spawn_refusal w.kern) where
  pub spawned_is : (at : ℕ) → Ok at ≡ alloc_of w.part (stack_bytes s.stack) 16 → spawned w s ≡ record { after = spawned_on w s at; reply = Answer w.kern.next_id }
  spawned_is at ok = ap (λ o. unless o (no_spawn w) (spawned_at w s (alloc_of w.part (stack_bytes s.stack) 16))) (sym none) ∙ ap (spawned_at w s) (sym ok)

  pub spawned_none : (e : PartErr) → Err e ≡ alloc_of w.part (stack_bytes s.stack) 16 → spawned w s ≡ no_spawn w errors.NotEnoughMemory
  spawned_none e err = ap (λ o. unless o (no_spawn w) (spawned_at w s (alloc_of w.part (stack_bytes s.stack) 16))) (sym none) ∙ ap (spawned_at w s) (sym err)
