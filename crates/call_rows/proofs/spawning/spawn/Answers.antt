use Rattle.std.proofs.Common.{◌+◌, ◌<◌, ◌^◌, Result, sym, ap, ◌∙◌, arith}
use Rattle.wind_base.specs.declared.errno.Errno.{Errno}
use Rattle.mem_partition.specs.Place.{rounded}
use Rattle.mem_partition.proofs.Allocs.{rounded_holds}
use Rattle.wind_core.specs.Moves.{spawn}
use Rattle.call_rows.specs.declared.spawning.Wanted.{Wanted}
use Rattle.call_rows.specs.Spawning.{spawn_parts, spawned_if}
use Rattle.call_rows.proofs.Spawned.{refused_part, block_within, spawned_is, spawned_none}
use Rattle.call_rows.proofs.spawning.spawn.Goals as goal

pub returns-in_default-alloc-clause-part : goal.returns-in_default-alloc-clause-part
returns-in_default-alloc-clause-part c =
    let w = spawn_parts c.args.board c.args.kern.now c.args.part.now c.args.ram.now.bytes c.args.names.now in
    c.alloc.ensures.after ∙ refused_part c.args.part.now c.stack_bytes-bytes.result 16 _ c.in_default-alloc.field-0 c.in_default-alloc.ensures.answer
    ∙ ap (λ r. r.after.part) (sym (spawned_none w c.in-Ok.wanted c.in_default.ensures c.in_default-alloc.field-0 (rw (sym c.stack_bytes-bytes.ensures) c.in_default-alloc.ensures.answer)))
    ∙ ap (λ (r : Result Wanted Errno). (spawned_if w r).after.part) (sym c.in-Ok.is)

pub block_size-size-requires : goal.block_size-size-requires
block_size-size-requires c =
    let within : c.in-Ok-alloc.address + rounded c.stack_bytes-bytes.result < 2 ^ 32 = block_within c.args.part.now c.stack_bytes-bytes.result 16 c.in-Ok-alloc.address c.requires.end c.in-Ok-alloc.ensures.answer in
    omega (arith, within)

pub first_pointer-pointer-requires-clause-least : goal.first_pointer-pointer-requires-clause-least
first_pointer-pointer-requires-clause-least c = omega (arith, c.block_size-size.ensures, c.stack_bytes-bytes.ensures, rounded_holds c.stack_bytes-bytes.result)

pub first_pointer-pointer-requires-clause-within : goal.first_pointer-pointer-requires-clause-within
first_pointer-pointer-requires-clause-within c =
    let within : c.in-Ok-alloc.address + rounded c.stack_bytes-bytes.result < 2 ^ 32 = block_within c.args.part.now c.stack_bytes-bytes.result 16 c.in-Ok-alloc.address c.requires.end c.in-Ok-alloc.ensures.answer in
    omega (arith, within, c.block_size-size.ensures)

pub put_frame-requires : goal.put_frame-requires
put_frame-requires c =
    let within : c.in-Ok-alloc.address + rounded c.stack_bytes-bytes.result < 2 ^ 32 = block_within c.args.part.now c.stack_bytes-bytes.result 16 c.in-Ok-alloc.address c.requires.end c.in-Ok-alloc.ensures.answer in
    omega (arith, within, c.first_pointer-pointer.ensures, c.block_size-size.ensures)

pub returns-clause-kern : goal.returns-clause-kern
returns-clause-kern c =
    let w = spawn_parts c.args.board c.args.kern.now c.args.part.now c.args.ram.now.bytes c.args.names.now in
    c.in-Ok-spawn_record.ensures.ok.2 ∙ ap (spawn c.args.kern.now) c.started-task.ensures.task
    ∙ ap (λ r. r.after.kern) (sym (spawned_is w c.in-Ok.wanted c.in_default.ensures c.in-Ok-alloc.address (rw (sym c.stack_bytes-bytes.ensures) c.in-Ok-alloc.ensures.answer)))
    ∙ ap (λ (r : Result Wanted Errno). (spawned_if w r).after.kern) (sym c.in-Ok.is)
