use Rattle.std.proofs.Common.{◌≡◌, [], ap, ◌∙◌}
use Rattle.wind_base.specs.declared.board_kind.BoardRules.{BoardRules}
use Rattle.mem_partition.specs.State.{PartState, empty_part, alloc_of, after_alloc}
use Rattle.mem_partition.specs.declared.block.Class.TheVariants.{Kernel}
use Rattle.kernel_world.proofs.Opened.{pool, first_stack, after_first, second_stack, after_second}
use Rattle.kernel_world.proofs.boot.opening_part.Goals as goal

pub unreachable-requires : goal.unreachable-requires
unreachable-requires c =
    let made : c.in_ok-part.part ≡ pool c.args.board [] = c.in_ok-part.ensures ∙ ap (λ (r : BoardRules). empty_part 65536 r.pool_end r.blocks) c.rules-pool_end.ensures in
    let e = c.in_default.ensures.answer ∙ ap (λ (p : PartState). alloc_of p 20000 16) made ∙ first_stack c.args.board in
    cc

pub unreachable-requires-in_default-alloc : goal.unreachable-requires-in_default-alloc
unreachable-requires-in_default-alloc c =
    let made : c.in_ok-part.part ≡ pool c.args.board [] = c.in_ok-part.ensures ∙ ap (λ (r : BoardRules). empty_part 65536 r.pool_end r.blocks) c.rules-pool_end.ensures in
    let first = c.alloc.ensures.after ∙ ap (λ (p : PartState). after_alloc p 20000 16 Kernel) made ∙ after_first c.args.board in
    let e = c.in_default-alloc.ensures.answer ∙ ap (λ (p : PartState). alloc_of p 4096 16) first ∙ second_stack c.args.board in
    cc

pub returns : goal.returns
returns c =
    let made : c.in_ok-part.part ≡ pool c.args.board [] = c.in_ok-part.ensures ∙ ap (λ (r : BoardRules). empty_part 65536 r.pool_end r.blocks) c.rules-pool_end.ensures in
    let first = c.alloc.ensures.after ∙ ap (λ (p : PartState). after_alloc p 20000 16 Kernel) made ∙ after_first c.args.board in
    c.alloc-2.ensures.after ∙ ap (λ (p : PartState). after_alloc p 4096 16 Kernel) first ∙ after_second c.args.board
