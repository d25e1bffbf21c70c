use Rattle.std.proofs.Common.{ℕ, get_or, length, ap, sym, ◌∙◌, arith}
use Rattle.std.proofs.lemmas.List.{length-replicate}
use Rattle.board_mem.proofs.Making.{get_or-zeros}
use Rattle.board_mem.proofs.code.CodePages.new.Goals as goal

pub returns-clause-kept : goal.returns-clause-kept
returns-clause-kept c =
    let slots = c.in_ok-repeated.ensures in
    let owners = c.in_ok-repeated-2.ensures in
    record {
      owned = λ page slot e. absurd (omega (arith, sym e ∙ ap (λ xs. get_or xs page 0) slots ∙ get_or-zeros c.args.pages page));
      pages = ap length owners ∙ length-replicate {A = ℕ} 64 0;
      exact = ap length c.in_ok-with_capacity.ensures.items;
      few = omega arith;
      next = omega arith;
      room = omega (arith, c.in_ok-with_capacity.ensures.capacity);
    }
