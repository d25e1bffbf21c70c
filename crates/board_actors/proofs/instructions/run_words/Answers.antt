use Rattle.std.proofs.Common.{ℕ, ◌+◌, ◌≡◌, subst, sym, ap, arith}
use Rattle.wind_base.specs.declared.regs.Regs.{Regs}
use Rattle.board_bus.specs.Seen.{bus_by}
use Rattle.board_actors.specs.Instructions.{left_of, reached}
use Rattle.board_actors.proofs.Bursting.{RunsBelow, runs_after, runs_none}
use Rattle.board_actors.proofs.instructions.run_words.Goals as goal

pub loop-burst-init : goal.loop-burst-init
loop-burst-init g c =
    let seen = bus_by (λ d. (goal.Device-dyn g (d.vtable, d.value)).kind_of d.value) (λ d. (goal.Device-dyn g (d.vtable, d.value)).words_of d.value) in
    let r = c.args.regs.now in let b = seen c.args.bus.now in let s = c.onward-burst in let left = s.ensures.left in
    (0, omega (arith, left), subst (λ (x : Regs). RunsBelow 0 r b x b) (sym s.ensures.at) (runs_none r b), omega arith)

pub loop-burst-preserved : goal.loop-burst-preserved
loop-burst-preserved g c =
    let seen = bus_by (λ d. (goal.Device-dyn g (d.vtable, d.value)).kind_of d.value) (λ d. (goal.Device-dyn g (d.vtable, d.value)).words_of d.value) in
    let l = c.loop-burst in let s = c.run_page-burst in let ran = s.ensures.ran in
    let before = l.invariant.1 in let count = ran.1 in let within = l.invariant.3 in let less = s.ensures.within in
    let is = c.in-Some.is in let left = ap left_of is in
    let runs = rw is at l.invariant.2 in (
      l.invariant.0 + ran.0,
      omega (arith, before, count, left),
      runs_after l.invariant.0 ran.0 _ _ (reached s.result s.new.regs) _ _ _ runs ran.2 s.ensures.size,
      omega (arith, within, less),
    )

pub returns-clause-ran : goal.returns-clause-ran
returns-clause-ran g c =
    let l = c.loop-burst in
    let seen = bus_by (λ d. (goal.Device-dyn g (d.vtable, d.value)).kind_of d.value) (λ d. (goal.Device-dyn g (d.vtable, d.value)).words_of d.value) in
    let count = l.invariant.1 in let left = ap left_of c.in_default.is in
    let all : l.invariant.0 ≡ l.made = omega (arith, count, left) in
    let runs = subst (λ (n : ℕ). RunsBelow n c.args.regs.now (seen c.args.bus.now) (reached l.burst l.regs) (seen l.bus)) all l.invariant.2 in
    (rw c.in_default.is at runs).many
