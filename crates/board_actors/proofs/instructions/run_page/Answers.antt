use Rattle.std.proofs.Common.{◌≡◌, ℕ, ◌+◌, ◌<◌, ◌/◌, ◌%◌, length, refl, sym, subst, zero-add, arith}
use Rattle.wind_base.specs.declared.regs.Regs.{Regs}
use Rattle.ppc_core.specs.Stepping.{at_pc}
use Rattle.board_bus.specs.Seen.{bus_by}
use Rattle.board_actors.specs.Instructions.{reached}
use Rattle.board_actors.proofs.Bursting.{RunsBelow, IsStretch, entry_ran, entry_next, read_left, stretched, runs_none}
use Rattle.board_actors.proofs.instructions.run_page.Goals as goal

pub loop-next-init : goal.loop-next-init
loop-next-init g c =
    let seen = bus_by (λ d. (goal.Device-dyn g (d.vtable, d.value)).kind_of d.value) (λ d. (goal.Device-dyn g (d.vtable, d.value)).words_of d.value) in
    (0, omega arith, runs_none (at_pc c.args.regs.now c.args.from.pc) (seen c.args.bus.now), refl, omega arith, refl)

pub run_left-requires-clause-more : goal.run_left-requires-clause-more
run_left-requires-clause-more g c = omega (arith, c.loop-next.invariant.1, c.loop-next.invariant.5, c.requires)

pub loop-next-preserved : goal.loop-next-preserved
loop-next-preserved g c =
    let seen = bus_by (λ d. (goal.Device-dyn g (d.vtable, d.value)).kind_of d.value) (λ d. (goal.Device-dyn g (d.vtable, d.value)).words_of d.value) in
    let l = c.loop-next in
    let read = rw c.in-Executed.is at c.run_reading-progress.ensures in
    let s = c.in_ok-at.ensures in let left = s.left in
    let count = l.invariant.1 in let bus = seen c.args.bus.now in let r = at_pc c.args.regs.now c.args.from.pc in
    let within : l.at.pc % 4096 / 4 < length c.code_of-entries.result.now = omega arith in
    let ran = subst (λ (x : Regs). RunsBelow (l.invariant.0 + 1) r bus x bus) (sym s.at) (entry_ran l.invariant.0 l.at.pc _ _ c.in-Executed.next _ l.regs c.run_reading-progress.new.regs _ _ _ c.code_of-entries.result.now c.index-entries-at.result c.copied-insn.result l.invariant.2
    c.code_of-entries.ensures.words (l.invariant.3) (l.invariant.4) refl within c.index-entries-at.is c.copied-insn.ensures read.0 read.1) in (
      l.invariant.0 + 1,
      omega (arith, count, left),
      ran,
      c.is_word_of.ensures.page c.if-not-is_word_of.false,
      c.is_word_of.ensures.aligned c.if-not-is_word_of.false,
      l.invariant.5,
    )

pub run_left-requires-clause-next : goal.run_left-requires-clause-next
run_left-requires-clause-next g c =
    let l = c.loop-next in
    let seen = bus_by (λ d. (goal.Device-dyn g (d.vtable, d.value)).kind_of d.value) (λ d. (goal.Device-dyn g (d.vtable, d.value)).words_of d.value) in
    let within : l.at.pc % 4096 / 4 < length c.code_of-entries.result.now = omega arith in
    entry_next (seen c.args.bus.now) l.at.pc _ _ c.code_of-entries.result.now c.index-entries-at.result c.copied-insn.result c.code_of-entries.ensures.words (l.invariant.3) (l.invariant.4) refl within c.index-entries-at.is c.copied-insn.ensures

pub run_left-requires-clause-named : goal.run_left-requires-clause-named
run_left-requires-clause-named g c =
    let l = c.loop-next in
    let seen = bus_by (λ d. (goal.Device-dyn g (d.vtable, d.value)).kind_of d.value) (λ d. (goal.Device-dyn g (d.vtable, d.value)).words_of d.value) in
    (read_left c.copied-insn.result l.at.pc l.regs c.run_reading-progress.new.regs (seen c.args.bus.now) c.run_reading-progress.result c.run_reading-progress.ensures c.in_default.not-Executed).0

pub returns-in_default : goal.returns-in_default
returns-in_default g c =
    let l = c.loop-next in let left = c.run_reading-progress in let ran = c.run_left in
    let seen = bus_by (λ d. (goal.Device-dyn g (d.vtable, d.value)).kind_of d.value) (λ d. (goal.Device-dyn g (d.vtable, d.value)).words_of d.value) in
    let bus = seen c.args.bus.now in let r = at_pc c.args.regs.now c.args.from.pc in
    let same : left.new.regs ≡ l.regs = (read_left c.copied-insn.result l.at.pc l.regs left.new.regs bus left.result left.ensures c.in_default.not-Executed).1 in
    let runs = subst (λ (x : Regs). RunsBelow l.invariant.0 r bus (at_pc x l.at.pc) bus) (sym same) l.invariant.2 in
    let is : IsStretch l.at l.made ran.result ran.new.made l.invariant.0 r bus ran.new.regs (seen ran.new.bus) =
    stretched l.invariant.0 l.at l.made r left.new.regs bus bus ran.result ran.new.made ran.new.regs (seen ran.new.bus) runs ran.ensures in
    let before = l.invariant.1 in let made = l.invariant.5 in let count = is.count in let less = is.less in let within = is.within in
    record {
      ran = (l.invariant.0 + is.more, omega (arith, before, made, count), is.runs.many);
      size = is.runs.size;
      less = omega (arith, less, before);
      within = omega (arith, within, made);
    }

pub returns-then-entries-ne-WORDS : goal.returns-then-entries-ne-WORDS
returns-then-entries-ne-WORDS g c =
    let seen = bus_by (λ d. (goal.Device-dyn g (d.vtable, d.value)).kind_of d.value) (λ d. (goal.Device-dyn g (d.vtable, d.value)).words_of d.value) in
    let ran = c.run_first in let bus = seen c.args.bus.now in let r = at_pc c.args.regs.now c.args.from.pc in
    let is : IsStretch c.args.from c.args.made.now ran.result ran.new.made 0 r bus ran.new.regs (seen ran.new.bus) =
    stretched 0 c.args.from c.args.made.now r c.args.regs.now bus bus ran.result ran.new.made ran.new.regs (seen ran.new.bus) (runs_none r bus) ran.ensures in
    let runs = subst (λ (n : ℕ). RunsBelow n r bus (reached ran.result ran.new.regs) (seen ran.new.bus)) (zero-add is.more) is.runs in
    record {
      ran = (is.more, is.count, runs.many);
      size = runs.size;
      less = is.less;
      within = is.within;
    }

pub returns-in_err-at-clause-ran : goal.returns-in_err-at-clause-ran
returns-in_err-at-clause-ran g c =
    let seen = bus_by (λ d. (goal.Device-dyn g (d.vtable, d.value)).kind_of d.value) (λ d. (goal.Device-dyn g (d.vtable, d.value)).words_of d.value) in
    let l = c.loop-next in
    let read = rw c.in-Executed.is at c.run_reading-progress.ensures in
    let s = c.in_err-at.ensures in let left = s.left in
    let count = l.invariant.1 in let bus = seen c.args.bus.now in let r = at_pc c.args.regs.now c.args.from.pc in
    let within : l.at.pc % 4096 / 4 < length c.code_of-entries.result.now = omega arith in
    let ran = subst (λ (x : Regs). RunsBelow (l.invariant.0 + 1) r bus x bus) (sym s.at) (entry_ran l.invariant.0 l.at.pc _ _ c.in-Executed.next _ l.regs c.run_reading-progress.new.regs _ _ _ c.code_of-entries.result.now c.index-entries-at.result c.copied-insn.result l.invariant.2
    c.code_of-entries.ensures.words (l.invariant.3) (l.invariant.4) refl within c.index-entries-at.is c.copied-insn.ensures read.0 read.1) in
    rw c.from_residual.ensures (l.invariant.0 + 1, omega (arith, count, left, l.invariant.5), ran.many)

pub returns-in_err-at-clause-within : goal.returns-in_err-at-clause-within
returns-in_err-at-clause-within g c = omega (arith, c.loop-next.invariant.5)

pub returns-then-not-is_word_of : goal.returns-then-not-is_word_of
returns-then-not-is_word_of g c =
    let seen = bus_by (λ d. (goal.Device-dyn g (d.vtable, d.value)).kind_of d.value) (λ d. (goal.Device-dyn g (d.vtable, d.value)).words_of d.value) in
    let l = c.loop-next in
    let read = rw c.in-Executed.is at c.run_reading-progress.ensures in
    let s = c.in_ok-at.ensures in let left = s.left in
    let count = l.invariant.1 in let bus = seen c.args.bus.now in let r = at_pc c.args.regs.now c.args.from.pc in
    let within : l.at.pc % 4096 / 4 < length c.code_of-entries.result.now = omega arith in
    let ran = subst (λ (x : Regs). RunsBelow (l.invariant.0 + 1) r bus x bus) (sym s.at) (entry_ran l.invariant.0 l.at.pc _ _ c.in-Executed.next _ l.regs c.run_reading-progress.new.regs _ _ _ c.code_of-entries.result.now c.index-entries-at.result c.copied-insn.result l.invariant.2
    c.code_of-entries.ensures.words (l.invariant.3) (l.invariant.4) refl within c.index-entries-at.is c.copied-insn.ensures read.0 read.1) in
    record {
      ran = (l.invariant.0 + 1, omega (arith, count, left, l.invariant.5), ran.many);
      size = ran.size;
      less = omega (arith, count, left);
      within = omega (arith, l.invariant.5);
    }
