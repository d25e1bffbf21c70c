use Rattle.std.proofs.Common.{◌≡◌, ◌∙◌, ℕ, ◌+◌, ◌-◌, sym, ap, subst, arith}
use Rattle.tick_family.specs.Members.{periodic}
use Rattle.tick_family.specs.Reading.{text_length}
use Rattle.tick_family.specs.Inside.{fitting}
use Rattle.tick_family.proofs.TextLemmas.{from_first, length_step, length_end, fitting_some}
use Rattle.tick_family.proofs.bytes.periodic_length.Goals as goal

pub loop-done-init : goal.loop-done-init
loop-done-init c = record {
  sum = ap (λ v. c.args.used + text_length v) (from_first c.args.shift c.args.period c.args.event c.args.count);
  fits = c.requires.used;
}

pub loop-done-preserved : goal.loop-done-preserved
loop-done-preserved c = record {
  sum =
      length_step c.args.shift c.args.period c.args.event c.args.count c.loop-done.done c.loop-done.bytes (c.args.used + text_length (periodic c.args.shift c.args.period c.args.event 1 c.args.count))
      c.line_length-bytes.result (omega arith) c.loop-done.invariant.sum c.line_length-bytes.ensures.value;
  fits = omega arith;
}

pub returns : goal.returns
returns c =
    let whole = c.args.used + text_length (periodic c.args.shift c.args.period c.args.event 1 c.args.count) in
    let e : c.loop-done.done ≡ c.args.count = omega arith in
    let sum = subst (λ (n : ℕ). c.loop-done.bytes + text_length (periodic c.args.shift c.args.period c.args.event (n + 1) (c.args.count - n)) ≡ whole) e c.loop-done.invariant.sum in
    sym (fitting_some c.loop-done.bytes c.loop-done.invariant.fits) ∙ ap fitting (length_end c.args.shift c.args.period c.args.event c.args.count c.loop-done.bytes whole sum)
