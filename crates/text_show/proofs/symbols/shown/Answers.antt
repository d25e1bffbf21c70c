use Rattle.std.proofs.Common.{ap, sym, ◌∙◌, arith}
use Rattle.std.specs.Prelude.{option_copied}
use Rattle.text_show.specs.Symbols.{is_shown}
use Rattle.text_show.proofs.Shown.{one_more, is_there}
use Rattle.text_show.proofs.symbols.shown.Goals as goal
use Rattle.text_show.proofs.symbols.shown.Goals.{in-Some+in_ok-take_shown, in_default}

pub loop-number-preserved : goal.loop-number-preserved
loop-number-preserved c =
    let list = c.args.symbols.now.list in
    elim c.match-at.branch [
      | in-Some+in_ok-take_shown w ↦ rw (w.found-is) (one_more (is_shown c.args.part.now) list c.loop-number.number _ _ _ _ (sym c.at.ensures ∙ ap option_copied w.in-Some.is) c.loop-number.invariant w.in_ok-take_shown.ensures)
      | in_default w ↦ absurd (is_there list c.loop-number.number (omega (arith, c.loop-number-test.true, c.len-number-end.ensures.count)) (sym c.at.ensures ∙ ap option_copied w.in_default.is))
    ]
