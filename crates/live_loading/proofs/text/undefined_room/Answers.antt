use Rattle.std.proofs.Common.{length, arith}
use Rattle.module_image.specs.Binding.{unbound}
use Rattle.live_loading.specs.Texts.{undefined_text}
use Rattle.live_loading.proofs.Lines.{room_more, room_enough}
use Rattle.live_loading.proofs.text.undefined_room.Goals as goal

pub loop-symbol-preserved : goal.loop-symbol-preserved
loop-symbol-preserved c = record {
  most = omega (arith, c.line_room-room.ensures.most, c.loop-symbol.invariant.most);
  enough = λ tab.
      room_more tab c.args.m.now.symbols c.as_slice-symbol-items.result.now c.loop-symbol.symbol-index c.symbol-item.result (length (undefined_text (unbound tab c.args.m.now.symbols))) c.loop-symbol.room
      c.line_room-room.result c.as_slice-symbol-items.ensures c.loop-symbol-test.true c.symbol-item.is (c.loop-symbol.invariant.enough tab) (c.line_room-room.ensures.enough tab);
}

pub returns : goal.returns
returns c tab =
    room_enough tab c.args.m.now.symbols c.as_slice-symbol-items.result.now c.loop-symbol.symbol-index (length (undefined_text (unbound tab c.args.m.now.symbols))) c.loop-symbol.room
    c.as_slice-symbol-items.ensures c.loop-symbol-test.false (c.loop-symbol.invariant.enough tab)
