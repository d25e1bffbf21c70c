use Rattle.std.proofs.Common.{sym, ◌∙◌}
use Rattle.ppc_word.proofs.Leads.{led-31, led-19, led-opcode}
use Rattle.ppc_word.proofs.index.place_for.Goals as goal
use Rattle.ppc_word.proofs.index.place_for.Goals.{then-opcode-eq31, else-opcode-eq31+then-opcode-eq19, else-opcode-eq31+else-opcode-eq19}

pub returns : goal.returns
returns c =
    let opcode = sym c.part-opcode.ensures in
    elim c.if-opcode-eq31.branch [
      | then-opcode-eq31 w ↦
          let led = led-31 c.args.word (opcode ∙ w.if-opcode-eq31.true) in
          rw (w.place-is, w.place_in_31-place.ensures, w.part.ensures) (record { within = led.0; only = led.1 })
      | else-opcode-eq31+then-opcode-eq19 w ↦
          let led = led-19 c.args.word (opcode ∙ w.if-opcode-eq19.true) in
          rw (w.place-is, w.place_in_19.ensures, w.part-then-opcode-eq19.ensures) (record { within = led.0; only = led.1 })
      | else-opcode-eq31+else-opcode-eq19 w ↦
          let led = led-opcode c.args.word (λ e. w.if-opcode-eq19.false (c.part-opcode.ensures ∙ e)) (λ e. w.if-opcode-eq31.false (c.part-opcode.ensures ∙ e)) in
          rw (w.place-is, w.opcode_place.ensures, c.part-opcode.ensures) (record { within = led.0; only = led.1 })
    ]
