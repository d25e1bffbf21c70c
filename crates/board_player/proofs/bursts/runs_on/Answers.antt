use Rattle.std.proofs.Common.{rules, ◌≡◌, length, Some, sym, ◌∙◌, arith}
use Rattle.std.proofs.lemmas.Bool.Decides.{nat_tests}
use Rattle.std.proofs.lemmas.List.{nil_from_length}
use Rattle.board_player.specs.Inside.{parts_by}
use Rattle.board_player.proofs.TaskBursts.{alone_by}
use Rattle.board_player.proofs.bursts.runs_on.Goals as goal

pub returns-in-Some : goal.returns-in-Some
returns-in-Some g c = λ quiet.
    let none : length c.bytes.result.now ≡ 0 = grind (arith, nat_tests) in
    let last : c.args.parts.now.world.kern.last ≡ Some c.args.who = search rules in
    record {
      idle = c.requires.runner.idle;
      runs = sym c.requires.own ∙ c.requires.runner.who;
      calls = search rules;
      last = last;
      alone = alone_by (parts_by (λ d. (goal.Device-dyn g (d.vtable, d.value)).kind_of d.value) (λ d. (goal.Device-dyn g (d.vtable, d.value)).words_of d.value) c.args.parts.now) c.args.who c.requires.good.kept.reserved last;
      silent = sym c.bytes.ensures ∙ nil_from_length c.bytes.result.now none;
      delivery = search rules;
      console = search rules;
    }
