use Rattle.std.proofs.Common.{◌≡◌, List, map, arith, ap, sym, ◌∙◌}
use Rattle.std.specs.Prelude.{length}
use Rattle.std.proofs.lemmas.List.{length-map}
use Rattle.wind_session.specs.Program.{opening_devices}
use Rattle.wind_session.proofs.ProgramLemmas.{left_on}
use Rattle.session_promises.proofs.program.play_on.Goals as goal

as_many : {A B : Type 0} (xs : List A) (f : A → B) (ys : List B) → map f xs ≡ ys → length xs ≡ length ys
as_many xs f ys same = sym (length-map xs f) ∙ ap length same

-- there are three devices
pub play-requires : goal.play-requires
play-requires g c = omega (arith, as_many c.args.devices.items _ opening_devices c.requires.devices)

pub returns-clause-session : goal.returns-clause-session
returns-clause-session g c =
    let machine = c.play.ensures.machine in
    record {
      plan = machine.plan;
      planned = machine.planned;
      leaves = left_on _ _ c.play.result.stand machine.plan _ _ _ _ _ _ machine.leaves c.play.ensures.kept c.requires.devices;
      usage = c.play.ensures.usage;
      complete = c.play.ensures.complete;
      fails_last = c.play.ensures.fails_last;
      read_fault = c.play.ensures.read_fault;
      write_fault = c.play.ensures.write_fault;
    }
