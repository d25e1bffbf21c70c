use Rattle.std.proofs.Common.{◌≡◌, List, map, arith, ap, sym, ◌∙◌}
use Rattle.std.specs.Prelude.{length}
use Rattle.std.proofs.lemmas.List.{length-map}
use Rattle.wind_session.specs.Program.{opening_devices}
use Rattle.trace_session.proofs.ProgramLemmas.{left_on}
use Rattle.trace_session.proofs.program.trace_on.Goals as goal

as_many : {A B : Type 0} (xs : List A) (f : A → B) (ys : List B) → map f xs ≡ ys → length xs ≡ length ys
as_many xs f ys same = sym (length-map xs f) ∙ ap length same

-- there are three devices
pub trace-requires : goal.trace-requires
trace-requires g c = omega (arith, as_many c.args.devices.items _ opening_devices c.requires)

pub returns-clause-session : goal.returns-clause-session
returns-clause-session g c =
    let machine = c.trace.ensures.machine in
    record {
      plan = machine.plan;
      planned = machine.planned;
      leaves = left_on _ _ c.trace.result.stand _ machine.plan _ _ _ _ _ _ machine.leaves c.trace.ensures.kept c.requires;
      usage = c.trace.ensures.usage;
      complete = c.trace.ensures.complete;
      read_fault = c.trace.ensures.read_fault;
      write_fault = c.trace.ensures.write_fault;
    }
