-- Which exception a step causes, by what it reported and by the word that it executed.
use Rattle.std.specs.Prelude.{ℕ, ◌/◌, ◌^◌, ◌==◌, ◌&&◌, Bool, if◌then◌else◌, nat_le, List, length, take, Option, None, Some, codes}
use Rattle.std.specs.Option.{option_map, unwrap_or}
use Rattle.std.specs.Str.{bytes_eq}
use Rattle.wind_base.specs.declared.gate.Gate.{Gate}
use Rattle.wind_base.specs.declared.regs.Regs.{Regs}
use Rattle.ppc_core.specs.Storage.{indexed, offset}
use Rattle.board_bus.specs.Access.{fetched}
use Rattle.kernel_world.specs.State.{WorldState}
use Rattle.kernel_world.specs.declared.actor.Actor.{Actor}
use Rattle.wind_machine.specs.Processor.{bus_of, regs_of}
use Rattle.board_trace.specs.declared.cause.Cause.{Cause}
use Rattle.board_trace.specs.declared.cause.Cause.TheVariants as causes

-- ---- before the step
-- the word to execute: none at a gate, or where none can be fetched
abbrev pub word_there : WorldState → Option ℕ → Option Gate → Option ℕ
word_there w None gate = None
word_there w (Some at) (Some g) = None
word_there w (Some at) None = fetched (bus_of w) at

-- the effective address of a load or store (Power ISA, Book I, 1.10.3): (RA|0) + (RB) for the primary opcode 31, else (RA|0) + D
abbrev pub effective_address : Regs → ℕ → ℕ
effective_address r word = if word / 2 ^ 26 == 31 then indexed r word else offset r word

-- that of the word of a task or routine
abbrev pub target_of : WorldState → Option Actor → Option ℕ → Option ℕ
target_of w None word = None
target_of w (Some who) word = option_map (effective_address (regs_of w who)) word

-- ---- after it
-- a text begins with these bytes
abbrev pub begins_with : List ℕ → List ℕ → Bool
begins_with word text = nat_le (length word) (length text) && bytes_eq (take (length word) text) word

-- the exception that the step reported. Its data address is the address itself if no word could be fetched there
abbrev pub cause_of : List ℕ → ℕ → Option ℕ → Option ℕ → Cause
cause_of written at word target =
    if begins_with (codes "\nexception access") written then causes.Access (unwrap_or target at)
    else if begins_with (codes "\nexception alignment") written then causes.Alignment (unwrap_or target at)
    else if begins_with (codes "\nexception illegal") written then causes.Illegal (unwrap_or word 0)
    else if begins_with (codes "\nexception trap") written then causes.Trap
    else causes.SystemCall
