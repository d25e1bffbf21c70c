-- The names of the kinds of happenings.
use Rattle.std.specs.Prelude.{Option, codes, find}
use Rattle.std.specs.Str.{bytes_eq}
use Rattle.clap.specs.Words.{Text}
use Rattle.trace_session.specs.declared.choice.Kind.{Kind}
use Rattle.trace_session.specs.declared.choice.Kind.TheVariants as kinds
use Rattle.trace_session.specs.declared.kinds.TheConstants.{KINDS}

-- the name of a kind
abbrev pub kind_name : Kind → Text
kind_name kinds.Outside = codes "outside"
kind_name kinds.Runs = codes "runs"
kind_name kinds.Calls = codes "calls"
kind_name kinds.Exceptions = codes "exceptions"
kind_name kinds.Owners = codes "owners"
kind_name kinds.Messages = codes "messages"
kind_name kinds.Waits = codes "waits"
kind_name kinds.Tasks = codes "tasks"
kind_name kinds.Priorities = codes "priorities"
kind_name kinds.Watchdogs = codes "watchdogs"
kind_name kinds.Modules = codes "modules"
kind_name kinds.Routines = codes "routines"
kind_name kinds.Output = codes "output"
kind_name kinds.Instructions = codes "instructions"

-- the kind with this name
abbrev pub kind_named : Text → Option Kind
kind_named name = find (λ k. bytes_eq (kind_name k) name) KINDS
