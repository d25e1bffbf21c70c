-- What each gate's call permits.
use Rattle.std.specs.Prelude.{ℕ, Bool, true, false}
use Rattle.wind_base.specs.Gates.{rules_of}
use Rattle.wind_base.specs.declared.gate_rules.Callers.{Callers}
use Rattle.wind_base.specs.declared.gate_rules.Callers.TheVariants.{All, Shell}
use Rattle.wind_base.specs.declared.gate.Gate.{Gate}
use Rattle.wind_base.specs.declared.gate.Gate.TheVariants as gates

-- every gate is that of a call, except the three return gates
abbrev pub is_call : Gate → Bool
is_call gates.TaskReturn = false
is_call gates.ShellReturn = false
is_call gates.InterruptReturn = false
is_call g = true

-- ---- each rule by itself
abbrev is_all : Callers → Bool
is_all All = true
is_all c = false

abbrev is_shell_alone : Callers → Bool
is_shell_alone Shell = true
is_shell_alone c = false

-- an interrupt routine may make the call
abbrev pub is_isr_callable : Gate → Bool
is_isr_callable g = is_all (rules_of g).callers

-- only the shell's task may make it
abbrev pub is_shells_own : Gate → Bool
is_shells_own g = is_shell_alone (rules_of g).callers

-- the word that a refused call answers
abbrev pub refusal_word : Gate → ℕ
refusal_word g = (rules_of g).refusal

-- host memory may run out in it
abbrev pub may_exhaust_memory : Gate → Bool
may_exhaust_memory g = (rules_of g).memory
