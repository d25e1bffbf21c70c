-- What a call that was read has to do with its gate.
use Rattle.std.proofs.Common.{◌≡◌, ℕ, true, false, List, Option, None, Some, IsSome, refl, sym, ap, ◌∙◌, subst}
use Rattle.wind_base.specs.declared.gate.Gate.{Gate}
use Rattle.wind_base.specs.declared.gate.Gate.TheVariants as gates
use Rattle.call_rows.specs.KernelWorldState.{WorldState}
use Rattle.call_rows.specs.KernelWorldAllowed.{is_call, may_exhaust_memory}
use Rattle.call_rows.specs.KernelWorldActors.{is_interrupt}
use Rattle.call_rows.specs.KernelWorldCallWords.{call_of, call_by, gate_of}
use Rattle.call_rows.specs.KernelWorldReplies.{left_gate}
use Rattle.call_rows.specs.KernelWorldActor.{Actor}
use Rattle.call_rows.specs.KernelWorldActor.TheVariants.{Task, Interrupt}
use Rattle.call_rows.specs.KernelWorldCall.{Call}
use Rattle.call_rows.specs.KernelWorldReply.{Reply}
use Rattle.call_rows.specs.KernelWorldReply.TheVariants.{Later}
use Rattle.call_rows.specs.Unless.{unless}
use Rattle.kernel_calls.specs.Calls.{with_reply, row, row_of, declined, refusal_before, made, file_wanted}

-- the call belongs to the gate
abbrev IsOf : Gate → Option Call → Type 0
IsOf g None = is_call g ≡ false
IsOf g (Some c) = gate_of c ≡ g

of_gate : (g : Gate) (ram r : List ℕ) → IsOf g (call_of g ram r)
of_gate gates.TaskReturn ram r = refl
of_gate gates.ShellReturn ram r = refl
of_gate gates.InterruptReturn ram r = refl
of_gate g ram r = refl

pub gate_back : (g : Gate) (ram r : List ℕ) (c : Call) → Some c ≡ call_of g ram r → gate_of c ≡ g
gate_back g ram r c e = subst (IsOf g) (sym e) (of_gate g ram r)

-- ---- a call that needs a file may run out of memory, and no interrupt routine makes it
pub asks_lack : (g : Gate) (w : WorldState) (a : Actor) → IsSome (file_wanted g w a) → may_exhaust_memory g ≡ true
asks_lack gates.Ld w a some = refl
asks_lack g w a some = absurd (cc)

pub routine_asks_none : (g : Gate) (w : WorldState) → file_wanted g w Interrupt ≡ None
routine_asks_none gates.Ld w = refl
routine_asks_none g w = refl

pub asks_as_task : (g : Gate) (w : WorldState) (a : Actor) → IsSome (file_wanted g w a) → is_interrupt a ≡ false
asks_as_task g w (Task who) some = refl
asks_as_task g w Interrupt some = let none = routine_asks_none g w in absurd (cc)

-- ---- the row is what is made
pub row_made : (g : Gate) (w u v : WorldState) (a : Actor) (c : Call) (reply : Reply) → None ≡ refusal_before g a → Some c ≡ call_by g w a → u ≡ left_gate w a
    → with_reply v reply ≡ row c u a → with_reply v reply ≡ made g w a
row_made g w u v a c reply fine is left rowed =
    rowed
    ∙ ap (λ s. row c s a) left
    ∙ ap (λ o. row_of o (left_gate w a) a) is
    ∙ ap (λ o. unless o (declined (left_gate w a)) (row_of (call_by g w a) (left_gate w a) a)) fine

-- at a return gate nothing is
pub none_made : (g : Gate) (w u : WorldState) (a : Actor) → None ≡ refusal_before g a → None ≡ call_by g w a → u ≡ left_gate w a → with_reply u Later ≡ made g w a
none_made g w u a fine is left =
    ap (λ s. with_reply s Later) left
    ∙ ap (λ o. row_of o (left_gate w a) a) is
    ∙ ap (λ o. unless o (declined (left_gate w a)) (row_of (call_by g w a) (left_gate w a) a)) fine
