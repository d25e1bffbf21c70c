-- What a board answers for its next step.
use Rattle.std.proofs.Common.{◌≡◌, List, ℕ, Option, None, Some, IfSome, refl, sym, ap, ◌∙◌, subst}
use Rattle.std.specs.Prelude.{◌↔◌}
use Rattle.std.specs.Option.{option_map}
use Rattle.live_loading.specs.KernelWorldReply.{Reply}
use Rattle.wind_machine.specs.LiveLoadingReplies.{load_reply}
use Rattle.wind_machine.specs.LiveLoadingSaid.{FileSaid}
use Rattle.wind_machine.specs.State.{State}
use Rattle.wind_machine.specs.ActorSteps.{load_step, shell_world}
use Rattle.wind_machine.specs.Next.{next}
use Rattle.wind_machine.specs.Machine.{state_after, file_of, file_asked, settled_state, machine_step, Steps, IsOver}
use Rattle.wind_machine.specs.Replies.{reply_after, step_reply}
use Rattle.wind_machine.specs.declared.next.Next.{Next}
use Rattle.wind_machine.specs.declared.next.Next.TheVariants.{Load, Over}
use Rattle.dev_irq.specs.State.{IsIrqs}
use Rattle.wind_machine.specs.Interrupts.{StepsSlot, SlotLaw}
use Rattle.board_player.specs.Settling.{CanSettle, Makes}

-- the step that comes next, whatever the folder answers about a file
pub steps_on : (s t : State) (n : Next) → n ≡ next s → Makes s n t → Steps s t
unfolding machine_step
steps_on s t n e on said = ap (λ m. option_map settled_state (state_after said s m)) (sym e) ∙ on said

-- its reply
pub replies_on : (o : Option Reply) (s : State) (n : Next) → n ≡ next s → ((said : FileSaid) → o ≡ reply_after said s n) → (said : FileSaid) → o ≡ step_reply said s
unfolding step_reply
replies_on o s n e on said = on said ∙ ap (reply_after said s) e

-- a step that makes no call has none
pub quiet_reply : (said : FileSaid) (s : State) (n m : Next) → n ≡ m → reply_after said s m ≡ None → None ≡ reply_after said s n
quiet_reply said s n m is none = sym (ap (reply_after said s) is ∙ none)

-- the file that the step needs
pub asked_is : (s : State) (n : Next) (o : Option (List ℕ)) → n ≡ next s → o ≡ file_of n → o ≡ file_asked s
unfolding file_asked
asked_is s n o e q = q ∙ ap file_of e

-- the run is over exactly if `Over` comes next
pub is_over : {A : Type 0} (s : State) (n : Next) (r quiet : A) → n ≡ next s → (r ≡ quiet) ↔ (n ≡ Over) → (r ≡ quiet) ↔ IsOver s
is_over s n r quiet e both = (λ q. sym e ∙ both.0 q, λ over. both.1 (e ∙ over))

-- a load is made with the folder's answer about its file
by_case : (said : FileSaid) (s : State) (name : List ℕ) (n : Next) → file_of n ≡ Some name → state_after said s n ≡ Some (load_step said s name)
by_case said s name (Load given) q = let same : given ≡ name = cc in ap (λ x. Some (load_step said s x)) same
by_case said s name n q = absurd (cc)

pub loads : (said : FileSaid) (s : State) (name : List ℕ) → file_asked s ≡ Some name → machine_step said s ≡ Some (settled_state (load_step said s name))
unfolding machine_step file_asked
loads said s name e = ap (option_map settled_state) (by_case said s name (next s) e)

load_case : (said : FileSaid) (s : State) (name : List ℕ) (n : Next) → file_of n ≡ Some name → reply_after said s n ≡ Some (load_reply (shell_world s) said)
load_case said s name (Load given) q = refl
load_case said s name n q = absurd (cc)

-- ---- what the call for a load answers
pub loaded_reply : (said : FileSaid) (s : State) (name : List ℕ) (r : Reply) → file_asked s ≡ Some name → r ≡ load_reply (shell_world s) said → Some r ≡ step_reply said s
unfolding file_asked step_reply
loaded_reply said s name r asked is = ap Some is ∙ sym (load_case said s name (next s) asked)

pub loaded_step : (said : FileSaid) (s t : State) (name : List ℕ) → file_asked s ≡ Some name → t ≡ settled_state (load_step said s name) → machine_step said s ≡ Some t
loaded_step said s t name asked is = loads said s name asked ∙ ap Some (sym is)

-- what it does to the slots
pub loaded_slots : SlotLaw → (said : FileSaid) (s t : State) (name : List ℕ) → IsIrqs s.world.irqs → file_asked s ≡ Some name → t ≡ settled_state (load_step said s name) → (i : ℕ) → StepsSlot s t i
loaded_slots law said s t name valid asked is i = law said s t i valid (loaded_step said s t name asked is)

-- a load leaves a state that can be settled
pub load_left : (said : FileSaid) (s : State) (name : List ℕ) → file_asked s ≡ Some name → IfSome (state_after said s (next s)) CanSettle → CanSettle (load_step said s name)
unfolding file_asked
load_left said s name asked h = subst (λ o. IfSome o CanSettle) (by_case said s name (next s) asked) h
