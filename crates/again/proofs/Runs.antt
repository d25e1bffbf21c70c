-- A run with a library's answers is one run.
use Rattle.std.proofs.Common.{◌≡◌, ℕ, zero, suc, ◌<◌, ◌++◌, List, Option, Some, None, refl, sym, ap, ap₂, ◌∙◌, subst, arith}
use Rattle.std.specs.Prelude.{unwrap_or}
use Rattle.std.specs.Option.{option_map}
use Rattle.board_player.specs.LiveLoadingSaid.{FileSaid}
use Rattle.board_player.specs.WindMachineState.{State}
use Rattle.board_player.specs.WindMachineMachine.{file_asked, file_of, machine_step, settled_state, state_after}
use Rattle.board_player.specs.WindMachineRun.{Answers, after, text}
use Rattle.wind_machine.specs.Next.{next}
use Rattle.wind_machine.specs.declared.next.Next.{Next}
use Rattle.wind_machine.specs.declared.next.Next.TheVariants.{Load}
use Rattle.again.specs.Libraries.{Library, answers_in, at, said_for, said_in, text_in}
use Rattle.again.specs.Laws.{AnswersLaw, AreOf, OneRunLaw}

-- a step that asks for no file doesn't use the answer
same_after_next : (a b : FileSaid) (s : State) (n : Next) → file_of n ≡ None → state_after a s n ≡ state_after b s n
same_after_next a b s (Load name) none = absurd (cc)
same_after_next a b s n none = refl

unused : (a b : FileSaid) (s : State) → file_asked s ≡ None → machine_step a s ≡ machine_step b s
unfolding machine_step file_asked
unused a b s none = ap (option_map settled_state) (same_after_next a b s (next s) none)

-- so it may be the library's in any case
as_library : (library : Library) (said : FileSaid) (s : State) (asked : Option (List ℕ)) → file_asked s ≡ asked → ((name : List ℕ) → asked ≡ Some name → said ≡ library name) → machine_step said s ≡ machine_step (said_for library asked) s
as_library library said s None e own = unused said (said_for library None) s e
as_library library said s (Some name) e own = ap (λ x. machine_step x s) (own name refl)

-- the states are the same
one_state : (library : Library) (said : Answers) (s : State) (k : ℕ) → AreOf library said s k → after said s k ≡ at library s k
one_state library said s zero own = refl
one_state library said s (suc k) own =
    let before : after said s k ≡ at library s k = one_state library said s k (λ j below. own j (omega (arith, below))) in
    let u = after said s k in
    ap (λ o. unwrap_or o u) (as_library library (said k) u (file_asked u) refl (own k (omega arith)))
    ∙ ap (λ (v : State). unwrap_or (machine_step (said_in library v) v) v) before

-- so is the text
one_text : (library : Library) (said : Answers) (s : State) (k : ℕ) → AreOf library said s k → text said s k ≡ text_in library s k
one_text library said s zero own = refl
one_text library said s (suc k) own = ap₂ (λ (xs ys : List ℕ). xs ++ ys) (one_text library said s k (λ j below. own j (omega (arith, below)))) (ap (λ (v : State). v.world.output) (one_state library said s (suc k) own))

pub one_run : OneRunLaw
one_run library said s k own = (one_state library said s k own, one_text library said s k own)

-- the library's own answers are such ones
own_states : (library : Library) (s : State) (k : ℕ) → after (answers_in library s) s k ≡ at library s k
own_states library s zero = refl
own_states library s (suc k) = ap (λ (v : State). unwrap_or (machine_step (answers_in library s k) v) v) (own_states library s k)

own_text : (library : Library) (s : State) (k : ℕ) → text (answers_in library s) s k ≡ text_in library s k
own_text library s zero = refl
own_text library s (suc k) = ap₂ (λ (xs ys : List ℕ). xs ++ ys) (own_text library s k) (ap (λ (v : State). v.world.output) (own_states library s (suc k)))

pub own_answers : AnswersLaw
own_answers library s k = (own_states library s k, own_text library s k)
