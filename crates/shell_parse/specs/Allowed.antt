-- Which token may come next, by what came before: a mode, and what is open. The levels of the operators don't matter.
use Rattle.std.specs.Prelude.{ℕ, suc, ◌-◌, Bool, true, false, List, [], ◌∷◌, Option, Some, None, if◌then◌else◌}
use Rattle.shell_parse.specs.declared.tree.BinOp.TheVariants.{Minus, Times, And}
use Rattle.shell_parse.specs.declared.token.Token.{Token}
use Rattle.shell_parse.specs.declared.token.Token.TheVariants.{Number, Str, Name, Operator, Set, Not, Com, Open, Close, Comma, Semi, Redirect, File}
use Rattle.shell_parse.specs.declared.allowed.Mode.{Mode}
use Rattle.shell_parse.specs.declared.allowed.Mode.TheVariants.{Start, Named, Whole, Variable, Want, Target, Done, Callee, Opened, AtFile, Loaded}
use Rattle.shell_parse.specs.declared.frames.Frame.{Frame}
use Rattle.shell_parse.specs.declared.frames.Frame.TheVariants.{InGroup, InCall, InCommand}
use Rattle.shell_parse.specs.Grammar.{most_arguments, is_ld}

-- a mode, and what is open, innermost first
pub record Place : Type 0 where
  pub mode : Mode
  pub frames : List Frame

-- how many arguments may follow the first of a call
abbrev pub more_arguments : ℕ
more_arguments = most_arguments - 1

-- the token is allowed, and leads to this mode with these frames
abbrev pub at : Mode → List Frame → Option Place
at mode frames = Some (record { mode = mode; frames = frames })

-- In what follows, the mark says that an assignment may come after the operand, because it is a star's.

-- where an operand must come
abbrev pub on_operand : Bool → List Frame → Token → Option Place
on_operand mark fs (Number n) = at (Done mark) fs
on_operand mark fs (Str text) = at (Done mark) fs
on_operand mark fs (Name x) = at (Callee mark) fs
on_operand mark fs (Operator Minus) = at (Want mark) fs
on_operand mark fs (Operator Times) = at (Want mark) fs
on_operand mark fs (Operator And) = at (Target mark) fs
on_operand mark fs Not = at (Want mark) fs
on_operand mark fs Com = at (Want mark) fs
on_operand mark fs Open = at Whole (InGroup mark ∷ fs)
on_operand mark fs _ = None

-- where an expression must come: a name and a star may begin the left side of an assignment
abbrev pub on_whole : List Frame → Token → Option Place
on_whole fs (Name x) = at Variable fs
on_whole fs (Operator Times) = at (Want true) fs
on_whole fs t = on_operand false fs t

-- after `&`, before a name
abbrev pub on_target : Bool → List Frame → Token → Option Place
on_target mark fs (Name x) = at (Done mark) fs
on_target mark fs _ = None

-- a closing parenthesis after an expression ends the innermost group or call
abbrev pub on_close : List Frame → Option Place
on_close (InGroup mark ∷ fs) = at (Callee mark) fs
on_close (InCall n mark ∷ fs) = at (Callee mark) fs
on_close _ = None

-- a comma after an expression comes before another argument, while more may follow
abbrev pub on_comma : List Frame → Option Place
on_comma (InCall (suc n) mark ∷ fs) = at Whole (InCall n mark ∷ fs)
on_comma (InCommand (suc n) ∷ fs) = at Whole (InCommand n ∷ fs)
on_comma _ = None

-- a semicolon after an expression comes if no parenthesis is open
abbrev pub on_semi : List Frame → Option Place
on_semi [] = at Start []
on_semi (InCommand n ∷ fs) = at Start []
on_semi _ = None

-- after an operand that can't be called
abbrev pub on_done : Bool → List Frame → Token → Option Place
on_done mark fs (Operator op) = at (Want false) fs
on_done mark fs (Set op) = if mark then at Whole fs else None
on_done mark fs Close = on_close fs
on_done mark fs Comma = on_comma fs
on_done mark fs Semi = on_semi fs
on_done mark fs _ = None

-- after a callee: a call, or what follows an operand
abbrev pub on_callee : Bool → List Frame → Token → Option Place
on_callee mark fs Open = at Opened (InCall more_arguments mark ∷ fs)
on_callee mark fs t = on_done mark fs t

-- after a name that begins an expression: an assignment, or what follows a callee
abbrev pub on_variable : List Frame → Token → Option Place
on_variable fs (Set op) = at Whole fs
on_variable fs t = on_callee false fs t

-- after the opening parenthesis of a call
abbrev pub on_opened : List Frame → Token → Option Place
on_opened fs Close = on_close fs
on_opened fs t = on_whole fs t

-- after the name that begins a statement, which is `ld` or not: arguments, a file, or what follows a name in an
-- expression
abbrev pub on_named : Bool → Token → Option Place
on_named ld (Number n) = on_whole (InCommand more_arguments ∷ []) (Number n)
on_named ld (Str text) = on_whole (InCommand more_arguments ∷ []) (Str text)
on_named ld (Name x) = on_whole (InCommand more_arguments ∷ []) (Name x)
on_named ld Not = on_whole (InCommand more_arguments ∷ []) Not
on_named ld Com = on_whole (InCommand more_arguments ∷ []) Com
on_named ld Redirect = if ld then at AtFile [] else None
on_named ld t = on_variable [] t

-- at the beginning of a statement
abbrev pub on_start : Token → Option Place
on_start Semi = at Start []
on_start (Name x) = at (Named (is_ld x)) []
on_start t = on_whole [] t

-- after `ld <`
abbrev pub on_file : Token → Option Place
on_file (File file) = at Loaded []
on_file _ = None

-- after the file
abbrev pub on_loaded : Token → Option Place
on_loaded Semi = at Start []
on_loaded _ = None

-- the place after the token, or none if the token isn't allowed
abbrev pub step : Mode → List Frame → Token → Option Place
step Start fs t = on_start t
step (Named ld) fs t = on_named ld t
step Whole fs t = on_whole fs t
step Variable fs t = on_variable fs t
step (Want mark) fs t = on_operand mark fs t
step (Target mark) fs t = on_target mark fs t
step (Done mark) fs t = on_done mark fs t
step (Callee mark) fs t = on_callee mark fs t
step Opened fs t = on_opened fs t
step AtFile fs t = on_file t
step Loaded fs t = on_loaded t

-- how many tokens are allowed, from a token that leads to this place on
abbrev pub begun_after : Option Place → (Mode → List Frame → ℕ) → ℕ
begun_after None go = 0
begun_after (Some p) go = suc (go p.mode p.frames)

-- how many of these tokens are allowed, from this place on
abbrev pub begun_from : List Token → Mode → List Frame → ℕ
begun_from [] mode fs = 0
begun_from (t ∷ ts) mode fs = begun_after (step mode fs t) (λ m gs. begun_from ts m gs)

-- how many of the first tokens some line begins with
unfoldable pub begun : List Token → ℕ
begun ts = begun_from ts Start []
