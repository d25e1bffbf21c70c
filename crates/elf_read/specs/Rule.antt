-- Rules and their order: the first that fails is the refusal.
use Rattle.std.specs.Prelude.{ℕ, zero, suc, ◌+◌, Bool, true, false, List, [], ◌∷◌, Result, Ok, Err}
use Rattle.elf_read.specs.declared.error.ElfErr.{ElfErr}

-- a rule that holds, or its refusal
abbrev pub Rule : Type 0
Rule = Result Unit ElfErr

-- the first rule, and if it holds, the second
infixr 10 ◌and_then◌
abbrev pub ◌and_then◌ : Rule → Rule → Rule
(Ok u) and_then r = r
(Err e) and_then r = Err e

-- the refusal e, unless b holds
abbrev pub unless : Bool → ElfErr → Rule
unless true e = Ok tt
unless false e = Err e

-- the rule, if b holds
abbrev pub when : Bool → Rule → Rule
when true r = r
when false r = Ok tt

-- the first refusal of a list of rules
abbrev pub first_of : List Rule → Rule
first_of [] = Ok tt
first_of (r ∷ rs) = r and_then first_of rs

-- the rule for each of n numbers from i on
abbrev pub each : ℕ → ℕ → (ℕ → Rule) → Rule
each i zero rule = Ok tt
each i (suc n) rule = rule i and_then each (i + 1) n rule
