-- A mutex that gets or loses its owner.
use Rattle.std.specs.Prelude.{ℕ, ◌==◌, Bool, true, false, if◌then◌else◌, List, [], ◌∷◌, ◌++◌, Option, None, Some}
use Rattle.board_trace.specs.Mutexes.{mutex_named}
use Rattle.board_trace.specs.declared.moment.BeforeStep.{BeforeStep}
use Rattle.board_trace.specs.declared.moment.AfterStep.{AfterStep}
use Rattle.board_trace.specs.declared.happening.Happening.{Happening}
use Rattle.board_trace.specs.declared.happening.Happening.TheVariants as told

-- the mutex loses its owner, and gets one
abbrev pub freed : ℕ → Option ℕ → List Happening
freed mutex None = []
freed mutex (Some owner) = told.Freed mutex owner ∷ []

abbrev pub owned : ℕ → Option ℕ → List Happening
owned mutex None = []
owned mutex (Some owner) = told.Owned mutex owner ∷ []

-- two owners are the same
abbrev pub same_owner : Option ℕ → Option ℕ → Bool
same_owner None None = true
same_owner (Some a) (Some b) = a == b
same_owner None (Some b) = false
same_owner (Some a) None = false

-- the owner of a mutex changes
abbrev pub owner_changes : ℕ → Option ℕ → Option ℕ → List Happening
owner_changes mutex before after = if same_owner before after then [] else freed mutex before ++ owned mutex after

abbrev pub owners_at : Option ℕ → Option ℕ → Option ℕ → List Happening
owners_at None before after = []
owners_at (Some mutex) before after = owner_changes mutex before after

-- the change of the owner of the mutex that the step's call names
abbrev pub owners : BeforeStep → AfterStep → List Happening
owners c r = owners_at (mutex_named c.call) c.owner r.owner
