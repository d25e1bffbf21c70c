-- The first rule that fails, and the one result of each file.
use Rattle.std.specs.Prelude.{◌≡◌, ◌⊎◌, ℕ, ◌<◌, List, Ok, Err, slice_get, Some}
use Rattle.elf_read.specs.declared.error.ElfErr.{ElfErr}
use Rattle.elf_read.specs.declared.error.ElfErr.TheVariants.{NoMemory}
use Rattle.elf_read.specs.declared.module.Module.{Module}
use Rattle.elf_read.specs.Rule.{Rule, each}
use Rattle.elf_read.specs.Rules.{rules_of, Refused}
use Rattle.elf_read.specs.Contents.{ModuleOf}

-- rule number k refuses with e, and each rule before it holds
pub record IsFirst (rules : List Rule) (e : ElfErr) : Type 0 where
  pub number : ℕ
  pub fails : slice_get rules number ≡ Some (Err e)
  pub before : (i : ℕ) → i < number → slice_get rules i ≡ Some (Ok tt)

-- a file is refused by the first of its rules that fails
abbrev pub RefusedFirst : Type 0
RefusedFirst = (bytes : List ℕ) (e : ElfErr) → Refused bytes e → IsFirst (rules_of bytes) e

-- in a rule for each number, the first number that fails
pub record FailsAt (n : ℕ) (rule : ℕ → Rule) (e : ElfErr) : Type 0 where
  pub at : ℕ
  pub within : at < n
  pub fails : rule at ≡ Err e
  pub before : (i : ℕ) → i < at → rule i ≡ Ok tt

-- a rule for each number fails at the first number that it refuses
abbrev pub EachFails : Type 0
EachFails = (n : ℕ) (rule : ℕ → Rule) (e : ElfErr) → each 0 n rule ≡ Err e → FailsAt n rule e

-- the file has this module and no other, and isn't refused
pub record HoldsOne (bytes : List ℕ) : Type 0 where
  pub it : Module
  pub is : ModuleOf bytes it
  pub only : (m : Module) → ModuleOf bytes m → m ≡ it
  pub not_refused : (e : ElfErr) → Refused bytes e → ⊥

-- the file is refused with this error and no other, and has no module
pub record RefusedOnce (bytes : List ℕ) : Type 0 where
  pub it : ElfErr
  pub is : Refused bytes it
  pub only : (e : ElfErr) → Refused bytes e → e ≡ it
  pub no_module : (m : Module) → ModuleOf bytes m → ⊥

-- each file has exactly one module or exactly one refusal
abbrev pub OneAnswer : Type 0
OneAnswer = (bytes : List ℕ) → HoldsOne bytes ⊎ RefusedOnce bytes

-- no rule refuses because memory ran out
abbrev pub NeverMemory : Type 0
NeverMemory = (bytes : List ℕ) → Refused bytes NoMemory → ⊥
