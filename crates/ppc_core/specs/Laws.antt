-- What follows from the equations of the instructions, in the book's terms.
use Rattle.std.specs.Prelude.{◌≡◌, ℕ, ◌/◌, ◌^◌, ◌<◌, ◌==◌, Some, if◌then◌else◌}
use Rattle.ppc_word.specs.declared.row.Row.TheVariants as row
use Rattle.ppc_word.specs.declared.insn.Insn.{Insn}
use Rattle.ppc_word.specs.Words.{field_places}
use Rattle.ppc_word.specs.Table.{form_of}
use Rattle.ppc_word.specs.Rows.{row_of}
use Rattle.ppc_word.specs.Insn.{word_of}
use Rattle.wind_base.specs.declared.regs.Regs.{Regs}
use Rattle.ppc_core.specs.declared.trap.Trap.TheVariants as trap
use Rattle.ppc_core.specs.Buses.{Meaning}
use Rattle.ppc_core.specs.Outcomes.{Done, Trapped}
use Rattle.ppc_core.specs.Words.{bits}
use Rattle.ppc_core.specs.Fields.{fxm}
use Rattle.ppc_core.specs.Registers.{in_rs, next}
use Rattle.ppc_core.specs.Names.{AreRead}
use Rattle.ppc_core.specs.Instructions.{effect_of, exec_of}

-- a word has the fields of an instruction, as execution reads them
abbrev pub HasFields : Insn → ℕ → Type 0
HasFields i w = AreRead (field_places (form_of i.row).pieces) i.fields w

module _ {B : Type 0} (m : Meaning B) where
  -- each word does what its instruction does; the instruction that `decode` finds is the only one with this word
  pub record InstructionLaw : Type 0 where
    -- execution reads each field of an instruction's word as its name says
    pub fields : (i : Insn) → HasFields i (word_of i)
    -- the word's effect is that of the instruction's row, with any word that has the instruction's fields
    pub effect :
        (i : Insn) (w : ℕ) → HasFields i w → (r : Regs) (b : B) →
        exec_of m r (word_of i) b ≡ effect_of m i.row r w b
    -- a word without an instruction is illegal
    pub illegal :
        (w : ℕ) → w < 2 ^ 32 → ((i : Insn) → word_of i ≡ w → ⊥) → (r : Regs) (b : B) →
        exec_of m r w b ≡ Trapped trap.Illegal

  -- mtcrf doesn't trap: bit i of CR becomes that of (RS) exactly if FXM names its field, and nothing else changes but the program counter
  abbrev pub MoveToCrLaw : Type 0
  MoveToCrLaw =
      (r : Regs) (w : ℕ) (b : B) → row_of w ≡ Some row.Mtcrf → (s : Regs)
      × (exec_of m r w b ≡ Done s b)
      × (s ≡ record (next r) { cr = s.cr })
      × ((i : ℕ) → i < 32 → bits s.cr i i ≡ (if fxm w (i / 4) == 1 then bits (in_rs r w) i i else bits r.cr i i))
