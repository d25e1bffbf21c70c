-- The registers that gdb is told of ("Target Descriptions" in the GDB manual), and their values.
use Rattle.std.specs.Prelude.{ℕ, ◌+◌, zero, suc, List, [], ◌∷◌, ◌++◌, codes}
use Rattle.std.specs.Fmt.{decimal}
use Rattle.wind_base.specs.Texts.{hex_places}
use Rattle.wind_base.specs.declared.regs.Regs.{Regs}

-- a general register: `rN`, of 32 bits
unfoldable pub general_register : ℕ → List ℕ
general_register number = codes "<reg name=\"r" ++ (decimal number ++ codes "\" bitsize=\"32\"/>")

-- so many general registers, from this one on
abbrev pub general_registers : ℕ → ℕ → List ℕ
general_registers first zero = []
general_registers first (suc count) = general_register first ++ general_registers (first + 1) count

-- what comes before them
unfoldable pub target_start : List ℕ
target_start =
    codes "<?xml version=\"1.0\"?>"
    ++ (codes "<!DOCTYPE target SYSTEM \"gdb-target.dtd\"><target version=\"1.0\">"
    ++ (codes "<architecture>powerpc:common</architecture><osabi>none</osabi>"
    ++ codes "<feature name=\"org.gnu.gdb.power.core\">"))

-- the processor's other registers
unfoldable pub special_registers : List ℕ
special_registers =
    codes "<reg name=\"pc\" bitsize=\"32\" type=\"code_ptr\"/>"
    ++ (codes "<reg name=\"msr\" bitsize=\"32\"/><reg name=\"cr\" bitsize=\"32\"/>"
    ++ (codes "<reg name=\"lr\" bitsize=\"32\" type=\"code_ptr\"/>"
    ++ (codes "<reg name=\"ctr\" bitsize=\"32\"/><reg name=\"xer\" bitsize=\"32\"/>"
    ++ codes "</feature>")))

-- a number of the run, as a register of 64 bits
unfoldable pub run_register : List ℕ → List ℕ
run_register name = codes "<reg name=\"" ++ (name ++ codes "\" bitsize=\"64\" type=\"uint64\" group=\"windplay\"/>")

-- the three numbers of the run
unfoldable pub run_registers : List ℕ
run_registers =
    codes "<feature name=\"windplay.machine\">"
    ++ (run_register (codes "step") ++ (run_register (codes "time") ++ (run_register (codes "tick") ++ codes "</feature></target>")))

-- the description of the target: r0 to r31, pc, msr, cr, lr, ctr, xer, and step, time, tick
unfoldable pub target : List ℕ
target = target_start ++ (general_registers 0 32 ++ (special_registers ++ run_registers))

-- words, each in 8 hexadecimal digits
abbrev pub words_text : List ℕ → List ℕ
words_text [] = []
words_text (word ∷ words) = hex_places 8 word ++ words_text words

-- the values of all registers, in the order of the description; msr isn't available
unfoldable pub registers_text : Regs → ℕ → ℕ → ℕ → List ℕ
registers_text regs step time tick =
    words_text regs.gpr
    ++ (hex_places 8 regs.pc
    ++ (codes "xxxxxxxx" ++ (words_text (regs.cr ∷ regs.lr ∷ regs.ctr ∷ regs.xer ∷ []) ++ (hex_places 16 step ++ (hex_places 16 time ++ hex_places 16 tick)))))
