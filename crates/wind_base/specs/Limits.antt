-- The limits of the board and of a run, and the 32-bit words that its calls use by name. They are this project's own,
-- but ERROR, WAIT_FOREVER and NO_WAIT are those of the VxWorks 5.4 Reference Manual.
use Rattle.std.specs.Prelude.{ℕ, ◌^◌}

-- ---- objects of the kernel
-- the greatest number of live tasks
abbrev pub most_tasks : ℕ
most_tasks = 256

-- the greatest number of binary and counting semaphores together
abbrev pub most_semaphores : ℕ
most_semaphores = 1024

-- the greatest number of mutexes
abbrev pub most_mutexes : ℕ
most_mutexes = 1024

-- the greatest number of message queues
abbrev pub most_queues : ℕ
most_queues = 256

-- the greatest number of watchdogs
abbrev pub most_watchdogs : ℕ
most_watchdogs = 256

-- the greatest number of loaded modules
abbrev pub most_modules : ℕ
most_modules = 256

-- the greatest id of an object; each id is given once
abbrev pub greatest_id : ℕ
greatest_id = 1048576

-- the least urgent priority; 0 is the most urgent
abbrev pub least_urgent : ℕ
least_urgent = 255

-- the greatest length in bytes of the name of a module or symbol
abbrev pub longest_name : ℕ
longest_name = 255

-- the greatest length of a task's name in bytes
abbrev pub longest_short_name : ℕ
longest_short_name = 31

-- ---- memory
-- the size of RAM in bytes: 16 MiB, from address 0 on
abbrev pub ram_bytes : ℕ
ram_bytes = 16777216

-- the address at which the memory partition's pool begins; the pool ends with RAM
abbrev pub pool_start : ℕ
pool_start = 65536

-- the size in bytes of the stack of the shell's task, which is the pool's first block
abbrev pub shell_stack_bytes : ℕ
shell_stack_bytes = 20000

-- the size in bytes of the interrupt stack, which is the pool's second block
abbrev pub interrupt_stack_bytes : ℕ
interrupt_stack_bytes = 4096

-- the bytes at the end of a stack that hold the frame of the first call on it
abbrev pub frame_bytes : ℕ
frame_bytes = 64

-- the address of the first gate, right after RAM
abbrev pub gates_start : ℕ
gates_start = 0x01000000

-- the size of a gate in bytes
abbrev pub gate_bytes : ℕ
gate_bytes = 16

-- the greatest number of blocks in the partition
abbrev pub most_blocks : ℕ
most_blocks = 16384

-- the greatest number of entries in the symbol table
abbrev pub most_symbols : ℕ
most_symbols = 65536

-- the greatest length in bytes of a string that a call reads from memory, without its terminating zero
abbrev pub longest_string : ℕ
longest_string = 1023

-- ---- the bus
-- the greatest number of device slots
abbrev pub most_slots : ℕ
most_slots = 16

-- the greatest number of routines that may be connected to the interrupts of one slot's device
abbrev pub most_connections : ℕ
most_connections = 4

-- the address of the first device slot
abbrev pub slots_start : ℕ
slots_start = 0xe0000000

-- the size of a device slot in bytes
abbrev pub slot_bytes : ℕ
slot_bytes = 4096

-- ---- files, the console and runs
-- the greatest length in bytes of a console file and of a tick file: 1 MiB
abbrev pub longest_text_file : ℕ
longest_text_file = 1048576

-- the greatest length in bytes of a module file: 4 MiB
abbrev pub longest_module_file : ℕ
longest_module_file = 4194304

-- the greatest length in bytes of the line that is being edited, without its end
abbrev pub longest_line : ℕ
longest_line = 255

-- the greatest number of bytes of finished lines that are stored, each with its end
abbrev pub most_kept_bytes : ℕ
most_kept_bytes = 4096

-- the greatest number of bytes that arrive at once
abbrev pub longest_chunk : ℕ
longest_chunk = 4096

-- the greatest number of bytes that one `printf` writes
abbrev pub longest_print : ℕ
longest_print = 4096

-- the greatest number of steps that a run may be given
abbrev pub most_steps : ℕ
most_steps = 10 ^ 12

-- ---- words
-- the greatest word
abbrev pub greatest_word : ℕ
greatest_word = 0xffffffff

-- the result of a refused call
abbrev pub error_word : ℕ
error_word = greatest_word

-- the result of a successful call that returns nothing else
abbrev pub ok_word : ℕ
ok_word = 0

-- the timeout of a wait without a time limit
abbrev pub wait_forever : ℕ
wait_forever = greatest_word

-- the timeout of a call that is refused instead of waiting
abbrev pub no_wait : ℕ
no_wait = 0

-- ---- object files
-- the greatest number of section headers of an object file
abbrev pub most_section_headers : ℕ
most_section_headers = 4096

-- the greatest number of entries in its symbol table
abbrev pub most_symbol_entries : ℕ
most_symbol_entries = 65536

-- the greatest number of relocations of its loaded sections together
abbrev pub most_relocations : ℕ
most_relocations = 1048576

-- the greatest size in bytes of a loaded section, and of a common symbol: 16 MiB
abbrev pub most_section_bytes : ℕ
most_section_bytes = 16777216
