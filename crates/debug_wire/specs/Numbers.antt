-- Numbers and ids of threads as texts of GDB's remote protocol ("Overview" and "Packets" in the GDB manual).
use Rattle.std.specs.Prelude.{ℕ, ◌^◌, ◌==◌, ◌&&◌, not, nat_lt, if◌then◌else◌, Bool, List, length, codes, Option, None, Some, false}
use Rattle.std.specs.Char.{is_digit}
use Rattle.std.specs.Fmt.{digits}
use Rattle.std.specs.List.{list_all}
use Rattle.std.specs.Option.{option_map}
use Rattle.std.specs.Str.{bytes_eq}
use Rattle.std.specs.Str.Parse.{digits_value}
use Rattle.debug_wire.specs.declared.number.ThreadId.{ThreadId}
use Rattle.debug_wire.specs.declared.number.ThreadId.TheVariants.{All, Any, Id}

-- one or more hexadecimal digits, in either case
abbrev pub are_hex_digits : List ℕ → Bool
are_hex_digits text = not (length text == 0) && list_all (λ b. is_digit b 16) text

-- a number, if it fits 64 bits
abbrev pub within_64_bits : ℕ → Option ℕ
within_64_bits n = if nat_lt n (2 ^ 64) then Some n else None

-- the number that a text writes, if the text is hexadecimal digits and the number fits 64 bits
unfoldable pub hex_number : List ℕ → Option ℕ
hex_number text = if are_hex_digits text then within_64_bits (digits_value 16 text) else None

-- a number in hexadecimal digits, in lower case, without leading zeros
abbrev pub hex_text : ℕ → List ℕ
hex_text n = digits 16 false n

-- the thread that a number names: 0 is any thread
abbrev pub numbered_thread : ℕ → ThreadId
numbered_thread n = if n == 0 then Any else Id n

-- the threads that a text names: `-1` is all threads, 0 is any one, and another number is the thread of that id
abbrev pub thread_id : List ℕ → Option ThreadId
thread_id text = if bytes_eq text (codes "-1") then Some All else option_map numbered_thread (hex_number text)
