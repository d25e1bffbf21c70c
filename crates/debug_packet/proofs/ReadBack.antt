-- Packets that gdb writes read back.
use Rattle.std.proofs.Common.{◌≡◌, ℕ, zero, suc, true, List, [], ◌∷◌, ◌++◌, Some, refl, arith, lit<}
use Rattle.std.specs.Prelude.{codes, nat_lt}
use Rattle.std.specs.Char.{is_ascii_digit}
use Rattle.std.specs.Fmt.{decimal}
use Rattle.std.specs.List.{list_all}
use Rattle.std.proofs.lemmas.Bool.Decides.{nat_tests}
use Rattle.hex.specs.Hex.{IsBytes, encode_lower}
use Rattle.hex.proofs.HexLemmas.{decode_of-encode_lower}
use Rattle.debug_wire.specs.Numbers.{hex_text}
use Rattle.debug_wire.specs.declared.number.ThreadId.{ThreadId}
use Rattle.debug_wire.proofs.NumberLemmas.{number_text}
use Rattle.debug_packet.specs.declared.packet.Command.{Command}
use Rattle.debug_packet.specs.declared.packet.Command.TheVariants as commands
use Rattle.debug_packet.specs.declared.packet.FileRequest.{FileRequest}
use Rattle.debug_packet.specs.declared.packet.FileRequest.TheVariants as files
use Rattle.debug_packet.specs.declared.packet.Object.{Object}
use Rattle.debug_packet.specs.declared.packet.Packet.TheVariants.{Supported, WhyStopped, Registers, Memory, Write, SetThread, IsAlive, Move, Insert, Remove, Transfer, File, Monitor, Attached, Detach, Kill, Unknown, Malformed}
use Rattle.debug_packet.specs.declared.packet.Point.{Point}
use Rattle.debug_packet.specs.declared.packet.Purpose.{Purpose}
use Rattle.debug_packet.specs.declared.packet.Purpose.TheVariants as purposes
use Rattle.debug_packet.specs.declared.packet.Range.{Range}
use Rattle.debug_packet.specs.declared.packet.Way.{Way}
use Rattle.debug_packet.specs.declared.packet.Way.TheVariants.{Step, Continue, StepBack, ContinueBack}
use Rattle.debug_packet.specs.Fields.{range_of, two_numbers}
use Rattle.debug_packet.specs.Packets.{file, insert, is_alive, memory, open_file, operation, packet_of, part_of, read_file, remove, set_thread, transfer, with_file}
use Rattle.debug_packet.specs.Written.{IsCommand, IsPoint, IsRange, IsRequest, IsThread, IsWord, WrittenLaw, command_text, file_text, object_name, range_text, two_texts, written}
use Rattle.debug_packet.proofs.Parts.{command_back, decimal_digits, digit_zero, name_lacks, object_back, point_back, range_back, thread_back, two_back, two_words}
use Rattle.debug_packet.proofs.Separators.{both_true, bytes_lack, drop_is, number_lacks, place_is, take_is}

-- ---- one letter
memory_back : (r : Range) → IsRange r → memory (range_text r) ≡ Some (Memory r)
unfolding memory
memory_back r is = rw (range_back r is) refl

set_back : (p : Purpose) (t : ThreadId) → IsThread t → packet_of (written (SetThread p t)) ≡ SetThread p t
unfolding packet_of set_thread
set_back purposes.Registers t is = rw (thread_back t is) refl
set_back purposes.Steps t is = rw (thread_back t is) refl

alive_back : (t : ThreadId) → IsThread t → packet_of (written (IsAlive t)) ≡ IsAlive t
unfolding packet_of is_alive
alive_back t is = rw (thread_back t is) refl

move_back : (w : Way) → packet_of (written (Move w)) ≡ Move w
unfolding packet_of
move_back Step = refl
move_back Continue = refl
move_back StepBack = refl
move_back ContinueBack = refl

-- ---- transfers
part_back : (o : Object) (r : Range) → IsRange r → part_of o (58 ∷ range_text r) ≡ Some (Transfer o r)
unfolding part_of
part_back o r is = rw (place_is 58 [] (range_text r) refl, range_back r is) refl

operation_back : (o : Object) (r : Range) → IsRange r → operation o (codes "read" ++ 58 ∷ 58 ∷ range_text r) ≡ Some (Transfer o r)
unfolding operation
operation_back o r is = rw (place_is 58 (codes "read") (58 ∷ range_text r) refl) (part_back o r is)

transfer_back : (o : Object) (r : Range) → IsRange r → transfer (object_name o ++ 58 ∷ (codes "read" ++ 58 ∷ 58 ∷ range_text r)) ≡ Some (Transfer o r)
unfolding transfer
transfer_back o r is =
    let rest : List ℕ = codes "read" ++ 58 ∷ 58 ∷ range_text r in
    rw (place_is 58 (object_name o) rest (name_lacks o), take_is (object_name o) (58 ∷ rest), object_back o, drop_is 58 (object_name o) rest) (operation_back o r is)

-- ---- files
number_back : (f : ℕ → FileRequest) (n : ℕ) → IsWord n → with_file f (hex_text n) ≡ Some (File (f n))
unfolding with_file
number_back f n is = rw (number_text n is) refl

read_back_file : (n : ℕ) (r : Range) → IsWord n → IsRange r → read_file (hex_text n ++ 44 ∷ two_texts r.count r.at) ≡ Some (File (files.Read n r))
unfolding read_file
read_back_file n r is range =
    let rest = two_texts r.count r.at in
    rw (place_is 44 (hex_text n) rest (number_lacks 44 n refl is), take_is (hex_text n) (44 ∷ rest), number_text n is, drop_is 44 (hex_text n) rest, two_words r.count r.at range.1 range.0) refl

flags : two_numbers (codes "0,0") ≡ Some (0, 0)
flags = two_back (codes "0") (codes "0") 0 0 refl digit_zero digit_zero

open_back : (name : List ℕ) → IsBytes name → open_file (encode_lower name ++ codes ",0,0") ≡ File (files.Open name)
open_back name are =
    let text = encode_lower name in
    rw (place_is 44 text (codes "0,0") (bytes_lack 44 name refl are), drop_is 44 text (codes "0,0"), flags, take_is text (codes ",0,0"), decode_of-encode_lower name are) refl

file_back : (f : FileRequest) → IsRequest f → file (file_text f) ≡ File f
file_back (files.SetRoot n) is = rw (place_is 58 (codes "setfs") (hex_text n) refl, number_back files.SetRoot n is) refl
file_back (files.Open name) is = rw (place_is 58 (codes "open") (encode_lower name ++ codes ",0,0") refl) (open_back name is)
file_back (files.Read n r) is = rw (place_is 58 (codes "pread") (hex_text n ++ 44 ∷ two_texts r.count r.at) refl, read_back_file n r is.0 is.1) refl
file_back (files.Status n) is = rw (place_is 58 (codes "fstat") (hex_text n) refl, number_back files.Status n is) refl
file_back (files.Close n) is = rw (place_is 58 (codes "close") (hex_text n) refl, number_back files.Close n is) refl

file_packet : (f : FileRequest) → IsRequest f → packet_of (written (File f)) ≡ File f
unfolding packet_of
file_packet f is = file_back f is

-- ---- commands
below : (bs : List ℕ) → list_all (λ b. nat_lt b 256) bs ≡ true → IsBytes bs
below [] all i = lit< tt
below (b ∷ bs) all zero = let first = (both_true (nat_lt b 256) (list_all (λ c. nat_lt c 256) bs) all).0 in grind (arith, nat_tests, first)
below (b ∷ bs) all (suc i) = below bs (both_true (nat_lt b 256) (list_all (λ c. nat_lt c 256) bs) all).1 i

digit_small : (b : ℕ) → is_ascii_digit b ≡ true → nat_lt b 256 ≡ true
digit_small b digit = grind (arith, nat_tests)

digits_small : (bs : List ℕ) → list_all is_ascii_digit bs ≡ true → list_all (λ b. nat_lt b 256) bs ≡ true
digits_small [] all = refl
digits_small (b ∷ bs) all =
    let parts = both_true (is_ascii_digit b) (list_all is_ascii_digit bs) all in
    let first = digit_small b parts.0 in
    let rest = digits_small bs parts.1 in
    rw (first, rest) refl

command_bytes : (c : Command) → IsCommand c → IsBytes (command_text c)
command_bytes commands.Step is = below (codes "step") refl
command_bytes commands.Tasks is = below (codes "i") refl
command_bytes commands.Console is = below (codes "console") refl
command_bytes (commands.GoTo n) is = below (codes "goto " ++ decimal n) (digits_small (decimal n) (decimal_digits n is))
command_bytes (commands.Events n) is = below (codes "events " ++ decimal n) (digits_small (decimal n) (decimal_digits n is))
command_bytes commands.Help is = below (codes "help") refl

monitor_back : (c : Command) → IsCommand c → packet_of (written (Monitor c)) ≡ Monitor c
unfolding packet_of
monitor_back c is = rw (decode_of-encode_lower (command_text c) (command_bytes c is), command_back c is) refl

-- ---- points
insert_back : (p : Point) → IsPoint p → packet_of (written (Insert p)) ≡ Insert p
unfolding packet_of insert
insert_back p is = rw (point_back p is) refl

remove_back : (p : Point) → IsPoint p → packet_of (written (Remove p)) ≡ Remove p
unfolding packet_of remove
remove_back p is = rw (point_back p is) refl

malformed_back : packet_of (codes "m") ≡ Malformed
unfolding packet_of memory range_of two_numbers
malformed_back = refl

pub read_back : WrittenLaw
unfolding packet_of
read_back Supported is = refl
read_back WhyStopped is = refl
read_back Registers is = refl
read_back (Memory range) is = rw (memory_back range is) refl
read_back Write is = refl
read_back (SetThread purpose thread) is = set_back purpose thread is
read_back (IsAlive thread) is = alive_back thread is
read_back (Move way) is = move_back way
read_back (Insert point) is = insert_back point is
read_back (Remove point) is = remove_back point is
read_back (Transfer object range) is = rw (transfer_back object range is) refl
read_back (File request) is = file_packet request is
read_back (Monitor command) is = monitor_back command is
read_back Attached is = refl
read_back Detach is = refl
read_back Kill is = refl
read_back Unknown is = refl
read_back Malformed is = malformed_back
