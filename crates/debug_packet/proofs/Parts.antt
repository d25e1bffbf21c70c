-- The parts of packets read back.
use Rattle.std.proofs.Common.{◌≡◌, ℕ, ◌<◌, ◌≤◌, ◌^◌, Bool, true, false, List, [], ◌∷◌, ◌++◌, length, Some, None, refl, sym, ap, ◌∙◌, arith, lit<}
use Rattle.std.specs.Prelude.{codes, nat_le, ◌==◌}
use Rattle.std.specs.Char.{is_ascii_digit}
use Rattle.std.specs.Fmt.{decimal}
use Rattle.std.specs.List.{list_all}
use Rattle.std.specs.Str.{bytes_eq}
use Rattle.std.specs.Str.Parse.{AllDigits, digits_value}
use Rattle.std.proofs.lemmas.Bool.Decides.{nat_tests}
use Rattle.std.proofs.lemmas.Fmt.{decimal_is_IsNumeral, decimal_nonempty}
use Rattle.std.proofs.lemmas.Slice.Eq.{bytes_eq-Decides}
use Rattle.wind_base.specs.Decimal.{decimal_value}
use Rattle.debug_wire.specs.Numbers.{hex_number, hex_text, thread_id}
use Rattle.debug_wire.specs.declared.number.ThreadId.{ThreadId}
use Rattle.debug_wire.specs.declared.number.ThreadId.TheVariants as threads
use Rattle.debug_wire.proofs.NumberLemmas.{number_text}
use Rattle.debug_packet.specs.declared.packet.Command.{Command}
use Rattle.debug_packet.specs.declared.packet.Command.TheVariants as commands
use Rattle.debug_packet.specs.declared.packet.Object.{Object}
use Rattle.debug_packet.specs.declared.packet.Object.TheVariants as objects
use Rattle.debug_packet.specs.declared.packet.Point.{Point}
use Rattle.debug_packet.specs.declared.packet.Point.TheVariants.{Break, Watch}
use Rattle.debug_packet.specs.declared.packet.Range.{Range}
use Rattle.debug_packet.specs.Fields.{range_of, two_numbers}
use Rattle.debug_packet.specs.Packets.{command_of, greatest_argument, object_of, point}
use Rattle.debug_packet.specs.Written.{IsCommand, IsPoint, IsRange, IsThread, IsWord, command_text, object_name, point_text, range_text, thread_text, two_texts}
use Rattle.debug_packet.proofs.Separators.{drop_is, lacks, number_lacks, place_is, take_is}

-- ---- numbers
-- texts of one digit
pub digit_zero : hex_number (codes "0") ≡ Some 0
unfolding hex_number
digit_zero = refl

pub digit_one : hex_number (codes "1") ≡ Some 1
unfolding hex_number
digit_one = refl

pub digit_two : hex_number (codes "2") ≡ Some 2
unfolding hex_number
digit_two = refl

pub two_back : (xs ys : List ℕ) (a b : ℕ) → lacks 44 xs ≡ true → hex_number xs ≡ Some a → hex_number ys ≡ Some b
    → two_numbers (xs ++ 44 ∷ ys) ≡ Some (a, b)
unfolding two_numbers
two_back xs ys a b none first second = rw (place_is 44 xs ys none, take_is xs (44 ∷ ys), first, drop_is 44 xs ys, second) refl

pub two_words : (a b : ℕ) → IsWord a → IsWord b → two_numbers (two_texts a b) ≡ Some (a, b)
two_words a b first second = two_back (hex_text a) (hex_text b) a b (number_lacks 44 a refl first) (number_text a first) (number_text b second)

pub range_back : (r : Range) → IsRange r → range_of (range_text r) ≡ Some r
unfolding range_of
range_back r is = rw (two_words r.at r.count is.0 is.1) refl

-- ---- threads
by_false : (t : Bool) → (t ≡ true → ⊥) → t ≡ false
by_false true not_true = absurd (not_true refl)
by_false false not_true = refl

no_minus : hex_number (codes "-1") ≡ None
unfolding hex_number
no_minus = refl

not_all : (n : ℕ) → IsWord n → bytes_eq (hex_text n) (codes "-1") ≡ false
not_all n small =
    by_false _ (λ e. (
    let same : hex_text n ≡ codes "-1" = (bytes_eq-Decides (hex_text n) (codes "-1")).0 e in
    let both : Some n ≡ None = sym (number_text n small) ∙ ap hex_number same ∙ no_minus in
    cc))

pub thread_back : (t : ThreadId) → IsThread t → thread_id (thread_text t) ≡ Some t
thread_back threads.All is = refl
thread_back threads.Any is = rw digit_zero refl
thread_back (threads.Id n) is =
    let other = not_all n is.1 in
    let some : (n == 0) ≡ false = grind (arith, nat_tests, is.0) in
    rw (other, number_text n is.1, some) refl

-- ---- points
pub point_back : (p : Point) → IsPoint p → point (point_text p) ≡ Some (Some p)
unfolding point
point_back (Break at) is =
    let four : 4 < 2 ^ 64 = lit< tt in
    rw (place_is 44 (codes "1") (two_texts at 4) refl, digit_one, range_back (record { at = at; count = 4 }) (is, four)) refl
point_back (Watch range) is = rw (place_is 44 (codes "2") (range_text range) refl, digit_two, range_back range is) refl

-- ---- objects
pub object_back : (o : Object) → object_of (object_name o) ≡ Some o
object_back objects.Features = refl
object_back objects.Threads = refl
object_back objects.Libraries = refl
object_back objects.MemoryMap = refl
object_back objects.ExecFile = refl

pub name_lacks : (o : Object) → lacks 58 (object_name o) ≡ true
name_lacks objects.Features = refl
name_lacks objects.Threads = refl
name_lacks objects.Libraries = refl
name_lacks objects.MemoryMap = refl
name_lacks objects.ExecFile = refl

-- ---- commands
digit_is : (d : ℕ) (ds : List ℕ) → AllDigits 10 (d ∷ ds) → is_ascii_digit d ≡ true
digit_is d ds all = grind (arith, nat_tests, all.0)

all_ascii : (ds : List ℕ) → AllDigits 10 ds → list_all is_ascii_digit ds ≡ true
all_ascii [] all = refl
all_ascii (d ∷ ds) all = let first = digit_is d ds all in let rest = all_ascii ds all.1 in rw (first, rest) refl

pub decimal_digits : (n : ℕ) → n ≤ greatest_argument → list_all is_ascii_digit (decimal n) ≡ true
decimal_digits n within =
    let small : n < 2 ^ 64 = omega (arith, within) in
    all_ascii (decimal n) (decimal_is_IsNumeral n small).0.1

decimal_back : (n : ℕ) → n ≤ greatest_argument → decimal_value greatest_argument (decimal n) ≡ Some n
unfolding decimal_value
decimal_back n within =
    let text = decimal n in
    let small : n < 2 ^ 64 = omega (arith, within) in
    let numeral = decimal_is_IsNumeral n small in
    let some : 0 < length text = decimal_nonempty n small in
    let full : (length text == 0) ≡ false = grind (arith, nat_tests) in
    let digits = decimal_digits n within in
    let value : digits_value 10 text ≡ n = numeral.1 in
    let inside : nat_le n greatest_argument ≡ true = grind (arith, nat_tests, within) in
    rw (full, digits, value, inside) refl

pub command_back : (c : Command) → IsCommand c → command_of (command_text c) ≡ c
command_back commands.Step is = refl
command_back commands.Tasks is = refl
command_back commands.Console is = refl
command_back (commands.GoTo n) is = rw (decimal_back n is) refl
command_back (commands.Events n) is = rw (decimal_back n is) refl
command_back commands.Help is = refl
