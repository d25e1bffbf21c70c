-- What each byte of the console does. The rules are this project's own; the keys have the names of POSIX terminals.
use Rattle.std.specs.Prelude.{ℕ, ◌-◌, List, [], ◌∷◌, ◌++◌, Bool, ◌==◌, ◌||◌, nat_lt, nat_le, if◌then◌else◌, take, length}
use Rattle.wind_base.specs.Limits.{longest_line}
use Rattle.con_line.specs.State.{ConsoleState}
use Rattle.con_line.specs.Lines.{is_kept, with_kept}
use Rattle.con_line.specs.declared.key.Key.{Key}
use Rattle.con_line.specs.declared.key.Key.TheVariants as keys
use Rattle.con_line.specs.declared.console.ByteDone.{ByteDone}
use Rattle.con_line.specs.declared.console.ByteDone.TheVariants as done

-- a tab, or a byte from the space on; `key_of` tests 0x7F before
abbrev pub is_text : ℕ → Bool
is_text b = b == 9 || nat_le 32 b

-- the key that sends a byte
abbrev pub key_of : ℕ → Key
key_of b =
    if b == 13 then keys.Return
    else (if b == 10 then keys.NewLine
    else (if b == 8 || b == 127 then keys.Erase
    else (if b == 21 then keys.Kill
    else (if b == 3 then keys.Interrupt
    else (if is_text b then keys.Text
    else keys.Ignored)))))

-- the edited line ends: it is added after the finished ones, or dropped
abbrev pub line_ended : ConsoleState → ConsoleState
line_ended c = record c { edited = []; finished = with_kept c.finished c.edited }

abbrev pub line_done : ConsoleState → ByteDone
line_done c = if is_kept c.finished c.edited then done.Line else done.Kept

-- the edited line without its last byte, and what that echoes: back, blank, back, if there was one
abbrev pub erased : List ℕ → List ℕ
erased edited = take (length edited - 1) edited

abbrev pub erase_echo : List ℕ → List ℕ
erase_echo edited = if length edited == 0 then [] else 8 ∷ 32 ∷ 8 ∷ []

-- whether another byte may be typed: the edited line isn't full
abbrev pub has_room : List ℕ → Bool
has_room edited = nat_lt (length edited) longest_line

-- the edited line with a typed byte, and what that echoes: the byte, if there is room
abbrev pub typed : List ℕ → ℕ → List ℕ
typed edited b = if has_room edited then edited ++ b ∷ [] else edited

abbrev pub type_echo : List ℕ → ℕ → List ℕ
type_echo edited b = if has_room edited then b ∷ [] else []

-- the console after a key, except for the mark
abbrev pub after_key : Key → ConsoleState → ℕ → ConsoleState
after_key keys.Return c b = line_ended c
after_key keys.NewLine c b = if c.after_return then c else line_ended c
after_key keys.Erase c b = record c { edited = erased c.edited }
after_key keys.Kill c b = record c { edited = [] }
after_key keys.Interrupt c b = record c { edited = []; finished = [] }
after_key keys.Text c b = record c { edited = typed c.edited b }
after_key keys.Ignored c b = c

-- what a key echoes; the end of a line is echoed as 0x0A
abbrev pub echo_of : Key → ConsoleState → ℕ → List ℕ
echo_of keys.Return c b = 10 ∷ []
echo_of keys.NewLine c b = if c.after_return then [] else 10 ∷ []
echo_of keys.Erase c b = erase_echo c.edited
echo_of keys.Kill c b = 10 ∷ []
echo_of keys.Interrupt c b = 10 ∷ []
echo_of keys.Text c b = type_echo c.edited b
echo_of keys.Ignored c b = []

-- what a key does besides: it aborts the shell, or finishes a line
abbrev pub done_by : Key → ConsoleState → ByteDone
done_by keys.Return c = line_done c
done_by keys.NewLine c = if c.after_return then done.Kept else line_done c
done_by keys.Interrupt c = done.Abort
done_by _ c = done.Kept

-- the console after a byte; the mark says whether it was 0x0D
abbrev pub after_byte : ConsoleState → ℕ → ConsoleState
after_byte c b = record (after_key (key_of b) c b) { after_return = b == 13 }

abbrev pub byte_echo : ConsoleState → ℕ → List ℕ
byte_echo c b = echo_of (key_of b) c b

abbrev pub byte_done : ConsoleState → ℕ → ByteDone
byte_done c b = done_by (key_of b) c
