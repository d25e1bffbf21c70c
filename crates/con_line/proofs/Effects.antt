-- What an answer of a byte says of the finished lines.
use Rattle.std.proofs.Common.{ℕ, Bool, refl}
use Rattle.std.specs.Prelude.{[], ◌++◌, ◌==◌, if◌then◌else◌}
use Rattle.con_line.specs.State.{ConsoleState}
use Rattle.con_line.specs.Keys.{key_of, line_ended, line_done, after_key, done_by, after_byte, byte_done}
use Rattle.con_line.specs.Lines.{is_kept, with_end}
use Rattle.con_line.specs.Effect.{Leaves}
use Rattle.con_line.specs.declared.key.Key.{Key}
use Rattle.con_line.specs.declared.key.Key.TheVariants as keys
use Rattle.con_line.specs.declared.console.ByteDone.{ByteDone}
use Rattle.con_line.specs.declared.console.ByteDone.TheVariants as done
use Rattle.con_line.proofs.Kept.{by_test}

-- each answer with its effect on the finished lines
line_leaves : (c : ConsoleState) → Leaves (line_done c) c (line_ended c)
line_leaves c =
    by_test
    (λ t. Leaves (if t then done.Line else done.Kept) c (record c { edited = []; finished = if t then c.finished ++ with_end c.edited else c.finished }))
    (is_kept c.finished c.edited) (λ e. refl) (λ e. refl)

key_leaves : (k : Key) (c : ConsoleState) (b : ℕ) → Leaves (done_by k c) c (after_key k c b)
key_leaves keys.Return c b = line_leaves c
key_leaves keys.NewLine c b = by_test (λ t. Leaves (if t then done.Kept else line_done c) c (if t then c else line_ended c)) c.after_return (λ e. refl) (λ e. line_leaves c)
key_leaves keys.Erase c b = refl
key_leaves keys.Kill c b = refl
key_leaves keys.Interrupt c b = refl
key_leaves keys.Text c b = refl
key_leaves keys.Ignored c b = refl

marked_leaves : (d : ByteDone) (c e : ConsoleState) (mark : Bool) → Leaves d c e → Leaves d c (record e { after_return = mark })
marked_leaves done.Abort c e mark h = h
marked_leaves done.Line c e mark h = h
marked_leaves done.Kept c e mark h = h

pub byte_leaves : (c : ConsoleState) (b : ℕ) → Leaves (byte_done c b) c (after_byte c b)
byte_leaves c b = marked_leaves (byte_done c b) c (after_key (key_of b) c b) (b == 13) (key_leaves (key_of b) c b)
