-- Statements without a token.
use Rattle.std.proofs.Common.{◌≡◌, List, [], ◌∷◌, map, drop, Some, refl}
use Rattle.shell_parse.specs.Trees.{PlainStmt, Nothing, Load, Command, Expr}
use Rattle.shell_eval.specs.Pending.{begun_stmt}
use Rattle.live_loading.specs.KernelWorldState.{WorldState}
use Rattle.wind_machine.specs.Part.{part_of}
use Rattle.wind_machine.specs.Shell.{begun_tree, shell_with, eval_part}
use Rattle.board_actors.specs.ShellInside.{IsBlank}

-- one that has a token has a tree
pub with_token : (s : PlainStmt) → (s ≡ Nothing → ⊥) → begun_tree s ≡ Some (begun_stmt s)
with_token Nothing other = absurd (other refl)
with_token (Load file) other = refl
with_token (Command x es) other = refl
with_token (Expr t) other = refl

-- one that has none is passed over
pub blank : (ss : List PlainStmt) (w : WorldState) → IsBlank ss → eval_part (map begun_tree ss) w ≡ part_of (shell_with (map begun_tree (drop 1 ss))) w
blank [] w h = refl
blank (Nothing ∷ ss) w h = refl
blank (Load file ∷ ss) w h = absurd h
blank (Command x es ∷ ss) w h = absurd h
blank (Expr t ∷ ss) w h = absurd h
