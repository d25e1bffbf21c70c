-- A board as the wind machine's state.
use Rattle.std.specs.Prelude.{ℕ, List, Option}
use Rattle.std.specs.declared.dyn_box.DynBox.{DynBox}
use Rattle.std.specs.declared.alloc.Global.{Global}
use Rattle.wind_outside.specs.declared.device.Device.{Ghosts}
use Rattle.wind_outside.specs.declared.device.DeviceKind.{DeviceKind}
use Rattle.live_loading.specs.KernelWorldReply.{Reply}
use Rattle.wind_machine.specs.State.{State}
use Rattle.board_player.specs.Inside.{parts_by, parts_seen}
use Rattle.board_player.specs.Replies.{reply_known}
use Rattle.board_player.specs.declared.board.Board.{Board}

-- a board, with each device seen by these two functions
abbrev pub board_by : {I : Type 0} {X : I → Type 0} → (DynBox I Global X → DeviceKind) → (DynBox I Global X → List ℕ) → Board I X → State
board_by kind_of words_of b = parts_by kind_of words_of b.parts

-- a board, with each device seen as its kind and its words
abbrev pub seen : {I : Type 0} {X : I → Type 0} → ((i : I) → Ghosts (X i)) → Board I X → State
seen devices b = parts_seen devices b.parts

-- the reply of a board's last step, if it was a kernel call
abbrev pub last_reply : {I : Type 0} {X : I → Type 0} → Board I X → Option Reply
last_reply b = reply_known b.known
