-- What bytes of the console keep of the kernel, and how many order numbers they hand out.
use Rattle.std.proofs.Common.{◌≡◌, ℕ, suc, ◌+◌, ◌*◌, ◌≤◌, ◌<◌, Bool, true, false, ◌||◌, cond, eqb, List, [], ◌∷◌, length, take, drop, Option, None, Some, IfSome, is_some, get_or, drop-cons, add-one, refl, sym, ap, ◌∙◌, subst, arith, length-append}
use Rattle.std.specs.Option.{option_map}
use Rattle.std.specs.List.{fold}
use Rattle.std.proofs.lemmas.List.{length-take}
use Rattle.std.proofs.lemmas.List.Quantifiers.{position-Some}
use Rattle.wind_base.specs.declared.board_kind.BoardKind.{BoardKind}
use Rattle.task_block.specs.declared.task.Task.{Task}
use Rattle.task_block.specs.Standing.{is_ready}
use Rattle.id_table.specs.Records.{change}
use Rattle.wind_core.specs.State.{KernState, IsKern, task_id, task_of}
use Rattle.wind_core.specs.Moves.{renewed, settled, move_found, released, release, unmarked}
use Rattle.wind_core.specs.Move.{Release, Reset}
use Rattle.wind_core.proofs.Moving.{move_keeps}
use Rattle.con_line.specs.State.{ConsoleState}
use Rattle.con_line.specs.Keys.{byte_done}
use Rattle.con_line.specs.Lines.{KeepsLines}
use Rattle.con_line.specs.declared.console.ByteDone.{ByteDone}
use Rattle.con_line.specs.declared.console.ByteDone.TheVariants as done
use Rattle.con_line.proofs.Kept.{byte_keeps}
use Rattle.wind_machine.specs.State.{ShellState}
use Rattle.wind_machine.specs.Good.{HasItsLine}
use Rattle.wind_machine.specs.Feed.{is_end, first_end, taken_by, is_unended, supplied, chunk}
use Rattle.id_table.specs.Idents.{shell_id}
use Rattle.wind_machine.specs.Task.{shell_task, waits_for_console, is_held, let_go, aborted}
use Rattle.wind_machine.specs.Events.{Heard, hear, heard_all, heard_from, kern_after}
use Rattle.wind_machine.proofs.TaskLemmas.{since-move}
use Rattle.live_loading.specs.KernelWorldKept.{CountsWithin}
use Rattle.live_loading.specs.KernelWorldObjects.{KeepsObjects}
use Rattle.live_loading.specs.KernelWorldObjectsType.{Objects}
use Rattle.live_loading.proofs.KernelWorldObjectMoves.{objects-move}
use Rattle.live_loading.proofs.KernelWorldGoes.{Goes, goes_nowhere, goes_on, goes_further, goes-move}
use Rattle.wind_machine.proofs.Moves.{goes-aborted}
use Rattle.wind_machine.proofs.Kept.{byte_has_line}

-- ---- the shell's task after a move of it
-- a changed record is found under its id
pub found_changed : (ts : List Task) (n : ℕ) (f : Task → Task) → ((t : Task) → (f t).id ≡ t.id) → task_of (change task_id ts n f) n ≡ option_map f (task_of ts n)
found_changed [] n f keeps = refl
found_changed (t ∷ ts) n f keeps =
    elim (eqb t.id n) as (λ b. eqb t.id n ≡ b → cond (eqb (cond b (f t) t).id n) (Some (cond b (f t) t)) (task_of (change task_id ts n f) n) ≡ option_map f (cond b (Some t) (task_of ts n))) [
      | true ↦ λ e. ap (λ c. cond c (Some (f t)) (task_of (change task_id ts n f) n)) (ap (λ i. eqb i n) (keeps t) ∙ e)
      | false ↦ λ e. ap (λ c. cond c (Some t) (task_of (change task_id ts n f) n)) e ∙ found_changed ts n f keeps
    ] refl

settled_free : (since : ℕ) (t : Task) → is_held (Some (settled since (released t))) ≡ false
settled_free since t = elim (is_ready (released t)) as (λ b. is_held (Some (cond b (renewed since (released t)) (released t))) ≡ false) [ true ↦ refl | false ↦ refl ]

settled_id : (since : ℕ) (t : Task) → (settled since (released t)).id ≡ t.id
settled_id since t = elim (is_ready (released t)) as (λ b. (cond b (renewed since (released t)) (released t)).id ≡ t.id) [ true ↦ refl | false ↦ refl ]

-- if its wait or delay has ended, it has none
free_after_release : (k : KernState) → is_held (shell_task (release k shell_id)) ≡ false
free_after_release k =
    elim (shell_task k) as (λ o. shell_task k ≡ o → is_held (shell_task (move_found k shell_id released o)) ≡ false) [
      | None ↦ λ e. ap is_held e
      | Some t ↦ λ e.
          ap is_held (found_changed k.tasks shell_id (λ u. settled k.next_since (released u)) (settled_id k.next_since))
          ∙ ap (λ o. is_held (option_map (λ u. settled k.next_since (released u)) o)) e
          ∙ settled_free k.next_since t
    ] refl

free_after_let_go : (k : KernState) → is_held (shell_task (let_go k)) ≡ false
free_after_let_go k =
    elim (is_held (shell_task k)) as (λ b. is_held (shell_task k) ≡ b → is_held (shell_task (cond b (release k shell_id) k)) ≡ false) [
      | true ↦ λ e. free_after_release k
      | false ↦ λ e. e
    ] refl

same_held : (since : ℕ) (o : Option Task) → is_held (option_map (λ t. renewed since (unmarked t)) o) ≡ is_held o
same_held since None = refl
same_held since (Some t) = refl

free_after_abort : (k : KernState) → is_held (shell_task (aborted k)) ≡ false
free_after_abort k =
    ap is_held (found_changed (let_go k).tasks shell_id (λ t. renewed (let_go k).next_since (unmarked t)) (λ t. refl))
    ∙ same_held (let_go k).next_since (shell_task (let_go k))
    ∙ free_after_let_go k

-- ---- order numbers: one for each byte, and one more if the task waits or is delayed before
abbrev pub owed : KernState → ℕ
owed k = cond (is_held (shell_task k)) 1 0

let_go_spends : (k : KernState) → (let_go k).next_since ≤ k.next_since + owed k
let_go_spends k =
    elim (is_held (shell_task k)) as (λ b. (cond b (release k shell_id) k).next_since ≤ k.next_since + cond b 1 0) [
      | true ↦ since-move k shell_id released
      | false ↦ omega arith
    ]

after_spends : (d : ByteDone) (k : KernState) → (kern_after d (waits_for_console k) k).next_since + owed (kern_after d (waits_for_console k) k) ≤ k.next_since + owed k + 1
after_spends done.Abort k =
    let free : owed (aborted k) ≡ 0 = ap {B = ℕ} (λ b. cond b 1 0) (free_after_abort k) in
    omega (arith, free, let_go_spends k)
after_spends done.Line k =
    elim (waits_for_console k) as (λ b. waits_for_console k ≡ b → (cond b (release k shell_id) k).next_since + owed (cond b (release k shell_id) k) ≤ k.next_since + owed k + 1) [
      | true ↦ λ e.
          let free : owed (release k shell_id) ≡ 0 = ap {B = ℕ} (λ b. cond b 1 0) (free_after_release k) in
          omega (arith, free, since-move k shell_id released)
      | false ↦ λ e. omega arith
    ] refl
after_spends done.Kept k = omega arith

-- one byte further in a loop over bytes
pub hear_more : (h new : Heard) (bytes : List ℕ) (i : ℕ) → i < length bytes → new ≡ hear h (get_or bytes i 0) → heard_all new (drop (i + 1) bytes) ≡ heard_all h (drop i bytes)
unfolding heard_all
hear_more h new bytes i within e =
    let cons : drop i bytes ≡ get_or bytes i 0 ∷ drop (i + 1) bytes = drop-cons bytes i 0 within ∙ ap (λ n. get_or bytes i 0 ∷ drop n bytes) (sym (add-one i)) in
    ap (λ g. fold hear g (drop (i + 1) bytes)) e ∙ sym (ap (fold hear h) cons)

-- ---- the invariant
-- after some bytes: the lines keep their invariant, the kernel has gone on, and at most `spent` order numbers were
-- handed out
pub record HeardWell (from : KernState) (h : Heard) (n d spent : ℕ) : Type 0 where
  pub lines : KeepsLines h.console.edited h.console.finished
  pub read : HasItsLine h.shell.phase h.console.finished
  pub goes : Goes from h.kern n d
  pub objects : (board : BoardKind) (o : Objects) → KeepsObjects board from o → KeepsObjects board h.kern o
  pub spends : h.kern.next_since + owed h.kern ≤ from.next_since + owed from + spent

after_goes : (d : ByteDone) (waits : Bool) (k : KernState) (n : ℕ) → IsKern k → CountsWithin n k → Goes k (kern_after d waits k) n 2
after_goes done.Abort waits k n is within = goes-aborted k n is within
after_goes done.Line waits k n is within =
    elim waits as (λ b. Goes k (cond b (release k shell_id) k) n 2) [
      | true ↦ goes_further k (release k shell_id) n n 1 2 (omega arith) (omega arith) (goes-move k n is within (Release shell_id) tt)
      | false ↦ goes_further k k n n 0 2 (omega arith) (omega arith) (goes_nowhere k n is within)
    ]
after_goes done.Kept waits k n is within = goes_further k k n n 0 2 (omega arith) (omega arith) (goes_nowhere k n is within)

-- ---- objects
task_free : (o : Option Task) → is_held o ≡ false → IfSome o (λ t. t.wait ≡ None)
task_free None e = tt
task_free (Some t) e = elim t.wait as (λ w. (is_some w || is_some t.wake) ≡ false → w ≡ None) [ None ↦ λ q. refl | Some p ↦ λ q. absurd (cc) ] e

objects-let_go : {board : BoardKind} (k : KernState) (o : Objects) → IsKern k → KeepsObjects board k o → KeepsObjects board (let_go k) o
objects-let_go {board} k o is kept = elim (is_held (shell_task k)) as (λ b. KeepsObjects board (cond b (release k shell_id) k) o) [ true ↦ objects-move k o is kept (Release shell_id) (tt, tt, tt, tt) | false ↦ kept ]

is-let_go : (k : KernState) → IsKern k → IsKern (let_go k)
is-let_go k is = elim (is_held (shell_task k)) as (λ b. IsKern (cond b (release k shell_id) k)) [ true ↦ move_keeps k (Release shell_id) is tt | false ↦ is ]

pub objects-aborted : {board : BoardKind} (k : KernState) (o : Objects) → IsKern k → KeepsObjects board k o → KeepsObjects board (aborted k) o
objects-aborted k o is kept =
    objects-move (let_go k) o (is-let_go k is) (objects-let_go k o is kept) (Reset shell_id) (tt, task_free (shell_task (let_go k)) (free_after_let_go k), tt, tt)

after_objects : {board : BoardKind} (d : ByteDone) (waits : Bool) (k : KernState) (o : Objects) → IsKern k → KeepsObjects board k o → KeepsObjects board (kern_after d waits k) o
after_objects {board} done.Abort waits k o is kept = objects-aborted k o is kept
after_objects {board} done.Line waits k o is kept = elim waits as (λ b. KeepsObjects board (cond b (release k shell_id) k) o) [ true ↦ objects-move k o is kept (Release shell_id) (tt, tt, tt, tt) | false ↦ kept ]
after_objects {board} done.Kept waits k o is kept = kept

hear_well : (from : KernState) (h : Heard) (b n d spent : ℕ) → HeardWell from h n d spent → HeardWell from (hear h b) n (d + 2) (spent + 1)
hear_well from h b n d spent w = record {
  lines = byte_keeps h.console b w.lines;
  read = byte_has_line h.console (waits_for_console h.kern) h.shell b w.read;
  goes = goes_on from h.kern (hear h b).kern n n d 2 w.goes (after_goes (byte_done h.console b) (waits_for_console h.kern) h.kern n w.goes.kern w.goes.counts);
  objects = λ board o kept. after_objects (byte_done h.console b) (waits_for_console h.kern) h.kern o w.goes.kern (w.objects board o kept);
  spends = omega (arith, w.spends, after_spends (byte_done h.console b) h.kern);
}

heard_well : (from : KernState) (h : Heard) (bytes : List ℕ) (n d spent : ℕ) → HeardWell from h n d spent → HeardWell from (heard_all h bytes) n (d + 2 * length bytes) (spent + length bytes)
unfolding heard_all
heard_well from h [] n d spent w = record { lines = w.lines; read = w.read; goes = goes_further from h.kern n n d (d + 2 * 0) (omega arith) (omega arith) w.goes; objects = w.objects; spends = omega (arith, w.spends) }
heard_well from h (b ∷ bs) n d spent w =
    let rest = heard_well from (hear h b) bs n (d + 2) (spent + 1) (hear_well from h b n d spent w) in
    record {
      lines = rest.lines;
      read = rest.read;
      goes = goes_further from (heard_all (hear h b) bs).kern n n (d + 2 + 2 * length bs) (d + 2 * suc (length bs)) (omega arith) (omega arith) rest.goes;
      objects = rest.objects;
      spends = omega (arith, rest.spends);
    }

-- bytes that arrive at a console and a kernel with the invariant
pub heard_keeps : (console : ConsoleState) (shell : ShellState) (k : KernState) (echo bytes : List ℕ) (n : ℕ) → KeepsLines console.edited console.finished → HasItsLine shell.phase console.finished → IsKern k → CountsWithin n k
    → (h : Heard) → h ≡ heard_all (heard_from console shell k echo) bytes
    → KeepsLines h.console.edited h.console.finished × HasItsLine h.shell.phase h.console.finished × Goes k h.kern n (length bytes + 1) × ((board : BoardKind) (o : Objects) → KeepsObjects board k o → KeepsObjects board h.kern o)
heard_keeps console shell k echo bytes n lines read is within h e =
    let start : HeardWell k (heard_from console shell k echo) n 0 0 = record { lines = lines; read = read; goes = goes_nowhere k n is within; objects = λ board o kept. kept; spends = omega arith } in
    let w : HeardWell k h n (0 + 2 * length bytes) (0 + length bytes) = subst (λ g. HeardWell k g n (0 + 2 * length bytes) (0 + length bytes)) (sym e) (heard_well k (heard_from console shell k echo) bytes n 0 0 start) in
    let one : owed k ≤ 1 = elim (is_held (shell_task k)) as (λ b. cond b 1 0 ≤ 1) [ true ↦ omega arith | false ↦ omega arith ] in
    (w.lines, w.read, record { kern = w.goes.kern; alone = w.goes.alone; stacks = w.goes.stacks; lent = w.goes.lent; last = w.goes.last; reserves = w.goes.reserves; counts = w.goes.counts; sinces = omega (arith, w.spends, one); next = w.goes.next; count = w.goes.count }, w.objects)

-- ---- a chunk has at most 4,097 bytes
taken_short : (left : List ℕ) (o : Option ℕ) → first_end left ≡ o → taken_by o ≤ 4096
taken_short left None e = omega arith
taken_short left (Some k) e = omega (arith, (position-Some is_end (take 4096 left) k 0 e).0, length-take 4096 left)

supplied_short : (b : Bool) → length (supplied b) ≤ 1
supplied_short true = omega arith
supplied_short false = omega arith

pub chunk_short : (left : List ℕ) → length (chunk left) ≤ 4097
chunk_short left =
    omega (arith, length-append (take (taken_by (first_end left)) left) (supplied (is_unended (first_end left) left)), length-take (taken_by (first_end left)) left, taken_short left (first_end left) refl, supplied_short (is_unended (first_end left) left))
