-- The world at the start has the invariant.
use Rattle.std.proofs.Common.{◌≡◌, ℕ, zero, suc, Bool, true, false, not, cond, ◌&&◌, ltb, leb, subst, ◌+◌, ◌^◌, ◌<◌, ◌≤◌, List, [], ◌∷◌, length, Option, IfSome, Some, None, Ok, Err, refl, sym, ap, ◌∙◌, length-append, arith}
use Rattle.std.specs.Prelude.{option_and_then, replicate}
use Rattle.std.specs.Option.{option_or}
use Rattle.std.proofs.lemmas.Bool.Decides.{nat_tests}
use Rattle.std.specs.List.{All, slice_get}
use Rattle.std.proofs.lemmas.Bool.{and_parts, leb-true}
use Rattle.std.proofs.lemmas.Option.{same_Some}
use Rattle.task_block.specs.declared.task.Task.{Task}
use Rattle.std.specs.Int.RustNames.{count_ones}
use Rattle.std.proofs.lemmas.List.{length-replicate}
use Rattle.std.proofs.lemmas.List.Elements.{All-cons}
use Rattle.std.proofs.lemmas.List.Kept.{AllPairs-cons}
use Rattle.wind_base.specs.Limits.{pool_start, most_slots}
use Rattle.wind_base.specs.Boards.{board_rules}
use Rattle.wind_base.specs.declared.board_kind.BoardKind.{BoardKind}
use Rattle.wind_base.specs.declared.board_kind.Side.TheVariants.{Low}
use Rattle.wind_base.specs.Gates.{gates, gate_of, gate_name, gate_number, rules_of}
use Rattle.wind_base.specs.declared.gate.Gate.{Gate}
use Rattle.wind_outside.specs.Devices.{DeviceState}
use Rattle.mem_partition.specs.Place.{aligned, rounded, place}
use Rattle.mem_partition.specs.State.{PartState, is_align, found_or, alloc_of, alloc_on, after_alloc}
use Rattle.mem_partition.specs.declared.block.PartErr.TheVariants as errors
use Rattle.mem_partition.specs.declared.block.Block.{Block}
use Rattle.mem_partition.specs.declared.block.Class.TheVariants.{Kernel}
use Rattle.mem_partition.specs.Holes.{gap, hole_on}
use Rattle.mem_partition.proofs.Places.{hole_place}
use Rattle.mem_partition.proofs.Allocs.{after_is}
use Rattle.wind_core.specs.State.{KernState, IsKern}
use Rattle.isr_watch.specs.State.{WatchState, no_watch}
use Rattle.isr_watch.specs.Calls.{routine_return}
use Rattle.dev_irq.specs.declared.line.Line.{Line}
use Rattle.dev_irq.specs.State.{idle_line}
use Rattle.symbol_table.specs.declared.symbol.Symbol.{Symbol}
use Rattle.module_loader.specs.Modules.{LoadedModules, modules_on}
use Rattle.wind_core.specs.Moves.{new_task}
use Rattle.wind_core.specs.Move.{Spawn}
use Rattle.wind_core.proofs.Moving.{move_keeps}
use Rattle.id_table.specs.Rows.{IsId, object_of}
use Rattle.sem_plain.specs.Kept.{IsCount, IsForEmpty, IsForMade}
use Rattle.sem_mutex.specs.TaskSafetyKept.{Deletes, IsSafe}
use Rattle.wind_base.specs.declared.profile.Profile.{Profile}
use Rattle.sem_mutex.specs.InheritanceMutexes.{both as with_mutexes}
use Rattle.sem_mutex.proofs.Opening.{opening_keeps}
use Rattle.sem_mutex.proofs.Lawful.{beside_law}
use Rattle.msg_queue.proofs.Events.{starts}
use Rattle.kernel_world.specs.State.{WorldState}
use Rattle.kernel_world.specs.declared.objects.Objects.{Objects}
use Rattle.kernel_world.specs.Objects.{no_objects, is_live, WaitsRight, KeepsObjects}
use Rattle.module_image.specs.Opening.{stack_block, symbol_if_named, symbols_of_gate, gate_symbols}
use Rattle.kernel_world.specs.Opening.{empty_kern, opening_kern, shell_record, opening_part, no_irqs, zeros, opening_world}
use Rattle.kernel_world.specs.Kept.{Stack, stack_of, routine_stack, IsStack, AreApart, AreStacks, IsWorld}
use Rattle.wind_base.proofs.Boarding.{boards_alike}
use Rattle.kernel_world.proofs.Holding.{IsNoModules}
use Rattle.kernel_world.proofs.LiveIds.{HasOwner, ids_task}

-- the board's pool with these blocks
abbrev pub pool : BoardKind → List Block → PartState
pool board bs = record { start = pool_start; end = (board_rules board).pool_end; room = (board_rules board).blocks; blocks = bs }

-- a test of a bound that holds
below : (m n : ℕ) → m ≤ n → leb m n ≡ true
below m n h = grind (arith, nat_tests, h)

-- size bytes from the start of a hole on, if it has room for them
in_gap : (at size end : ℕ) → 0 < size → at + size ≤ end → aligned at 16 ≡ at → hole_on Low size 16 (gap at end) ≡ Some at
in_gap at size end some h same =
    let here : leb at at ≡ true = below at at (omega arith) in
    let more : ltb at end ≡ true = grind (arith, nat_tests, h, some) in
    ap (λ b. hole_on Low size 16 (cond b (record { start = at; end = end } ∷ []) [])) more
    ∙ ap (λ n. option_or (cond (leb at n && leb (n + size) end) (Some n) None) None) same
    ∙ ap (λ b. option_or (cond (b && leb (at + size) end) (Some at) None) None) here
    ∙ ap (λ b. option_or (cond b (Some at) None) None) (below (at + size) end h)

place_first : (end : ℕ) → 2 ^ 24 ≤ end → place 65536 end [] 20000 16 Low ≡ Some 65536
unfolding place rounded aligned
place_first end h =
    sym (hole_place Low 65536 end [] 20000 16 (omega arith) (omega arith) tt)
    ∙ in_gap 65536 20000 end (omega arith) (omega (arith, h)) refl

sixteen : is_align 16 ≡ true
unfolding count_ones
sixteen = refl

-- with an alignment of 16 and room for a block, the place is the answer
given_place : (p : PartState) (n at : ℕ) → leb p.room (length p.blocks) ≡ false → place p.start p.end p.blocks n 16 Low ≡ Some at → alloc_of p n 16 ≡ Ok at
unfolding alloc_on
given_place p n at room e =
    ap (λ t. cond (not t) (Err errors.BadAlign) (cond (leb p.room (length p.blocks)) (Err errors.BlocksFull) (found_or errors.NoRoom (place p.start p.end p.blocks n 16 Low)))) sixteen
    ∙ ap (λ t. cond t (Err errors.BlocksFull) (found_or errors.NoRoom (place p.start p.end p.blocks n 16 Low))) room
    ∙ ap (found_or errors.NoRoom) e

rounded_first : rounded 20000 ≡ 20000
unfolding rounded aligned
rounded_first = refl

place_second : (end : ℕ) → 2 ^ 24 ≤ end → place 65536 end (stack_block 65536 20000 ∷ []) 4096 16 Low ≡ Some 85536
unfolding place rounded aligned
place_second end h =
    sym (hole_place Low 65536 end (stack_block 65536 20000 ∷ []) 4096 16 (omega arith) (omega arith) (omega arith, omega arith, omega (arith, h), tt))
    ∙ in_gap 85536 4096 end (omega arith) (omega (arith, h)) refl

rounded_second : rounded 4096 ≡ 4096
unfolding rounded aligned
rounded_second = refl

module _ (board : BoardKind) where
  -- the pool's end and its blocks are within bounds that all boards have
  pub end_least : 2 ^ 24 ≤ (board_rules board).pool_end
  end_least = omega (arith, (boards_alike board).least, (boards_alike board).pool)

  pub end_most : (board_rules board).pool_end ≤ 2 ^ 26
  end_most = omega (arith, (boards_alike board).most, (boards_alike board).pool)

  room_for : (n : ℕ) → n < 2 ^ 14 → leb (board_rules board).blocks n ≡ false
  room_for n h = grind (arith, nat_tests, h, (boards_alike board).least_blocks)

  pub first_stack : alloc_of (pool board []) 20000 16 ≡ Ok 65536
  first_stack = given_place (pool board []) 20000 65536 (room_for 0 (omega arith)) (place_first (board_rules board).pool_end end_least)

  pub after_first : after_alloc (pool board []) 20000 16 Kernel ≡ pool board (stack_block 65536 20000 ∷ [])
  after_first = after_is (pool board []) 20000 16 65536 Kernel first_stack ∙ ap (λ n. pool board (stack_block 65536 n ∷ [])) rounded_first

  pub second_stack : alloc_of (pool board (stack_block 65536 20000 ∷ [])) 4096 16 ≡ Ok 85536
  second_stack = given_place (pool board (stack_block 65536 20000 ∷ [])) 4096 85536 (room_for 1 (omega arith)) (place_second (board_rules board).pool_end end_least)

  pub after_second : after_alloc (pool board (stack_block 65536 20000 ∷ [])) 4096 16 Kernel ≡ opening_part board
  after_second =
      after_is (pool board (stack_block 65536 20000 ∷ [])) 4096 16 85536 Kernel second_stack
      ∙ ap (λ n. pool board (stack_block 65536 20000 ∷ stack_block 85536 n ∷ [])) rounded_second

pub count_gates : length gates ≡ 58
unfolding gates
count_gates = refl

-- a name, if there is one, isn't empty
abbrev has_bytes : Option (List ℕ) → Bool
has_bytes None = true
has_bytes (Some name) = leb 1 (length name)

-- each of these gates has a name with bytes, or none
abbrev have_bytes : List Gate → Bool
have_bytes [] = true
have_bytes (g ∷ gs) = has_bytes (rules_of g).name && have_bytes gs

gates_have_bytes : have_bytes gates ≡ true
unfolding gates
gates_have_bytes = refl

bytes_at : (gs : List Gate) (k : ℕ) (g : Gate) → have_bytes gs ≡ true → slice_get gs k ≡ Some g → has_bytes (rules_of g).name ≡ true
bytes_at [] k g all e = absurd (cc)
bytes_at (h ∷ gs) zero g all e =
    subst (λ x. has_bytes (rules_of x).name ≡ true) (same_Some h g e) (and_parts (has_bytes (rules_of h).name) (have_bytes gs) all).0
bytes_at (h ∷ gs) (suc k) g all e = bytes_at gs k g (and_parts (has_bytes (rules_of h).name) (have_bytes gs) all).1 e

pub gate_named : (n : ℕ) (x : List ℕ) → gate_name n ≡ Some x → 0 < length x
unfolding gate_name gate_of
gate_named n x e = go (slice_get gates n) refl e
  where
    go : (o : Option Gate) → slice_get gates n ≡ o → option_and_then (λ g. (rules_of g).name) o ≡ Some x → 0 < length x
    go None at f = absurd (cc)
    go (Some g) at f = leb-true 1 (length x) (subst (λ name. has_bytes name ≡ true) f (bytes_at gates n g gates_have_bytes at))

pub zeros_is : (n : ℕ) → replicate n 0 ≡ zeros n
unfolding zeros
zeros_is n = refl

length-zeros : (n : ℕ) → length (zeros n) ≡ n
unfolding zeros
length-zeros n = length-replicate n 0

-- a gate has at most one symbol
named_few : (start : ℕ) (g : Gate) (name : Option (List ℕ)) → length (symbol_if_named start g name) ≤ 1
named_few start g None = omega arith
named_few start g (Some name) = omega arith

gate_few : (start : ℕ) (g : Gate) → length (symbols_of_gate start g) ≤ 1
gate_few start g = named_few start g (gate_name (gate_number g))

symbols_few-gates : (start : ℕ) (gs : List Gate) → length (gate_symbols start gs) ≤ length gs
symbols_few-gates start [] = omega arith
symbols_few-gates start (g ∷ gs) = omega (arith, length-append (symbols_of_gate start g) (gate_symbols start gs), gate_few start g, symbols_few-gates start gs)

symbols_few : (start : ℕ) → length (gate_symbols start gates) ≤ 65536
symbols_few start = omega (arith, symbols_few-gates start gates, count_gates)

empty_keeps : IsKern empty_kern
empty_keeps = record {
  few = omega arith;
  rising = λ i j d lt within. absurd (omega arith);
  ids = λ i d within. absurd (omega arith);
  first_id = omega arith;
  last_id = omega arith;
  distinct = λ i j d lt within. absurd (omega arith);
  sinces = λ i d within. absurd (omega arith);
  ahead = λ i d within. absurd (omega arith);
}

abbrev shell_stack : Stack
shell_stack = stack_of (new_task 1 0 shell_record)

two_apart : (board : BoardKind) → AreStacks (opening_part board) (routine_stack ∷ shell_stack ∷ [])
unfolding rounded aligned
two_apart board = record {
  kernels = All-cons (IsStack (opening_part board)) routine_stack (shell_stack ∷ []) refl (All-cons (IsStack (opening_part board)) shell_stack [] refl (λ i d within. absurd (omega arith)));
  apart = AllPairs-cons AreApart routine_stack (shell_stack ∷ [])
      (All-cons (AreApart routine_stack) shell_stack [] (λ e. omega arith) (λ i d within. absurd (omega arith)))
      (λ i j d lt within. absurd (omega arith));
}

none_yet : {A : Type 0} (P : A → Type 0) → All P []
none_yet P = λ i d within. absurd (omega arith)

of_one : (P : Task → Type 0) → P (new_task 1 0 shell_record) → All P opening_kern.tasks
of_one P one = All-cons P (new_task 1 0 shell_record) [] one (none_yet P)

-- the shell's task waits for nothing, and there are no objects
opening_objects : (board : BoardKind) (profile : Profile) → KeepsObjects board opening_kern (no_objects profile)
opening_objects board profile = record {
  waits = record {
    semaphores = record {
      ids = none_yet (λ r. r.0 < 2);
      counts = none_yet (λ r. IsCount r.1);
      empty = of_one (λ t. IsForEmpty [] t.wait) tt;
      made = of_one (λ t. IsForMade 2 t.wait) tt;
    };
    deleters = of_one (Deletes (IsSafe opening_kern)) tt;
    live = of_one (λ t. IfSome t.wait (λ p. is_live (no_objects profile) p ≡ true)) tt;
    right = of_one (WaitsRight board) (record { console = tt; repeats = tt });
  };
  mutexes = beside_law (with_mutexes empty_kern (no_objects profile).mutexes) (Spawn shell_record) (opening_keeps (with_mutexes empty_kern (no_objects profile).mutexes) refl refl) tt;
  table = record { few = omega arith; rising = λ i j d lt within. absurd (omega arith); ranged = none_yet (λ r. IsId r.0) };
  queues = λ ram size. starts opening_kern ram (move_keeps empty_kern (Spawn shell_record) empty_keeps refl) (of_one (λ t. t.wait ≡ None) refl);
  queues_ranged = none_yet (λ r. 0 < r.0);
  apart = none_yet (λ r. object_of [] r.0 ≡ None);
  queues_apart = none_yet (λ r. (object_of [] r.0 ≡ None) × (object_of [] r.0 ≡ None));
}

pub opens : (slots : List (Option DeviceState)) (profile : Profile) (board : BoardKind) → IsWorld (opening_world slots profile board)
unfolding opening_world
opens slots profile board = record {
  kern = move_keeps empty_kern (Spawn shell_record) empty_keeps refl;
  home = refl;
  objects = opening_objects board profile;
  pool = record {
    blocks = record { laid = (omega arith, omega arith, omega (arith, end_least board), (omega arith, omega arith, omega (arith, end_least board), tt)); few = omega (arith, (boards_alike board).least_blocks); bound = omega (arith, end_most board) };
    start = refl;
    end = refl;
    room = refl;
  };
  stacks = two_apart board;
  modules = record {
    few = omega arith;
    rising = λ i j d lt within. absurd (omega arith);
    below = none_yet (λ r. r.0 < 2);
    held = record { blocks = λ i d within. absurd (omega arith); distinct = λ a. omega arith };
    apart = All-cons (IsNoModules []) routine_stack (shell_stack ∷ []) refl (All-cons (IsNoModules []) shell_stack [] refl (none_yet (IsNoModules [])));
  };
  kind = refl;
  ram = length-zeros (board_rules board).ram_bytes;
  symbols = symbols_few (board_rules board).gates_start;
  watch = record { watch = record { few = omega arith; rising = λ i j d lt within. absurd (omega arith); idle = λ none. refl }; ids = λ i d within. absurd (omega arith); link = refl };
  ids = ids_task 1 [] [] [] (record { distinct = λ n. omega arith; below = λ n some. absurd (omega arith); owners = none_yet (HasOwner 1 []) });
}

module _ (profile : Profile) (board : BoardKind) where
  abbrev with_parts : KernState → Objects → PartState → List Symbol → LoadedModules → List ℕ → List (Option DeviceState) → List Line → List ℕ → WatchState → WorldState
  with_parts k o p ss ms ram slots irqs output watch =
      record { kern = k; objects = o; part = p; symbols = ss; modules = ms; ram = ram; slots = slots; irqs = irqs; output = output; names = 1; watch = watch; int_errno = 0; board = board }

  abbrev opening_symbols : List Symbol
  opening_symbols = gate_symbols (board_rules board).gates_start gates

  abbrev opening_ram : List ℕ
  opening_ram = zeros (board_rules board).ram_bytes

  -- a world with these parts is the world at the start
  pub opened_by : (slots mine : List (Option DeviceState)) (k : KernState) (o : Objects) (p : PartState) (ss : List Symbol) (ms : LoadedModules) (ram : List ℕ) (irqs : List Line) (output : List ℕ) (watch : WatchState)
      → k ≡ opening_kern → o ≡ no_objects profile → p ≡ opening_part board → ss ≡ opening_symbols → ms ≡ modules_on board [] → ram ≡ opening_ram → mine ≡ slots → irqs ≡ replicate most_slots idle_line → output ≡ [] → watch ≡ no_watch (routine_return board)
      → with_parts k o p ss ms ram mine irqs output watch ≡ opening_world slots profile board
  unfolding opening_world no_irqs
  opened_by slots mine k o p ss ms ram irqs output watch kern objects part symbols modules bytes devices lines written watches =
      ap (λ x. with_parts x o p ss ms ram mine irqs output watch) kern
      ∙ ap (λ x. with_parts opening_kern x p ss ms ram mine irqs output watch) objects
      ∙ ap (λ x. with_parts opening_kern (no_objects profile) x ss ms ram mine irqs output watch) part
      ∙ ap (λ x. with_parts opening_kern (no_objects profile) (opening_part board) x ms ram mine irqs output watch) symbols
      ∙ ap (λ x. with_parts opening_kern (no_objects profile) (opening_part board) opening_symbols x ram mine irqs output watch) modules
      ∙ ap (λ x. with_parts opening_kern (no_objects profile) (opening_part board) opening_symbols (modules_on board []) x mine irqs output watch) bytes
      ∙ ap (λ x. with_parts opening_kern (no_objects profile) (opening_part board) opening_symbols (modules_on board []) opening_ram x irqs output watch) devices
      ∙ ap (λ x. with_parts opening_kern (no_objects profile) (opening_part board) opening_symbols (modules_on board []) opening_ram slots x output watch) lines
      ∙ ap (λ x. with_parts opening_kern (no_objects profile) (opening_part board) opening_symbols (modules_on board []) opening_ram slots no_irqs x watch) written
      ∙ ap (λ x. with_parts opening_kern (no_objects profile) (opening_part board) opening_symbols (modules_on board []) opening_ram slots no_irqs [] x) watches
