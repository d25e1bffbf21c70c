-- What the rows on blocks and symbols, and spawns, keep of the world.
use Rattle.std.proofs.Common.{◌≡◌, ℕ, ◌+◌, ◌≤◌, Bool, true, false, cond, eqb, leb, ltb, List, [], ◌∷◌, ◌++◌, length, replicate, Option, None, Some, IsSome, Result, Ok, Err, refl, sym, ◌∙◌, subst, arith}
use Rattle.std.specs.Option.{option_or}
use Rattle.std.specs.Prelude.{◌||◌, slice_index}
use Rattle.std.specs.List.{find}
use Rattle.std.proofs.lemmas.Bool.{leb-false}
use Rattle.std.proofs.lemmas.List.{map-append, length_push}
use Rattle.std.proofs.lemmas.List.Folds.{find-append}
use Rattle.std.proofs.lemmas.List.Elements.{All-push}
use Rattle.wind_base.specs.Limits.{most_symbols, longest_name, frame_bytes}
use Rattle.wind_base.specs.declared.errno.Errno.{Errno}
use Rattle.wind_base.specs.declared.errno.Errno.TheVariants as errors
use Rattle.task_block.specs.declared.task.Task.{Task as TaskRecord}
use Rattle.task_block.specs.declared.task.NewTask.{NewTask}
use Rattle.board_mem.specs.Memory.{has, with_bytes, written, string_at}
use Rattle.board_mem.proofs.Sizes.{length-written, length-with_range}
use Rattle.symbol_table.specs.declared.symbol.Symbol.{Symbol}
use Rattle.symbol_table.specs.declared.symbol.SymKind.{SymKind}
use Rattle.mem_partition.specs.Place.{rounded}
use Rattle.mem_partition.specs.State.{PartState, alloc_of, after_alloc, free_of, after_free}
use Rattle.mem_partition.specs.declared.block.PartErr.{PartErr}
use Rattle.mem_partition.specs.declared.block.Class.TheVariants.{User, Kernel}
use Rattle.wind_core.specs.State.{Lives, task_id, task_of}
use Rattle.wind_core.specs.Moves.{new_task, spawn, spawn_refusal}
use Rattle.wind_core.specs.Move.{Spawn}
use Rattle.wind_core.proofs.Moving.{move_keeps}
use Rattle.kernel_world.specs.State.{WorldState}
use Rattle.kernel_world.specs.Starting.{cleared, framed}
use Rattle.call_rows.specs.MemoryRows.{PartRow, align_row, free_row, free_reply}
use Rattle.call_rows.specs.SymbolRows.{refused_symbol, with_kind, with_name, symbol_row, kind_of_number}
use Rattle.call_rows.specs.Unless.{unless}
use Rattle.call_rows.specs.Spawning.{after_spawn, spawn_state, stack_bytes, first_pointer, started, names_after, no_spawn, spawned_on, spawned_at, spawned_if}
use Rattle.kernel_world.specs.Kept.{stack_of, routine_stack, task_stacks, AreStacks, IsWorld, HasCounts, Within, call_sinces}
use Rattle.kernel_world.specs.declared.reply.Reply.{Reply}
use Rattle.kernel_world.specs.declared.reply.Reply.TheVariants.{Answer}
use Rattle.call_rows.specs.declared.spawning.Wanted.{Wanted}
use Rattle.kernel_world.proofs.Advancing.{Advances, within_more, watch_on, nowhere, of_blocks}
use Rattle.kernel_world.proofs.WorldIds.{ids_spawn}
use Rattle.kernel_world.proofs.ObjectMoves.{objects-move}
use Rattle.kernel_world.proofs.Stacks.{pool-alloc, pool-free, kernels-alloc, kernels-free, stacks-alloc, stacks-free, stacks-more}
use Rattle.kernel_world.proofs.Holding.{loaded_with, loaded_more}

abbrev part_row : PartState → Reply → PartRow
part_row p r = record { part = p; reply = r }

module _ (w : WorldState) (kept : IsWorld w) (n : ℕ) (within : Within n w) where
  -- ---- blocks
  pub align_advances : (align m : ℕ) → Advances w (record w { part = (align_row w.part align m).part }) (n + 1) call_sinces 1
  align_advances align m =
      of_blocks w kept n within (after_alloc w.part m align User) (pool-alloc w.part m align User kept.pool) (stacks-alloc w.part m align User (routine_stack ∷ task_stacks w.kern) kept.pool.blocks kept.stacks)
      (loaded_with w.kern w.part w.modules.rows kept.modules (after_alloc w.part m align User) (λ a h. kernels-alloc w.part m align User a kept.pool.blocks h))

  pub free_advances : (at : ℕ) → Advances w (record w { part = (free_row w.part at).part }) (n + 1) call_sinces 1
  free_advances at =
      elim (eqb at 0) as (λ b. Advances w (record w { part = (cond b (part_row w.part (Answer 0)) (part_row (after_free w.part at User) (free_reply (free_of w.part at User)))).part }) (n + 1) call_sinces 1) [
        | true ↦ nowhere w kept n within
        | false ↦
            of_blocks w kept n within (after_free w.part at User) (pool-free w.part at User kept.pool) (stacks-free w.part at (routine_stack ∷ task_stacks w.kern) kept.pool.blocks kept.stacks)
            (loaded_with w.kern w.part w.modules.rows kept.modules (after_free w.part at User) (λ a h. kernels-free w.part at a kept.pool.blocks h))
      ]

  -- ---- a symbol
  kind_few : (name : List ℕ) (value : ℕ) (kind : Option SymKind) → length (with_kind w.symbols name value kind).symbols ≤ most_symbols
  kind_few name value None = kept.symbols
  kind_few name value (Some kind) = go (leb most_symbols (length w.symbols)) refl where
    go : (b : Bool) → leb most_symbols (length w.symbols) ≡ b
        → length (cond b (refused_symbol w.symbols errors.SymbolsFull)
        (record { symbols = w.symbols ++ record { name = name; value = value; kind = kind; global = true; group = 0 } ∷ []; reply = Answer 0 })).symbols ≤ most_symbols
    go true e = kept.symbols
    go false e =
        let s : Symbol = record { name = name; value = value; kind = kind; global = true; group = 0 } in
        omega (arith, leb-false most_symbols (length w.symbols) e, length_push w.symbols s)

  name_few : (value kind : ℕ) (name : Option (List ℕ)) → length (with_name w.symbols value kind name).symbols ≤ most_symbols
  name_few value kind None = kept.symbols
  name_few value kind (Some name) =
      elim (eqb (length name) 0 || ltb longest_name (length name)) as (λ b. length (cond b (refused_symbol w.symbols errors.BadAddress) (with_kind w.symbols name value (kind_of_number kind))).symbols ≤ most_symbols) [
        | true ↦ kept.symbols
        | false ↦ kind_few name value (kind_of_number kind)
      ]

  pub symbol_few : (table name value kind : ℕ) → length (symbol_row w.symbols w.ram table name value kind).symbols ≤ most_symbols
  symbol_few table name value kind =
      elim (eqb table 0) as (λ b. length (cond b (with_name w.symbols value kind (string_at w.ram name)) (refused_symbol w.symbols errors.ObjIdError)).symbols ≤ most_symbols) [
        | true ↦ name_few value kind (string_at w.ram name)
        | false ↦ kept.symbols
      ]

  -- ---- a spawn
  framed_size : (at : ℕ) (words : List ℕ) → length (framed w.ram at words) ≡ length w.ram
  unfolding framed
  framed_size at words =
      let clear : length (cleared w.ram at frame_bytes) ≡ length w.ram =
      elim (has w.ram at frame_bytes) as (λ b. has w.ram at frame_bytes ≡ b → length (cond b (with_bytes w.ram at (replicate frame_bytes 0)) w.ram) ≡ length w.ram) [
        | true ↦ λ e. length-with_range w.ram at (replicate frame_bytes 0) e
        | false ↦ λ e. refl
      ] refl in
      length-written 4 (written 4 (cleared w.ram at frame_bytes) (at + 8) (slice_index words 8)) (at + 12) (slice_index words 9)
      ∙ length-written 4 (cleared w.ram at frame_bytes) (at + 8) (slice_index words 8)
      ∙ clear

  names_few : (name : Option (List ℕ)) → names_after name w.names ≤ w.names + 1
  names_few None = omega arith
  names_few (Some name) = omega arith

  lives_more : (t : TaskRecord) (who : ℕ) → Lives w.kern who → IsSome (task_of (w.kern.tasks ++ t ∷ []) who)
  lives_more t who h =
      subst IsSome (sym (find-append (λ u. eqb u.id who) w.kern.tasks (t ∷ [])))
      (elim (task_of w.kern.tasks who) as (λ o. IsSome o → IsSome (option_or o (find (λ u. eqb u.id who) (t ∷ [])))) [ None ↦ λ k. absurd (cc) | Some u ↦ λ k. refl ] h)

  spawned_advances : (s : Wanted) (at : ℕ) → spawn_refusal w.kern ≡ None → alloc_of w.part (stack_bytes s.stack) 16 ≡ Ok at
      → Advances w (after_spawn w (spawned_on (spawn_state w) s at)) (n + 1) call_sinces 1
  spawned_advances s at room ok =
      let task : NewTask = started w.board s w.names at in
      let t : TaskRecord = new_task w.kern.next_id w.kern.next_since task in
      let stacks : task_stacks (spawn w.kern task) ≡ task_stacks w.kern ++ record { addr = at; size = rounded (stack_bytes s.stack) } ∷ [] = map-append stack_of w.kern.tasks (t ∷ []) in
      record {
        steps = record {
          kept = record {
            kern = move_keeps w.kern (Spawn task) kept.kern room;
            home = kept.home;
            kind = kept.kind;
            objects = objects-move w.kern w.objects kept.kern kept.objects (Spawn task) (room, tt, tt, tt);
            pool = pool-alloc w.part (stack_bytes s.stack) 16 Kernel kept.pool;
            stacks = subst (λ ss. AreStacks (after_alloc w.part (stack_bytes s.stack) 16 Kernel) (routine_stack ∷ ss)) (sym stacks)
                (stacks-more w.part (stack_bytes s.stack) 16 at (routine_stack ∷ task_stacks w.kern) kept.pool.blocks ok kept.stacks);
            modules = loaded_more w.kern w.part w.modules.rows kept.modules (spawn w.kern task) (stack_bytes s.stack) 16 at kept.pool.blocks ok (omega arith) stacks;
            ram = framed_size (first_pointer at (stack_bytes s.stack)) s.words ∙ kept.ram;
            symbols = kept.symbols;
            watch = watch_on w.board w.kern.next_id (w.kern.next_id + 1) w.watch (omega arith) kept.watch;
            ids = ids_spawn w kept.ids (spawn w.kern task) (map-append task_id w.kern.tasks (t ∷ [])) refl;
          };
          within = (All-push (HasCounts (n + 1)) w.kern.tasks t (within_more w n (n + 1) (omega arith) within).0 (omega arith, omega arith), (within_more w n (n + 1) (omega arith) within).1);
          last = refl;
          reserves = λ who h. All-push (λ u. IsSome u.regs.reserve → who ≡ Some u.id) w.kern.tasks t h (λ some. absurd (cc));
          sinces = omega arith;
          count = refl;
          names = names_few s.name;
          starts = omega arith;
          choice = refl;
        };
        lives = lives_more t;
      }

  at_advances : (s : Wanted) (r : Result ℕ PartErr) → spawn_refusal w.kern ≡ None → alloc_of w.part (stack_bytes s.stack) 16 ≡ r → Advances w (after_spawn w (spawned_at (spawn_state w) s r).after) (n + 1) call_sinces 1
  at_advances s (Err e) room same = nowhere w kept n within
  at_advances s (Ok at) room same = spawned_advances s at room same

  unless_advances : (s : Wanted) (o : Option Errno) → spawn_refusal w.kern ≡ o → Advances w (after_spawn w (unless o (no_spawn (spawn_state w)) (spawned_at (spawn_state w) s (alloc_of w.part (stack_bytes s.stack) 16))).after) (n + 1) call_sinces 1
  unless_advances s (Some e) same = nowhere w kept n within
  unless_advances s None same = at_advances s (alloc_of w.part (stack_bytes s.stack) 16) same refl

  pub spawn_advances : (r : Result Wanted Errno) → Advances w (after_spawn w (spawned_if (spawn_state w) r).after) (n + 1) call_sinces 1
  spawn_advances (Err e) = nowhere w kept n within
  spawn_advances (Ok s) = unless_advances s (spawn_refusal w.kern) refl
