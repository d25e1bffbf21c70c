-- What a load keeps.
use Rattle.std.proofs.Common.{◌≡◌, ℕ, ◌+◌, ◌<◌, ◌≤◌, min, true, false, cond, eqb, List, [], ◌∷◌, ◌++◌, length, get_or, Result, Ok, Err, refl, sym, ap, ◌∙◌, is_some, subst, arith}
use Rattle.std.specs.Prelude.{codes}
use Rattle.std.proofs.lemmas.List.{length-append}
use Rattle.std.proofs.lemmas.List.Quantifiers.{all_pairs_push}
use Rattle.wind_base.specs.Limits.{greatest_word, most_symbols, ok_word}
use Rattle.wind_base.specs.Errno.{errno_number}
use Rattle.wind_base.specs.declared.board_kind.BoardKind.{BoardKind}
use Rattle.wind_base.specs.declared.errno.Errno.TheVariants as errors
use Rattle.wind_base.specs.declared.board_kind.Side.{Side}
use Rattle.mem_partition.specs.State.{PartState, after_alloc_on}
use Rattle.mem_partition.specs.declared.block.Class.TheVariants.{Kernel}
use Rattle.elf_read.specs.declared.module.Module.{Module}
use Rattle.elf_read.specs.Contents.{module_at}
use Rattle.elf_read.specs.Modules.{IsModule}
use Rattle.module_image.specs.declared.segments.Need.{Need}
use Rattle.module_image.specs.declared.segments.Needs.{Needs}
use Rattle.module_image.specs.declared.segments.Places.{Places}
use Rattle.module_image.specs.Needs.{needs_of}
use Rattle.module_image.specs.Exports.{exports, export_count}
use Rattle.module_image.proofs.Counts.{count_law}
use Rattle.module_loader.specs.declared.module.LoadErr.{LoadErr}
use Rattle.module_loader.specs.declared.module.LoadedModule.{LoadedModule}
use Rattle.module_loader.specs.Placing.{with_seg, with_text, with_data, with_needs}
use Rattle.module_loader.specs.Loading.{LoaderState, side_of, count_refusal, verdict, file_verdict, loaded, record_of, loaded_answer, IsLoaded}
use Rattle.module_loader.specs.Live.{IsLoader}
use Rattle.module_loader.proofs.Files.{is_file}
use Rattle.module_loader.proofs.Applying.{is_accepted}
use Rattle.module_loader.proofs.Owning.{write_law}
use Rattle.module_loader.proofs.Holds.{load_keeps, held_by-loaded, none_before}
use Rattle.task_block.specs.declared.task.Task.{Task}
use Rattle.wind_core.specs.State.{KernState, Lives}
use Rattle.wind_core.specs.Moves.{answer, change_task}
use Rattle.wind_core.specs.Move.{Set, DrawIds}
use Rattle.wind_core.specs.declared.settings.Setting.TheVariants as settings
use Rattle.wind_core.proofs.Ids.{lives_by, ids-change}
use Rattle.kernel_calls.specs.KernelWorldState.{WorldState}
use Rattle.id_table.specs.Idents.{shell_id}
use Rattle.kernel_calls.specs.KernelWorldActors.{MayCall}
use Rattle.kernel_calls.specs.KernelWorldReplies.{left_gate, with_answer, with_errno}
use Rattle.kernel_calls.specs.KernelWorldKept.{Stack, routine_stack, KeepsPool, AreStacks, KeepsLoaded, task_stacks, IsWorld, Within, call_sinces}
use Rattle.kernel_calls.proofs.KernelWorldBoards.{pool_in_ram}
use Rattle.kernel_calls.proofs.KernelWorldWorldIds.{ids_load}
use Rattle.kernel_calls.proofs.KernelWorldAdvancing.{Advances, advances_on, advances_more, beside, by_kern, errno_advances}
use Rattle.kernel_calls.proofs.KernelWorldGoes.{drawn, goes-draw, goes-move}
use Rattle.kernel_calls.proofs.KernelWorldObjectMoves.{objects-move}
use Rattle.kernel_calls.proofs.KernelWorldStacks.{pool-alloc_on, stacks-alloc_on}
use Rattle.kernel_calls.proofs.KernelWorldReplying.{left_advances}
use Rattle.kernel_calls.proofs.Serves.{passes_by}
use Rattle.live_loading.specs.Said.{FileSaid, Held, Missing, TooLong}
use Rattle.live_loading.specs.Texts.{reason, refused_text, undefined_text}
use Rattle.live_loading.specs.Loading.{shell, loader_state, with_loader, writing, accepted, refused, by_verdict, effect, mode_wanted, load_call}
use Rattle.live_loading.specs.Laws.{LoadLaw}
use Rattle.live_loading.proofs.Counted.{Fits, fits, counts_bound}

-- ---- the blocks of a module
pool_seg : {board : BoardKind} (side : Side) (p : PartState) (n : Need) → KeepsPool board p → KeepsPool board (with_seg side p n)
pool_seg {board} side p n k = elim (eqb n.size 0) as (λ b. KeepsPool board (cond b p (after_alloc_on side p (min n.size greatest_word) n.align Kernel))) [
  | true ↦ k
  | false ↦ pool-alloc_on side p (min n.size greatest_word) n.align Kernel k
]

stacks_seg : {board : BoardKind} (side : Side) (p : PartState) (n : Need) (stacks : List Stack) → KeepsPool board p → AreStacks p stacks → AreStacks (with_seg side p n) stacks
stacks_seg side p n stacks k s = elim (eqb n.size 0) as (λ b. AreStacks (cond b p (after_alloc_on side p (min n.size greatest_word) n.align Kernel)) stacks) [
  | true ↦ s
  | false ↦ stacks-alloc_on side p (min n.size greatest_word) n.align Kernel stacks k.blocks s
]

pool_needs : {board : BoardKind} (side : Side) (p : PartState) (z : Needs) → KeepsPool board p → KeepsPool board (with_needs side p z)
pool_needs side p z k = pool_seg side (with_data side p z) z.bss (pool_seg side (with_text side p z) z.«data» (pool_seg side p z.text k))

stacks_needs : {board : BoardKind} (side : Side) (p : PartState) (z : Needs) (stacks : List Stack) → KeepsPool board p → AreStacks p stacks → AreStacks (with_needs side p z) stacks
stacks_needs side p z stacks k s =
    let text = pool_seg side p z.text k in
    let «data» = pool_seg side (with_text side p z) z.«data» text in
    stacks_seg side (with_data side p z) z.bss stacks «data» (stacks_seg side (with_text side p z) z.«data» stacks text (stacks_seg side p z.text stacks k s))

pub is_loader : (w : WorldState) → IsWorld w → IsLoader (loader_state w)
is_loader w kept = record { part = kept.pool.blocks; pool = pool_in_ram w kept }

-- ---- an accepted load
module _ (w : WorldState) (kept : IsWorld w) (name : List ℕ) (m : Module) (mode : ℕ) (at : Places) (known : IsModule m) (ok : verdict (loader_state w) m mode ≡ Ok at) where
  s : LoaderState
  s = loader_state w

  after : LoaderState
  after = loaded (loader_state w) name m mode at

  counts : Fits (length w.modules.rows) w.kern.next_id (length w.symbols + export_count mode m.symbols)
  unfolding count_refusal s
  counts = fits (length w.modules.rows) w.kern.next_id (length w.symbols + export_count mode m.symbols) (is_accepted (loader_state w) m mode at ok).counts

  symbols_few : length after.symbols ≤ most_symbols
  unfolding loaded after
  symbols_few = omega (arith, length-append w.symbols (exports m mode at w.kern.next_id), count_law m mode w.kern.next_id at, counts.room)

  modules_loaded : KeepsLoaded after.kern after.part after.modules.rows
  unfolding loaded after
  modules_loaded =
      let row : ℕ × LoadedModule = (w.kern.next_id, record_of name (needs_of m) at) in
      let holds = load_keeps (loader_state w) name m mode at kept.pool.blocks known (record { ids = kept.home; below = kept.modules.below; pool = (is_loader w kept).pool; held = kept.modules.held }) ok in
      let stacks : List Stack = routine_stack ∷ task_stacks w.kern in
      record {
        few = omega (arith, length-append w.modules.rows (row ∷ []), counts.few);
        rising = all_pairs_push (λ r t. r.0 < t.0) w.modules.rows row kept.modules.rising kept.modules.below;
        below = holds.below;
        held = holds.held;
        apart = λ i d within.
            (let a = (get_or stacks i d).addr in
            let both = held_by-loaded (loader_state w) name m mode at a in
            let new = none_before (loader_state w) m mode at a kept.pool.blocks ok (ap is_some (kept.stacks.kernels i d within)) in
            let old = kept.modules.apart i d within in
            omega (arith, both, new, old));
      }

  pub loaded_advances : (n : ℕ) → Within n w → Advances w (with_loader w (loaded (loader_state w) name m mode at)) n 0 0
  unfolding loaded after
  loaded_advances n within =
      let g = by_kern w kept (drawn w.kern) n 0 (goes-draw w.kern n kept.kern within.0 counts.left) (objects-move w.kern w.objects kept.kern kept.objects (DrawIds (w.kern.next_id + 1)) ((omega arith, omega (arith, counts.left)), omega arith, omega arith, tt)) within.1 in
      record {
        steps = record {
          kept = record {
            kern = g.kept.kern;
            home = g.kept.home;
            kind = kept.kind;
            objects = g.kept.objects;
            pool = pool_needs (side_of (loader_state w)) w.part (needs_of m) kept.pool;
            stacks = stacks_needs (side_of (loader_state w)) w.part (needs_of m) (routine_stack ∷ task_stacks w.kern) kept.pool kept.stacks;
            modules = modules_loaded;
            ram = write_law.size (loader_state w) name m mode at (is_loader w kept) known ok ∙ kept.ram;
            symbols = symbols_few;
            watch = g.kept.watch;
            ids = ids_load w kept.ids (drawn w.kern) (record_of name (needs_of m) at) refl refl;
          };
          within = g.within;
          last = g.last;
          reserves = g.reserves;
          sinces = g.sinces;
          count = g.count;
          names = g.names;
          starts = g.starts;
          choice = g.choice;
        };
        lives = g.lives;
      }

-- ---- what is written and answered
writing_advances : (w : WorldState) → IsWorld w → (n : ℕ) → Within n w → (text : List ℕ) → Advances w (writing w text) n 0 0
writing_advances w kept n within text = beside w kept n within w.slots (w.output ++ text) w.int_errno

answer_advances : (w : WorldState) → IsWorld w → (n : ℕ) → Within n w → (value : ℕ) → Advances w (with_answer w shell value) n 0 0
answer_advances w kept n within value = by_kern w kept (answer w.kern shell_id value) n 0 (goes-move w.kern n kept.kern within.0 (Set shell_id (settings.Answer value)) tt) (objects-move w.kern w.objects kept.kern kept.objects (Set shell_id (settings.Answer value)) (tt, tt, tt, tt)) within.1

refused_advances : (w : WorldState) → IsWorld w → (n : ℕ) → Within n w → (name words : List ℕ) → Advances w (refused w name words) n 0 0
refused_advances w kept n within name words =
    let a = writing_advances w kept n within (refused_text name words) in
    let v = writing w (refused_text name words) in
    let b = errno_advances v a.kept n a.within shell (errno_number errors.LoadFailed) in
    let u = with_errno v shell (errno_number errors.LoadFailed) in
    advances_on w u (refused w name words) n n 0 0 0 0 (advances_on w v u n n 0 0 0 0 a b) (answer_advances u b.kept n b.within ok_word)

accepted_advances : (w : WorldState) (kept : IsWorld w) (n : ℕ) → Within n w → (name : List ℕ) (m : Module) (mode : ℕ) (at : Places) → IsModule m → verdict (loader_state w) m mode ≡ Ok at
    → Advances w (accepted w name mode m at) n 0 0
accepted_advances w kept n within name m mode at known ok =
    let a = loaded_advances w kept name m mode at known ok n within in
    let v = with_loader w (loaded (loader_state w) name m mode at) in
    let text = undefined_text (loaded_answer (loader_state w) m).undefined in
    let b = writing_advances v a.kept n a.within text in
    let u = writing v text in
    advances_on w u (accepted w name mode m at) n n 0 0 0 0 (advances_on w v u n n 0 0 0 0 a b) (answer_advances u b.kept n b.within w.kern.next_id)

-- ---- the call
effect_advances : (w : WorldState) (kept : IsWorld w) (n : ℕ) → Within n w → (name : List ℕ) (mode : ℕ) (said : FileSaid) → Advances w (effect w name mode said) n 0 0
effect_advances w kept n within name mode Missing = refused_advances w kept n within name (codes "not found")
effect_advances w kept n within name mode TooLong = refused_advances w kept n within name (codes "too long")
effect_advances w kept n within name mode (Held file) = go (file_verdict (loader_state w) file mode) refl where
  go : (v : Result Places LoadErr) → file_verdict (loader_state w) file mode ≡ v → Advances w (by_verdict w name mode (module_at file) v) n 0 0
  go (Err e) same = refused_advances w kept n within name (reason e)
  go (Ok at) same =
      let f = is_file (loader_state w) file mode at same in
      accepted_advances w kept n within name (module_at file) mode at f.known f.verdict

pub load_advances : (w : WorldState) (name : List ℕ) (said : FileSaid) (n : ℕ) → IsWorld w → MayCall w.kern shell → Within n w → Advances w (load_call w name said) n 0 0
unfolding load_call
load_advances w name said n kept may within =
    let left = left_advances w kept n within shell may in
    let v = left_gate w shell in
    let mode = mode_wanted w in
    advances_on w v (effect v name mode said) n n 0 0 0 0 left (effect_advances v left.kept n left.within name mode said)

pub load_law : LoadLaw
load_law w name said n kept may within =
    passes_by w (load_call w name said) shell (n + 1) call_sinces 1
    (advances_more w (load_call w name said) n (n + 1) 0 call_sinces 0 1 (omega arith) (omega arith) (omega arith) (load_advances w name said n kept may within))

-- ---- which tasks live
-- the shell's task goes on after its gate, and is answered
pub lives_changed : (k j : KernState) (who id : ℕ) (f : Task → Task) → ((t : Task) → (f t).id ≡ t.id) → j ≡ change_task k who f → Lives k id → Lives j id
lives_changed k j who id f keeps is live = subst (λ (i : KernState). Lives i id) (sym is) (lives_by (change_task k who f).tasks k.tasks id (ids-change k.tasks who f keeps) live)

pub lives_loaded : (v : Result Places LoadErr) (s : LoaderState) (name : List ℕ) (m : Module) (mode : ℕ) (t : LoaderState) (id : ℕ) → IsLoaded v s name m mode t → Lives s.kern id → Lives t.kern id
unfolding loaded
lives_loaded (Err e) s name m mode t id to live = absurd to
lives_loaded (Ok at) s name m mode t id to live = subst (λ (u : LoaderState). Lives u.kern id) (sym to) live

-- ---- the invariant
pub kept_by : (w x : WorldState) (name : List ℕ) (said : FileSaid) → IsWorld w → MayCall w.kern shell → x ≡ load_call w name said → IsWorld x
kept_by w x name said kept may is =
    let (n, within) = counts_bound w in
    subst IsWorld (sym is) (load_advances w name said n kept may within).kept
