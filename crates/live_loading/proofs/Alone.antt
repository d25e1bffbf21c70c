-- What a load leaves as it was.
use Rattle.std.proofs.Common.{◌≡◌, ℕ, ◌+◌, ◌<◌, ◌≤◌, List, length, Result, Ok, Err, refl, sym, ◌∙◌, subst, inl, inr, arith}
use Rattle.std.specs.Prelude.{codes}
use Rattle.std.specs.List.{Contains}
use Rattle.std.proofs.lemmas.List.Elements.{All-contains}
use Rattle.wind_base.specs.Limits.{ok_word}
use Rattle.wind_base.specs.Errno.{errno_number}
use Rattle.wind_base.specs.declared.errno.Errno.TheVariants as errors
use Rattle.task_block.specs.declared.task.Task.{Task}
use Rattle.mem_partition.specs.Laws.{IsIn, Meets}
use Rattle.mem_partition.specs.State.{PartState}
use Rattle.elf_read.specs.declared.module.Module.{Module}
use Rattle.elf_read.specs.Contents.{module_at}
use Rattle.elf_read.specs.Modules.{IsModule}
use Rattle.module_image.specs.declared.segments.Places.{Places}
use Rattle.module_image.specs.Image.{image}
use Rattle.module_loader.specs.declared.module.LoadErr.{LoadErr}
use Rattle.module_loader.specs.Loading.{Piece, pieces_of, count_refusal, verdict, file_verdict, loaded}
use Rattle.module_loader.specs.Live.{IsPiece}
use Rattle.module_loader.proofs.Files.{is_file}
use Rattle.module_loader.proofs.Owning.{write_law}
use Rattle.wind_core.specs.State.{KernState}
use Rattle.wind_core.specs.Moves.{change_task, past_gate, leave_gate, set_errno, answer, with_answer as answered}
use Rattle.kernel_calls.specs.KernelWorldState.{WorldState}
use Rattle.id_table.specs.Idents.{shell_id}
use Rattle.kernel_calls.specs.KernelWorldReplies.{left_gate}
use Rattle.kernel_calls.specs.KernelWorldKept.{IsWorld}
use Rattle.kernel_calls.proofs.KernelWorldGoes.{drawn}
use Rattle.kernel_calls.proofs.KernelWorldOneTask.{other_task}
use Rattle.live_loading.specs.Said.{FileSaid, Held, Missing, TooLong}
use Rattle.live_loading.specs.Texts.{reason}
use Rattle.live_loading.specs.Loading.{shell, loader_state, accepted, refused, by_verdict, effect, mode_wanted, load_call}
use Rattle.kernel_calls.specs.Laws.{KernStays}
use Rattle.live_loading.specs.Laws.{IsFresh, OnlyLoads, AloneLaw}
use Rattle.live_loading.proofs.Going.{is_loader}

-- ---- the tasks and the counters
record Alike (k j : KernState) : Type 0 where
  stays : KernStays k j shell_id
  open stays use *
  ids : k.next_id ≤ j.next_id

alike_on : (k j i : KernState) → Alike k j → Alike j i → Alike k i
alike_on k j i a b = record {
  stays = record {
    others = λ id other. b.others id other ∙ a.others id other;
    tick = b.tick ∙ a.tick;
    slice = b.slice ∙ a.slice;
    sinces = b.sinces ∙ a.sinces;
    last = b.last ∙ a.last;
  };
  ids = omega (arith, a.ids, b.ids);
}

alike_change : (k : KernState) (f : Task → Task) → ((t : Task) → (f t).id ≡ t.id) → Alike k (change_task k shell_id f)
alike_change k f keeps = record { stays = record { others = λ id other. other_task k.tasks shell_id f keeps id other; tick = refl; slice = refl; sinces = refl; last = refl }; ids = omega arith }

alike_left : (k : KernState) → Alike k (leave_gate k shell_id)
alike_left k = alike_change k past_gate (λ t. refl)

alike_answer : (k : KernState) (value : ℕ) → Alike k (answer k shell_id value)
alike_answer k value = alike_change k (answered value) (λ t. refl)

alike_refused : (k : KernState) → Alike k (answer (set_errno (leave_gate k shell_id) shell_id (errno_number errors.LoadFailed)) shell_id ok_word)
alike_refused k =
    let j = leave_gate k shell_id in
    let i = set_errno j shell_id (errno_number errors.LoadFailed) in
    alike_on k j (answer i shell_id ok_word) (alike_left k)
    (alike_on j i (answer i shell_id ok_word) (alike_change j (λ t. record t { errno = errno_number errors.LoadFailed }) (λ t. refl)) (alike_answer i ok_word))

alike_drawn : (k : KernState) → Alike k (drawn k)
alike_drawn k = record { stays = record { others = λ id other. refl; tick = refl; slice = refl; sinces = refl; last = refl }; ids = omega arith }

alike_accepted : (k : KernState) (value : ℕ) → Alike k (answer (drawn (leave_gate k shell_id)) shell_id value)
alike_accepted k value =
    let j = leave_gate k shell_id in
    alike_on k j (answer (drawn j) shell_id value) (alike_left k) (alike_on j (drawn j) (answer (drawn j) shell_id value) (alike_drawn j) (alike_answer (drawn j) value))

-- ---- a refused load
refused_alone : (w : WorldState) (name words : List ℕ) → OnlyLoads w (refused (left_gate w shell) name words)
refused_alone w name words =
    let a = alike_refused w.kern in
    record { stays = record { counters = a.stays; objects = refl; watch = refl; names = refl; int_errno = refl; board = refl }; slots = refl; irqs = refl; ids = a.ids; ram = λ a out. refl }

-- ---- an accepted load
module _ (w : WorldState) (kept : IsWorld w) (name : List ℕ) (m : Module) (mode : ℕ) (at : Places) (known : IsModule m) (ok : verdict (loader_state (left_gate w shell)) m mode ≡ Ok at) where
  -- the verdict is the same before the shell's task leaves its gate
  same_verdict : verdict (loader_state w) m mode ≡ Ok at
  unfolding verdict count_refusal
  same_verdict = ok

  -- a byte of a segment is in a new block
  fresh_byte : (v : WorldState) (a : ℕ) (p : Piece) → v.part ≡ (loaded (loader_state w) name m mode at).part → IsPiece p (pieces_of at (image m w.symbols at)) → IsIn a p.0 (length p.1) → IsFresh w v a
  fresh_byte v a p part piece inside =
      elim (write_law.own (loader_state w) name m mode at p (is_loader w kept) known same_verdict piece) [
        | inl empty ↦ absurd (omega (arith, empty, inside.0, inside.1))
        | inr (b, has, class, addr, size) ↦
            let low : b.addr ≤ a = omega (arith, addr, inside.0) in
            let high : a < b.addr + b.size = omega (arith, addr, size, inside.1) in (
              b,
              subst (λ (q : PartState). Contains q.blocks b) (sym part) has,
              λ old. All-contains (λ c. Meets (length p.1) p.0 c → ⊥) w.part.blocks b (write_law.fresh (loader_state w) m mode at p (is_loader w kept) known same_verdict piece) old (a, inside, (low, high)),
              (low, high),
            )
      ]

  accepted_alone : OnlyLoads w (accepted (left_gate w shell) name mode m at)
  unfolding loaded
  accepted_alone =
      let k = alike_accepted w.kern w.kern.next_id in
      let v = accepted (left_gate w shell) name mode m at in
      record {
        stays = record { counters = k.stays; objects = refl; watch = refl; names = refl; int_errno = refl; board = refl };
        slots = refl;
        irqs = refl;
        ids = k.ids;
        ram = λ a out. write_law.outside (loader_state w) name m mode at a (is_loader w kept) known same_verdict (λ p piece inside. out (fresh_byte v a p refl piece inside));
      }

-- ---- the call
effect_alone : (w : WorldState) (kept : IsWorld w) (name : List ℕ) (mode : ℕ) (said : FileSaid) → OnlyLoads w (effect (left_gate w shell) name mode said)
effect_alone w kept name mode Missing = refused_alone w name (codes "not found")
effect_alone w kept name mode TooLong = refused_alone w name (codes "too long")
effect_alone w kept name mode (Held file) = go (file_verdict (loader_state (left_gate w shell)) file mode) refl where
  go : (v : Result Places LoadErr) → file_verdict (loader_state (left_gate w shell)) file mode ≡ v → OnlyLoads w (by_verdict (left_gate w shell) name mode (module_at file) v)
  go (Err e) same = refused_alone w name (reason e)
  go (Ok at) same =
      let f = is_file (loader_state (left_gate w shell)) file mode at same in
      accepted_alone w kept name (module_at file) mode at f.known f.verdict

pub alone_law : AloneLaw
unfolding load_call
alone_law w name said kept may = effect_alone w kept name (mode_wanted w) said
