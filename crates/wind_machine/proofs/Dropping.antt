-- What holds when reservations are dropped.
use Rattle.std.proofs.Common.{◌≡◌, ℕ, Bool, true, false, cond, eqb, List, [], ◌∷◌, get_or, map, Option, Some, IsSome, refl, sym, ap, ◌∙◌, subst, arith}
use Rattle.std.specs.List.{All}
use Rattle.std.proofs.lemmas.Bool.{eqb-true}
use Rattle.std.proofs.lemmas.List.Elements.{All-map, All-weaker}
use Rattle.id_table.specs.declared.ident.Place.{Place}
use Rattle.task_block.specs.declared.task.Task.{Task}
use Rattle.wind_core.specs.State.{KernState, task_id}
use Rattle.wind_core.specs.Moves.{unreserved, unreserve}
use Rattle.wind_core.specs.Move.{Set}
use Rattle.wind_core.specs.declared.settings.Setting.TheVariants as settings
use Rattle.wind_core.proofs.Ids.{lives_by}
use Rattle.live_loading.specs.KernelWorldState.{WorldState}
use Rattle.live_loading.specs.KernelWorldKept.{Stack, stack_of, routine_stack, AreStacks, IsWorld, HasCounts, Within, ReservedBy}
use Rattle.live_loading.specs.KernelWorldObjects.{KeepsObjects}
use Rattle.live_loading.proofs.KernelWorldWorldIds.{ids_kern}
use Rattle.live_loading.proofs.KernelWorldObjectMoves.{objects-move, objects-drop}
use Rattle.live_loading.proofs.KernelWorldHolding.{loaded_on}
use Rattle.live_loading.proofs.KernelWorldCalming.{Spares, kern-map}
use Rattle.live_loading.proofs.KernelWorldAdvancing.{Advances}
use Rattle.wind_machine.specs.Part.{with_kern}
use Rattle.wind_machine.specs.Reserving.{unless_own, drop_others, drop_all}

-- f leaves all of a task that the invariant mentions, and gives it no reservation
pub record Drops (f : Task → Task) : Type 0 where
  pub id : (t : Task) → (f t).id ≡ t.id
  pub since : (t : Task) → (f t).since ≡ t.since
  pub wake : (t : Task) → (f t).wake ≡ t.wake
  pub wait : (t : Task) → (f t).wait ≡ t.wait
  pub stack : (t : Task) → stack_of (f t) ≡ stack_of t
  pub locks : (t : Task) → (f t).locks ≡ t.locks
  pub safe : (t : Task) → (f t).safe ≡ t.safe
  pub reserve : (t : Task) → IsSome (f t).regs.reserve → IsSome t.regs.reserve

abbrev pub mapped : (Task → Task) → KernState → KernState
mapped f k = record k { tasks = map f k.tasks }

all_map : (P : Task → Type 0) (f : Task → Task) (ts : List Task) → ((t : Task) → P t → P (f t)) → All P ts → All P (map f ts)
all_map P f ts keeps all = All-map P f ts (All-weaker P (λ t. P (f t)) keeps ts all)

same_field : {X : Type 0} (field : Task → X) (f : Task → Task) (ts : List Task) → ((t : Task) → field (f t) ≡ field t) → map field (map f ts) ≡ map field ts
same_field field f [] same = refl
same_field field f (t ∷ ts) same = ap (λ x. x ∷ map field (map f ts)) (same t) ∙ ap (λ xs. field t ∷ xs) (same_field field f ts same)

module _ (f : Task → Task) (drops : Drops f) where
  spares : Spares f
  spares = record { id = drops.id; since = drops.since; wake = drops.wake; wait = drops.wait }

  mapped_reserves : (k : KernState) (who : Option ℕ) → ReservedBy who k → ReservedBy who (mapped f k)
  mapped_reserves k who h = all_map (λ t. IsSome t.regs.reserve → who ≡ Some t.id) f k.tasks (λ t own some. own (drops.reserve t some) ∙ ap Some (sym (drops.id t))) h

  pub drop_advances : (w : WorldState) (n : ℕ) → IsWorld w → Within n w → KeepsObjects w.board (mapped f w.kern) w.objects → Advances w (with_kern w (mapped f w.kern)) n 0 0
  drop_advances w n kept within objects = record {
    steps = record {
      kept = record {
        kern = kern-map f spares w.kern kept.kern;
        home = kept.home;
        kind = kept.kind;
        objects = objects;
        pool = kept.pool;
        stacks = subst (λ s. AreStacks w.part (routine_stack ∷ s)) (sym (same_field stack_of f w.kern.tasks drops.stack)) kept.stacks;
        modules = loaded_on w.kern w.part w.modules.rows kept.modules (mapped f w.kern) (omega arith) (same_field stack_of f w.kern.tasks drops.stack);
        ram = kept.ram;
        symbols = kept.symbols;
        watch = kept.watch;
        ids = ids_kern w kept.ids (mapped f w.kern) (same_field task_id f w.kern.tasks drops.id) (omega arith);
      };
      within = (all_map (HasCounts n) f w.kern.tasks (λ t h. (omega (arith, h.0, drops.locks t), omega (arith, h.1, drops.safe t))) within.0, within.1);
      last = refl;
      reserves = λ who h. mapped_reserves w.kern who h;
      sinces = omega arith;
      count = refl;
      names = omega arith;
      starts = omega arith;
      choice = refl;
    };
    lives = λ who h. lives_by (map f w.kern.tasks) w.kern.tasks who (same_field task_id f w.kern.tasks drops.id) h;
  }

-- ---- that of one task, of all, of all others
unreserved_drops : Drops unreserved
unreserved_drops = record { id = λ t. refl; since = λ t. refl; wake = λ t. refl; wait = λ t. refl; stack = λ t. refl; locks = λ t. refl; safe = λ t. refl; reserve = λ t some. absurd (cc) }

-- if a test says whether a task's reservation is dropped
by_test : (f : Task → Task) → ((t : Task) → (b : Bool) × (f t ≡ cond b (unreserved t) t)) → Drops f
by_test f tests = record {
  id = λ t. one ℕ (λ u. u.id) t refl;
  since = λ t. one ℕ (λ u. u.since) t refl;
  wake = λ t. one (Option ℕ) (λ u. u.wake) t refl;
  wait = λ t. one (Option Place) (λ u. u.wait) t refl;
  stack = λ t. one Stack stack_of t refl;
  locks = λ t. one ℕ (λ u. u.locks) t refl;
  safe = λ t. one ℕ (λ u. u.safe) t refl;
  reserve = λ t some. reserve t (tests t).0 (tests t).1 some;
}
  where
    one : (A : Type 0) (field : Task → A) (t : Task) → field (unreserved t) ≡ field t → field (f t) ≡ field t
    one A field t same = ap field (tests t).1 ∙ elim (tests t).0 as (λ b. field (cond b (unreserved t) t) ≡ field t) [ true ↦ same | false ↦ refl ]

    reserve : (t : Task) (b : Bool) → f t ≡ cond b (unreserved t) t → IsSome (f t).regs.reserve → IsSome t.regs.reserve
    reserve t true e some = let none : IsSome (unreserved t).regs.reserve = subst (λ (u : Task). IsSome u.regs.reserve) e some in absurd (cc)
    reserve t false e some = subst (λ (u : Task). IsSome u.regs.reserve) e some

abbrev of_own : ℕ → Task → Task
of_own who t = cond (eqb t.id who) (unreserved t) t

own_drops : (who : ℕ) → Drops (of_own who)
own_drops who = by_test (of_own who) (λ t. (eqb t.id who, refl))

other_drops : (who : ℕ) → Drops (unless_own who)
other_drops who = by_test (unless_own who) (λ t. elim (eqb t.id who) as (λ c. (b : Bool) × (cond c t (unreserved t) ≡ cond b (unreserved t) t)) [ true ↦ (false, refl) | false ↦ (true, refl) ])

module _ (w : WorldState) (n : ℕ) (kept : IsWorld w) (within : Within n w) where
  pub unreserve_advances : (who : ℕ) → Advances w (with_kern w (unreserve w.kern who)) n 0 0
  unreserve_advances who = drop_advances (of_own who) (own_drops who) w n kept within (objects-move w.kern w.objects kept.kern kept.objects (Set who settings.Unreserved) (tt, tt, tt, tt))

  pub others_advance : (who : ℕ) → Advances w (with_kern w (drop_others w.kern who)) n 0 0
  others_advance who = drop_advances (unless_own who) (other_drops who) w n kept within (objects-drop w.kern w.objects kept.objects (λ t. eqb t.id who))

  pub all_advance : Advances w (with_kern w (drop_all w.kern)) n 0 0
  all_advance = drop_advances unreserved unreserved_drops w n kept within (objects-drop w.kern w.objects kept.objects (λ t. false))

-- if the others' reservations are dropped, only this task may have one
pub others_reserved : (k : KernState) (who : ℕ) → ReservedBy (Some who) (drop_others k who)
others_reserved k who =
    All-map (λ t. IsSome t.regs.reserve → Some who ≡ Some t.id) (unless_own who) k.tasks (λ i d within. own (get_or k.tasks i d))
  where
    own : (t : Task) → IsSome (unless_own who t).regs.reserve → Some who ≡ Some (unless_own who t).id
    own t =
        elim (eqb t.id who) as (λ b. eqb t.id who ≡ b → IsSome (cond b t (unreserved t)).regs.reserve → Some who ≡ Some (cond b t (unreserved t)).id) [
          | true ↦ λ e some. ap Some (sym (eqb-true t.id who e))
          | false ↦ λ e some. absurd (cc)
        ] refl

-- if all are dropped, nobody has one
pub all_reserved : (k : KernState) (who : Option ℕ) → ReservedBy who (drop_all k)
all_reserved k who = All-map (λ t. IsSome t.regs.reserve → who ≡ Some t.id) unreserved k.tasks (λ i d within some. absurd (cc))
