-- What the invariant says of each instant.
use Rattle.std.proofs.Common.{◌≡◌, ℕ, zero, suc, ◌≤◌, true, Option, Some, ◌∙◌, subst, arith, ⊎_elim}
use Rattle.std.specs.List.{All}
use Rattle.wind_core.specs.State.{KernState}
use Rattle.wind_core.proofs.Lawful.{runner_may}
use Rattle.inheritance.specs.Mutexes.{MutexState, both}
use Rattle.inheritance.specs.Reach.{boss, path, is_on, pri_of, lifted}
use Rattle.inheritance.proofs.Walk.{path_cases}
use Rattle.inheritance.proofs.Same.{urgent_at, exact_same}
use Rattle.live_loading.specs.SemMutexKept.{IsSettled}
use Rattle.live_loading.proofs.SemMutexAtOnce.{settled_law}
use Rattle.wind_machine.specs.State.{State}
use Rattle.wind_machine.specs.Good.{Good}
use Rattle.wind_machine.specs.Instants.{OwnersInherit, OthersAreNormal, InheritsExactly}
use Rattle.wind_machine.specs.Laws.{InstantLaw}

-- if each is at least as urgent as those that wait for it, this holds along any walk
reach_urgent : (up : ℕ → Option ℕ) (pri : ℕ → ℕ) → ((y x : ℕ) → up y ≡ Some x → pri x ≤ pri y) → (n y x : ℕ) → is_on (path up n y) x ≡ true → pri x ≤ pri y
reach_urgent up pri each zero y x h = absurd (cc)
reach_urgent up pri each (suc n) y x h =
    let s = path_cases up n y x h in
    let step = each y s.0 s.1 in
    ⊎_elim
    (λ (e : s.0 ≡ x). subst (λ v. pri v ≤ pri y) e step)
    (λ (r : is_on (path up n s.0) x ≡ true). let rest = reach_urgent up pri each n s.0 x r in omega (arith, rest, step))
    s.2

module _ (s : State) (g : Good s) where
  abbrev mutexes : MutexState
  mutexes = both s.world.kern s.world.objects.mutexes

  settled : IsSettled mutexes
  settled = settled_law mutexes g.kept.world.kern g.kept.world.objects.mutexes (λ two. g.exact)

  owners_inherit : OwnersInherit s.world
  owners_inherit =
      let k : KernState = s.world.kern in
      let ms = s.world.objects.mutexes.rows in
      reach_urgent (boss k.tasks ms) (pri_of k.tasks) (urgent_at k.tasks ms settled.urgent)

  others_normal : OthersAreNormal s.world
  others_normal i d hi none = settled.normal i d hi ((g.kept.world.objects.mutexes.holds.tasks i d hi).held ∙ none)

  inherits : InheritsExactly s.world
  inherits two =
      let k : KernState = s.world.kern in
      let ms = s.world.objects.mutexes.rows in
      subst (λ p. All (λ t. t.pri ≡ lifted p k ms t.id) k.tasks) two g.exact

pub instants : InstantLaw
instants s g = record {
  urgency = λ x e. runner_may s.world.kern g.kept.world.kern x e;
  inheritance = owners_inherit s g;
  normal = others_normal s g;
  exact = inherits s g;
  raising = exact_same (both s.world.kern s.world.objects.mutexes) g.kept.world.kern g.exact;
}
