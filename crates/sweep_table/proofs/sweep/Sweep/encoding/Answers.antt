use Rattle.std.proofs.Common.{◌∙◌, ℕ, List, length, subst, sym, ap}
use Rattle.sweep_table.specs.declared.runs.Run.{Run}
use Rattle.sweep_table.specs.Runs.{IsSweep}
use Rattle.sweep_table.proofs.JoinLemmas.{tally_members}
use Rattle.sweep_table.proofs.sweep.Sweep.encoding.Goals as goal

pub returns-clause-sound : goal.returns-clause-sound
returns-clause-sound c =
    let tally = c.self.inside.tally in
    let members = tally_members tally c.self.invariant ∙ ap length c.self.view_is in
    let K : List (List ℕ) → Type 0 = λ v. IsSweep v c.deref-2.result.now (length c.args.self.now) in
    let R : List Run → Type 0 = λ v. IsSweep tally.known.items v (length c.args.self.now) in
    let M : ℕ → Type 0 = λ v. IsSweep tally.known.items tally.runs.items v in
    subst K (sym c.deref.ensures.value) (subst R (sym c.deref-2.ensures.value) (subst M members c.self.invariant))
