-- Instructions, one after the other.
use Rattle.std.proofs.Common.{◌≡◌, ℕ, ◌+◌, ◌-◌, ◌*◌, ◌/◌, ◌%◌, ◌<◌, ◌≤◌, ◌&&◌, ◌==◌, Bool, true, false, cond, eqb, List, length, Option, None, Some, Result, refl, sym, ap, ap₂, ◌∙◌, subst, zero, suc, add-one, add-zero, add-suc, get_or, Ok, inl, inr, arith}
use Rattle.std.specs.Prelude.{is_err, unwrap_or, nat_le, if◌then◌else◌}
use Rattle.std.proofs.lemmas.Bool.Decides.{nat_tests}
use Rattle.wind_base.specs.Limits.{gate_bytes}
use Rattle.wind_base.specs.Gates.{gate_at, gate_of}
use Rattle.wind_base.specs.Boards.{board_rules}
use Rattle.wind_base.specs.declared.regs.Regs.{Regs}
use Rattle.ppc_core.specs.Instructions.{exec_of}
use Rattle.ppc_core.specs.Outcomes.{Outcome, Done, Trapped, Leaves}
use Rattle.ppc_core.specs.declared.trap.Trap.{Trap}
use Rattle.ppc_word.specs.declared.decoded.Decoded.{Decoded}
use Rattle.ppc_word.specs.declared.op.Op.TheVariants as ops
use Rattle.ppc_core.specs.Stepping.{at_pc, LeavesAt, MayStep}
use Rattle.ppc_core.specs.declared.stepping.Progress.{Progress}
use Rattle.ppc_core.specs.declared.stepping.Progress.TheVariants as progress
use Rattle.board_mem.specs.Code.{Agrees, AreWords}
use Rattle.board_actors.specs.declared.instructions.Stretch.{Stretch}
use Rattle.board_bus.specs.BusState.{BusState}
use Rattle.board_mem.specs.Memory.{number_at, read}
use Rattle.board_bus.specs.Access.{board_meaning, fetched}
use Rattle.live_loading.specs.KernelWorldState.{WorldState}
use Rattle.live_loading.specs.KernelWorldStarting.{no_regs}
use Rattle.live_loading.specs.KernelWorldActors.{found_regs}
use Rattle.live_loading.specs.KernelWorldActor.{Actor}
use Rattle.wind_machine.specs.Processor.{bus_of, regs_of}
use Rattle.wind_machine.proofs.Executing.{IfDone, executing_lasts, sizes_last}
use Rattle.board_actors.specs.Instructions.{ExecutesMany, IsNext, MayEnd, MayRead, MayRun, Names, executed_to, left_of, reached}
use Rattle.board_actors.specs.Running.{RanMany}

-- no gate is below the first
no_gate : (start at : ℕ) → at < start → gate_at start at ≡ None
no_gate start at h =
    let below : nat_le start at ≡ false = grind (arith, nat_tests, h) in
    ap (λ b. cond (b && eqb ((at - start) % gate_bytes) 0) (gate_of ((at - start) / gate_bytes)) None) below

-- a word that can be fetched is inside RAM
inside_ram : (ram : List ℕ) (at word : ℕ) → (if at % 4 == 0 then read 4 ram at else None) ≡ Some word → at < length ram
inside_ram ram at word e = go (at % 4 == 0) (nat_le (at + 4) (length ram)) refl e
  where
    go : (b c : Bool) → nat_le (at + 4) (length ram) ≡ c → cond b (cond c (Some (number_at 4 ram at)) None) None ≡ Some word → at < length ram
    go true true f e = grind (arith, nat_tests, f)
    go true false f e = absurd (cc)
    go false c f e = absurd (cc)

done_by : (o : Outcome BusState) (m after : Regs) (c bus : BusState) (res : Result (Unit {0}) Trap) (b : Bool) → Leaves o m c after bus res → b ≡ is_err res → b ≡ false → o ≡ Done after bus
done_by (Done r d) m after c bus res b l e f = ap (λ x. Done x d) (sym l.1) ∙ ap (λ x. Done after x) (sym l.2)
done_by (Trapped t) m after c bus res b l e f = let bad : b ≡ true = e ∙ ap is_err l.0 in absurd (cc)

-- k instructions lead there, whatever gates begin at or above the end of RAM, and RAM keeps its size
pub record RunsBelow (k : ℕ) (r : Regs) (b : BusState) (after : Regs) (bus : BusState) : Type 0 where
  pub many : (start : ℕ) → length b.ram ≤ start → ExecutesMany start k r b after bus
  pub size : length bus.ram ≡ length b.ram

-- one more instruction was executed
pub one_more : (k word : ℕ) (r m after : Regs) (b c bus : BusState) (found : Option ℕ) (res : Result (Unit {0}) Trap) (bad : Bool)
    → RunsBelow k r b m c → found ≡ fetched c m.pc → found ≡ Some word
    → Leaves (exec_of board_meaning m word c) m c after bus res → bad ≡ is_err res → bad ≡ false → RunsBelow (k + 1) r b after bus
one_more k word r m after b c bus found res bad runs fetch there leaves err ok =
    let done = done_by (exec_of board_meaning m word c) m after c bus res bad leaves err ok in
    let at = sym fetch ∙ there in
    record {
      many = λ start above.
          subst (λ n. ExecutesMany start n r b after bus) (sym (add-one k)) (
            m,
            c,
            runs.many start above,
            record {
              no_gate = no_gate start m.pc (let inside = inside_ram c.ram m.pc word at in let size = runs.size in omega (arith, inside, size, above));
              word = word;
              there = at;
              done = done;
            },
          );
      size = subst (λ o. IfDone (λ d. length d.ram ≡ length c.ram) o) done (executing_lasts board_meaning (λ d. length d.ram ≡ length c.ram) (sizes_last (length c.ram)) m word c refl) ∙ runs.size;
    }

-- an outcome that is left at the next address is done
pub left_done : (o : Outcome BusState) (pc next : ℕ) (old regs : Regs) (b bus : BusState) → LeavesAt o pc old b regs bus (Ok next) → o ≡ Done (at_pc regs next) bus
left_done (Done r d) pc next old regs b bus l =
    let at : r.pc ≡ next = let e = l.0 in cc in
    ap₂ (λ (x : Regs) (y : BusState). Done x y) (sym l.1 ∙ ap (at_pc regs) at) (sym l.2)
left_done (Trapped t) pc next old regs b bus l = let e = l.0 in absurd (cc)

-- one more instruction was executed, at an address beside the registers
pub one_more_at : (k word pc next : ℕ) (r m after : Regs) (b c bus : BusState) → RunsBelow k r b (at_pc m pc) c → fetched c pc ≡ Some word
    → exec_of board_meaning (at_pc m pc) word c ≡ Done (at_pc after next) bus → RunsBelow (k + 1) r b (at_pc after next) bus
one_more_at k word pc next r m after b c bus runs there done =
    one_more k word r (at_pc m pc) (at_pc after next) b c bus (fetched c pc) (Ok tt) false runs refl there
    (subst (λ (o : Outcome BusState). Leaves o (at_pc m pc) c (at_pc after next) bus (Ok tt)) (sym done) (refl, refl, refl)) refl refl

-- instructions after others
append_many : (start k j : ℕ) (r m after : Regs) (b c bus : BusState) → ExecutesMany start k r b m c → ExecutesMany start j m c after bus → ExecutesMany start (k + j) r b after bus
append_many start k zero r m after b c bus first rest =
    subst (λ (n : ℕ). ExecutesMany start n r b after bus) (sym (add-zero k)) (subst (λ (x : Regs). ExecutesMany start k r b x bus) (sym rest.0) (subst (λ (x : BusState). ExecutesMany start k r b m x) (sym rest.1) first))
append_many start k (suc j) r m after b c bus first rest =
    subst (λ (n : ℕ). ExecutesMany start n r b after bus) (sym (add-suc k j)) (rest.0, rest.1, append_many start k j r m rest.0 b c rest.1 first rest.2, rest.3)

-- a decoded word that isn't empty is the one that can be fetched
pub next_is : (d : Decoded) (b : BusState) (pc : ℕ) → IsNext d b pc → (d.op ≡ ops.Empty → ⊥) → fetched b pc ≡ Some d.word
next_is d b pc (inl empty) some = absurd (some empty)
next_is d b pc (inr word) some = word

-- an entry of its page is empty, or the word that can be fetched
pub entry_next : (b : BusState) (pc page k : ℕ) (entries : List Decoded) (e d : Decoded) → AreWords entries b.ram page → pc / 4096 ≡ page → pc % 4 ≡ 0 → k ≡ pc % 4096 / 4 → k < length entries
    → e ≡ get_or entries k e → d ≡ e → IsNext d b pc
entry_next b pc page k entries e d words is_page aligned place within entry copy =
    let test : (pc % 4 == 0) ≡ true = grind (arith, nat_tests) in
    let at : 4096 * page + 4 * k ≡ pc = omega arith in
    let agrees : Agrees d b.ram (4096 * page + 4 * k) = subst (λ (x : Decoded). Agrees x b.ram (4096 * page + 4 * k)) (sym entry ∙ sym copy) (words k e within) in
    elim agrees [
      | inl empty ↦ inl empty
      | inr word ↦ inr (ap (λ (t : Bool). if t then read 4 b.ram pc else None) test ∙ ap (read 4 b.ram) (sym at) ∙ word)
    ]

-- an instruction that left the bus and an address is executed
pub may_run : (pc word next : ℕ) (old regs : Regs) (b held bus : BusState) → fetched b pc ≡ Some word → held ≡ b → LeavesAt (exec_of board_meaning (at_pc old pc) word held) pc old held regs bus (Ok next) → MayRun pc old b regs bus (Some next)
may_run pc word next old regs b held bus there same left =
    (word, there, subst (λ (x : BusState). exec_of board_meaning (at_pc old pc) word x ≡ Done (at_pc regs next) bus) same (left_done (exec_of board_meaning (at_pc old pc) word held) pc next old regs held bus left))

-- an instruction was executed, or left, without the bus
pub read_without : (d : Decoded) (pc : ℕ) (old regs : Regs) (b : BusState) (p : Progress) → MayStep (exec_of board_meaning (at_pc old pc) d.word) d.op old regs p → MayRead d pc old regs b p
read_without d pc old regs b (progress.Executed next) may = (may.0, may.1 b)
read_without d pc old regs b progress.LoadWord may = (tt, may.1)
read_without d pc old regs b progress.Lwzu may = (tt, may.1)
read_without d pc old regs b progress.Lbz may = (tt, may.1)
read_without d pc old regs b progress.StoreWord may = may
read_without d pc old regs b progress.Stwu may = may
read_without d pc old regs b progress.Other may = (tt, may)

-- an instruction that isn't executed changes nothing, and its operation is the one that is named
pub read_left : (d : Decoded) (pc : ℕ) (old regs : Regs) (b : BusState) (left : Progress) → MayRead d pc old regs b left → ((n : ℕ) → left ≡ progress.Executed n → ⊥) → Names left d.op × (regs ≡ old)
read_left d pc old regs b (progress.Executed n) may other = absurd (other n refl)
read_left d pc old regs b left may other = may

-- one more instruction was executed, or none
pub ran_next : (k pc next : ℕ) (r m after : Regs) (b c bus : BusState) → RunsBelow k r b (at_pc m pc) c → MayRun pc m c after bus (Some next) → RunsBelow (k + 1) r b (at_pc after next) bus
ran_next k pc next r m after b c bus runs may = one_more_at k may.0 pc next r m after b c bus runs may.1 may.2

pub ran_none : (k pc : ℕ) (r m after : Regs) (b c bus : BusState) → RunsBelow k r b (at_pc m pc) c → MayRun pc m c after bus None → RunsBelow k r b (at_pc after pc) bus
ran_none k pc r m after b c bus runs may =
    subst (λ (x : Regs). RunsBelow k r b x bus) (sym may.0) (subst (λ (x : BusState). RunsBelow k r b (at_pc m pc) x) (sym may.1) runs)

-- one more instruction was executed, by its entry
pub entry_ran : (k pc page place next : ℕ) (r m after : Regs) (b c bus : BusState) (entries : List Decoded) (e d : Decoded) → RunsBelow k r b (at_pc m pc) c → AreWords entries c.ram page
    → pc / 4096 ≡ page → pc % 4 ≡ 0 → place ≡ pc % 4096 / 4 → place < length entries → e ≡ get_or entries place e → d ≡ e → (d.op ≡ ops.Empty → ⊥)
    → exec_of board_meaning (at_pc m pc) d.word c ≡ Done (at_pc after next) bus → RunsBelow (k + 1) r b (at_pc after next) bus
entry_ran k pc page place next r m after b c bus entries e d runs words is_page aligned is within entry copy some done =
    one_more_at k d.word pc next r m after b c bus runs (next_is d c pc (entry_next c pc page place entries e d words is_page aligned is within entry copy) some) done

-- a burst goes on by the next instruction, or ends before it
pub record IsStretch (from : Stretch) (made : ℕ) (to : Option Stretch) (after k : ℕ) (r : Regs) (b : BusState) (regs : Regs) (bus : BusState) : Type 0 where
  pub more : ℕ
  pub count : more + left_of to + made ≡ from.left + 1 + after
  pub runs : RunsBelow (k + more) r b (reached to regs) bus
  pub less : left_of to ≤ from.left
  pub within : after ≤ made

pub stretched : (k : ℕ) (from : Stretch) (made : ℕ) (r m : Regs) (b c : BusState) (to : Option Stretch) (after : ℕ) (regs : Regs) (bus : BusState)
    → RunsBelow k r b (at_pc m from.pc) c → MayEnd from made m c to after regs bus → IsStretch from made to after k r b regs bus
stretched k from made r m b c to after regs bus runs (None, n, may, ends) =
    let ran = ran_none k from.pc r m n b c bus runs may in
    record {
      more = 0;
      count = ends.0.count;
      runs = subst (λ (j : ℕ). RunsBelow j r b (reached to regs) bus) (sym (add-zero k)) (subst (λ (x : Regs). RunsBelow k r b x bus) (sym ends.1) ran);
      less = ends.0.less;
      within = ends.0.within;
    }
stretched k from made r m b c to after regs bus runs (Some next, n, may, ends) =
    let ran = ran_next k from.pc next r m n b c bus runs may in
    record {
      more = 1;
      count = ends.0.count;
      runs = subst (λ (x : Regs). RunsBelow (k + 1) r b x bus) (sym ends.1) ran;
      less = ends.0.less;
      within = ends.0.within;
    }

-- an instruction that left the bus is executed, by its decoded word
pub may_run_next : (pc next : ℕ) (d : Decoded) (old regs : Regs) (b bus : BusState) → IsNext d b pc → (d.op ≡ ops.Empty → ⊥) → LeavesAt (exec_of board_meaning (at_pc old pc) d.word b) pc old b regs bus (Ok next) → MayRun pc old b regs bus (Some next)
may_run_next pc next d old regs b bus is some left = may_run pc d.word next old regs b b bus (next_is d b pc is some) refl left

-- instructions were executed after others
pub runs_after : (k j : ℕ) (r m after : Regs) (b c bus : BusState) → RunsBelow k r b m c → ((start : ℕ) → length c.ram ≤ start → ExecutesMany start j m c after bus) → length bus.ram ≡ length c.ram → RunsBelow (k + j) r b after bus
runs_after k j r m after b c bus runs many size = record {
  many = λ start above. append_many start k j r m after b c bus (runs.many start above) (many start (let was = runs.size in omega (arith, was, above)));
  size = size ∙ runs.size;
}

-- no instruction was executed
pub runs_none : (r : Regs) (b : BusState) → RunsBelow 0 r b r b
runs_none r b = record { many = λ gates below. (refl, refl); size = refl }

-- the actor, which is this one, has executed k instructions
pub ran_many : (w : WorldState) (who a : Actor) → who ≡ a → (k : ℕ) (old regs : Regs) (bus : BusState) → found_regs w.kern w.watch.level a ≡ Some old
    → ExecutesMany (board_rules w.board).gates_start k old (bus_of w) regs bus → RanMany k who w (executed_to w a regs bus)
ran_many w who a is k old regs bus e many =
    let same : regs_of w who ≡ old = ap (regs_of w) is ∙ ap (λ o. unwrap_or o no_regs) e in
    record {
      regs = regs;
      bus = bus;
      many = subst (λ x. ExecutesMany (board_rules w.board).gates_start k x (bus_of w) regs bus) (sym same) many;
      world = ap (λ x. executed_to w x regs bus) (sym is);
    }
