use Rattle.std.proofs.Common.{◌≡◌, ◌-◌, ◌<◌, ◌∷◌, [], ◌++◌, List, length, get_or, refl, subst, sym, ap, arith}
use Rattle.sweep_table.specs.declared.runs.Run.{Run}
use Rattle.sweep_table.specs.Runs.{Grows}
use Rattle.sweep_table.proofs.RunLemmas.{grows_push, grows_at, last_fits}
use Rattle.sweep_table.proofs.runs.add_members.Goals as goal

pub overflow_add-index_mut : goal.overflow_add-index_mut
overflow_add-index_mut c =
    let rs = c.args.runs.now.items in
    let last = c.if-ends_with.ensures refl in
    let Some : List Run → Type 0 = λ v. 0 < length v in
    let some : 0 < length rs = subst Some c.deref.ensures.value last.0 in
    let count : c.len-last.result ≡ length rs = omega (arith, c.args.runs.now.ok.0) in
    omega (arith, last_fits rs c.index_mut.result.now (c.len-last.result - 1) (omega (arith, some, count)) c.index_mut.ensures.value)

pub returns-then-ends_with-clause-ok : goal.returns-then-ends_with-clause-ok
returns-then-ends_with-clause-ok c =
    let rs = c.args.runs.now.items in
    let last = c.if-ends_with.ensures refl in
    let Some : List Run → Type 0 = λ v. 0 < length v in
    let some : 0 < length rs = subst Some c.deref.ensures.value last.0 in
    let Ends : List Run → Type 0 = λ v. (get_or v (length v - 1) c.index_mut.result.now).place ≡ c.args.place in
    let at : (get_or rs (length rs - 1) c.index_mut.result.now).place ≡ c.args.place = subst Ends c.deref.ensures.value (last.1 c.index_mut.result.now) in
    let count : c.len-last.result ≡ length rs = omega (arith, c.args.runs.now.ok.0) in
    grows_at rs c.index_mut.result.now (c.len-last.result - 1) c.args.place c.args.length some (ap (λ n. n - 1) count) at c.index_mut.ensures.value

pub returns-clause-ok : goal.returns-clause-ok
returns-clause-ok c =
    let run : Run = record { length = c.args.length; place = c.args.place } in
    let made : c.push.new.self.items ≡ c.args.runs.now.items ++ run ∷ [] = c.in_ok-push.ensures.items in
    let P : List Run → Type 0 = λ v. Grows c.args.runs.now.items v c.args.place c.args.length in
    subst P (sym made) (grows_push c.args.runs.now.items c.args.place c.args.length)
