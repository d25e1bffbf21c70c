use Rattle.std.proofs.Common.{◌≡◌, ◌<◌, ◌^◌, ◌∙◌, sym, ap, arith, Some}
use Rattle.ppc_word.specs.Rows.{row_of}
use Rattle.ppc_word.proofs.Unique.{insn-word_one}
use Rattle.ppc_word.proofs.Found.{row_of-insn, row-insn}
use Rattle.ppc_word.proofs.coding.decode.Goals as goal

pub returns-in_default-clause-only : goal.returns-in_default-clause-only
returns-in_default-clause-only c =
    λ i e. (let p = row_of-insn i c.args.word e in let q = c.row_for.ensures in let d = c.in_default.is in cc)

pub invariant_of-result : goal.invariant_of-result
invariant_of-result c =
    let lt : c.args.word < 2 ^ 32 = omega arith in
    let e : row_of c.args.word ≡ Some c.in-Some.row = sym c.row_for.ensures ∙ c.in-Some.is in
    record { in_table = (row-insn c.in-Some.row c.args.word c.fields_for-fields.result lt e c.fields_for-fields.ensures).0 }

pub returns-clause-found : goal.returns-clause-found
returns-clause-found c =
    let lt : c.args.word < 2 ^ 32 = omega arith in
    let e : row_of c.args.word ≡ Some c.in-Some.row = sym c.row_for.ensures ∙ c.in-Some.is in
    (row-insn c.in-Some.row c.args.word c.fields_for-fields.result lt e c.fields_for-fields.ensures).1

pub returns-clause-only : goal.returns-clause-only
returns-clause-only c =
    let lt : c.args.word < 2 ^ 32 = omega arith in
    let e : row_of c.args.word ≡ Some c.in-Some.row = sym c.row_for.ensures ∙ c.in-Some.is in
    let a = row-insn c.in-Some.row c.args.word c.fields_for-fields.result lt e c.fields_for-fields.ensures in
    λ i p. ap Some (insn-word_one _ i (a.1 ∙ sym p))
