use Rattle.std.proofs.Common.{◌++◌, ◌∙◌, ap, map, sym, arith}
use Rattle.std.proofs.lemmas.List.{append-nil, take_all}
use Rattle.wind_link.specs.Undefined.{pair_of}
use Rattle.wind_link.specs.Values.{valueless_names}
use Rattle.wind_link.proofs.Unbinding.{names_more}
use Rattle.wind_link.proofs.undefined.add_undefined.Goals as goal

pub loop-symbol-init : goal.loop-symbol-init
loop-symbol-init c = sym (append-nil (map pair_of c.args.names.now.items))

pub loop-symbol-preserved : goal.loop-symbol-preserved
loop-symbol-preserved c =
    names_more c.args.line c.args.values.now c.args.symbols.now c.loop-symbol.symbol-index c.symbol-item.result
    (map pair_of c.args.names.now.items) (map pair_of c.loop-symbol.names.items) (map pair_of c.add_name.new.names.items)
    c.loop-symbol-test.true c.symbol-item.is c.loop-symbol.invariant c.in_ok-add_name.ensures

pub returns : goal.returns
returns c =
    c.loop-symbol.invariant
    ∙ ap (λ ys. map pair_of c.args.names.now.items ++ map (λ name. (c.args.line, name)) (valueless_names c.args.values.now ys))
    (take_all c.loop-symbol.symbol-index c.args.symbols.now (omega (arith, c.loop-symbol-test.false)))
