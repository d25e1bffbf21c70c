use Rattle.std.proofs.Common.{◌∙◌, subst}
use Rattle.std.specs.Str.Parse.{ParsesUnsigned}
use Rattle.wind_base.proofs.Numerals.{numeral_text, numeral_parsed}
use Rattle.wind_base.proofs.number.numeral_value.Goals as goal

pub returns-in-Ok : goal.returns-in-Ok
returns-in-Ok c =
    c.ok.ensures.value
    ∙ numeral_parsed c.args.numeral.now _ c.requires (subst (λ bs. ParsesUnsigned 64 10 bs c.parse.result) c.in-Ok.ensures.cases.0 c.parse.ensures.value.0)

pub returns-in-Err : goal.returns-in-Err
returns-in-Err c = absurd (c.in-Err.ensures.cases.0 (numeral_text c.args.numeral.now c.requires))
