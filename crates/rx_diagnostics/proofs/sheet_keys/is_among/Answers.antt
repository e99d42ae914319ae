use Rattle.std.proofs.Common.{nat_eq, rules, tests, ◌∙◌}
use Rattle.std.specs.Cmp.Lexicographic.{pointwise}
use Rattle.std.proofs.lemmas.Iterator.{YieldsList-from_slice}
use Rattle.std.proofs.lemmas.Iterator.Search.{any_from_yields_List}
use Rattle.rx_diagnostics.proofs.KnownNames.{among-texts}
use Rattle.rx_diagnostics.proofs.sheet_keys.is_among.Goals as goal

pub returns : goal.returns
returns c =
    any_from_yields_List (λ known. pointwise nat_eq known.now c.args.name.now) _ _ _ c.any.ensures.ran
    (YieldsList-from_slice c.args.names.now cc) (λ x b q k. search (rules, tests))
    ∙ among-texts c.args.name.now c.args.names.now
