-- What is paid is within the limits of a claim.
use Rattle.std.proofs.Common.{◌≡◌, ◌≤◌, ◌+◌, IsSome, subst, sym, arith}
use Rattle.rx_d0_values.specs.Priced.{pricing_of}
use Rattle.rx_ledger.specs.Share.{shared}
use Rattle.rx_ledger.proofs.Limits.{pricing_of-there, shared-priced}
use Rattle.rx_ledger.proofs.share.shared.Goals as goal

pub unwrap-requires : goal.unwrap-requires
unwrap-requires c =
    let f = c.args.figures.now in
    let s = c.args.share in
    let a = c.args.allowance in
    let small : a.ingredient_cost + a.dispensing_fee ≤ 99_999_999 = omega arith in
    let value : c.new.result ≡ pricing_of (shared f s c.args.used a) = cc in
    subst (λ o. IsSome o) (sym value)
    (pricing_of-there (shared f s c.args.used a) (shared-priced f s c.args.used a c.requires small))
