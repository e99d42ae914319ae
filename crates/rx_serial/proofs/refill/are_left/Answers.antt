-- Days and their products fit the wider numbers.
use Rattle.std.proofs.Common.{◌≡◌, ◌*◌, pos, ◌-ℤ◌, ◌*ℤ◌, to_z, of_z, w64, ap, ◌∙◌, arith}
use Rattle.std.specs.Prelude.{int_lt}
use Rattle.std.proofs.Math.Nat.{mul-le-mul_left}
use Rattle.std.proofs.lemmas.Int.{ints}
use Rattle.rx_serial.proofs.refill.are_left.Goals as goal

pub returns : goal.returns
returns c =
    let days = c.args.at -ℤ c.args.from in
    let at : to_z w64 (of_z w64 c.from.result) ≡ c.args.at = omega (arith, ints) in
    let since : to_z w64 (of_z w64 c.from-2.result) ≡ c.args.from = omega (arith, ints) in
    let gone = to_z w64 (of_z w64 (to_z w64 (of_z w64 c.from.result) -ℤ to_z w64 (of_z w64 c.from-2.result))) in
    let passed : to_z w64 (of_z w64 (gone *ℤ pos 100)) ≡ days *ℤ pos 100 = omega (arith, ints) in
    let same : c.get.result * c.args.percent ≡ c.args.days * c.args.percent =
    ap (λ n. n * c.args.percent) c.get.ensures.value in
    let few = mul-le-mul_left c.get.result c.requires in
    let needed : to_z w64 (c.get.result * c.args.percent) ≡ pos (c.args.days * c.args.percent) =
    omega (arith, ints, few) in
    ap (λ x. int_lt x (to_z w64 (c.get.result * c.args.percent))) passed ∙ ap (int_lt (days *ℤ pos 100)) needed
