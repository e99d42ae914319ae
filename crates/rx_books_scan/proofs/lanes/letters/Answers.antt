use Rattle.std.proofs.Common.{ℕ, bit_or, cond, eqb, ltb, refl, arith}
use Rattle.std.proofs.lemmas.Simd.{zip2_splat, zip2_splat_left, length-chunk}
use lib.Lanes.{chunk}
use Rattle.rx_books_scan.specs.Fields.{is_letter}
use Rattle.rx_books_scan.proofs.Marks.{joined, passed}
use Rattle.rx_books_scan.proofs.lanes.letters.Goals as goal

-- how a comparison marks a lane
abbrev below : ℕ → ℕ → ℕ
below a b = cond (ltb a b) 255 0

abbrev same : ℕ → ℕ → ℕ
same a b = cond (eqb a b) 255 0

pub returns : goal.returns
returns c =
    let v = chunk 0 32 c.args.bytes.now in
    let long = length-chunk 0 32 c.args.bytes.now c.requires in
    let low = zip2_splat {Y = ℕ} below v 32 32 long in
    let high = zip2_splat_left {X = ℕ} below 126 32 v long in
    let bar = zip2_splat {Y = ℕ} same v 32 124 long in
    passed is_letter c.args.bytes.now 32 _ c.requires (omega arith) c.type_inv.bytes (omega arith) _
    (joined bit_or _ _ v (joined bit_or _ _ v low high) bar) refl
