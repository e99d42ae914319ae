-- What is written piece by piece, each after those before it.
use Rattle.std.proofs.Common.{◌≡◌, ℕ, List, ◌++◌, ap, ◌∙◌, append_assoc, subst}
use Rattle.rx_print.specs.Page.{Writes}
use Rattle.rx_print.specs.declared.page.Page.{Page}

-- the same text, said otherwise
pub as_text : (old new : Page) {x y : List ℕ} → x ≡ y → Writes old new x → Writes old new y
as_text old new e written = subst (λ text. Writes old new text) e written

pub two : (p0 p1 p2 : Page) (y1 y2 : List ℕ) → Writes p0 p1 y1 → Writes p1 p2 y2 → Writes p0 p2 (y1 ++ y2)
two p0 p1 p2 y1 y2 w1 w2 whole =
    let second = w2 whole in
    let first = w1 second.0 in
    (first.0, second.1 ∙ ap (λ s. s ++ y2) first.1 ∙ append_assoc p0.bytes.items y1 y2)

pub three : (p0 p1 p2 p3 : Page) (y1 y2 y3 : List ℕ)
    → Writes p0 p1 y1 → Writes p1 p2 y2 → Writes p2 p3 y3
    → Writes p0 p3 (y1 ++ (y2 ++ y3))
three p0 p1 p2 p3 y1 y2 y3 w1 w2 w3 =
    two p0 p1 p3 y1 (y2 ++ y3) w1
    (two p1 p2 p3 y2 y3 w2 w3)

pub four : (p0 p1 p2 p3 p4 : Page) (y1 y2 y3 y4 : List ℕ)
    → Writes p0 p1 y1 → Writes p1 p2 y2 → Writes p2 p3 y3 → Writes p3 p4 y4
    → Writes p0 p4 (y1 ++ (y2 ++ (y3 ++ y4)))
four p0 p1 p2 p3 p4 y1 y2 y3 y4 w1 w2 w3 w4 =
    two p0 p1 p4 y1 (y2 ++ (y3 ++ y4)) w1
    (three p1 p2 p3 p4 y2 y3 y4 w2 w3 w4)

pub five : (p0 p1 p2 p3 p4 p5 : Page) (y1 y2 y3 y4 y5 : List ℕ)
    → Writes p0 p1 y1 → Writes p1 p2 y2 → Writes p2 p3 y3 → Writes p3 p4 y4 → Writes p4 p5 y5
    → Writes p0 p5 (y1 ++ (y2 ++ (y3 ++ (y4 ++ y5))))
five p0 p1 p2 p3 p4 p5 y1 y2 y3 y4 y5 w1 w2 w3 w4 w5 =
    two p0 p1 p5 y1 (y2 ++ (y3 ++ (y4 ++ y5))) w1
    (four p1 p2 p3 p4 p5 y2 y3 y4 y5 w2 w3 w4 w5)

pub six : (p0 p1 p2 p3 p4 p5 p6 : Page) (y1 y2 y3 y4 y5 y6 : List ℕ)
    → Writes p0 p1 y1 → Writes p1 p2 y2 → Writes p2 p3 y3 → Writes p3 p4 y4 → Writes p4 p5 y5 → Writes p5 p6 y6
    → Writes p0 p6 (y1 ++ (y2 ++ (y3 ++ (y4 ++ (y5 ++ y6)))))
six p0 p1 p2 p3 p4 p5 p6 y1 y2 y3 y4 y5 y6 w1 w2 w3 w4 w5 w6 =
    two p0 p1 p6 y1 (y2 ++ (y3 ++ (y4 ++ (y5 ++ y6)))) w1
    (five p1 p2 p3 p4 p5 p6 y2 y3 y4 y5 y6 w2 w3 w4 w5 w6)

pub seven : (p0 p1 p2 p3 p4 p5 p6 p7 : Page) (y1 y2 y3 y4 y5 y6 y7 : List ℕ)
    → Writes p0 p1 y1 → Writes p1 p2 y2 → Writes p2 p3 y3 → Writes p3 p4 y4 → Writes p4 p5 y5 → Writes p5 p6 y6 → Writes p6 p7 y7
    → Writes p0 p7 (y1 ++ (y2 ++ (y3 ++ (y4 ++ (y5 ++ (y6 ++ y7))))))
seven p0 p1 p2 p3 p4 p5 p6 p7 y1 y2 y3 y4 y5 y6 y7 w1 w2 w3 w4 w5 w6 w7 =
    two p0 p1 p7 y1 (y2 ++ (y3 ++ (y4 ++ (y5 ++ (y6 ++ y7))))) w1
    (six p1 p2 p3 p4 p5 p6 p7 y2 y3 y4 y5 y6 y7 w2 w3 w4 w5 w6 w7)

pub eight : (p0 p1 p2 p3 p4 p5 p6 p7 p8 : Page) (y1 y2 y3 y4 y5 y6 y7 y8 : List ℕ)
    → Writes p0 p1 y1 → Writes p1 p2 y2 → Writes p2 p3 y3 → Writes p3 p4 y4 → Writes p4 p5 y5
    → Writes p5 p6 y6 → Writes p6 p7 y7 → Writes p7 p8 y8
    → Writes p0 p8 (y1 ++ (y2 ++ (y3 ++ (y4 ++ (y5 ++ (y6 ++ (y7 ++ y8)))))))
eight p0 p1 p2 p3 p4 p5 p6 p7 p8 y1 y2 y3 y4 y5 y6 y7 y8 w1 w2 w3 w4 w5 w6 w7 w8 =
    two p0 p1 p8 y1 (y2 ++ (y3 ++ (y4 ++ (y5 ++ (y6 ++ (y7 ++ y8)))))) w1
    (seven p1 p2 p3 p4 p5 p6 p7 p8 y2 y3 y4 y5 y6 y7 y8 w2 w3 w4 w5 w6 w7 w8)
