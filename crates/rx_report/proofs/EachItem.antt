-- What is written for each item of a list.
use Rattle.std.proofs.Common.{◌≡◌, ◌<◌, ◌+◌, ℕ, zero, suc, List, [], ◌∷◌, ◌++◌, length, get_or, take}
use Rattle.std.proofs.Common.{add-one, ap, append_assoc, arith, sym, ◌∙◌}
use Rattle.std.proofs.lemmas.List.{append-nil}
use Rattle.std.specs.List.{flat_map}
use Rattle.rx_print.proofs.Written.{as_text, two}
use Rattle.rx_print.specs.Page.{Writes}
use Rattle.rx_print.specs.declared.page.Page.{Page}

module _ {X : Type 0} (text : X → List ℕ) where
  after_more : (xs : List X) (x : X) (i : ℕ) → i < length xs → x ≡ get_or xs i x
      → flat_map text (take i xs) ++ text x ≡ flat_map text (take (suc i) xs)
  after_more [] x i within is = absurd (omega arith)
  after_more (y ∷ ys) x zero within is = ap text is ∙ sym (append-nil (text y))
  after_more (y ∷ ys) x (suc i) within is =
      append_assoc (text y) (flat_map text (take i ys)) (text x)
      ∙ ap (λ s. text y ++ s) (after_more ys x i (omega arith) is)

  -- an item more
  pub item_more : (p0 p1 p2 : Page) (xs : List X) (x : X) (i : ℕ) → i < length xs → x ≡ get_or xs i x
      → Writes p0 p1 (flat_map text (take i xs)) → Writes p1 p2 (text x) → Writes p0 p2 (flat_map text (take (i + 1) xs))
  item_more p0 p1 p2 xs x i within is before written =
      as_text p0 p2 (after_more xs x i within is ∙ ap (λ n. flat_map text (take n xs)) (sym (add-one i)))
      (two p0 p1 p2 (flat_map text (take i xs)) (text x) before written)
