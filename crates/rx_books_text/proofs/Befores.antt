-- Fields in front of what follows.
use Rattle.std.proofs.Common.{◌≡◌, ℕ, List, ◌∷◌, ◌++◌, Option, Some, None, refl, ap, ◌∙◌}
use Rattle.std.specs.Option.{option_map}
use Rattle.rx_books_text.specs.LineReading.{split}
use Rattle.rx_books_text.proofs.Cuts.{split_over}
use Rattle.rx_text.proofs.Steps.{some_same}
use Rattle.rx_books_text.proofs.Steps.{IsInside, without_bar}

-- a field in front of what follows
abbrev pub before : List ℕ → List ℕ → List ℕ
before field rest = field ++ 124 ∷ rest

-- where the field is cut off, it may be spelled otherwise
pub spelled : (bs field text rest : List ℕ) → bs ≡ before field rest → field ≡ text → bs ≡ before text rest
spelled bs field text rest cut is = cut ∙ ap (λ (t : List ℕ). before t rest) is

pub followed : (bs field rest more : List ℕ) → bs ≡ before field rest → rest ≡ more → bs ≡ before field more
followed bs field rest more cut is = cut ∙ ap (before field) is

pub inside_over : (field rest : List ℕ) → IsInside field → split (before field rest) ≡ Some (field, rest)
inside_over field rest inside = split_over field rest (without_bar field inside)

pub wrapped : {A B : Type 0} (f : A → B) (o : Option A) (y : B) → option_map f o ≡ Some y → (x : A) × (o ≡ Some x) × (f x ≡ y)
wrapped f None y e = absurd cc
wrapped f (Some x) y e = (x, refl, some_same e)
