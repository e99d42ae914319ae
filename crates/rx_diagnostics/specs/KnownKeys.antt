-- Meaning: the keys of a plan sheet, and which names are among them.
use Rattle.std.specs.Prelude.{ℕ, Bool, nat_eq, List, map}
use Rattle.std.specs.Borrow.{Bor}
use Rattle.std.specs.Cmp.Lexicographic.{pointwise}
use Rattle.std.specs.List.{list_any}
use Rattle.rx_diagnostics.specs.declared.sheet_keys.TheConstants.{SHEET_KEYS}

abbrev pub texts_of : List (Bor (List ℕ)) → List (List ℕ)
texts_of texts = map (λ t. t.now) texts

abbrev pub sheet_keys : List (List ℕ)
sheet_keys = map (λ t. t.now) SHEET_KEYS

-- a name is one of these
abbrev pub is_among : List ℕ → List (List ℕ) → Bool
is_among name names = list_any (λ known. pointwise nat_eq known name) names
