-- Ids are compared in code byte by byte, and in the rules by their order.
use Rattle.std.specs.Prelude.{nat_eq}
use Rattle.std.proofs.Common.{◌≡◌, ℕ, List, sym}
use Rattle.std.specs.Cmp.Lexicographic.{pointwise}
use Rattle.std.proofs.lemmas.Map.Text.{is_eq-slice_cmp}
use Rattle.rx_ledger.specs.Members.{is_same}

pub same_text : (a b : List ℕ) → pointwise nat_eq a b ≡ is_same a b
same_text a b = sym (is_eq-slice_cmp a b)
