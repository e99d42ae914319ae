-- The first fault of a line's fields: the next field has it, or it is among those after it.
use Rattle.std.proofs.Common.{◌≡◌, ℕ, ◌+◌, ◌<◌, ◌≤◌, List, Option, Some, None, drop, get_or, length}
use Rattle.std.proofs.Common.{arith, sym, ap, ◌∙◌}
use Rattle.std.proofs.lemmas.List.{at_drop_more, drop_all}
use Rattle.rx_diagnostics.specs.BooksFields.{field_fault, first_fault, first_of}
use Rattle.rx_diagnostics.specs.Parts.{field_of}
use Rattle.rx_diagnostics.specs.declared.books_field.Field.{Field}

module _ (fields : List Field) (line : List ℕ) (i : ℕ) where
  pub none_left : length fields ≤ i → first_fault (i + 2) (drop i fields) line ≡ None
  none_left past = ap (λ fs. first_fault (i + 2) fs line) (drop_all i fields past)

  module _ (d : Field) (within : i < length fields) where
    -- what is said of the next field
    abbrev said : Option (List ℕ)
    said = field_fault (i + 2) (get_or fields i d) (field_of line (i + 2))

    next : first_fault (i + 2) (drop i fields) line ≡ first_of said (first_fault (i + 1 + 2) (drop (i + 1) fields) line)
    next = at_drop_more (λ fs. first_fault (i + 2) fs line) fields i d within
        ∙ ap (λ n. first_of said (first_fault n (drop (i + 1) fields) line)) (omega arith)

    pub here : (text : List ℕ) → Some text ≡ said → first_fault (i + 2) (drop i fields) line ≡ Some text
    here text is = next ∙ ap (λ o. first_of o (first_fault (i + 1 + 2) (drop (i + 1) fields) line)) (sym is)

    pub later : None ≡ said → first_fault (i + 2) (drop i fields) line ≡ first_fault (i + 1 + 2) (drop (i + 1) fields) line
    later is = next ∙ ap (λ o. first_of o (first_fault (i + 1 + 2) (drop (i + 1) fields) line)) (sym is)
