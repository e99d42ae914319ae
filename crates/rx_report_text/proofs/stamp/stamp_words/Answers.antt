use Rattle.std.proofs.Common.{◌≡◌, ℕ, List, [], ◌∷◌, ◌++◌, length, get_or, refl, sym, ap, ◌∙◌, rules}
use Rattle.std.proofs.lemmas.Slice.Eq.{text_from_reads}
use Rattle.rx_print.specs.Dates.{dashed, dashed_digits}
use Rattle.rx_report_text.proofs.stamp.stamp_words.Goals as goal

ten_items : (xs : List ℕ) → length xs ≡ 10
    → xs ≡ get_or xs 0 0 ∷ get_or xs 1 0 ∷ get_or xs 2 0 ∷ get_or xs 3 0 ∷ get_or xs 4 0 ∷ get_or xs 5 0 ∷ get_or xs 6 0
    ∷ get_or xs 7 0 ∷ get_or xs 8 0 ∷ get_or xs 9 0 ∷ []
ten_items xs h = text_from_reads xs _ h (refl, (refl, (refl, (refl, (refl, (refl, (refl, (refl, (refl, (refl, tt))))))))))

five_items : (xs : List ℕ) → length xs ≡ 5
    → xs ≡ get_or xs 0 0 ∷ get_or xs 1 0 ∷ get_or xs 2 0 ∷ get_or xs 3 0 ∷ get_or xs 4 0 ∷ []
five_items xs h = text_from_reads xs _ h (refl, (refl, (refl, (refl, (refl, tt)))))

joined : (a b x y : List ℕ) → a ≡ x → b ≡ y → a ++ (32 ∷ b) ≡ x ++ (32 ∷ y)
joined a b x y day clock = ap (λ s. s ++ (32 ∷ b)) day ∙ ap (λ s. x ++ (32 ∷ s)) clock

pub returns : goal.returns
returns c =
    joined _ _ (dashed c.args.stamp.date) _
    (sym (ten_items c.dashed_digits.result (search rules)) ∙ (c.dashed_digits.ensures ∙ ap dashed_digits c.date_write.ensures.text))
    (sym (five_items c.clock_words.result (search rules)) ∙ c.clock_words.ensures)
