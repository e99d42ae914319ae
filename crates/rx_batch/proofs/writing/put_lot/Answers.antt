use Rattle.std.proofs.Common.{◌≡◌, ℕ, List, ◌∷◌, ◌++◌, ◌∙◌, ap, append_assoc}
use Rattle.std.specs.Prelude.{codes}
use Rattle.rx_fields.specs.Calendar.{date_text}
use Rattle.rx_fields.specs.Digits.{digits_text}
use Rattle.rx_batch.proofs.Spellings.{lot_spelled}
use Rattle.rx_batch.proofs.writing.put_lot.Goals as goal

pub returns-clause-again : goal.returns-clause-again
returns-clause-again c =
    lot_spelled c.args.head.now c.number.result c.from.result c.created.result c.digits_write-number.result
    c.date_write.result c.digits.result c.number.ensures.value c.number.ensures.within c.from.ensures
    c.digits_write-number.ensures.text c.digits_write-number.ensures.again c.created.ensures
    c.date_write.ensures.text c.date_write.ensures.again c.digits.ensures.text c.digits.ensures.again

-- four texts one after another
four_more : (before one two three text a b c d : List ℕ) → one ≡ before ++ a → two ≡ one ++ b → three ≡ two ++ c → text ≡ three ++ d
    → text ≡ before ++ (a ++ (b ++ (c ++ d)))
four_more before one two three text a b c d p q r s =
    let grouped = s ∙ ap (λ (t : List ℕ). t ++ d) (r ∙ ap (λ (t : List ℕ). t ++ c) (q ∙ ap (λ (t : List ℕ). t ++ b) p)) in
    grouped ∙ simp append_assoc

pub returns-clause-text : goal.returns-clause-text
returns-clause-text c =
    let before = c.args.text.now.items in
    let one = c.put.new.text.items in
    let two = c.put-2.new.text.items in
    let three = c.put-3.new.text.items in
    let number = c.digits_write-number.ensures.text ∙ ap (digits_text 7) (c.from.ensures ∙ c.number.ensures.value) in
    let created = c.date_write.ensures.text ∙ ap date_text c.created.ensures in
    four_more before one two three c.put-4.new.text.items _ _ _ _ (c.put.ensures.items ∙ ap (λ (t : List ℕ). before ++ t) number)
    (c.put-2.ensures.items ∙ ap (λ (t : List ℕ). one ++ t) created)
    (c.put-3.ensures.items ∙ ap (λ (t : List ℕ). two ++ t) c.digits.ensures.text)
    (c.put-4.ensures.items ∙ ap (λ b. three ++ b ∷ codes "12") c.byte.ensures.value)
