-- Text: an explanation in words: the answer and the pharmacy, why, and where the figures of a claim that is paid come from.
use Rattle.std.specs.Prelude.{ℕ, List, ◌++◌, Option}
use Rattle.rx_explain.specs.declared.explanation.Explanation.{Explanation}
use Rattle.rx_explain_text.specs.Answered.{answered_line}
use Rattle.rx_explain_text.specs.Figures.{figure_lines}
use Rattle.rx_explain_text.specs.Reasons.{reason_text}
use Rattle.rx_explain_text.specs.Rejections.{compared_line}
use Rattle.rx_explain_text.specs.declared.compared.Compared.{Compared}
use Rattle.rx_explain_text.specs.declared.counted.Listing.{Listing}
use Rattle.rx_fields.specs.Numbered.{LotParts}
use Rattle.rx_ledger.specs.declared.figures.Figures.{Figures}

-- of the bytes of its record and the name of its product's tier; the last line says what a response file has at the place of
-- the record, where one was looked at
abbrev pub explanation_words : Listing → LotParts → Figures → Explanation → List ℕ → Option (List ℕ) → Option Compared
    → List ℕ
explanation_words listing lot figures e request tier c =
    answered_line e ++ (reason_text e.transaction lot figures e request
    ++ (figure_lines listing tier e.transaction figures e ++ compared_line e.at.place c))
