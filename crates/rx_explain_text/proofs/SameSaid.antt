-- Explanations that say the same have one text.
use Rattle.std.proofs.Common.{◌≡◌, ℕ, List, ◌++◌, Option, Some, None, refl, ap, ◌∙◌}
use Rattle.rx_d0_values.specs.declared.bill.BillParts.{BillParts}
use Rattle.rx_d0_values.specs.declared.reply.Answer.{Answer}
use Rattle.rx_d0_values.specs.declared.reply.Answer.TheVariants as answer
use Rattle.rx_d0_values.specs.declared.transaction.Transaction.{Transaction}
use Rattle.rx_d0_values.specs.declared.transaction.Transaction.TheVariants.{Bill, Reverse, Faulty}
use Rattle.rx_explain.specs.Seen.{IsSameSaid}
use Rattle.rx_explain.specs.declared.explanation.Explanation.{Explanation}
use Rattle.rx_explain.specs.declared.traced.Source.{Source}
use Rattle.rx_explain.specs.declared.traced.Source.TheVariants.{Opening, Record, Elsewhere}
use Rattle.rx_explain.specs.declared.traced.Traced.{Traced}
use Rattle.rx_explain.specs.declared.workings.Workings.{Workings}
use Rattle.rx_explain_text.specs.Answered.{answered_line}
use Rattle.rx_explain_text.specs.Codes.{code_lines}
use Rattle.rx_explain_text.specs.Figures.{figure_lines, if_paid, paid_lines, paid_of}
use Rattle.rx_explain_text.specs.Json.{answer_json, case_json, figures_json, header_json, passed_json, payable_json, refused_json}
use Rattle.rx_explain_text.specs.Json.{explanation_object, soon_json, standing_json}
use Rattle.rx_explain_text.specs.Reasons.{bill_reason, coverage_text, earlier_text, elsewhere_fill, fill_by, other_text, product_text}
use Rattle.rx_explain_text.specs.Reasons.{reason_text, reversal_reason, same_text, soon_text, stands_text, taken_text}
use Rattle.rx_explain_text.specs.Rejections.{compared_line}
use Rattle.rx_explain_text.specs.Texts.{explanation_words}
use Rattle.rx_explain_text.specs.declared.compared.Compared.{Compared}
use Rattle.rx_explain_text.specs.declared.counted.Listing.{Listing}
use Rattle.rx_fields.specs.Numbered.{LotParts}
use Rattle.rx_ledger.specs.declared.decision.Decision.{Decision}
use Rattle.rx_ledger.specs.declared.decision.Decision.TheVariants as decision
use Rattle.rx_ledger.specs.declared.figures.Figures.{Figures}

module _ (u v : Explanation) (said : IsSameSaid u v) where
  answered : answered_line u ≡ answered_line v
  unfolding answered_line
  answered = simp (said.at_is, said.answer_is, said.provider_is, said.transaction_is, said.date_is, said.decision_is) refl

  -- ---- why, in words

  fills : (figures : Figures) (s : Source) (t : Traced) → fill_by s figures u t ≡ fill_by s figures v t
  unfolding earlier_text
  fills figures Opening t = simp (said.date_is, said.open_from_is) refl
  fills figures (Record at) t = simp (said.date_is, said.open_from_is) refl
  fills figures Elsewhere t = ap (elsewhere_fill t.row.key.date) said.open_from_is

  soon : (figures : Figures) (o : Option Traced) → soon_text figures u o ≡ soon_text figures v o
  soon figures None = refl
  soon figures (Some t) = fills figures t.source t

  bills : (d : Decision) (lot : LotParts) (figures : Figures) (b : BillParts)
      → bill_reason d lot figures u b ≡ bill_reason d lot figures v b
  unfolding stands_text same_text other_text
  bills (decision.SameStands r) lot figures b = simp (said.decision_is, said.standing_is) refl
  bills (decision.OtherStands r) lot figures b = simp (said.decision_is, said.standing_is) refl
  bills (decision.NotCovered m) lot figures b = ap (coverage_text figures.period m.coverage) said.date_is
  bills decision.TooSoon lot figures b = soon figures u.standing ∙ ap (soon_text figures v) said.standing_is
  bills other lot figures b = refl

  reverses : (d : Decision) (product : ℕ) → reversal_reason d u product ≡ reversal_reason d v product
  unfolding product_text taken_text
  reverses (decision.OtherProduct r) product = simp (said.decision_is, said.standing_is) refl
  reverses (decision.TakenBack r) product = simp (said.decision_is, said.standing_is) refl
  reverses other product = refl

  reasons : (t : Transaction) (lot : LotParts) (figures : Figures) (request : List ℕ)
      → reason_text t lot figures u request ≡ reason_text t lot figures v request
  reasons (Bill b) lot figures request =
      bills u.decision lot figures b ∙ ap (λ d. bill_reason d lot figures v b) said.decision_is
  reasons (Reverse r) lot figures request =
      reverses u.decision r.product ∙ ap (λ d. reversal_reason d v r.product) said.decision_is
  reasons (Faulty f) lot figures request = ap (λ at. code_lines figures.door request at.nth f.codes) said.at_is

  -- ---- the figures, in words

  pays : (listing : Listing) (tier : Option (List ℕ)) (figures : Figures) (o : Option (BillParts × Workings))
      → if_paid (paid_lines listing tier figures u) o ≡ if_paid (paid_lines listing tier figures v) o
  unfolding paid_lines
  pays listing tier figures None = refl
  pays listing tier figures (Some p) = rw said.counted_are refl

  figured : (listing : Listing) (tier : Option (List ℕ)) (figures : Figures)
      → figure_lines listing tier u.transaction figures u ≡ figure_lines listing tier v.transaction figures v
  figured listing tier figures =
      pays listing tier figures (paid_of u.transaction u.workings)
      ∙ ap (λ t. if_paid (paid_lines listing tier figures v) (paid_of t u.workings)) said.transaction_is
      ∙ ap (λ w. if_paid (paid_lines listing tier figures v) (paid_of v.transaction w)) said.workings_are

  pub same_words : (listing : Listing) (lot : LotParts) (figures : Figures) (request : List ℕ) (tier : Option (List ℕ))
      (c : Option Compared)
      → explanation_words listing lot figures u request tier c ≡ explanation_words listing lot figures v request tier c
  same_words listing lot figures request tier c =
      ap (λ a. a ++ (reason_text u.transaction lot figures u request
      ++ (figure_lines listing tier u.transaction figures u ++ compared_line u.at.place c))) answered
      ∙ ap (λ a. answered_line v ++ (a
      ++ (figure_lines listing tier u.transaction figures u ++ compared_line u.at.place c)))
      (reasons u.transaction lot figures request ∙ ap (λ t. reason_text t lot figures v request) said.transaction_is)
      ∙ ap (λ a. answered_line v ++ (reason_text v.transaction lot figures v request ++ (a ++ compared_line u.at.place c)))
      (figured listing tier figures)
      ∙ ap (λ at. answered_line v ++ (reason_text v.transaction lot figures v request
      ++ (figure_lines listing tier v.transaction figures v ++ compared_line at.place c))) said.at_is

  -- ---- as JSON

  answers : (a : Answer) (request : List ℕ) → answer_json a u request ≡ answer_json a v request
  unfolding refused_json
  answers (answer.Paid p) request = refl
  answers (answer.Twice p) request = refl
  answers (answer.Approved a) request = refl
  answers (answer.Refused r) request = simp (said.transaction_is, said.at_is) refl

  headed : (request : List ℕ) → header_json u request ≡ header_json v request
  unfolding header_json
  headed request =
      rw (answers u.answer request)
      (simp (said.at_is, said.provider_is, said.date_is, said.transaction_is, said.answer_is, said.decision_is) refl)

  passes : (figures : Figures) (o : Option Traced) → soon_json figures u o ≡ soon_json figures v o
  unfolding passed_json
  passes figures None = refl
  passes figures (Some t) = simp (said.date_is, said.open_from_is) refl

  decides : (d : Decision) (lot : LotParts) (figures : Figures) → case_json d lot figures u ≡ case_json d lot figures v
  decides decision.TooSoon lot figures = passes figures u.standing ∙ ap (soon_json figures v) said.standing_is
  decides other lot figures = refl

  paid_alike : (tier : Option (List ℕ)) (figures : Figures) (o : Option (BillParts × Workings))
      → if_paid (payable_json tier figures u) o ≡ if_paid (payable_json tier figures v) o
  unfolding payable_json
  paid_alike tier figures None = refl
  paid_alike tier figures (Some p) = rw said.counted_are refl

  pub same_object : (lot : LotParts) (figures : Figures) (request : List ℕ) (tier : Option (List ℕ)) (c : Option Compared)
      → explanation_object lot figures u request tier c ≡ explanation_object lot figures v request tier c
  same_object lot figures request tier c =
      let first : header_json u request ≡ header_json v request = headed request in
      let second : case_json u.decision lot figures u ≡ case_json v.decision lot figures v =
      decides u.decision lot figures ∙ ap (λ d. case_json d lot figures v) said.decision_is in
      let third : standing_json u.decision u.standing ≡ standing_json v.decision v.standing =
      ap (λ d. standing_json d u.standing) said.decision_is ∙ ap (standing_json v.decision) said.standing_is in
      let fourth : figures_json tier u.transaction figures u ≡ figures_json tier v.transaction figures v =
      paid_alike tier figures (paid_of u.transaction u.workings)
      ∙ ap (λ t. if_paid (payable_json tier figures v) (paid_of t u.workings)) said.transaction_is
      ∙ ap (λ w. if_paid (payable_json tier figures v) (paid_of v.transaction w)) said.workings_are in
      rw (first, second, third, fourth) refl
