use Rattle.std.proofs.Common.{rules, ◌≡◌, ℕ, List, [], ◌∷◌, ◌++◌, get_or, pos, ap, ◌∙◌, arith}
use Rattle.rx_fields.specs.Amount.{signed_text}
use Rattle.rx_d0_reply.specs.Text.{amount_field}
use Rattle.rx_d0_reply.proofs.DigitJoins.{pair_of, eight_of, spelt_by_bytes}
use Rattle.rx_d0_reply.proofs.writing.amounts.put_amount.Goals as goal

pub returns : goal.returns
returns c =
    let id = c.args.id in
    let pair = get_or id 0 0 ∷ get_or id 1 0 ∷ [] in
    let value = signed_text (pos c.args.cents) in
    let bytes : eight_of c.paid_text.result ≡ value = ap eight_of c.paid_text.ensures ∙ spelt_by_bytes (pos c.args.cents) in
    let text : 28 ∷ (pair ++ eight_of c.paid_text.result) ≡ amount_field id c.args.cents =
    ap (λ (l : List ℕ). 28 ∷ (pair ++ l)) bytes ∙ ap (λ (l : List ℕ). 28 ∷ (l ++ value)) (pair_of id (omega arith)) in
    rw (← text) (search rules)
