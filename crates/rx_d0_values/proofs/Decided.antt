-- A derived `==` answers true exactly where the two values are one.
use Rattle.std.proofs.Common.{◌≡◌, ℕ, Bool, ◌==◌, List, ◌++◌, ◌-◌, length, take, replicate, Option, Some, None, Decides, refl, ap, sym, ◌∙◌}
use Rattle.std.specs.Option.{option_eq}
use Rattle.std.specs.Cmp.Lexicographic.{pointwise, pointwise_decides, bytes_decides}
use Rattle.std.proofs.lemmas.Bool.Decides.{Decides-eqb, Decides-and, Decides-like}
use Rattle.std.proofs.lemmas.List.{take_at}
use Rattle.std.proofs.Math.Seq.{take-append_seam}
use denote.Enum.Bare.{same_true, true_same}
use Rattle.rx_fields.specs.declared.code.Code.{Code}
use Rattle.rx_fields.specs.declared.code.Code.TheVariants.{Bin}
use Rattle.rx_fields.specs.contracts.code.Code.{the_type as code_type}
use Rattle.rx_fields.specs.contracts.code.CodePartialEq.TheImpl.{ghosts as code}
use Rattle.rx_d0_values.specs.declared.pricing.Amounts.{Amounts}
use Rattle.rx_d0_values.specs.declared.bill.BillParts.{BillParts}
use Rattle.rx_d0_values.specs.declared.transaction.Reversal.{Reversal}
use Rattle.rx_d0_values.specs.declared.transaction.Faulty.{Faulty}
use Rattle.rx_d0_values.specs.declared.transaction.Transaction.{Transaction}
use Rattle.rx_d0_values.specs.declared.transaction.Transaction.TheVariants as transaction
use Rattle.rx_d0_values.specs.declared.reply.Paid.{Paid}
use Rattle.rx_d0_values.specs.declared.reply.Approved.{Approved}
use Rattle.rx_d0_values.specs.declared.reply.Refused.{Refused}
use Rattle.rx_d0_values.specs.declared.reply.Answer.{Answer}
use Rattle.rx_d0_values.specs.declared.reply.Answer.TheVariants as answer
use Rattle.rx_d0_values.specs.declared.transmission.Rejected.{Rejected}
use Rattle.rx_d0_values.specs.contracts.codes.CodesPartialEq.TheImpl.{ghosts as codes}
use Rattle.rx_d0_values.specs.contracts.pricing.PricingPartialEq.TheImpl.{ghosts as pricing}
use Rattle.rx_d0_values.specs.contracts.bill.BillPartialEq.TheImpl.{ghosts as bill}
use Rattle.rx_d0_values.specs.contracts.transaction.ReversalPartialEq.TheImpl.{ghosts as reversal}
use Rattle.rx_d0_values.specs.contracts.transaction.FaultyPartialEq.TheImpl.{ghosts as faulty}
use Rattle.rx_d0_values.specs.contracts.transaction.TransactionPartialEq.TheImpl.{ghosts as transaction_eq}
use Rattle.rx_d0_values.specs.contracts.reply.PaidPartialEq.TheImpl.{ghosts as paid}
use Rattle.rx_d0_values.specs.contracts.reply.ApprovedPartialEq.TheImpl.{ghosts as approved}
use Rattle.rx_d0_values.specs.contracts.reply.RefusedPartialEq.TheImpl.{ghosts as refused}
use Rattle.rx_d0_values.specs.contracts.reply.AnswerPartialEq.TheImpl.{ghosts as answer_eq}
use Rattle.rx_d0_values.specs.contracts.transmission.RejectedPartialEq.TheImpl.{ghosts as rejected}

-- of options, where it decides of what they hold
pub option_decides : {K : Type 0} {E : K → K → Bool} → ((x y : K) → Decides (E x y) (x ≡ y)) → (o p : Option K)
    → Decides (option_eq E o p) (o ≡ p)
option_decides decides None None = (λ e. refl, λ e. refl)
option_decides decides None (Some y) = (λ e. cc, λ e. cc)
option_decides decides (Some x) None = (λ e. cc, λ e. cc)
option_decides {K} {E} decides (Some x) (Some y) = Decides-like (E x y) (ap Some) (λ e. cc) (decides x y)

amount_decides : (o p : Option ℕ) → Decides (option_eq ◌==◌ o p) (o ≡ p)
amount_decides = option_decides Decides-eqb

pub code_decides : (a b : Code) → Decides (code.eq a b) (a ≡ b)
code_decides a b = (λ h. same_true code_type tt a b h, true_same code_type a b)

-- as many codes, each filled up to the same places: the codes are the same
unfilled : (a b : List Code) (m n : ℕ) → length a ≡ length b → a ++ replicate m Bin ≡ b ++ replicate n Bin → a ≡ b
unfilled a b m n long same =
    sym (take-append_seam a (replicate m Bin)) ∙ ap (take (length a)) same ∙ take_at b (replicate n Bin) (length a) (sym long)

pub codes_decides : (a b : List Code) → Decides (codes.eq a b) (a ≡ b)
codes_decides a b =
    Decides-like
    (codes.eq a b)
    (λ h. unfilled a b (5 - length a) (5 - length b) h.1 h.0)
    (λ e. (cc, cc))
    (Decides-and _ _ (pointwise_decides code_decides _ _) (Decides-eqb (length a) (length b)))

pub pricing_decides : (a b : Amounts) → Decides (pricing.eq a b) (a ≡ b)
pricing_decides a b =
    Decides-like
    (pricing.eq a b)
    (λ (ingredient_cost, (dispensing_fee, (deductible, (copay, coinsurance)))) i. record {
      ingredient_cost = ingredient_cost i;
      dispensing_fee = dispensing_fee i;
      deductible = deductible i;
      copay = copay i;
      coinsurance = coinsurance i;
    })
    (λ e. (cc, (cc, (cc, (cc, cc)))))
    (Decides-and _ _ (Decides-eqb a.ingredient_cost b.ingredient_cost)
    (Decides-and _ _ (Decides-eqb a.dispensing_fee b.dispensing_fee)
    (Decides-and _ _ (Decides-eqb a.deductible b.deductible)
    (Decides-and _ _ (Decides-eqb a.copay b.copay) (Decides-eqb a.coinsurance b.coinsurance)))))

pub bill_decides : (a b : BillParts) → Decides (bill.eq a b) (a ≡ b)
bill_decides a b =
    Decides-like
    (bill.eq a b)
    (λ (
      reference,
      (
        family,
        (
          person,
          (
            product,
            (
              quantity,
              (
                days,
                (
                  ingredient_cost,
                  (dispensing_fee, (usual_charge, gross_amount)),
                ),
              ),
            ),
          ),
        ),
      ),
    ) i. record {
      reference = reference i;
      family = family i;
      person = person i;
      product = product i;
      quantity = quantity i;
      days = days i;
      ingredient_cost = ingredient_cost i;
      dispensing_fee = dispensing_fee i;
      usual_charge = usual_charge i;
      gross_amount = gross_amount i;
    })
    (λ e. (cc, (cc, (cc, (cc, (cc, (cc, (cc, (cc, (cc, cc))))))))))
    (Decides-and _ _ (Decides-eqb a.reference b.reference)
    (Decides-and _ _ (bytes_decides a.family b.family)
    (Decides-and _ _ (bytes_decides a.person b.person)
    (Decides-and _ _ (Decides-eqb a.product b.product)
    (Decides-and _ _ (Decides-eqb a.quantity b.quantity)
    (Decides-and _ _ (Decides-eqb a.days b.days)
    (Decides-and _ _ (Decides-eqb a.ingredient_cost b.ingredient_cost)
    (Decides-and _ _ (amount_decides a.dispensing_fee b.dispensing_fee)
    (Decides-and _ _ (amount_decides a.usual_charge b.usual_charge) (amount_decides a.gross_amount b.gross_amount))))))))))

pub reversal_decides : (a b : Reversal) → Decides (reversal.eq a b) (a ≡ b)
reversal_decides a b =
    Decides-like
    (reversal.eq a b)
    (λ h i. record { reference = h.0 i; product = h.1 i })
    (λ e. (cc, cc))
    (Decides-and _ _ (Decides-eqb a.reference b.reference) (Decides-eqb a.product b.product))

pub faulty_decides : (a b : Faulty) → Decides (faulty.eq a b) (a ≡ b)
faulty_decides a b =
    Decides-like
    (faulty.eq a b)
    (λ h i. record { codes = h.0 i; reference = h.1 i })
    (λ e. (cc, cc))
    (Decides-and _ _ (codes_decides a.codes b.codes) (amount_decides a.reference b.reference))

pub transaction_decides : (a b : Transaction) → Decides (transaction_eq.eq a b) (a ≡ b)
transaction_decides (transaction.Bill a) (transaction.Bill b) =
    Decides-like (bill.eq a b) (ap transaction.Bill) (λ e. cc) (bill_decides a b)
transaction_decides (transaction.Reverse a) (transaction.Reverse b) =
    Decides-like (reversal.eq a b) (ap transaction.Reverse) (λ e. cc) (reversal_decides a b)
transaction_decides (transaction.Faulty a) (transaction.Faulty b) =
    Decides-like (faulty.eq a b) (ap transaction.Faulty) (λ e. cc) (faulty_decides a b)
transaction_decides _ _ = (λ e. cc, λ e. cc)

pub transactions_decides : (a b : List Transaction) → Decides (pointwise transaction_eq.eq a b) (a ≡ b)
transactions_decides = pointwise_decides transaction_decides

pub paid_decides : (a b : Paid) → Decides (paid.eq a b) (a ≡ b)
paid_decides a b =
    Decides-like
    (paid.eq a b)
    (λ h i. record { number = h.0 i; reference = h.1.0 i; pricing = h.1.1 i })
    (λ e. (cc, (cc, cc)))
    (Decides-and _ _ (Decides-eqb a.number b.number)
    (Decides-and _ _ (Decides-eqb a.reference b.reference) (pricing_decides a.pricing b.pricing)))

pub approved_decides : (a b : Approved) → Decides (approved.eq a b) (a ≡ b)
approved_decides a b =
    Decides-like
    (approved.eq a b)
    (λ h i. record { number = h.0 i; reference = h.1.0 i; total_paid = h.1.1 i })
    (λ e. (cc, (cc, cc)))
    (Decides-and _ _ (Decides-eqb a.number b.number)
    (Decides-and _ _ (Decides-eqb a.reference b.reference) (Decides-eqb a.total_paid b.total_paid)))

pub refused_decides : (a b : Refused) → Decides (refused.eq a b) (a ≡ b)
refused_decides a b =
    Decides-like
    (refused.eq a b)
    (λ h i. record { codes = h.0 i; reference = h.1 i })
    (λ e. (cc, cc))
    (Decides-and _ _ (codes_decides a.codes b.codes) (amount_decides a.reference b.reference))

pub answer_decides : (a b : Answer) → Decides (answer_eq.eq a b) (a ≡ b)
answer_decides (answer.Paid a) (answer.Paid b) =
    Decides-like (paid.eq a b) (ap answer.Paid) (λ e. cc) (paid_decides a b)
answer_decides (answer.Twice a) (answer.Twice b) =
    Decides-like (paid.eq a b) (ap answer.Twice) (λ e. cc) (paid_decides a b)
answer_decides (answer.Approved a) (answer.Approved b) =
    Decides-like (approved.eq a b) (ap answer.Approved) (λ e. cc) (approved_decides a b)
answer_decides (answer.Refused a) (answer.Refused b) =
    Decides-like (refused.eq a b) (ap answer.Refused) (λ e. cc) (refused_decides a b)
answer_decides _ _ = (λ e. cc, λ e. cc)

pub answers_decides : (a b : List Answer) → Decides (pointwise answer_eq.eq a b) (a ≡ b)
answers_decides = pointwise_decides answer_decides

pub rejected_decides : (a b : Rejected) → Decides (rejected.eq a b) (a ≡ b)
rejected_decides a b =
    Decides-like
    (rejected.eq a b)
    (λ h i. record { codes = h.0 i; groups = h.1 i })
    (λ e. (cc, cc))
    (Decides-and _ _ (codes_decides a.codes b.codes) (Decides-eqb a.groups b.groups))
