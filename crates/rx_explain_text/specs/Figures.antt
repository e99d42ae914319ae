-- Text: the figures of a claim that is paid, a line each, with where each comes from.
use Rattle.std.specs.Prelude.{ℕ, ◌+◌, ◌-◌, nat_le, nat_lt, if◌then◌else◌, List, [], ◌++◌, Option, Some, None}
use Rattle.std.specs.Prelude.{codes, length, replicate}
use Rattle.std.specs.Fmt.{decimal}
use Rattle.std.specs.Option.{unwrap_or}
use Rattle.rx_d0_values.specs.Priced.{patient_pay, total_paid}
use Rattle.rx_d0_values.specs.declared.bill.BillParts.{BillParts}
use Rattle.rx_d0_values.specs.declared.transaction.Transaction.{Transaction}
use Rattle.rx_d0_values.specs.declared.transaction.Transaction.TheVariants.{Bill}
use Rattle.rx_explain.specs.declared.workings.Workings.{Workings}
use Rattle.rx_explain.specs.declared.explanation.Explanation.{Explanation}
use Rattle.rx_explain.specs.declared.traced.Traced.{Traced}
use Rattle.rx_print.specs.Money.{money_text, price_text, right_in, thousandths_text}
use Rattle.rx_explain_text.specs.Codes.{in_quotes}
use Rattle.rx_explain_text.specs.Counted.{claims_text}
use Rattle.rx_explain_text.specs.Said.{said, say}
use Rattle.rx_explain_text.specs.declared.counted.Counts.{Counts}
use Rattle.rx_explain_text.specs.declared.counted.Counts.TheVariants.{MemberDeductible, FamilyDeductible, OutOfPocket}
use Rattle.rx_explain_text.specs.declared.counted.Listing.{Listing}
use Rattle.rx_explain_text.specs.declared.figures.TheConstants.{AMOUNT, LABEL}
use Rattle.rx_ledger.specs.declared.drug.Share.{Share}
use Rattle.rx_ledger.specs.declared.drug.Share.TheVariants.{Copay, Percent}
use Rattle.rx_ledger.specs.declared.figures.Figures.{Figures}

-- ---- a line

-- a label and an amount, each in its column
unfoldable pub labelled : List ℕ → ℕ → List ℕ
labelled label cents =
    say "  " ++ (said label ++ (replicate (LABEL - length label) 32 ++ right_in AMOUNT (money_text cents)))

-- whether a limit cut a figure
unfoldable pub cut_text : List ℕ → ℕ → ℕ → List ℕ
cut_text limit paid due =
    if nat_lt paid due then say ", cut to " ++ (money_text paid ++ (say ": " ++ said limit)) else []

-- what is due, where a limit cuts it
unfoldable pub due_text : List ℕ → ℕ → ℕ → List ℕ
due_text limit paid due =
    if nat_lt paid due then say "  " ++ (money_text due ++ cut_text limit paid due) else []

abbrev pub charge_cut : ℕ → ℕ → List ℕ
charge_cut paid due = cut_text (codes "the charge") paid due

-- ---- what is allowed

-- what was submitted stands where the plan's figure isn't above it
unfoldable pub submitted_text : ℕ → ℕ → List ℕ → List ℕ → List ℕ
submitted_text submitted plan lower higher = if nat_lt submitted plan then said lower else money_text submitted ++ said higher

-- the quantity at the plan's price
unfoldable pub priced_text : BillParts → Workings → List ℕ
priced_text b w =
    thousandths_text b.quantity ++ (say " x " ++ (price_text w.payment.drug.price ++ (say " = " ++ money_text w.cost)))

-- the ingredient cost: which of two is lower, and what the charge cuts off
unfoldable pub cost_line : BillParts → Workings → List ℕ
cost_line b w =
    labelled (codes "ingredient cost F6") w.payment.pricing.ingredient_cost ++ (say "  "
    ++ (submitted_text b.ingredient_cost w.cost (codes "as submitted; the plan's price is ")
    (codes " submitted, paid by the plan's price: ") ++ (priced_text b w
    ++ (charge_cut w.payment.pricing.ingredient_cost w.ingredient_cost ++ say "\n"))))

-- the dispensing fee: which of two is lower, and what the charge cuts off
unfoldable pub fee_line : Figures → BillParts → Workings → List ℕ
fee_line figures b w =
    labelled (codes "dispensing fee F7") w.payment.pricing.dispensing_fee ++ (say "  "
    ++ (submitted_text (unwrap_or b.dispensing_fee 0) figures.fee (codes "as submitted; the plan's fee is ")
    (codes " submitted, paid by the plan's fee of ") ++ (money_text figures.fee
    ++ (charge_cut w.payment.pricing.dispensing_fee w.dispensing_fee ++ say "\n"))))

-- the charge by its field
abbrev pub charge_text : Option ℕ → List ℕ
charge_text None = say "  the gross amount due DU, as no usual charge is given, is "
charge_text (Some cents) = say "  the usual charge DQ is "

-- what both come to, next to the charge
unfoldable pub allowed_line : BillParts → Workings → List ℕ
allowed_line b w =
    labelled (codes "allowed") (w.payment.pricing.ingredient_cost + w.payment.pricing.dispensing_fee)
    ++ (due_text (codes "the charge") (w.payment.pricing.ingredient_cost + w.payment.pricing.dispensing_fee)
    (w.ingredient_cost + w.dispensing_fee)
    ++ (charge_text b.usual_charge ++ (money_text w.cap ++ say "\n")))

-- ---- what is left of the plan's figures, with the claims that used them

unfoldable pub less_text : ℕ → ℕ → List ℕ
less_text figure used = say "  " ++ (money_text figure ++ (say " less " ++ (money_text used ++ say "\n")))

unfoldable pub left_lines : Listing → ℕ → ℕ → Counts → BillParts → List Traced → List ℕ
left_lines listing figure used counts b ts = less_text figure used ++ claims_text listing used counts b ts

unfoldable pub family_left_lines : Listing → ℕ → ℕ → ℕ → Counts → BillParts → List Traced → List ℕ
family_left_lines listing figure left used counts b ts =
    labelled (codes "family's deductible left") left ++ left_lines listing figure used counts b ts

-- the family's deductible, where the plan has one
abbrev pub family_lines : Listing → Option ℕ → Option ℕ → List Traced → BillParts → Workings → List ℕ
family_lines listing (Some figure) (Some left) ts b w =
    family_left_lines listing figure left w.payment.used.family_deductible FamilyDeductible b ts
family_lines listing (Some figure) None ts b w = []
family_lines listing None left ts b w = []

unfoldable pub accumulator_lines : Listing → Figures → List Traced → BillParts → Workings → List ℕ
accumulator_lines listing figures ts b w =
    labelled (codes "member's deductible left") w.deductible_left
    ++ (left_lines listing figures.member_deductible w.payment.used.deductible MemberDeductible b ts
    ++ (family_lines listing figures.family_deductible w.family_deductible_left ts b w
    ++ (labelled (codes "family's maximum left") w.room
    ++ left_lines listing figures.family_maximum w.payment.used.out_of_pocket OutOfPocket b ts)))

-- ---- who pays what

abbrev pub maximum_cut : ℕ → ℕ → List ℕ
maximum_cut paid due = cut_text (codes "the family's maximum") paid due

abbrev pub maximum_due : ℕ → ℕ → List ℕ
maximum_due paid due = due_text (codes "the family's maximum") paid due

-- what is allowed
abbrev pub allowed_of : Workings → ℕ
allowed_of w = w.payment.pricing.ingredient_cost + w.payment.pricing.dispensing_fee

-- what is left of it after the deductible
unfoldable pub rest_text : ℕ → ℕ → List ℕ
rest_text allowed under =
    money_text (allowed - under) ++ (say " (" ++ (money_text allowed ++ (say " less " ++ (money_text under ++ say ")"))))

unfoldable pub whole_copay_text : ℕ → List ℕ
whole_copay_text cents = say "  copay of " ++ money_text cents

unfoldable pub short_copay_text : ℕ → ℕ → ℕ → List ℕ
short_copay_text cents allowed under =
    whole_copay_text cents ++ (say "; only " ++ (rest_text allowed under ++ say " is left"))

-- the tier's copay, against what is left
abbrev pub copay_text : ℕ → ℕ → ℕ → List ℕ
copay_text cents allowed under =
    if nat_le allowed under then say "  nothing is left after the deductible"
    else (if nat_lt (allowed - under) cents then short_copay_text cents allowed under else whole_copay_text cents)

-- the tier's percentage of what is left
unfoldable pub product_text : ℕ → ℕ → ℕ → ℕ → List ℕ
product_text percent allowed under share =
    say "  " ++ (decimal percent ++ (say " percent of " ++ (rest_text allowed under ++ (say " = " ++ money_text share))))

abbrev pub percent_text : ℕ → Workings → List ℕ
percent_text percent w =
    if nat_le (allowed_of w) w.under then say "  nothing is left after the deductible"
    else product_text percent (allowed_of w) w.under w.share

-- the tier by its name in the plan sheet, where it has one
unfoldable pub named_tier : List ℕ → List ℕ
named_tier name = say ", tier " ++ in_quotes name

abbrev pub tier_words : Option (List ℕ) → List ℕ
tier_words None = []
tier_words (Some name) = named_tier name

-- the copay or the coinsurance, how it comes about, of which tier it is, and what the family's maximum cuts off
unfoldable pub copay_line : Option (List ℕ) → ℕ → Workings → List ℕ
copay_line tier cents w =
    labelled (codes "copay FI") w.payment.pricing.copay ++ (copay_text cents (allowed_of w) w.under
    ++ (tier_words tier ++ maximum_cut w.payment.pricing.copay w.share))

unfoldable pub coinsurance_line : Option (List ℕ) → ℕ → Workings → List ℕ
coinsurance_line tier percent w =
    labelled (codes "coinsurance 4U") w.payment.pricing.coinsurance ++ (percent_text percent w
    ++ (tier_words tier ++ maximum_cut w.payment.pricing.coinsurance w.share))

abbrev pub share_line : Option (List ℕ) → Share → Workings → List ℕ
share_line tier (Copay cents) w = copay_line tier cents w
share_line tier (Percent percent) w = coinsurance_line tier percent w

unfoldable pub pays_line : List ℕ → ℕ → List ℕ
pays_line label cents = labelled label cents ++ say "\n"

unfoldable pub payer_lines : Workings → List ℕ
payer_lines w =
    pays_line (codes "member pays F5") (patient_pay w.payment.pricing) ++ pays_line (codes "plan pays F9") (total_paid w.payment.pricing)

unfoldable pub payment_lines : Option (List ℕ) → Workings → List ℕ
payment_lines tier w =
    labelled (codes "deductible FH") w.payment.pricing.deductible
    ++ (maximum_due w.payment.pricing.deductible w.under ++ (say "\n" ++ (share_line tier w.payment.drug.share w
    ++ (say "\n" ++ payer_lines w))))

-- ---- all of them

unfoldable pub paid_lines : Listing → Option (List ℕ) → Figures → Explanation → BillParts → Workings → List ℕ
paid_lines listing tier figures e b w =
    cost_line b w ++ (fee_line figures b w ++ (allowed_line b w ++ (accumulator_lines listing figures e.counted.items b w
    ++ payment_lines tier w)))

-- the billing that is paid, and the steps to its amounts
abbrev pub paid_of : Transaction → Option Workings → Option (BillParts × Workings)
paid_of (Bill b) (Some w) = Some (b, w)
paid_of t w = None

-- what is said of a claim that is paid; nothing of another
abbrev pub if_paid : (BillParts → Workings → List ℕ) → Option (BillParts × Workings) → List ℕ
if_paid text None = []
if_paid text (Some p) = text p.0 p.1

abbrev pub figure_lines : Listing → Option (List ℕ) → Transaction → Figures → Explanation → List ℕ
figure_lines listing tier t figures e = if_paid (paid_lines listing tier figures e) (paid_of t e.workings)
