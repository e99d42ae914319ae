-- Plumbing: reading a reply from left to right.
use Rattle.std.specs.Prelude.{ℕ, zero, suc, ◌-◌, Bool, true, false, ◌&&◌, ◌==◌, if◌then◌else◌, List, [], ◌∷◌}
use Rattle.std.specs.Prelude.{◌++◌, length, take, Option, Some, None, ℤ, pos, negsuc, unsigned_abs, codes}
use Rattle.rx_fields.specs.declared.limits.TheConstants.{MOST_AUTHORIZATION, MOST_CENTS, MOST_REFERENCE}
use Rattle.rx_fields.specs.declared.code.Code.{Code}
use Rattle.rx_fields.specs.Amount.{is_negative}
use Rattle.rx_fields.specs.Bounds.{bounded}
use Rattle.rx_fields.specs.Codes.{code_of}
use Rattle.rx_d0_values.specs.declared.pricing.Amounts.{Amounts}
use Rattle.rx_d0_values.specs.declared.reply.Answer.{Answer}
use Rattle.rx_d0_values.specs.declared.reply.Answer.TheVariants as answer
use Rattle.rx_d0_values.specs.declared.reply.Approved.{Approved}
use Rattle.rx_d0_values.specs.declared.reply.Outcome.{Outcome}
use Rattle.rx_d0_values.specs.declared.reply.Outcome.TheVariants as outcome
use Rattle.rx_d0_values.specs.declared.reply.Paid.{Paid}
use Rattle.rx_d0_values.specs.declared.reply.Refused.{Refused}
use Rattle.rx_d0_values.specs.declared.reply.Reply.{Reply}
use Rattle.rx_d0_values.specs.CodeList.{codes_of}
use Rattle.rx_d0_values.specs.Echoed.{echo_of}
use Rattle.rx_d0_values.specs.Listed.{is_few}
use Rattle.rx_d0_values.specs.Priced.{pricing_of, patient_pay, total_paid}
use Rattle.rx_d0_reply.specs.declared.reading.amounts.Price.{Price}
use Rattle.rx_d0_reply.specs.declared.reading.amounts.Share.{Share}
use Rattle.rx_d0_reply.specs.declared.reading.header.Front.{Front}
use Rattle.rx_d0_reply.specs.declared.reading.header.Back.{Back}
use Rattle.rx_d0_reply.specs.declared.reading.header.Header.{Header}
use Rattle.rx_d0_reply.specs.declared.reading.header.Status.{Status}
use Rattle.rx_d0_reply.specs.declared.reading.header.Status.TheVariants as status
use Rattle.rx_d0_reply.specs.Text.{field, segment}
use Rattle.rx_text.specs.Options.{◌>>=◌}
use Rattle.rx_d0_reply.specs.Readers.{after, labelled, pair, made, times, behind, bytes_at, number_at, signed_at}

-- ---- amounts

-- an amount that isn't below 0
abbrev pub paid_of : ℤ → Option ℕ
paid_of z = if is_negative z then None else bounded 0 MOST_CENTS (unsigned_abs z)

abbrev pub is_positive : ℤ → Bool
is_positive (pos zero) = false
is_positive (pos (suc n)) = true
is_positive (negsuc n) = false

-- an amount that isn't above 0, with the sign changed
abbrev pub reversed_of : ℤ → Option ℕ
reversed_of z = if is_positive z then None else bounded 0 MOST_CENTS (unsigned_abs z)

unfoldable pub paid_at : List ℕ → Option (ℕ × List ℕ)
paid_at bs = made paid_of signed_at bs

unfoldable pub reversed_at : List ℕ → Option (ℕ × List ℕ)
reversed_at bs = made reversed_of signed_at bs

-- an amount in its field
unfoldable pub amount_at : List ℕ → List ℕ → Option (ℕ × List ℕ)
amount_at label bs = labelled label paid_at bs

-- the coinsurance where its field follows: it isn't 0 there
abbrev pub not_zero : ℕ → Option ℕ
not_zero n = if n == 0 then None else Some n

abbrev pub coinsurance_behind : Option (List ℕ) → List ℕ → Option (ℕ × List ℕ)
coinsurance_behind None bs = Some (0, bs)
coinsurance_behind (Some rest) bs = made not_zero paid_at rest

unfoldable pub coinsurance_at : List ℕ → Option (ℕ × List ℕ)
coinsurance_at bs = coinsurance_behind (after (field (codes "4U") []) bs) bs

-- F5, F6, F7 and F9
unfoldable pub price_at : List ℕ → Option (Price × List ℕ)
price_at bs =
    made (λ x. Some (record { patient_pay = x.0.0.0; ingredient_cost = x.0.0.1; dispensing_fee = x.0.1; total_paid = x.1 }))
    (pair (pair (pair (amount_at (field (codes "F5") [])) (amount_at (field (codes "F6") [])))
    (amount_at (field (codes "F7") [])))
    (amount_at (field (codes "F9") []))) bs

-- FH, FI and 4U
unfoldable pub share_at : List ℕ → Option (Share × List ℕ)
share_at bs =
    made (λ x. Some (record { deductible = x.0.0; copay = x.0.1; coinsurance = x.1 }))
    (pair (pair (amount_at (field (codes "FH") [])) (amount_at (field (codes "FI") []))) coinsurance_at) bs

-- the amounts, where they are within the limits and F5 and F9 are their sums
abbrev pub summed : Price → Amounts → Option Amounts
summed p a = if (p.patient_pay == patient_pay a) && (p.total_paid == total_paid a) then Some a else None

abbrev pub amounts_of : Price × Share → Amounts
amounts_of x =
    record {
      ingredient_cost = x.0.ingredient_cost;
      dispensing_fee = x.0.dispensing_fee;
      deductible = x.1.deductible;
      copay = x.1.copay;
      coinsurance = x.1.coinsurance;
    }

abbrev pub priced : Price × Share → Option Amounts
priced x = pricing_of (amounts_of x) >>= summed x.0

unfoldable pub pricing_at : List ℕ → Option (Amounts × List ℕ)
pricing_at bs = made priced (pair price_at share_at) bs

-- ---- segments 21 and 22

unfoldable pub authorization_at : List ℕ → Option (ℕ × List ℕ)
authorization_at bs = labelled (field (codes "F3") []) (number_at 0 MOST_AUTHORIZATION 15) bs

abbrev pub reference_label : List ℕ
reference_label = segment (codes "22") (field (codes "EM") (codes "1") ++ field (codes "D2") [])

unfoldable pub reference_at : List ℕ → Option (ℕ × List ℕ)
reference_at bs = labelled reference_label (number_at 0 MOST_REFERENCE 12) bs

-- the reference where its segment follows
abbrev pub reference_behind : Option (List ℕ) → List ℕ → Option (Option ℕ × List ℕ)
reference_behind None bs = Some (None, bs)
reference_behind (Some rest) bs = made (λ r. Some (Some r)) (number_at 0 MOST_REFERENCE 12) rest

unfoldable pub known_at : List ℕ → Option (Option ℕ × List ℕ)
known_at bs = reference_behind (after reference_label bs) bs

-- two characters that are a code
unfoldable pub code_at : List ℕ → Option (Code × List ℕ)
code_at bs = labelled (field (codes "FB") []) (λ rest. made code_of (bytes_at 2) rest) bs

-- FA and that many codes, 1 to 5
unfoldable pub codes_at : List ℕ → Option (List Code × List ℕ)
codes_at bs = labelled (field (codes "FA") []) (number_at 1 5 2) bs >>= λ count. made codes_of
    (times code_at count.0) count.1

-- ---- answers

-- the authorization number and the reference, in front of segment 23
abbrev pub numbers_at : List ℕ → Option ((ℕ × ℕ) × List ℕ)
numbers_at bs =
    pair authorization_at reference_at bs >>= λ x. after (segment (codes "23") []) x.1 >>= λ rest. Some (x.0, rest)

unfoldable pub paid_claim_at : List ℕ → Option (Paid × List ℕ)
paid_claim_at bs =
    made (λ x. Some (record { number = x.0.0; reference = x.0.1; pricing = x.1 }))
    (pair (pair authorization_at reference_at) (labelled (segment (codes "23") []) pricing_at)) bs

unfoldable pub approved_at : List ℕ → Option (Approved × List ℕ)
approved_at bs =
    made (λ x. Some (record { number = x.0.0; reference = x.0.1; total_paid = x.1 }))
    (pair (pair authorization_at reference_at) (labelled (segment (codes "23") (field (codes "F9") [])) reversed_at)) bs

unfoldable pub refused_at : List ℕ → Option (Refused × List ℕ)
refused_at bs = made (λ x. Some (record { codes = x.0; reference = x.1 })) (pair codes_at known_at) bs

-- what stands after the status: P, D, A or R
abbrev pub behind_status : List ℕ → Option (Answer × List ℕ)
behind_status [] = None
behind_status (b ∷ bs) =
    if b == 80 then made (λ p. Some (answer.Paid p)) paid_claim_at bs
    else (if b == 68 then made (λ p. Some (answer.Twice p)) paid_claim_at bs
    else (if b == 65 then made (λ a. Some (answer.Approved a)) approved_at bs
    else (if b == 82 then made (λ r. Some (answer.Refused r)) refused_at bs else None)))

unfoldable pub answer_at : List ℕ → Option (Answer × List ℕ)
answer_at bs = after (segment (codes "21") (field (codes "AN") [])) bs >>= behind_status

unfoldable pub group_at : List ℕ → Option (Answer × List ℕ)
group_at bs = labelled (29 ∷ []) answer_at bs

-- ---- the header

unfoldable pub status_at : List ℕ → Option (Status × List ℕ)
status_at [] = None
status_at (b ∷ bs) = if b == 65 then Some (status.Heard, bs) else (if b == 82 then Some (status.Rejected, bs) else None)

unfoldable pub front_at : List ℕ → Option (Front × List ℕ)
front_at bs =
    made (λ x. Some (record { version = x.0.0.0; code = x.0.0.1; count = x.0.1; status = x.1 }))
    (pair (pair (pair (bytes_at 2) (bytes_at 2)) (number_at 1 4 1)) status_at) bs

unfoldable pub back_at : List ℕ → Option (Back × List ℕ)
back_at bs =
    made (λ x. Some (record { qualifier = x.0.0; provider = x.0.1; date = x.1 }))
    (pair (pair (bytes_at 2) (bytes_at 15)) (bytes_at 8)) bs

abbrev pub header_of : Front × Back → Option Header
header_of x =
    echo_of (record { version = x.0.version; code = x.0.code; qualifier = x.1.qualifier; provider = x.1.provider; date = x.1.date })
    >>= λ echo. Some (record { echo = echo; count = x.0.count; status = x.0.status })

unfoldable pub header_at : List ℕ → Option (Header × List ℕ)
header_at bs = made header_of (pair front_at back_at) bs

-- ---- the reply

-- the value, where no byte follows
abbrev pub alone : {A : Type 0} → A × List ℕ → Option A
alone x = if length x.1 == 0 then Some x.0 else None

abbrev pub heard_of : List Answer → Option Outcome
heard_of answers = if is_few (length answers) then Some (outcome.Heard answers) else None

unfoldable pub heard_in : ℕ → List ℕ → Option Outcome
heard_in count bs = times group_at count bs >>= alone >>= heard_of

abbrev pub refusal_label : List ℕ
refusal_label = 29 ∷ segment (codes "21") (field (codes "AN") (codes "R"))

-- the codes of a group that has no reference
unfoldable pub refusal_at : List ℕ → Option (List Code × List ℕ)
refusal_at bs = labelled refusal_label codes_at bs

abbrev pub is_nothing : Option (List ℕ) → Bool
is_nothing None = false
is_nothing (Some rest) = length rest == 0

-- the bytes are that many copies of a text
unfoldable pub are_copies : ℕ → List ℕ → List ℕ → Bool
are_copies count text bs = is_nothing (behind count text bs)

-- the codes of the first group, of which all others are copies
unfoldable pub rejected_in : ℕ → List ℕ → Option Outcome
rejected_in count bs =
    refusal_at bs >>= λ x. if are_copies (count - 1) (take (length bs - length x.1) bs) x.1
    then Some (outcome.Rejected (record { codes = x.0; groups = count })) else None

abbrev pub outcome_in : Status → ℕ → List ℕ → Option Outcome
outcome_in status.Heard count bs = heard_in count bs
outcome_in status.Rejected count bs = rejected_in count bs

unfoldable pub reply_in : List ℕ → Option Reply
reply_in bs = header_at bs >>= λ h. outcome_in h.0.status h.0.count h.1 >>= λ o. Some
    (record { echo = h.0.echo; outcome = o })
