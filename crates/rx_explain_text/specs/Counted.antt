-- Text: the claims of a sum, each with what it counts.
use Rattle.std.specs.Prelude.{ℕ, ◌+◌, ◌-◌, ◌==◌, nat_lt, not, Bool, if◌then◌else◌, List, [], ◌∷◌, ◌++◌, count_by, replicate, take}
use Rattle.std.specs.List.{flat_map, fold}
use Rattle.rx_d0_values.specs.Priced.{patient_pay}
use Rattle.rx_d0_values.specs.declared.bill.BillParts.{BillParts}
use Rattle.rx_explain.specs.declared.traced.Traced.{Traced}
use Rattle.rx_explain_text.specs.Claims.{traced_text}
use Rattle.rx_explain_text.specs.Said.{say}
use Rattle.rx_explain_text.specs.declared.counted.Counted.{Counted}
use Rattle.rx_explain_text.specs.declared.counted.Counts.{Counts}
use Rattle.rx_explain_text.specs.declared.counted.Counts.TheVariants.{MemberDeductible, FamilyDeductible, OutOfPocket}
use Rattle.rx_explain_text.specs.declared.counted.Listing.{Listing}
use Rattle.rx_explain_text.specs.declared.counted.Listing.TheVariants as listing
use Rattle.rx_explain_text.specs.declared.counted.TheConstants.{MOST_LISTED}
use Rattle.rx_explain_text.specs.declared.figures.TheConstants.{AMOUNT, LABEL}
use Rattle.rx_ledger.specs.Members.{is_same}
use Rattle.rx_print.specs.Decimal.{grouped}
use Rattle.rx_print.specs.Money.{money_text, right_in}

-- a claim with what it counts, in cents; nothing where it counts nothing
unfoldable pub counted_line : ℕ → Traced → List ℕ
counted_line cents t =
    if cents == 0 then [] else replicate (4 + LABEL + AMOUNT) 32
    ++ (right_in AMOUNT (money_text cents) ++ (say "  " ++ (traced_text t ++ say "\n")))

-- what a claim counts: of a member's deductible where it is the member's
abbrev pub counted_of : Counts → BillParts → Traced → ℕ
counted_of MemberDeductible b t = if is_same t.row.person b.person then t.row.pricing.deductible else 0
counted_of FamilyDeductible b t = t.row.pricing.deductible
counted_of OutOfPocket b t = patient_pay t.row.pricing

-- ---- all of them

abbrev pub counted_lines : Counts → BillParts → List Traced → List ℕ
counted_lines counts b ts = flat_map (λ t. counted_line (counted_of counts b t) t) ts

-- ---- the largest

abbrev pub counts_some : Counts → BillParts → Traced → Bool
counts_some counts b t = nat_lt 0 (counted_of counts b t)

abbrev pub counts_as_much : ℕ → Counted → Bool
counts_as_much cents x = not (nat_lt x.cents cents)

-- a claim after those that count as much or more, in a list with the largest first
abbrev pub put_in : List Counted → Counted → List Counted
put_in [] x = x ∷ []
put_in (y ∷ ys) x = if counts_as_much x.cents y then y ∷ put_in ys x else x ∷ y ∷ ys

abbrev pub with_claim : Counts → BillParts → List Counted → Traced → List Counted
with_claim counts b xs t =
    if counts_some counts b t then put_in xs (record { cents = counted_of counts b t; traced = t }) else xs

-- those that count something, the largest first, and those that count as much in their order
abbrev pub by_size : Counts → BillParts → List Traced → List Counted
by_size counts b ts = fold (with_claim counts b) [] ts

abbrev pub entry_line : Counted → List ℕ
entry_line x = counted_line x.cents x.traced

-- an amount without what a claim counts
abbrev pub less : ℕ → Counted → ℕ
less cents x = cents - x.cents

unfoldable pub more_line : ℕ → ℕ → List ℕ
more_line more cents =
    replicate (6 + LABEL + AMOUNT + AMOUNT) 32 ++ (say "and " ++ (grouped more ++ (say " more, " ++ (money_text cents
    ++ say "\n"))))

abbrev pub more_text : ℕ → ℕ → List ℕ
more_text more cents = if more == 0 then [] else more_line more cents

-- the first of them, then how many more count something, and the rest of what is used
unfoldable pub largest_text : ℕ → Counts → BillParts → List Traced → List ℕ
largest_text used counts b ts =
    flat_map entry_line (take MOST_LISTED (by_size counts b ts))
    ++ more_text (count_by (counts_some counts b) ts - MOST_LISTED) (fold less used (take MOST_LISTED (by_size counts b ts)))

-- ---- each

abbrev pub claims_text : Listing → ℕ → Counts → BillParts → List Traced → List ℕ
claims_text listing.Largest used counts b ts = largest_text used counts b ts
claims_text listing.All used counts b ts = counted_lines counts b ts
