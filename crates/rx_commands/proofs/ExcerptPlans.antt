-- A record is answered under the plan of its excerpt as under the whole.
use Rattle.std.proofs.Common.{◌≡◌, ℕ, List, [], ◌∷◌, true, refl, ap, nat_eq}
use Rattle.std.specs.List.{list_any}
use Rattle.std.specs.Option.{option_map}
use Rattle.std.specs.Ordering.{nat_cmp}
use Rattle.std.proofs.lemmas.Bool.{eq-eqb, or_left, or_right}
use Rattle.rx_fields.specs.Numbered.{LotParts}
use Rattle.rx_d0_values.specs.declared.transaction.Transaction.{Transaction}
use Rattle.rx_d0_values.specs.declared.transaction.Transaction.TheVariants.{Bill, Reverse, Faulty}
use Rattle.rx_d0_values.specs.declared.transmission.Body.{Body}
use Rattle.rx_d0_values.specs.declared.transmission.Transmission.{Transmission}
use Rattle.rx_sorted.specs.Ascending.{has_key}
use Rattle.rx_sorted.proofs.Filters.{find_filter}
use Rattle.rx_sorted.proofs.KeyOrders.{number_exact}
use Rattle.rx_sorted.proofs.Keys.{Equal-from_is_eq}
use Rattle.rx_ledger.specs.declared.figures.Figures.{Figures}
use Rattle.rx_ledger.specs.declared.sheet.Listed.{Listed}
use Rattle.rx_ledger.specs.Fold.{reply_to}
use Rattle.rx_ledger.specs.Ledger.{Ledger}
use Rattle.rx_ledger.specs.Places.{transactions_of}
use Rattle.rx_ledger.specs.Plan.{Plan, drug_of, listed_product}
use Rattle.rx_ledger.proofs.Alike.{SayAlike, outcome_alike}
use Rattle.rx_commands.specs.ExcerptParts.{bills, excerpt_plan, is_billed}

module _ (body : Body) (plan : Plan) where
  drug_same : (product : ℕ) → is_billed body product ≡ true → drug_of (excerpt_plan body plan) product ≡ drug_of plan product
  drug_same product billed = ap (option_map (λ (l : Listed). l.drug))
      (find_filter (has_key nat_cmp listed_product product) (λ l. is_billed body l.product) plan.drugs
      (λ l tied. rw (number_exact l.product product (Equal-from_is_eq _ tied)) billed))

  say_alike : (ts : List Transaction)
      → ((product : ℕ) → list_any (bills product) ts ≡ true → is_billed body product ≡ true)
      → SayAlike (excerpt_plan body plan) plan ts
  say_alike [] all = tt
  say_alike (Bill b ∷ ts) all = (
    drug_same b.product (all b.product (or_left (nat_eq b.product b.product) (list_any (bills b.product) ts) (eq-eqb b.product b.product refl))),
    say_alike ts (λ product h. all product (or_right (bills product (Bill b)) (list_any (bills product) ts) h)),
  )
  say_alike (Reverse v ∷ ts) all = (tt, say_alike ts all)
  say_alike (Faulty f ∷ ts) all = (tt, say_alike ts all)

-- the reply under the excerpt's plan is that under the whole
pub reply_under_excerpt : (lot : LotParts) (plan : Plan) (place : ℕ) (t : Transmission) (L : Ledger)
    → reply_to lot (excerpt_plan t.body plan) place t L ≡ reply_to lot plan place t L
reply_under_excerpt lot plan place t L =
    let same = outcome_alike plan.figures (excerpt_plan t.body plan).drugs plan.drugs lot place L t.body
    (say_alike t.body plan (transactions_of t.body) (λ product h. h)) in
    λ i. record { echo = t.echo; outcome = same i }

-- a plan of these figures and these drugs
pub plan_of : (plan : Plan) (figures : Figures) (drugs : List Listed) → plan.figures ≡ figures → plan.drugs ≡ drugs
    → plan ≡ record { figures = figures; drugs = drugs }
plan_of plan figures drugs one other = λ i. record { figures = one i; drugs = other i }
