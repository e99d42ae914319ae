-- The places of a record's terms say of each product that the record bills what the whole plan says.
use Rattle.std.proofs.Common.{◌≡◌, ℕ, ◌≤◌, List, [], ◌∷◌, length, true, Option, Some, None, refl, sym, ap, ◌∙◌, inl, inr, arith}
use Rattle.std.specs.Prelude.{◌⊎◌, IfSome, slice_get, option_and_then}
use Rattle.std.specs.Ordering.{nat_cmp}
use Rattle.std.proofs.lemmas.Bool.{cases_Bool}
use Rattle.rx_fields.specs.Numbered.{LotParts}
use Rattle.rx_sorted.specs.Ascending.{has_key}
use Rattle.rx_sorted.proofs.Keys.{Equal-from_is_eq, has_key-itself}
use Rattle.rx_sorted.proofs.KeyOrders.{number_total, number_exact}
use Rattle.rx_d0_values.specs.declared.transaction.Transaction.{Transaction}
use Rattle.rx_d0_values.specs.declared.transaction.Transaction.TheVariants.{Bill, Reverse, Faulty}
use Rattle.rx_d0_values.specs.declared.transmission.Transmission.{Transmission}
use Rattle.rx_d0_values.specs.declared.reply.Outcome.{Outcome}
use Rattle.rx_d0_values.specs.declared.reply.Reply.{Reply}
use Rattle.rx_ledger.specs.declared.drug.Drug.{Drug}
use Rattle.rx_ledger.specs.declared.figures.Figures.{Figures}
use Rattle.rx_ledger.specs.declared.sheet.Listed.{Listed}
use Rattle.rx_ledger.specs.Places.{billed, billed_at, listed_as, transactions_of}
use Rattle.rx_ledger.specs.Plan.{Plan, are_drugs, drug_of, is_drug, listed_product}
use Rattle.rx_ledger.specs.SameTerms.{IsTermsOf}
use Rattle.rx_ledger.specs.TermList.{drugs_in}
use Rattle.rx_ledger.proofs.Alike.{SaysAlike, SayAlike, body_alike, decisions_alike, outcome_alike}
use Rattle.rx_ledger.proofs.Passed.{passed_next}

-- ---- drugs within their ranges

pub are_drugs-next : (o : Option Listed) (ps : List (Option Listed)) → IfSome o (λ l. is_drug l.drug ≡ true)
    → are_drugs (drugs_in ps) ≡ true → are_drugs (drugs_in (o ∷ ps)) ≡ true
are_drugs-next None ps fits rest = rest
are_drugs-next (Some l) ps fits rest = passed_next (λ (d : Listed). is_drug d.drug) l (drugs_in ps) fits rest

-- ---- places that say what the plan says

module _ (plan : Plan) where
  -- what a place says of its product, the plan says
  abbrev IsSaid : Option Listed → Type 0
  IsSaid None = Unit {0}
  IsSaid (Some l) = drug_of plan l.product ≡ Some l.drug

  abbrev AreSaid : List (Option Listed) → Type 0
  AreSaid [] = Unit {0}
  AreSaid (o ∷ ps) = IsSaid o × AreSaid ps

  -- o is one of the places
  abbrev Among : Option Listed → List (Option Listed) → Type 0
  Among o [] = ⊥
  Among o (p ∷ ps) = (p ≡ o) ⊎ Among o ps

  -- the plan of the places
  abbrev small : List (Option Listed) → Plan
  small ps = record { figures = plan.figures; drugs = drugs_in ps }

  said_of : (product : ℕ) (said : Option Drug) → drug_of plan product ≡ said → IsSaid (listed_as product said)
  said_of product None is = tt
  said_of product (Some drug) is = is

  billed_is_said : (t : Transaction) → IsSaid (billed plan t)
  billed_is_said (Bill b) = said_of b.product (drug_of plan b.product) refl
  billed_is_said (Reverse v) = tt
  billed_is_said (Faulty f) = tt

  maybe_billed_is_said : (t : Option Transaction) → IsSaid (option_and_then (billed plan) t)
  maybe_billed_is_said None = tt
  maybe_billed_is_said (Some t) = billed_is_said t

  billed_at_is_said : (ts : List Transaction) (i : ℕ) → IsSaid (billed_at plan ts i)
  billed_at_is_said ts i = maybe_billed_is_said (slice_get ts i)

  -- the plan says this of the product of a place also where it is met again
  said_again : (l : Listed) (product : ℕ) → drug_of plan l.product ≡ Some l.drug
      → has_key nat_cmp listed_product product l ≡ true → drug_of plan product ≡ Some l.drug
  said_again l product said here = ap (drug_of plan) (sym (number_exact l.product product (Equal-from_is_eq _ here)))
      ∙ said

  -- the places say the same of a product as the plan, or nothing
  same_or_none : (ps : List (Option Listed)) (product : ℕ) → AreSaid ps
      → (drug_of (small ps) product ≡ drug_of plan product) ⊎ (drug_of (small ps) product ≡ None)
  same_or_none [] product said = inr refl
  same_or_none (None ∷ ps) product said = same_or_none ps product said.1
  same_or_none (Some l ∷ ps) product said = elim (cases_Bool (has_key nat_cmp listed_product product l)) [
    | inl here ↦ inl (rw here (sym (said_again l product said.0 here)))
    | inr apart ↦ rw apart (same_or_none ps product said.1)
  ]

  none_listed : (product : ℕ) (said : Option Drug) → None ≡ listed_as product said → said ≡ None
  none_listed product None is = refl
  none_listed product (Some drug) is = cc

  listed_product_is : (l : Listed) (product : ℕ) (said : Option Drug) → Some l ≡ listed_as product said
      → l.product ≡ product
  listed_product_is l product None is = cc
  listed_product_is l product (Some drug) is =
      let made : Listed = record { product = product; drug = drug } in
      let same : l ≡ made = cc in
      ap (λ (x : Listed). x.product) same

  -- a product that has its place
  said_in_place : (ps : List (Option Listed)) (product : ℕ) → AreSaid ps
      → Among (listed_as product (drug_of plan product)) ps → drug_of (small ps) product ≡ drug_of plan product
  said_in_place [] product said among = absurd among
  said_in_place (None ∷ ps) product said (inl is) =
      let none : drug_of plan product ≡ None = none_listed product (drug_of plan product) is in
      elim (same_or_none ps product said.1) [ inl same ↦ same | inr nothing ↦ nothing ∙ sym none ]
  said_in_place (None ∷ ps) product said (inr among) = said_in_place ps product said.1 among
  said_in_place (Some l ∷ ps) product said (inl is) =
      let here : has_key nat_cmp listed_product product l ≡ true =
      ap (λ k. has_key nat_cmp listed_product k l) (sym (listed_product_is l product (drug_of plan product) is))
      ∙ has_key-itself nat_cmp number_total listed_product l in
      rw here (sym (said_again l product said.0 here))
  said_in_place (Some l ∷ ps) product said (inr among) = elim (cases_Bool (has_key nat_cmp listed_product product l)) [
    | inl here ↦ rw here (sym (said_again l product said.0 here))
    | inr apart ↦ rw apart (said_in_place ps product said.1 among)
  ]

  says_alike : (t : Transaction) (ps : List (Option Listed)) → AreSaid ps → Among (billed plan t) ps
      → SaysAlike (small ps) plan t
  says_alike (Bill b) ps said among = said_in_place ps b.product said among
  says_alike (Reverse v) ps said among = tt
  says_alike (Faulty f) ps said among = tt

  -- ---- the four places of a record

  abbrev pub four : List Transaction → List (Option Listed)
  four ts = billed_at plan ts 0 ∷ billed_at plan ts 1 ∷ billed_at plan ts 2 ∷ billed_at plan ts 3 ∷ []

  four_are_said : (ts : List Transaction) → AreSaid (four ts)
  four_are_said ts = (
    billed_at_is_said ts 0,
    (billed_at_is_said ts 1, (billed_at_is_said ts 2, (billed_at_is_said ts 3, tt))),
  )

  in_four : (t : Transaction) (ts : List Transaction) → Among (billed plan t) (four ts)
      → SaysAlike (small (four ts)) plan t
  in_four t ts among = says_alike t (four ts) (four_are_said ts) among

  say_alike : (ts : List Transaction) → length ts ≤ 4 → SayAlike (small (four ts)) plan ts
  say_alike [] few = tt
  say_alike (a ∷ []) few = let ts = a ∷ [] in (in_four a ts (inl refl), tt)
  say_alike (a ∷ b ∷ []) few = let ts = a ∷ b ∷ [] in (in_four a ts (inl refl), (in_four b ts (inr (inl refl)), tt))
  say_alike (a ∷ b ∷ c ∷ []) few =
      let ts = a ∷ b ∷ c ∷ [] in
      (in_four a ts (inl refl), (in_four b ts (inr (inl refl)), (in_four c ts (inr (inr (inl refl))), tt)))
  say_alike (a ∷ b ∷ c ∷ d ∷ []) few =
      let ts = a ∷ b ∷ c ∷ d ∷ [] in (
        in_four a ts (inl refl),
        (
          in_four b ts (inr (inl refl)),
          (in_four c ts (inr (inr (inl refl))), (in_four d ts (inr (inr (inr (inl refl)))), tt)),
        ),
      )
  say_alike (a ∷ b ∷ c ∷ d ∷ e ∷ ts) few = absurd (omega arith)

  four_terms : (lot : LotParts) (t : Transmission) → length (transactions_of t.body) ≤ 4
      → IsTermsOf lot plan t (record { lot = lot; figures = plan.figures; places = four (transactions_of t.body) })
  four_terms lot t few =
      let ts : List Transaction = transactions_of t.body in
      let drugs : List Listed = drugs_in (four ts) in
      let alike : SayAlike (small (four ts)) plan ts = say_alike ts few in
      record {
        same_lot = refl;
        same_figures = refl;
        same_decisions = λ o L. decisions_alike plan drugs o L ts alike;
        same_reply = λ place L.
            let reply : Outcome → Reply = λ o. record { echo = t.echo; outcome = o } in
            ap reply (outcome_alike plan.figures drugs plan.drugs lot place L t.body alike);
        same_ledger = λ place L. body_alike plan.figures drugs plan.drugs lot place L t.body alike;
      }

-- these are terms of the record under the plan: its lot and figures, and in four places what its transactions bill
pub IsTermsOf-placed : (lot : LotParts) (plan : Plan) (t : Transmission) (figures : Figures) (ts : List Transaction)
    (a b c d : Option Listed)
    → figures ≡ plan.figures → ts ≡ transactions_of t.body → length ts ≤ 4
    → a ≡ billed_at plan ts 0 → b ≡ billed_at plan ts 1 → c ≡ billed_at plan ts 2 → d ≡ billed_at plan ts 3
    → IsTermsOf lot plan t (record { lot = lot; figures = figures; places = a ∷ b ∷ c ∷ d ∷ [] })
IsTermsOf-placed lot plan t figures ts a b c d same_figures same few at_0 at_1 at_2 at_3 =
    let little : length (transactions_of t.body) ≤ 4 = rw (← same) few in
    rw (at_0, at_1, at_2, at_3, same_figures, same) (four_terms plan lot t little)
