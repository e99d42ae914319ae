-- Decisions on other books: where all that the tables look at is alike, with other rows and members in the place of these, the
-- decision is this one with the others in its place.
use Rattle.std.proofs.Common.{◌≡◌, ℕ, List, Bool, true, false, not, Option, Some, None, refl, sym, ap, ◌∙◌}
use Rattle.std.specs.Prelude.{◌||◌, ◌==◌, if◌then◌else◌, nat_lt}
use Rattle.std.specs.Option.{option_map}
use Rattle.std.proofs.lemmas.Iterator.Adapters.{option_map_id}
use Rattle.std.specs.List.{list_any}
use Rattle.std.specs.Ordering.{is_gt, is_lt}
use Rattle.rx_fields.specs.Calendar.{day_cmp}
use Rattle.rx_fields.specs.Numbered.{Span, is_within}
use Rattle.rx_d0_values.specs.declared.bill.BillParts.{BillParts}
use Rattle.rx_d0_values.specs.declared.transaction.Faulty.{Faulty as Unreadable}
use Rattle.rx_d0_values.specs.declared.transaction.Reversal.{Reversal}
use Rattle.rx_ledger.specs.declared.decision.Decision.{Decision}
use Rattle.rx_ledger.specs.declared.decision.Decision.TheVariants as decision
use Rattle.rx_ledger.specs.declared.drug.Drug.{Drug}
use Rattle.rx_ledger.specs.declared.member.Member.{Member}
use Rattle.rx_ledger.specs.declared.row.Row.{Row}
use Rattle.rx_ledger.specs.declared.share.Used.{Used}
use Rattle.rx_ledger.specs.Decisions.{Asked, billing, if_found, is_same_claim, is_too_soon, key_of, payment, reversal, row_of}
use Rattle.rx_ledger.specs.Decisions.{unless_found, used_by}
use Rattle.rx_ledger.specs.Ledger.{Ledger, members_of, row_under, rows_of}
use Rattle.rx_ledger.specs.Members.{of_family, person_in}
use Rattle.rx_ledger.specs.Plan.{drug_of}
use Rattle.rx_ledger.specs.Price.{allowance}
use Rattle.rx_ledger.specs.Share.{shared}

-- the decision with other rows and members in it, and other parts of a text that could not be read
abbrev pub decision_mapped : (Row → Row) → (Member → Member) → (Unreadable → Unreadable) → Decision → Decision
decision_mapped rows members texts (decision.SameStands r) = decision.SameStands (rows r)
decision_mapped rows members texts (decision.OtherStands r) = decision.OtherStands (rows r)
decision_mapped rows members texts (decision.NotCovered m) = decision.NotCovered (members m)
decision_mapped rows members texts (decision.OtherProduct r) = decision.OtherProduct (rows r)
decision_mapped rows members texts (decision.TakenBack r) = decision.TakenBack (rows r)
decision_mapped rows members texts (decision.Unread f) = decision.Unread (texts f)
decision_mapped rows members texts other = other

module _ (rows : Row → Row) (members : Member → Member) (texts : Unreadable → Unreadable) where
  abbrev mapped : Decision → Decision
  mapped = decision_mapped rows members texts

  -- the standing claim that it names is the other
  pub row-mapped : (d : Decision) → row_of (mapped d) ≡ option_map rows (row_of d)
  row-mapped (decision.SameStands r) = refl
  row-mapped other = refl

  -- ---- the row of a table that holds, and those below it

  if-mapped : (b b' : Bool) (row row' below below' : Decision) → b' ≡ b → row' ≡ mapped row → below' ≡ mapped below
      → (if b' then row' else below') ≡ mapped (if b then row else below)
  if-mapped true b' row row' below below' alike first rest = ap (λ c. if c then row' else below') alike ∙ first
  if-mapped false b' row row' below below' alike first rest = ap (λ c. if c then row' else below') alike ∙ rest

  unless-mapped : {A B : Type 0} (f : A → B) (o : Option A) (o' : Option B) (row row' : Decision) (below : A → Decision)
      (below' : B → Decision) → o' ≡ option_map f o → row' ≡ mapped row
      → ((x : A) → o ≡ Some x → below' (f x) ≡ mapped (below x))
      → unless_found o' row' below' ≡ mapped (unless_found o row below)
  unless-mapped f None o' row row' below below' alike first rest = ap (λ p. unless_found p row' below') alike ∙ first
  unless-mapped f (Some x) o' row row' below below' alike first rest = ap (λ p. unless_found p row' below') alike ∙ rest x refl

  found-mapped : {A B : Type 0} (f : A → B) (o : Option A) (o' : Option B) (row : A → Decision) (row' : B → Decision)
      (below below' : Decision) → o' ≡ option_map f o → ((x : A) → o ≡ Some x → row' (f x) ≡ mapped (row x))
      → below' ≡ mapped below → if_found o' row' below' ≡ mapped (if_found o row below)
  found-mapped f None o' row row' below below' alike first rest = ap (λ p. if_found p row' below') alike ∙ rest
  found-mapped f (Some x) o' row row' below below' alike first rest = ap (λ p. if_found p row' below') alike ∙ first x refl

  module _ (a : Asked) (provider : List ℕ) (L M : Ledger) where
    abbrev z : Asked
    z = record a { provider = provider }

    -- ---- a billing, of another family, person, reference number and product

    module _ (b : BillParts) (family person : List ℕ) (reference product : ℕ) where
      abbrev c : BillParts
      c = record b { reference = reference; family = family; person = person; product = product }

      -- all that the table of billings looks at is alike
      pub record IsBillingAlike : Type 0 where
        pub some : list_any (of_family family) M.members ≡ list_any (of_family b.family) L.members
        pub member : person_in (members_of M family) person ≡ option_map members (person_in (members_of L b.family) b.person)
        pub coverage : (m : Member) → person_in (members_of L b.family) b.person ≡ Some m → (members m).coverage ≡ m.coverage
        pub standing : row_under M (key_of z reference) ≡ option_map rows (row_under L (key_of a b.reference))
        pub claim : (r : Row) → row_under L (key_of a b.reference) ≡ Some r → is_same_claim c (rows r) ≡ is_same_claim b r
        pub drug : drug_of a.plan product ≡ drug_of a.plan b.product
        pub soon : list_any (is_too_soon a.plan.figures a.date c) (rows_of M family)
            ≡ list_any (is_too_soon a.plan.figures a.date b) (rows_of L b.family)
        pub used : used_by a.plan.figures person (rows_of M family) ≡ used_by a.plan.figures b.person (rows_of L b.family)

      pub billing-mapped : IsBillingAlike → billing z M c ≡ mapped (billing a L b)
      billing-mapped alike =
          let f = a.plan.figures in
          let outside : Span → Bool = λ p. not (is_within p a.date) || is_gt (day_cmp a.date f.period.last) in
          let paid : (d : Drug) → payment f d c (rows_of M family) ≡ payment f d b (rows_of L b.family) =
          λ d. ap (λ (u : Used). record { drug = d; used = u; pricing = shared f d.share u (allowance d.price f.fee b) }) alike.used in
          if-mapped (not (list_any (of_family b.family) L.members)) _ _ _ _ _ (ap not alike.some) refl
          (unless-mapped members (person_in (members_of L b.family) b.person) _ _ _ _ _ alike.member refl (λ m m-is.
          found-mapped rows (row_under L (key_of a b.reference)) _ _ _ _ _ alike.standing
          (λ r r-is. if-mapped (is_same_claim b r) _ _ _ _ _ (alike.claim r r-is) refl refl)
          (if-mapped (is_lt (day_cmp a.date f.period.first)) _ _ _ _ _ refl refl
          (if-mapped (is_gt (day_cmp a.date a.lot.created)) _ _ _ _ _ refl refl
          (if-mapped (outside m.coverage) _ _ _ _ _ (ap outside (alike.coverage m m-is)) refl
          (unless-mapped (λ (d : Drug). d) (drug_of a.plan b.product) _ _ _ _ _ (alike.drug ∙ sym (option_map_id _)) refl (λ d d-is.
          if-mapped (nat_lt f.max_days b.days) _ _ _ _ _ refl refl
          (if-mapped (list_any (is_too_soon f a.date b) (rows_of L b.family)) _ _ _ _ _ alike.soon refl
          (ap decision.Payable (paid d))))))))))

    -- ---- a reversal, of another reference number and product

    pub reversal-mapped : (v w : Reversal) → row_under M (key_of z w.reference) ≡ option_map rows (row_under L (key_of a v.reference))
        → ((r : Row) → row_under L (key_of a v.reference) ≡ Some r → ((rows r).product == w.product) ≡ (r.product == v.product))
        → reversal z M w ≡ mapped (reversal a L v)
    reversal-mapped v w standing product =
        unless-mapped rows (row_under L (key_of a v.reference)) _ _ _ _ _ standing refl (λ r r-is.
        if-mapped (r.product == v.product) _ _ _ _ _ (product r r-is) refl refl)
