-- A pharmacy's reversal takes the same claim back in two jobs that differ in names of others.
use Rattle.std.specs.Prelude.{option_and_then}
use Rattle.std.proofs.Common.{◌≡◌, ℕ, ◌-◌, List, true, Option, Some, None, refl, sym, ap, subst, ◌∙◌}
use Rattle.std.specs.Option.{option_map}
use Rattle.std.proofs.lemmas.Option.{same_Some}
use Rattle.rx_commands.specs.Elsewhere.{is_own_body, is_own_record}
use Rattle.rx_commands.specs.Reversed.{member_back, member_before}
use Rattle.rx_commands.specs.declared.replay.batch.Adjudicated.{Adjudicated}
use Rattle.rx_d0_values.specs.declared.transaction.Transaction.{Transaction}
use Rattle.rx_d0_values.specs.declared.transmission.Body.TheVariants.{Heard}
use Rattle.rx_d0_values.specs.declared.transmission.Heard.{Heard as HeardRecord}
use Rattle.rx_d0_values.specs.declared.transmission.Transmission.{Transmission}
use Rattle.rx_explain.specs.Before.{ledger_before}
use Rattle.rx_explain.specs.Names.{AgreesBody, DifferInNames, KeepsBody, Names, heard_named, ledger_named, transaction_named}
use Rattle.rx_explain.specs.Spots.{Spot, item, spot_at, spot_in}
use Rattle.rx_explain.specs.declared.at.At.{At}
use Rattle.rx_explain.proofs.NamesAlike.{same-decision}
use Rattle.rx_explain.proofs.NamesApart.{All-item, IsAtPlace, at-place, before-keeps, item-at}
use Rattle.rx_explain.proofs.NamesFolded.{InOrder, before-in_order, before-named}
use Rattle.rx_commands.proofs.NamesFound.{item-mapped}
use Rattle.rx_fields.specs.Numbered.{LotParts}
use Rattle.rx_ledger.specs.Decisions.{decision_of}
use Rattle.rx_ledger.specs.Fold.{asked, authorization}
use Rattle.rx_ledger.specs.Ledger.{Ledger}
use Rattle.rx_ledger.specs.Members.{is_same}
use Rattle.rx_ledger.specs.Plan.{Plan}

-- the member of the claim that a transaction takes back
abbrev pub back : LotParts → Plan → List Transmission → Ledger → At → Option Spot → Option (List ℕ × List ℕ)
back lot plan ts L at None = None
back lot plan ts L at (Some s) =
    member_back (decision_of (asked lot plan at.place s.heard at.nth) (ledger_before lot plan ts L at.place s.heard at.nth) s.transaction)

pub back-is : (b : Adjudicated) (at : At) (o : Option Spot)
    → member_before b at o ≡ back b.lot b.sheet b.asked.items b.opening.ledger at o
back-is b at None = refl
back-is b at (Some s) = refl

module _ (own : List ℕ) (lot : LotParts) (plan : Plan) (ts us : List Transmission) (L M : Ledger)
    (differ : DifferInNames own plan ts us L M) (is : InOrder differ.names L) where
  module _ (at : At) (s : Spot) (there : spot_at ts at ≡ Some s) (mine : is_same s.heard.provider own ≡ true) where
    abbrev n : Names
    n = differ.names

    found : IsAtPlace ts at s
    found = at-place ts at s there

    agrees : AgreesBody n plan (Heard s.heard)
    agrees =
        subst (AgreesBody n plan) found.body_is
        (All-item (λ t. AgreesBody n plan t.body) ts (at.place - 1) found.transmission differ.records_agree found.is_there)

    heard-kept : heard_named n s.heard ≡ s.heard
    heard-kept =
        subst (KeepsBody n own) found.body_is
        (All-item (λ t. KeepsBody n own t.body) ts (at.place - 1) found.transmission differ.own_records found.is_there) mine

    transaction-kept : transaction_named n s.heard.provider s.heard.date s.transaction ≡ s.transaction
    transaction-kept =
        let f : Transaction → Transaction = transaction_named n s.heard.provider s.heard.date in
        same_Some (f s.transaction) s.transaction
        (ap (option_map f) (sym found.transaction_is) ∙ sym (item-mapped f s.heard.list at.nth)
        ∙ ap (λ (h : HeardRecord). item h.list at.nth) heard-kept ∙ found.transaction_is)

    before-same : ledger_before lot plan us M at.place s.heard at.nth ≡ ledger_named n (ledger_before lot plan ts L at.place s.heard at.nth)
    before-same =
        ap (λ K. ledger_before lot plan us K at.place s.heard at.nth) differ.books_are
        ∙ ap (λ h. ledger_before lot plan us (ledger_named n L) at.place h at.nth) (sym heard-kept)
        ∙ before-named lot plan n differ.are_names ts us L at.place s.heard at.nth differ.records_are differ.records_agree agrees is

    pub own-back : back lot plan us M at (Some s) ≡ back lot plan ts L at (Some s)
    own-back =
        let before : Ledger = ledger_before lot plan ts L at.place s.heard at.nth in
        ap (λ K. member_back (decision_of (asked lot plan at.place s.heard at.nth) K s.transaction)) before-same
        ∙ ap member_back
        (same-decision plan n differ.are_names before
        (before-in_order lot plan n differ.are_names ts L at.place s.heard at.nth differ.records_agree agrees is) own
        (before-keeps n own lot plan ts L at.place s.heard at.nth differ.own_records (λ m. heard-kept) differ.own_claims) lot
        s.heard.provider s.heard.date (authorization lot at.place at.nth) mine (ap (λ (h : HeardRecord). h.provider) heard-kept)
        s.transaction transaction-kept)

  -- the record is the pharmacy's, and the same in both
  module _ (at : At) (mine : is_own_record own (item ts at.place) ≡ true) (same : item us at.place ≡ item ts at.place) where
    by-spot : (o : Option Spot) → spot_at ts at ≡ o → back lot plan us M at o ≡ back lot plan ts L at o
    by-spot None there = refl
    by-spot (Some s) there =
        let found : IsAtPlace ts at s = at-place ts at s there in
        let owned : is_own_record own (Some found.transmission) ≡ true =
        ap (is_own_record own) (sym (item-at ts at.place found.transmission found.counts found.is_there)) ∙ mine in
        own-back at s there (ap (is_own_body own found.transmission.echo.provider) (sym found.body_is) ∙ owned)

    pub back-alike : back lot plan us M at (spot_at us at) ≡ back lot plan ts L at (spot_at ts at)
    back-alike =
        ap (λ o. back lot plan us M at (option_and_then (λ (t : Transmission). spot_in at.nth t.body) o)) same
        ∙ by-spot (spot_at ts at) refl
