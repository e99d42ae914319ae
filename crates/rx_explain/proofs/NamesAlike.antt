-- Explanations of a pharmacy's transaction on a ledger and on one with other names differ only in names.
use Rattle.std.specs.Prelude.{◌&&◌, ◌==◌, ◌⊎◌, not}
use Rattle.std.proofs.Common.{◌≡◌, ℕ, List, [], ◌∷◌, map, get_or, Bool, true, false, Option, Some, None, refl, sym, ap}
use Rattle.std.proofs.Common.{subst, ◌∙◌, inl, inr, arith}
use Rattle.std.specs.Option.{option_map}
use Rattle.std.specs.List.{All, Contains, filter, fold, list_any}
use Rattle.std.specs.List.Sorted.{IsPermutation}
use Rattle.std.specs.Cmp.{IsTotalOrder}
use Rattle.std.specs.Ordering.{ordering_then}
use Rattle.std.specs.declared.cmp.Ordering.{Ordering}
use Rattle.std.specs.declared.cmp.Ordering.TheVariants.{Equal}
use Rattle.std.proofs.lemmas.Bool.{cases_Bool}
use Rattle.std.proofs.lemmas.Int.{by_lt_z}
use Rattle.std.proofs.lemmas.List.Elements.{All-cons, All-contains, All-contains_itself, All-filter, All-head, All-nil, All-tail}
use Rattle.std.proofs.lemmas.List.Elements.{All-weaker}
use Rattle.std.proofs.lemmas.List.Sorted.{IsPermutation-map, IsPermutation-refl}
use Rattle.rx_fields.specs.Calendar.{Civil, day_number}
use Rattle.rx_fields.specs.Numbered.{LotParts, Span}
use Rattle.rx_fields.specs.Order.{key_cmp}
use Rattle.rx_fields.proofs.DayNumbers.{same_number, signed_arith}
use Rattle.rx_d0_values.specs.declared.bill.BillParts.{BillParts}
use Rattle.rx_d0_values.specs.declared.transaction.Transaction.{Transaction}
use Rattle.rx_d0_values.specs.declared.transaction.Transaction.TheVariants.{Bill, Reverse, Faulty}
use Rattle.rx_sorted.specs.Ascending.{IsAscending}
use Rattle.rx_sorted.specs.Orders.{text_cmp}
use Rattle.rx_sorted.proofs.Filters.{Contains-filter}
use Rattle.rx_sorted.proofs.Kept.{IsAscending-filter}
use Rattle.rx_sorted.proofs.LookUps.{item_at-found}
use Rattle.rx_ledger.specs.Answers.{answer_to}
use Rattle.rx_ledger.specs.Decisions.{Asked, decision_of, is_same_claim, is_too_soon, key_of}
use Rattle.rx_ledger.specs.Decisions.{row_of}
use Rattle.rx_ledger.specs.Fold.{asked, authorization}
use Rattle.rx_ledger.specs.Ledger.{Ledger, members_of, row_under}
use Rattle.rx_ledger.specs.Members.{is_same, member_cmp, member_key, person_in}
use Rattle.rx_ledger.specs.Plan.{Plan, drug_of}
use Rattle.rx_ledger.specs.Rows.{claimed_by, row_key}
use Rattle.rx_ledger.specs.declared.decision.Decision.{Decision}
use Rattle.rx_ledger.specs.declared.decision.Decision.TheVariants as decision
use Rattle.rx_ledger.specs.declared.member.Member.{Member}
use Rattle.rx_ledger.specs.declared.member.MemberKey.{MemberKey}
use Rattle.rx_ledger.specs.declared.row.Row.{Row}
use Rattle.rx_ledger.proofs.Found.{person_found}
use Rattle.rx_ledger.proofs.Mapped.{billing-mapped, reversal-mapped, row-mapped}
use Rattle.rx_ledger.proofs.Orders.{key_exact, key_total, member_exact, member_total}
use Rattle.rx_explain.proofs.Counted.{filter_both}
use Rattle.rx_explain.specs.Opens.{IsFirstOpen, IsOpenFrom, is_early_fill, is_open}
use Rattle.rx_explain.specs.Seen.{AreAlike, AreAlikeOf, IsAlike, IsClaimAlike, IsDeciderAlike, is_of, visible}
use Rattle.rx_explain.specs.Shown.{binds_until, counted_for, counted_rows, counts_in, fill_cmp, first_with, flag_if, is_counted}
use Rattle.rx_explain.specs.Shown.{longer_cmp, longest_fill, numbers_of, rank, row_in}
use Rattle.rx_explain.specs.Explained.{IsOnLedger}
use Rattle.rx_explain.specs.Spots.{Spot}
use Rattle.rx_explain.specs.Traces.{traced}
use Rattle.rx_explain.specs.Workings.{workings_for}
use Rattle.rx_explain.specs.declared.explanation.Explanation.{Explanation}
use Rattle.rx_explain.specs.declared.at.At.{At}
use Rattle.rx_explain.specs.declared.events.Event.{Event}
use Rattle.rx_explain.specs.declared.traced.Traced.{Traced}
use Rattle.rx_explain.specs.Names.{AreNames, IsOneDrug, KeepsRow, Names, bill_named, faulty_named, key_named, ledger_named}
use Rattle.rx_explain.specs.Names.{member_named, person_named, row_named, transaction_named}
use Rattle.rx_explain.specs.Names.{in_order}
use Rattle.rx_explain.proofs.NamesDecided.{any-of-family, both-if, decided-named, decision_named, family-same, key-same, one-text}
use Rattle.rx_explain.proofs.NamesDecided.{person-in-same, pharmacy-same, too-soon}
use Rattle.rx_explain.proofs.NamesFolded.{InOrder, event_named}
use Rattle.rx_explain.proofs.FirstFill.{AreFirst, IsFirst, are-first, fill_total, owner-of-rank, ranks-tied, same-own, ties-first}
use Rattle.rx_explain.proofs.NamesOrdered.{filter-map, filter-named, moved-named}
use Rattle.rx_explain.proofs.NamesTraced.{in_order-itself, map-itself, map-map, map-on, traced-kept}

-- ---- tests

both-first : (p q : Bool) → (p && q) ≡ true → p ≡ true
both-first true q both = refl
both-first false q both = both

both-second : (p q : Bool) → (p && q) ≡ true → q ≡ true
both-second true q both = both
both-second false q both = absurd (let e : false ≡ true = both in cc)

-- of the items that pass, what holds of each that passes
All-filter-and : {X : Type 0} (p : X → Bool) (P : X → Type 0) (xs : List X) → All (λ x. p x ≡ true → P x) xs → All P (filter p xs)
All-filter-and p P [] all = All-nil P
All-filter-and p P (x ∷ xs) all =
    let rest : All P (filter p xs) = All-filter-and p P xs (All-tail (λ y. p y ≡ true → P y) x xs all) in
    elim (cases_Bool (p x)) [
      | inl passes ↦ rw passes (All-cons P x (filter p xs) (All-head (λ y. p y ≡ true → P y) x xs all passes) rest)
      | inr fails ↦ rw fails rest
    ]

-- ---- a pharmacy's own transaction, on the ledger before it

module _ (plan : Plan) (n : Names) (are : AreNames n) (L : Ledger) (is : InOrder n L) (own : List ℕ)
    (rows-keep : All (KeepsRow n own) L.rows) (lot : LotParts) (provider : List ℕ) (date : Civil) (number : ℕ)
    (mine : is_same provider own ≡ true) (pharmacy-keeps : n.pharmacy provider ≡ provider) where
  abbrev a : Asked
  a = record { lot = lot; plan = plan; provider = provider; date = date; number = number }

  abbrev M : Ledger
  M = ledger_named n L

  -- ---- what an own decision names keeps its names

  abbrev Keeps : Decision → Type 0
  Keeps d = decision_named n provider d ≡ d

  row-keeps : (reference : ℕ) (r : Row) → row_under L (key_of a reference) ≡ Some r → row_named n r ≡ r
  row-keeps reference r found =
      let there = item_at-found key_cmp key_total row_key L.rows (key_of a reference) r found in
      let key : r.key ≡ key_of a reference = key_exact r.key (key_of a reference) there.1 in
      All-contains (KeepsRow n own) L.rows r rows-keep there.0 (ap (λ k. is_same k.provider own) key ∙ mine)

  member-keeps : (b : BillParts) → bill_named n provider b ≡ b → (m : Member)
      → person_in (members_of L b.family) b.person ≡ Some m → member_named n m ≡ m
  member-keeps b kept m found =
      let k : MemberKey = record { family = b.family; person = b.person } in
      let there = item_at-found member_cmp member_total member_key L.members k m
      (person_found L.members b.family b.person ∙ found) in
      let key : m.key ≡ k = member_exact m.key k there.1 in
      let same : person_named n k ≡ k =
      λ i. record { family = ap (λ (c : BillParts). c.family) kept i; person = ap (λ (c : BillParts). c.person) kept i } in
      let both : person_named n m.key ≡ m.key = ap (person_named n) key ∙ same ∙ sym key in
      λ i. record { key = both i; coverage = m.coverage }

  all-keep : {A : Type 0} (f : A → A) (o : Option A) → ((x : A) → o ≡ Some x → f x ≡ x) → o ≡ option_map f o
  all-keep f None keeps = refl
  all-keep f (Some x) keeps = ap Some (sym (keeps x refl))

  rows-keep-under : (reference : ℕ) → row_under L (key_of a reference) ≡ option_map (row_named n) (row_under L (key_of a reference))
  rows-keep-under reference = all-keep (row_named n) (row_under L (key_of a reference)) (row-keeps reference)

  decision-keeps : (t : Transaction) → transaction_named n provider date t ≡ t → Keeps (decision_of a L t)
  decision-keeps (Bill b) kept =
      let same : bill_named n provider b ≡ b = cc in
      sym (billing-mapped (row_named n) (member_named n) (faulty_named n provider) a provider L L b b.family b.person b.reference
      b.product (record {
        some = refl;
        member = all-keep (member_named n) (person_in (members_of L b.family) b.person) (member-keeps b same);
        coverage = λ m is. refl;
        standing = rows-keep-under b.reference;
        claim = λ r is. ap (is_same_claim b) (row-keeps b.reference r is);
        drug = refl;
        soon = refl;
        used = refl;
      }))
  decision-keeps (Reverse v) kept =
      sym (reversal-mapped (row_named n) (member_named n) (faulty_named n provider) a provider L L v v (rows-keep-under v.reference)
      (λ r is. ap (λ (s : Row). s.product == v.product) (row-keeps v.reference r is)))
  decision-keeps (Faulty f) kept = let same : faulty_named n provider f ≡ f = cc in ap decision.Unread same

  drug-keeps : (t : Transaction) → transaction_named n provider date t ≡ t → IsOneDrug n plan t
  drug-keeps (Bill b) kept =
      let same : bill_named n provider b ≡ b = cc in ap (λ (c : BillParts). drug_of plan c.product) same
  drug-keeps (Reverse v) kept = tt
  drug-keeps (Faulty f) kept = tt

  pub same-decision : (t : Transaction) → transaction_named n provider date t ≡ t → decision_of a M t ≡ decision_of a L t
  same-decision t kept =
      ap (λ u. decision_of a M u) (sym kept)
      ∙ ap (λ p. decision_of (record a { provider = p }) M (transaction_named n provider date t)) (sym pharmacy-keeps)
      ∙ decided-named plan n are L is.members_rise is.rows_rise is.agreed lot provider date number t (drug-keeps t kept)
      ∙ decision-keeps t kept

  -- ---- the rows that are shown

  module _ (events : List Event) (at : At) where
    abbrev here : Row → Traced
    here r = traced events at r

    abbrev there : Row → Traced
    there r = traced (map (event_named n) events) at r

    own-row : (r : Row) → is_same r.key.provider own ≡ true → Contains L.rows r → row_named n r ≡ r
    own-row r owned among = All-contains (KeepsRow n own) L.rows r rows-keep among owned

    -- the same pharmacy
    as-own : (r : Row) → is_same r.key.provider provider ≡ true → is_same r.key.provider own ≡ true
    as-own r owned = ap (λ p. is_same p own) (one-text r.key.provider provider owned) ∙ mine

    owner-same : (r : Row) → is_same (n.pharmacy r.key.provider) provider ≡ is_same r.key.provider provider
    owner-same r =
        ap (λ p. is_same (n.pharmacy r.key.provider) p) (sym pharmacy-keeps) ∙ pharmacy-same plan n are r.key.provider provider

    module _ (b : BillParts) (kept : bill_named n provider b ≡ b) where
      family-keeps : n.family b.family ≡ b.family
      family-keeps = ap (λ (c : BillParts). c.family) kept

      person-keeps : n.person b.family b.person ≡ b.person
      person-keeps = ap (λ (c : BillParts). c.person) kept

      claimed-same : (r : Row) → claimed_by b.family (row_named n r) ≡ claimed_by b.family r
      claimed-same r = ap (λ f. is_same (n.family r.family) f) (sym family-keeps) ∙ family-same plan n are r.family b.family

      visible-same : (r : Row) → claimed_by b.family r ≡ true → visible b (here r) ≡ visible b (there (row_named n r))
      visible-same r same =
          let person : is_same (n.person r.family r.person) b.person ≡ is_same r.person b.person =
          ap (is_same (n.person r.family r.person)) (sym person-keeps)
          ∙ person-in-same plan n are r.family b.family r.person b.person same in
          λ i.
          r.key.date.year ∷ r.key.date.month ∷ r.key.date.day ∷ flag_if (sym person i)
          ∷ r.pricing.ingredient_cost ∷ r.pricing.dispensing_fee ∷ r.pricing.deductible ∷ r.pricing.copay
          ∷ r.pricing.coinsurance ∷ []

      -- ---- the own ones of some rows are the same

      abbrev owned : Row → Bool
      owned r = is_same r.key.provider provider

      module _ (p : Row → Bool) where
        own-keep : All (λ r. row_named n r ≡ r) (filter owned (filter p L.rows))
        own-keep =
            All-filter-and owned (λ r. row_named n r ≡ r) (filter p L.rows)
            (All-weaker (Contains L.rows) (λ r. owned r ≡ true → row_named n r ≡ r)
            (λ r among owns. own-row r (as-own r owns) among) (filter p L.rows)
            (All-filter p (Contains L.rows) L.rows (All-contains_itself L.rows)))

        rise-among : IsAscending key_cmp row_key (filter p L.rows)
        rise-among = IsAscending-filter key_cmp key_total row_key p L.rows is.rows_rise

        own-among : filter owned (in_order key_cmp row_key (map (row_named n) (filter p L.rows))) ≡ filter owned (filter p L.rows)
        own-among =
            filter-named key_cmp key_total row_key (row_named n) (key_named n) (λ r. refl) (key-same plan n are) owned owned owner-same
            (filter p L.rows) rise-among
            ∙ ap (in_order key_cmp row_key) (map-itself (row_named n) (filter owned (filter p L.rows)) own-keep)
            ∙ in_order-itself (filter owned (filter p L.rows))
            (IsAscending-filter key_cmp key_total row_key owned (filter p L.rows) rise-among)

      -- ---- the rows that count

      module _ (period : Span) where
        counts-same : (r : Row) → is_counted period b.family (row_named n r) ≡ is_counted period b.family r
        counts-same r = ap (λ c. c && counts_in period r) (claimed-same r)

        abbrev rows : List Row
        rows = counted_rows period L b.family

        rows-are : counted_rows period M b.family ≡ in_order key_cmp row_key (map (row_named n) rows)
        rows-are =
            filter-named key_cmp key_total row_key (row_named n) (key_named n) (λ r. refl) (key-same plan n are)
            (is_counted period b.family) (is_counted period b.family) counts-same L.rows is.rows_rise

        rows-rise : IsAscending key_cmp row_key rows
        rows-rise = IsAscending-filter key_cmp key_total row_key (is_counted period b.family) L.rows is.rows_rise

        abbrev stranger : Row → Bool
        stranger r = not (owned r)

        kept-rows : (p : Row → Bool) → ((r : Row) → p (row_named n r) ≡ p r)
            → filter p (in_order key_cmp row_key (map (row_named n) rows)) ≡ in_order key_cmp row_key (map (row_named n) (filter p rows))
        kept-rows p same =
            filter-named key_cmp key_total row_key (row_named n) (key_named n) (λ r. refl) (key-same plan n are) p p same rows
            rows-rise

        own-shown : filter (is_of true provider) (map here rows)
            ≡ filter (is_of true provider) (map there (in_order key_cmp row_key (map (row_named n) rows)))
        own-shown =
            filter-map here (is_of true provider) owned (λ r. refl) rows
            ∙ map-on here there (filter owned rows)
            (All-weaker (λ r. row_named n r ≡ r) (λ r. here r ≡ there r) (λ r same. sym (traced-kept plan n are events at r same))
            (filter owned rows) (own-keep (is_counted period b.family)))
            ∙ ap (map there) (sym (own-among (is_counted period b.family)))
            ∙ sym (filter-map there (is_of true provider) owned (λ r. refl) (in_order key_cmp row_key (map (row_named n) rows)))

        -- of the others the same is visible
        abbrev others : List Row
        others = filter stranger rows

        others-rise : IsAscending key_cmp row_key others
        others-rise = IsAscending-filter key_cmp key_total row_key stranger rows rows-rise

        others-claimed : All (λ r. claimed_by b.family r ≡ true) others
        others-claimed =
            All-filter stranger (λ r. claimed_by b.family r ≡ true) rows
            (All-filter-and (is_counted period b.family) (λ r. claimed_by b.family r ≡ true) L.rows
            (λ i d within. both-first (claimed_by b.family (get_or L.rows i d)) (counts_in period (get_or L.rows i d))))

        here-are : map (visible b) (filter (is_of false provider) (map here rows))
            ≡ map (λ r. visible b (there r)) (map (row_named n) others)
        here-are =
            ap (map (visible b)) (filter-map here (is_of false provider) stranger (λ r. refl) rows)
            ∙ map-map (visible b) here others
            ∙ map-on (λ r. visible b (here r)) (λ r. visible b (there (row_named n r))) others
            (All-weaker (λ r. claimed_by b.family r ≡ true) (λ r. visible b (here r) ≡ visible b (there (row_named n r)))
            visible-same others others-claimed)
            ∙ sym (map-map (λ r. visible b (there r)) (row_named n) others)

        there-are : map (visible b) (filter (is_of false provider) (map there (in_order key_cmp row_key (map (row_named n) rows))))
            ≡ map (λ r. visible b (there r)) (in_order key_cmp row_key (map (row_named n) others))
        there-are =
            ap (map (visible b)) (filter-map there (is_of false provider) stranger (λ r. refl)
            (in_order key_cmp row_key (map (row_named n) rows)))
            ∙ map-map (visible b) there (filter stranger (in_order key_cmp row_key (map (row_named n) rows)))
            ∙ ap (map (λ r. visible b (there r))) (kept-rows stranger (λ r. ap not (owner-same r)))

        others-shown : IsPermutation (map (visible b) (filter (is_of false provider) (map here rows)))
            (map (visible b) (filter (is_of false provider) (map there (in_order key_cmp row_key (map (row_named n) rows)))))
        others-shown =
            subst (λ xs. IsPermutation xs
            (map (visible b) (filter (is_of false provider) (map there (in_order key_cmp row_key (map (row_named n) rows))))))
            (sym here-are)
            (subst (λ ys. IsPermutation (map (λ r. visible b (there r)) (map (row_named n) others)) ys) (sym there-are)
            (IsPermutation-map (λ r. visible b (there r)) (map (row_named n) others)
            (in_order key_cmp row_key (map (row_named n) others))
            (moved-named key_cmp key_total row_key (row_named n) (key_named n) (λ r. refl) (key-same plan n are) others others-rise)))

        pub counted-alike : AreAlikeOf provider b (map here rows) (map there (counted_rows period M b.family))
        counted-alike =
            subst (λ rs. AreAlikeOf provider b (map here rows) (map there rs)) (sym rows-are)
            (record { own_are = own-shown; others_are = others-shown })

      -- ---- from when on it is open

      open-same : (day : Civil) → is_open plan.figures M.rows b day ≡ is_open plan.figures L.rows b day
      open-same day =
          let c : BillParts = bill_named n provider b in
          ap not (
          ap (λ d. list_any (is_early_fill plan.figures day d) M.rows) (sym kept)
          ∙ any-of-family plan n are L is.members_rise is.rows_rise is.agreed b.family (is_too_soon plan.figures day c)
          (is_too_soon plan.figures day b)
          (too-soon plan n are L is.members_rise is.rows_rise is.agreed lot provider date number b day))

      open-there : (o : Option Civil) → IsFirstOpen plan.figures M.rows b date o → IsFirstOpen plan.figures L.rows b date o
      open-there None first = λ e from. sym (open-same e) ∙ first e from
      open-there (Some d) first =
          (first.0, sym (open-same d) ∙ first.1, λ e from sooner. sym (open-same e) ∙ first.2 e from sooner)

      one-open : (o q : Option Civil) → IsFirstOpen plan.figures L.rows b date o → IsFirstOpen plan.figures L.rows b date q → o ≡ q
      one-open None None first second = refl
      one-open None (Some e) first second = absurd (let no : true ≡ false = sym second.1 ∙ first e second.0 in cc)
      one-open (Some d) None first second = absurd (let no : true ≡ false = sym first.1 ∙ second d first.0 in cc)
      one-open (Some d) (Some e) first second =
          by_lt_z (day_number d) (day_number e)
          (λ less. absurd (let no : true ≡ false = sym first.1 ∙ second.2 d first.0 less in cc))
          (λ no-less. by_lt_z (day_number e) (day_number d)
          (λ less. absurd (let no : true ≡ false = sym second.1 ∙ first.2 e second.0 less in cc))
          (λ no-more.
          let same : day_number d ≡ day_number e = omega (arith, signed_arith) in
          ap Some (same_number d e first.0.0 second.0.0 same)))

      pub open-alike : (o q : Option Civil) → IsFirstOpen plan.figures L.rows b date o → IsFirstOpen plan.figures M.rows b date q
          → o ≡ q
      open-alike o q first second = one-open o q first (open-there q second)

      -- ---- the fill that binds longest

      early-same : (r : Row) → is_early_fill plan.figures date b (row_named n r) ≡ is_early_fill plan.figures date b r
      early-same r =
          let c : BillParts = bill_named n provider b in
          ap (λ (d : BillParts). is_early_fill plan.figures date d (row_named n r)) (sym kept)
          ∙ ap (λ f. f && is_too_soon plan.figures date c (row_named n r)) (family-same plan n are r.family b.family)
          ∙ both-if (is_same r.family b.family) (is_too_soon plan.figures date c (row_named n r)) (is_too_soon plan.figures date b r)
          (too-soon plan n are L is.members_rise is.rows_rise is.agreed lot provider date number b date r)

      abbrev early : Ledger → List Row
      early K = filter (is_early_fill plan.figures date b) K.rows

      early-are : early M ≡ in_order key_cmp row_key (map (row_named n) (early L))
      early-are =
          filter-named key_cmp key_total row_key (row_named n) (key_named n) (λ r. refl) (key-same plan n are)
          (is_early_fill plan.figures date b) (is_early_fill plan.figures date b) early-same L.rows is.rows_rise

      early-moved : IsPermutation (map (row_named n) (early L)) (early M)
      early-moved =
          subst (λ rs. IsPermutation (map (row_named n) (early L)) rs) (sym early-are)
          (moved-named key_cmp key_total row_key (row_named n) (key_named n) (λ r. refl) (key-same plan n are) (early L)
          (IsAscending-filter key_cmp key_total row_key (is_early_fill plan.figures date b) L.rows is.rows_rise))

      longest-are : (K : Ledger)
          → longest_fill plan.figures provider date K b ≡ fold (first_with (fill_cmp plan.figures provider)) None (early K)
      longest-are K =
          ap (fold (first_with (fill_cmp plan.figures provider)) None)
          (sym (filter_both (claimed_by b.family) (is_too_soon plan.figures date b) K.rows))

      -- the own ones are the same
      own-early : filter owned (early M) ≡ filter owned (early L)
      own-early = ap (filter owned) early-are ∙ own-among (is_early_fill plan.figures date b)

      ranks-same : (r : Row) → rank provider (row_named n r) ≡ rank provider r
      ranks-same r = λ i. numbers_of (owner-same r i) r

      abbrev order : Row → Row → Ordering
      order = fill_cmp plan.figures provider

      order-total : IsTotalOrder order
      order-total = fill_total plan.figures provider

      ordered-same : (q r : Row) → order (row_named n q) r ≡ order q r
      ordered-same q r =
          λ i. ordering_then (longer_cmp (binds_until plan.figures q) (binds_until plan.figures r))
          (text_cmp (ranks-same q i) (rank provider r))

      one-owner : (q r : Row) → order q r ≡ Equal → owned q ≡ owned r
      one-owner q r tied = owner-of-rank plan.figures provider q r (ranks-tied plan.figures provider q r tied)

      is-early : (K : Ledger) (r : Row) → Contains (early K) r → is_early_fill plan.figures date b r ≡ true
      is-early K r among = (Contains-filter (is_early_fill plan.figures date b) K.rows r among).1

      of-person : (r : Row) → is_early_fill plan.figures date b r ≡ true → is_same r.person b.person ≡ true
      of-person r soon =
          let too-soon : is_too_soon plan.figures date b r ≡ true =
          both-second (claimed_by b.family r) (is_too_soon plan.figures date b r) soon in
          elim (cases_Bool (is_same r.person b.person)) [
            | inl same ↦ same
            | inr other ↦ absurd (let e : false ≡ true = rw other at too-soon in cc)
          ]

      -- of two that rank alike the same is visible, where both are the person's
      visible-ranked : (r t : Row) → rank provider t ≡ rank provider r → is_same r.person b.person ≡ true
          → is_same t.person b.person ≡ true → visible b (here r) ≡ visible b (there t)
      visible-ranked r t same first second =
          let year : r.key.date.year ≡ t.key.date.year = ap (λ ns. get_or ns 0 0) (sym same) in
          let month : r.key.date.month ≡ t.key.date.month = ap (λ ns. get_or ns 1 0) (sym same) in
          let day : r.key.date.day ≡ t.key.date.day = ap (λ ns. get_or ns 2 0) (sym same) in
          let cost : r.pricing.ingredient_cost ≡ t.pricing.ingredient_cost = ap (λ ns. get_or ns 4 0) (sym same) in
          let fee : r.pricing.dispensing_fee ≡ t.pricing.dispensing_fee = ap (λ ns. get_or ns 5 0) (sym same) in
          let deductible : r.pricing.deductible ≡ t.pricing.deductible = ap (λ ns. get_or ns 6 0) (sym same) in
          let copay : r.pricing.copay ≡ t.pricing.copay = ap (λ ns. get_or ns 7 0) (sym same) in
          let coinsurance : r.pricing.coinsurance ≡ t.pricing.coinsurance = ap (λ ns. get_or ns 8 0) (sym same) in
          let person : is_same r.person b.person ≡ is_same t.person b.person = first ∙ sym second in
          λ i.
          year i ∷ month i ∷ day i ∷ flag_if (person i) ∷ cost i ∷ fee i ∷ deductible i ∷ copay i ∷ coinsurance i ∷ []

      first-alike : (r t : Row) → IsFirst order order-total (early L) r → IsFirst order order-total (early M) t
          → IsClaimAlike provider b (here r) (there t)
      first-alike r t one other = elim (cases_Bool (owned r)) [
        | inl mine-too ↦
            let same : t ≡ r =
            same-own order order-total (row_named n) ordered-same (early L) (early M) early-moved owned one-owner own-early r t one
            other mine-too in
            let among = Contains-filter (is_early_fill plan.figures date b) L.rows r one.among in
            let kept : row_named n r ≡ r = own-row r (as-own r mine-too) among.0 in
            inl (sym (traced-kept plan n are events at r kept) ∙ ap there (sym same))
        | inr stranger-too ↦
            let tied : order t r ≡ Equal =
            ties-first order order-total (row_named n) ordered-same (early L) (early M) early-moved r t one other in
            inr (
              stranger-too,
              one-owner t r tied ∙ stranger-too,
              visible-ranked r t (ranks-tied plan.figures provider t r tied) (of-person r (is-early L r one.among))
                  (of-person t (is-early M t other.among)),
            )
      ]

      abbrev AreBothFirst : Option Row → Option Row → Type 0
      AreBothFirst = AreFirst order order-total (row_named n) ordered-same (early L) (early M) early-moved

      fills-alike : (o q : Option Row) → AreBothFirst o q → IsDeciderAlike provider (Bill b) (option_map here o) (option_map there q)
      fills-alike None None both = refl
      fills-alike None (Some t) both = absurd both
      fills-alike (Some r) None both = absurd both
      fills-alike (Some r) (Some t) both = first-alike r t both.0 both.1

      pub fill-alike : IsDeciderAlike provider (Bill b) (option_map here (longest_fill plan.figures provider date L b))
          (option_map there (longest_fill plan.figures provider date M b))
      fill-alike =
          subst (λ o. IsDeciderAlike provider (Bill b) (option_map here o)
          (option_map there (longest_fill plan.figures provider date M b))) (sym (longest-are L))
          (subst (λ o. IsDeciderAlike provider (Bill b) (option_map here (fold (first_with order) None (early L)))
          (option_map there o)) (sym (longest-are M))
          (fills-alike (fold (first_with order) None (early L)) (fold (first_with order) None (early M))
          (are-first order order-total (row_named n) ordered-same (early L) (early M) early-moved)))

    -- ---- the row that decided

    row-same : (d : Decision) → row_of (decision_named n provider d) ≡ option_map (row_named n) (row_of d)
    row-same = row-mapped (row_named n) (member_named n) (faulty_named n provider)

    shown-same : (o : Option Row) → option_map (row_named n) o ≡ o → option_map here o ≡ option_map there o
    shown-same None same = refl
    shown-same (Some r) same =
        let kept : row_named n r ≡ r = cc in
        ap Some (sym (traced-kept plan n are events at r kept))

    as-billing : (b : BillParts) (o q : Option Traced) → o ≡ q → IsDeciderAlike provider (Bill b) o q
    as-billing b None None same = same
    as-billing b None (Some u) same = same
    as-billing b (Some t) None same = same
    as-billing b (Some t) (Some u) same = let one : t ≡ u = cc in inl one

    -- of a billing that isn't too soon
    record IsNotSoon (b : BillParts) (d : Decision) : Type 0 where
      row_is : (K : Ledger) → row_in plan.figures provider date K (Bill b) d ≡ row_of d
      open_is : (K : Ledger) (o : Option Civil) → IsOpenFrom plan.figures date K (Bill b) d o → o ≡ None

    soon-or-not : (b : BillParts) (d : Decision) → (d ≡ decision.TooSoon) ⊎ IsNotSoon b d
    soon-or-not b decision.TooSoon = inl refl
    soon-or-not b other = inr (record { row_is = λ K. refl; open_is = λ K o is. is })

    module _ (t : Transaction) (kept : transaction_named n provider date t ≡ t) where
      abbrev d : Decision
      d = decision_of a L t

      named-row-same : option_map here (row_of d) ≡ option_map there (row_of d)
      named-row-same = shown-same (row_of d) (sym (row-same d) ∙ ap row_of (decision-keeps t kept))

      pub standing-alike : (u : Transaction) → t ≡ u
          → IsDeciderAlike provider u (option_map here (row_in plan.figures provider date L u d))
          (option_map there (row_in plan.figures provider date M u d))
      standing-alike (Bill b) is-bill = elim (soon-or-not b d) [
        | inl soon ↦
            let same : bill_named n provider b ≡ b =
            let e : Bill (bill_named n provider b) ≡ Bill b = ap (transaction_named n provider date) (sym is-bill) ∙ kept ∙ is-bill in cc in
            subst (λ e. IsDeciderAlike provider (Bill b) (option_map here (row_in plan.figures provider date L (Bill b) e))
            (option_map there (row_in plan.figures provider date M (Bill b) e))) (sym soon) (fill-alike b same)
        | inr other ↦
            as-billing b _ _ (ap (option_map here) (other.row_is L) ∙ named-row-same ∙ ap (option_map there) (sym (other.row_is M)))
      ]
      standing-alike (Reverse v) is-reversal = named-row-same
      standing-alike (Faulty f) is-faulty = named-row-same

      pub open-from-alike : (u : Transaction) → t ≡ u → (o q : Option Civil)
          → IsOpenFrom plan.figures date L u d o → IsOpenFrom plan.figures date M u d q → o ≡ q
      open-from-alike (Bill b) is-bill o q first second = elim (soon-or-not b d) [
        | inl soon ↦
            let same : bill_named n provider b ≡ b =
            let e : Bill (bill_named n provider b) ≡ Bill b = ap (transaction_named n provider date) (sym is-bill) ∙ kept ∙ is-bill in cc in
            open-alike b same o q
            (subst (λ e. IsOpenFrom plan.figures date L (Bill b) e o) soon first)
            (subst (λ e. IsOpenFrom plan.figures date M (Bill b) e q) soon second)
        | inr other ↦ other.open_is L o first ∙ sym (other.open_is M q second)
      ]
      open-from-alike (Reverse v) is-reversal o q first second = first ∙ sym second
      open-from-alike (Faulty f) is-faulty o q first second = first ∙ sym second

      -- ---- the rows that count

      counts-or-not : (b : BillParts) (e : Decision)
          → ((K : Ledger) → counted_for plan.figures.period K (Bill b) e ≡ counted_rows plan.figures.period K b.family)
          ⊎ ((K : Ledger) → counted_for plan.figures.period K (Bill b) e ≡ [])
      counts-or-not b (decision.Payable p) = inl (λ K. refl)
      counts-or-not b other = inr (λ K. refl)

      pub rows-alike : (u : Transaction) → t ≡ u
          → AreAlike provider u (map here (counted_for plan.figures.period L u d)) (map there (counted_for plan.figures.period M u d))
      rows-alike (Bill b) is-bill = elim (counts-or-not b d) [
        | inl counts ↦
            let same : bill_named n provider b ≡ b =
            let e : Bill (bill_named n provider b) ≡ Bill b = ap (transaction_named n provider date) (sym is-bill) ∙ kept ∙ is-bill in cc in
            subst (λ rs. AreAlikeOf provider b (map here rs) (map there (counted_for plan.figures.period M (Bill b) d))) (sym (counts L))
            (subst (λ rs. AreAlikeOf provider b (map here (counted_rows plan.figures.period L b.family)) (map there rs)) (sym (counts M))
            (counted-alike b same plan.figures.period))
        | inr none ↦
            subst (λ rs. AreAlikeOf provider b (map here rs) (map there (counted_for plan.figures.period M (Bill b) d))) (sym (none L))
            (subst (λ rs. AreAlikeOf provider b (map here []) (map there rs)) (sym (none M))
            (record { own_are = refl; others_are = IsPermutation-refl [] }))
      ]
      rows-alike (Reverse v) is-reversal = tt
      rows-alike (Faulty f) is-faulty = tt

-- ---- explanations

module _ (plan : Plan) (n : Names) (are : AreNames n) (L : Ledger) (is : InOrder n L) (own : List ℕ)
    (rows-keep : All (KeepsRow n own) L.rows) (lot : LotParts) (events : List Event) (at : At) (s : Spot)
    (mine : is_same s.heard.provider own ≡ true) (pharmacy-keeps : n.pharmacy s.heard.provider ≡ s.heard.provider)
    (kept : transaction_named n s.heard.provider s.heard.date s.transaction ≡ s.transaction) where
  abbrev number : ℕ
  number = authorization lot at.place at.nth

  abbrev D : Decision
  D = decision_of (asked lot plan at.place s.heard at.nth) L s.transaction

  same : decision_of (asked lot plan at.place s.heard at.nth) (ledger_named n L) s.transaction ≡ D
  same = same-decision plan n are L is own rows-keep lot s.heard.provider s.heard.date number mine pharmacy-keeps s.transaction kept

  pub explanations-alike : (x y : Explanation) → IsOnLedger lot plan L events at s x
      → IsOnLedger lot plan (ledger_named n L) (map (event_named n) events) at s y
      → IsAlike x y
  explanations-alike x y one other =
      let t : Transaction = s.transaction in
      let M : Ledger = ledger_named n L in
      let decided : x.decision ≡ y.decision = one.decision_is ∙ sym same ∙ sym other.decision_is in
      let x-decided : x.decision ≡ D = one.decision_is in
      let y-decided : y.decision ≡ D = other.decision_is ∙ same in
      let x-standing : x.standing ≡ option_map (traced events at) (row_in plan.figures s.heard.provider s.heard.date L t D) =
      one.standing_is ∙ ap (λ d. option_map (traced events at) (row_in plan.figures s.heard.provider s.heard.date L t d)) x-decided in
      let y-standing : y.standing
      ≡ option_map (traced (map (event_named n) events) at) (row_in plan.figures s.heard.provider s.heard.date M t D) =
      other.standing_is
      ∙ ap (λ d. option_map (traced (map (event_named n) events) at) (row_in plan.figures s.heard.provider s.heard.date M t d)) y-decided in
      let x-counted : x.counted.items ≡ map (traced events at) (counted_for plan.figures.period L t D) =
      one.counted_are ∙ ap (λ d. map (traced events at) (counted_for plan.figures.period L t d)) x-decided in
      let y-counted : y.counted.items ≡ map (traced (map (event_named n) events) at) (counted_for plan.figures.period M t D) =
      other.counted_are
      ∙ ap (λ d. map (traced (map (event_named n) events) at) (counted_for plan.figures.period M t d)) y-decided in
      let standing : IsDeciderAlike s.heard.provider t x.standing y.standing =
      subst (λ o. IsDeciderAlike s.heard.provider t o y.standing) (sym x-standing)
      (subst (λ o. IsDeciderAlike s.heard.provider t
      (option_map (traced events at) (row_in plan.figures s.heard.provider s.heard.date L t D)) o) (sym y-standing)
      (standing-alike plan n are L is own rows-keep lot s.heard.provider s.heard.date number mine pharmacy-keeps events at t kept t
      refl)) in
      let counted : AreAlike s.heard.provider t x.counted.items y.counted.items =
      subst (λ ts. AreAlike s.heard.provider t ts y.counted.items) (sym x-counted)
      (subst (λ ts. AreAlike s.heard.provider t
      (map (traced events at) (counted_for plan.figures.period L t D)) ts) (sym y-counted)
      (rows-alike plan n are L is own rows-keep lot s.heard.provider s.heard.date number mine pharmacy-keeps events at t kept t
      refl)) in
      record {
        at_is = one.at_is ∙ sym other.at_is;
        provider_is = one.provider_is ∙ sym other.provider_is;
        date_is = one.date_is ∙ sym other.date_is;
        number_is = one.number_is ∙ sym other.number_is;
        transaction_is = one.transaction_is ∙ sym other.transaction_is;
        decision_is = decided;
        answer_is = one.answer_is ∙ ap (answer_to number t) (sym same) ∙ sym other.answer_is;
        standing_is =
            subst (λ p. IsDeciderAlike p x.transaction x.standing y.standing) (sym one.provider_is)
            (subst (λ u. IsDeciderAlike s.heard.provider u x.standing y.standing) (sym one.transaction_is) standing);
        open_from_is =
            open-from-alike plan n are L is own rows-keep lot s.heard.provider s.heard.date number mine pharmacy-keeps events at t kept
            t refl x.open_from y.open_from
            (subst (λ d. IsOpenFrom plan.figures s.heard.date L t d x.open_from) x-decided one.open_from_is)
            (subst (λ d. IsOpenFrom plan.figures s.heard.date M t d y.open_from) y-decided other.open_from_is);
        workings_are = one.workings_are ∙ ap (workings_for plan.figures t) decided ∙ sym other.workings_are;
        counted_are =
            subst (λ p. AreAlike p x.transaction x.counted.items y.counted.items) (sym one.provider_is)
            (subst (λ u. AreAlike s.heard.provider u x.counted.items y.counted.items) (sym one.transaction_is) counted);
      }
