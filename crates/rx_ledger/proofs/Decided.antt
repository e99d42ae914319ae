-- A derived `==` answers true exactly where the two values are one.
use Rattle.std.proofs.Common.{◌≡◌, Bool, true, ◌==◌, List, Option, Decides, sym, ap, ◌∙◌}
use Rattle.std.specs.Option.{option_eq}
use Rattle.std.specs.Cmp.Lexicographic.{bytes_decides, pointwise, pointwise_decides}
use Rattle.std.proofs.lemmas.Bool.Decides.{Decides-at, Decides-eqb, Decides-and, Decides-like}
use Rattle.rx_fields.specs.Calendar.{Civil}
use Rattle.rx_fields.specs.Numbered.{LotParts, Span}
use Rattle.rx_fields.specs.declared.door.Door.{Door}
use Rattle.rx_fields.specs.declared.key.Key.{Key}
use Rattle.rx_fields.specs.contracts.day.DayPartialEq.TheImpl.{ghosts as day}
use Rattle.rx_fields.specs.contracts.door.DoorPartialEq.TheImpl.{ghosts as door}
use Rattle.rx_fields.specs.contracts.key.KeyPartialEq.TheImpl.{ghosts as key}
use Rattle.rx_fields.specs.contracts.lot.LotPartialEq.TheImpl.{ghosts as lot}
use Rattle.rx_fields.specs.contracts.period.PeriodPartialEq.TheImpl.{ghosts as period}
use Rattle.rx_d0_values.proofs.Decided.{option_decides, pricing_decides}
use Rattle.rx_ledger.specs.declared.drug.Drug.{Drug}
use Rattle.rx_ledger.specs.declared.drug.Share.{Share}
use Rattle.rx_ledger.specs.declared.drug.Share.TheVariants.{Copay, Percent}
use Rattle.rx_ledger.specs.declared.figures.Figures.{Figures}
use Rattle.rx_ledger.specs.declared.member.Member.{Member}
use Rattle.rx_ledger.specs.declared.member.MemberKey.{MemberKey}
use Rattle.rx_ledger.specs.declared.row.Row.{Row}
use Rattle.rx_ledger.specs.declared.sheet.Listed.{Listed}
use Rattle.rx_ledger.specs.TermList.{TermParts}
use Rattle.rx_ledger.specs.contracts.drug.DrugPartialEq.TheImpl.{ghosts as drug}
use Rattle.rx_ledger.specs.contracts.drug.SharePartialEq.TheImpl.{ghosts as share}
use Rattle.rx_ledger.specs.contracts.figures.FiguresPartialEq.TheImpl.{ghosts as figures}
use Rattle.rx_ledger.specs.contracts.member.MemberPartialEq.TheImpl.{ghosts as member}
use Rattle.rx_ledger.specs.contracts.member.MemberKeyPartialEq.TheImpl.{ghosts as member_key}
use Rattle.rx_ledger.specs.contracts.row.RowPartialEq.TheImpl.{ghosts as row}
use Rattle.rx_ledger.specs.contracts.sheet.ListedPartialEq.TheImpl.{ghosts as listed}

-- ---- field values

pub day_decides : (a b : Civil) → Decides (day.eq a b) (a ≡ b)
day_decides a b =
    Decides-like
    (day.eq a b)
    (λ h i. record { year = h.0 i; month = h.1.0 i; day = h.1.1 i })
    (λ e. (cc, (cc, cc)))
    (Decides-and _ _ (Decides-eqb a.year b.year)
    (Decides-and _ _ (Decides-eqb a.month b.month) (Decides-eqb a.day b.day)))

pub period_decides : (a b : Span) → Decides (period.eq a b) (a ≡ b)
period_decides a b =
    Decides-like
    (period.eq a b)
    (λ h i. record { first = h.0 i; last = h.1 i })
    (λ e. (cc, cc))
    (Decides-and _ _ (day_decides a.first b.first) (day_decides a.last b.last))

pub door_decides : (a b : Door) → Decides (door.eq a b) (a ≡ b)
door_decides a b =
    Decides-like
    (door.eq a b)
    (λ h i. record { bin = h.0 i; pcn = h.1 i })
    (λ e. (cc, cc))
    (Decides-and _ _ (bytes_decides a.bin b.bin) (bytes_decides a.pcn b.pcn))

pub lot_decides : (a b : LotParts) → Decides (lot.eq a b) (a ≡ b)
lot_decides a b =
    Decides-like
    (lot.eq a b)
    (λ h i. record { number = h.0 i; created = h.1 i })
    (λ e. (cc, cc))
    (Decides-and _ _ (Decides-eqb a.number b.number) (day_decides a.created b.created))

pub key_decides : (a b : Key) → Decides (key.eq a b) (a ≡ b)
key_decides a b =
    Decides-like
    (key.eq a b)
    (λ h i. record { provider = h.0 i; reference = h.1.0 i; date = h.1.1 i })
    (λ e. (cc, (cc, cc)))
    (Decides-and _ _ (bytes_decides a.provider b.provider)
    (Decides-and _ _ (Decides-eqb a.reference b.reference) (day_decides a.date b.date)))

-- ---- the plan sheet

pub figures_decides : (a b : Figures) → Decides (figures.eq a b) (a ≡ b)
figures_decides a b =
    Decides-like
    (figures.eq a b)
    (λ (door, (period, (member_deductible, (family_maximum, (refill_percent, (max_days, (fee, family_deductible))))))) i. record {
      door = door i;
      period = period i;
      member_deductible = member_deductible i;
      family_maximum = family_maximum i;
      refill_percent = refill_percent i;
      max_days = max_days i;
      fee = fee i;
      family_deductible = family_deductible i;
    })
    (λ e. (cc, (cc, (cc, (cc, (cc, (cc, (cc, cc))))))))
    (Decides-and _ _ (door_decides a.door b.door)
    (Decides-and _ _ (period_decides a.period b.period)
    (Decides-and _ _ (Decides-eqb a.member_deductible b.member_deductible)
    (Decides-and _ _ (Decides-eqb a.family_maximum b.family_maximum)
    (Decides-and _ _ (Decides-eqb a.refill_percent b.refill_percent)
    (Decides-and _ _ (Decides-eqb a.max_days b.max_days)
    (Decides-and _ _ (Decides-eqb a.fee b.fee)
    (option_decides Decides-eqb a.family_deductible b.family_deductible))))))))

pub share_decides : (a b : Share) → Decides (share.eq a b) (a ≡ b)
share_decides (Copay m) (Copay n) = Decides-like (m == n) (ap Copay) (λ e. cc) (Decides-eqb m n)
share_decides (Percent m) (Percent n) = Decides-like (m == n) (ap Percent) (λ e. cc) (Decides-eqb m n)
share_decides (Copay m) (Percent n) = (λ e. cc, λ e. cc)
share_decides (Percent m) (Copay n) = (λ e. cc, λ e. cc)

pub drug_decides : (a b : Drug) → Decides (drug.eq a b) (a ≡ b)
drug_decides a b =
    Decides-like
    (drug.eq a b)
    (λ h i. record { share = h.0 i; price = h.1 i })
    (λ e. (cc, cc))
    (Decides-and _ _ (share_decides a.share b.share) (Decides-eqb a.price b.price))

pub listed_decides : (a b : Listed) → Decides (listed.eq a b) (a ≡ b)
listed_decides a b =
    Decides-like
    (listed.eq a b)
    (λ h i. record { product = h.0 i; drug = h.1 i })
    (λ e. (cc, cc))
    (Decides-and _ _ (Decides-eqb a.product b.product) (drug_decides a.drug b.drug))

pub places_decides : (a b : List (Option Listed)) → Decides (pointwise (option_eq listed.eq) a b) (a ≡ b)
places_decides a b = pointwise_decides (option_decides listed_decides) a b

-- where lots and figures are one, the places decide
pub terms_decided : (a b : TermParts) (same_lot same_figures same_places : Bool)
    → same_lot ≡ lot.eq a.lot b.lot → same_figures ≡ figures.eq a.figures b.figures
    → same_places ≡ pointwise (option_eq listed.eq) a.places b.places
    → same_lot ≡ true → same_figures ≡ true → Decides same_places (a ≡ b)
terms_decided a b same_lot same_figures same_places lots figured placed one_lot one_figures =
    let l : a.lot ≡ b.lot = (lot_decides a.lot b.lot).0 (sym lots ∙ one_lot) in
    let f : a.figures ≡ b.figures = (figures_decides a.figures b.figures).0 (sym figured ∙ one_figures) in
    Decides-like
    same_places
    (λ p i. record { lot = l i; figures = f i; places = p i })
    (λ e. ap (λ (t : TermParts). t.places) e)
    (Decides-at same_places _ placed (places_decides a.places b.places))

-- ---- the ledger

pub member_key_decides : (a b : MemberKey) → Decides (member_key.eq a b) (a ≡ b)
member_key_decides a b =
    Decides-like
    (member_key.eq a b)
    (λ h i. record { family = h.0 i; person = h.1 i })
    (λ e. (cc, cc))
    (Decides-and _ _ (bytes_decides a.family b.family) (bytes_decides a.person b.person))

pub member_decides : (a b : Member) → Decides (member.eq a b) (a ≡ b)
member_decides a b =
    Decides-like
    (member.eq a b)
    (λ h i. record { key = h.0 i; coverage = h.1 i })
    (λ e. (cc, cc))
    (Decides-and _ _ (member_key_decides a.key b.key) (period_decides a.coverage b.coverage))

pub row_decides : (a b : Row) → Decides (row.eq a b) (a ≡ b)
row_decides a b =
    Decides-like
    (row.eq a b)
    (λ (key, (family, (person, (days, (pricing, (product, (quantity, number))))))) i. record {
      key = key i;
      family = family i;
      person = person i;
      days = days i;
      pricing = pricing i;
      product = product i;
      quantity = quantity i;
      number = number i;
    })
    (λ e. (cc, (cc, (cc, (cc, (cc, (cc, (cc, cc))))))))
    (Decides-and _ _ (key_decides a.key b.key)
    (Decides-and _ _ (bytes_decides a.family b.family)
    (Decides-and _ _ (bytes_decides a.person b.person)
    (Decides-and _ _ (Decides-eqb a.days b.days)
    (Decides-and _ _ (pricing_decides a.pricing b.pricing)
    (Decides-and _ _ (Decides-eqb a.product b.product)
    (Decides-and _ _ (Decides-eqb a.quantity b.quantity) (Decides-eqb a.number b.number))))))))
