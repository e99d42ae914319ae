-- Each row's test in the code is the test of the table, and those above it failed.
use Rattle.std.proofs.Common.{◌≡◌, true, false, Some, None, refl, sym, ap, ◌∙◌, []}
use Rattle.std.specs.Prelude.{nat_lt, not, ◌||◌}
use Rattle.std.specs.List.{list_any}
use Rattle.std.specs.Ordering.{is_gt, is_lt}
use Rattle.std.proofs.lemmas.Bool.{le-ltb, lt-ltb}
use Rattle.rx_fields.specs.Calendar.{day_cmp}
use Rattle.rx_fields.specs.Numbered.{is_within}
use Rattle.rx_ledger.specs.declared.decision.Decision.TheVariants as decisions
use Rattle.rx_ledger.specs.Claims.{asked_on}
use Rattle.rx_ledger.specs.Decisions.{is_too_soon, key_of}
use Rattle.rx_ledger.specs.Ledger.{members_of, row_under, rows_of}
use Rattle.rx_ledger.specs.Members.{of_family, person_in}
use Rattle.rx_ledger.specs.Plan.{drug_of}
use Rattle.rx_ledger.specs.TermList.{plan_of}
use Rattle.rx_ledger.proofs.OfMember.{listed_by-person}
use Rattle.rx_ledger.proofs.table.decide_bill.Goals as goal

pub returns-then-is_before_period : goal.returns-then-is_before_period
returns-then-is_before_period g c =
    let L = g.S.Basis.ledger c.args.basis.now in
    let b = c.args.bill.now in
    let f = c.args.terms.now.figures in
    let date = c.args.occasion.now.date in
    let some : list_any (of_family b.family) L.members ≡ true =
    sym (rw c.parts-parts.ensures at c.has_members.ensures) ∙ c.if-not-has_members.false in
    let person : person_in (members_of L b.family) b.person ≡ Some c.in-Some.member =
    sym (rw c.of.ensures at c.member.ensures) ∙ c.in-Some.is in
    let free : row_under L (key_of (asked_on c.args.occasion.now []) b.reference) ≡ None =
    sym (rw (c.key.ensures, c.parts-parts.ensures) at c.row_under.ensures) ∙ c.in_default-row_under.is in
    let early : is_lt (day_cmp date f.period.first) ≡ true =
    sym (rw c.figures-figures.ensures.value at c.is_before_period.ensures) ∙ c.if-is_before_period.true in
    rw (c.requires.figures, some, person, free, early) refl

pub returns-then-is_after_creation : goal.returns-then-is_after_creation
returns-then-is_after_creation g c =
    let L = g.S.Basis.ledger c.args.basis.now in
    let b = c.args.bill.now in
    let f = c.args.terms.now.figures in
    let date = c.args.occasion.now.date in
    let some : list_any (of_family b.family) L.members ≡ true =
    sym (rw c.parts-parts.ensures at c.has_members.ensures) ∙ c.if-not-has_members.false in
    let person : person_in (members_of L b.family) b.person ≡ Some c.in-Some.member =
    sym (rw c.of.ensures at c.member.ensures) ∙ c.in-Some.is in
    let free : row_under L (key_of (asked_on c.args.occasion.now []) b.reference) ≡ None =
    sym (rw (c.key.ensures, c.parts-parts.ensures) at c.row_under.ensures) ∙ c.in_default-row_under.is in
    let early : is_lt (day_cmp date f.period.first) ≡ false =
    sym (rw c.figures-figures.ensures.value at c.is_before_period.ensures) ∙ c.if-is_before_period.false in
    let late : is_gt (day_cmp date c.args.occasion.now.lot.created) ≡ true =
    sym c.is_after_creation.ensures ∙ c.if-is_after_creation.true in
    rw (c.requires.figures, some, person, free, early, late) refl

pub returns-then-is_outside : goal.returns-then-is_outside
returns-then-is_outside g c =
    let L = g.S.Basis.ledger c.args.basis.now in
    let b = c.args.bill.now in
    let f = c.args.terms.now.figures in
    let date = c.args.occasion.now.date in
    let some : list_any (of_family b.family) L.members ≡ true =
    sym (rw c.parts-parts.ensures at c.has_members.ensures) ∙ c.if-not-has_members.false in
    let person : person_in (members_of L b.family) b.person ≡ Some c.in-Some.member =
    sym (rw c.of.ensures at c.member.ensures) ∙ c.in-Some.is in
    let free : row_under L (key_of (asked_on c.args.occasion.now []) b.reference) ≡ None =
    sym (rw (c.key.ensures, c.parts-parts.ensures) at c.row_under.ensures) ∙ c.in_default-row_under.is in
    let early : is_lt (day_cmp date f.period.first) ≡ false =
    sym (rw c.figures-figures.ensures.value at c.is_before_period.ensures) ∙ c.if-is_before_period.false in
    let late : is_gt (day_cmp date c.args.occasion.now.lot.created) ≡ false =
    sym c.is_after_creation.ensures ∙ c.if-is_after_creation.false in
    let outside : (not (is_within c.in-Some.member.coverage date) || is_gt (day_cmp date f.period.last)) ≡ true =
    sym (rw c.figures-figures.ensures.value at c.is_outside.ensures) ∙ c.if-is_outside.true in
    rw (c.requires.figures, some, person, free, early, late, outside) refl

pub returns-in_default-drug : goal.returns-in_default-drug
returns-in_default-drug g c =
    let L = g.S.Basis.ledger c.args.basis.now in
    let b = c.args.bill.now in
    let f = c.args.terms.now.figures in
    let date = c.args.occasion.now.date in
    let some : list_any (of_family b.family) L.members ≡ true =
    sym (rw c.parts-parts.ensures at c.has_members.ensures) ∙ c.if-not-has_members.false in
    let person : person_in (members_of L b.family) b.person ≡ Some c.in-Some.member =
    sym (rw c.of.ensures at c.member.ensures) ∙ c.in-Some.is in
    let free : row_under L (key_of (asked_on c.args.occasion.now []) b.reference) ≡ None =
    sym (rw (c.key.ensures, c.parts-parts.ensures) at c.row_under.ensures) ∙ c.in_default-row_under.is in
    let early : is_lt (day_cmp date f.period.first) ≡ false =
    sym (rw c.figures-figures.ensures.value at c.is_before_period.ensures) ∙ c.if-is_before_period.false in
    let late : is_gt (day_cmp date c.args.occasion.now.lot.created) ≡ false =
    sym c.is_after_creation.ensures ∙ c.if-is_after_creation.false in
    let outside : (not (is_within c.in-Some.member.coverage date) || is_gt (day_cmp date f.period.last)) ≡ false =
    sym (rw c.figures-figures.ensures.value at c.is_outside.ensures) ∙ c.if-is_outside.false in
    let listed : drug_of (plan_of c.args.terms.now) b.product ≡ None =
    sym (rw c.parts-parts.ensures at c.drug.ensures.value) ∙ c.in_default-drug.is in
    rw (c.requires.figures, some, person, free, early, late, outside, listed) refl

pub returns-then-get-figures : goal.returns-then-get-figures
returns-then-get-figures g c =
    let L = g.S.Basis.ledger c.args.basis.now in
    let b = c.args.bill.now in
    let f = c.args.terms.now.figures in
    let date = c.args.occasion.now.date in
    let some : list_any (of_family b.family) L.members ≡ true =
    sym (rw c.parts-parts.ensures at c.has_members.ensures) ∙ c.if-not-has_members.false in
    let person : person_in (members_of L b.family) b.person ≡ Some c.in-Some.member =
    sym (rw c.of.ensures at c.member.ensures) ∙ c.in-Some.is in
    let free : row_under L (key_of (asked_on c.args.occasion.now []) b.reference) ≡ None =
    sym (rw (c.key.ensures, c.parts-parts.ensures) at c.row_under.ensures) ∙ c.in_default-row_under.is in
    let early : is_lt (day_cmp date f.period.first) ≡ false =
    sym (rw c.figures-figures.ensures.value at c.is_before_period.ensures) ∙ c.if-is_before_period.false in
    let late : is_gt (day_cmp date c.args.occasion.now.lot.created) ≡ false =
    sym c.is_after_creation.ensures ∙ c.if-is_after_creation.false in
    let outside : (not (is_within c.in-Some.member.coverage date) || is_gt (day_cmp date f.period.last)) ≡ false =
    sym (rw c.figures-figures.ensures.value at c.is_outside.ensures) ∙ c.if-is_outside.false in
    let listed : drug_of (plan_of c.args.terms.now) b.product ≡ Some c.in-Some-drug.drug =
    sym (rw c.parts-parts.ensures at c.drug.ensures.value) ∙ c.in-Some-drug.is in
    let days : c.get.result ≡ b.days = rw c.parts-parts.ensures at c.get.ensures.value in
    let many : nat_lt f.max_days b.days ≡ true =
    lt-ltb _ _ (rw (days, c.figures-figures.ensures.value) at c.if-get-figures.true) in
    rw (c.requires.figures, some, person, free, early, late, outside, listed, many) refl

pub returns-then-is_too_soon : goal.returns-then-is_too_soon
returns-then-is_too_soon g c =
    let L = g.S.Basis.ledger c.args.basis.now in
    let b = c.args.bill.now in
    let f = c.args.terms.now.figures in
    let date = c.args.occasion.now.date in
    let some : list_any (of_family b.family) L.members ≡ true =
    sym (rw c.parts-parts.ensures at c.has_members.ensures) ∙ c.if-not-has_members.false in
    let person : person_in (members_of L b.family) b.person ≡ Some c.in-Some.member =
    sym (rw c.of.ensures at c.member.ensures) ∙ c.in-Some.is in
    let free : row_under L (key_of (asked_on c.args.occasion.now []) b.reference) ≡ None =
    sym (rw (c.key.ensures, c.parts-parts.ensures) at c.row_under.ensures) ∙ c.in_default-row_under.is in
    let early : is_lt (day_cmp date f.period.first) ≡ false =
    sym (rw c.figures-figures.ensures.value at c.is_before_period.ensures) ∙ c.if-is_before_period.false in
    let late : is_gt (day_cmp date c.args.occasion.now.lot.created) ≡ false =
    sym c.is_after_creation.ensures ∙ c.if-is_after_creation.false in
    let outside : (not (is_within c.in-Some.member.coverage date) || is_gt (day_cmp date f.period.last)) ≡ false =
    sym (rw c.figures-figures.ensures.value at c.is_outside.ensures) ∙ c.if-is_outside.false in
    let listed : drug_of (plan_of c.args.terms.now) b.product ≡ Some c.in-Some-drug.drug =
    sym (rw c.parts-parts.ensures at c.drug.ensures.value) ∙ c.in-Some-drug.is in
    let days : c.get.result ≡ b.days = rw c.parts-parts.ensures at c.get.ensures.value in
    let many : nat_lt f.max_days b.days ≡ false =
    le-ltb _ _ (rw (days, c.figures-figures.ensures.value) at c.if-get-figures.false) in
    let soon : list_any (is_too_soon f date b) (rows_of L b.family) ≡ true =
    sym (rw c.figures-figures.ensures.value at c.is_too_soon.ensures) ∙ c.if-is_too_soon.true in
    rw (c.requires.figures, some, person, free, early, late, outside, listed, many, soon) refl

pub returns : goal.returns
returns g c =
    let L = g.S.Basis.ledger c.args.basis.now in
    let b = c.args.bill.now in
    let f = c.args.terms.now.figures in
    let date = c.args.occasion.now.date in
    let some : list_any (of_family b.family) L.members ≡ true =
    sym (rw c.parts-parts.ensures at c.has_members.ensures) ∙ c.if-not-has_members.false in
    let person : person_in (members_of L b.family) b.person ≡ Some c.in-Some.member =
    sym (rw c.of.ensures at c.member.ensures) ∙ c.in-Some.is in
    let free : row_under L (key_of (asked_on c.args.occasion.now []) b.reference) ≡ None =
    sym (rw (c.key.ensures, c.parts-parts.ensures) at c.row_under.ensures) ∙ c.in_default-row_under.is in
    let early : is_lt (day_cmp date f.period.first) ≡ false =
    sym (rw c.figures-figures.ensures.value at c.is_before_period.ensures) ∙ c.if-is_before_period.false in
    let late : is_gt (day_cmp date c.args.occasion.now.lot.created) ≡ false =
    sym c.is_after_creation.ensures ∙ c.if-is_after_creation.false in
    let outside : (not (is_within c.in-Some.member.coverage date) || is_gt (day_cmp date f.period.last)) ≡ false =
    sym (rw c.figures-figures.ensures.value at c.is_outside.ensures) ∙ c.if-is_outside.false in
    let listed : drug_of (plan_of c.args.terms.now) b.product ≡ Some c.in-Some-drug.drug =
    sym (rw c.parts-parts.ensures at c.drug.ensures.value) ∙ c.in-Some-drug.is in
    let days : c.get.result ≡ b.days = rw c.parts-parts.ensures at c.get.ensures.value in
    let many : nat_lt f.max_days b.days ≡ false =
    le-ltb _ _ (rw (days, c.figures-figures.ensures.value) at c.if-get-figures.false) in
    let soon : list_any (is_too_soon f date b) (rows_of L b.family) ≡ false =
    sym (rw c.figures-figures.ensures.value at c.is_too_soon.ensures) ∙ c.if-is_too_soon.false in
    let used = rw (c.figures-figures.ensures.value, c.of-2.ensures) at c.used-used.ensures in
    let paid = rw c.figures-figures.ensures.value at c.payment.ensures in
    rw (c.requires.figures, some, person, free, early, late, outside, listed, many, soon) (ap decisions.Payable (paid (rows_of L b.family) used))

-- ---- the member that is found is listed

pub is_too_soon-requires-clause-listed : goal.is_too_soon-requires-clause-listed
is_too_soon-requires-clause-listed g c =
    let L = g.S.Basis.ledger c.args.basis.now in
    let b = c.args.bill.now in
    let person : person_in (members_of L b.family) b.person ≡ Some c.in-Some.member =
    sym (rw c.of.ensures at c.member.ensures) ∙ c.in-Some.is in
    listed_by-person L.members b.family b.person c.in-Some.member person

pub used-used-requires-clause-listed : goal.used-used-requires-clause-listed
used-used-requires-clause-listed g c =
    let L = g.S.Basis.ledger c.args.basis.now in
    let b = c.args.bill.now in
    let person : person_in (members_of L b.family) b.person ≡ Some c.in-Some.member =
    sym (rw c.of.ensures at c.member.ensures) ∙ c.in-Some.is in
    rw c.of-2.ensures (listed_by-person L.members b.family b.person c.in-Some.member person)
