use Rattle.std.proofs.Common.{◌≡◌, refl, true, false, Err, sym, ap, ◌∙◌}
use Rattle.std.proofs.lemmas.Result.{err_from_is_err_and}
use Rattle.rx_ledger.specs.Ledger.{is_listed, is_taken}
use Rattle.rx_ledger.specs.Rows.{member_of_row}
use Rattle.rx_ledger.specs.declared.ledger.AddError.TheVariants as errors
use Rattle.rx_ledger.proofs.Refusals.{fails, holds, not_refused}
use Rattle.rx_ledger.proofs.ledger.Ledger.add_row.Goals as goal

-- ---- a row stands under the key

pub returns-then-contains_key-clause-there : goal.returns-then-contains_key-clause-there
returns-then-contains_key-clause-there c =
    let taken : is_taken c.args.self.now c.args.row.key ≡ true =
    rw (← c.self.view_is) (sym c.contains_key.ensures ∙ c.if-contains_key.true) in
    (λ h. taken, λ t. refl)

pub returns-then-contains_key-clause-unknown : goal.returns-then-contains_key-clause-unknown
returns-then-contains_key-clause-unknown c =
    let taken : is_taken c.args.self.now c.args.row.key ≡ true =
    rw (← c.self.view_is) (sym c.contains_key.ensures ∙ c.if-contains_key.true) in
    (λ h. cc, λ t. absurd (holds _ taken t.0))

-- ---- the key is free, and the member isn't listed

pub returns-then-not-contains_key-clause-there : goal.returns-then-not-contains_key-clause-there
returns-then-not-contains_key-clause-there c =
    let free : is_taken c.args.self.now c.args.row.key ≡ false =
    rw (← c.self.view_is) (sym c.contains_key.ensures ∙ c.if-contains_key.false) in
    (λ h. cc, λ t. absurd (fails _ free t))

pub returns-then-not-contains_key-clause-unknown : goal.returns-then-not-contains_key-clause-unknown
returns-then-not-contains_key-clause-unknown c =
    let free : is_taken c.args.self.now c.args.row.key ≡ false =
    rw (← c.self.view_is) (sym c.contains_key.ensures ∙ c.if-contains_key.false) in
    let unknown : is_listed c.args.self.now (member_of_row c.args.row) ≡ false =
    rw (← c.self.view_is) (sym (rw c.member.ensures at c.contains_key-2.ensures) ∙ c.if-not-contains_key.true) in
    (λ h. (free, unknown), λ t. refl)

-- ---- there is no memory

pub returns-in_err-put_row-clause-there : goal.returns-in_err-put_row-clause-there
returns-in_err-put_row-clause-there c =
    let free : is_taken c.args.self.now c.args.row.key ≡ false =
    rw (← c.self.view_is) (sym c.contains_key.ensures ∙ c.if-contains_key.false) in
    let error = err_from_is_err_and c.from_residual.result c.from_residual.ensures.1 in
    let memory : c.from_residual.result ≡ Err errors.Memory = error.1 ∙ ap Err error.2 in
    not_refused c.from_residual.result errors.There
    (is_taken c.args.self.now c.args.row.key ≡ true) (λ h. let e = sym memory ∙ h in cc)
    (fails _ free)

pub returns-in_err-put_row-clause-unknown : goal.returns-in_err-put_row-clause-unknown
returns-in_err-put_row-clause-unknown c =
    let listed : is_listed c.args.self.now (member_of_row c.args.row) ≡ true =
    rw (← c.self.view_is) (sym (rw c.member.ensures at c.contains_key-2.ensures) ∙ c.if-not-contains_key.false) in
    let error = err_from_is_err_and c.from_residual.result c.from_residual.ensures.1 in
    let memory : c.from_residual.result ≡ Err errors.Memory = error.1 ∙ ap Err error.2 in
    (λ h. absurd (let e = sym memory ∙ h in cc), λ t. absurd (holds _ listed t.1))

-- ---- the row is added

pub returns-clause-there : goal.returns-clause-there
returns-clause-there c =
    let free : is_taken c.args.self.now c.args.row.key ≡ false =
    rw (← c.self.view_is) (sym c.contains_key.ensures ∙ c.if-contains_key.false) in
    (λ h. cc, λ t. absurd (fails _ free t))

pub returns-clause-unknown : goal.returns-clause-unknown
returns-clause-unknown c =
    let listed : is_listed c.args.self.now (member_of_row c.args.row) ≡ true =
    rw (← c.self.view_is) (sym (rw c.member.ensures at c.contains_key-2.ensures) ∙ c.if-not-contains_key.false) in
    (λ h. cc, λ t. absurd (holds _ listed t.1))
