-- What a ledger answers of the next line decides what the line is.
use Rattle.std.proofs.Common.{◌≡◌, ℕ, Bool, true, false, Result, Ok, Err, refl, sym, ◌∙◌, inl, inr}
use Rattle.std.specs.Prelude.{◌↔◌}
use Rattle.std.proofs.lemmas.Bool.{and_parts, cases_Bool}
use Rattle.rx_fields.specs.Order.{key_cmp}
use Rattle.rx_ledger.specs.declared.ledger.AddError.{AddError}
use Rattle.rx_ledger.specs.declared.ledger.AddError.TheVariants as error
use Rattle.rx_ledger.specs.declared.row.Row.{Row}
use Rattle.rx_ledger.specs.Ledger.{is_listed, is_taken}
use Rattle.rx_ledger.specs.Members.{member_cmp, member_key}
use Rattle.rx_ledger.specs.Rows.{member_of_row, row_key}
use Rattle.rx_books_text.specs.declared.line.Line.TheVariants as line
use Rattle.rx_books_text.specs.declared.line.MemberLine.{MemberLine}
use Rattle.rx_books_text.specs.Fault.{UnlessMemory, refused}
use Rattle.rx_books_text.specs.Printed.{PrintedParts}
use Rattle.rx_books_text.specs.TextFault.{is_next}
use Rattle.rx_books_text.specs.TextReading.{line_added}
use Rattle.rx_books_text.proofs.Passed.{free_past}

abbrev pub failed : AddError → Result (Unit {0}) AddError
failed e = Err e

abbrev pub added : Unit {0} → Result (Unit {0}) AddError
added x = Ok x

-- a member that may follow isn't listed
free_member : (p : PrintedParts) (m : MemberLine) → is_next p (line.Member m) ≡ true
    → is_listed p.ledger m.member.key ≡ false
free_member p m next =
    free_past member_cmp member_key p.ledger.members m.member.key (and_parts _ _ next).1

-- the key of a claim that may follow is free
free_claim : (p : PrintedParts) (r : Row) → is_next p (line.Claim r) ≡ true → is_taken p.ledger r.key ≡ false
free_claim p r next = free_past key_cmp row_key p.ledger.rows r.key (and_parts _ _ next).1

clash : {A : Type 0} (b : Bool) → b ≡ true → b ≡ false → A
clash b t f = absurd (let e = sym t ∙ f in cc)

pub member_refused : (n : ℕ) (p : PrintedParts) (m : MemberLine) (e : AddError) → is_next p (line.Member m) ≡ true
    → ((failed e ≡ failed error.There) ↔ (is_listed p.ledger m.member.key ≡ true)) → ¬ (failed e ≡ failed error.Unknown)
    → UnlessMemory (refused n e) (line_added n p (line.Member m) ≡ Err (refused n e))
member_refused n p m error.There next there known = clash _ (there.0 refl) (free_member p m next)
member_refused n p m error.Unknown next there known = absurd (known refl)
member_refused n p m error.Memory next there known = tt

pub claim_refused : (n : ℕ) (p : PrintedParts) (r : Row) (e : AddError) → is_next p (line.Claim r) ≡ true
    → ((failed e ≡ failed error.There) ↔ (is_taken p.ledger r.key ≡ true))
    → ((failed e ≡ failed error.Unknown)
    ↔ ((is_taken p.ledger r.key ≡ false) × (is_listed p.ledger (member_of_row r) ≡ false)))
    → UnlessMemory (refused n e) (line_added n p (line.Claim r) ≡ Err (refused n e))
claim_refused n p r error.There next there unknown = clash _ (there.0 refl) (free_claim p r next)
claim_refused n p r error.Unknown next there unknown = rw (next, (unknown.0 refl).1) refl
claim_refused n p r error.Memory next there unknown = tt

-- a claim that was added is of a listed member
pub claim_listed : (p : PrintedParts) (r : Row) (x : Unit {0}) → is_next p (line.Claim r) ≡ true
    → ((added x ≡ failed error.Unknown)
    ↔ ((is_taken p.ledger r.key ≡ false) × (is_listed p.ledger (member_of_row r) ≡ false)))
    → is_listed p.ledger (member_of_row r) ≡ true
claim_listed p r x next unknown = elim (cases_Bool (is_listed p.ledger (member_of_row r))) [
  | inl listed ↦ listed
  | inr other ↦ absurd (let e = unknown.1 (free_claim p r next, other) in cc)
]
