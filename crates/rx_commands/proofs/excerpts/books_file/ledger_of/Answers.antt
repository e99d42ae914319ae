-- The members and claims of some families are a ledger.
use Rattle.std.proofs.Common.{◌≡◌, ◌∙◌, ap, filter, subst, sym}
use Rattle.rx_ledger.specs.declared.member.Member.{Member}
use Rattle.rx_ledger.specs.declared.row.Row.{Row}
use Rattle.rx_ledger.specs.Ledger.{IsLedger, Ledger}
use Rattle.rx_books_family.proofs.BookValues.{ledger_path}
use Rattle.rx_commands.specs.ExcerptParts.{is_one_of, ledger_of}
use Rattle.rx_commands.proofs.ExcerptLedgers.{IsLedger-of}
use Rattle.rx_commands.proofs.excerpts.books_file.ledger_of.Goals as goal

pub from_lists-requires : goal.from_lists-requires
from_lists-requires c =
    let fs = c.args.families.now in
    let L = c.args.ledger.now in
    let made : Ledger = record { members = c.in_ok-members.members; rows = c.in_ok-rows.rows } in
    let members : made.members ≡ (ledger_of fs L).members =
    c.in_ok-members.ensures ∙ ap (filter (λ (m : Member). is_one_of fs m.key.family)) c.members.ensures.value in
    let rows : made.rows ≡ (ledger_of fs L).rows =
    c.in_ok-rows.ensures ∙ ap (filter (λ (r : Row). is_one_of fs r.family)) c.rows.ensures.value in
    subst IsLedger (sym (ledger_path made (ledger_of fs L) members rows)) (IsLedger-of fs L c.members.ensures.within)

pub returns-clause-value : goal.returns-clause-value
returns-clause-value c =
    let fs = c.args.families.now in
    let L = c.args.ledger.now in
    let members : c.from_lists.result.members ≡ (ledger_of fs L).members =
    ap (λ (M : Ledger). M.members) c.from_lists.ensures ∙ c.in_ok-members.ensures
    ∙ ap (filter (λ (m : Member). is_one_of fs m.key.family)) c.members.ensures.value in
    let rows : c.from_lists.result.rows ≡ (ledger_of fs L).rows =
    ap (λ (M : Ledger). M.rows) c.from_lists.ensures ∙ c.in_ok-rows.ensures
    ∙ ap (filter (λ (r : Row). is_one_of fs r.family)) c.rows.ensures.value in
    ledger_path c.from_lists.result (ledger_of fs L) members rows
