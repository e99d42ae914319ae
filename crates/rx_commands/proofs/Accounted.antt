-- The account of the lines that a report keeps adds up.
use Rattle.std.proofs.Common.{◌≡◌, ◌∙◌, ℕ, List, ap, length, map, refl, sym}
use Rattle.rx_commands.proofs.Replied.{one_each}
use Rattle.rx_report.proofs.AddedUp.{accounts_add_up}
use Rattle.rx_report.proofs.Counted.{paired}
use Rattle.rx_report.specs.Lines.{lines_of}
use Rattle.rx_report.specs.Accounts.{IsAccount}
use Rattle.rx_report.specs.AddsUp.{AddsUp, AreLinesOf, IsSettlementOf, entry_of}
use Rattle.rx_report.specs.Groups.{grouped}
use Rattle.rx_report.specs.declared.line.Line.{Line}
use Rattle.rx_report.specs.declared.portion.Portion.{Portion}
use Rattle.rx_commands.proofs.MembersBack.{same_entries}
use Rattle.rx_commands.specs.Adjudicated.{IsAdjudicated}
use Rattle.rx_commands.specs.Forms.{kept_of}
use Rattle.rx_commands.specs.Reported.{IsCounted, HasContents}
use Rattle.rx_commands.specs.declared.batch_report.Report.{Report}
use Rattle.rx_settle.specs.declared.tally.Tally.{Tally}

-- the account of a portion of lines whose answers the tallies count
pub counted_up : (p : Portion) (r : Report) (sections : List (List ℕ × (Tally × List Line))) (total : Tally) → IsCounted r
    → IsAccount p r.settled (kept_of p r) (grouped (kept_of p r)) sections total → AddsUp (kept_of p r) sections total
counted_up p r sections total counted account =
    accounts_add_up p r.settled counted.0 r.lines.items sections total counted.1.1 counted.1.0 account

-- the tallies of a whole batch count the answers of its lines
pub counted_by : (r : Report) → IsAdjudicated r.batch → HasContents r.batch.asked.items r.batch.replies.items r → IsCounted r
counted_by r adjudicated contents =
    let b = r.batch in
    let replied : length b.asked.items ≡ length b.replies.items =
    sym (ap length adjudicated.replies_are ∙ one_each b.lot b.sheet 1 b.asked.items b.opening.ledger) in
    let settlement : IsSettlementOf b.replies.items r.settled =
    record { providers_are = contents.providers_are; total_is = contents.total_is } in
    let paired_so : AreLinesOf r.lines.items b.replies.items =
    ap (map entry_of) contents.lines_are ∙ same_entries b (lines_of b.asked.items b.replies.items)
    ∙ paired b.asked.items b.replies.items (lines_of b.asked.items b.replies.items) refl replied in
    (b.replies.items, (paired_so, settlement))

pub adds_up : (p : Portion) (r : Report) (sections : List (List ℕ × (Tally × List Line))) (total : Tally)
    → IsAdjudicated r.batch → HasContents r.batch.asked.items r.batch.replies.items r
    → IsAccount p r.settled (kept_of p r) (grouped (kept_of p r)) sections total → AddsUp (kept_of p r) sections total
adds_up p r sections total adjudicated contents account =
    counted_up p r sections total (counted_by r adjudicated contents) account
