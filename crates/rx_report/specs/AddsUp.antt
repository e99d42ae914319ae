-- Meaning: that an account adds up.
use Rattle.std.specs.Prelude.{◌≡◌, ℕ, List, map}
use Rattle.std.specs.List.{All, filter, flat_map}
use Rattle.std.specs.List.Sorted.{IsPermutation}
use Rattle.rx_d0_values.specs.declared.reply.Answer.{Answer}
use Rattle.rx_d0_values.specs.declared.reply.Reply.{Reply}
use Rattle.rx_report.specs.declared.line.Line.{Line}
use Rattle.rx_report.specs.declared.portion.Portion.{Portion}
use Rattle.rx_report.specs.Accounts.{IsAccount, is_in}
use Rattle.rx_report.specs.Groups.{grouped}
use Rattle.rx_report.specs.Lines.{answer_of}
use Rattle.rx_settle.specs.Answers.{answers_in, answers_of, tally}
use Rattle.rx_settle.specs.Counting.{tallies_of}
use Rattle.rx_settle.specs.declared.settlement.Settled.{Settled}
use Rattle.rx_settle.specs.declared.tally.Tally.{Tally}

-- each section's tally is what its lines come to, the sections together have the lines of the portion, each once, and the
-- total is what those come to
pub record AddsUp (kept : List Line) (sections : List (List ℕ × (Tally × List Line))) (total : Tally) : Type 0 where
  pub own : All (λ s. s.1.0 ≡ tally (map answer_of s.1.1)) sections
  pub each_once : IsPermutation kept (flat_map (λ s. s.1.1) sections)
  pub total_is : total ≡ tally (map answer_of kept)

-- a line's provider and answer
abbrev pub entry_of : Line → List ℕ × Answer
entry_of l = (l.provider, l.answer)

-- each answer with the provider of its reply
abbrev pub entries_of : List Reply → List (List ℕ × Answer)
entries_of replies = flat_map (λ r. map (λ a. (r.echo.provider, a)) (answers_in r.outcome)) replies

-- the lines have the answers of these replies in order, each under its provider
abbrev pub AreLinesOf : List Line → List Reply → Type 0
AreLinesOf lines replies = map entry_of lines ≡ entries_of replies

-- the tallies are those of the settlement of these replies
pub record IsSettlementOf (replies : List Reply) (t : Settled) : Type 0 where
  pub providers_are : t.providers.entries ≡ tallies_of replies
  pub total_is : t.total ≡ tally (answers_of replies)

-- every account of a portion of a settlement's lines adds up
abbrev pub AccountsAddUp : Type 0
AccountsAddUp =
    (p : Portion) (t : Settled) (replies : List Reply) (lines : List Line) (sections : List (List ℕ × (Tally × List Line)))
    (total : Tally) → IsSettlementOf replies t → AreLinesOf lines replies
    → IsAccount p t (filter (is_in p) lines) (grouped (filter (is_in p) lines)) sections total
    → AddsUp (filter (is_in p) lines) sections total
