-- Meaning: the text of a settlement.
use Rattle.std.specs.Prelude.{ℕ, ℤ, pos, ◌-ℤ◌, List, [], ◌∷◌, ◌++◌, codes}
use Rattle.std.specs.List.{flat_map}
use Rattle.std.specs.Fmt.{decimal, signed_decimal}
use Rattle.rx_fields.specs.Clock.{stamp_text}
use Rattle.rx_fields.specs.Digits.{digits_text}
use Rattle.rx_fields.specs.Numbered.{LotParts}
use Rattle.rx_fields.specs.declared.stamp.Stamp.{Stamp}
use Rattle.rx_d0_values.specs.declared.reply.Reply.{Reply}
use Rattle.rx_settle.specs.declared.tally.Tally.{Tally}
use Rattle.rx_settle.specs.Answers.{answers_of, tally}
use Rattle.rx_settle.specs.Providers.{providers, replies_to}

-- the end of a line
abbrev pub line_end : List ℕ
line_end = 10 ∷ []

-- what was paid out less what was taken back
abbrev pub net : Tally → ℤ
net t = pos t.paid_out -ℤ pos t.taken_back

-- the counts and the net, each after a bar, without leading zeros; and the end of the line
abbrev pub counts_text : Tally → List ℕ
counts_text t =
    codes "|" ++ (decimal t.paid ++ (codes "|" ++ (decimal t.duplicate ++ (codes "|" ++ (decimal t.approved
    ++ (codes "|" ++ (decimal t.rejected ++ (codes "|" ++ (signed_decimal (net t) ++ line_end)))))))))

-- the batch number in seven digits, and the stamp
abbrev pub head_line : LotParts → Stamp → List ℕ
head_line lot stamp = codes "SETTLE|1|" ++ (digits_text 7 lot.number ++ (codes "|" ++ (stamp_text stamp ++ line_end)))

-- a provider with the counts of the replies to it
abbrev pub provider_line : List Reply → List ℕ → List ℕ
provider_line replies provider =
    codes "P|" ++ (provider ++ counts_text (tally (answers_of (replies_to provider replies))))

-- the counts of all replies
abbrev pub total_line : List Reply → List ℕ
total_line replies = codes "TOTAL" ++ counts_text (tally (answers_of replies))

-- a head line, a line per provider in order of first appearance, a total line
abbrev pub settlement_text : LotParts → Stamp → List Reply → List ℕ
settlement_text lot stamp replies =
    head_line lot stamp ++ (flat_map (provider_line replies) (providers replies) ++ total_line replies)
