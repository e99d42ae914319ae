-- Meaning: the settlement of several batches together, and one provider's line of it.
use Rattle.std.specs.Prelude.{ℕ, List, ◌++◌}
use Rattle.std.specs.List.{filter, flat_map}
use Rattle.rx_d0_values.specs.declared.reply.Reply.{Reply}
use Rattle.rx_settle.specs.declared.batch_run.BatchRun.{BatchRun}
use Rattle.rx_settle.specs.Providers.{is_same, providers}
use Rattle.rx_settle.specs.Settlement.{head_line, provider_line, total_line}

-- the head line of each batch
abbrev pub head_lines : List BatchRun → List ℕ
head_lines runs = flat_map (λ r. head_line r.lot r.stamp) runs

-- the head lines, a line per provider of all replies in order of first appearance, a total line
abbrev pub together_text : List BatchRun → List Reply → List ℕ
together_text runs replies =
    head_lines runs ++ (flat_map (provider_line replies) (providers replies) ++ total_line replies)

-- of the lines per provider that of the one with this id
abbrev pub line_alone : List ℕ → List Reply → List ℕ
line_alone id replies = flat_map (provider_line replies) (filter (is_same id) (providers replies))
