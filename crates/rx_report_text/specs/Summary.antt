-- Text: how a page says at its head what an account comes to: counts, net, and a bar of the counts.
use Rattle.std.specs.Prelude.{ℕ, List, ◌++◌, codes}
use Rattle.std.specs.Fmt.{decimal}
use Rattle.rx_print.specs.Money.{signed_dollars}
use Rattle.rx_settle.specs.Settlement.{net}
use Rattle.rx_settle.specs.declared.tally.Tally.{Tally}

-- a count with its name, which is its class too
abbrev pub count_text : List ℕ → ℕ → List ℕ
count_text name count =
    codes "<span class=\"" ++ (name ++ (codes "\"><b>" ++ (decimal count ++ (codes "</b> " ++ (name ++ codes "</span> ")))))

unfoldable pub counts_text : Tally → List ℕ
counts_text t =
    codes "<p class=\"sum\">" ++ (count_text (codes "paid") t.paid ++ (count_text (codes "duplicate") t.duplicate
    ++ (count_text (codes "reversed") t.approved ++ (count_text (codes "rejected") t.rejected
    ++ (codes "<span>net <b>" ++ (signed_dollars (net t) ++ codes "</b></span></p>\n"))))))

-- a part of the bar, which grows with its count
abbrev pub part_text : List ℕ → ℕ → List ℕ
part_text class count =
    codes "<span class=\"" ++ (class ++ (codes "\" style=\"flex-grow:" ++ (decimal count ++ codes "\"></span>")))

unfoldable pub shares_text : Tally → List ℕ
shares_text t =
    codes "<div class=\"shares\">" ++ (part_text (codes "paid") t.paid ++ (part_text (codes "duplicate") t.duplicate
    ++ (part_text (codes "reversed") t.approved ++ (part_text (codes "rejected") t.rejected ++ codes "</div>\n"))))

abbrev pub summary_text : Tally → List ℕ
summary_text t = counts_text t ++ shares_text t
