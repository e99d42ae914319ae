-- Meaning: whether a page has an account's claims.
use Rattle.std.specs.Prelude.{Bool, true, nat_le, List, length, sum_by}
use Rattle.rx_report.specs.declared.portion.Portion.{Portion}
use Rattle.rx_report.specs.declared.portion.Portion.TheVariants.{Whole, Provider, Family}
use Rattle.rx_report.specs.declared.section.Section.{Section}
use Rattle.rx_report_text.specs.declared.whole.TheConstants.{MOST_LINES}

-- a provider's or a family's claims always, those of a whole batch where they are few
abbrev pub shows_claims : Portion → List Section → Bool
shows_claims Whole sections = nat_le (sum_by (λ s. length s.lines.now) sections) MOST_LINES
shows_claims (Provider id) sections = true
shows_claims (Family id) sections = true
