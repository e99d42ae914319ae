-- The sections of an account have the lines of their providers.
use Rattle.std.proofs.Common.{◌≡◌, ℕ, List, map, refl, sym, subst}
use Rattle.std.specs.List.{All, filter}
use Rattle.std.proofs.lemmas.List.Elements.{All-map}
use Rattle.rx_report.specs.declared.line.Line.{Line}
use Rattle.rx_report.specs.declared.portion.Portion.TheVariants as portion
use Rattle.rx_report.specs.Accounts.{SectionsHaveOwnLines, is_of, with_lines, with_tally}
use Rattle.rx_report.specs.Groups.{group, grouped, provider_of, providers}
use Rattle.rx_report.proofs.Parted.{lines_at_key}
use Rattle.rx_settle.specs.Providers.{is_same}
use Rattle.rx_settle.specs.declared.tally.Tally.{Tally}

abbrev IsOwn : List Line → List ℕ × (Tally × List Line) → Type 0
IsOwn kept s = s.1.1 ≡ filter (λ l. is_same s.0 (provider_of l)) kept

of_tallies : (kept : List Line) (es : List (List ℕ × Tally)) → All (IsOwn kept) (map (with_lines (grouped kept)) es)
of_tallies kept es = All-map (IsOwn kept) (with_lines (grouped kept)) es (λ k d h. lines_at_key _ kept)

of_groups : (kept : List Line) → All (IsOwn kept) (map with_tally (grouped kept))
of_groups kept = All-map (IsOwn kept) with_tally (grouped kept)
    (All-map (λ g. IsOwn kept (with_tally g)) (group kept) (providers kept) (λ k d h. refl))

pub sections_have_own_lines : SectionsHaveOwnLines
sections_have_own_lines portion.Whole t kept ss total account =
    subst (All (IsOwn kept)) (sym account.0) (of_tallies kept t.providers.entries)
sections_have_own_lines (portion.Provider id) t kept ss total account =
    subst (All (IsOwn kept)) (sym account.0) (of_tallies kept (filter (is_of id.now) t.providers.entries))
sections_have_own_lines (portion.Family id) t kept ss total account =
    subst (All (IsOwn kept)) (sym account.0) (of_groups kept)
