-- Meaning: what is written on a page.
use Rattle.std.specs.Prelude.{◌≡◌, ◌++◌, ℕ, List, false}
use Rattle.rx_print.specs.declared.page.Page.{Page}

-- where nothing is missing from the page afterwards, nothing was before, and it has this text more
abbrev pub Writes : Page → Page → List ℕ → Type 0
Writes old new text = new.lacks ≡ false → (old.lacks ≡ false) × (new.bytes.items ≡ old.bytes.items ++ text)
