-- Meaning: what a page is for: which parts it has, and how the pages of a folder are named.
use Rattle.std.specs.Prelude.{ℕ, ◌+◌, Bool, true, false, List, ◌++◌, codes}
use Rattle.std.specs.Fmt.{decimal}
use Rattle.rx_report_text.specs.declared.layout.Layout.{Layout}
use Rattle.rx_report_text.specs.declared.layout.Layout.TheVariants.{Claims, Commands, Index, Leaf}

-- a page for itself has its claims, or in their place the command for them
abbrev pub layout_of : Bool → Layout
layout_of true = Claims
layout_of false = Commands

-- whether the page has claims
abbrev pub has_claims : Layout → Bool
has_claims Claims = true
has_claims Commands = false
has_claims Index = false
has_claims (Leaf field) = true

-- the name of the page of the provider after this many, as p1.html
abbrev pub page_name : ℕ → List ℕ
page_name before = codes "p" ++ (decimal (before + 1) ++ codes ".html")
