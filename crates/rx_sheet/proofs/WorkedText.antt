-- The text of the plain sheet of docs/FORMATS.md is that of the tree in WorkedSheets.
use Rattle.std.proofs.Common.{◌≡◌, Some, refl}
use Rattle.std.specs.Prelude.{codes}
use Rattle.toml.proofs.OnLiterals.{toml_on_literals}
use Rattle.toml.specs.Data.{no_members}
use Rattle.toml.specs.Parse.{parse_document}
use Rattle.rx_sheet.proofs.WorkedSheets.{fee, none, tree}

plain_text : parse_document
    (codes
    "bin = \"900001\"\npcn = \"RXDEMO\"\nperiod_first = \"20260101\"\nperiod_last = \"20261231\"\nmember_deductible = 10000\nfamily_maximum = 30000\nrefill_percent = 75\nmax_days = 90\nfee = 175\n[tiers]\n1 = 1000\n2 = 3000\n[drugs.00001000101]\ntier = \"1\"\nprice = 2500\n[drugs.00002000202]\ntier = \"2\"\nprice = 100000\n[drugs.00003000303]\ntier = \"1\"\nprice = 5000\n") ≡ Some (tree (codes "2") no_members none fee 75)
unfolding toml_on_literals
plain_text = refl
