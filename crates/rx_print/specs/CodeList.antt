-- Meaning: reject codes with a comma between each two.
use Rattle.std.specs.Prelude.{ℕ, List, [], ◌∷◌, ◌++◌}
use Rattle.std.specs.List.{flat_map}
use Rattle.rx_fields.specs.Codes.{code_text}
use Rattle.rx_fields.specs.declared.code.Code.{Code}

-- a comma before each but the first
abbrev pub after_comma : Code → List ℕ
after_comma c = 44 ∷ code_text c

abbrev pub code_list : List Code → List ℕ
code_list [] = []
code_list (c ∷ cs) = code_text c ++ flat_map after_comma cs
