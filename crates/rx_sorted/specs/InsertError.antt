-- Meaning: what an insert answers.
use Rattle.std.specs.Prelude.{Bool, true, false, Result, Ok, Err}
use Rattle.rx_sorted.specs.declared.list.InsertError.{InsertError}
use Rattle.rx_sorted.specs.declared.list.InsertError.TheVariants.{There, Memory}

-- whether the item was refused for its key
abbrev pub is_there : {T A : Type 0} → Result A (InsertError T) → Bool
is_there (Ok a) = false
is_there (Err (There item)) = true
is_there (Err (Memory item)) = false

-- the item that was refused
abbrev pub refused_item : {T : Type 0} → InsertError T → T
refused_item (There item) = item
refused_item (Memory item) = item
