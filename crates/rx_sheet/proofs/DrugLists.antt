-- The drugs of a table, one after another.
use Rattle.std.proofs.Common.{◌≡◌, true, ℕ, List, [], ◌∷◌, ◌++◌, Result, Ok, Err, refl, sym, ap, append_assoc}
use Rattle.std.proofs.lemmas.List.{append-nil}
use Rattle.std.proofs.lemmas.List.Folds.{list_all-append}
use Rattle.toml.specs.Data.{Data, Members, no_members, member}
use Rattle.rx_ledger.specs.Plan.{are_drugs, is_drug}
use Rattle.rx_ledger.specs.declared.sheet.Listed.{Listed}
use Rattle.rx_sheet.specs.declared.fault.SheetFault.{SheetFault}
use Rattle.rx_sheet.specs.declared.fault.SheetFault.TheVariants as fault
use Rattle.rx_sheet.specs.Drugs.{listed_in, drugs_of}
use Rattle.rx_text.specs.Results.{◌>>=◌}
use Rattle.rx_sheet.specs.Fault.{UnlessMemory}

-- what was read before, and what is still read
abbrev pub with_front : List Listed → Result (List Listed) SheetFault → Result (List Listed) SheetFault
with_front front read = read >>= λ drugs. Ok (front ++ drugs)

regroup : (front : List Listed) (d : Listed) (read : Result (List Listed) SheetFault)
    → with_front front (read >>= λ drugs. Ok (d ∷ drugs)) ≡ with_front (front ++ d ∷ []) read
regroup front d (Ok ds) = ap (λ (es : List Listed). Ok es) (simp append_assoc)
regroup front d (Err f) = refl

pub goes_on : (front : List Listed) (tiers : Members) (k : List ℕ) (d : Data) (ms : Members) (e : Listed)
    → listed_in tiers k d ≡ Ok e
    → with_front (front ++ e ∷ []) (drugs_of tiers ms) ≡ with_front front (drugs_of tiers (member k d ms))
unfolding drugs_of
goes_on front tiers k d ms e h = rw h (sym (regroup front e (drugs_of tiers ms)))

pub ends : (f : SheetFault) (front : List Listed) (tiers : Members) (k : List ℕ) (d : Data) (ms : Members)
    → listed_in tiers k d ≡ Err f → with_front front (drugs_of tiers (member k d ms)) ≡ Err f
unfolding drugs_of
ends f front tiers k d ms h = rw h refl

pub is_done : (front : List Listed) (tiers : Members) → with_front front (drugs_of tiers no_members) ≡ Ok front
unfolding drugs_of
is_done front tiers = ap (λ (es : List Listed). Ok es) (append-nil front)

-- a fact holds also where it has to hold only where memory doesn't run out
pub unless_memory : (f : SheetFault) (P : Type 0) → P → UnlessMemory f P
unless_memory fault.NotToml P p = p
unless_memory (fault.Missing key) P p = p
unless_memory (fault.Wrong key) P p = p
unless_memory fault.Memory P p = tt

-- one more drug within its ranges
pub are_drugs-last : (front : List Listed) (d : Listed) → are_drugs front ≡ true → is_drug d.drug ≡ true
    → are_drugs (front ++ d ∷ []) ≡ true
are_drugs-last front d all one = rw (list_all-append (λ (l : Listed). is_drug l.drug) front (d ∷ []), all, one) refl
