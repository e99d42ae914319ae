-- No fill is of more days than the longest.
use Rattle.std.specs.Prelude.{is_some}
use Rattle.std.proofs.Common.{◌≡◌, ℕ, ◌+◌, ◌-◌, ◌≤◌, true, List, Option, Some, None, refl, subst, inl, inr, arith}
use Rattle.std.specs.List.{All}
use Rattle.std.proofs.lemmas.Bool.{cases_Bool}
use Rattle.rx_sorted.specs.Ascending.{contains_key, item_at}
use Rattle.rx_sorted.proofs.LookUps.{item_at-all, item_at-found}
use Rattle.rx_sorted.proofs.Totals.{All-put}
use Rattle.rx_serial.specs.declared.fill.Fill.{Fill}
use Rattle.rx_serial.specs.declared.fill.FillKey.{FillKey}
use Rattle.rx_serial.specs.Fills.{count_at, fill_cmp, fill_key, lowered, tallied}
use Rattle.rx_serial.proofs.Counting.{fill_exact, fill_total}

abbrev pub IsWithin : ℕ → Fill → Type 0
IsWithin longest f = f.key.when.days ≤ longest

pub within_longer : (longest more : ℕ) (fills : List Fill) → longest ≤ more → All (IsWithin longest) fills
    → All (IsWithin more) fills
within_longer longest more fills le within = λ i d l. let so_far = within i d l in omega (arith, so_far, le)

pub within_tallied : (longest : ℕ) (fills : List Fill) (f : Fill) → All (IsWithin longest) fills → IsWithin longest f
    → All (IsWithin longest) (tallied fills f)
within_tallied longest fills f within own =
    All-put fill_cmp fill_total fill_key (IsWithin longest) fills
    (record { key = f.key; count = count_at fills f.key + f.count }) within own

there : (o : Option Fill) → is_some o ≡ true → (x : Fill) × (o ≡ Some x)
there None h = absurd (let e = h in cc)
there (Some x) h = (x, refl)

pub within_lowered : (longest : ℕ) (fills : List Fill) (k : FillKey) → All (IsWithin longest) fills
    → All (IsWithin longest) (lowered fills k)
within_lowered longest fills k within = elim (cases_Bool (contains_key fill_cmp fill_key fills k)) [
  | inl has ↦
      let entry = there (item_at fill_cmp fill_key fills k) has in
      let short = item_at-all fill_cmp fill_total fill_key (IsWithin longest) fills k entry.0 within entry.1 in
      let same = fill_exact entry.0.key k (item_at-found fill_cmp fill_total fill_key fills k entry.0 entry.1).1 in
      rw has (All-put fill_cmp fill_total fill_key (IsWithin longest) fills
      (record { key = k; count = count_at fills k - 1 }) within
      (subst (λ (j : FillKey). j.when.days ≤ longest) same short))
  | inr absent ↦ rw absent within
]
