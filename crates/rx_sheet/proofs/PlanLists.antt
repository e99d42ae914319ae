-- The plans of an array, one after another.
use Rattle.std.proofs.Common.{◌≡◌, ℕ, zero, suc, ◌+◌, ◌<◌, ◌≤◌, List, [], ◌∷◌, ◌++◌, drop, get_or, length, Some, Result, Ok, Err, refl, sym, ap, ◌∙◌, append_assoc, arith}
use Rattle.std.specs.Prelude.{codes}
use Rattle.std.proofs.lemmas.List.{append-nil}
use Rattle.toml.specs.Data.{Data, Items, Members, as_array, get_member, no_items, item}
use Rattle.toml.specs.View.{items_view, view}
use Rattle.toml.specs.declared.value.Value.{Value}
use Rattle.rx_text.specs.Results.{◌>>=◌}
use Rattle.rx_text.specs.Outcomes.{UnlessMemory}
use Rattle.rx_sheet.specs.declared.plans_fault.PlansFault.{PlansFault}
use Rattle.rx_sheet.specs.declared.plans_fault.PlansFault.TheVariants as fault
use Rattle.rx_sheet.specs.Plans.{PlanParts, plan_of_value, plans_from, plans_in}
use Rattle.rx_sheet.specs.PlansFault.{lacks_memory}

-- what was read before, and what is still read
abbrev pub after : List PlanParts → Result (List PlanParts) PlansFault → Result (List PlanParts) PlansFault
after front read = read >>= λ plans. Ok (front ++ plans)

regroup : (front : List PlanParts) (p : PlanParts) (read : Result (List PlanParts) PlansFault)
    → after front (read >>= λ plans. Ok (p ∷ plans)) ≡ after (front ++ p ∷ []) read
regroup front p (Ok ps) = ap (λ (qs : List PlanParts). Ok qs) (simp append_assoc)
regroup front p (Err f) = refl

pub goes_on : (front : List PlanParts) (n : ℕ) (value : Data) (more : Items) (p : PlanParts) → plan_of_value n value ≡ Ok p
    → after (front ++ p ∷ []) (plans_from (n + 1) more) ≡ after front (plans_from n (item value more))
unfolding plans_from
goes_on front n value more p h = rw h (sym (regroup front p (plans_from (n + 1) more)))

pub ends : (f : PlansFault) (front : List PlanParts) (n : ℕ) (value : Data) (more : Items) → plan_of_value n value ≡ Err f
    → after front (plans_from n (item value more)) ≡ Err f
unfolding plans_from
ends f front n value more h = rw h refl

pub is_done : (front : List PlanParts) (n : ℕ) → after front (plans_from n no_items) ≡ Ok front
unfolding plans_from
is_done front n = ap (λ (qs : List PlanParts). Ok qs) (append-nil front)

-- a fact holds also where it has to hold only where memory doesn't run out
pub unless_lacking : (f : PlansFault) (P : Type 0) → P → UnlessMemory lacks_memory f P
unless_lacking fault.NotToml P p = p
unless_lacking fault.NoPlans P p = p
unless_lacking (fault.NoTable n) P p = p
unless_lacking (fault.Missing n key) P p = p
unless_lacking (fault.Wrong n key) P p = p
unless_lacking fault.Memory P p = tt

pub weaker : (f : PlansFault) (P Q : Type 0) → (P → Q) → UnlessMemory lacks_memory f P → UnlessMemory lacks_memory f Q
weaker fault.NotToml P Q g p = g p
weaker fault.NoPlans P Q g p = g p
weaker (fault.NoTable n) P Q g p = g p
weaker (fault.Missing n key) P Q g p = g p
weaker (fault.Wrong n key) P Q g p = g p
weaker fault.Memory P Q g p = tt

-- ---- the values of an array

pub items_from : (values : List Value) (at : ℕ) (x : Value) → at < length values → get_or values at x ≡ x
    → items_view (drop at values) ≡ item (view x) (items_view (drop (at + 1) values))
items_from [] at x low is = absurd (omega arith)
items_from (v ∷ values) zero x low is = ap (λ (y : Value). item (view y) (items_view values)) is
items_from (v ∷ values) (suc at) x low is =
    let e : suc (at + 1) ≡ suc at + 1 = omega arith in
    items_from values at x (omega arith) is ∙ ap (λ n. item (view x) (items_view (drop n (v ∷ values)))) e

pub items_gone : (values : List Value) (at : ℕ) → length values ≤ at → items_view (drop at values) ≡ no_items
items_gone [] zero high = refl
items_gone [] (suc at) high = refl
items_gone (v ∷ values) zero high = absurd (omega arith)
items_gone (v ∷ values) (suc at) high = items_gone values at (omega arith)

-- the plans of a table whose array has a value
pub plans_are : (table : Members) (value : Data) (values : List Value) → get_member (codes "plan") table ≡ Some value
    → as_array value ≡ Some (items_view values) → 1 ≤ length values → plans_in table ≡ plans_from 1 (items_view values)
unfolding plans_in
plans_are table value [] there is some = absurd (omega arith)
plans_are table value (v ∷ values) there is some = rw (there, is) refl
