-- Rows that are kept in vectors: what reading one and writing one over it are in the rows themselves.
use Rattle.std.proofs.Common.{◌≡◌, ◌≢◌, ℕ, suc, ◌+◌, ◌-◌, ◌<◌, ◌≤◌, cond, ◌==◌, List, [], ◌∷◌, ◌++◌, length, get_or, map}
use Rattle.std.proofs.Common.{set, take, Option, Some, None, MatchOption, refl, ap, sym, ◌∙◌, inl, inr, arith}
use Rattle.std.specs.Option.{option_to_list}
use Rattle.std.proofs.lemmas.Bool.{cases_Bool, eqb-false, eqb-true}
use Rattle.std.proofs.lemmas.List.{append-nil, append_assoc, get_or-map, length-map, map-set, set-get_or}
use Rattle.rx_schedule.specs.Links.{AreCounted, AreFree, number_at, row_of}
use Rattle.rx_schedule.proofs.Running.{taken_free}
use Rattle.rx_schedule.proofs.Times.{row-other, row-same}

pub row_read : {V : Type 0} (items : V → List ℕ) (rows : List V) (p : ℕ) (v : V) → p - 1 < length rows
    → v ≡ get_or rows (p - 1) v → row_of (map items rows) p ≡ items v
row_read items rows p v lt is = get_or-map items rows (p - 1) v [] lt ∙ ap items (sym is)

pub row_now : {V : Type 0} (items : V → List ℕ) (rows : List V) (p : ℕ) (v : V) → 1 ≤ p → p ≤ length rows
    → row_of (map items (set rows (p - 1) v)) p ≡ items v
row_now items rows p v one to = ap (λ rs. row_of rs p) (map-set items rows (p - 1) v)
    ∙ row-same (map items rows) p (items v) one (let e : length (map items rows) ≡ length rows = length-map rows items in omega arith)

pub others_now : {V : Type 0} (items : V → List ℕ) (rows : List V) (p : ℕ) (v : V) → 1 ≤ p → (q : ℕ) → 1 ≤ q → q ≢ p
    → row_of (map items (set rows (p - 1) v)) q ≡ row_of (map items rows) q
others_now items rows p v one q from apart = ap (λ rs. row_of rs q) (map-set items rows (p - 1) v)
    ∙ row-other (map items rows) p q (items v) one from apart

-- the order after a link was taken away
pub free_now : (n : ℕ) (rows : List (List ℕ)) (waiting order : List ℕ) (c : AreCounted n rows waiting)
    (f : AreFree n waiting order) (p q : ℕ) (rest : List ℕ) (one : 1 ≤ p) (to : p ≤ n) (popped : row_of rows p ≡ rest ++ q ∷ [])
    (now : ℕ) (order' : List ℕ) → suc now ≡ number_at waiting q → order' ≡ cond (now == 0) (order ++ q ∷ []) order
    → AreFree n (set waiting (q - 1) now) order'
free_now n rows waiting order c f p q rest one to popped now order' is e = elim (cases_Bool (now == 0)) [
  | inl t ↦ taken_free n rows waiting order c f p q rest one to popped now order' is
      (inl (eqb-true now 0 t, e ∙ rw t refl))
  | inr g ↦ taken_free n rows waiting order c f p q rest one to popped now order' is
      (inr (eqb-false now 0 g, e ∙ rw g refl))
]

pub more_now : (first order order' : List ℕ) (q now : ℕ) → (more : List ℕ) × (order ≡ first ++ more)
    → order' ≡ cond (now == 0) (order ++ q ∷ []) order → (more : List ℕ) × (order' ≡ first ++ more)
more_now first order order' q now w e = elim (cases_Bool (now == 0)) [
  | inl t ↦ (w.0 ++ q ∷ [], e ∙ rw t (ap (λ xs. xs ++ q ∷ []) w.1 ∙ append_assoc first w.0 (q ∷ [])))
  | inr f ↦ (w.0, e ∙ rw f w.1)
]

-- a row that is written over itself
pub same_rows : {V : Type 0} (items : V → List ℕ) (rows : List V) (p : ℕ) (v : V)
    → items v ≡ row_of (map items rows) p → map items (set rows (p - 1) v) ≡ map items rows
same_rows items rows p v is = map-set items rows (p - 1) v ∙ ap (set (map items rows) (p - 1)) is
    ∙ set-get_or (map items rows) (p - 1) []

-- a vector that gave no element has none, before and after
pub none_popped : (result : Option ℕ) (old new : List ℕ) (len len' : ℕ) → ((x : ℕ) → result ≡ Some x → ⊥)
    → old ≡ new ++ option_to_list result → MatchOption result ((len ≡ 0) × (len' ≡ 0)) (λ _. len' + 1 ≡ len)
    → new ≡ take (len - 1) old → (new ≡ old) × (new ≡ [])
none_popped None old new len len' none items cases rest =
    (sym (items ∙ append-nil new), rest ∙ ap (λ n. take (n - 1) old) cases.0)
none_popped (Some x) old new len len' none items cases rest = absurd (none x refl)
