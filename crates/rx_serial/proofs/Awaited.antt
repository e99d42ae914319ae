-- What records ask for is among what they name, and the keys that they name stay.
use Rattle.std.proofs.Common.{◌≡◌, zero, suc, true, List, [], ◌∷◌, get_or, map, Option, Some, None, refl, sym, subst, ap, ◌∙◌, inl, inr, arith}
use Rattle.std.specs.Prelude.{Bool, IfSome}
use Rattle.std.specs.List.{All, Contains, flat_map}
use Rattle.std.specs.Cmp.{IsTotalOrder}
use Rattle.std.specs.Ordering.{is_eq}
use Rattle.std.specs.declared.cmp.Ordering.{Ordering}
use Rattle.std.proofs.lemmas.Bool.{cases_Bool}
use Rattle.std.proofs.lemmas.Cmp.{tied_itself}
use Rattle.std.proofs.lemmas.List.Elements.{Contains-append_left, Contains-append_right, Contains-get_or}
use Rattle.std.proofs.lemmas.List.Folds.{flat_map-map}
use Rattle.rx_fields.specs.Order.{key_cmp}
use Rattle.rx_fields.specs.declared.key.Key.{Key}
use Rattle.rx_d0_values.specs.declared.transaction.Transaction.{Transaction}
use Rattle.rx_d0_values.specs.declared.transaction.Transaction.TheVariants.{Bill, Reverse, Faulty}
use Rattle.rx_d0_values.specs.declared.transmission.Body.{Body}
use Rattle.rx_d0_values.specs.declared.transmission.Body.TheVariants.{Rejected, Heard}
use Rattle.rx_d0_values.specs.declared.transmission.Heard.{Heard as HeardRecord}
use Rattle.rx_d0_values.specs.declared.transmission.Transmission.{Transmission}
use Rattle.rx_sorted.specs.Ascending.{IsAscending, contains_key, has_key}
use Rattle.rx_sorted.proofs.Edits.{same_members}
use Rattle.rx_ledger.specs.declared.row.Row.{Row}
use Rattle.rx_ledger.specs.Basis.{Holds, HoldsRecord}
use Rattle.rx_ledger.specs.Ledger.{Ledger, row_under}
use Rattle.rx_ledger.specs.Named.{key_in}
use Rattle.rx_ledger.proofs.Orders.{key_total}
use Rattle.rx_serial.specs.Named.{keys_in, keys_named, keys_of}
use Rattle.rx_serial.specs.Underway.{IsAwaited, Underway, is_named, scope_of}
use Rattle.rx_serial.proofs.Places.{named_there}

-- ---- lists

-- a key of a list is found in it
contains_there : {K : Type 0} (cmp : K → K → Ordering) (order : IsTotalOrder cmp) (xs : List K) (k : K) → Contains xs k
    → contains_key cmp (λ x. x) xs k ≡ true
contains_there cmp order [] k c = absurd (omega (arith, c.1))
contains_there {K} cmp order (x ∷ xs) k (zero, in_range, is) =
    let here : has_key cmp (λ (y : K). y) k x ≡ true =
    ap (λ y. is_eq (cmp y k)) is ∙ ap is_eq (tied_itself order k) in
    rw here refl
contains_there {K} cmp order (x ∷ xs) k (suc i, in_range, is) = elim (cases_Bool (has_key cmp (λ (y : K). y) k x)) [
  | inl here ↦ rw here refl
  | inr other ↦ rw other (contains_there cmp order xs k (i, omega arith, is))
]

-- what one item gives is among what all give
given_by : {X A : Type 0} (f : X → List A) (xs : List X) (x : X) (y : A) → Contains xs x → Contains (f x) y
    → Contains (flat_map f xs) y
given_by f [] x y c there = absurd (omega (arith, c.1))
given_by {X} f (z ∷ zs) x y (zero, in_range, is) there =
    Contains-append_left (f z) (flat_map f zs) y (subst (λ (w : X). Contains (f w) y) (sym is) there)
given_by f (z ∷ zs) x y (suc i, in_range, is) there =
    Contains-append_right (f z) (flat_map f zs) y (given_by f zs x y (i, omega arith, is) there)

-- ---- one record

any_family : (o : Option Row) → IfSome o (λ r. true ≡ true)
any_family None = tt
any_family (Some r) = refl

module _ (u : Underway) where
  holds_transaction : (h : HeardRecord) (L : Ledger) (t : Transaction)
      → ((k : Key) → Contains (keys_of h t) k → is_named u.keys k ≡ true)
      → Holds (scope_of u) (key_in h) L t
  holds_transaction h L (Bill b) keys = record { key = keys _ (0, omega arith, refl); member = refl; family = refl }
  holds_transaction h L (Reverse v) keys =
      record { key = keys _ (0, omega arith, refl); family = any_family (row_under L (key_in h v.reference)) }
  holds_transaction h L (Faulty f) keys = tt

  holds_body : (L : Ledger) (body : Body) → ((k : Key) → Contains (keys_in body) k → is_named u.keys k ≡ true)
      → HoldsRecord (scope_of u) L body
  holds_body L (Rejected r) keys = tt
  holds_body L (Heard h) keys = λ i d within.
      let t : Transaction = get_or h.list i d in
      let among = Contains-get_or h.list i d within in
      holds_transaction h L t (λ k there. keys k (given_by (keys_of h) h.list t k among there))

  -- ---- all records

  pub all_awaited : {X : Type 0} (now : X → Transmission) (records : List X)
      → ((k : Key) → Contains (keys_named (map now records)) k → Contains u.keys k)
      → All (λ x. IsAwaited u (now x)) records
  all_awaited {X} now records named = λ i d within L.
      let x : X = get_or records i d in
      let among = Contains-get_or records i d within in
      let all : keys_named (map now records) ≡ flat_map (λ (y : X). keys_in (now y).body) records =
      flat_map-map (λ (t : Transmission). keys_in t.body) now records in
      holds_body L (now x).body
      (λ k there. contains_there key_cmp key_total u.keys k
      (named k (subst (λ (ks : List Key). Contains ks k) (sym all)
      (given_by (λ (y : X). keys_in (now y).body) records x k among there))))

-- ---- the keys stay

named_over : (ks ls : List Key) → is_named ks ≡ is_named ls → (k : Key) → Contains ks k → Contains ls k
named_over ks ls same k there =
    named_there ls k (sym (ap (λ (f : Key → Bool). f k) same) ∙ contains_there key_cmp key_total ks k there)

-- ascending keys that answer for the same ones are the same
pub same_keys : (ks ls : List Key) → IsAscending key_cmp (λ k. k) ks → IsAscending key_cmp (λ k. k) ls
    → is_named ks ≡ is_named ls → ks ≡ ls
same_keys ks ls rise_k rise_l same =
    same_members key_cmp key_total (λ (k : Key). k) ks ls rise_k rise_l (named_over ks ls same) (named_over ls ks (sym same))
