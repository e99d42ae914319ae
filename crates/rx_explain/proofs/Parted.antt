-- A list in parts, and one more item of it.
use Rattle.std.specs.Prelude.{◌==◌}
use Rattle.std.proofs.Common.{◌≡◌, ℕ, ◌+◌, ◌<◌, ◌++◌, Bool, true, false, List, [], ◌∷◌, Vec, reverse}
use Rattle.std.proofs.Common.{take, get_or, set, length, refl, sym, ap, subst, ◌∙◌, inl, inr, arith}
use Rattle.std.specs.List.{filter, find}
use Rattle.std.proofs.lemmas.Bool.{cases_Bool, cases_eq}
use Rattle.std.proofs.lemmas.List.{append-nil, get_or-set_other, get_or-set_same, length-set, reverse-append, take_more}
use Rattle.std.proofs.lemmas.List.Elements.{filter-append}
use Rattle.std.proofs.lemmas.List.Sums.{fold-append}
use Rattle.std.proofs.lemmas.Bool.{and_parts}
use Rattle.std.specs.Option.{option_map}
use Rattle.std.specs.Ordering.{is_eq}
use Rattle.rx_fields.specs.Order.{key_cmp}
use Rattle.rx_fields.specs.declared.key.Key.{Key}
use Rattle.rx_ledger.proofs.Orders.{key_exact}
use Rattle.rx_sorted.proofs.Keys.{Equal-from_is_eq}
use Rattle.rx_explain.specs.declared.at.At.{At}
use Rattle.rx_explain.specs.declared.events.Event.{Event}
use Rattle.rx_explain.specs.Traces.{pays_before, returns_after, source_at, source_of, taken_back_at}
use Rattle.rx_explain.specs.Parts.{AreEventParts, part_of_key, part_of_text, part_with, parts_count}

-- one more byte of a text
pub part_next : (bytes : List ℕ) (i : ℕ) (b : ℕ) → i < length bytes → b ≡ get_or bytes i b
    → part_of_text (take (i + 1) bytes) ≡ part_with (part_of_text (take i bytes)) b
part_next bytes i b within is =
    ap part_of_text (take_more bytes i b within ∙ ap (λ x. take i bytes ++ x ∷ []) (sym is))
    ∙ fold-append part_with 0 (take i bytes) (b ∷ [])

-- an item that passes one test is found among those that pass another, where whatever passes the one passes the other
pub find_kept : {X : Type 0} (p q : X → Bool) → ((x : X) → p x ≡ true → q x ≡ true) → (xs : List X)
    → find p (filter q xs) ≡ find p xs
find_kept p q all [] = refl
find_kept p q all (x ∷ xs) = elim (cases_Bool (q x)) [
  | inl kept ↦ elim (cases_Bool (p x)) [
    | inl passes ↦ rw (kept, passes) refl
    | inr fails ↦ rw (kept, fails) (find_kept p q all xs)
  ]
  | inr left ↦ elim (cases_Bool (p x)) [
    | inl passes ↦ absurd (let e : true ≡ false = sym (all x passes) ∙ left in cc)
    | inr fails ↦ rw (left, fails) (find_kept p q all xs)
  ]
]

pub reverse_kept : {X : Type 0} (q : X → Bool) (xs : List X) → reverse (filter q xs) ≡ filter q (reverse xs)
reverse_kept q [] = refl
reverse_kept q (x ∷ xs) =
    let turned : reverse (x ∷ xs) ≡ reverse xs ++ x ∷ [] = reverse-append (x ∷ []) xs in
    let parted : filter q (reverse (x ∷ xs)) ≡ filter q (reverse xs) ++ filter q (x ∷ []) =
    ap (filter q) turned ∙ filter-append q (reverse xs) (x ∷ []) in
    elim (cases_Bool (q x)) [
      | inl kept ↦
          let here : reverse (x ∷ filter q xs) ≡ filter q (reverse xs) ++ x ∷ [] =
          reverse-append (x ∷ []) (filter q xs) ∙ ap (λ ys. ys ++ x ∷ []) (reverse_kept q xs) in
          let there : filter q (reverse xs) ++ x ∷ [] ≡ filter q (reverse (x ∷ xs)) = sym (rw kept at parted) in
          rw kept (here ∙ there)
      | inr left ↦
          let there : filter q (reverse xs) ≡ filter q (reverse (x ∷ xs)) =
          sym (append-nil (filter q (reverse xs))) ∙ sym (rw left at parted) in
          rw left (reverse_kept q xs ∙ there)
    ]

-- one more event goes after those of its part
module _ {Z : Type 0} (parts : List (Vec Event Z)) (events : List Event) (e : Event) (d p : Vec Event Z)
    (are : AreEventParts parts events) (within : part_of_key e.key < parts_count)
    (is : p.items ≡ (get_or parts (part_of_key e.key) d).items ++ e ∷ []) where
  own_more : (part : ℕ) (f : Vec Event Z) → part < parts_count
      → (get_or (set parts (part_of_key e.key) p) part f).items
      ≡ filter (λ (x : Event). part_of_key x.key == part) (events ++ e ∷ [])
  own_more part f inside =
      let own = part_of_key e.key in
      let there : own < length parts = rw are.as_many within in
      let split = filter-append (λ (x : Event). part_of_key x.key == part) events (e ∷ []) in
      elim (cases_eq own part) [
        | inl same ↦
            let here : (get_or (set parts own p) part f).items ≡ p.items =
            subst (λ n. (get_or (set parts own p) n f).items ≡ p.items) same
            (ap (λ (v : Vec Event Z). v.items) (get_or-set_same parts own p f there)) in
            let kept : (part_of_key e.key == part) ≡ true = rw same (grind arith) in
            let both = rw kept at split in
            here ∙ is
            ∙ ap (λ xs. xs ++ e ∷ [])
            (subst (λ n. (get_or parts n d).items ≡ filter (λ (x : Event). part_of_key x.key == part) events) (sym same)
            (are.own part d inside))
            ∙ sym both
        | inr other ↦
            let left : (part_of_key e.key == part) ≡ false = grind (arith, other) in
            let alone = rw left at split in
            ap (λ (v : Vec Event Z). v.items) (get_or-set_other parts own part p f (λ same. other (sym same)))
            ∙ are.own part f inside
            ∙ sym (append-nil (filter (λ (x : Event). part_of_key x.key == part) events)) ∙ sym alone
      ]

  pub parts_more : AreEventParts (set parts (part_of_key e.key) p) (events ++ e ∷ [])
  parts_more = record {
    as_many = length-set parts (part_of_key e.key) p ∙ are.as_many;
    own = own_more;
  }

-- ---- what happened under a key

-- whatever has a fill key is in the part of that key
same_part : (j k : Key) → is_eq (key_cmp j k) ≡ true → (part_of_key j == part_of_key k) ≡ true
same_part j k same =
    let e : j ≡ k = key_exact j k (Equal-from_is_eq (key_cmp j k) same) in
    rw e (grind arith)

pays_near : (key : Key) (at : At) (e : Event) → pays_before key at e ≡ true → (part_of_key e.key == part_of_key key) ≡ true
pays_near key at e pays =
    same_part e.key key (and_parts _ _ (and_parts _ _ pays).0).1

returns_near : (key : Key) (at : At) (e : Event) → returns_after key at e ≡ true
    → (part_of_key e.key == part_of_key key) ≡ true
returns_near key at e returns =
    same_part e.key key (and_parts _ _ (and_parts _ _ returns).0).1

abbrev pub near : List Event → Key → List Event
near events key = filter (λ e. part_of_key e.key == part_of_key key) events

pub source_near : (events : List Event) (key : Key) (at : At) → source_of (near events key) key at ≡ source_of events key at
source_near events key at =
    let q : Event → Bool = λ e. part_of_key e.key == part_of_key key in
    ap (λ o. source_at (option_map (λ (e : Event). e.at) o))
    (ap (find (pays_before key at)) (reverse_kept q events)
    ∙ find_kept (pays_before key at) q (pays_near key at) (reverse events))

pub taken_back_near : (events : List Event) (key : Key) (at : At)
    → taken_back_at (near events key) key at ≡ taken_back_at events key at
taken_back_near events key at =
    ap (option_map (λ (e : Event). e.at))
    (find_kept (returns_after key at) (λ e. part_of_key e.key == part_of_key key) (returns_near key at) events)
