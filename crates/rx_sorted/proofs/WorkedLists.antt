-- The definitions at lists that are written out, so that a change of one is seen.
use Rattle.std.proofs.Common.{◌≡◌, ℕ, List, [], ◌∷◌, true, false, Some, refl}
use Rattle.std.specs.Ordering.{nat_cmp}
use Rattle.std.specs.declared.cmp.Ordering.TheVariants.{Less, Equal, Greater}
use Rattle.rx_sorted.specs.Ascending.{contains_key, IsAscending, is_ascending, is_past, item_at, put, put_all, without}
use Rattle.rx_sorted.specs.Joined.{joined}
use Rattle.rx_sorted.specs.Orders.{by_two, text_cmp, triple_cmp}

-- an item is a pair of its key and a value
abbrev key_of : ℕ × ℕ → ℕ
key_of item = item.0

abbrev odd : List (ℕ × ℕ)
odd = (1, 10) ∷ (3, 30) ∷ []

put-between : put nat_cmp key_of odd (2, 20) ≡ (1, 10) ∷ (2, 20) ∷ (3, 30) ∷ []
put-between = refl

put-at_front : put nat_cmp key_of odd (0, 5) ≡ (0, 5) ∷ (1, 10) ∷ (3, 30) ∷ []
put-at_front = refl

put-at_end : put nat_cmp key_of odd (4, 40) ≡ (1, 10) ∷ (3, 30) ∷ (4, 40) ∷ []
put-at_end = refl

put-over : put nat_cmp key_of odd (3, 31) ≡ (1, 10) ∷ (3, 31) ∷ []
put-over = refl

-- the later of two items with one key stays
put_all-both : put_all nat_cmp key_of [] ((3, 30) ∷ (1, 10) ∷ (3, 31) ∷ []) ≡ (1, 10) ∷ (3, 31) ∷ []
put_all-both = refl

joined-three : joined nat_cmp key_of (odd ∷ ((2, 20) ∷ []) ∷ ((3, 31) ∷ []) ∷ []) ≡ (1, 10) ∷ (2, 20) ∷ (3, 31) ∷ []
joined-three = refl

without-one : without nat_cmp key_of odd 1 ≡ (3, 30) ∷ []
without-one = refl

without-none : without nat_cmp key_of odd 2 ≡ odd
without-none = refl

item_at-one : item_at nat_cmp key_of odd 3 ≡ Some (3, 30)
item_at-one = refl

contains_key-none : contains_key nat_cmp key_of odd 2 ≡ false
contains_key-none = refl

ascends : IsAscending nat_cmp key_of odd
ascends = ((refl, tt), (tt, tt))

is_ascending-odd : is_ascending nat_cmp key_of odd ≡ true
is_ascending-odd = refl

-- no two items have one key
is_ascending-twice : is_ascending nat_cmp key_of ((1, 10) ∷ (1, 11) ∷ []) ≡ false
is_ascending-twice = refl

is_past-last : is_past nat_cmp key_of odd 4 ≡ true
is_past-last = refl

is_past-not : is_past nat_cmp key_of odd 3 ≡ false
is_past-not = refl

-- ---- orders of several fields

-- a text stands before the longer ones that begin with it
text_cmp-prefix : text_cmp (97 ∷ []) (97 ∷ 97 ∷ []) ≡ Less
text_cmp-prefix = refl

text_cmp-longer : text_cmp (98 ∷ []) (97 ∷ 97 ∷ []) ≡ Greater
text_cmp-longer = refl

-- the first field decides, and then the second
by_two-first : by_two nat_cmp (λ (k : ℕ × ℕ). k.0) nat_cmp (λ k. k.1) (1, 9) (2, 0) ≡ Less
by_two-first = refl

by_two-second : by_two nat_cmp (λ (k : ℕ × ℕ). k.0) nat_cmp (λ k. k.1) (2, 9) (2, 0) ≡ Greater
by_two-second = refl

triple_cmp-third : triple_cmp (λ (k : ℕ × ℕ × ℕ). k.0) (λ k. k.1) (λ k. k.2) (2024, 2, 28) (2024, 2, 29) ≡ Less
triple_cmp-third = refl

triple_cmp-same : triple_cmp (λ (k : ℕ × ℕ × ℕ). k.0) (λ k. k.1) (λ k. k.2) (2024, 2, 29) (2024, 2, 29) ≡ Equal
triple_cmp-same = refl
