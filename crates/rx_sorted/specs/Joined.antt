-- Plumbing: ascending lists put together.
use Rattle.std.specs.Prelude.{◌≡◌, List, [], Some}
use Rattle.std.specs.List.{Contains, fold}
use Rattle.std.specs.declared.cmp.Ordering.{Ordering}
use Rattle.rx_sorted.specs.Ascending.{IsAscending, item_at, put_all}

-- the items of all the lists, each in its place; where two lists have a key, the later one's item
abbrev pub joined : {X K : Type 0} → (K → K → Ordering) → (X → K) → List (List X) → List X
joined cmp key lists = fold (put_all cmp key) [] lists

-- each name's list ascends, and where the lists of two names have a key they have the same item
pub record Agree {B X K : Type 0} (cmp : K → K → Ordering) (key : X → K) (names : List B)
    (list_of : B → List X) : Type 0 where
  pub ascending : (b : B) → Contains names b → IsAscending cmp key (list_of b)
  pub one : (b c : B) (k : K) (x y : X) → Contains names b → Contains names c
      → item_at cmp key (list_of b) k ≡ Some x → item_at cmp key (list_of c) k ≡ Some y → x ≡ y
