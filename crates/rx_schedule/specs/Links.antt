-- Plumbing: links: of each book, from each record that names it to the next. What waits on what is counted in them.
use Rattle.std.specs.Prelude.{◌≡◌, ℕ, ◌-◌, ◌<◌, ◌≤◌, ◌⊎◌, Bool, true, ◌&&◌, ◌==◌, if◌then◌else◌, List, [], ◌∷◌, length, slice_index_or}
use Rattle.std.specs.List.{count_by, list_any, sum_by}
use Rattle.std.specs.Ordering.{eq_by_cmp, is_eq, nat_cmp, ordering_then}
use Rattle.std.specs.declared.cmp.Ordering.{Ordering}
use Rattle.rx_books_parcel.specs.Footprints.{FootprintParts}
use Rattle.rx_schedule.specs.declared.links.Link.{Link}
use Rattle.rx_schedule.specs.Waves.{shares}

-- how many links go from this place to that one
abbrev pub linked : ℕ → ℕ → List Link → ℕ
linked p q links = count_by (λ l. (l.from == p) && (l.to == q)) links

-- links go forward between sharers, and from each record there is one to each later sharer, or to one before it that shares
-- with it as well
pub record AreLinks (fs : List FootprintParts) (links : List Link) : Type 0 where
  pub forward : (p q : ℕ) → 1 ≤ linked p q links → (1 ≤ p) × (p < q) × (q ≤ length fs) × (shares fs p q ≡ true)
  pub reaches : (j i : ℕ) → 1 ≤ j → j < i → i ≤ length fs → shares fs j i ≡ true
      → (q : ℕ) × (1 ≤ linked j q links) × (q ≤ i) × ((q ≡ i) ⊎ (shares fs q i ≡ true))

-- ---- uses of names, each with the place where it is named

module _ {K : Type 0} (cmp : K → K → Ordering) where
  -- by the name, then by the place
  abbrev pub use_cmp : K × ℕ → K × ℕ → Ordering
  use_cmp a b = ordering_then (cmp a.0 b.0) (nat_cmp a.1 b.1)

  -- the name is used at the place
  abbrev pub is_used : List (K × ℕ) → K → ℕ → Bool
  is_used uses k p = list_any (eq_by_cmp use_cmp (k, p)) uses

  -- from each use to the one after it, where they are of one name
  abbrev pub links_in : List (K × ℕ) → List Link
  links_in [] = []
  links_in (x ∷ []) = []
  links_in (x ∷ y ∷ ys) =
      if is_eq (cmp x.0 y.0) then record { from = x.1; to = y.1 } ∷ links_in (y ∷ ys) else links_in (y ∷ ys)

-- ---- the places that each place is linked to, in rows, and for how many links each place waits

-- how often the place is in the list, and in all rows
abbrev pub times : ℕ → List ℕ → ℕ
times q xs = count_by (λ x. x == q) xs

abbrev pub total : ℕ → List (List ℕ) → ℕ
total q rows = sum_by (times q) rows

-- what a place's row has, and what its number is; places count from 1
abbrev pub row_of : List (List ℕ) → ℕ → List ℕ
row_of rows p = slice_index_or rows (p - 1) []

abbrev pub number_at : List ℕ → ℕ → ℕ
number_at numbers p = slice_index_or numbers (p - 1) 0

-- each row has the places that its own is linked to
pub record AreRows (n : ℕ) (links : List Link) (rows : List (List ℕ)) : Type 0 where
  pub as_many : length rows ≡ n
  pub linked : (p q : ℕ) → 1 ≤ p → p ≤ n → times q (row_of rows p) ≡ linked p q links

-- each place's number is how often it is in the rows, which have no other places
pub record AreCounted (n : ℕ) (rows : List (List ℕ)) (waiting : List ℕ) : Type 0 where
  pub as_many_rows : length rows ≡ n
  pub as_many : length waiting ≡ n
  pub counted : (q : ℕ) → 1 ≤ q → q ≤ n → number_at waiting q ≡ total q rows
  pub within : (p q : ℕ) → 1 ≤ p → p ≤ n → 1 ≤ times q (row_of rows p) → (1 ≤ q) × (q ≤ n)

-- the list has each place once that waits for no link, and no other
pub record AreFree (n : ℕ) (waiting order : List ℕ) : Type 0 where
  pub all : (q : ℕ) → 1 ≤ q → q ≤ n → number_at waiting q ≡ 0 → 1 ≤ times q order
  pub there : (q : ℕ) → 1 ≤ times q order → (1 ≤ q) × (q ≤ n) × (number_at waiting q ≡ 0)
  pub once : (q : ℕ) → times q order ≤ 1

-- ---- while records are passed

-- the rows of the places that were passed are empty, and those of the others have their links
pub record AreLeft (fs : List FootprintParts) (rows : List (List ℕ)) (passed : List ℕ) : Type 0 where
  pub forward : (p q : ℕ) → 1 ≤ p → p ≤ length fs → 1 ≤ times q (row_of rows p)
      → (p < q) × (q ≤ length fs) × (shares fs p q ≡ true)
  pub reaches : (j i : ℕ) → 1 ≤ j → j < i → i ≤ length fs → shares fs j i ≡ true → (1 ≤ times j passed) ⊎
      ((q : ℕ) × (1 ≤ times q (row_of rows j)) × (q ≤ i) × ((q ≡ i) ⊎ (shares fs q i ≡ true)))
  pub emptied : (p q : ℕ) → 1 ≤ times p passed → times q (row_of rows p) ≡ 0
