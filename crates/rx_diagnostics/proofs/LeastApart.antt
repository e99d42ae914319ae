-- The nearest of some known names and one more; what is left of the front or the end that two texts have in common.
use Rattle.std.proofs.Common.{◌≡◌, ◌≢◌, ℕ, ◌+◌, ◌-◌, ◌<◌, ◌≤◌, nat_eq, nat_lt, true, false, if◌then◌else◌}
use Rattle.std.proofs.Common.{List, [], ◌∷◌, ◌++◌, Option, Some, None, filter, map, take, reverse, drop, length, get_or}
use Rattle.std.proofs.Common.{refl, sym, ap, ◌∙◌, arith, rules, inl, inr}
use Rattle.std.proofs.lemmas.Bool.{cases_lt, cases_Bool}
use Rattle.std.proofs.lemmas.Bool.Decides.{nat_tests}
use Rattle.std.proofs.lemmas.Grind.{common_steps}
use Rattle.std.proofs.lemmas.List.{drop_all, get_or-reverse, length-reverse, map-append, take_more}
use Rattle.std.proofs.lemmas.List.Elements.{filter-append}
use Rattle.std.proofs.lemmas.List.Sums.{common_prefix_len-drop_yes, common_prefix_len-drop_no}
use Rattle.rx_diagnostics.specs.Likeness.{apart, in_front, is_like, least_apart, nearer, nearest}

-- less apart than this many bytes the next has to be
abbrev pub bound : List ℕ → Option (List ℕ) → ℕ
bound name None = 4
bound name (Some best) = apart name best

-- the best of those before, unless the next is less apart
abbrev pub with_last : List ℕ → Option (List ℕ) → List ℕ → List ℕ
with_last name None next = next
with_last name (Some best) next = if nat_lt (apart name next) (apart name best) then next else best

three : (name x : List ℕ) (o : Option (List ℕ)) (z : List ℕ)
    → nearer name x (Some (with_last name o z)) ≡ with_last name (Some (nearer name x o)) z
three name x None z = refl
three name x (Some y) z = elim (cases_lt (apart name z) (apart name y)) [
  | inl a ↦ (elim (cases_lt (apart name y) (apart name x)) [
    | inl b ↦ grind (arith, nat_tests)
    | inr b ↦ grind (arith, nat_tests)
  ])
  | inr a ↦ (elim (cases_lt (apart name y) (apart name x)) [
    | inl b ↦ grind (arith, nat_tests)
    | inr b ↦ grind (arith, nat_tests)
  ])
]

pub least_apart-last : (name : List ℕ) (names : List (List ℕ)) (next : List ℕ)
    → least_apart name (names ++ next ∷ []) ≡ Some (with_last name (least_apart name names) next)
least_apart-last name [] next = refl
least_apart-last name (x ∷ names) next =
    ap (λ o. Some (nearer name x o)) (least_apart-last name names next)
    ∙ ap (λ n. Some n) (three name x (least_apart name names) next)

-- one more that is like the name
pub nearest-like : (name : List ℕ) (names : List (List ℕ)) (next : List ℕ) → is_like name next ≡ true
    → nearest name (names ++ next ∷ []) ≡ Some (with_last name (nearest name names) next)
nearest-like name names next like =
    rw (filter-append (is_like name) names (next ∷ []), like) (least_apart-last name (filter (is_like name) names) next)

-- one more that isn't
pub nearest-unlike : (name : List ℕ) (names : List (List ℕ)) (next : List ℕ) → is_like name next ≡ false
    → nearest name (names ++ next ∷ []) ≡ nearest name names
nearest-unlike name names next unlike = rw (filter-append (is_like name) names (next ∷ []), unlike) (search (rules, common_steps))

-- the nearest of these names, and less apart than what the next has to be
pub record IsBest (name : List ℕ) (names : List (List ℕ)) (best : Option (List ℕ)) (least : ℕ) : Type 0 where
  pub best_is : best ≡ nearest name names
  pub least_is : least ≡ bound name best
  pub within : least ≤ 4

-- the next is the nearest
pub next_is : (name : List ℕ) (names : List (List ℕ)) (next : List ℕ) (best : Option (List ℕ)) (least now : ℕ)
    → IsBest name names best least → now ≡ apart name next → now < least → now < length next
    → IsBest name (names ++ next ∷ []) (Some next) now
next_is name names next None least now is now_is less short =
    let like : is_like name next ≡ true = grind (arith, nat_tests, is.least_is, is.within) in
    record {
      best_is = sym (nearest-like name names next like ∙ rw (sym is.best_is) refl);
      least_is = now_is;
      within = omega (arith, is.within);
    }
next_is name names next (Some best) least now is now_is less short =
    let like : is_like name next ≡ true = grind (arith, nat_tests, is.within) in
    let less_is : nat_lt (apart name next) (apart name best) ≡ true = grind (arith, nat_tests, is.least_is) in
    record {
      best_is = sym (nearest-like name names next like ∙ rw (sym is.best_is, less_is) refl);
      least_is = now_is;
      within = omega (arith, is.within);
    }

-- the next is too short to be like the name, or no less apart
pub next_is_short : (name : List ℕ) (names : List (List ℕ)) (next : List ℕ) (best : Option (List ℕ)) (least now : ℕ)
    → IsBest name names best least → now ≡ apart name next → length next ≤ now → IsBest name (names ++ next ∷ []) best least
next_is_short name names next best least now is now_is short =
    let unlike : is_like name next ≡ false = grind (arith, nat_tests) in
    record {
      best_is = is.best_is ∙ sym (nearest-unlike name names next unlike);
      least_is = is.least_is;
      within = is.within;
    }

kept : (name : List ℕ) (names : List (List ℕ)) (next : List ℕ) (best : Option (List ℕ)) (least : ℕ)
    → best ≡ nearest name names → least ≡ bound name best → least ≤ apart name next → best ≡ nearest name (names ++ next ∷ [])
kept name names next None least is least_is far =
    is ∙ sym (nearest-unlike name names next (grind (arith, nat_tests)))
kept name names next (Some best) least is least_is far =
    let far_is : nat_lt (apart name next) (apart name best) ≡ false = grind (arith, nat_tests) in
    elim (cases_Bool (is_like name next)) [
      | inl like ↦ sym (nearest-like name names next like ∙ rw (sym is, far_is) refl)
      | inr unlike ↦ is ∙ sym (nearest-unlike name names next unlike)
    ]

pub next_is_far : (name : List ℕ) (names : List (List ℕ)) (next : List ℕ) (best : Option (List ℕ)) (least now : ℕ)
    → IsBest name names best least → now ≡ apart name next → least ≤ now → IsBest name (names ++ next ∷ []) best least
next_is_far name names next best least now is now_is far = record {
  best_is = kept name names next best least is.best_is is.least_is (omega (arith, now_is));
  least_is = is.least_is;
  within = is.within;
}

-- the names up to the next
pub names_more : {A B : Type 0} (f : A → B) (xs : List A) (i : ℕ) (x : A) → i < length xs
    → map f (take (i + 1) xs) ≡ map f (take i xs) ++ f (get_or xs i x) ∷ []
names_more f xs i x inside = rw (take_more xs i x inside, map-append f (take i xs) (get_or xs i x ∷ [])) refl

-- what is left of both where one ends, where the next bytes are the same, and where they differ
no_front : (bytes : List ℕ) → in_front bytes [] ≡ 0
no_front [] = refl
no_front (b ∷ bytes) = refl

pub front_ends : (one other : List ℕ) (i : ℕ) → length other ≤ i → in_front (drop i one) (drop i other) ≡ 0
front_ends one other i end = rw (drop_all i other end) (no_front (drop i one))

pub front_more : (one other : List ℕ) (i : ℕ) → i < length one → i < length other → get_or one i 0 ≡ get_or other i 0
    → in_front (drop i one) (drop i other) ≡ 1 + in_front (drop (i + 1) one) (drop (i + 1) other)
front_more one other i a b same = common_prefix_len-drop_yes nat_eq one other i 0 0 a b (grind (arith, nat_tests))

pub front_stops : (one other : List ℕ) (i : ℕ) → i < length one → i < length other → get_or one i 0 ≢ get_or other i 0
    → in_front (drop i one) (drop i other) ≡ 0
front_stops one other i a b differ = common_prefix_len-drop_no nat_eq one other i 0 0 a b (grind (arith, nat_tests))

-- the same of the ends
pub end_more : (one other : List ℕ) (i : ℕ) → i < length one → i < length other
    → get_or one (length one - 1 - i) 0 ≡ get_or other (length other - 1 - i) 0
    → in_front (drop i (reverse one)) (drop i (reverse other))
    ≡ 1 + in_front (drop (i + 1) (reverse one)) (drop (i + 1) (reverse other))
end_more one other i a b same =
    front_more (reverse one) (reverse other) i (rw (length-reverse one) a) (rw (length-reverse other) b)
    (rw (get_or-reverse one i 0 a, get_or-reverse other i 0 b) same)

pub end_stops : (one other : List ℕ) (i : ℕ) → i < length one → i < length other
    → get_or one (length one - 1 - i) 0 ≢ get_or other (length other - 1 - i) 0
    → in_front (drop i (reverse one)) (drop i (reverse other)) ≡ 0
end_stops one other i a b differ =
    front_stops (reverse one) (reverse other) i (rw (length-reverse one) a) (rw (length-reverse other) b)
    (rw (get_or-reverse one i 0 a, get_or-reverse other i 0 b) differ)

pub end_ends : (one other : List ℕ) (i : ℕ) → length other ≤ i → in_front (drop i (reverse one)) (drop i (reverse other)) ≡ 0
end_ends one other i end = front_ends (reverse one) (reverse other) i (rw (length-reverse other) end)
