-- Of a family's claims: the sums up to one are those over it and the claims before it; they only grow.
use Rattle.std.proofs.Common.{◌≡◌, ◌≤◌, ◌<◌, ℕ, ◌+◌, Bool, not, true, false, List, [], ◌∷◌, ◌++◌, map, refl, sym, ap, subst, ◌∙◌}
use Rattle.std.proofs.Common.{add-zero, append_assoc, arith, inl, inr}
use Rattle.std.proofs.lemmas.Bool.{and_parts, cases_Bool, ltb-false, ltb-true}
use Rattle.std.proofs.lemmas.List.{append-nil}
use Rattle.std.proofs.lemmas.List.Sorted.{sum_by-IsPermutation}
use Rattle.std.proofs.lemmas.List.Sums.{sum_by-append, sum_by-cons}
use Rattle.std.specs.Prelude.{Some, filter, nat_lt}
use Rattle.std.specs.List.{sum_by}
use Rattle.rx_fields.specs.Numbered.{Span}
use Rattle.rx_sorted.proofs.Keys.{Equal-from_is_eq}
use Rattle.rx_ledger.specs.declared.row.Row.{Row}
use Rattle.rx_ledger.specs.Sums.{counted, deductible_in, deductible_paid, family_deductible_in, out_of_pocket_in, paid_by_patient}
use Rattle.rx_ledger.specs.Sums.{persons_deductible_paid}
use Rattle.rx_ledger.proofs.CountedRows.{counted-other}
use Rattle.rx_ledger.proofs.Orders.{id_exact}
use Rattle.rx_commands.specs.declared.family.sums.Claim.{Claim}
use Rattle.rx_commands.specs.declared.family.sums.Limits.{Limits}
use Rattle.rx_commands.specs.FamilySums.{AreClaims, claim_after, claim_row, claims_after, claims_of, reaches}
use Rattle.rx_commands.specs.FamilyLaw.{IsReached, is_of}

filter_kept : {X : Type 0} (p : X → Bool) (y : X) (ys : List X) → p y ≡ true → filter p (y ∷ ys) ≡ y ∷ filter p ys
filter_kept p y ys own = rw own refl

filter_left : {X : Type 0} (p : X → Bool) (y : X) (ys : List X) → p y ≡ false → filter p (y ∷ ys) ≡ filter p ys
filter_left p y ys other = rw other refl

head_of : {X : Type 0} (x y : X) (xs ys : List X) → x ∷ xs ≡ y ∷ ys → x ≡ y
head_of x y xs ys is = cc

tail_of : {X : Type 0} (x y : X) (xs ys : List X) → x ∷ xs ≡ y ∷ ys → xs ≡ ys
tail_of x y xs ys is = cc

-- a sum over more rows is no less
grows : (f : Row → ℕ) (xs ys : List Row) → sum_by f xs ≤ sum_by f (xs ++ ys)
grows f xs ys = omega (arith, sum_by-append f xs ys)

false_from : (b : Bool) → not b ≡ true → b ≡ false
false_from true e = sym e
false_from false e = refl

-- what reaches a limit was below it before, and isn't with the claim
reached_parts : (figure before after : ℕ) → reaches (Some figure) before after ≡ true → (before < figure) × (figure ≤ after)
reached_parts figure before after is =
    let both = and_parts (nat_lt before figure) (not (nat_lt after figure)) is in
    (ltb-true before figure both.0, ltb-false after figure (false_from (nat_lt after figure) both.1))

module _ (limits : Limits) (period : Span) where
  -- a claim among them has the sums over itself and those before it
  at_split : (before rows : List Row) (xs : List Claim) (c : Claim) (ys : List Claim)
      → claims_after limits period before rows ≡ xs ++ c ∷ ys
      → c ≡ claim_after limits period (before ++ map claim_row xs) c.row
  at_split before [] [] c ys is = absurd cc
  at_split before [] (x ∷ xs) c ys is = absurd cc
  at_split before (r ∷ rows) [] c ys is =
      let one : claim_after limits period before r ≡ c = head_of _ _ _ _ is in
      let own : r ≡ c.row = ap claim_row one in
      sym one ∙ ap (λ x. claim_after limits period before x) own
      ∙ ap (λ b. claim_after limits period b c.row) (sym (append-nil before))
  at_split before (r ∷ rows) (x ∷ xs) c ys is =
      let one : r ≡ x.row = ap claim_row (head_of _ _ _ _ is) in
      at_split (before ++ r ∷ []) rows xs c ys (tail_of _ _ _ _ is)
      ∙ ap (λ b. claim_after limits period b c.row)
      (append_assoc before (r ∷ []) (map claim_row xs) ∙ ap (λ y. before ++ y ∷ map claim_row xs) one)

rows_joined : (xs ys : List Claim) → map claim_row (xs ++ ys) ≡ map claim_row xs ++ map claim_row ys
rows_joined [] ys = refl
rows_joined (x ∷ xs) ys = ap (λ rows. x.row ∷ rows) (rows_joined xs ys)

-- the rows up to an earlier claim, and those from there on
rows_split : (xs : List Claim) (x : Claim) (ys : List Claim)
    → map claim_row (xs ++ x ∷ ys) ≡ (map claim_row xs ++ x.row ∷ []) ++ map claim_row ys
rows_split xs x ys = rows_joined xs (x ∷ ys) ∙ sym (append_assoc (map claim_row xs) (x.row ∷ []) (map claim_row ys))

-- no claim of these is the person's, so they count nothing of its deductible
none_counted : (period : Span) (p : List ℕ) (ys : List Claim) → filter (is_of p) ys ≡ []
    → sum_by (counted period (persons_deductible_paid p)) (map claim_row ys) ≡ 0
none_counted period p [] none = refl
none_counted period p (y ∷ ys) none = elim (cases_Bool (is_of p y)) [
  | inl own ↦
      let some : y ∷ filter (is_of p) ys ≡ [] = sym (filter_kept (is_of p) y ys own) ∙ none in
      absurd cc
  | inr other ↦
      let rest = none_counted period p ys (sym (filter_left (is_of p) y ys other) ∙ none) in
      let one = sum_by-cons (counted period (persons_deductible_paid p)) y.row (map claim_row ys) in
      let nothing = counted-other period y.row p other in
      omega (arith, one, nothing, rest)
]

module _ (limits : Limits) (period : Span) (rows : List Row) (xs ys zs : List Claim) (x c : Claim)
    (is : claims_of limits period rows ≡ xs ++ x ∷ (ys ++ c ∷ zs)) where
  abbrev up_to_x : List Row
  up_to_x = map claim_row xs ++ x.row ∷ []

  abbrev before_c : List Row
  before_c = map claim_row (xs ++ x ∷ ys)

  at_x : x ≡ claim_after limits period (map claim_row xs) x.row
  at_x = at_split limits period [] rows xs x (ys ++ c ∷ zs) is

  at_c : c ≡ claim_after limits period before_c c.row
  at_c = at_split limits period [] rows (xs ++ x ∷ ys) c zs (is ∙ sym (append_assoc xs (x ∷ ys) (c ∷ zs)))

  below : (f : Row → ℕ) → sum_by f up_to_x ≤ sum_by f before_c
  below f = subst (λ rows. sum_by f up_to_x ≤ sum_by f rows) (sym (rows_split xs x ys)) (grows f up_to_x (map claim_row ys))

  pub pocket_first : (figure : ℕ) → limits.out_of_pocket ≡ Some figure → c.out_of_pocket.reaches ≡ true
      → IsReached figure x.out_of_pocket.sum c.out_of_pocket.sum
  pocket_first figure limit reached =
      let sum = out_of_pocket_in period before_c in
      let after = out_of_pocket_in period (before_c ++ c.row ∷ []) in
      let flag : reaches (Some figure) sum after ≡ true =
      ap (λ l. reaches l sum after) (sym limit) ∙ sym (ap (λ (k : Claim). k.out_of_pocket.reaches) at_c) ∙ reached in
      let parts = reached_parts figure sum after flag in
      let earlier : x.out_of_pocket.sum ≡ out_of_pocket_in period up_to_x = ap (λ (k : Claim). k.out_of_pocket.sum) at_x in
      let now : c.out_of_pocket.sum ≡ after = ap (λ (k : Claim). k.out_of_pocket.sum) at_c in
      record {
        below = omega (arith, parts.0, earlier, below (counted period paid_by_patient));
        reached = omega (arith, parts.1, now);
      }

  pub family_first : (figure : ℕ) → limits.family_deductible ≡ Some figure → c.family_deductible.reaches ≡ true
      → IsReached figure x.family_deductible.sum c.family_deductible.sum
  family_first figure limit reached =
      let sum = family_deductible_in period before_c in
      let after = family_deductible_in period (before_c ++ c.row ∷ []) in
      let flag : reaches (Some figure) sum after ≡ true =
      ap (λ l. reaches l sum after) (sym limit) ∙ sym (ap (λ (k : Claim). k.family_deductible.reaches) at_c) ∙ reached in
      let parts = reached_parts figure sum after flag in
      let earlier : x.family_deductible.sum ≡ family_deductible_in period up_to_x =
      ap (λ (k : Claim). k.family_deductible.sum) at_x in
      let now : c.family_deductible.sum ≡ after = ap (λ (k : Claim). k.family_deductible.sum) at_c in
      record {
        below = omega (arith, parts.0, earlier, below (counted period deductible_paid));
        reached = omega (arith, parts.1, now);
      }

  pub own_first : (figure : ℕ) → limits.deductible ≡ Some figure → c.deductible.reaches ≡ true → is_of c.row.person x ≡ true
      → IsReached figure x.deductible.sum c.deductible.sum
  own_first figure limit reached own =
      let person = c.row.person in
      let one : x.row.person ≡ person = id_exact x.row.person person (Equal-from_is_eq _ own) in
      let sum = deductible_in period before_c person in
      let after = deductible_in period (before_c ++ c.row ∷ []) person in
      let flag : reaches (Some figure) sum after ≡ true =
      ap (λ l. reaches l sum after) (sym limit) ∙ sym (ap (λ (k : Claim). k.deductible.reaches) at_c) ∙ reached in
      let parts = reached_parts figure sum after flag in
      let earlier : x.deductible.sum ≡ deductible_in period up_to_x person =
      ap (λ (k : Claim). k.deductible.sum) at_x ∙ ap (λ p. deductible_in period up_to_x p) one in
      let now : c.deductible.sum ≡ after = ap (λ (k : Claim). k.deductible.sum) at_c in
      record {
        below = omega (arith, parts.0, earlier, below (counted period (persons_deductible_paid person)));
        reached = omega (arith, parts.1, now);
      }

module _ (limits : Limits) (period : Span) (rows : List Row) (claims xs ys : List Claim) (c : Claim)
    (are : AreClaims limits period rows claims) (is : claims ≡ xs ++ c ∷ ys) where
  last_at : c ≡ claim_after limits period (map claim_row xs) c.row
  last_at = at_split limits period [] (map claim_row claims) xs c ys (sym are.sums ∙ is)

  -- a sum over all claims
  all : (f : Row → ℕ) → sum_by f rows ≡ sum_by f (map claim_row xs ++ c.row ∷ []) + sum_by f (map claim_row ys)
  all f =
      sym (sum_by-IsPermutation f rows (map claim_row claims) are.by_date.all) ∙ ap (λ cs. sum_by f (map claim_row cs)) is
      ∙ ap (sum_by f) (rows_split xs c ys) ∙ sum_by-append f (map claim_row xs ++ c.row ∷ []) (map claim_row ys)

  pub own_last : filter (is_of c.row.person) ys ≡ [] → c.deductible.sum ≡ deductible_in period rows c.row.person
  own_last none =
      let f = counted period (persons_deductible_paid c.row.person) in
      ap (λ (k : Claim). k.deductible.sum) last_at
      ∙ sym (all f ∙ ap (λ n. sum_by f (map claim_row xs ++ c.row ∷ []) + n) (none_counted period c.row.person ys none)
      ∙ add-zero (sum_by f (map claim_row xs ++ c.row ∷ [])))

  pub pocket_last : ys ≡ [] → c.out_of_pocket.sum ≡ out_of_pocket_in period rows
  pocket_last none =
      let f = counted period paid_by_patient in
      ap (λ (k : Claim). k.out_of_pocket.sum) last_at
      ∙ sym (all f ∙ ap (λ cs. sum_by f (map claim_row xs ++ c.row ∷ []) + sum_by f (map claim_row cs)) none
      ∙ add-zero (sum_by f (map claim_row xs ++ c.row ∷ [])))

  pub family_last : ys ≡ [] → c.family_deductible.sum ≡ family_deductible_in period rows
  family_last none =
      let f = counted period deductible_paid in
      ap (λ (k : Claim). k.family_deductible.sum) last_at
      ∙ sym (all f ∙ ap (λ cs. sum_by f (map claim_row xs ++ c.row ∷ []) + sum_by f (map claim_row cs)) none
      ∙ add-zero (sum_by f (map claim_row xs ++ c.row ∷ [])))
