-- The drugs of a table ascend by product, as its keys ascend by their bytes.
use Rattle.std.proofs.Common.{◌≡◌, ℕ, suc, ◌+◌, ◌-◌, ◌*◌, ◌^◌, ◌<◌, ◌≤◌, Bool, true, false, ◌&&◌, cond, nat_eq, List, [], ◌∷◌, length}
use Rattle.std.proofs.Common.{Result, Ok, Err, Option, Some, None, refl, sym, ap, subst, arith, inl, inr, String, Global, string_bytes}
use Rattle.std.proofs.lemmas.Bool.{and_parts, cases_order, false≢true}
use Rattle.std.proofs.lemmas.Bool.Decides.{nat_tests}
use Rattle.std.proofs.Math.Nat.{mul-le-mul_right, pow-suc, suc-mul}
use Rattle.std.specs.Cmp.{nat_cmp_is}
use Rattle.std.specs.Cmp.Lexicographic.{slice_cmp}
use Rattle.std.specs.Ordering.{is_lt, nat_cmp}
use Rattle.std.specs.Option.{ok_or}
use Rattle.std.specs.List.{AllByRecursion}
use Rattle.std.specs.List.Sorted.{IsStrictlySortedBy}
use Rattle.std.specs.Map.{keys_of}
use Rattle.std.specs.String.{string_cmp}
use Rattle.std.specs.declared.cmp.Ordering.TheVariants.{Less, Equal, Greater}
use Rattle.toml.specs.Data.{Data, Members}
use Rattle.toml.specs.View.{view, members_view}
use Rattle.toml.specs.declared.value.Value.{Value}
use Rattle.rx_text.specs.Bytes.{is_digit, all_digits}
use Rattle.rx_fields.specs.Digits.{number}
use Rattle.rx_fields.specs.Numbered.{product_of}
use Rattle.rx_ledger.specs.Plan.{listed_product}
use Rattle.rx_ledger.specs.declared.drug.Drug.{Drug}
use Rattle.rx_ledger.specs.declared.sheet.Listed.{Listed}
use Rattle.rx_ledger.specs.declared.sheet_key.SheetKey.TheVariants.{Drugs}
use Rattle.rx_sorted.specs.Ascending.{IsAscending, IsBelow}
use Rattle.rx_sheet.specs.declared.fault.SheetFault.{SheetFault}
use Rattle.rx_sheet.specs.declared.fault.SheetFault.TheVariants.{Wrong}
use Rattle.rx_sheet.specs.Drugs.{drug_in, drugs_of, listed_in}
use Rattle.rx_text.specs.Results.{◌>>=◌}

-- ---- digits

-- a number of n digits is below 10 to the n
number_below : (bs : List ℕ) → all_digits bs ≡ true → number bs < 10 ^ length bs
number_below [] h = omega arith
number_below (b ∷ bs) h =
    let parts = and_parts (is_digit b) (all_digits bs) h in
    let small : b - 48 ≤ 9 = let digit = parts.0 in grind (arith, nat_tests) in
    let weighed : (b - 48) * 10 ^ length bs ≤ 9 * 10 ^ length bs = mul-le-mul_right (10 ^ length bs) small in
    omega (arith, weighed, number_below bs parts.1, pow-suc 10 (length bs))

-- a greater digit outweighs all that follows
outweighs : (d e p n : ℕ) → d < e → n < p → d * p + n < e * p
outweighs d e p n more below =
    let next : suc d ≤ e = omega (arith, more) in
    omega (arith, mul-le-mul_right p next, suc-mul d p, below)

-- digits that come first, of two texts of one length, stand for the lesser number
number_less : (a b : List ℕ) → length a ≡ length b → all_digits a ≡ true → all_digits b ≡ true
    → slice_cmp nat_cmp a b ≡ Less → number a < number b
number_less [] [] len da db less = absurd (false≢true (ap is_lt less))
number_less [] (y ∷ b) len da db less = absurd (omega (arith, len))
number_less (x ∷ a) [] len da db less = absurd (omega (arith, len))
number_less (x ∷ a) (y ∷ b) len da db less =
    let first = and_parts (is_digit x) (all_digits a) da in
    let second = and_parts (is_digit y) (all_digits b) db in
    let same_length : length a ≡ length b = omega (arith, len) in
    elim (cases_order x y) [
      | inl same ↦
          let tied : nat_cmp x y ≡ Equal = sym (nat_cmp_is x y Equal same) in
          let rest : slice_cmp nat_cmp a b ≡ Less = rw tied at less in
          let below = number_less a b same_length first.1 second.1 rest in
          rw (same, same_length) (omega (arith, below))
      | inr (inl lower) ↦
          let digit : 48 ≤ x = let d = first.0 in grind (arith, nat_tests) in
          let more : x - 48 < y - 48 = omega (arith, lower, digit) in
          let below : number a < 10 ^ length b = rw (← same_length) (number_below a first.1) in
          rw same_length (omega (arith, outweighs (x - 48) (y - 48) (10 ^ length b) (number a) more below))
      | inr (inr higher) ↦
          let past : nat_cmp x y ≡ Greater = sym (nat_cmp_is x y Greater higher) in
          let bad : Greater ≡ Less = rw past at less in absurd (false≢true (ap is_lt bad))
    ]

-- ---- products

-- what is said of a test that was passed
passed : {A : Type 0} (test : Bool) (x y : A) → cond test (Some x) None ≡ Some y → (test ≡ true) × (x ≡ y)
passed true x y h = (refl, let e : Some x ≡ Some y = h in cc)
passed false x y h = absurd (let e : None ≡ Some y = h in cc)

-- products whose digits come first are the lesser ones
product_less : (a b : List ℕ) (m n : ℕ) → product_of a ≡ Some m → product_of b ≡ Some n
    → slice_cmp nat_cmp a b ≡ Less → nat_cmp m n ≡ Less
product_less a b m n first second less =
    let one = passed (nat_eq (length a) 11 && all_digits a) (number a) m first in
    let other = passed (nat_eq (length b) 11 && all_digits b) (number b) n second in
    let a_parts = and_parts (nat_eq (length a) 11) (all_digits a) one.0 in
    let b_parts = and_parts (nat_eq (length b) 11) (all_digits b) other.0 in
    let same : length a ≡ length b = let u = a_parts.0 in let v = b_parts.0 in grind (arith, nat_tests) in
    let below = number_less a b same a_parts.1 b_parts.1 less in
    rw (← one.1, ← other.1) (sym (nat_cmp_is (number a) (number b) Less below))

-- ---- drugs

-- a drug stands under its product
product_first : (o : Option ℕ) (read : Result Drug SheetFault) (e : SheetFault) (listed : Listed)
    → (ok_or o e >>= λ product. read >>= λ drug. Ok (record { product = product; drug = drug })) ≡ Ok listed
    → o ≡ Some listed.product
product_first None read e listed h = absurd (let bad : Err e ≡ Ok listed = h in cc)
product_first (Some n) (Err f) e listed h = absurd (let bad : Err f ≡ Ok listed = h in cc)
product_first (Some n) (Ok drug) e listed h =
    let both : Listed = record { product = n; drug = drug } in
    let same : Ok both ≡ Ok listed = h in
    let is : both ≡ listed = cc in
    ap (λ (l : Listed). Some l.product) is

product_is : (tiers : Members) (name : List ℕ) (value : Data) (listed : Listed)
    → listed_in tiers name value ≡ Ok listed → product_of name ≡ Some listed.product
unfolding listed_in
product_is tiers name value listed read = product_first (product_of name) (drug_in tiers value) (Wrong Drugs) listed read

-- the first drug of a table and the others
head_and_rest : (first : Result Listed SheetFault) (more : Result (List Listed) SheetFault) (all : List Listed)
    → (first >>= λ l. more >>= λ ls. Ok (l ∷ ls)) ≡ Ok all
    → (l : Listed) × (ls : List Listed) × (first ≡ Ok l) × (more ≡ Ok ls) × (all ≡ l ∷ ls)
head_and_rest (Err e) more all h = absurd (let bad : Err e ≡ Ok all = h in cc)
head_and_rest (Ok l) (Err e) all h = absurd (let bad : Err e ≡ Ok all = h in cc)
head_and_rest (Ok l) (Ok ls) all h =
    let same : Ok (l ∷ ls) ≡ Ok all = h in
    let is : l ∷ ls ≡ all = cc in
    (l, ls, refl, refl, sym is)

abbrev Entry : Type 0
Entry = String Global × Value

-- a product whose key comes before the keys of a table is below the table's products
below_table : (tiers : Members) (name : List ℕ) (n : ℕ) (es : List Entry) (all : List Listed)
    → product_of name ≡ Some n → AllByRecursion (λ key. slice_cmp nat_cmp name (string_bytes key) ≡ Less) (keys_of es)
    → drugs_of tiers (members_view es) ≡ Ok all → IsBelow nat_cmp listed_product n all
unfolding drugs_of
below_table tiers name n [] all is below read =
    let same : Ok [] ≡ Ok all = read in
    let none : [] ≡ all = cc in
    subst (λ ls. IsBelow nat_cmp listed_product n ls) none tt
below_table tiers name n (e ∷ es) all is below read =
    let (l, ls, first, more, both) = head_and_rest (listed_in tiers (string_bytes e.0) (view e.1))
    (drugs_of tiers (members_view es)) all read in
    let product = product_is tiers (string_bytes e.0) (view e.1) l first in
    rw both (product_less name (string_bytes e.0) n l.product is product below.0, below_table tiers name n es ls is below.1 more)

pub listed_ascending : (tiers : Members) (es : List Entry) (all : List Listed)
    → IsStrictlySortedBy string_cmp (keys_of es) → drugs_of tiers (members_view es) ≡ Ok all
    → IsAscending nat_cmp listed_product all
unfolding drugs_of IsStrictlySortedBy
listed_ascending tiers [] all sorted read =
    let same : Ok [] ≡ Ok all = read in
    let none : [] ≡ all = cc in
    subst (λ ls. IsAscending nat_cmp listed_product ls) none tt
listed_ascending tiers (e ∷ es) all sorted read =
    let (l, ls, first, more, both) = head_and_rest (listed_in tiers (string_bytes e.0) (view e.1))
    (drugs_of tiers (members_view es)) all read in
    let product = product_is tiers (string_bytes e.0) (view e.1) l first in
    rw both (below_table tiers (string_bytes e.0) l.product es ls product sorted.0 more, listed_ascending tiers es ls sorted.1 more)
