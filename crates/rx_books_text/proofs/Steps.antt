-- The steps of a reader, and what fields are made of.
use Rattle.std.proofs.Common.{◌≡◌, ℕ, Bool, true, false, not, ◌&&◌, cond, eqb, List, [], ◌∷◌}
use Rattle.std.proofs.Common.{Option, Some, None, Result, Ok, Err, refl, ap, arith}
use Rattle.std.specs.Prelude.{◌||◌}
use Rattle.std.specs.List.{list_all, list_any}
use Rattle.std.specs.Result.{result_ok}
use Rattle.std.proofs.lemmas.Bool.{and_parts}
use Rattle.std.proofs.lemmas.Bool.Decides.{nat_tests}
use Rattle.std.proofs.lemmas.List.Elements.{All-nil, All-cons}
use Rattle.rx_text.proofs.Steps.{some_same}
use Rattle.rx_fields.specs.declared.fault.FieldFault.{FieldFault}
use Rattle.rx_fields.specs.declared.fault.IdFault.{IdFault}
use Rattle.rx_text.specs.Bytes.{is_digit, all_digits, is_printable}
use Rattle.rx_fields.specs.Text.{is_bar}
use Rattle.rx_books_text.proofs.Cuts.{Without}
use Rattle.rx_text.specs.Options.{◌>>=◌}

-- ---- steps

pub ok_of : {A : Type 0} (r : Result A FieldFault) (x : A) → result_ok r ≡ Some x → r ≡ Ok x
ok_of (Ok y) x e = ap Ok (some_same e)
ok_of (Err f) x e = absurd cc

pub id_ok_of : (r : Result (List ℕ) IdFault) (x : List ℕ) → result_ok r ≡ Some x → r ≡ Ok x
id_ok_of (Ok y) x e = ap Ok (some_same e)
id_ok_of (Err f) x e = absurd cc

abbrev pub fine : {A : Type 0} → A → Result A FieldFault
fine x = Ok x

pub ok_same : {A : Type 0} (x y : A) → fine x ≡ fine y → x ≡ y
ok_same x y e = cc

-- a check that let a value through didn't hold, and what follows it gave the value
pub passed : {A : Type 0} (b : Bool) (f : FieldFault) (r : Result A FieldFault) (v : A)
    → cond b (Err f) r ≡ Ok v → (b ≡ false) × (r ≡ Ok v)
passed true f r v e = absurd cc
passed false f r v e = (refl, e)

pub held : {A : Type 0} (b : Bool) (f : FieldFault) (r : Result A FieldFault) (v : A)
    → cond b r (Err f) ≡ Ok v → (b ≡ true) × (r ≡ Ok v)
held true f r v e = (refl, e)
held false f r v e = absurd cc

pub id_passed : (b : Bool) (f : IdFault) (r : Result (List ℕ) IdFault) (v : List ℕ)
    → cond b (Err f) r ≡ Ok v → (b ≡ false) × (r ≡ Ok v)
id_passed true f r v e = absurd cc
id_passed false f r v e = (refl, e)

-- ---- what a field is made of

-- neither a bar nor a line feed
abbrev pub is_inside : ℕ → Bool
is_inside b = not (eqb b 124) && not (eqb b 10)

abbrev pub IsInside : List ℕ → Type 0
IsInside bs = list_all is_inside bs ≡ true

pub digit_inside : (b : ℕ) → is_digit b ≡ true → is_inside b ≡ true
digit_inside b digit = grind (arith, nat_tests)

pub digits_inside : (bs : List ℕ) → all_digits bs ≡ true → IsInside bs
digits_inside [] all = refl
digits_inside (b ∷ bs) all =
    let parts = and_parts (is_digit b) (all_digits bs) all in
    rw (digit_inside b parts.0, digits_inside bs parts.1) refl

pub letter_inside : (b : ℕ) → is_printable b ≡ true → is_bar b ≡ false → is_inside b ≡ true
letter_inside b printable bar = grind (arith, nat_tests)

pub or_parts : (a b : Bool) → (a || b) ≡ false → (a ≡ false) × (b ≡ false)
or_parts true b e = absurd cc
or_parts false b e = (refl, e)

pub letters_inside : (bs : List ℕ) → list_all is_printable bs ≡ true → list_any is_bar bs ≡ false → IsInside bs
letters_inside [] printable bar = refl
letters_inside (b ∷ bs) printable bar =
    let p = and_parts (is_printable b) (list_all is_printable bs) printable in
    let q = or_parts (is_bar b) (list_any is_bar bs) bar in
    rw (letter_inside b p.0 q.0, letters_inside bs p.1 q.1) refl

-- ---- no bar

pub without_bar : (bs : List ℕ) → IsInside bs → Without 124 bs
without_bar [] inside = All-nil (λ (b : ℕ). eqb b 124 ≡ false)
without_bar (b ∷ bs) inside =
    let parts = and_parts (is_inside b) (list_all is_inside bs) inside in
    All-cons (λ (c : ℕ). eqb c 124 ≡ false) b bs (un_bar b parts.0) (without_bar bs parts.1)
  where
    un_bar : (b : ℕ) → is_inside b ≡ true → eqb b 124 ≡ false
    un_bar b inside = grind (arith, nat_tests)
