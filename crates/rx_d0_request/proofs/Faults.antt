-- When some condition of a table holds.
use Rattle.std.proofs.Common.{◌≡◌, ℕ, ◌+◌, ◌<◌, ◌≤◌, Bool, true, false, not, ◌&&◌, ◌||◌, cond, List, [], ◌∷◌, ◌++◌}
use Rattle.std.proofs.Common.{length, get_or, set, map, take, Some, None, refl, ap, ◌∙◌, arith}
use Rattle.std.specs.Prelude.{filter, is_none, nat_le, codes}
use Rattle.std.specs.List.{list_any}
use Rattle.std.proofs.lemmas.Bool.Decides.{nat_tests}
use Rattle.std.proofs.lemmas.Grind.{common_steps}
use Rattle.std.proofs.lemmas.List.{length-take, length-map, length-append, take_more, map-append, append-nil, take_all, take-append-le}
use Rattle.std.proofs.lemmas.List.Elements.{filter-append}
use Rattle.rx_fields.specs.declared.code.Code.{Code}
use Rattle.rx_fields.specs.declared.code.Code.TheVariants.{Syntax}
use Rattle.rx_fields.specs.declared.door.Door.{Door}
use Rattle.rx_d0_values.specs.CodeList.{codes_of}
use Rattle.rx_d0_values.specs.Listed.{is_few}
use Rattle.rx_d0_request.specs.declared.header.Header.{Header}
use Rattle.rx_d0_request.specs.Codes.{is_faulty, first_five, is_count, header_conditions}
use Rattle.rx_d0_request.specs.Cut.{same}
use Rattle.rx_d0_request.specs.Steps.{is_addressed}
use Rattle.rx_d0_request.specs.Values.{provider_in, date_in}

-- ---- the first five codes

some_codes : (rows : List (Code × Bool)) → list_any (λ row. row.1) rows ≡ true → 1 ≤ length (filter (λ row. row.1) rows)
some_codes [] e = absurd cc
some_codes ((code, true) ∷ rows) e = omega arith
some_codes ((code, false) ∷ rows) e = some_codes rows e

-- where some condition holds there are one to five codes
pub first_five_codes : (rows : List (Code × Bool)) → is_faulty rows ≡ true → codes_of (first_five rows) ≡ Some (first_five rows)
unfolding is_faulty first_five
first_five_codes rows e =
    let listed = map (λ (row : Code × Bool). row.0) (filter (λ row. row.1) rows) in
    let some : 1 ≤ length listed = omega (
      arith,
      some_codes rows e,
      length-map (filter (λ row. row.1) rows) (λ (row : Code × Bool). row.0),
    ) in
    let cut = length-take 5 listed in
    let low : nat_le 1 (length (take 5 listed)) ≡ true = grind (arith, nat_tests) in
    let high : nat_le (length (take 5 listed)) 5 ≡ true = grind (arith, nat_tests) in
    rw (low, high) refl

-- ---- the codes so far

abbrev pub Row : Type 0
Row = Code × Bool

listed_more : (rows : List Row) (i : ℕ) (d : Row) → i < length rows
    → map (λ (row : Row). row.0) (filter (λ row. row.1) (take (i + 1) rows))
    ≡ map (λ (row : Row). row.0) (filter (λ row. row.1) (take i rows))
    ++ map (λ (row : Row). row.0) (filter (λ row. row.1) (get_or rows i d ∷ []))
listed_more rows i d lt =
    rw (take_more rows i d lt, filter-append (λ (row : Row). row.1) (take i rows) (get_or rows i d ∷ []))
    (map-append (λ (row : Row). row.0) (filter (λ row. row.1) (take i rows)) (filter (λ row. row.1) (get_or rows i d ∷ [])))

one_listed : (row : Row) (holds : Bool) → row.1 ≡ holds → map (λ (r : Row). r.0) (filter (λ r. r.1) (row ∷ [])) ≡ cond holds (row.0 ∷ []) []
one_listed row true e = rw e refl
one_listed row false e = rw e refl

-- one more place is written
pub take_set : (codes : List Code) (count : ℕ) (code : Code) → count < length codes
    → take (count + 1) (set codes count code) ≡ take count codes ++ code ∷ []
take_set codes count code lt = grind (arith, common_steps)

-- a condition that doesn't hold adds no code
pub five_same : (rows : List Row) (kept : List Code) (i : ℕ) (d : Row) → i < length rows → (get_or rows i d).1 ≡ false
    → kept ≡ first_five (take i rows) → kept ≡ first_five (take (i + 1) rows)
unfolding first_five
five_same rows kept i d lt holds e = rw (listed_more rows i d lt, one_listed (get_or rows i d) false holds, append-nil) e

-- five codes are enough
pub five_full : (rows : List Row) (kept : List Code) (i : ℕ) → 5 ≤ length kept → i < length rows → kept ≡ first_five (take i rows)
    → kept ≡ first_five (take (i + 1) rows)
unfolding first_five
five_full rows kept i full lt e =
    let listed = map (λ (row : Row). row.0) (filter (λ row. row.1) (take i rows)) in
    let enough : 5 ≤ length listed = omega (arith, ap length e, length-take 5 listed) in
    rw (
      listed_more rows i (Syntax, false) lt,
      take-append-le 5 listed
          (map (λ (row : Row). row.0) (filter (λ row. row.1) (get_or rows i (Syntax, false) ∷ []))) enough,
    ) e

-- a condition that holds adds its code
pub five_more : (rows : List Row) (kept : List Code) (i : ℕ) (d : Row) → length kept < 5 → i < length rows → (get_or rows i d).1 ≡ true
    → kept ≡ first_five (take i rows)
    → kept ++ (get_or rows i d).0 ∷ [] ≡ first_five (take (i + 1) rows)
unfolding first_five
five_more rows kept i d few lt holds e =
    let listed = map (λ (row : Row). row.0) (filter (λ row. row.1) (take i rows)) in
    let code = (get_or rows i d).0 in
    let short : length listed < 5 = omega (arith, ap length e, length-take 5 listed) in
    let kept_all : kept ≡ listed = e ∙ take_all 5 listed (omega arith) in
    let whole : take 5 (listed ++ code ∷ []) ≡ listed ++ code ∷ [] = take_all 5 (listed ++ code ∷ [])
    (omega (arith, length-append listed (code ∷ []))) in
    rw (listed_more rows i d lt, one_listed (get_or rows i d) true holds, whole, kept_all) refl

-- ---- tables in parts

-- a step that fails says that its part is faulty
pub fault_of : {A : Type 0} (is_faulty : Bool) (x : A) → None ≡ cond is_faulty None (Some x) → is_faulty ≡ true
fault_of true x e = refl
fault_of false x e = absurd cc

pub no_fault_of : {A : Type 0} (is_faulty : Bool) (x y : A) → Some y ≡ cond is_faulty None (Some x) → is_faulty ≡ false
no_fault_of true x y e = absurd cc
no_fault_of false x y e = refl

pub value_of : {A : Type 0} (is_faulty : Bool) (x y : A) → Some y ≡ cond is_faulty None (Some x) → y ≡ x
value_of true x y e = absurd cc
value_of false x y e = cc

pub or_true : (a : Bool) → (a || true) ≡ true
or_true true = refl
or_true false = refl

or_left : (a b : Bool) → (a || b) ≡ false → a ≡ false
or_left true b e = absurd cc
or_left false b e = refl

or_right : (a b : Bool) → (a || b) ≡ false → b ≡ false
or_right true b e = absurd cc
or_right false b e = e

-- ---- headers

eight : (a b c d e f g : Bool) → (a || (b || (c || (d || (e || (f || (g || (true || false)))))))) ≡ true
eight a b c d e f g = rw (or_true g, or_true f, or_true e, or_true d, or_true c, or_true b) (or_true a)

fifth : (a b c d rest : Bool) → (a || (b || (c || (d || (true || rest))))) ≡ true
fifth a b c d rest = rw (or_true d, or_true c, or_true b) (or_true a)

four : (a b c d rest : Bool) → (a && b && c && d) ≡ false → (not a || (not b || (not c || (not d || rest)))) ≡ true
four false b c d rest e = refl
four true false c d rest e = refl
four true true false d rest e = refl
four true true true false rest e = refl
four true true true true rest e = absurd cc

none_of_four : (a b c d rest : Bool) → (a && b && c && d) ≡ true
    → (not a || (not b || (not c || (not d || rest)))) ≡ rest
none_of_four true true true true rest e = refl
none_of_four true true true false rest e = absurd cc
none_of_four true true false d rest e = absurd cc
none_of_four true false c d rest e = absurd cc
none_of_four false b c d rest e = absurd cc

-- no row of a header's table holds
pub header_heard : (door : Door) (h : Header) (is_sound : Bool) (groups : ℕ) → is_addressed door h ≡ true
    → is_count h.count groups ≡ true → is_none (provider_in h.provider) ≡ false → is_none (date_in h.date) ≡ false
    → is_sound ≡ true → is_faulty (header_conditions door h is_sound groups) ≡ false
unfolding is_faulty
header_heard door h is_sound groups addressed counted provider date sound =
    none_of_four (same h.bin door.bin) (same h.version (codes "D0"))
    (same h.code (codes "B1") || same h.code (codes "B2")) (same h.pcn door.pcn)
    (not (is_count h.count groups) || (is_none (provider_in h.provider)
    || (is_none (date_in h.date) || (not is_sound || false)))) addressed
    ∙ rw (counted, provider, date, sound) refl

-- its bytes or its common part are unsound
pub header_unsound : (door : Door) (h : Header) (is_sound : Bool) (groups : ℕ) → is_sound ≡ false
    → is_faulty (header_conditions door h is_sound groups) ≡ true
unfolding is_faulty
header_unsound door h is_sound groups e =
    rw e (eight (not (same h.bin door.bin)) (not (same h.version (codes "D0"))) (not (same h.code (codes "B1") || same h.code (codes "B2")))
    (not (same h.pcn door.pcn)) (not (is_count h.count groups)) (is_none (provider_in h.provider)) (is_none (date_in h.date)))

-- it names another door, or a version or code that isn't accepted
pub header_elsewhere : (door : Door) (h : Header) (is_sound : Bool) (groups : ℕ) → is_addressed door h ≡ false
    → is_faulty (header_conditions door h is_sound groups) ≡ true
unfolding is_faulty
header_elsewhere door h is_sound groups e =
    four (same h.bin door.bin) (same h.version (codes "D0")) (same h.code (codes "B1") || same h.code (codes "B2"))
    (same h.pcn door.pcn) _ e

-- its count is another
pub header_miscounted : (door : Door) (h : Header) (is_sound : Bool) (groups : ℕ) → is_count h.count groups ≡ false
    → is_faulty (header_conditions door h is_sound groups) ≡ true
unfolding is_faulty
header_miscounted door h is_sound groups e =
    rw e (fifth (not (same h.bin door.bin)) (not (same h.version (codes "D0"))) (not (same h.code (codes "B1") || same h.code (codes "B2")))
    (not (same h.pcn door.pcn)) (is_none (provider_in h.provider) || (is_none (date_in h.date) || (not is_sound || false))))

-- ---- the number of groups

not_false : (b : Bool) → not b ≡ false → b ≡ true
not_false true e = refl
not_false false e = absurd cc

and_left : (a b : Bool) → (a && b) ≡ true → a ≡ true
and_left true b e = refl
and_left false b e = absurd cc

-- a header without codes has 1 to 4 groups
pub header_few : (door : Door) (h : Header) (is_sound : Bool) (groups : ℕ) → is_faulty (header_conditions door h is_sound groups) ≡ false
    → is_few groups ≡ true
unfolding is_faulty
header_few door h is_sound groups e =
    let after_bin = or_right (not (same h.bin door.bin)) _ e in
    let after_version = or_right (not (same h.version (codes "D0"))) _ after_bin in
    let after_code = or_right (not (same h.code (codes "B1") || same h.code (codes "B2"))) _ after_version in
    let after_pcn = or_right (not (same h.pcn door.pcn)) _ after_code in
    and_left (is_few groups) _ (not_false (is_count h.count groups) (or_left (not (is_count h.count groups)) _ after_pcn))
