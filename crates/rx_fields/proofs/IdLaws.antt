-- Ids: the blanks at the end of a text, and the twenty bytes that an id is kept in.
use Rattle.std.proofs.Common.{◌≡◌, ℕ, ◌+◌, ◌-◌, ◌<◌, ◌≤◌, Bool, true, false, ◌&&◌, not, cond, eqb, ltb}
use Rattle.std.proofs.Common.{List, [], ◌∷◌, ◌++◌, length, get_or, take, replicate, length-append}
use Rattle.std.proofs.Common.{Result, Ok, Err, inl, inr, refl, sym, ap, ◌∙◌, arith}
use Rattle.std.proofs.lemmas.Bool.Decides.{nat_tests}
use Rattle.std.proofs.Math.Bool.{and-false}
use Rattle.std.proofs.lemmas.Grind.{common_steps}
use Rattle.std.proofs.lemmas.Bool.{cases_lt, ne_eqb, ltb-false, le-ltb}
use Rattle.std.proofs.lemmas.List.{take_more, take_at, drop_at, length-replicate}
use Rattle.std.specs.List.{list_all, list_any}
use Rattle.rx_fields.specs.declared.fault.IdFault.{IdFault}
use Rattle.rx_fields.specs.declared.fault.IdFault.TheVariants as fault
use Rattle.rx_fields.specs.Padded.{padded}
use Rattle.rx_text.specs.Bytes.{is_printable}
use Rattle.rx_fields.specs.Text.{trimmed, id_of, is_bar, IsPadded}

-- ---- the end of a text

-- a blank at the end is taken off
trimmed_blank : (bs : List ℕ) → trimmed (bs ++ 32 ∷ []) ≡ trimmed bs
trimmed_blank [] = refl
trimmed_blank (b ∷ bs) = rw (trimmed_blank bs) refl

-- nothing is taken off a text that ends with another byte
trimmed_end : (bs : List ℕ) (b : ℕ) → eqb b 32 ≡ false → trimmed (bs ++ b ∷ []) ≡ bs ++ b ∷ []
trimmed_end [] b other = rw other refl
trimmed_end (c ∷ bs) b other =
    let long : eqb (length (bs ++ b ∷ [])) 0 ≡ false = grind (arith, nat_tests, length-append bs (b ∷ [])) in
    rw (trimmed_end bs b other, long, and-false) refl

-- a text that isn't empty is its front and its last byte
last_split : (bs : List ℕ) → 0 < length bs → bs ≡ take (length bs - 1) bs ++ get_or bs (length bs - 1) 0 ∷ []
last_split bs lt =
    let whole : take (length bs) bs ≡ bs = grind (arith, common_steps) in
    let more : take (length bs - 1 + 1) bs ≡ take (length bs - 1) bs ++ get_or bs (length bs - 1) 0 ∷ [] =
    take_more bs (length bs - 1) 0 (omega arith) in
    let all : length bs - 1 + 1 ≡ length bs = omega arith in
    sym whole ∙ (ap (λ (k : ℕ). take k bs) (sym all) ∙ more)

-- without its last byte, a blank, a text trims to the same
pub trimmed_cut : (bs : List ℕ) → 0 < length bs → get_or bs (length bs - 1) 0 ≡ 32
    → trimmed (take (length bs - 1) bs) ≡ trimmed bs
trimmed_cut bs lt blank =
    let front : List ℕ = take (length bs - 1) bs in
    let split = last_split bs lt in
    sym (trimmed_blank front) ∙ sym (ap trimmed split ∙ ap (λ (b : ℕ). trimmed (front ++ b ∷ [])) blank)

trimmed_empty : (bs : List ℕ) → length bs ≤ 0 → trimmed bs ≡ bs
trimmed_empty [] le = refl
trimmed_empty (b ∷ bs) le = absurd (omega arith)

-- nothing is taken off a text that doesn't end with a blank
pub trimmed_whole : (bs : List ℕ) → (0 < length bs → get_or bs (length bs - 1) 0 ≡ 32 → ⊥) → trimmed bs ≡ bs
trimmed_whole bs other = elim (cases_lt 0 (length bs)) [
  | inl some ↦ (
      let split = last_split bs some in
      let no_blank : eqb (get_or bs (length bs - 1) 0) 32 ≡ false = ne_eqb _ _ (other some) in
      ap trimmed split ∙ trimmed_end (take (length bs - 1) bs) (get_or bs (length bs - 1) 0) no_blank ∙ sym split)
  | inr none ↦ trimmed_empty bs none
]

-- `trimmed_twice` of b and bs, by whether b and all after it are blanks
twice_by : (blank : Bool) (b : ℕ) (bs : List ℕ) → trimmed (trimmed bs) ≡ trimmed bs
    → (eqb b 32 && eqb (length (trimmed bs)) 0) ≡ blank
    → trimmed (cond blank [] (b ∷ trimmed bs)) ≡ cond blank [] (b ∷ trimmed bs)
twice_by true b bs again is = refl
twice_by false b bs again is = rw (again, is) refl

-- trimming a second time takes nothing off
trimmed_twice : (bs : List ℕ) → trimmed (trimmed bs) ≡ trimmed bs
trimmed_twice [] = refl
trimmed_twice (b ∷ bs) = twice_by (eqb b 32 && eqb (length (trimmed bs)) 0) b bs (trimmed_twice bs) refl

-- ---- ids

-- `Ok` with the fault type of ids
abbrev made : {A : Type 0} → A → Result A IdFault
made x = Ok x

-- a check that let a value through didn't hold, and what follows it gave the value
refused : {A : Type 0} (b : Bool) (f : IdFault) (r : Result A IdFault) (v : A)
    → cond b (Err f) r ≡ Ok v → (b ≡ false) × (r ≡ Ok v)
refused true f r v e = absurd cc
refused false f r v e = (refl, e)

ok_same : (x y : List ℕ) → made x ≡ made y → x ≡ y
ok_same x y e = cc

-- what an id is read from, and of how many bytes, is no part of it: it is an id as it stands, also where more fit
pub id_again : (max more : ℕ) (t v : List ℕ) → max ≤ more → id_of max t ≡ Ok v
    → (length v ≤ max) × (id_of more v ≡ Ok v)
id_again max more t v le e =
    let some = refused (eqb (length (trimmed t)) 0) fault.Blank _ v e in
    let short = refused (ltb max (length (trimmed t))) fault.TooLong _ v some.1 in
    let printable = refused (not (list_all is_printable (trimmed t))) fault.NotPrintable _ v short.1 in
    let no_bar = refused (list_any is_bar (trimmed t)) fault.Bar _ v printable.1 in
    let is = ok_same (trimmed t) v no_bar.1 in
    let few : length (trimmed t) ≤ max = ltb-false _ _ short.0 in
    let long : ltb more (length (trimmed t)) ≡ false = le-ltb _ _ (omega arith) in
    (omega (arith, ap length is, few), rw (← is, trimmed_twice t, some.0, long, printable.0, no_bar.0) refl)

not_false : (b : Bool) → not b ≡ false → b ≡ true
not_false true e = refl
not_false false e = absurd cc

-- each byte of an id is printable
pub id_printable : (max : ℕ) (t v : List ℕ) → id_of max t ≡ Ok v → list_all is_printable v ≡ true
id_printable max t v e =
    let some = refused (eqb (length (trimmed t)) 0) fault.Blank _ v e in
    let short = refused (ltb max (length (trimmed t))) fault.TooLong _ v some.1 in
    let printable = refused (not (list_all is_printable (trimmed t))) fault.NotPrintable _ v short.1 in
    let no_bar = refused (list_any is_bar (trimmed t)) fault.Bar _ v printable.1 in
    rw (ok_same (trimmed t) v no_bar.1) at (not_false (list_all is_printable (trimmed t)) printable.0)

-- an id and zeros up to max bytes are the fields of an id
pub padded_whole : (max : ℕ) (t : List ℕ) → max ≤ 20 → length t ≤ max → id_of max t ≡ Ok t
    → IsPadded max (length t) (padded max t)
padded_whole max t short few id = record {
  short = short;
  whole = omega (arith, length-append t (replicate (max - length t) 0), length-replicate {A = ℕ} (max - length t) 0);
  few = few;
  is_id = rw (take_at t (replicate (max - length t) 0) (length t) refl) id;
  rest = drop_at t (replicate (max - length t) 0) (length t) refl;
}
