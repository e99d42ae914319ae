-- Claims that are cut into those that leave and those that stay.
use Rattle.std.proofs.Common.{◌≡◌, ℕ, ◌+◌, Bool, true, false, List, [], ◌∷◌, ◌++◌, Option, Some, None, length, take}
use Rattle.std.proofs.Common.{refl, sym, subst, ap, ◌∙◌, inl, inr, arith, append_assoc, length-append}
use Rattle.std.specs.Prelude.{◌&&◌, int_le, not, MatchOption}
use Rattle.std.specs.List.{AllZip, flat_map}
use Rattle.std.specs.declared.vec.Vec.{Vec}
use Rattle.std.proofs.lemmas.Bool.{both_ways, cases_Bool}
use Rattle.std.proofs.lemmas.Grind.{flat_map-append}
use Rattle.std.proofs.lemmas.List.{append-nil}
use Rattle.std.proofs.lemmas.List.Elements.{filter-append}
use Rattle.std.proofs.lemmas.List.Folds.{list_all-append}
use Rattle.std.proofs.lemmas.Int.{ints}
use Rattle.rx_fields.specs.Calendar.{Civil, IsCivil, day_number}
use Rattle.rx_ledger.specs.declared.row.Row.{Row}
use Rattle.rx_books_text.specs.declared.line.Line.TheVariants as line
use Rattle.rx_books_text.specs.declared.version.Version.TheVariants.{Three}
use Rattle.rx_books_text.specs.LineText.{ended, line_text}
use Rattle.rx_books_store.specs.BooksText.{claims_text}
use Rattle.rx_books_upkeep.specs.declared.cut_claims.CutClaims.{CutClaims}
use Rattle.rx_books_upkeep.specs.declared.cut_claims.Cuts.{Cuts}
use Rattle.rx_books_upkeep.specs.Ageing.{IsFirstSafe, IsSafe, dropped, is_before, is_over}
use Rattle.rx_books_upkeep.specs.AgedText.{AreCut, IsCut, IsOverFrom, is_reached, staying}
use Rattle.rx_books_upkeep.proofs.SafeDays.{le_from, le_true}

abbrev line_of : Row → List ℕ
line_of r = ended (line_text Three (line.Claim r))

and_true : (b : Bool) → (b && true) ≡ b
and_true true = refl
and_true false = refl

module _ (percent : ℕ) (day : Civil) where
  -- ---- claims, and others after them

  staying_both : (rows more : List Row)
      → claims_text (staying day (rows ++ more)) ≡ claims_text (staying day rows) ++ claims_text (staying day more)
  staying_both rows more =
      ap claims_text (filter-append (λ r. not (is_before day r)) rows more)
      ∙ flat_map-append line_of (staying day rows) (staying day more)

  leaving_both : (rows more : List Row)
      → claims_text (dropped day (rows ++ more)) ≡ claims_text (dropped day rows) ++ claims_text (dropped day more)
  leaving_both rows more =
      ap claims_text (filter-append (is_before day) rows more) ∙ flat_map-append line_of (dropped day rows) (dropped day more)

  left_both : (rows more : List Row) → length (dropped day (rows ++ more)) ≡ length (dropped day rows) + length (dropped day more)
  left_both rows more =
      ap length (filter-append (is_before day) rows more) ∙ length-append (dropped day rows) (dropped day more)

  over_both : (rows more : List Row) (first second both : Option Civil) → IsOverFrom percent rows first
      → IsOverFrom percent more second → ((d : Civil) → is_reached both d ≡ (is_reached first d && is_reached second d))
      → IsOverFrom percent (rows ++ more) both
  over_both rows more first second both one two later d civil =
      list_all-append (is_over percent d) rows more ∙ (λ i. one d civil i && two d civil i) ∙ sym (later d)

  dropped_over : (rows more : List Row) (first second both : Option Civil) → IsOverFrom percent (dropped day rows) first
      → IsOverFrom percent (dropped day more) second
      → ((d : Civil) → is_reached both d ≡ (is_reached first d && is_reached second d))
      → IsOverFrom percent (dropped day (rows ++ more)) both
  dropped_over rows more first second both one two later =
      subst (λ (rs : List Row). IsOverFrom percent rs both) (sym (filter-append (is_before day) rows more))
      (over_both (dropped day rows) (dropped day more) first second both one two later)

  -- ---- one claim more

  over_one : (r : Row) (over : Option Civil)
      → MatchOption over ((d : Civil) → IsCivil d → is_over percent d r ≡ false)
      (λ first. (d : Civil) → is_over percent d r ≡ int_le (day_number first) (day_number d))
      → IsOverFrom percent (r ∷ []) over
  over_one r None never d civil = rw (never d civil) refl
  over_one r (Some first) from d civil = and_true (is_over percent d r) ∙ from d

  -- nothing yet
  pub over_none : (first : Civil) → ((d : Civil) → IsCivil d → int_le (day_number first) (day_number d) ≡ true)
      → IsOverFrom percent [] (Some first)
  over_none first before d civil = sym (before d civil)

  module _ (rows : List Row) (r : Row) (old new : CutClaims) (line : List ℕ) (cut : IsCut percent day rows old)
      (line_is : line ≡ claims_text (r ∷ [])) where
    pub one_stays : is_before day r ≡ false → new.staying.items ≡ old.staying.items ++ line → new.leaving ≡ old.leaving
        → new.left ≡ old.left → new.first_safe ≡ old.first_safe → IsCut percent day (rows ++ r ∷ []) new
    one_stays stays put same_leaving same_left same_first =
        let here : staying day (r ∷ []) ≡ r ∷ [] = rw stays refl in
        let none : dropped day (r ∷ []) ≡ [] = rw stays refl in
        let all : dropped day (rows ++ r ∷ []) ≡ dropped day rows =
        filter-append (is_before day) rows (r ∷ []) ∙ ap (λ (rs : List Row). dropped day rows ++ rs) none
        ∙ append-nil (dropped day rows) in
        record {
          staying = put ∙ (λ i. cut.staying i ++ line_is i)
              ∙ ap (λ (rs : List Row). claims_text (staying day rows) ++ claims_text rs) (sym here)
              ∙ sym (staying_both rows (r ∷ []));
          leaving = ap (λ (v : Vec ℕ _). v.items) same_leaving ∙ cut.leaving ∙ ap claims_text (sym all);
          left = same_left ∙ cut.left ∙ ap length (sym all);
          over = subst (λ (rs : List Row). IsOverFrom percent rs new.first_safe) (sym all)
              (subst (IsOverFrom percent (dropped day rows)) (sym same_first) cut.over);
        }

    pub one_leaves : (over : Option Civil) → is_before day r ≡ true → new.leaving.items ≡ old.leaving.items ++ line
        → new.staying ≡ old.staying → new.left ≡ old.left + 1
        → MatchOption over ((d : Civil) → IsCivil d → is_over percent d r ≡ false)
        (λ first. (d : Civil) → is_over percent d r ≡ int_le (day_number first) (day_number d))
        → ((d : Civil) → is_reached new.first_safe d ≡ (is_reached old.first_safe d && is_reached over d))
        → IsCut percent day (rows ++ r ∷ []) new
    one_leaves over leaves put same_staying more from later =
        let here : dropped day (r ∷ []) ≡ r ∷ [] = rw leaves refl in
        let none : staying day (r ∷ []) ≡ [] = rw leaves refl in
        let all : staying day (rows ++ r ∷ []) ≡ staying day rows =
        filter-append (λ q. not (is_before day q)) rows (r ∷ []) ∙ ap (λ (rs : List Row). staying day rows ++ rs) none
        ∙ append-nil (staying day rows) in
        record {
          staying = ap (λ (v : Vec ℕ _). v.items) same_staying ∙ cut.staying ∙ ap claims_text (sym all);
          leaving = put ∙ (λ i. cut.leaving i ++ line_is i)
              ∙ ap (λ (rs : List Row). claims_text (dropped day rows) ++ claims_text rs) (sym here)
              ∙ sym (leaving_both rows (r ∷ []));
          left = more ∙ (λ i. cut.left i + length (sym here i)) ∙ sym (left_both rows (r ∷ []));
          over = dropped_over rows (r ∷ []) old.first_safe over new.first_safe cut.over
              (subst (λ (rs : List Row). IsOverFrom percent rs over) (sym here) (over_one r over from)) later;
        }

-- ---- claims one after another

-- these are cut, and the others are still to come
pub record IsCutSoFar (percent : ℕ) (day : Civil) (all left : List Row) (made : CutClaims) : Type 0 where
  pub done : List Row
  pub split : done ++ left ≡ all
  pub cut : IsCut percent day done made

pub one_more : (percent : ℕ) (day : Civil) (all left more : List Row) (r : Row) (old new : CutClaims)
    → (far : IsCutSoFar percent day all left old) → left ≡ r ∷ more → IsCut percent day (far.done ++ r ∷ []) new
    → IsCutSoFar percent day all more new
one_more percent day all left more r old new far next is = record {
  done = far.done ++ r ∷ [];
  split = append_assoc far.done (r ∷ []) more ∙ ap (λ (rs : List Row). far.done ++ rs) (sym next) ∙ far.split;
  cut = is;
}

pub all_cut : (percent : ℕ) (day : Civil) (all left : List Row) (cut : CutClaims) → IsCutSoFar percent day all left cut → left ≡ []
    → IsCut percent day all cut
all_cut percent day all left cut far none =
    let same : far.done ≡ all = sym (append-nil far.done) ∙ ap (λ (rs : List Row). far.done ++ rs) (sym none) ∙ far.split in
    subst (λ (rs : List Row). IsCut percent day rs cut) same far.cut

-- ---- parts one after another

-- the claims of the first parts, as many as these
abbrev pub first_claims : List (List Row) → ℕ → List Row
first_claims parts n = flat_map (λ part. part) (take n parts)

-- a part of which something holds, after those so far
pub record NextPart (Cut : List Row → CutClaims → Type 0) (parts : List (List Row)) (done : List CutClaims) (c : CutClaims) : Type 0 where
  pub part : List Row
  pub is : Cut part c
  pub more : first_claims parts (length (done ++ c ∷ [])) ≡ first_claims parts (length done) ++ part

pub next_part : (Cut : List Row → CutClaims → Type 0) (parts : List (List Row)) (done : List CutClaims) (c : CutClaims)
    (rest : List CutClaims) → AllZip Cut parts (done ++ c ∷ rest) → NextPart Cut parts done c
next_part Cut [] [] c rest all = absurd all
next_part Cut [] (x ∷ done) c rest all = absurd all
next_part Cut (p ∷ parts) [] c rest all = record { part = p; is = all.0; more = append-nil p }
next_part Cut (p ∷ parts) (x ∷ done) c rest all =
    let next = next_part Cut parts done c rest all.1 in
    record {
      part = next.part;
      is = next.is;
      more = ap (λ (t : List Row). p ++ t) next.more ∙ sym (append_assoc p (first_claims parts (length done)) next.part);
    }

-- all of them
pub all_parts : (Cut : List Row → CutClaims → Type 0) (parts : List (List Row)) (cuts : List CutClaims) → AllZip Cut parts cuts
    → take (length cuts) parts ≡ parts
all_parts Cut [] [] all = refl
all_parts Cut [] (c ∷ cuts) all = absurd all
all_parts Cut (p ∷ parts) [] all = absurd all
all_parts Cut (p ∷ parts) (c ∷ cuts) all = ap (λ (ps : List (List Row)). p ∷ ps) (all_parts Cut parts cuts all.1)

-- the claims of all parts, one part more, and none more
pub part_taken : (percent : ℕ) (day : Civil) (parts : List (List Row)) (found done rest : List CutClaims) (c : CutClaims)
    (old new : Cuts) → AllZip (IsCut percent day) parts found → done ++ (c ∷ rest) ≡ found
    → AreCut percent day (first_claims parts (length done)) old
    → ((rows more : List Row) → AreCut percent day rows old → IsCut percent day more c → AreCut percent day (rows ++ more) new)
    → AreCut percent day (first_claims parts (length (done ++ c ∷ []))) new
part_taken percent day parts found done rest c old new each split far taken =
    let next = next_part (IsCut percent day) parts done c rest (subst (AllZip (IsCut percent day) parts) (sym split) each) in
    subst (λ (rs : List Row). AreCut percent day rs new) (sym next.more)
    (taken (first_claims parts (length done)) next.part far next.is)

pub parts_taken : (percent : ℕ) (day : Civil) (parts : List (List Row)) (found done rest : List CutClaims) (cuts : Cuts)
    → AllZip (IsCut percent day) parts found → done ++ rest ≡ found → rest ≡ []
    → AreCut percent day (first_claims parts (length done)) cuts → AreCut percent day (flat_map (λ part. part) parts) cuts
parts_taken percent day parts found done rest cuts each split none far =
    let same : done ≡ found = sym (append-nil done) ∙ ap (λ (cs : List CutClaims). done ++ cs) (sym none) ∙ split in
    let all : take (length done) parts ≡ parts =
    ap (λ (cs : List CutClaims). take (length cs) parts) same ∙ all_parts (IsCut percent day) parts found each in
    subst (λ (ps : List (List Row)). AreCut percent day (flat_map (λ part. part) ps) cuts) all far

-- claims of which none leaves
pub whole : (day : Civil) (rows : List Row) → dropped day rows ≡ [] → staying day rows ≡ rows
whole day [] none = refl
whole day (r ∷ rows) none = elim (cases_Bool (is_before day r)) [
  | inl leaves ↦ absurd (let e = rw leaves at none in cc)
  | inr stays ↦ rw stays (ap (λ (rs : List Row). r ∷ rs) (whole day rows (rw stays at none)))
]

-- ---- the first safe day

pub first_safe_is : (percent : ℕ) (rows : List Row) (first : Option Civil) → IsOverFrom percent rows first
    → MatchOption first ((d : Civil) → IsCivil d → ¬ IsSafe percent rows d) (IsFirstSafe percent rows)
first_safe_is percent rows None over = λ d civil safe.
    both_ways _ (over d civil) (safe d (record { civil = civil; from = omega (arith, ints) }))
first_safe_is percent rows (Some first) over = record {
  safe = λ date from. over date from.civil ∙ le_true (day_number first) (day_number date) from.from;
  least = λ other civil safe.
      le_from (day_number first) (day_number other)
      (sym (over other civil) ∙ safe other (record { civil = civil; from = omega (arith, ints) }));
}
