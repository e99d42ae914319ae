-- The lines of approved reversals have the members of the claims that these take back.
use Rattle.std.proofs.Common.{◌≡◌, ℕ, List, [], ◌∷◌, Option, Some, None, map, drop, refl, ap, inl, inr}
use Rattle.std.specs.List.{AllZip, flat_map}
use Rattle.std.proofs.lemmas.Bool.{cases_Bool}
use Rattle.rx_d0_values.specs.declared.reply.Answer.{Answer}
use Rattle.rx_explain.specs.Explained.{IsExplained}
use Rattle.rx_explain.specs.Spots.{Spot, spot_at}
use Rattle.rx_explain.specs.declared.at.At.{At}
use Rattle.rx_explain.specs.declared.explanation.Explanation.{Explanation}
use Rattle.rx_commands.specs.Adjudicated.{AreExplained}
use Rattle.rx_commands.specs.declared.replay.batch.Adjudicated.{Adjudicated}
use Rattle.rx_report.specs.AddsUp.{entry_of}
use Rattle.rx_report.specs.declared.line.Line.{Line}
use Rattle.rx_settle.specs.Answers.{is_approved}
use Rattle.rx_commands.specs.Lines.{at_of}
use Rattle.rx_commands.specs.Reversed.{first_member, member_back, member_before, member_of, place_of, lines_with_members, with_member}
use Rattle.rx_commands.specs.Reversed.{with_reversed}

module _ (b : Adjudicated) where
  -- the transaction at a place is explained so
  abbrev IsExplainedAt : At → Option Explanation → Type 0
  IsExplainedAt at x = IsExplained b.lot b.sheet b.asked.items b.opening.ledger at (spot_at b.asked.items at) x

  member_is : (at : At) (s : Option Spot) (x : Option Explanation)
      → IsExplained b.lot b.sheet b.asked.items b.opening.ledger at s x → member_of x ≡ member_before b at s
  member_is at None None e = refl
  member_is at None (Some x) e = absurd e
  member_is at (Some s) None e = absurd e
  member_is at (Some s) (Some x) e = ap member_back e.decision_is

  -- the explanation of the first of the approved reversals
  first_is : (at : At) (places : List At) (xs : List (Option Explanation)) → AllZip IsExplainedAt (at ∷ places) xs
      → first_member xs ≡ member_before b at (spot_at b.asked.items at)
  first_is at places [] all = absurd all
  first_is at places (x ∷ xs) all = member_is at (spot_at b.asked.items at) x all.0

  others : (at : At) (places : List At) (xs : List (Option Explanation)) → AllZip IsExplainedAt (at ∷ places) xs
      → AllZip IsExplainedAt places (drop 1 xs)
  others at places [] all = absurd all
  others at places (x ∷ xs) all = all.1

  all_with_members : (ls : List Line) (xs : List (Option Explanation)) → AllZip IsExplainedAt (flat_map place_of ls) xs
      → lines_with_members ls xs ≡ map (with_reversed b) ls
  all_with_members [] xs all = refl
  all_with_members (l ∷ ls) xs all = elim (cases_Bool (is_approved l.answer)) [
    | inl own ↦
        let zipped : AllZip IsExplainedAt (at_of l ∷ flat_map place_of ls) xs = rw own at all in
        rw own (λ j. with_member l (first_is (at_of l) (flat_map place_of ls) xs zipped j)
        ∷ all_with_members ls (drop 1 xs) (others (at_of l) (flat_map place_of ls) xs zipped) j)
    | inr other ↦
        let zipped : AllZip IsExplainedAt (flat_map place_of ls) xs = rw other at all in
        rw other (ap (λ (rest : List Line). l ∷ rest) (all_with_members ls xs zipped))
  ]

pub with_members_is : (b : Adjudicated) (ls : List Line) (xs : List (Option Explanation))
    → AreExplained b (flat_map place_of ls) xs → lines_with_members ls xs ≡ map (with_reversed b) ls
with_members_is b ls xs all = all_with_members b ls xs all

-- each line keeps its provider and its answer
pub same_entries : (b : Adjudicated) (ls : List Line) → map entry_of (map (with_reversed b) ls) ≡ map entry_of ls
same_entries b [] = refl
same_entries b (l ∷ ls) = elim (cases_Bool (is_approved l.answer)) [
  | inl here ↦ rw here (ap (λ (rest : List (List ℕ × Answer)). entry_of l ∷ rest) (same_entries b ls))
  | inr other ↦ rw other (ap (λ (rest : List (List ℕ × Answer)). entry_of l ∷ rest) (same_entries b ls))
]
