-- Texts of two batches that were replayed, where their records and replies are the same at a place.
use Rattle.std.specs.Prelude.{◌||◌, ◌==◌, if◌then◌else◌}
use Rattle.std.proofs.Common.{◌≡◌, ℕ, List, [], ◌∷◌, ◌++◌, Option, Some, None, refl, ap, ◌∙◌}
use Rattle.std.specs.List.{AllZip, flat_map, list_any}
use Rattle.rx_batch.specs.declared.batch.Batch.{Batch}
use Rattle.rx_commands.specs.Compared.{compared_to}
use Rattle.rx_commands.specs.Explaining.{compared_in, is_other, rejected_if_other, rejected_text_if, text_of}
use Rattle.rx_commands.specs.Tiers.{table_of, tier_of}
use Rattle.rx_commands.specs.declared.manner.Manner.{Manner}
use Rattle.rx_commands.specs.declared.manner.Manner.TheVariants as manner
use Rattle.rx_commands.specs.declared.retraced.Retraced.{Retraced}
use Rattle.rx_commands.proofs.Shown.{is_any, other, text}
use Rattle.rx_d0_values.specs.declared.transmission.Rejected.{Rejected}
use Rattle.rx_explain.specs.Seen.{IsSameSaid}
use Rattle.rx_explain.specs.Spots.{item}
use Rattle.rx_explain.specs.declared.explanation.Explanation.{Explanation}
use Rattle.rx_explain_text.specs.Json.{explanation_object, rejection_object}
use Rattle.rx_explain_text.specs.Rejections.{rejection_words}
use Rattle.rx_explain_text.specs.Texts.{explanation_words}
use Rattle.rx_explain_text.specs.declared.compared.Compared.TheVariants.{OtherBatch}
use Rattle.rx_explain_text.specs.declared.counted.Listing.{Listing}
use Rattle.rx_explain_text.specs.declared.counted.Listing.TheVariants.{Largest, All}
use Rattle.rx_explain_text.proofs.SameSaid.{same_object, same_words}

-- one lot, one plan's figures and tiers
pub record AreBeside (r s : Retraced) : Type 0 where
  pub lot_is : r.lot ≡ s.lot
  pub figures_are : r.figures ≡ s.figures
  pub tiers_are : table_of r.tiers ≡ table_of s.tiers

-- the same record and reply at a place
pub record AreSameAt (r s : Retraced) (place : ℕ) : Type 0 where
  pub record_is : item r.details place ≡ item s.details place
  pub reply_is : item r.replies.items place ≡ item s.replies.items place

module _ (r s : Retraced) (beside : AreBeside r s) (file : Option Batch) where
  compared-with : (place : ℕ) → AreSameAt r s place → (f : Option Batch) → compared_in r f place ≡ compared_in s f place
  compared-with place same None = refl
  compared-with place same (Some f) =
      λ i. Some (
      if f.head.lot.number == (beside.lot_is i).number
      then compared_to (item f.details place) (same.record_is i) (same.reply_is i)
      else OtherBatch f.head.lot)

  pub compared-same : (place : ℕ) → AreSameAt r s place → compared_in r file place ≡ compared_in s file place
  compared-same place same = compared-with place same file

  -- ---- a transaction

  module _ (x y : Explanation) (said : IsSameSaid x y) (same : AreSameAt r s x.at.place) where
    records : item r.details x.at.place ≡ item s.details y.at.place
    records = same.record_is ∙ ap (λ a. item s.details a.place) said.at_is

    files : compared_in r file x.at.place ≡ compared_in s file y.at.place
    files = compared-same x.at.place same ∙ ap (λ a. compared_in s file a.place) said.at_is

    words : (listing : Listing)
        → explanation_words listing r.lot r.figures x (text_of (item r.details x.at.place)) (tier_of (table_of r.tiers) x.transaction)
        (compared_in r file x.at.place)
        ≡ explanation_words listing s.lot s.figures y (text_of (item s.details y.at.place)) (tier_of (table_of s.tiers) y.transaction)
        (compared_in s file y.at.place)
    words listing =
        same_words x y said listing r.lot r.figures (text_of (item r.details x.at.place)) (tier_of (table_of r.tiers) x.transaction)
        (compared_in r file x.at.place)
        ∙ (λ i. explanation_words listing (beside.lot_is i) (beside.figures_are i) y (text_of (records i))
        (tier_of (beside.tiers_are i) (said.transaction_is i)) (files i))

    object : explanation_object r.lot r.figures x (text_of (item r.details x.at.place)) (tier_of (table_of r.tiers) x.transaction)
        (compared_in r file x.at.place)
        ≡ explanation_object s.lot s.figures y (text_of (item s.details y.at.place)) (tier_of (table_of s.tiers) y.transaction)
        (compared_in s file y.at.place)
    object =
        same_object x y said r.lot r.figures (text_of (item r.details x.at.place)) (tier_of (table_of r.tiers) x.transaction)
        (compared_in r file x.at.place)
        ∙ (λ i. explanation_object (beside.lot_is i) (beside.figures_are i) y (text_of (records i))
        (tier_of (beside.tiers_are i) (said.transaction_is i)) (files i))

    pub one-same : (m : Manner) → text m r file x ≡ text m s file y
    one-same manner.Json = object
    one-same manner.Words = words Largest
    one-same manner.Full = words All

    pub other-same : (m : Manner) → other m r file x ≡ other m s file y
    other-same m = ap is_other files

  -- ---- those that there are

  abbrev pub AreOne : Explanation → Explanation → Type 0
  AreOne x y = IsSameSaid x y × AreSameAt r s x.at.place

  module _ (m : Manner) where
    pub texts-same : (xs ys : List Explanation) → AllZip AreOne xs ys → flat_map (text m r file) xs ≡ flat_map (text m s file) ys
    texts-same [] [] all = refl
    texts-same [] (y ∷ ys) all = absurd all
    texts-same (x ∷ xs) [] all = absurd all
    texts-same (x ∷ xs) (y ∷ ys) all =
        ap (λ t. t ++ flat_map (text m r file) xs) (one-same x y all.0.0 all.0.1 m)
        ∙ ap (λ t. text m s file y ++ t) (texts-same xs ys all.1)

    pub others-same : (xs ys : List Explanation) → AllZip AreOne xs ys → list_any (other m r file) xs ≡ list_any (other m s file) ys
    others-same [] [] all = refl
    others-same [] (y ∷ ys) all = absurd all
    others-same (x ∷ xs) [] all = absurd all
    others-same (x ∷ xs) (y ∷ ys) all =
        ap (λ b. b || list_any (other m r file) xs) (other-same x y all.0.0 all.0.1 m)
        ∙ ap (λ b. other m s file y || b) (others-same xs ys all.1)

  pub any-same : (xs ys : List Explanation) → AllZip AreOne xs ys → is_any xs ≡ is_any ys
  any-same [] [] all = refl
  any-same [] (y ∷ ys) all = absurd all
  any-same (x ∷ xs) [] all = absurd all
  any-same (x ∷ xs) (y ∷ ys) all = refl

  -- ---- a rejected header

  module _ (place : ℕ) (same : AreSameAt r s place) where
    rejected-one : (m : Manner) (j : Rejected) → rejected_text_if m r file place (Some j) ≡ rejected_text_if m s file place (Some j)
    rejected-one manner.Json j =
        λ i. rejection_object place j (text_of (same.record_is i)) (compared-same place same i)
    rejected-one manner.Words j =
        λ i. rejection_words (beside.figures_are i).door place j (text_of (same.record_is i)) (compared-same place same i)
    rejected-one manner.Full j =
        λ i. rejection_words (beside.figures_are i).door place j (text_of (same.record_is i)) (compared-same place same i)

    pub rejected-same : (m : Manner) (o : Option Rejected) → rejected_text_if m r file place o ≡ rejected_text_if m s file place o
    rejected-same m None = refl
    rejected-same m (Some j) = rejected-one m j

    pub rejected-other : (o : Option Rejected) → rejected_if_other r file place o ≡ rejected_if_other s file place o
    rejected-other None = refl
    rejected-other (Some j) = ap is_other (compared-same place same)
