-- Records share in the job exactly where their footprints meet.
use Rattle.std.proofs.Common.{◌≡◌, ℕ, zero, suc, ◌≤◌, true, List, length, ap, ◌∙◌, sym, inl, inr, arith}
use Rattle.std.proofs.lemmas.List.FromFn.{get_or-map-range_with_len, length-map-range_with_len}
use Rattle.rx_fields.specs.Numbered.{LotParts}
use Rattle.rx_d0_values.specs.declared.transmission.Transmission.{Transmission}
use Rattle.rx_ledger.specs.Ledger.{Ledger}
use Rattle.rx_ledger.specs.Plan.{Plan}
use Rattle.rx_books_family.specs.Books.{Book, OfFamily, OfKey}
use Rattle.rx_books_parcel.specs.Footprints.{FootprintParts, names}
use Rattle.rx_schedule.specs.Footprints.{footprint_at, footprints_of}
use Rattle.rx_schedule.specs.Jobs.{job}
use Rattle.rx_schedule.specs.Machine.{IsNumbering, Share}
use Rattle.rx_schedule.specs.Waves.{AreWaves, footprint_in, meet, nothing, number_in, shares}
use Rattle.rx_schedule.proofs.Scanned.{meet_by_family, meet_by_key, meet_in}

module _ (L : Ledger) (records : List Transmission) where
  pub many_footprints : length (footprints_of L records) ≡ length records
  many_footprints = length-map-range_with_len (footprint_at L records) 1 (length records)

  pub footprint_there : (i : ℕ) → 1 ≤ i → i ≤ length records → footprint_in (footprints_of L records) i ≡ footprint_at L records i
  footprint_there zero one to = absurd (omega arith)
  footprint_there (suc i) one to =
      get_or-map-range_with_len (footprint_at L records) 1 (length records) i (suc i) nothing (omega arith) (omega arith)

named_meet : (F G : FootprintParts) (b : Book) → names F b ≡ true → names G b ≡ true → meet F G ≡ true
named_meet F G (OfKey k) f g = meet_by_key F G k f g
named_meet F G (OfFamily f) h g = meet_by_family F G f h g

module _ (lot : LotParts) (plan : Plan) (L : Ledger) (records : List Transmission) (i j : ℕ) (i_one : 1 ≤ i)
    (i_to : i ≤ length records) (j_one : 1 ≤ j) (j_to : j ≤ length records) where
  pub shares-from_Share : Share (job lot plan L records) i j → shares (footprints_of L records) i j ≡ true
  shares-from_Share w = rw (footprint_there L records i i_one i_to, footprint_there L records j j_one j_to)
      (named_meet (footprint_at L records i) (footprint_at L records j) w.0 w.1 w.2)

  pub Share-from_shares : shares (footprints_of L records) i j ≡ true → Share (job lot plan L records) i j
  Share-from_shares h =
      let met : meet (footprint_at L records i) (footprint_at L records j) ≡ true =
      ap (λ F. meet F (footprint_at L records j)) (sym (footprint_there L records i i_one i_to))
      ∙ ap (meet (footprint_in (footprints_of L records) i)) (sym (footprint_there L records j j_one j_to)) ∙ h in
      elim (meet_in (footprint_at L records i) (footprint_at L records j) met) [
        | inl k ↦ (OfKey k.0, k.1, k.2)
        | inr f ↦ (OfFamily f.0, f.1, f.2)
      ]

-- the waves of a batch's footprints are a valid numbering of its job
pub waves_number : (lot : LotParts) (plan : Plan) (L : Ledger) (records : List Transmission) (numbers : List ℕ)
    → AreWaves (footprints_of L records) numbers → IsNumbering (job lot plan L records) (number_in numbers)
waves_number lot plan L records numbers w i j one lt to shared =
    let many : length (footprints_of L records) ≡ length records = many_footprints L records in
    w.above i j one lt (omega arith)
    (shares-from_Share lot plan L records i j one (omega arith) (omega arith) to shared)
