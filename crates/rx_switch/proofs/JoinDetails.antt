-- The references of two lists of details, place by place.
use Rattle.std.proofs.Common.{◌≡◌, ◌≤◌, ℕ, ◌+◌, ◌<◌, ◌-◌, List, [], ◌∷◌, ◌++◌, None, Some, get_or, length, map, take, refl, ap, sym, ◌∙◌}
use Rattle.std.proofs.Common.{arith}
use Rattle.std.specs.List.{slice_get}
use Rattle.std.specs.Option.{option_map}
use Rattle.std.proofs.lemmas.List.{length-map, map-append, take_more}
use Rattle.std.proofs.lemmas.Option.{slice_get-get_or, slice_get_past, slice_get_read}
use Rattle.rx_batch.specs.declared.detail.Detail.{Detail}
use Rattle.rx_wave.proofs.Lists.{an_item}
use Rattle.rx_switch.specs.JoinRefused.{IsOtherDetail, reference_at}

abbrev named : List Detail → List (List ℕ)
named ds = map (λ (d : Detail). d.reference) ds

here : (ds : List Detail) (i : ℕ) (d : Detail) → i < length ds → d ≡ get_or ds i d → reference_at ds (i + 1) ≡ Some d.reference
here ds i d low is =
    let e : i + 1 - 1 ≡ i = omega arith in
    ap (λ n. option_map (λ (d : Detail). d.reference) (slice_get ds n)) e
    ∙ ap (option_map (λ (d : Detail). d.reference)) (slice_get_read ds (length ds) i d refl low is)

past : (ds : List Detail) (i : ℕ) → length ds ≤ i → reference_at ds (i + 1) ≡ None
past ds i high =
    let e : i + 1 - 1 ≡ i = omega arith in
    ap (λ n. option_map (λ (d : Detail). d.reference) (slice_get ds n)) e
    ∙ ap (option_map (λ (d : Detail). d.reference)) (slice_get_past ds i high)

taken : (ds : List Detail) (i : ℕ) (d : Detail) → i < length ds → d ≡ get_or ds i d
    → named (take (i + 1) ds) ≡ named (take i ds) ++ d.reference ∷ []
taken ds i d low is =
    ap named (take_more ds i d low ∙ ap (λ e. take i ds ++ e ∷ []) (sym is))
    ∙ map-append (λ (d : Detail). d.reference) (take i ds) (d ∷ [])

module _ (own details : List Detail) (i : ℕ) (a d : Detail) (own_low : i < length own) (low : i < length details)
    (own_is : a ≡ get_or own i a) (is : d ≡ get_or details i d) where
  -- one more is the same
  pub same_more : named (take i own) ≡ named (take i details) → a.reference ≡ d.reference
      → named (take (i + 1) own) ≡ named (take (i + 1) details)
  same_more before one =
      taken own i a own_low own_is ∙ (λ j. before j ++ one j ∷ []) ∙ sym (taken details i d low is)

  -- or this is the first that isn't
  pub other_here : named (take i own) ≡ named (take i details) → (a.reference ≡ d.reference → ⊥) → IsOtherDetail own details (i + 1)
  other_here before other =
      let at : i + 1 - 1 ≡ i = omega arith in
      record {
        from_one = omega arith;
        before = ap (λ n. named (take n own)) at ∙ before ∙ ap (λ n. named (take n details)) (sym at);
        other = λ e.
            let both : Some a.reference ≡ Some d.reference =
            sym (here own i a own_low own_is) ∙ e ∙ here details i d low is in
            other (let same : a.reference ≡ d.reference = cc in same);
      }

-- one of the two isn't there
lacks : (own details : List Detail) (i : ℕ) → length own ≤ i → i < length details
    → reference_at own (i + 1) ≡ reference_at details (i + 1) → ⊥
lacks own details i high low e =
    let there = slice_get-get_or details i (an_item details i low) low in
    let d = get_or details i (an_item details i low) in
    let k : i + 1 - 1 ≡ i = omega arith in
    let some : reference_at details (i + 1) ≡ Some d.reference =
    ap (λ n. option_map (λ (d : Detail). d.reference) (slice_get details n)) k
    ∙ ap (option_map (λ (d : Detail). d.reference)) there in
    let bad : None ≡ Some d.reference = sym (past own i high) ∙ e ∙ some in cc

pub past_own : (own details : List Detail) (i : ℕ) → length own ≤ i → i < length details
    → named (take i own) ≡ named (take i details) → IsOtherDetail own details (i + 1)
past_own own details i high low before =
    let at : i + 1 - 1 ≡ i = omega arith in
    record {
      from_one = omega arith;
      before = ap (λ n. named (take n own)) at ∙ before ∙ ap (λ n. named (take n details)) (sym at);
      other = lacks own details i high low;
    }

pub past_all : (own details : List Detail) (i : ℕ) → length details ≤ i → i ≤ length details → length details < length own
    → named (take i own) ≡ named (take i details) → IsOtherDetail own details (length details + 1)
past_all own details i high to low before =
    let last : i ≡ length details = omega (arith, high, to) in
    let at : length details + 1 - 1 ≡ i = omega (arith, last) in
    record {
      from_one = omega arith;
      before = ap (λ n. named (take n own)) at ∙ before ∙ ap (λ n. named (take n details)) (sym at);
      other = λ e. lacks details own (length details) (omega arith) low (sym e);
    }

-- as many references, as many details
pub as_long : (own details : List Detail) → named own ≡ named details → length own ≡ length details
as_long own details same =
    sym (length-map own (λ (d : Detail). d.reference)) ∙ ap length same ∙ length-map details (λ (d : Detail). d.reference)
