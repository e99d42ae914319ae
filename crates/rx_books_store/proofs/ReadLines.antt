-- The lines of claims in the text that they were read from, run by run and claim by claim.
use Rattle.std.proofs.Common.{◌≡◌, ℕ, ◌+◌, ◌-◌, ◌<◌, ◌≤◌, List, [], ◌∷◌, ◌++◌, length, get_or, take, drop, sum, map}
use Rattle.std.proofs.Common.{refl, sym, subst, ap, ◌∙◌, arith, length-append}
use Rattle.std.specs.List.{flat_map, slice_range}
use Rattle.std.specs.declared.vec.Vec.{Vec}
use Rattle.std.proofs.lemmas.Grind.{flat_map-append}
use Rattle.std.proofs.lemmas.List.{append-nil, drop_at, drop_more, length-map, map-append, take_at, take_more}
use Rattle.rx_sorted.specs.Runs.{items_of}
use Rattle.rx_ledger.specs.declared.row.Row.{Row}
use Rattle.rx_books_text.specs.declared.version.Version.TheVariants.{Three}
use Rattle.rx_books_scan.specs.Lists.{claim_length, claim_lengths}
use Rattle.rx_books_store.specs.BooksText.{claims_text}
use Rattle.rx_books_store.specs.Kept.{HoldsLines}
use Rattle.rx_books_store.specs.ReadClaims.{AreRead}
use Rattle.rx_books_store.proofs.Patches.{line_of, sum_lengths}

-- ---- all of them

module _ (text lengths : List ℕ) (above : ℕ) (rows : List Row) (held : HoldsLines text above lengths rows) where
  long : sum lengths ≡ length (claims_text rows)
  long = ap sum held.each ∙ sum_lengths rows

  pub all_within : above + sum lengths ≤ length text
  all_within = omega (arith, held.within, long)

  pub all_read : (lines own : List ℕ) → lines ≡ slice_range text above (above + sum lengths) → own ≡ lengths → AreRead rows lines own
  all_read lines own is same =
      let bytes : above + sum lengths - above ≡ length (claims_text rows) = omega (arith, long) in
      record {
        text = is ∙ ap (λ (n : ℕ). take n (drop above text)) bytes ∙ held.whole;
        each = same ∙ held.each;
      }

-- ---- the first of them

module _ (run rest : List Row) (lines lengths : List ℕ) (are : AreRead (run ++ rest) lines lengths) where
  split_lengths : lengths ≡ claim_lengths Three run ++ claim_lengths Three rest
  split_lengths = are.each ∙ map-append (claim_length Three) run rest

  split_lines : lines ≡ claims_text run ++ claims_text rest
  split_lines = are.text ∙ flat_map-append line_of run rest

  as_many : length (claim_lengths Three run) ≡ length run
  as_many = length-map run (claim_length Three)

  pub lengths_within : length run ≤ length lengths
  lengths_within =
      omega (arith, ap length split_lengths, length-append (claim_lengths Three run) (claim_lengths Three rest), as_many)

  pub own_lengths : take (length run) lengths ≡ claim_lengths Three run
  own_lengths =
      ap (take (length run)) split_lengths ∙ take_at (claim_lengths Three run) (claim_lengths Three rest) (length run) as_many

  pub other_lengths : drop (length run) lengths ≡ claim_lengths Three rest
  other_lengths =
      ap (drop (length run)) split_lengths ∙ drop_at (claim_lengths Three run) (claim_lengths Three rest) (length run) as_many

  pub own_bytes : sum (take (length run) lengths) ≡ length (claims_text run)
  own_bytes = ap sum own_lengths ∙ sum_lengths run

  module _ (n : ℕ) (is : n ≡ length (claims_text run)) where
    pub lines_within : n ≤ length lines
    lines_within = omega (arith, ap length split_lines, length-append (claims_text run) (claims_text rest), is)

    pub own_read : AreRead run (take n lines) (take (length run) lengths)
    own_read = record {
      text = ap (take n) split_lines ∙ take_at (claims_text run) (claims_text rest) n (sym is);
      each = own_lengths;
    }

    pub others_read : AreRead rest (drop n lines) (drop (length run) lengths)
    others_read = record {
      text = ap (drop n) split_lines ∙ drop_at (claims_text run) (claims_text rest) n (sym is);
      each = other_lengths;
    }

-- ---- the next run

module _ {Z : Type 0} (runs : List (Vec Row Z)) (i : ℕ) (run : Vec Row Z) (lt : i < length runs) (is : run ≡ get_or runs i run) where
  pub next_run : items_of (drop i runs) ≡ run.items ++ items_of (drop (i + 1) runs)
  next_run = ap items_of (drop_more runs i run lt ∙ ap (λ r. r ∷ drop (i + 1) runs) (sym is))

  pub one_run_more : items_of (take (i + 1) runs) ≡ items_of (take i runs) ++ run.items
  one_run_more =
      ap items_of (take_more runs i run lt ∙ ap (λ r. take i runs ++ r ∷ []) (sym is))
      ∙ flat_map-append (λ (r : Vec Row Z). r.items) (take i runs) (run ∷ [])
      ∙ ap (λ (rs : List Row). items_of (take i runs) ++ rs) (append-nil run.items)

-- one part more
pub one_part_more : (parts more : List (List Row)) (part so_far next : List Row) → more ≡ parts ++ part ∷ []
    → flat_map (λ p. p) parts ≡ so_far → next ≡ so_far ++ part → flat_map (λ p. p) more ≡ next
one_part_more parts more part so_far next is before after =
    ap (flat_map (λ (p : List Row). p)) is
    ∙ flat_map-append (λ (p : List Row). p) parts (part ∷ [])
    ∙ ap (λ (rs : List Row). flat_map (λ (p : List Row). p) parts ++ rs) (append-nil part)
    ∙ ap (λ (rs : List Row). rs ++ part) before ∙ sym after
