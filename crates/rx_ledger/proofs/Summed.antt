-- What one more row adds to the sums.
use Rattle.std.proofs.Common.{◌≡◌, ◌<◌, ℕ, ◌+◌, ◌++◌, true, false, List, [], ◌∷◌, length, take, get_or, refl, sym, ap, ◌∙◌, add-zero}
use Rattle.std.specs.List.{filter}
use Rattle.std.proofs.lemmas.List.{append-nil, take_more}
use Rattle.std.proofs.lemmas.List.Elements.{filter-append}
use Rattle.std.proofs.lemmas.List.Sums.{sum_by_push}
use Rattle.rx_fields.specs.Numbered.{is_within}
use Rattle.rx_ledger.specs.declared.figures.Figures.{Figures}
use Rattle.rx_ledger.specs.declared.row.Row.{Row}
use Rattle.rx_ledger.specs.declared.share.Used.{Used}
use Rattle.rx_ledger.specs.Answers.{used_by}
use Rattle.rx_ledger.specs.Members.{is_same}
use Rattle.rx_ledger.specs.Rows.{claimed_by}
use Rattle.rx_ledger.specs.Sums.{counted, deductible_paid, paid_by_patient, persons_deductible_paid}

-- what was used, and what the row counts
abbrev adds : Figures → List ℕ → Row → Used → Used
adds f person r used =
    record {
      deductible = used.deductible + counted f.period (persons_deductible_paid person) r;
      out_of_pocket = used.out_of_pocket + counted f.period paid_by_patient r;
      family_deductible = used.family_deductible + counted f.period deductible_paid r;
    }

used_by-more : (f : Figures) (person : List ℕ) (rows : List Row) (r : Row)
    → used_by f person (rows ++ r ∷ []) ≡ adds f person r (used_by f person rows)
used_by-more f person rows r =
    rw (
      sum_by_push (counted f.period (persons_deductible_paid person)) rows r,
      sum_by_push (counted f.period paid_by_patient) rows r,
      sum_by_push (counted f.period deductible_paid) rows r,
    ) refl

module _ (family : List ℕ) (rows : List Row) (i : ℕ) (r : Row) (in_range : i < length rows) (is : r ≡ get_or rows i r) where
  one_more : take (i + 1) rows ≡ take i rows ++ r ∷ []
  one_more = take_more rows i r in_range ∙ ap (λ x. take i rows ++ x ∷ []) (sym is)

  -- one more row of the family, or of another
  own_more : claimed_by family r ≡ true
      → filter (claimed_by family) (take (i + 1) rows) ≡ filter (claimed_by family) (take i rows) ++ r ∷ []
  own_more own = rw (one_more, filter-append (claimed_by family) (take i rows) (r ∷ []), own) refl

  pub other_more : claimed_by family r ≡ false
      → filter (claimed_by family) (take (i + 1) rows) ≡ filter (claimed_by family) (take i rows)
  other_more other = rw (one_more, filter-append (claimed_by family) (take i rows) (r ∷ []), other) (simp append-nil)

  module _ (f : Figures) (person : List ℕ) (own : claimed_by family r ≡ true) where
    -- a row of the family that is dated within the period, of the person or of another; and one that is dated outside
    pub used_by-own : is_within f.period r.key.date ≡ true → is_same r.person person ≡ true
        → used_by f person (filter (claimed_by family) (take (i + 1) rows))
        ≡ (let used = used_by f person (filter (claimed_by family) (take i rows)) in
        record {
          deductible = used.deductible + deductible_paid r;
          out_of_pocket = used.out_of_pocket + paid_by_patient r;
          family_deductible = used.family_deductible + deductible_paid r;
        })
    used_by-own within same =
        rw (own_more own, used_by-more f person (filter (claimed_by family) (take i rows)) r, within, same) refl

    pub used_by-other : is_within f.period r.key.date ≡ true → is_same r.person person ≡ false
        → used_by f person (filter (claimed_by family) (take (i + 1) rows))
        ≡ (let used = used_by f person (filter (claimed_by family) (take i rows)) in
        record {
          deductible = used.deductible;
          out_of_pocket = used.out_of_pocket + paid_by_patient r;
          family_deductible = used.family_deductible + deductible_paid r;
        })
    used_by-other within other =
        rw (own_more own, used_by-more f person (filter (claimed_by family) (take i rows)) r, within, other) (simp add-zero)

    pub used_by-outside : is_within f.period r.key.date ≡ false
        → used_by f person (filter (claimed_by family) (take (i + 1) rows))
        ≡ used_by f person (filter (claimed_by family) (take i rows))
    used_by-outside outside =
        rw (own_more own, used_by-more f person (filter (claimed_by family) (take i rows)) r, outside) (simp add-zero)
