-- Plumbing: what a parcel answers for while a record is adjudicated on it.
use Rattle.std.specs.Prelude.{ℕ, List, Some}
use Rattle.rx_fields.specs.Numbered.{Span}
use Rattle.rx_ledger.specs.declared.row.Row.{Row}
use Rattle.rx_ledger.specs.declared.share.Used.{Used}
use Rattle.rx_ledger.specs.Basis.{Scope}
use Rattle.rx_ledger.specs.Sums.{deductible_in, family_deductible_in, out_of_pocket_in}
use Rattle.rx_books_family.specs.Books.{OfFamily, OfKey}
use Rattle.rx_books_parcel.specs.Footprints.{names}
use Rattle.rx_books_parcel.specs.Parcels.{Agrees, IsParcel, ParcelParts, named_in}

-- its fill keys, its families with their members, and the sums of its period
abbrev pub scope_in : ParcelParts → Scope
scope_in p =
    record {
      period = Some p.period;
      has_key = λ key. names (named_in p) (OfKey key);
      has_member = λ member. names (named_in p) (OfFamily member.family);
      has_family = λ family. names (named_in p) (OfFamily family);
    }

-- a parcel whose books agree
pub record IsAgreed (p : ParcelParts) : Type 0 where
  pub parcel : IsParcel p
  pub agrees : Agrees p

-- what a person and the family have used, over the family's rows
abbrev pub used_over : Span → List Row → List ℕ → Used
used_over period rows person =
    record {
      deductible = deductible_in period rows person;
      out_of_pocket = out_of_pocket_in period rows;
      family_deductible = family_deductible_in period rows;
    }
