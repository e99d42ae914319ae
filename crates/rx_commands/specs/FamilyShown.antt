-- Meaning: what `family` shows of the books of a text, under the limits of a plan sheet's text.
use Rattle.std.specs.Prelude.{◌≡◌, ℕ, List, [], Option, Some, None, option_map, Result, Ok, Err, filter}
use Rattle.rx_books_store.specs.BooksFile.{HasBooksFault, IsBooksText}
use Rattle.rx_books_store.specs.LedgerBooks.{LedgerBooks}
use Rattle.rx_books_text.specs.declared.fault.BooksFault.{BooksFault}
use Rattle.rx_fields.specs.Numbered.{Span}
use Rattle.rx_fields.specs.Text.{id_of}
use Rattle.rx_ledger.specs.declared.figures.Figures.{Figures}
use Rattle.rx_sheet.specs.SheetText.{sheet_of_text}
use Rattle.rx_sheet.specs.declared.fault.SheetFault.{SheetFault}
use Rattle.rx_switch.specs.declared.fault.SwitchFault.{SwitchFault}
use Rattle.rx_switch.specs.declared.fault.SwitchFault.TheVariants as fault
use Rattle.rx_text.specs.Results.{◌>>=◌}
use Rattle.rx_commands.specs.declared.family.families.Family.{Family}
use Rattle.rx_commands.specs.declared.family.shown.FamilyForm.{FamilyForm}
use Rattle.rx_commands.specs.declared.family.shown.FamilyForm.TheVariants.{Columns, Tsv, Json, Html}
use Rattle.rx_commands.specs.declared.family.sums.Limits.{Limits}
use Rattle.rx_commands.specs.Families.{IsFound, IsPart, is_person, summed_over}
use Rattle.rx_commands.specs.FamilyColumns.{page_text}
use Rattle.rx_commands.specs.FamilyPage.{html_text}
use Rattle.rx_commands.specs.FamilySums.{limits_of, no_limits}
use Rattle.rx_commands.specs.FamilyTables.{family_json, tsv_text}

-- ---- the text of a family

abbrev pub family_text : FamilyForm → Family → List ℕ
family_text Columns f = page_text f
family_text Tsv f = tsv_text f.claims.items
family_text Json f = family_json f
family_text (Html origin) f = html_text origin f

-- ---- the limits

-- the figures of a sheet's text, if one is given
abbrev pub figures_of : Option (List ℕ) → Result (Option Figures) SheetFault
figures_of None = Ok None
figures_of (Some text) = sheet_of_text text >>= λ plan. Ok (Some plan.figures)

-- its limits, and its period
abbrev pub limits_under : Option Figures → Limits
limits_under None = no_limits
limits_under (Some f) = limits_of f

abbrev pub period_under : Option Figures → Option Span
period_under figures = option_map (λ f. f.period) figures

-- ---- the family that is asked for

-- the family with one of its persons only; none where it hasn't this person
abbrev pub IsPartOf : List ℕ → Family → Option Family → Type 0
IsPartOf person f None = filter (is_person person) f.members.items ≡ []
IsPartOf person f (Some part) = IsPart person f part

-- a text that isn't an id names nobody
abbrev pub IsNamedPart : {E : Type 0} → Result (List ℕ) E → Family → Option Family → Type 0
IsNamedPart (Err e) f part = part ≡ None
IsNamedPart (Ok person) f part = IsPartOf person f part

-- the whole family, or the part of the person that is asked for
abbrev pub IsPortion : Option (List ℕ) → Family → Option Family → Type 0
IsPortion None f portion = portion ≡ Some f
IsPortion (Some person) f portion = IsNamedPart (id_of 3 person) f portion

-- what is shown of a family that was found, if one was
abbrev pub IsPortionOf : Option (List ℕ) → Option Family → Option Family → Type 0
IsPortionOf person None portion = portion ≡ None
IsPortionOf person (Some f) portion = IsPortion person f portion

-- the family of the books that is named, if there is one
pub record IsAskedOf (limits : Limits) (b : LedgerBooks) (family : List ℕ) (person : Option (List ℕ)) (portion : Option Family)
    : Type 0 where
  pub found : Option Family
  pub found_is : IsFound limits b family found
  pub portion_is : IsPortionOf person found portion

abbrev pub IsAsked : {E : Type 0} → Limits → LedgerBooks → Result (List ℕ) E → Option (List ℕ) → Option Family → Type 0
IsAsked limits b (Err e) person portion = portion ≡ None
IsAsked limits b (Ok family) person portion = IsAskedOf limits b family person portion

-- ---- from text to text

-- sheet and books are accepted, and the text is that of the family that is asked for; none where the books have no such member
pub record IsFamilyShown (sheet : Option (List ℕ)) (books family : List ℕ) (person : Option (List ℕ)) (form : FamilyForm)
    (text : Option (List ℕ)) : Type 0 where
  pub figures : Option Figures
  pub opening : LedgerBooks
  pub portion : Option Family
  pub sheet_is : figures_of sheet ≡ Ok figures
  pub books_are : IsBooksText books opening.period opening.ledger
  pub asked : IsAsked (limits_under figures) (summed_over (period_under figures) opening) (id_of 20 family) person portion
  pub text_is : text ≡ option_map (family_text form) portion

-- the definitions refuse the sheet, or accept it and refuse the books; out of memory may stand in place of any answer
pub data IsNoFamilyShown (sheet : Option (List ℕ)) (books : List ℕ) : SwitchFault → Type 0 where
  sheet : (f : SheetFault) → figures_of sheet ≡ Err f → IsNoFamilyShown sheet books (fault.Sheet f)
  books : (f : BooksFault) (figures : Option Figures) → figures_of sheet ≡ Ok figures → HasBooksFault books f
      → IsNoFamilyShown sheet books (fault.Books f)
  memory : IsNoFamilyShown sheet books fault.Memory
