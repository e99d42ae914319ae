-- A total line is read as what its spelling says.
use Rattle.std.proofs.Common.{◌≡◌, ℕ, List, Option, Some, None, refl, sym, subst, arith}
use Rattle.std.specs.Fmt.{decimal}
use Rattle.rx_fields.specs.Text.{IsId}
use Rattle.rx_books_text.specs.declared.line.TotalLine.{TotalLine}
use Rattle.rx_books_text.specs.declared.version.Version.{Version}
use Rattle.rx_books_text.specs.declared.version.Version.TheVariants.{One, Two, Three}
use Rattle.rx_books_text.specs.LineFits.{IsShort, PrintsDeductible, IsTotalLine}
use Rattle.rx_text.specs.Options.{◌>>=◌}
use Rattle.rx_books_text.specs.LineReading.{split, id_in, number_in, whole_total_in, short_total_in, total_in}
use Rattle.rx_books_text.specs.LineText.{joined, total_fields}
use Rattle.rx_books_text.proofs.Cuts.{split_takes}
use Rattle.rx_text.proofs.Steps.{bind_some, some_same}
use Rattle.rx_books_text.proofs.IdLaws.{id_takes, id_again, id_inside}
use Rattle.rx_books_text.proofs.NumberLaws.{number_takes, number_again, number_inside}
use Rattle.rx_books_text.proofs.Befores.{before, spelled, followed, inside_over}

abbrev pub TotalOf : Version → List ℕ → TotalLine → Type 0
TotalOf v bs t = (bs ≡ joined (total_fields t)) × IsTotalLine v t

pub whole_total_takes : (bs : List ℕ) (t : TotalLine) → whole_total_in bs ≡ Some t → TotalOf Three bs t
unfolding whole_total_in
whole_total_takes bs t e =
    let family' = bind_some (split bs)
    (λ family. split family.1 >>= λ out. id_in 20 family.0 >>= λ f. number_in 20 out.0 >>= λ o. number_in 20 out.1 >>=
    λ d. Some (record { family = f; out_of_pocket = o; deductible = Some d })) t e in
    let out' = bind_some (split family'.0.1)
    (λ out. id_in 20 family'.0.0 >>= λ f. number_in 20 out.0 >>= λ o. number_in 20 out.1 >>=
    λ d. Some (record { family = f; out_of_pocket = o; deductible = Some d })) t family'.2 in
    let f' = bind_some (id_in 20 family'.0.0)
    (λ f. number_in 20 out'.0.0 >>= λ o. number_in 20 out'.0.1 >>=
    λ d. Some (record { family = f; out_of_pocket = o; deductible = Some d })) t out'.2 in
    let o' = bind_some (number_in 20 out'.0.0)
    (λ o. number_in 20 out'.0.1 >>= λ d. Some (record { family = f'.0; out_of_pocket = o; deductible = Some d })) t f'.2 in
    let d' = bind_some (number_in 20 out'.0.1)
    (λ d. Some (record { family = f'.0; out_of_pocket = o'.0; deductible = Some d })) t o'.2 in
    let i = id_takes 20 family'.0.0 f'.0 f'.1 in
    let n = number_takes 20 out'.0.0 o'.0 (omega arith) o'.1 in
    let m = number_takes 20 out'.0.1 d'.0 (omega arith) d'.1 in
    let text : bs ≡ before f'.0 (before (decimal o'.0) (decimal d'.0)) =
    followed bs f'.0 family'.0.1 (before (decimal o'.0) (decimal d'.0))
    (spelled bs family'.0.0 f'.0 family'.0.1 (split_takes bs family'.0 family'.1) i.0)
    (followed family'.0.1 (decimal o'.0) out'.0.1 (decimal d'.0)
    (spelled family'.0.1 out'.0.0 (decimal o'.0) out'.0.1 (split_takes family'.0.1 out'.0 out'.1) n.0) m.0) in
    subst (TotalOf Three bs) (some_same d'.2)
    (text, record { family = i.1; out_of_pocket = n.1; deductible = m.1 })

pub short_total_takes : (v : Version) (bs : List ℕ) (t : TotalLine) → PrintsDeductible v None → short_total_in bs ≡ Some t
    → TotalOf v bs t
unfolding short_total_in
short_total_takes v bs t prints e =
    let family' = bind_some (split bs)
    (λ family. id_in 20 family.0 >>= λ f. number_in 20 family.1 >>=
    λ o. Some (record { family = f; out_of_pocket = o; deductible = None })) t e in
    let f' = bind_some (id_in 20 family'.0.0)
    (λ f. number_in 20 family'.0.1 >>= λ o. Some (record { family = f; out_of_pocket = o; deductible = None })) t family'.2 in
    let o' = bind_some (number_in 20 family'.0.1)
    (λ o. Some (record { family = f'.0; out_of_pocket = o; deductible = None })) t f'.2 in
    let i = id_takes 20 family'.0.0 f'.0 f'.1 in
    let n = number_takes 20 family'.0.1 o'.0 (omega arith) o'.1 in
    let text : bs ≡ before f'.0 (decimal o'.0) =
    followed bs f'.0 family'.0.1 (decimal o'.0)
    (spelled bs family'.0.0 f'.0 family'.0.1 (split_takes bs family'.0 family'.1) i.0) n.0 in
    subst (TotalOf v bs) (some_same o'.2)
    (text, record { family = i.1; out_of_pocket = n.1; deductible = prints })

pub total_takes : (v : Version) (bs : List ℕ) (t : TotalLine) → total_in v bs ≡ Some t → TotalOf v bs t
total_takes One bs t e = short_total_takes One bs t refl e
total_takes Two bs t e = short_total_takes Two bs t refl e
total_takes Three bs t e = whole_total_takes bs t e

abbrev pub total_of : List ℕ → ℕ → Option ℕ → TotalLine
total_of family out deductible = record { family = family; out_of_pocket = out; deductible = deductible }

pub whole_total_again : (family : List ℕ) (out d : ℕ) → IsId 20 family → IsShort out → IsShort d
    → whole_total_in (before family (before (decimal out) (decimal d))) ≡ Some (total_of family out (Some d))
unfolding whole_total_in
whole_total_again family out d id short few =
    rw (
      inside_over family (before (decimal out) (decimal d)) (id_inside 20 family id),
      inside_over (decimal out) (decimal d) (number_inside out short),
      id_again 20 family id,
      number_again 20 out (omega arith) (omega arith) short,
      number_again 20 d (omega arith) (omega arith) few,
    ) refl

pub short_total_again : (family : List ℕ) (out : ℕ) → IsId 20 family → IsShort out
    → short_total_in (before family (decimal out)) ≡ Some (total_of family out None)
unfolding short_total_in
short_total_again family out id short =
    rw (
      inside_over family (decimal out) (id_inside 20 family id),
      id_again 20 family id,
      number_again 20 out (omega arith) (omega arith) short,
    ) refl

abbrev pub Again : Version → TotalLine → Type 0
Again v t = total_in v (joined (total_fields t)) ≡ Some t

pub older_again : (t : TotalLine) → IsId 20 t.family → IsShort t.out_of_pocket → t.deductible ≡ None
    → short_total_in (joined (total_fields t)) ≡ Some t
older_again t id short none =
    subst (λ (o : Option ℕ). short_total_in (joined (total_fields (total_of t.family t.out_of_pocket o)))
    ≡ Some (total_of t.family t.out_of_pocket o)) (sym none) (short_total_again t.family t.out_of_pocket id short)

pub newer_again : (t : TotalLine) (o : Option ℕ) → t.deductible ≡ o → IsId 20 t.family → IsShort t.out_of_pocket
    → PrintsDeductible Three o → whole_total_in (joined (total_fields t)) ≡ Some t
newer_again t None is id short prints = absurd prints
newer_again t (Some d) is id short prints =
    subst (λ (o : Option ℕ). whole_total_in (joined (total_fields (total_of t.family t.out_of_pocket o)))
    ≡ Some (total_of t.family t.out_of_pocket o)) (sym is) (whole_total_again t.family t.out_of_pocket d id short prints)

pub total_again : (v : Version) (t : TotalLine) → IsTotalLine v t → total_in v (joined (total_fields t)) ≡ Some t
total_again One t is = older_again t is.family is.out_of_pocket is.deductible
total_again Two t is = older_again t is.family is.out_of_pocket is.deductible
total_again Three t is = newer_again t t.deductible refl is.family is.out_of_pocket is.deductible
