use Rattle.std.proofs.Common.{◌≡◌, ◌++◌, ◌∙◌, ℕ, List, IfOk, ap, codes, drop, false, length, refl, string_bytes, subst, sym}
use Rattle.std.specs.Fmt.{decimal}
use Rattle.rx_diagnostics.specs.BatchTexts.{follows_text, is_end_mark, seen_at}
use Rattle.rx_diagnostics.proofs.batch.follows_words.Goals as goal

-- bytes that are no end mark, by their count and their front
counted : (text : List ℕ) (at : ℕ) (rest there : List ℕ) → rest ≡ drop at text → there ≡ seen_at text at → is_end_mark rest ≡ false
    → decimal (length rest) ++ (codes " bytes follow the trailer, " ++ (there ++ codes ": the file ends with the trailer"))
    ≡ follows_text text at
unfolding follows_text
counted text at rest there left front more =
    let other : is_end_mark (drop at text) ≡ false = ap is_end_mark (sym left) ∙ more in
    rw (left, front, other) refl

pub returns : goal.returns
returns c =
    let same = counted c.args.text.now c.args.at c.from-rest.result.now (string_bytes c.in_ok-there.there) c.from-rest.ensures
    c.in_ok-there.ensures (sym c.is_end_mark.ensures ∙ c.if-is_end_mark.false) in
    subst (λ (t : List ℕ). IfOk c.format.result (λ said. string_bytes said ≡ t)) same c.format.ensures.ok
