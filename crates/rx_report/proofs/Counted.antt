-- The answers of a report's lines are those that the settlement counts.
use Rattle.std.proofs.Common.{◌≡◌, ℕ, ◌+◌, List, [], ◌∷◌, ◌++◌, length, map, refl, ap, ◌∙◌, arith}
use Rattle.std.proofs.lemmas.List.{map-append}
use Rattle.rx_d0_values.specs.declared.reply.Answer.{Answer}
use Rattle.rx_d0_values.specs.declared.reply.Reply.{Reply}
use Rattle.rx_d0_values.specs.declared.transmission.Transmission.{Transmission}
use Rattle.rx_report.specs.AddsUp.{AreLinesOf, entries_of, entry_of}
use Rattle.rx_report.specs.declared.line.Line.{Line}
use Rattle.rx_report.specs.Lines.{answer_lines, answer_of, lines_from, lines_of, record_lines}
use Rattle.rx_settle.specs.Answers.{answers_in, answers_of}

answers_kept : (place : ℕ) (t : Transmission) (r : Reply) (before : ℕ) (answers : List Answer)
    → map answer_of (answer_lines place t r before answers) ≡ answers
answers_kept place t r before [] = refl
answers_kept place t r before (a ∷ more) = ap (λ (rest : List Answer). a ∷ rest) (answers_kept place t r (before + 1) more)

records_kept : (place : ℕ) (ts : List Transmission) (rs : List Reply) → length ts ≡ length rs
    → map answer_of (lines_from place ts rs) ≡ answers_of rs
records_kept place [] [] e = refl
records_kept place [] (r ∷ rs) e = grind arith
records_kept place (t ∷ ts) [] e = grind arith
records_kept place (t ∷ ts) (r ∷ rs) e =
    let rest : length ts ≡ length rs = omega arith in
    map-append answer_of (record_lines place t r) (lines_from (place + 1) ts rs)
    ∙ ap (λ (xs : List Answer). xs ++ map answer_of (lines_from (place + 1) ts rs))
    (answers_kept place t r 0 (answers_in r.outcome))
    ∙ ap (λ (xs : List Answer). answers_in r.outcome ++ xs) (records_kept (place + 1) ts rs rest)

pub counted : (ts : List Transmission) (rs : List Reply) (lines : List Line) → lines ≡ lines_of ts rs
    → length ts ≡ length rs → map answer_of lines ≡ answers_of rs
counted ts rs lines is e = ap (map answer_of) is ∙ records_kept 1 ts rs e

-- ---- the same, each with its provider

answers_paired : (place : ℕ) (t : Transmission) (r : Reply) (before : ℕ) (answers : List Answer)
    → map entry_of (answer_lines place t r before answers) ≡ map (λ a. (r.echo.provider, a)) answers
answers_paired place t r before [] = refl
answers_paired place t r before (a ∷ more) =
    ap (λ (rest : List (List ℕ × Answer)). (r.echo.provider, a) ∷ rest) (answers_paired place t r (before + 1) more)

records_paired : (place : ℕ) (ts : List Transmission) (rs : List Reply) → length ts ≡ length rs
    → map entry_of (lines_from place ts rs) ≡ entries_of rs
records_paired place [] [] e = refl
records_paired place [] (r ∷ rs) e = grind arith
records_paired place (t ∷ ts) [] e = grind arith
records_paired place (t ∷ ts) (r ∷ rs) e =
    let rest : length ts ≡ length rs = omega arith in
    map-append entry_of (record_lines place t r) (lines_from (place + 1) ts rs)
    ∙ (λ j. answers_paired place t r 0 (answers_in r.outcome) j ++ records_paired (place + 1) ts rs rest j)

pub paired : (ts : List Transmission) (rs : List Reply) (lines : List Line) → lines ≡ lines_of ts rs
    → length ts ≡ length rs → AreLinesOf lines rs
paired ts rs lines is e = ap (map entry_of) is ∙ records_paired 1 ts rs e
