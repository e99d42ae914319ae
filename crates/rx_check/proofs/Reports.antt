-- The texts of a report: a line about a fault, the warnings of ignored keys one after another, and all of them joined.
use Rattle.std.proofs.Common.{◌≡◌, ◌+◌, ◌<◌, ◌++◌, ◌∷◌, [], ℕ, List, String, Result, Ok, Err, IfOk, append_assoc, get_or, length}
use Rattle.std.proofs.Common.{map, string_bytes, take, ap, sym, ◌∙◌}
use Rattle.std.proofs.lemmas.List.{flat_map_more}
use Rattle.rx_check.specs.Faults.{IsLineOf}
use Rattle.rx_diagnostics.specs.Lines.{BeginsAt, line_text}
use Rattle.rx_diagnostics.specs.declared.place.Place.{Place}
use Rattle.rx_diagnostics.specs.declared.words.Words.{Words}
use Rattle.rx_check.specs.Report.{TellsAt, ignored_text, warning_line}
use Rattle.rx_diagnostics.proofs.LeastApart.{names_more}

-- the line of a file has such words
pub tells : {Z E : Type 0} (Are : Words → Type 0) (file : List ℕ) (words : Words) (r : Result (String Z) E)
    → Are words → IfOk r (λ line. string_bytes line ≡ line_text file words ++ 10 ∷ [])
    → IfOk r (λ line. TellsAt Are file (string_bytes line))
tells Are file words (Ok line) so is = (words, (so, is))
tells Are file words (Err e) so is = is

-- and so it is what a refusal prints of them
pub says : {Z E : Type 0} (Are : Words → Type 0) (file : List ℕ) (words : Words) (r : Result (String Z) E)
    → Are words → IfOk r (λ line. string_bytes line ≡ line_text file words)
    → IfOk r (λ line. IsLineOf Are file (string_bytes line))
says Are file words (Ok line) so is = (words, (so, is))
says Are file words (Err e) so is = is

pub begins : {Z E : Type 0} (IsPlace : Place → Type 0) (file : List ℕ) (words : Words) (r : Result (String Z) E)
    → IsPlace words.place → IfOk r (λ line. BeginsAt file words.place (string_bytes line))
    → IfOk r (λ line. (at : Place) × IsPlace at × BeginsAt file at (string_bytes line))
begins IsPlace file words (Ok line) at is = (words.place, at, is)
begins IsPlace file words (Err e) at is = is

-- the warning of one more key
pub ignored_more : {Z : Type 0} (sheet : List ℕ) (ignored : List (String Z)) (i : ℕ) (key : String Z) (start text : List ℕ)
    → i < length ignored → text ≡ start ++ ignored_text sheet (map string_bytes (take i ignored))
    → text ++ warning_line sheet (string_bytes (get_or ignored i key))
    ≡ start ++ ignored_text sheet (map string_bytes (take (i + 1) ignored))
ignored_more sheet ignored i key start text inside before =
    let line = warning_line sheet (string_bytes (get_or ignored i key)) in
    ap (λ t. t ++ line) before
    ∙ flat_map_more (warning_line sheet) start (map string_bytes (take i ignored)) (string_bytes (get_or ignored i key))
    ∙ ap (λ said. start ++ ignored_text sheet said) (sym (names_more string_bytes ignored i key inside))

-- four texts, each put after those before it
pub four_joined : (a b c d two three four : List ℕ) → two ≡ a ++ b → three ≡ two ++ c → four ≡ three ++ d
    → four ≡ a ++ (b ++ (c ++ d))
four_joined a b c d two three four is_two is_three is_four =
    is_four ∙ ap (λ t. t ++ d) (is_three ∙ ap (λ t. t ++ c) is_two)
    ∙ append_assoc (a ++ b) c d ∙ append_assoc a b (c ++ d)
