use Rattle.std.proofs.Common.{◌≡◌, ℕ, ◌-◌, ◌≤◌, List, [], ◌∷◌, length, get_or, take, drop, ◌∙◌, ap, refl, sym, arith}
use Rattle.std.specs.Option.{option_map}
use Rattle.std.proofs.lemmas.List.{take_all}
use Rattle.rx_ledger.specs.declared.row.Row.{Row}
use Rattle.rx_books_text.specs.declared.line.Line.TheVariants as line
use Rattle.rx_books_text.specs.declared.line.MemberLine.{MemberLine}
use Rattle.rx_books_text.specs.declared.line.TotalLine.{TotalLine}
use Rattle.rx_books_text.specs.declared.version.Version.{Version}
use Rattle.rx_books_text.specs.LineReading.{line_in, line_of}
use Rattle.rx_books_text.proofs.line.line_of.Goals as goal

-- a text with a kind and a bar in front is read as the line of its kind
read_as : (v : Version) (text : List ℕ) (kind : ℕ) → 2 ≤ length text → get_or text 0 0 ≡ kind → get_or text 1 0 ≡ 124
    → line_in v kind (take (length text - 2) (drop 2 text)) ≡ line_of v text
unfolding line_of
read_as v [] kind long first bar = absurd (omega arith)
read_as v (a ∷ []) kind long first bar = absurd (omega arith)
read_as v (a ∷ b ∷ rest) kind long first bar =
    let all : take (length (a ∷ b ∷ rest) - 2) rest ≡ rest = take_all (length (a ∷ b ∷ rest) - 2) rest (omega arith) in
    rw (all, bar, first) refl

-- each kind: what its reader answers is what its fields are read as
pub returns-in_err-member_line-in-77 : goal.returns-in_err-member_line-in-77
returns-in_err-member_line-in-77 c =
    let first : get_or c.args.text.now 0 0 ≡ 77 = omega arith in
    let bar : get_or c.args.text.now 1 0 ≡ 124 = omega arith in
    c.from_residual.ensures
    ∙ ap (option_map (λ (x : MemberLine). line.Member x)) (sym c.in_err-member_line-in-77.was ∙ c.member_line.ensures)
    ∙ read_as c.args.version c.args.text.now 77 c.in-124.len_at_least first bar

pub returns-in_ok-member_line-in-77 : goal.returns-in_ok-member_line-in-77
returns-in_ok-member_line-in-77 c =
    let first : get_or c.args.text.now 0 0 ≡ 77 = omega arith in
    let bar : get_or c.args.text.now 1 0 ≡ 124 = omega arith in
    ap (option_map (λ (x : MemberLine). line.Member x)) (sym c.in_ok-member_line-in-77.was ∙ c.member_line.ensures)
    ∙ read_as c.args.version c.args.text.now 77 c.in-124.len_at_least first bar

pub returns-in_err-claim_line-in-67 : goal.returns-in_err-claim_line-in-67
returns-in_err-claim_line-in-67 c =
    let first : get_or c.args.text.now 0 0 ≡ 67 = omega arith in
    let bar : get_or c.args.text.now 1 0 ≡ 124 = omega arith in
    c.from_residual-in_err-claim_line-in-67.ensures
    ∙ ap (option_map (λ (x : Row). line.Claim x)) (sym c.in_err-claim_line-in-67.was ∙ c.claim_line.ensures)
    ∙ read_as c.args.version c.args.text.now 67 c.in-124.len_at_least first bar

pub returns-in_ok-claim_line-in-67 : goal.returns-in_ok-claim_line-in-67
returns-in_ok-claim_line-in-67 c =
    let first : get_or c.args.text.now 0 0 ≡ 67 = omega arith in
    let bar : get_or c.args.text.now 1 0 ≡ 124 = omega arith in
    ap (option_map (λ (x : Row). line.Claim x)) (sym c.in_ok-claim_line-in-67.was ∙ c.claim_line.ensures)
    ∙ read_as c.args.version c.args.text.now 67 c.in-124.len_at_least first bar

pub returns-in_err-total_line-in-84 : goal.returns-in_err-total_line-in-84
returns-in_err-total_line-in-84 c =
    let first : get_or c.args.text.now 0 0 ≡ 84 = omega arith in
    let bar : get_or c.args.text.now 1 0 ≡ 124 = omega arith in
    c.from_residual-in_err-total_line-in-84.ensures
    ∙ ap (option_map (λ (x : TotalLine). line.Total x)) (sym c.in_err-total_line-in-84.was ∙ c.total_line.ensures)
    ∙ read_as c.args.version c.args.text.now 84 c.in-124.len_at_least first bar

pub returns-in_ok-total_line-in-84 : goal.returns-in_ok-total_line-in-84
returns-in_ok-total_line-in-84 c =
    let first : get_or c.args.text.now 0 0 ≡ 84 = omega arith in
    let bar : get_or c.args.text.now 1 0 ≡ 124 = omega arith in
    ap (option_map (λ (x : TotalLine). line.Total x)) (sym c.in_ok-total_line-in-84.was ∙ c.total_line.ensures)
    ∙ read_as c.args.version c.args.text.now 84 c.in-124.len_at_least first bar
