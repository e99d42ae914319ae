-- The lines of claims in the text that they were read from.
use Rattle.std.proofs.Common.{◌≡◌, ◌≤◌, ℕ, ◌+◌, List, [], ◌∷◌, ◌++◌, length, take, drop, map, Option, Some, None, Ok}
use Rattle.std.proofs.Common.{refl, sym, ap, subst, ◌∙◌, arith, append_assoc, length-append}
use Rattle.std.specs.Prelude.{IfOk, IfSome, Result, Err}
use Rattle.std.specs.Result.{result_ok}
use Rattle.std.proofs.lemmas.Grind.{flat_map-append}
use Rattle.std.proofs.lemmas.List.{drop_at, take_at}
use Rattle.rx_books_text.specs.declared.head.Head.{Head}
use Rattle.rx_books_text.specs.declared.line.Line.{Line}
use Rattle.rx_books_text.specs.declared.line.Line.TheVariants as line
use Rattle.rx_books_text.specs.declared.version.Version.{Version}
use Rattle.rx_books_text.specs.declared.version.Version.TheVariants.{Three}
use Rattle.rx_books_text.specs.LineText.{ended, head_text, line_text}
use Rattle.rx_books_text.specs.Printed.{PrintedParts, member_lines, printed_text}
use Rattle.rx_books_scan.specs.Lists.{AreLists, AreMeasured, claim_lengths, lines_text}
use Rattle.rx_books_scan.specs.Parts.{printed_lists}
use Rattle.rx_books_scan.specs.declared.lists.Lists.{Lists}
use Rattle.rx_ledger.specs.Ledger.{Ledger}
use Rattle.rx_ledger.specs.declared.row.Row.{Row}
use Rattle.rx_books_store.specs.declared.reader.Quick.{Quick}
use Rattle.rx_books_store.specs.declared.reader.Rest.{Rest}
use Rattle.rx_books_store.specs.declared.slot.KeySlot.{KeySlot}
use Rattle.rx_books_store.specs.BooksText.{claims_text}
use Rattle.rx_books_store.specs.Figures.{unsummed}
use Rattle.rx_books_store.specs.Kept.{HoldsLines}
use Rattle.rx_books_store.specs.LedgerBooks.{LedgerBooks}
use Rattle.rx_books_store.specs.Lists.{AreSummed}
use Rattle.rx_books_store.specs.OpenBooks.{OpenParts}
use Rattle.rx_books_store.specs.Quick.{IsQuick, printed_with, rest_of}
use Rattle.rx_books_store.specs.Store.{slot_keys, standing_rows}
use Rattle.rx_books_store.proofs.ReadLists.{books-lists}
use Rattle.rx_books_store.proofs.Written.{claims-map}

-- what stands between two texts
between : (text a c b claims : List ℕ) (n : ℕ) → text ≡ a ++ (c ++ b) → n ≡ length a → c ≡ claims
    → take (length claims) (drop n text) ≡ claims
between text a c b claims n whole is same =
    ap (λ (t : List ℕ). take (length claims) (drop n t)) whole
    ∙ ap (take (length claims)) (drop_at a (c ++ b) n (sym is))
    ∙ take_at c b (length claims) (ap length same) ∙ same

between_within : (text a c b claims : List ℕ) (n : ℕ) → text ≡ a ++ (c ++ b) → n ≡ length a → c ≡ claims
    → n + length claims ≤ length text
between_within text a c b claims n whole is same =
    omega (arith, ap length whole, length-append a (c ++ b), length-append c b, is, ap length same)

-- the text of a file of version 3 holds the lines of its claims
pub holds_lines : (text : List ℕ) (p : PrintedParts) (above : ℕ) (lengths : List ℕ) → text ≡ printed_text p
    → p.head.version ≡ Three → AreMeasured p above lengths → HoldsLines text above lengths p.ledger.rows
holds_lines text p above lengths printed three measured =
    let v = p.head.version in
    let head = ended (head_text p.head) in
    let members = member_lines p.ledger.members p.deductibles in
    let claims = map (λ r. line.Claim r) p.ledger.rows in
    let totals = map (λ t. line.Total t) p.totals in
    let each : Line → List ℕ = λ l. ended (line_text v l) in
    let a = head ++ lines_text v members in
    let lines : lines_text v (members ++ (claims ++ totals))
    ≡ lines_text v members ++ (lines_text v claims ++ lines_text v totals) =
    flat_map-append each members (claims ++ totals)
    ∙ ap (λ (t : List ℕ). lines_text v members ++ t) (flat_map-append each claims totals) in
    let whole : text ≡ a ++ (lines_text v claims ++ lines_text v totals) =
    printed ∙ ap (λ (t : List ℕ). head ++ t) lines
    ∙ sym (append_assoc head (lines_text v members) (lines_text v claims ++ lines_text v totals)) in
    let is : above ≡ length a = measured.begin ∙ sym (length-append head (lines_text v members)) in
    let same : lines_text v claims ≡ claims_text p.ledger.rows =
    ap (λ (w : Version). lines_text w claims) three ∙ claims-map p.ledger.rows in
    record {
      each = measured.each ∙ ap (λ (w : Version). claim_lengths w p.ledger.rows) three;
      whole = between text a (lines_text v claims) (lines_text v totals) (claims_text p.ledger.rows) above whole is same;
      within = between_within text a (lines_text v claims) (lines_text v totals) (claims_text p.ledger.rows) above whole is same;
    }

-- where no slot is open, the opening rows stand
pub none_stand : (rows : List Row) (slots : List KeySlot) → slot_keys slots ≡ [] → standing_rows rows slots ≡ rows
none_stand rows [] none = refl
none_stand rows (s ∷ slots) none = cc

-- books that were read quickly are those of the text, and their lines are where they say
pub quick-read : (text : List ℕ) (p : PrintedParts) (above : ℕ) (lengths : List ℕ) (r : Option Quick)
    → AreLists text p → AreMeasured p above lengths → IfSome r (λ q. q.books.books ≡ unsummed p)
    → IfSome r (λ q. q.books.slots ≡ []) → IfSome r (λ q. AreSummed p) → IfSome r (λ q. q.version ≡ p.head.version)
    → IfSome r (λ q. q.above ≡ above) → IfSome r (λ q. q.lengths.items ≡ lengths) → IfSome r (IsQuick text)
quick-read text p above lengths None lists measured books none sums version begin each = tt
quick-read text p above lengths (Some q) lists measured books none sums version begin each = record {
  books = books-lists text p lists sums ∙ ap Ok (sym books);
  none_open = none;
  lines = λ three.
      let held = holds_lines text p above lengths lists.printed (sym version ∙ three) measured in
      let rows : q.books.books.ledger.rows ≡ p.ledger.rows = ap (λ (b : LedgerBooks). b.ledger.rows) books in
      subst (HoldsLines text q.above q.lengths.items) (sym rows)
      (subst (λ (ls : List ℕ). HoldsLines text q.above ls p.ledger.rows) (sym each)
      (subst (λ (n : ℕ). HoldsLines text n lengths p.ledger.rows) (sym begin) held));
}

-- what an Ok result holds, as an option
made_ok : {X E : Type 0} (P : X → Type 0) (r : Result X E) → IfOk r P → IfSome (result_ok r) P
made_ok P (Ok x) is = is
made_ok P (Err e) is = tt

pub if_made : {X E : Type 0} (P : X → Type 0) (r : Result X E) (x : X) → Some x ≡ result_ok r → IfOk r P → P x
if_made P r x made is = subst (λ o. IfSome o P) (sym made) (made_ok P r is)

-- books of the opening lists of a text, where its figures are the sums, are read quickly
pub quick-opened : (text : List ℕ) (lists : Lists) (opening : Ledger) (head : Head) (rest : Rest) (b : OpenParts) (r : Option Quick)
    → AreLists text (printed_lists lists) → AreMeasured (printed_lists lists) lists.above lists.lengths.items
    → opening ≡ record { members = lists.members; rows = lists.rows } → head ≡ lists.head → rest ≡ rest_of lists
    → b.books ≡ record { period = head.period; ledger = opening } → b.slots ≡ []
    → IfSome r (λ q. q ≡ record { books = b; version = head.version; above = rest.above; lengths = rest.lengths })
    → IfSome r (λ q. AreSummed (printed_with head.version b.books rest)) → IfSome r (IsQuick text)
quick-opened text lists opening head rest b None are measured whole first others books none made sums = tt
quick-opened text lists opening head rest b (Some q) are measured whole first others books none made sums =
    let p = printed_lists lists in
    let same : b.books ≡ unsummed p = books ∙ (λ i. record { period = (first i).period; ledger = whole i }) in
    let prints : printed_with head.version b.books rest ≡ p = λ i. printed_with (first i).version (same i) (others i) in
    quick-read text p lists.above lists.lengths.items (Some q) are measured
    (ap (λ (x : Quick). x.books.books) made ∙ same)
    (ap (λ (x : Quick). x.books.slots) made ∙ none)
    (subst AreSummed prints sums)
    (ap (λ (x : Quick). x.version) made ∙ ap (λ (h : Head). h.version) first)
    (ap (λ (x : Quick). x.above) made ∙ ap (λ (x : Rest). x.above) others)
    (ap (λ (x : Quick). x.lengths.items) made ∙ ap (λ (x : Rest). x.lengths.items) others)
