-- Books that were read quickly are those of the text.
use Rattle.std.proofs.Common.{◌≡◌, ℕ, zero, suc, ◌+◌, Decides, add-one, ◌<◌, ◌≤◌, List, [], ◌∷◌, ◌++◌, length, get_or}
use Rattle.std.proofs.Common.{take, map, true, Option, Some, None, Ok, refl, sym, subst, ap, ◌∙◌, arith}
use Rattle.std.specs.Prelude.{nat_eq}
use Rattle.std.specs.List.{All}
use Rattle.std.specs.Option.{option_eq}
use Rattle.std.specs.Cmp.Lexicographic.{bytes_decides}
use Rattle.std.proofs.lemmas.Bool.Decides.{Decides-and, Decides-eqb, Decides-like}
use Rattle.std.proofs.lemmas.List.{take_more}
use Rattle.std.proofs.lemmas.List.Elements.{All-map}
use Rattle.rx_fields.specs.Numbered.{Span}
use Rattle.rx_ledger.specs.Ledger.{Ledger}
use Rattle.rx_ledger.specs.Sums.{family_deductible, out_of_pocket}
use Rattle.rx_books_text.specs.contracts.line.TotalLinePartialEq.TheImpl.{ghosts as total_eq}
use Rattle.rx_books_text.specs.declared.line.TotalLine.{TotalLine}
use Rattle.rx_books_text.specs.declared.version.Version.{Version}
use Rattle.rx_text.specs.Results.{◌>>=◌}
use Rattle.rx_books_text.specs.Printed.{IsPrinted, PrintedParts, has_member, line_feeds}
use Rattle.rx_books_text.proofs.Printing.{printed_again}
use Rattle.rx_books_scan.specs.Lists.{AreLists}
use Rattle.rx_books_store.specs.declared.opening.FamilyName.{FamilyName}
use Rattle.rx_books_store.specs.BooksText.{families_of, from_three, total_of}
use Rattle.rx_books_store.specs.Figures.{books_of, books_of_parts, unless_wrong, unsummed, wrong_line}
use Rattle.rx_books_store.specs.Lists.{AreSummed, totals_in}
use Rattle.rx_books_store.specs.Opening.{names_of}
use Rattle.rx_books_store.specs.Store.{AreFigures}
use Rattle.rx_books_store.proofs.BooksFile.{parts_right}
use Rattle.rx_books_store.proofs.Figured.{all_inhabited, passes}

-- one family's line more
pub totals_in-more : (v : Version) (ns : List FamilyName) (ps ds : List ℕ) (i : ℕ) (n : FamilyName) → i < length ns
    → i < length ps → i < length ds → n ≡ get_or ns i n → totals_in v (take (suc i) ns) (take (suc i) ps) (take (suc i) ds)
    ≡ totals_in v (take i ns) (take i ps) (take i ds)
    ++ record { family = n.family; out_of_pocket = get_or ps i 0; deductible = from_three v (get_or ds i 0) } ∷ []
totals_in-more v [] ps ds i n lt pt dt is = absurd (omega arith)
totals_in-more v (x ∷ ns) [] ds i n lt pt dt is = absurd (omega arith)
totals_in-more v (x ∷ ns) (p ∷ ps) [] i n lt pt dt is = absurd (omega arith)
totals_in-more v (x ∷ ns) (p ∷ ps) (d ∷ ds) zero n lt pt dt is =
    ap (λ (m : FamilyName). record { family = m.family; out_of_pocket = p; deductible = from_three v d } ∷ []) (sym is)
totals_in-more v (x ∷ ns) (p ∷ ps) (d ∷ ds) (suc i) n lt pt dt is =
    ap (λ ts. record { family = x.family; out_of_pocket = p; deductible = from_three v d } ∷ ts)
    (totals_in-more v ns ps ds i n (omega arith) (omega arith) (omega arith) is)

option_decides : (o p : Option ℕ) → Decides (option_eq nat_eq o p) (o ≡ p)
option_decides None None = (λ e. refl, λ e. refl)
option_decides None (Some y) = (λ e. cc, λ e. cc)
option_decides (Some x) None = (λ e. cc, λ e. cc)
option_decides (Some x) (Some y) = Decides-like (nat_eq x y) (ap Some) (λ e. cc) (Decides-eqb x y)

pub total_decides : (t u : TotalLine) → Decides (total_eq.eq t u) (t ≡ u)
total_decides t u =
    Decides-like
    (total_eq.eq t u)
    (λ h i. record { family = h.0 i; out_of_pocket = h.1.0 i; deductible = h.1.1 i })
    (λ e. (cc, (cc, cc)))
    (Decides-and _ _ (bytes_decides t.family u.family)
    (Decides-and _ _ (Decides-eqb t.out_of_pocket u.out_of_pocket)
    (option_decides t.deductible u.deductible)))

pub totals-step : (v : Version) (ns : List FamilyName) (ps ds : List ℕ) (ts : List TotalLine) (i : ℕ) (n : FamilyName)
    (t : TotalLine) → i < length ns → i < length ps → i < length ds → i < length ts → n ≡ get_or ns i n → t ≡ get_or ts i t
    → t ≡ record { family = n.family; out_of_pocket = get_or ps i 0; deductible = from_three v (get_or ds i 0) }
    → take i ts ≡ totals_in v (take i ns) (take i ps) (take i ds)
    → take (i + 1) ts ≡ totals_in v (take (i + 1) ns) (take (i + 1) ps) (take (i + 1) ds)
totals-step v ns ps ds ts i n t n_lt p_lt d_lt t_lt n_is t_is same so_far =
    take_more ts i t t_lt ∙ ap (λ x. take i ts ++ x ∷ []) (sym t_is ∙ same)
    ∙ ap (λ xs. xs ++ record { family = n.family; out_of_pocket = get_or ps i 0; deductible = from_three v (get_or ds i 0) } ∷ []) so_far
    ∙ rw add-one (sym (totals_in-more v ns ps ds i n n_lt p_lt d_lt n_is))

totals_in-map : (v : Version) (p : Span) (L : Ledger) (ns : List FamilyName)
    → totals_in v ns (map (out_of_pocket p L) (names_of ns)) (map (family_deductible p L) (names_of ns))
    ≡ map (total_of v p L) (names_of ns)
totals_in-map v p L [] = refl
totals_in-map v p L (n ∷ ns) = ap (λ ts. total_of v p L n.family ∷ ts) (totals_in-map v p L ns)

-- the total lines of the families whose figures are kept
pub totals-kept : (v : Version) (p : Span) (L : Ledger) (ns : List FamilyName) (ds os fs : List ℕ)
    → names_of ns ≡ families_of L.members → AreFigures p L ds os fs
    → totals_in v ns os fs ≡ map (total_of v p L) (families_of L.members)
totals-kept v p L ns ds os fs all are =
    let pockets : os ≡ map (out_of_pocket p L) (names_of ns) = are.of_pockets ∙ ap (map (out_of_pocket p L)) (sym all) in
    let theirs : fs ≡ map (family_deductible p L) (names_of ns) = are.of_families ∙ ap (map (family_deductible p L)) (sym all) in
    ap (λ xs. totals_in v ns xs fs) pockets ∙ ap (totals_in v ns (map (out_of_pocket p L) (names_of ns))) theirs
    ∙ totals_in-map v p L ns ∙ ap (map (total_of v p L)) all

-- lists that are those of their ledger with its sums can be printed
printed-lists : (text : List ℕ) (p : PrintedParts) → AreLists text p → AreSummed p → IsPrinted p
printed-lists text p lists sums =
    let L = p.ledger in
    let t = total_of p.head.version p.head.period L in
    let fs = families_of L.members in
    let totals : p.totals ≡ map t fs = ap (λ (q : PrintedParts). q.totals) sums.sums in
    let among : All (λ l. has_member L l.family ≡ true) (map t fs) =
    All-map (λ (l : TotalLine). has_member L l.family ≡ true) t fs (all_inhabited L sums.whole) in
    record {
      period = lists.period;
      ledger = sums.whole;
      one_each = lists.one_each;
      totals_rise = lists.totals_rise;
      families = passes (λ (l : TotalLine). has_member L l.family) p.totals
          (subst (All (λ (l : TotalLine). has_member L l.family ≡ true)) (sym totals) among);
      lines = lists.lines;
      few = subst (λ (bytes : List ℕ). line_feeds bytes ≤ 1_000_000) lists.printed lists.few;
    }

-- the text of such lists is that of the books of their ledger
pub books-lists : (text : List ℕ) (p : PrintedParts) → AreLists text p → AreSummed p → books_of text ≡ Ok (unsummed p)
books-lists text p lists sums =
    let is : IsPrinted p = printed-lists text p lists sums in
    let v = p.head.version in
    let right : wrong_line p ≡ None = subst (λ (q : PrintedParts). wrong_line q ≡ None) (sym sums.sums)
    (parts_right v p.head.period p.ledger (subst IsPrinted sums.sums is)) in
    ap books_of lists.printed ∙ ap (λ r. r >>= books_of_parts) (printed_again p is) ∙ ap (unless_wrong (unsummed p)) right
