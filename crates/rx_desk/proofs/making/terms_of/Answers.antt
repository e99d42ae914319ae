-- The next terms are those of the next record.
use Rattle.std.proofs.Common.{◌≡◌, ℕ, zero, suc, ◌<◌, List, [], ◌∷◌, ◌++◌, length, get_or, Some, None, rules, subst, arith}
use Rattle.std.specs.List.{slice_get}
use Rattle.std.proofs.lemmas.List.{get_or_read}
use Rattle.std.proofs.lemmas.Option.{same_Some}
use Rattle.rx_ledger.specs.SameTerms.{IsTermsOf}
use Rattle.rx_ledger.specs.TermList.{TermParts}
use Rattle.rx_schedule.specs.Footprints.{no_record}
use Rattle.rx_desk.proofs.making.terms_of.Goals as goal

one_more : (P : ℕ → TermParts → Type 0) (xs : List TermParts) (x : TermParts)
    → ((i : ℕ) (t : TermParts) → slice_get xs i ≡ Some t → P i t) → P (length xs) x
    → (i : ℕ) (t : TermParts) → slice_get (xs ++ x ∷ []) i ≡ Some t → P i t
one_more P [] x old new zero t e = subst (P 0) (same_Some x t e) new
one_more P [] x old new (suc i) t e = absurd (let no : None ≡ Some t = e in cc)
one_more P (y ∷ ys) x old new zero t e = old zero t e
one_more P (y ∷ ys) x old new (suc i) t e = one_more (λ k. P (suc k)) ys x (λ k. old (suc k)) new i t e

pub records-preserved : goal.records-preserved
records-preserved c =
    let list = c.args.transmissions.now in
    let P : ℕ → TermParts → Type 0 = λ i t. IsTermsOf c.args.lot c.args.sheet.now (get_or list i no_record) t in
    let count : c.records.transmission-index ≡ length c.records.terms.items = search rules in
    let within : c.records.transmission-index < length list = omega arith in
    let read = get_or_read list c.records.transmission-index c.transmission-item.result within c.transmission-item.is no_record in
    let own : P (length c.records.terms.items) c.terms.result =
    subst (λ i. P i c.terms.result) count
    (subst (λ t. IsTermsOf c.args.lot c.args.sheet.now t c.terms.result) read c.terms.ensures) in
    record {
      as_many = search rules;
      each = rw c.in_ok-push.ensures.items (one_more P c.records.terms.items c.terms.result c.records.invariant.each own);
    }
