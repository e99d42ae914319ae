use Rattle.std.proofs.Common.{ℕ, true≢false, eqb, List, length, drop, sym, ap, ◌∙◌, arith, subst}
use Rattle.std.proofs.lemmas.List.{length-drop, get_or-drop}
use Rattle.memchr.specs.Find.{NoneBefore, Nowhere, Passes, is_byte}
use Rattle.rx_d0_request.proofs.Bits.{no_mark, none_before, none_behind}
use Rattle.rx_d0_request.proofs.Cuts.{to_end}
use Rattle.rx_d0_request.proofs.piece.end_behind.Goals as goal

pub returns-in-Some : goal.returns-in-Some
returns-in-Some c =
    let separator = c.args.separator in
    let seen = c.args.seen in
    let text = c.args.text.now in
    let at = c.in-Some.at in
    let found : NoneBefore (Passes (is_byte separator) (drop seen text)) 0 (length (drop seen text)) at
    × Passes (is_byte separator) (drop seen text) at =
    subst (λ (l : List ℕ). NoneBefore (Passes (is_byte separator) l) 0 (length l) at × Passes (is_byte separator) l at)
    (to_end seen text) c.in-Some.ensures in (
      record {
        low = omega arith;
        high = omega (arith, found.0.high, length-drop seen text, c.requires.within);
        before = none_before separator seen at text c.requires.within c.requires.none found.0.before;
      },
      ap (λ (b : ℕ). eqb b separator) (sym (get_or-drop seen text at 0)) ∙ found.1,
    )

pub returns-in-None : goal.returns-in-None
returns-in-None c =
    let separator = c.args.separator in
    let seen = c.args.seen in
    let text = c.args.text.now in
    none_behind separator seen text c.requires.within c.requires.none
    (subst (λ (l : List ℕ). Nowhere (Passes (is_byte separator) l) 0 (length l)) (to_end seen text) c.in-None.ensures)

pub returns-then-seen-text : goal.returns-then-seen-text
returns-then-seen-text c = λ k low high is.
    let other = no_mark c.args.separator c.args.seen k c.args.text.now c.requires.within c.requires.none (omega arith) in
    true≢false (sym is ∙ other)
