-- No code ends among bytes without a B, unless one was begun before them.
use Rattle.std.proofs.Common.{rules, ◌≡◌, ℕ, ◌<◌, [], ◌++◌, ◌-◌, length, get_or, take-append-drop, append-nil, ap, sym, ◌∙◌}
use Rattle.rx_run_log.specs.CodesPassed.{codes_in, last_five}
use Rattle.rx_run_log.proofs.Codes.{five-on, no_front, plain_codes}
use Rattle.rx_run_log.proofs.codes_passed.CodesPassed.pass_plain.Goals as goal

pub returns : goal.returns
returns c =
    let five = c.args.self.now.five in
    let codes = c.args.self.now.codes.items in
    let plain = c.args.plain.now in
    let cut = c.in-Some.ensures.cases in
    let front = c.in-Some._front.now in
    let last = c.in-Some.last.now in
    let whole : front ++ last ≡ plain = rw (cut.0, cut.1) (take-append-drop (length plain - 5) plain) in
    let small : (k : ℕ) → get_or plain k 0 < 256 = search rules in
    let none = no_front five (sym c.ends_before_code.ensures ∙ c.if-ends_before_code.false) in
    let no_code : codes_in five plain ≡ [] = plain_codes five plain small none.0 none.1 c.requires in (
      c.five_of-self.ensures (last_five five front) ∙ sym (five-on five front last) ∙ ap (last_five five) whole,
      sym (append-nil codes) ∙ ap (λ l. codes ++ l) (sym no_code),
    )
