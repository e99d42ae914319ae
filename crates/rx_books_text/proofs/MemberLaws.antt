-- A member line is read as what its spelling says.
use Rattle.std.proofs.Common.{◌≡◌, ℕ, List, Some, refl, ap, subst, ◌∙◌, arith}
use Rattle.std.specs.Fmt.{decimal}
use Rattle.rx_fields.specs.Calendar.{date_text}
use Rattle.rx_fields.specs.Numbered.{Span, is_span, period_of}
use Rattle.rx_fields.specs.Text.{IsId}
use Rattle.rx_ledger.specs.declared.member.MemberKey.{MemberKey}
use Rattle.rx_books_text.specs.declared.line.MemberLine.{MemberLine}
use Rattle.rx_books_text.specs.LineFits.{IsPeriod, IsMemberLine}
use Rattle.rx_text.specs.Options.{◌>>=◌}
use Rattle.rx_books_text.specs.LineReading.{split, id_in, day_in, number_in, period_in, member_key_in, member_key_at, member_in}
use Rattle.rx_books_text.specs.LineText.{joined, member_fields}
use Rattle.rx_books_text.proofs.Cuts.{split_takes}
use Rattle.rx_text.proofs.Steps.{bind_some, guarded, some_same}
use Rattle.rx_books_text.proofs.IdLaws.{id_takes, id_again, id_inside}
use Rattle.rx_books_text.proofs.NumberLaws.{number_takes, number_again}
use Rattle.rx_books_text.proofs.DayLaws.{day_takes, day_inside, day_again}
use Rattle.rx_books_text.proofs.Befores.{before, spelled, followed, inside_over}

pub period_takes : (first last : List ℕ) (p : Span) → period_in first last ≡ Some p
    → (first ≡ date_text p.first) × (last ≡ date_text p.last) × IsPeriod p
unfolding period_in
period_takes first last p e =
    let a' = bind_some (day_in first)
    (λ a. day_in last >>= λ b. period_of a b) p e in
    let b' = bind_some (day_in last)
    (λ b. period_of a'.0 b) p a'.2 in
    let made : Span = record { first = a'.0; last = b'.0 } in
    let g = guarded (is_span made) (Some made) p b'.2 in
    let f = day_takes first a'.0 a'.1 in
    let l = day_takes last b'.0 b'.1 in
    subst (λ (q : Span). (first ≡ date_text q.first) × (last ≡ date_text q.last) × IsPeriod q) (some_same g.1)
    (f.0, l.0, record { first = f.1; last = l.1; in_order = g.0 })

pub period_again : (p : Span) → IsPeriod p → period_in (date_text p.first) (date_text p.last) ≡ Some p
unfolding period_in
period_again p is = rw (day_again p.first is.first, day_again p.last is.last, is.in_order) refl

pub member_key_takes : (family person : List ℕ) (k : MemberKey) → member_key_in family person ≡ Some k
    → (family ≡ k.family) × (person ≡ k.person) × (IsId 20 k.family × IsId 3 k.person)
unfolding member_key_in
member_key_takes family person k e =
    let f' = bind_some (id_in 20 family)
    (λ f. id_in 3 person >>= λ q. Some (record { family = f; person = q })) k e in
    let q' = bind_some (id_in 3 person)
    (λ q. Some (record { family = f'.0; person = q })) k f'.2 in
    let f = id_takes 20 family f'.0 f'.1 in
    let q = id_takes 3 person q'.0 q'.1 in
    subst (λ (m : MemberKey). (family ≡ m.family) × (person ≡ m.person) × (IsId 20 m.family × IsId 3 m.person))
    (some_same q'.2) (f.0, q.0, (f.1, q.1))

abbrev pub member_key_text : MemberKey → List ℕ → List ℕ
member_key_text k rest = before k.family (before k.person rest)

pub member_key_at_takes : (bs : List ℕ) (x : MemberKey × List ℕ) → member_key_at bs ≡ Some x
    → (bs ≡ member_key_text x.0 x.1) × (IsId 20 x.0.family × IsId 3 x.0.person)
unfolding member_key_at
member_key_at_takes bs x e =
    let family' = bind_some (split bs)
    (λ family. split family.1 >>= λ person. member_key_in family.0 person.0 >>= λ key. Some (key, person.1)) x e in
    let person' = bind_some (split family'.0.1)
    (λ person. member_key_in family'.0.0 person.0 >>= λ key. Some (key, person.1)) x family'.2 in
    let key' = bind_some (member_key_in family'.0.0 person'.0.0)
    (λ key. Some (key, person'.0.1)) x person'.2 in
    let k = member_key_takes family'.0.0 person'.0.0 key'.0 key'.1 in
    let second = spelled family'.0.1 person'.0.0 key'.0.person person'.0.1 (split_takes family'.0.1 person'.0 person'.1) k.1 in
    let first = spelled bs family'.0.0 key'.0.family family'.0.1 (split_takes bs family'.0 family'.1) k.0 in
    subst (λ (y : MemberKey × List ℕ). (bs ≡ member_key_text y.0 y.1) × (IsId 20 y.0.family × IsId 3 y.0.person))
    (some_same key'.2)
    (followed bs key'.0.family family'.0.1 (before key'.0.person person'.0.1) first second, k.2)

pub member_key_at_again : (k : MemberKey) (rest : List ℕ) → IsId 20 k.family → IsId 3 k.person
    → member_key_at (member_key_text k rest) ≡ Some (k, rest)
unfolding member_key_at member_key_in
member_key_at_again k rest family person =
    rw (
      inside_over k.family (before k.person rest) (id_inside 20 k.family family),
      inside_over k.person rest (id_inside 3 k.person person),
      id_again 20 k.family family,
      id_again 3 k.person person,
    ) refl

pub member_takes : (bs : List ℕ) (m : MemberLine) → member_in bs ≡ Some m
    → (bs ≡ joined (member_fields m)) × IsMemberLine m
unfolding member_in
member_takes bs m e =
    let key' = bind_some (member_key_at bs)
    (λ key. split key.1 >>= λ first. split first.1 >>= λ last. period_in first.0 last.0 >>= λ coverage. number_in 20 last.1 >>=
    λ n. Some (record { member = record { key = key.0; coverage = coverage }; deductible = n })) m e in
    let first' = bind_some (split key'.0.1)
    (λ first. split first.1 >>= λ last. period_in first.0 last.0 >>= λ coverage. number_in 20 last.1 >>=
    λ n. Some (record { member = record { key = key'.0.0; coverage = coverage }; deductible = n })) m key'.2 in
    let last' = bind_some (split first'.0.1)
    (λ last. period_in first'.0.0 last.0 >>= λ coverage. number_in 20 last.1 >>=
    λ n. Some (record { member = record { key = key'.0.0; coverage = coverage }; deductible = n })) m first'.2 in
    let coverage' = bind_some (period_in first'.0.0 last'.0.0)
    (λ coverage. number_in 20 last'.0.1 >>= λ n. Some (record {
      member = record { key = key'.0.0; coverage = coverage };
      deductible = n;
    })) m last'.2 in
    let n' = bind_some (number_in 20 last'.0.1)
    (λ n. Some (record { member = record { key = key'.0.0; coverage = coverage'.0 }; deductible = n })) m coverage'.2 in
    let k = member_key_at_takes bs key'.0 key'.1 in
    let p = period_takes first'.0.0 last'.0.0 coverage'.0 coverage'.1 in
    let d = number_takes 20 last'.0.1 n'.0 (omega arith) n'.1 in
    let dates : key'.0.1 ≡ before (date_text coverage'.0.first) (before (date_text coverage'.0.last) (decimal n'.0)) =
    followed key'.0.1 (date_text coverage'.0.first) first'.0.1 (before (date_text coverage'.0.last) (decimal n'.0))
    (spelled key'.0.1 first'.0.0 (date_text coverage'.0.first) first'.0.1 (split_takes key'.0.1 first'.0 first'.1) p.0)
    (followed first'.0.1 (date_text coverage'.0.last) last'.0.1 (decimal n'.0)
    (spelled first'.0.1 last'.0.0 (date_text coverage'.0.last) last'.0.1 (split_takes first'.0.1 last'.0 last'.1) p.1) d.0) in
    let text = k.0 ∙ ap (member_key_text key'.0.0) dates in
    subst (λ (l : MemberLine). (bs ≡ joined (member_fields l)) × IsMemberLine l) (some_same n'.2)
    (text, record { family = k.1.0; person = k.1.1; coverage = p.2; deductible = d.1 })

pub member_again : (m : MemberLine) → IsMemberLine m → member_in (joined (member_fields m)) ≡ Some m
unfolding member_in
member_again m is =
    let c = m.member.coverage in
    let last = before (date_text c.last) (decimal m.deductible) in
    rw (
      member_key_at_again m.member.key (before (date_text c.first) last) is.family is.person,
      inside_over (date_text c.first) last (day_inside c.first),
      inside_over (date_text c.last) (decimal m.deductible) (day_inside c.last),
      period_again c is.coverage,
      number_again 20 m.deductible (omega arith) (omega arith) is.deductible,
    ) refl
