-- The head line is read as what its spelling says.
use Rattle.std.proofs.Common.{◌≡◌, ℕ, true, not, eqb, List, [], ◌∷◌, ◌++◌, Option, Some, None, refl}
use Rattle.std.proofs.Common.{sym, ap, subst, ◌∙◌, inl, inr, codes, drop, take, length}
use Rattle.std.specs.Prelude.{nat_eq, IfSome}
use Rattle.std.specs.Cmp.Lexicographic.{same_text}
use Rattle.std.specs.List.{starts_with, list_all}
use Rattle.std.proofs.lemmas.Bool.{cases_Bool}
use Rattle.std.proofs.lemmas.List.{take-append-drop}
use Rattle.rx_fields.specs.Calendar.{date_text}
use Rattle.rx_fields.specs.Numbered.{Span}
use Rattle.rx_books_text.specs.declared.head.Head.{Head}
use Rattle.rx_books_text.specs.declared.line.Line.{Line}
use Rattle.rx_books_text.specs.declared.version.Version.{Version}
use Rattle.rx_books_text.specs.declared.version.Version.TheVariants.{One, Two, Three}
use Rattle.rx_books_text.specs.LineFits.{IsPeriod, IsLine}
use Rattle.rx_text.specs.Options.{◌>>=◌}
use Rattle.rx_books_text.specs.LineReading.{same, split, version_in, period_in, head_in, head_of, line_of}
use Rattle.rx_books_text.specs.LineText.{joined, version_text, head_text, line_text}
use Rattle.rx_books_text.proofs.Cuts.{Without, split_takes}
use Rattle.rx_text.proofs.Steps.{bind_some, guarded, some_same}
use Rattle.rx_books_text.proofs.DayLaws.{day_inside}
use Rattle.rx_books_text.proofs.Befores.{before, spelled, followed, inside_over}
use Rattle.rx_books_text.proofs.MemberLaws.{period_takes, period_again}
use Rattle.rx_books_text.proofs.LineLaws.{line_takes}
use Rattle.rx_books_text.proofs.Feedless.{without_feed, dates_feedless}

version_takes : (bs : List ℕ) (v : Version) → version_in bs ≡ Some v → bs ≡ version_text v
version_takes bs v e = elim (cases_Bool (same bs (codes "1"))) [
  | inl one ↦ same_text bs (codes "1") (sym one) ∙ ap version_text (some_same (rw one at e))
  | inr other ↦ elim (cases_Bool (same bs (codes "2"))) [
    | inl two ↦ same_text bs (codes "2") (sym two) ∙ ap version_text (some_same (rw (other, two) at e))
    | inr another ↦ elim (cases_Bool (same bs (codes "3"))) [
      | inl three ↦ same_text bs (codes "3") (sym three) ∙ ap version_text (some_same (rw (other, another, three) at e))
      | inr none ↦ absurd (let gone = rw (other, another, none) at e in cc)
    ]
  ]
]

version_again : (v : Version) (rest : List ℕ) → split (before (version_text v) rest) ≡ Some (version_text v, rest)
unfolding split
version_again One rest = refl
version_again Two rest = refl
version_again Three rest = refl

version_back : (v : Version) → version_in (version_text v) ≡ Some v
version_back One = refl
version_back Two = refl
version_back Three = refl

abbrev head_fields : Head → List ℕ
head_fields h = joined (version_text h.version ∷ date_text h.period.first ∷ date_text h.period.last ∷ [])

head_in_takes : (bs : List ℕ) (h : Head) → head_in bs ≡ Some h → IsPeriod h.period × (bs ≡ head_fields h)
unfolding head_in
head_in_takes bs h e =
    let version' = bind_some (split bs)
    (λ version. split version.1 >>= λ first. version_in version.0 >>= λ v. period_in first.0 first.1 >>=
    λ p. Some (record { version = v; period = p })) h e in
    let first' = bind_some (split version'.0.1)
    (λ first. version_in version'.0.0 >>= λ v. period_in first.0 first.1 >>= λ p. Some (record { version = v; period = p })) h version'.2 in
    let v' = bind_some (version_in version'.0.0)
    (λ v. period_in first'.0.0 first'.0.1 >>= λ p. Some (record { version = v; period = p })) h first'.2 in
    let p' = bind_some (period_in first'.0.0 first'.0.1)
    (λ p. Some (record { version = v'.0; period = p })) h v'.2 in
    let is = version_takes version'.0.0 v'.0 v'.1 in
    let period = period_takes first'.0.0 first'.0.1 p'.0 p'.1 in
    let text : bs ≡ before (version_text v'.0) (before (date_text p'.0.first) (date_text p'.0.last)) =
    followed bs (version_text v'.0) version'.0.1 (before (date_text p'.0.first) (date_text p'.0.last))
    (spelled bs version'.0.0 (version_text v'.0) version'.0.1 (split_takes bs version'.0 version'.1) is)
    (followed version'.0.1 (date_text p'.0.first) first'.0.1 (date_text p'.0.last)
    (spelled version'.0.1 first'.0.0 (date_text p'.0.first) first'.0.1 (split_takes version'.0.1 first'.0 first'.1) period.0)
    period.1) in
    subst (λ (k : Head). IsPeriod k.period × (bs ≡ head_fields k)) (some_same p'.2) (period.2, text)

head_in_again : (h : Head) → IsPeriod h.period → head_in (head_fields h) ≡ Some h
unfolding head_in
head_in_again h is =
    let last = date_text h.period.last in
    rw (
      version_again h.version (before (date_text h.period.first) last),
      inside_over (date_text h.period.first) last (day_inside h.period.first),
      version_back h.version,
      period_again h.period is,
    ) refl

begins : (bs text : List ℕ) → starts_with nat_eq bs text ≡ true → bs ≡ text ++ drop (length text) bs
begins bs text e =
    let front : text ≡ take (length text) bs = same_text text (take (length text) bs) (sym e) in
    sym (take-append-drop (length text) bs) ∙ ap (λ (t : List ℕ). t ++ drop (length text) bs) (sym front)

pub head_takes : (bs : List ℕ) (h : Head) → head_of bs ≡ Some h → IsPeriod h.period × (bs ≡ head_text h)
unfolding head_of
head_takes bs h e =
    let g = guarded (starts_with nat_eq bs (codes "BOOKS|")) (head_in (drop 6 bs)) h e in
    let t = head_in_takes (drop 6 bs) h g.1 in
    (t.0, begins bs (codes "BOOKS|") g.0 ∙ ap (λ (more : List ℕ). codes "BOOKS|" ++ more) t.1)

pub head_again : (h : Head) → IsPeriod h.period → head_of (head_text h) ≡ Some h
unfolding head_of
head_again h is = head_in_again h is

pub head_feedless : (h : Head) → Without 10 (head_text h)
head_feedless h = without_feed (head_text h) (by_version h.version h.period)
  where
    by_version : (v : Version) (p : Span) → list_all (λ b. not (eqb b 10)) (head_text (record { version = v; period = p })) ≡ true
    by_version One p = dates_feedless p.first p.last
    by_version Two p = dates_feedless p.first p.last
    by_version Three p = dates_feedless p.first p.last

-- ---- as clauses

pub head_found : (bs : List ℕ) (o : Option Head) → o ≡ head_of bs → IfSome o (λ h. IsPeriod h.period × (bs ≡ head_text h))
head_found bs None e = tt
head_found bs (Some h) e = head_takes bs h (sym e)

pub line_found : (v : Version) (bs : List ℕ) (o : Option Line) → o ≡ line_of v bs
    → IfSome o (λ l. IsLine v l × (bs ≡ line_text v l))
line_found v bs None e = tt
line_found v bs (Some l) e = line_takes v bs l (sym e)
