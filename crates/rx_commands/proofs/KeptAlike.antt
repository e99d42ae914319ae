-- The lines of a pharmacy in two batches whose records are the same wherever one of them is the pharmacy's.
use Rattle.std.specs.Prelude.{slice_get, ◌||◌, ◌⊎◌}
use Rattle.std.proofs.Common.{◌≡◌, ℕ, suc, ◌+◌, List, [], ◌∷◌, ◌++◌, map, length, Bool, false, Some, refl, sym, ap}
use Rattle.std.proofs.Common.{subst, ◌∙◌, inl, inr, arith}
use Rattle.std.specs.List.{filter, list_any}
use Rattle.std.proofs.lemmas.List.{map-append}
use Rattle.std.proofs.lemmas.List.Elements.{filter-append}
use Rattle.rx_d0_values.specs.declared.reply.Answer.{Answer}
use Rattle.rx_d0_values.specs.declared.reply.Reply.{Reply}
use Rattle.rx_d0_values.specs.declared.transmission.Transmission.{Transmission}
use Rattle.rx_report.specs.Accounts.{names_provider}
use Rattle.rx_report.specs.Lines.{answer_lines, line_of, lines_from, record_lines}
use Rattle.rx_report.specs.declared.line.Line.{Line}
use Rattle.rx_settle.specs.Answers.{answers_in}

-- the reply is to the pharmacy
abbrev pub is_to : List ℕ → Reply → Bool
is_to own r = names_provider own r.echo.provider

abbrev pub is_line_of : List ℕ → Line → Bool
is_line_of own l = names_provider own l.provider

module _ (own : List ℕ) (f g : Line → Line) (f-keeps : (l : Line) → (f l).provider ≡ l.provider)
    (g-keeps : (l : Line) → (g l).provider ≡ l.provider) where
  -- one record with one reply, whose lines become the same
  pub record IsSame (place : ℕ) (t : Transmission) (r : Reply) (u : Transmission) (s : Reply) : Type 0 where
    pub transmission_is : u ≡ t
    pub reply_is : s ≡ r
    pub lines_are : (before : ℕ) (a : Answer) → f (line_of place t r before a) ≡ g (line_of place t r before a)

  -- or neither is the pharmacy's
  abbrev pub IsEither : ℕ → Transmission → Reply → Transmission → Reply → Type 0
  IsEither place t r u s = IsSame place t r u s ⊎ ((is_to own r ≡ false) × (is_to own s ≡ false))

  -- ---- one record

  same-lines : (place : ℕ) (t : Transmission) (r : Reply) (before : ℕ) (answers : List Answer)
      → ((b : ℕ) (a : Answer) → f (line_of place t r b a) ≡ g (line_of place t r b a))
      → map f (answer_lines place t r before answers) ≡ map g (answer_lines place t r before answers)
  same-lines place t r before [] same = refl
  same-lines place t r before (a ∷ more) same =
      ap (λ l. l ∷ map f (answer_lines place t r (before + 1) more)) (same before a)
      ∙ ap (λ ls. g (line_of place t r before a) ∷ ls) (same-lines place t r (before + 1) more same)

  none-kept : (h : Line → Line) → ((l : Line) → (h l).provider ≡ l.provider) → (place : ℕ) (t : Transmission) (r : Reply)
      (before : ℕ) (answers : List Answer) → is_to own r ≡ false
      → filter (is_line_of own) (map h (answer_lines place t r before answers)) ≡ []
  none-kept h keeps place t r before [] none = refl
  none-kept h keeps place t r before (a ∷ more) none =
      let other : is_line_of own (h (line_of place t r before a)) ≡ false =
      ap (names_provider own) (keeps (line_of place t r before a)) ∙ none in
      rw other (none-kept h keeps place t r (before + 1) more none)

  record-alike : (place : ℕ) (t : Transmission) (r : Reply) (u : Transmission) (s : Reply) → IsEither place t r u s
      → filter (is_line_of own) (map f (record_lines place t r)) ≡ filter (is_line_of own) (map g (record_lines place u s))
  record-alike place t r u s (inl same) =
      ap (filter (is_line_of own)) (same-lines place t r 0 (answers_in r.outcome) same.lines_are)
      ∙ ap (λ x. filter (is_line_of own) (map g (record_lines place x r))) (sym same.transmission_is)
      ∙ ap (λ x. filter (is_line_of own) (map g (record_lines place u x))) (sym same.reply_is)
  record-alike place t r u s (inr none) =
      none-kept f f-keeps place t r 0 (answers_in r.outcome) none.0
      ∙ sym (none-kept g g-keeps place u s 0 (answers_in s.outcome) none.1)

  to-alike : (place : ℕ) (t : Transmission) (r : Reply) (u : Transmission) (s : Reply) → IsEither place t r u s
      → is_to own r ≡ is_to own s
  to-alike place t r u s (inl same) = ap (is_to own) (sym same.reply_is)
  to-alike place t r u s (inr none) = none.0 ∙ sym none.1

  -- ---- a batch

  both : (h : Line → Line) (xs ys : List Line) → filter (is_line_of own) (map h (xs ++ ys))
      ≡ filter (is_line_of own) (map h xs) ++ filter (is_line_of own) (map h ys)
  both h xs ys = ap (filter (is_line_of own)) (map-append h xs ys) ∙ filter-append (is_line_of own) (map h xs) (map h ys)

  -- so it is at each place from this one on
  abbrev pub AreEither : ℕ → List Transmission → List Reply → List Transmission → List Reply → Type 0
  AreEither place ts rs us ss =
      (k : ℕ) (t : Transmission) (r : Reply) (u : Transmission) (s : Reply) → slice_get ts k ≡ Some t → slice_get rs k ≡ Some r
      → slice_get us k ≡ Some u → slice_get ss k ≡ Some s → IsEither (place + k) t r u s

  -- the same lines are kept, and both have a reply to the pharmacy or none
  abbrev pub AreAlike : ℕ → List Transmission → List Reply → List Transmission → List Reply → Type 0
  AreAlike place ts rs us ss =
      (filter (is_line_of own) (map f (lines_from place ts rs)) ≡ filter (is_line_of own) (map g (lines_from place us ss)))
      × (list_any (is_to own) rs ≡ list_any (is_to own) ss)

  pub lines-alike : (place : ℕ) (ts : List Transmission) (rs : List Reply) (us : List Transmission) (ss : List Reply)
      → length rs ≡ length ts → length us ≡ length ts → length ss ≡ length ts → AreEither place ts rs us ss
      → AreAlike place ts rs us ss
  lines-alike place [] [] [] [] e1 e2 e3 each = (refl, refl)
  lines-alike place [] (r ∷ rs) us ss e1 e2 e3 each = absurd (omega (arith, e1))
  lines-alike place [] [] (u ∷ us) ss e1 e2 e3 each = absurd (omega (arith, e2))
  lines-alike place [] [] [] (s ∷ ss) e1 e2 e3 each = absurd (omega (arith, e3))
  lines-alike place (t ∷ ts) [] us ss e1 e2 e3 each = absurd (omega (arith, e1))
  lines-alike place (t ∷ ts) (r ∷ rs) [] ss e1 e2 e3 each = absurd (omega (arith, e2))
  lines-alike place (t ∷ ts) (r ∷ rs) (u ∷ us) [] e1 e2 e3 each = absurd (omega (arith, e3))
  lines-alike place (t ∷ ts) (r ∷ rs) (u ∷ us) (s ∷ ss) e1 e2 e3 each =
      let none : place + 0 ≡ place = omega arith in
      let here : IsEither place t r u s =
      subst (λ p. IsEither p t r u s) none (each 0 t r u s refl refl refl refl) in
      let next : (k : ℕ) → place + suc k ≡ place + 1 + k = λ k. omega arith in
      let rest : AreAlike (place + 1) ts rs us ss =
      lines-alike (place + 1) ts rs us ss (omega (arith, e1)) (omega (arith, e2)) (omega (arith, e3))
      (λ k x y v w x-is y-is v-is w-is.
      subst (λ p. IsEither p x y v w) (next k) (each (suc k) x y v w x-is y-is v-is w-is)) in (
        both f (record_lines place t r) (lines_from (place + 1) ts rs)
            ∙ ap (λ ls. ls ++ filter (is_line_of own) (map f (lines_from (place + 1) ts rs))) (record-alike place t r u s here)
            ∙ ap (λ ls. filter (is_line_of own) (map g (record_lines place u s)) ++ ls) rest.0
            ∙ sym (both g (record_lines place u s) (lines_from (place + 1) us ss)),
        ap (λ b. b || list_any (is_to own) rs) (to-alike place t r u s here)
            ∙ ap (λ b. is_to own s || b) rest.1,
      )
