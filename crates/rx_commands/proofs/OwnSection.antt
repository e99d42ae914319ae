-- The account of one pharmacy hangs on its lines, and on whether a reply is to it.
use Rattle.std.specs.Prelude.{if◌then◌else◌}
use Rattle.std.proofs.Common.{◌≡◌, ℕ, List, [], ◌∷◌, map, Bool, true, false, not, cond, refl, sym, ap, subst, ◌∙◌, inl, inr}
use Rattle.std.specs.List.{All, filter, list_any}
use Rattle.std.proofs.lemmas.Bool.{cases_Bool}
use Rattle.std.proofs.lemmas.List.Elements.{All-cons, All-filter, All-head, All-nil, All-tail}
use Rattle.rx_d0_values.specs.declared.reply.Reply.{Reply}
use Rattle.rx_report.specs.Accounts.{is_of, with_lines}
use Rattle.rx_report.specs.AddsUp.{AddsUp}
use Rattle.rx_report.specs.Groups.{grouped, lines_at}
use Rattle.rx_report.specs.Lines.{answer_of}
use Rattle.rx_report.specs.declared.line.Line.{Line}
use Rattle.rx_report.proofs.Parted.{same_text}
use Rattle.rx_settle.proofs.Names.{named_again}
use Rattle.rx_settle.specs.Answers.{tally}
use Rattle.rx_settle.specs.Counting.{field_text, tallies_of, tally_for}
use Rattle.rx_settle.specs.Providers.{is_same, named, provider_of, providers, without}
use Rattle.rx_settle.specs.declared.tally.Tally.{Tally}
use Rattle.rx_commands.proofs.KeptAlike.{is_to}

-- the parts of a section
abbrev pub Part : Type 0
Part = List ℕ × (Tally × List Line)

-- ---- the pharmacy among the providers of replies

abbrev IsNamed : List ℕ → Type 0
IsNamed p = named (field_text p) ≡ p

providers-named : (rs : List Reply) → All IsNamed (providers rs)
providers-named [] = All-nil IsNamed
providers-named (r ∷ rs) =
    All-cons IsNamed (provider_of r) (without (provider_of r) (providers rs)) (named_again r.echo.provider)
    (All-filter (λ b. not (is_same (provider_of r) b)) IsNamed (providers rs) (providers-named rs))

module _ (own : List ℕ) where
  left-out : (p : List ℕ) → is_same own p ≡ true → (ps : List (List ℕ)) → filter (is_same own) (without p ps) ≡ []
  left-out p is [] = refl
  left-out p is (q ∷ ps) = elim (cases_Bool (is_same p q)) [
    | inl same ↦ rw same (left-out p is ps)
    | inr other ↦
        let fails : is_same own q ≡ false = ap (λ o. is_same o q) (same_text own p is) ∙ other in
        rw (other, fails) (left-out p is ps)
  ]

  left-in : (p : List ℕ) → is_same own p ≡ false → (ps : List (List ℕ)) → filter (is_same own) (without p ps) ≡ filter (is_same own) ps
  left-in p differs [] = refl
  left-in p differs (q ∷ ps) = elim (cases_Bool (is_same p q)) [
    | inl same ↦
        let fails : is_same own q ≡ false = ap (is_same own) (sym (same_text p q same)) ∙ differs in
        rw (same, fails) (left-in p differs ps)
    | inr other ↦ rw other (ap (λ qs. cond (is_same own q) (q ∷ qs) qs) (left-in p differs ps))
  ]

  abbrev only-if : Bool → List (List ℕ)
  only-if b = if b then own ∷ [] else []

  own-provider : (rs : List Reply) → filter (is_same own) (providers rs) ≡ only-if (list_any (is_to own) rs)
  own-provider [] = refl
  own-provider (r ∷ rs) = elim (cases_Bool (is_same own (provider_of r))) [
    | inl here ↦
        rw (here, left-out (provider_of r) here (providers rs)) (ap (λ p. p ∷ []) (sym (same_text own (provider_of r) here)))
    | inr other ↦ rw other (left-in (provider_of r) other (providers rs) ∙ own-provider rs)
  ]

  -- ---- its tally, and its section

  own-tally : (rs : List Reply) (ps : List (List ℕ)) → All IsNamed ps
      → filter (is_of own) (map (tally_for rs) ps) ≡ map (tally_for rs) (filter (is_same own) ps)
  own-tally rs [] all = refl
  own-tally rs (p ∷ ps) all =
      let same : is_of own (tally_for rs p) ≡ is_same own p = ap (is_same own) (All-head IsNamed p ps all) in
      let rest = own-tally rs ps (All-tail IsNamed p ps all) in
      elim (cases_Bool (is_same own p)) [
        | inl kept ↦ rw (same, kept) (ap (λ es. tally_for rs p ∷ es) rest)
        | inr left ↦ rw (same, left) rest
      ]

  abbrev own-lines : List Line → List Line
  own-lines kept = lines_at (field_text own) (grouped kept)

  abbrev pub own-parts : Bool → List Line → List Part
  own-parts true kept = (field_text own, (tally (map answer_of (own-lines kept)), own-lines kept)) ∷ []
  own-parts false kept = []

  abbrev sections : List Reply → List Line → Bool → List Part
  sections rs kept b = map (with_lines (grouped kept)) (map (tally_for rs) (only-if b))

  abbrev IsCounted : Part → Type 0
  IsCounted s = s.1.0 ≡ tally (map answer_of s.1.1)

  counted-parts : (rs : List Reply) (kept : List Line) (b : Bool) → All IsCounted (sections rs kept b) → sections rs kept b ≡ own-parts b kept
  counted-parts rs kept true all =
      ap (λ t. (field_text own, (t, own-lines kept)) ∷ [])
      (All-head IsCounted (with_lines (grouped kept) (tally_for rs own)) [] all)
  counted-parts rs kept false all = refl

  pub parts-are : (rs : List Reply) (kept : List Line) (parts : List Part) (total : Tally)
      → parts ≡ map (with_lines (grouped kept)) (filter (is_of own) (tallies_of rs)) → AddsUp kept parts total
      → parts ≡ own-parts (list_any (is_to own) rs) kept
  parts-are rs kept parts total are adds =
      let same : parts ≡ sections rs kept (list_any (is_to own) rs) =
      are ∙ ap (map (with_lines (grouped kept)))
      (own-tally rs (providers rs) (providers-named rs) ∙ ap (map (tally_for rs)) (own-provider rs)) in
      same ∙ counted-parts rs kept (list_any (is_to own) rs) (subst (All IsCounted) same adds.own)
