-- The groups of lines, one line after another.
use Rattle.std.proofs.Common.{◌≡◌, ℕ, Bool, true, false, not, cond, List, [], ◌∷◌, ◌++◌, map, refl, sym, ap, ◌∙◌, inl, inr}
use Rattle.std.specs.Cmp.{IsEquivalence}
use Rattle.std.specs.Cmp.Lexicographic.{on_texts_equal}
use Rattle.std.specs.List.{filter}
use Rattle.std.specs.Map.{lookup}
use Rattle.std.specs.Prelude.{Some, None}
use Rattle.std.specs.Vec.{vec_items}
use Rattle.std.specs.declared.vec.Vec.{Vec}
use Rattle.std.proofs.lemmas.Bool.{cases_Bool}
use Rattle.std.proofs.lemmas.List.{append-nil, map-append}
use Rattle.std.proofs.lemmas.List.Elements.{filter-append}
use Rattle.rx_report.specs.declared.line.Line.{Line}
use Rattle.rx_report.specs.Adding.{added, groups_in}
use Rattle.rx_report.specs.Groups.{group, grouped, lines_at, provider_of, providers}
use Rattle.rx_settle.proofs.Firsts.{firsts, seen, Distinct, Distinct-firsts, firsts-push, seen_alike, none_alike}
use Rattle.rx_settle.specs.Providers.{is_same, without}

-- two lines of one provider
abbrev same : Line → Line → Bool
same k l = is_same (provider_of k) (provider_of l)

laws : IsEquivalence same
laws = on_texts_equal provider_of

-- the group of a line
abbrev entry : List Line → Line → List ℕ × List Line
entry lines l = group lines (provider_of l)

-- the first line of each provider, in order
abbrev first_lines : List Line → List Line
first_lines lines = firsts same lines

-- ---- the providers

names-others : (l : Line) (fs : List Line)
    → map provider_of (filter (λ k. not (same l k)) fs) ≡ without (provider_of l) (map provider_of fs)
names-others l [] = refl
names-others l (f ∷ fs) = elim (cases_Bool (same l f)) [
  | inl here ↦ rw here (names-others l fs)
  | inr other ↦ rw other (ap (λ ns. provider_of f ∷ ns) (names-others l fs))
]

names : (ls : List Line) → map provider_of (first_lines ls) ≡ providers ls
names [] = refl
names (l ∷ ls) = ap (λ ns. provider_of l ∷ ns) (names-others l (first_lines ls) ∙ ap (without (provider_of l)) (names ls))

entries_among : (ls fs : List Line) → map (entry ls) fs ≡ map (group ls) (map provider_of fs)
entries_among ls [] = refl
entries_among ls (f ∷ fs) = ap (λ es. entry ls f ∷ es) (entries_among ls fs)

-- the first lines give each provider its group
entries-grouped : (ls : List Line) → map (entry ls) (first_lines ls) ≡ grouped ls
entries-grouped ls = entries_among ls (first_lines ls) ∙ ap (map (group ls)) (names ls)

-- ---- one line more

-- a line of another provider changes no group
entry-other : (ls : List Line) (x l : Line) → same x l ≡ false → entry (ls ++ x ∷ []) l ≡ entry ls l
entry-other ls x l other =
    let none : filter (same l) (x ∷ []) ≡ [] = rw (laws.symm l x ∙ other) refl in
    ap (λ ks. (provider_of l, ks)) (filter-append (same l) ls (x ∷ [])
    ∙ ap (λ ks. filter (same l) ls ++ ks) none ∙ append-nil (filter (same l) ls))

entries-other : (ls fs : List Line) (x : Line) → seen same x fs ≡ false → map (entry (ls ++ x ∷ [])) fs ≡ map (entry ls) fs
entries-other ls [] x none = refl
entries-other ls (f ∷ fs) x none = elim (cases_Bool (same x f)) [
  | inl here ↦ absurd (let h = rw here at none in cc)
  | inr other ↦ (λ j. entry-other ls x f other j ∷ entries-other ls fs x (rw other at none) j)
]

-- and one of the same stands at its end
entry-same : (ls : List Line) (x l : Line) → same x l ≡ true
    → entry (ls ++ x ∷ []) l ≡ (provider_of l, filter (same l) ls ++ x ∷ [])
entry-same ls x l here =
    let one : filter (same l) (x ∷ []) ≡ x ∷ [] = rw (laws.symm l x ∙ here) refl in
    ap (λ ks. (provider_of l, ks)) (filter-append (same l) ls (x ∷ []) ∙ ap (λ ks. filter (same l) ls ++ ks) one)

added_among : (ls fs : List Line) (x : Line) → Distinct same fs
    → added (provider_of x) x (map (entry ls) fs)
    ≡ cond (seen same x fs) (map (entry (ls ++ x ∷ [])) fs) (map (entry (ls ++ x ∷ [])) fs ++ (provider_of x, x ∷ []) ∷ [])
added_among ls [] x d = refl
added_among ls (f ∷ fs) x d = elim (cases_Bool (same x f)) [
  | inl here ↦
      let rest : seen same x fs ≡ false = seen_alike same laws x f fs here ∙ d.0 in
      rw (here, entry-same ls x f here, entries-other ls fs x rest) refl
  | inr other ↦ rw (other, entry-other ls x f other, added_among ls fs x d.1)
      (elim (cases_Bool (seen same x fs)) [ inl old ↦ rw old refl | inr new ↦ rw new refl ])
]

added-entries : (ls : List Line) (x : Line)
    → added (provider_of x) x (map (entry ls) (first_lines ls)) ≡ map (entry (ls ++ x ∷ [])) (first_lines (ls ++ x ∷ []))
added-entries ls x = added_among ls (first_lines ls) x (Distinct-firsts same laws ls)
    ∙ elim (cases_Bool (seen same x (first_lines ls))) [
      | inl old ↦ rw (firsts-push same laws ls x, old) refl
      | inr new ↦
          let none : filter (same x) ls ≡ [] = none_alike same laws x ls new in
          let last : entry (ls ++ x ∷ []) x ≡ (provider_of x, x ∷ []) =
          entry-same ls x x (laws.refl x) ∙ ap (λ ks. (provider_of x, ks ++ x ∷ [])) none in
          rw (firsts-push same laws ls x, new) (sym (map-append (entry (ls ++ x ∷ [])) (first_lines ls) (x ∷ [])
          ∙ ap (λ e. map (entry (ls ++ x ∷ [])) (first_lines ls) ++ e ∷ []) last))
    ]

-- a line more leads from the groups before it to those after it
pub added-grouped : (ls : List Line) (x : Line) → added (provider_of x) x (grouped ls) ≡ grouped (ls ++ x ∷ [])
added-grouped ls x =
    ap (added (provider_of x) x) (sym (entries-grouped ls)) ∙ added-entries ls x ∙ entries-grouped (ls ++ x ∷ [])

-- ---- the map

-- what the map has of a provider is its group
pub lines-found : {Z : Type 0} (p : List ℕ) (es : List (List ℕ × Vec Line Z)) (v : Vec Line Z)
    → lookup (is_same p) es ≡ Some v → lines_at p (groups_in es) ≡ vec_items v
lines-found p [] v is = absurd cc
lines-found p (e ∷ es) v is = elim (cases_Bool (is_same p e.0)) [
  | inl here ↦ rw here (let h : Some e.1 ≡ Some v = rw here at is in cc)
  | inr other ↦ rw other (lines-found p es v (rw other at is))
]

pub lines-none : {Z : Type 0} (p : List ℕ) (es : List (List ℕ × Vec Line Z)) → lookup (is_same p) es ≡ None
    → lines_at p (groups_in es) ≡ []
lines-none p [] none = refl
lines-none p (e ∷ es) none = elim (cases_Bool (is_same p e.0)) [
  | inl here ↦ absurd (let h = rw here at none in cc)
  | inr other ↦ rw other (lines-none p es (rw other at none))
]
