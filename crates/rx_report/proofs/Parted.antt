-- Lines parted by keys: each line stands in the part of just one.
use Rattle.std.proofs.Common.{◌≡◌, ℕ, Bool, true, false, not, ◌&&◌, ◌||◌, cond, List, [], ◌∷◌, ◌++◌, map, refl, sym, ap, ◌∙◌}
use Rattle.std.proofs.Common.{inl, inr, subst}
use Rattle.std.specs.Cmp.{IsEquivalence}
use Rattle.std.specs.Cmp.Lexicographic.{bytes_decides, nat_list_eq_equiv}
use Rattle.std.specs.List.{All, filter, flat_map}
use Rattle.std.specs.List.Sorted.{IsPermutation}
use Rattle.std.proofs.lemmas.Bool.{cases_Bool}
use Rattle.std.proofs.lemmas.List.Elements.{All-head, All-tail, filter_agree}
use Rattle.std.proofs.lemmas.List.Sorted.{IsPermutation-append_right, IsPermutation-filter_both, IsPermutation-refl}
use Rattle.std.proofs.lemmas.List.Sorted.{IsPermutation-trans}
use Rattle.rx_report.specs.declared.line.Line.{Line}
use Rattle.rx_report.specs.Groups.{group, grouped, lines_at, provider_of, providers}
use Rattle.rx_settle.proofs.Firsts.{firsts, seen, others, Distinct, none_alike, seen_alike}
use Rattle.rx_settle.specs.Providers.{is_same, without}

-- ---- tests

pub laws : IsEquivalence is_same
laws = nat_list_eq_equiv

pub same_text : (a b : List ℕ) → is_same a b ≡ true → a ≡ b
same_text a b e = (bytes_decides a b).0 e

and_true : (b : Bool) → (b && true) ≡ b
and_true true = refl
and_true false = refl

pub and_false : (b : Bool) → (b && false) ≡ false
and_false true = refl
and_false false = refl

-- ---- filters

module _ {X : Type 0} where
  pub filter_twice : (p q : X → Bool) (xs : List X) → filter p (filter q xs) ≡ filter (λ x. q x && p x) xs
  filter_twice p q [] = refl
  filter_twice p q (x ∷ xs) = elim (cases_Bool (q x)) [
    | inl here ↦ rw here (λ j. cond (p x) (x ∷ filter_twice p q xs j) (filter_twice p q xs j))
    | inr other ↦ rw other (filter_twice p q xs)
  ]

  pub filter_all : (p : X → Bool) (xs : List X) → All (λ x. p x ≡ true) xs → filter p xs ≡ xs
  filter_all p [] all = refl
  filter_all p (x ∷ xs) all =
      rw (All-head (λ x. p x ≡ true) x xs all) (ap (λ ys. x ∷ ys) (filter_all p xs (All-tail (λ x. p x ≡ true) x xs all)))

  pub filter_none : (xs : List X) → filter (λ x. false) xs ≡ []
  filter_none [] = refl
  filter_none (x ∷ xs) = filter_none xs

-- ---- keys

-- the line is of the key
abbrev pub is_at : List ℕ → Line → Bool
is_at k l = is_same k (provider_of l)

-- the line's provider is among the keys
abbrev pub among : List (List ℕ) → Line → Bool
among ks l = seen is_same (provider_of l) ks

own : (k : List ℕ) (ks : List (List ℕ)) (l : Line) → (among (k ∷ ks) l && is_at k l) ≡ is_at k l
own k ks l = elim (cases_Bool (is_at k l)) [
  | inl here ↦ rw (here, laws.symm (provider_of l) k ∙ here) refl
  | inr other ↦ rw other (and_false (among (k ∷ ks) l))
]

left : (k : List ℕ) (ks : List (List ℕ)) (l : Line) → seen is_same k ks ≡ false
    → (among (k ∷ ks) l && not (is_at k l)) ≡ among ks l
left k ks l none = elim (cases_Bool (is_at k l)) [
  | inl here ↦
      let gone : among ks l ≡ false = sym (seen_alike is_same laws k (provider_of l) ks here) ∙ none in
      rw (here, gone) (and_false (is_same (provider_of l) k || false))
  | inr other ↦ rw (other, laws.symm (provider_of l) k ∙ other) (and_true (among ks l))
]

-- the parts of different keys together are the lines whose providers are among the keys
pub parted : (ks : List (List ℕ)) (ls : List Line) → Distinct is_same ks
    → IsPermutation (filter (among ks) ls) (flat_map (λ k. filter (is_at k) ls) ks)
parted [] ls d = subst (λ xs. IsPermutation xs []) (sym (filter_none ls)) (IsPermutation-refl [])
parted (k ∷ ks) ls d =
    let own_part : filter (is_at k) (filter (among (k ∷ ks)) ls) ≡ filter (is_at k) ls =
    filter_twice (is_at k) (among (k ∷ ks)) ls ∙ filter_agree _ (is_at k) (own k ks) ls in
    let rest : filter (λ l. not (is_at k l)) (filter (among (k ∷ ks)) ls) ≡ filter (among ks) ls =
    filter_twice (λ l. not (is_at k l)) (among (k ∷ ks)) ls ∙ filter_agree _ (among ks) (λ l. left k ks l d.0) ls in
    let both = IsPermutation-filter_both (is_at k) (λ l. not (is_at k l)) (λ l. refl) (filter (among (k ∷ ks)) ls) in
    let parts : IsPermutation (filter (among (k ∷ ks)) ls) (filter (is_at k) ls ++ filter (among ks) ls) =
    subst (λ xs. IsPermutation (filter (among (k ∷ ks)) ls) xs) (λ j. own_part j ++ rest j) both in
    IsPermutation-trans _ _ _ parts (IsPermutation-append_right (filter (is_at k) ls) _ _ (parted ks ls d.1))

-- ---- the first of each kind

seen_others : (x r : List ℕ) (ys : List (List ℕ)) → is_same x r ≡ false
    → seen is_same x (others is_same r ys) ≡ seen is_same x ys
seen_others x r [] e = refl
seen_others x r (y ∷ ys) e = elim (cases_Bool (is_same r y)) [
  | inl here ↦
      let gone : is_same x y ≡ false = rw (← same_text r y here) e in
      rw (here, gone) (seen_others x r ys e)
  | inr other ↦ rw other (ap (λ b. is_same x y || b) (seen_others x r ys e))
]

-- a kind has its first
pub seen_firsts : (x : List ℕ) (xs : List (List ℕ)) → seen is_same x (firsts is_same xs) ≡ seen is_same x xs
seen_firsts x [] = refl
seen_firsts x (r ∷ rs) = elim (cases_Bool (is_same x r)) [
  | inl here ↦ rw here refl
  | inr other ↦ rw other (seen_others x r (firsts is_same rs) other ∙ seen_firsts x rs)
]

-- ---- the groups of lines

pub providers_are : (ls : List Line) → providers ls ≡ firsts is_same (map provider_of ls)
providers_are [] = refl
providers_are (l ∷ ls) = ap (λ ps. provider_of l ∷ without (provider_of l) ps) (providers_are ls)

group_found : (k : List ℕ) (ls : List Line) (ps : List (List ℕ)) → seen is_same k ps ≡ true
    → lines_at k (map (group ls) ps) ≡ filter (is_at k) ls
group_found k ls [] e = absurd cc
group_found k ls (p ∷ ps) e = elim (cases_Bool (is_same k p)) [
  | inl here ↦ rw here (ap (λ q. filter (is_at q) ls) (sym (same_text k p here)))
  | inr other ↦ rw other (group_found k ls ps (rw other at e))
]

group_missing : (k : List ℕ) (ls : List Line) (ps : List (List ℕ)) → seen is_same k ps ≡ false
    → lines_at k (map (group ls) ps) ≡ []
group_missing k ls [] e = refl
group_missing k ls (p ∷ ps) e = elim (cases_Bool (is_same k p)) [
  | inl here ↦ absurd (let h = rw here at e in cc)
  | inr other ↦ rw other (group_missing k ls ps (rw other at e))
]

none_at : (k : List ℕ) (ls : List Line) → filter (is_same k) (map provider_of ls) ≡ [] → filter (is_at k) ls ≡ []
none_at k [] e = refl
none_at k (l ∷ ls) e = elim (cases_Bool (is_at k l)) [
  | inl here ↦ absurd (let h = rw here at e in cc)
  | inr other ↦ rw other (none_at k ls (rw other at e))
]

-- the lines of a key are those of its providers, whether it has a group or not
pub lines_at_key : (k : List ℕ) (ls : List Line) → lines_at k (grouped ls) ≡ filter (is_at k) ls
lines_at_key k ls = elim (cases_Bool (seen is_same k (providers ls))) [
  | inl here ↦ group_found k ls (providers ls) here
  | inr none ↦
      let first : seen is_same k (firsts is_same (map provider_of ls)) ≡ false =
      ap (seen is_same k) (sym (providers_are ls)) ∙ none in
      group_missing k ls (providers ls) none
      ∙ sym (none_at k ls (none_alike is_same laws k (map provider_of ls) first))
]
