-- The tallies by provider, after some replies are counted.
use Rattle.std.proofs.Common.{◌≡◌, ℕ, ◌≤◌, Bool, true, false, not, cond, List, [], ◌∷◌, ◌++◌, map, refl, sym, ap, ◌∙◌}
use Rattle.std.proofs.Common.{inl, inr, subst, arith, zero-add}
use Rattle.std.specs.Cmp.{IsEquivalence}
use Rattle.std.specs.Cmp.Lexicographic.{on_texts_equal}
use Rattle.std.specs.List.{filter, flat_map}
use Rattle.std.specs.Prelude.{nat_eq}
use Rattle.std.specs.Cmp.Lexicographic.{pointwise}
use Rattle.std.proofs.lemmas.Bool.{cases_Bool}
use Rattle.std.proofs.lemmas.List.{append-nil, map-append}
use Rattle.std.proofs.lemmas.List.Elements.{filter-append}
use Rattle.std.specs.Option.{unwrap_or}
use Rattle.std.specs.Prelude.{Option, Some, None, is_some, position, slice_get}
use Rattle.std.specs.Map.{lookup, keys_of, values_of}
use Rattle.indexmap.specs.IndexMap.{insert_entry, set_value_at}
use Rattle.indexmap.proofs.MapLemmas.{Found-position, insert_entry-first}
use Rattle.rx_d0_values.specs.declared.reply.Reply.{Reply}
use Rattle.rx_settle.specs.declared.tally.Tally.{Tally}
use Rattle.rx_settle.specs.Answers.{answers_in, tally, plus, weight}
use Rattle.rx_settle.specs.Counting.{field_text, tally_at, tally_for, tallies_of, counted, line}
use Rattle.rx_settle.specs.Providers.{named, provider_of, providers, is_same, without, replies_to}
use Rattle.rx_fields.specs.Numbered.{LotParts}
use Rattle.rx_fields.specs.declared.stamp.Stamp.{Stamp}
use Rattle.rx_settle.specs.Settlement.{head_line, provider_line, settlement_text, total_line}
use Rattle.rx_settle.specs.Together.{line_alone, together_text}
use Rattle.rx_settle.proofs.Firsts.{firsts, seen, Distinct, Distinct-firsts, firsts-push, seen_alike, none_alike}
use Rattle.rx_settle.proofs.Names.{same_fields, named_again}
use Rattle.rx_settle.proofs.Tallies.{tally_of, tally_of-push, weight-filter}

-- two replies to one provider
abbrev same : Reply → Reply → Bool
same r s = is_same (provider_of r) (provider_of s)

laws : IsEquivalence same
laws = on_texts_equal provider_of

-- a reply's field with the tally of all replies to its provider
abbrev entry : List Reply → Reply → List ℕ × Tally
entry replies r = (field_text (provider_of r), tally_of (replies_to (provider_of r) replies))

-- the first reply to each provider, in order
abbrev first_replies : List Reply → List Reply
first_replies replies = firsts same replies

-- a field with its tally for each provider, in order of first appearance
abbrev entries : List Reply → List (List ℕ × Tally)
entries replies = map (entry replies) (first_replies replies)

-- ---- the providers

names-others : (r : Reply) (fs : List Reply)
    → map provider_of (filter (λ s. not (same r s)) fs) ≡ without (provider_of r) (map provider_of fs)
names-others r [] = refl
names-others r (f ∷ fs) = elim (cases_Bool (same r f)) [
  | inl here ↦ rw here (names-others r fs)
  | inr other ↦ rw other (ap (λ ns. provider_of f ∷ ns) (names-others r fs))
]

names : (rs : List Reply) → map provider_of (first_replies rs) ≡ providers rs
names [] = refl
names (r ∷ rs) = ap (λ ns. provider_of r ∷ ns) (names-others r (first_replies rs) ∙ ap (without (provider_of r)) (names rs))

entries_among : (rs fs : List Reply) → map (entry rs) fs ≡ map (tally_for rs) (map provider_of fs)
entries_among rs [] = refl
entries_among rs (f ∷ fs) = ap (λ es. entry rs f ∷ es) (entries_among rs fs)

-- the first replies give each provider its tally
entries-tallies : (rs : List Reply) → entries rs ≡ tallies_of rs
entries-tallies rs = entries_among rs (first_replies rs) ∙ ap (map (tally_for rs)) (names rs)

-- ---- one reply is counted

plus_none : (t : Tally) → plus (tally []) t ≡ t
plus_none t = λ j. record {
  paid = zero-add t.paid j;
  duplicate = zero-add t.duplicate j;
  approved = zero-add t.approved j;
  rejected = zero-add t.rejected j;
  paid_out = zero-add t.paid_out j;
  taken_back = zero-add t.taken_back j;
}

-- a map counts by inserting what was there and more
pub insert_entry-counted : (field : List ℕ) (more : Tally) (es : List (List ℕ × Tally))
    → insert_entry (pointwise nat_eq) es field (plus (tally_at field es) more) ≡ counted field more es
insert_entry-counted field more [] = ap (λ (t : Tally). (field, t) ∷ []) (plus_none more)
insert_entry-counted field more (e ∷ es) = elim (cases_Bool (is_same field e.0)) [
  | inl here ↦ rw here refl
  | inr other ↦ rw other (ap (λ rest. e ∷ rest) (insert_entry-counted field more es))
]

-- nothing was there yet
none_at : (o : Option Tally) → is_some o ≡ false → unwrap_or o (tally []) ≡ tally []
none_at None e = refl
none_at (Some t) e = absurd cc

pub insert_entry-new : (field : List ℕ) (more : Tally) (es : List (List ℕ × Tally)) → is_some (lookup (is_same field) es) ≡ false
    → insert_entry (pointwise nat_eq) es field more ≡ counted field more es
insert_entry-new field more es none =
    ap (insert_entry (pointwise nat_eq) es field)
    (sym (plus_none more) ∙ ap (λ t. plus t more) (sym (none_at (lookup (is_same field) es) none)))
    ∙ insert_entry-counted field more es

-- what was there and more is put back at its place
pub set_value_at-counted : (field : List ℕ) (more before : Tally) (es : List (List ℕ × Tally)) (at : ℕ)
    → position (is_same field) (keys_of es) ≡ Some at → slice_get (values_of es) at ≡ Some before
    → set_value_at es at (plus before more) ≡ counted field more es
set_value_at-counted field more before es at place value =
    let found = Found-position (is_same field) es at place in
    let there : tally_at field es ≡ before = ap (λ o. unwrap_or o (tally [])) (found.value ∙ value) in
    sym (insert_entry-first (pointwise nat_eq) field (plus before more) es at found.first)
    ∙ ap (λ t. insert_entry (pointwise nat_eq) es field (plus t more)) (sym there)
    ∙ insert_entry-counted field more es

-- a reply to another provider changes no entry
entry-other : (rs : List Reply) (x r : Reply) → same x r ≡ false → entry (rs ++ x ∷ []) r ≡ entry rs r
entry-other rs x r other =
    let none : replies_to (provider_of r) (x ∷ []) ≡ [] = rw (laws.symm r x ∙ other) refl in
    let replies : replies_to (provider_of r) (rs ++ x ∷ []) ≡ replies_to (provider_of r) rs =
    filter-append (same r) rs (x ∷ []) ∙ ap (λ ys. replies_to (provider_of r) rs ++ ys) none
    ∙ append-nil (replies_to (provider_of r) rs) in
    ap (λ ys. (field_text (provider_of r), tally_of ys)) replies

entries-other : (rs fs : List Reply) (x : Reply) → seen same x fs ≡ false
    → map (entry (rs ++ x ∷ [])) fs ≡ map (entry rs) fs
entries-other rs [] x none = refl
entries-other rs (f ∷ fs) x none = elim (cases_Bool (same x f)) [
  | inl here ↦ absurd (let h = rw here at none in cc)
  | inr other ↦ (λ j. entry-other rs x f other j ∷ entries-other rs fs x (rw other at none) j)
]

-- and one to the same adds to its entry
entry-same : (rs : List Reply) (x r : Reply) → same x r ≡ true
    → entry (rs ++ x ∷ []) r
    ≡ (field_text (provider_of r), plus (tally_of (replies_to (provider_of r) rs)) (tally (answers_in x.outcome)))
entry-same rs x r here =
    let one : replies_to (provider_of r) (x ∷ []) ≡ x ∷ [] = rw (laws.symm r x ∙ here) refl in
    let replies : replies_to (provider_of r) (rs ++ x ∷ []) ≡ replies_to (provider_of r) rs ++ x ∷ [] =
    filter-append (same r) rs (x ∷ []) ∙ ap (λ ys. replies_to (provider_of r) rs ++ ys) one in
    ap (λ ys. (field_text (provider_of r), tally_of ys)) replies
    ∙ ap (λ t. (field_text (provider_of r), t)) (tally_of-push (replies_to (provider_of r) rs) x)

counted_among : (rs fs : List Reply) (x : Reply) → Distinct same fs
    → counted (field_text (provider_of x)) (tally (answers_in x.outcome)) (map (entry rs) fs)
    ≡ cond (seen same x fs) (map (entry (rs ++ x ∷ [])) fs)
    (map (entry (rs ++ x ∷ [])) fs ++ (field_text (provider_of x), tally (answers_in x.outcome)) ∷ [])
counted_among rs [] x d = refl
counted_among rs (f ∷ fs) x d = elim (cases_Bool (same x f)) [
  | inl here ↦
      let rest : seen same x fs ≡ false = seen_alike same laws x f fs here ∙ d.0 in
      rw (same_fields x.echo.provider f.echo.provider, here, entry-same rs x f here, entries-other rs fs x rest) refl
  | inr other ↦ rw (same_fields x.echo.provider f.echo.provider, other, entry-other rs x f other, counted_among rs fs x d.1)
      (elim (cases_Bool (seen same x fs)) [ inl old ↦ rw old refl | inr new ↦ rw new refl ])
]

-- counting a reply leads from the entries before it to those after it
counted-entries : (rs : List Reply) (x : Reply)
    → counted (field_text (provider_of x)) (tally (answers_in x.outcome)) (entries rs) ≡ entries (rs ++ x ∷ [])
counted-entries rs x = counted_among rs (first_replies rs) x (Distinct-firsts same laws rs)
    ∙ elim (cases_Bool (seen same x (first_replies rs))) [
      | inl old ↦ rw (firsts-push same laws rs x, old) refl
      | inr new ↦
          let none : replies_to (provider_of x) rs ≡ [] = none_alike same laws x rs new in
          let one : replies_to (provider_of x) (x ∷ []) ≡ x ∷ [] = rw (laws.refl x) refl in
          let replies : replies_to (provider_of x) (rs ++ x ∷ []) ≡ x ∷ [] =
          filter-append (same x) rs (x ∷ []) ∙ (λ j. none j ++ one j) in
          let last : entry (rs ++ x ∷ []) x ≡ (field_text (provider_of x), tally (answers_in x.outcome)) =
          ap (λ ys. (field_text (provider_of x), tally_of ys)) replies
          ∙ ap (λ answers. (field_text (provider_of x), tally answers)) (append-nil (answers_in x.outcome)) in
          rw (firsts-push same laws rs x, new) (sym (map-append (entry (rs ++ x ∷ [])) (first_replies rs) (x ∷ [])
          ∙ ap (λ e. map (entry (rs ++ x ∷ [])) (first_replies rs) ++ e ∷ []) last))
    ]

-- counting a reply leads from the tallies before it to those after it
pub counted-tallies : (rs : List Reply) (x : Reply)
    → counted (field_text (provider_of x)) (tally (answers_in x.outcome)) (tallies_of rs) ≡ tallies_of (rs ++ x ∷ [])
counted-tallies rs x =
    ap (counted (field_text (provider_of x)) (tally (answers_in x.outcome))) (sym (entries-tallies rs))
    ∙ counted-entries rs x ∙ entries-tallies (rs ++ x ∷ [])

-- ---- how much is counted

tally_at-among : (field : List ℕ) (rs fs : List Reply) → weight (tally_at field (map (entry rs) fs)) ≤ weight (tally_of rs)
tally_at-among field rs [] = omega arith
tally_at-among field rs (f ∷ fs) = elim (cases_Bool (is_same field (field_text (provider_of f)))) [
  | inl here ↦ rw here (weight-filter (same f) rs)
  | inr other ↦ rw other (tally_at-among field rs fs)
]

-- no provider's tally weighs more than all replies
pub weight-tally_at : (field : List ℕ) (rs : List Reply) → weight (tally_at field (tallies_of rs)) ≤ weight (tally_of rs)
weight-tally_at field rs = subst (λ es. weight (tally_at field es) ≤ weight (tally_of rs)) (entries-tallies rs)
    (tally_at-among field rs (first_replies rs))

-- ---- the lines

lines_among : (rs fs : List Reply)
    → flat_map line (map (entry rs) fs) ≡ flat_map (provider_line rs) (map provider_of fs)
lines_among rs [] = refl
lines_among rs (f ∷ fs) = rw (named_again f.echo.provider, lines_among rs fs) refl

-- the lines of the tallies are those of the providers
pub lines : (rs : List Reply) → flat_map line (tallies_of rs) ≡ flat_map (provider_line rs) (providers rs)
lines rs = ap (flat_map line) (sym (entries-tallies rs)) ∙ lines_among rs (first_replies rs)
    ∙ ap (flat_map (provider_line rs)) (names rs)

-- those of the entries of one id
alone_among : (id : List ℕ) (rs fs : List Reply)
    → flat_map line (filter (λ e. is_same id (named e.0)) (map (entry rs) fs))
    ≡ flat_map (provider_line rs) (filter (is_same id) (map provider_of fs))
alone_among id rs [] = refl
alone_among id rs (f ∷ fs) = rw (named_again f.echo.provider) (elim (cases_Bool (is_same id (provider_of f))) [
  | inl here ↦ rw (here, named_again f.echo.provider, alone_among id rs fs) refl
  | inr other ↦ rw other (alone_among id rs fs)
])

-- the line of one tally is that of its provider
pub lines_alone : (id : List ℕ) (rs : List Reply)
    → flat_map line (filter (λ e. is_same id (named e.0)) (tallies_of rs)) ≡ line_alone id rs
lines_alone id rs =
    ap (λ es. flat_map line (filter (λ e. is_same id (named e.0)) es)) (sym (entries-tallies rs))
    ∙ alone_among id rs (first_replies rs)
    ∙ ap (λ ns. flat_map (provider_line rs) (filter (is_same id) ns)) (names rs)

-- one batch together is that batch
pub one_run : (lot : LotParts) (stamp : Stamp) (rs : List Reply)
    → together_text (record { lot = lot; stamp = stamp } ∷ []) rs ≡ settlement_text lot stamp rs
one_run lot stamp rs =
    ap (λ bs. bs ++ (flat_map (provider_line rs) (providers rs) ++ total_line rs)) (append-nil (head_line lot stamp))
