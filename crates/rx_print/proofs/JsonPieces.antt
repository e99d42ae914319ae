-- Pieces of a text that is JSON: values, members of an object, items of an array; and how the lexer takes them.
use Rattle.std.proofs.Common.{◌≡◌, ℕ, ℤ, suc, ◌≤◌, true, cond, List, [], ◌∷◌, ◌++◌, drop, map, refl, sym, ap, ap₂, ◌∙◌, arith}
use Rattle.std.proofs.Common.{append_assoc, append-nil, subst}
use Rattle.std.specs.Fmt.{signed_decimal}
use Rattle.std.specs.List.{flat_map}
use Rattle.json.proofs.Printed.Numbers.{in_word-ended, lex-number}
use Rattle.json.specs.Lex.{Lexeme, between, colon, comma, lex, token}
use Rattle.json.specs.Token as token
use Rattle.json.specs.Tree.{depth, items_depth, members_depth}
use Rattle.json.specs.Word.{ends_word, word}
use Rattle.rx_print.proofs.JsonGrammar.{document_read, more_items, more_members, onto}
use Rattle.rx_print.proofs.JsonWords.{is_name, name_lexed, number_is, text_lexed}
use Rattle.rx_print.specs.Escape.{escaped}
use Rattle.rx_print.specs.JsonData.{IsInRange, ItemsInRange, MembersInRange, ReadsAs, Value, array, items_of, json_items, json_members}
use Rattle.rx_print.specs.JsonData.{json_of, members_of, object, Null, Number, Text}
use Rattle.rx_print.specs.declared.style.Style.TheVariants.{Json}

-- ---- pieces of text, one after another

-- what the lexer makes of a text before what ends a word
abbrev pub Lexes : List ℕ → (List Lexeme → List Lexeme) → Type 0
Lexes text f = (rest : List ℕ) → ends_word rest ≡ true → lex between (text ++ rest) ≡ f (lex between rest)

-- such a text itself ends a word, where it stands before what does
abbrev pub Ends : List ℕ → Type 0
Ends text = (rest : List ℕ) → ends_word rest ≡ true → ends_word (text ++ rest) ≡ true

pub lexes_both : (s t : List ℕ) (f g : List Lexeme → List Lexeme) → Lexes s f → Lexes t g → Ends t → Lexes (s ++ t) (λ ls. f (g ls))
lexes_both s t f g first second ends rest h =
    ap (lex between) (append_assoc s t rest) ∙ first (t ++ rest) (ends rest h) ∙ ap f (second rest h)

pub ends_both : (s t : List ℕ) → Ends s → Ends t → Ends (s ++ t)
ends_both s t first second rest h = ap ends_word (append_assoc s t rest) ∙ first (t ++ rest) (second rest h)

-- ---- a value

pub record IsText (d : ℕ) (text : List ℕ) (v : Value) : Type 0 where
  pub lexed : IsInRange v → Lexes text (onto (json_of v))
  pub shallow : depth (json_of v) ≤ d

pub read_as : (d : ℕ) (text : List ℕ) (v : Value) → d ≤ 128 → IsText d text v → ReadsAs text v
unfolding lex
read_as d text v small is fits =
    document_read text (json_of v) (let deep = is.shallow in omega arith)
    (ap (lex between) (sym (append-nil text)) ∙ is.lexed fits [] refl)

pub text_at : (d : ℕ) (s t : List ℕ) (v : Value) → s ≡ t → IsText d t v → IsText d s v
text_at d s t v same is = record {
  lexed = λ fits rest h. ap (λ u. lex between (u ++ rest)) same ∙ is.lexed fits rest h;
  shallow = is.shallow;
}

-- on a line of its own
pub line_begins : (d : ℕ) (text : List ℕ) (v : Value) → IsText d text v → IsText d (10 ∷ text) v
unfolding lex
line_begins d text v is = record { lexed = λ fits rest h. is.lexed fits rest h; shallow = is.shallow }

pub line_ends : (d : ℕ) (text : List ℕ) (v : Value) → IsText d text v → IsText d (text ++ 10 ∷ []) v
unfolding lex
line_ends d text v is = record {
  lexed = λ fits rest h. ap (lex between) (append_assoc text (10 ∷ []) rest) ∙ is.lexed fits (10 ∷ rest) refl;
  shallow = is.shallow;
}

pub number_text_is : (d : ℕ) (z : ℤ) → IsText d (signed_decimal z) (Number z)
number_text_is d z = record {
  lexed = λ fits rest h. lex-number (signed_decimal z) rest (number_is z fits) h;
  shallow = omega arith;
}

pub null_text_is : (d : ℕ) → IsText d (110 ∷ 117 ∷ 108 ∷ 108 ∷ []) Null
unfolding lex word
null_text_is d = record {
  lexed = λ fits rest h. ap₂ (λ b l. token (cond b token.null token.bad) ∷ l) h (in_word-ended rest h);
  shallow = omega arith;
}

pub text_is : (d : ℕ) (bytes : List ℕ) → IsText d (34 ∷ (escaped Json bytes ++ 34 ∷ [])) (Text bytes)
text_is d bytes = record {
  lexed = λ fits rest h.
      ap (λ l. lex between (34 ∷ l)) (append_assoc (escaped Json bytes) (34 ∷ []) rest) ∙ text_lexed bytes rest fits;
  shallow = omega arith;
}

-- ---- members

abbrev pub members_onto : List (List ℕ × Value) → List Lexeme → List Lexeme
members_onto ms ls = more_members (json_members (members_of ms)) ls

abbrev pub member_onto : List ℕ × Value → List Lexeme → List Lexeme
member_onto m ls = token (token.string m.0) ∷ colon ∷ onto (json_of m.1) ls

-- a name and its value
pub record IsMember (d : ℕ) (text : List ℕ) (m : List ℕ × Value) : Type 0 where
  pub lexed : IsInRange m.1 → Lexes text (member_onto m)
  pub shallow : depth (json_of m.1) ≤ d

-- members, each after a comma
pub record AreMembers (d : ℕ) (text : List ℕ) (ms : List (List ℕ × Value)) : Type 0 where
  pub lexed : MembersInRange (members_of ms) → Lexes text (members_onto ms)
  pub ends : Ends text
  pub shallow : members_depth (json_members (members_of ms)) ≤ d

pub member_is : (d : ℕ) (name text : List ℕ) (v : Value) → is_name name ≡ true → IsText d text v
    → IsMember d (34 ∷ (name ++ (34 ∷ 58 ∷ text))) (name, v)
member_is d name text v itself is = record {
  lexed = λ fits rest h.
      ap (λ l. lex between (34 ∷ l)) (append_assoc name (34 ∷ 58 ∷ text) rest) ∙ name_lexed name (text ++ rest) itself
      ∙ ap (λ ls. token (token.string name) ∷ colon ∷ ls) (is.lexed fits rest h);
  shallow = is.shallow;
}

pub members_at : (d : ℕ) (s t : List ℕ) (ms : List (List ℕ × Value)) → s ≡ t → AreMembers d t ms → AreMembers d s ms
members_at d s t ms same are = record {
  lexed = λ fits rest h. ap (λ u. lex between (u ++ rest)) same ∙ are.lexed fits rest h;
  ends = λ rest h. ap (λ u. ends_word (u ++ rest)) same ∙ are.ends rest h;
  shallow = are.shallow;
}

pub no_members_are : (d : ℕ) → AreMembers d [] []
no_members_are d = record { lexed = λ fits rest h. refl; ends = λ rest h. h; shallow = omega arith }

pub one_member_is : (d : ℕ) (text : List ℕ) (m : List ℕ × Value) → IsMember d text m → AreMembers d (44 ∷ text) (m ∷ [])
unfolding lex
one_member_is d text m is = record {
  lexed = λ fits rest h. ap (λ ls. comma ∷ ls) (is.lexed fits.0 rest h);
  ends = λ rest h. refl;
  shallow = let a = is.shallow in omega arith;
}

pub named_is : (d : ℕ) (name text : List ℕ) (v : Value) → is_name name ≡ true → IsText d text v
    → AreMembers d (44 ∷ 34 ∷ (name ++ (34 ∷ 58 ∷ text))) ((name, v) ∷ [])
named_is d name text v itself is = one_member_is d _ (name, v) (member_is d name text v itself is)

members_onto_both : (ms ns : List (List ℕ × Value)) (ls : List Lexeme) → members_onto (ms ++ ns) ls ≡ members_onto ms (members_onto ns ls)
members_onto_both [] ns ls = refl
members_onto_both (m ∷ ms) ns ls = ap (λ l. comma ∷ member_onto m l) (members_onto_both ms ns ls)

members_fit : (ms ns : List (List ℕ × Value)) → MembersInRange (members_of (ms ++ ns))
    → MembersInRange (members_of ms) × MembersInRange (members_of ns)
members_fit [] ns h = (tt, h)
members_fit (m ∷ ms) ns h = let rest = members_fit ms ns h.1 in ((h.0, rest.0), rest.1)

members_shallow : (d : ℕ) (ms ns : List (List ℕ × Value)) → members_depth (json_members (members_of ms)) ≤ d
    → members_depth (json_members (members_of ns)) ≤ d → members_depth (json_members (members_of (ms ++ ns))) ≤ d
members_shallow d [] ns a b = b
members_shallow d (m ∷ ms) ns a b = let rest = members_shallow d ms ns (omega arith) b in omega arith

pub members_are : (d : ℕ) (s t : List ℕ) (ms ns : List (List ℕ × Value)) → AreMembers d s ms → AreMembers d t ns
    → AreMembers d (s ++ t) (ms ++ ns)
members_are d s t ms ns first second = record {
  lexed = λ fits rest h.
      let both = members_fit ms ns fits in
      lexes_both s t (members_onto ms) (members_onto ns) (first.lexed both.0) (second.lexed both.1) second.ends rest h
      ∙ sym (members_onto_both ms ns (lex between rest));
  ends = ends_both s t first.ends second.ends;
  shallow = members_shallow d ms ns first.shallow second.shallow;
}

pub each_member_is : {T : Type 0} (d : ℕ) (text : T → List ℕ) (m : T → List ℕ × Value) → ((x : T) → AreMembers d (text x) (m x ∷ []))
    → (xs : List T) → AreMembers d (flat_map text xs) (map m xs)
each_member_is d text m is [] = no_members_are d
each_member_is d text m is (x ∷ xs) =
    members_are d (text x) (flat_map text xs) (m x ∷ []) (map m xs) (is x) (each_member_is d text m is xs)

-- ---- an object: its bracket and the first member, then the other members with the bracket that ends it

pub record Opens (d : ℕ) (text : List ℕ) (m : List ℕ × Value) : Type 0 where
  pub lexed : IsInRange m.1 → Lexes text (λ ls. token token.begin_object ∷ member_onto m ls)
  pub shallow : depth (json_of m.1) ≤ d

pub record Closes (d : ℕ) (text : List ℕ) (ms : List (List ℕ × Value)) : Type 0 where
  pub lexed : MembersInRange (members_of ms) → Lexes text (λ ls. members_onto ms (token token.end_object ∷ ls))
  pub ends : Ends text
  pub shallow : members_depth (json_members (members_of ms)) ≤ d

pub opens : (d : ℕ) (text : List ℕ) (m : List ℕ × Value) → IsMember d text m → Opens d (123 ∷ text) m
unfolding lex
opens d text m is = record {
  lexed = λ fits rest h. ap (λ ls. token token.begin_object ∷ ls) (is.lexed fits rest h);
  shallow = is.shallow;
}

pub closes : (d : ℕ) → Closes d (125 ∷ []) []
unfolding lex
closes d = record { lexed = λ fits rest h. refl; ends = λ rest h. refl; shallow = omega arith }

-- with the line's end
pub closes_line : (d : ℕ) → Closes d (125 ∷ 10 ∷ []) []
unfolding lex
closes_line d = record { lexed = λ fits rest h. refl; ends = λ rest h. refl; shallow = omega arith }

pub closes_after : (d : ℕ) (s t : List ℕ) (ms ns : List (List ℕ × Value)) → AreMembers d s ms → Closes d t ns
    → Closes d (s ++ t) (ms ++ ns)
closes_after d s t ms ns first second = record {
  lexed = λ fits rest h.
      let both = members_fit ms ns fits in
      lexes_both s t (members_onto ms) (λ ls. members_onto ns (token token.end_object ∷ ls)) (first.lexed both.0) (second.lexed both.1)
      second.ends rest h
      ∙ sym (members_onto_both ms ns (token token.end_object ∷ lex between rest));
  ends = ends_both s t first.ends second.ends;
  shallow = members_shallow d ms ns first.shallow second.shallow;
}

-- the last members with the bracket
pub closes_last : (d : ℕ) (s t : List ℕ) (ms : List (List ℕ × Value)) → AreMembers d s ms → Closes d t [] → Closes d (s ++ t) ms
closes_last d s t ms last close = subst (Closes d (s ++ t)) (append-nil ms) (closes_after d s t ms [] last close)

pub object_is : (d : ℕ) (s t : List ℕ) (m : List ℕ × Value) (ms : List (List ℕ × Value)) → Opens d s m → Closes d t ms
    → IsText (suc d) (s ++ t) (object (m ∷ ms))
object_is d s t m ms first rest = record {
  lexed = λ fits.
      lexes_both s t (λ ls. token token.begin_object ∷ member_onto m ls) (λ ls. members_onto ms (token token.end_object ∷ ls))
      (first.lexed fits.0) (rest.lexed fits.1) rest.ends;
  shallow = let a = first.shallow in let b = rest.shallow in omega arith;
}

-- members that stand after commas stand in an object without the first comma
pub braces_is : (d : ℕ) (text : List ℕ) (m : List ℕ × Value) (ms : List (List ℕ × Value)) → AreMembers d (44 ∷ text) (m ∷ ms)
    → IsText (suc d) (123 ∷ (text ++ 125 ∷ [])) (object (m ∷ ms))
unfolding lex
braces_is d text m ms are = record {
  lexed = λ fits rest h.
      ap (λ l. token token.begin_object ∷ lex between l) (append_assoc text (125 ∷ []) rest)
      ∙ ap (λ ls. token token.begin_object ∷ drop 1 ls) (are.lexed fits (125 ∷ rest) refl);
  shallow = let a = are.shallow in omega arith;
}

-- ---- an array

abbrev pub items_onto : List Value → List Lexeme → List Lexeme
items_onto vs ls = more_items (json_items (items_of vs)) ls

-- a value after a comma
pub record IsItem (d : ℕ) (text : List ℕ) (v : Value) : Type 0 where
  pub lexed : IsInRange v → Lexes text (λ ls. comma ∷ onto (json_of v) ls)
  pub ends : Ends text
  pub shallow : depth (json_of v) ≤ d

-- values, each after a comma
pub record AreItems (d : ℕ) (text : List ℕ) (vs : List Value) : Type 0 where
  pub lexed : ItemsInRange (items_of vs) → Lexes text (items_onto vs)
  pub ends : Ends text
  pub shallow : items_depth (json_items (items_of vs)) ≤ d

pub item_is : (d : ℕ) (text : List ℕ) (v : Value) → IsText d text v → IsItem d (44 ∷ text) v
unfolding lex
item_is d text v is = record {
  lexed = λ fits rest h. ap (λ ls. comma ∷ ls) (is.lexed fits rest h);
  ends = λ rest h. refl;
  shallow = is.shallow;
}

pub each_item_is : {T : Type 0} (d : ℕ) (text : T → List ℕ) (v : T → Value) → ((x : T) → IsItem d (text x) (v x))
    → (xs : List T) → AreItems d (flat_map text xs) (map v xs)
each_item_is d text v is [] = record { lexed = λ fits rest h. refl; ends = λ rest h. h; shallow = omega arith }
each_item_is d text v is (x ∷ xs) =
    let first = is x in
    let others = each_item_is d text v is xs in
    record {
      lexed = λ fits.
          lexes_both (text x) (flat_map text xs) (λ ls. comma ∷ onto (json_of (v x)) ls) (items_onto (map v xs)) (first.lexed fits.0)
          (others.lexed fits.1) others.ends;
      ends = ends_both (text x) (flat_map text xs) first.ends others.ends;
      shallow = let a = first.shallow in let b = others.shallow in omega arith;
    }

pub no_items_are : (d : ℕ) → IsText (suc d) (91 ∷ 93 ∷ []) (array [])
unfolding lex
no_items_are d = record { lexed = λ fits rest h. refl; shallow = omega arith }

pub array_is : (d : ℕ) (s t : List ℕ) (v : Value) (vs : List Value) → IsText d s v → AreItems d t vs
    → IsText (suc d) (91 ∷ (s ++ (t ++ 93 ∷ []))) (array (v ∷ vs))
unfolding lex
array_is d s t v vs first others = record {
  lexed = λ fits rest h.
      let close : Lexes (t ++ 93 ∷ []) (λ ls. items_onto vs (token token.end_array ∷ ls)) =
      lexes_both t (93 ∷ []) (items_onto vs) (λ ls. token token.end_array ∷ ls) (others.lexed fits.1) (λ r e. refl) (λ r e. refl) in
      let ends : Ends (t ++ 93 ∷ []) = ends_both t (93 ∷ []) others.ends (λ r e. refl) in
      ap (λ ls. token token.begin_array ∷ ls)
      (lexes_both s (t ++ 93 ∷ []) (onto (json_of v)) (λ ls. items_onto vs (token token.end_array ∷ ls)) (first.lexed fits.0) close ends
      rest h);
  shallow = let a = first.shallow in let b = others.shallow in omega arith;
}
