-- What the lexer makes of a value's text is read as that value.
use Rattle.std.proofs.Common.{◌≡◌, ◌≤◌, Bool, true, false, cond, List, [], ◌∷◌, ◌++◌, Some, option_and_then, refl, sym, ap, ◌∙◌}
use Rattle.std.proofs.Common.{append_assoc}
use Rattle.std.specs.Prelude.{ℕ}
use Rattle.json.proofs.Printed.Trees.{value-json_tokens}
use Rattle.json.specs.Json as json
use Rattle.json.specs.Json.{if_last, max_depth, value}
use Rattle.json.specs.Lex.{Lexeme, Place, after_comma, after_value, begins_colon, between, colon, comma, fresh, lex, punctuate}
use Rattle.json.specs.Lex.{token, tokens}
use Rattle.json.specs.Token as token
use Rattle.json.specs.Token.{Token}
use Rattle.json.specs.Tree.{depth, items_tokens, json_tokens, members_tokens}

-- ---- lexemes, before others

abbrev mutual
  pub onto : json.Json → List Lexeme → List Lexeme
  onto json.null ls = token token.null ∷ ls
  onto (json.boolean b) ls = token (token.boolean b) ∷ ls
  onto (json.number s) ls = token (token.number s) ∷ ls
  onto (json.string s) ls = token (token.string s) ∷ ls
  onto (json.array js) ls = token token.begin_array ∷ first_item js (token token.end_array ∷ ls)
  onto (json.object ms) ls = token token.begin_object ∷ first_member ms (token token.end_object ∷ ls)

  pub first_item : json.Items → List Lexeme → List Lexeme
  first_item json.no_items ls = ls
  first_item (json.item j js) ls = onto j (more_items js ls)

  pub more_items : json.Items → List Lexeme → List Lexeme
  more_items json.no_items ls = ls
  more_items (json.item j js) ls = comma ∷ onto j (more_items js ls)

  pub first_member : json.Members → List Lexeme → List Lexeme
  first_member json.no_members ls = ls
  first_member (json.member name j ms) ls = token (token.string name) ∷ colon ∷ onto j (more_members ms ls)

  pub more_members : json.Members → List Lexeme → List Lexeme
  more_members json.no_members ls = ls
  more_members (json.member name j ms) ls = comma ∷ token (token.string name) ∷ colon ∷ onto j (more_members ms ls)

-- ---- they are punctuated as the grammar asks

items_no_colon : (js : json.Items) (ls : List Lexeme) → begins_colon (more_items js (token token.end_array ∷ ls)) ≡ false
items_no_colon json.no_items ls = refl
items_no_colon (json.item j js) ls = refl

members_no_colon : (ms : json.Members) (ls : List Lexeme) → begins_colon (more_members ms (token token.end_object ∷ ls)) ≡ false
members_no_colon json.no_members ls = refl
members_no_colon (json.member name j ms) ls = refl

both : (t s j js r : List Token) → t ≡ j ++ s → s ≡ js ++ r → t ≡ (j ++ js) ++ r
both t s j js r e f = e ∙ ap (λ ts. j ++ ts) f ∙ sym (append_assoc j js r)

abbrev place : Bool → Place
place later = cond later after_comma fresh

mutual
  unfolding punctuate

  punctuated : (later : Bool) (j : json.Json) (ls : List Lexeme) → begins_colon ls ≡ false
      → punctuate (place later) (onto j ls) ≡ json_tokens j ++ punctuate after_value ls
  punctuated true json.null ls h = refl
  punctuated false json.null ls h = refl
  punctuated true (json.boolean b) ls h = refl
  punctuated false (json.boolean b) ls h = refl
  punctuated true (json.number s) ls h = refl
  punctuated false (json.number s) ls h = refl
  punctuated true (json.string s) ls h = rw h refl
  punctuated false (json.string s) ls h = rw h refl
  punctuated true (json.array js) ls h = ap (λ ts. token.begin_array ∷ ts) (first_item_punctuated js ls h)
  punctuated false (json.array js) ls h = ap (λ ts. token.begin_array ∷ ts) (first_item_punctuated js ls h)
  punctuated true (json.object ms) ls h = ap (λ ts. token.begin_object ∷ ts) (first_member_punctuated ms ls h)
  punctuated false (json.object ms) ls h = ap (λ ts. token.begin_object ∷ ts) (first_member_punctuated ms ls h)

  first_item_punctuated : (js : json.Items) (ls : List Lexeme) → begins_colon ls ≡ false
      → punctuate fresh (first_item js (token token.end_array ∷ ls)) ≡ items_tokens js ++ punctuate after_value ls
  first_item_punctuated json.no_items ls h = refl
  first_item_punctuated (json.item j js) ls h =
      both _ _ (json_tokens j) (items_tokens js) _
      (punctuated false j (more_items js (token token.end_array ∷ ls)) (items_no_colon js ls)) (more_items_punctuated js ls h)

  more_items_punctuated : (js : json.Items) (ls : List Lexeme) → begins_colon ls ≡ false
      → punctuate after_value (more_items js (token token.end_array ∷ ls)) ≡ items_tokens js ++ punctuate after_value ls
  more_items_punctuated json.no_items ls h = refl
  more_items_punctuated (json.item j js) ls h =
      both _ _ (json_tokens j) (items_tokens js) _
      (punctuated true j (more_items js (token token.end_array ∷ ls)) (items_no_colon js ls)) (more_items_punctuated js ls h)

  first_member_punctuated : (ms : json.Members) (ls : List Lexeme) → begins_colon ls ≡ false
      → punctuate fresh (first_member ms (token token.end_object ∷ ls)) ≡ members_tokens ms ++ punctuate after_value ls
  first_member_punctuated json.no_members ls h = refl
  first_member_punctuated (json.member name j ms) ls h =
      ap (λ ts. token.key name ∷ ts)
      (both _ _ (json_tokens j) (members_tokens ms) _
      (punctuated false j (more_members ms (token token.end_object ∷ ls)) (members_no_colon ms ls)) (more_members_punctuated ms ls h))

  more_members_punctuated : (ms : json.Members) (ls : List Lexeme) → begins_colon ls ≡ false
      → punctuate after_value (more_members ms (token token.end_object ∷ ls)) ≡ members_tokens ms ++ punctuate after_value ls
  more_members_punctuated json.no_members ls h = refl
  more_members_punctuated (json.member name j ms) ls h =
      ap (λ ts. token.key name ∷ ts)
      (both _ _ (json_tokens j) (members_tokens ms) _
      (punctuated false j (more_members ms (token token.end_object ∷ ls)) (members_no_colon ms ls)) (more_members_punctuated ms ls h))

-- ---- the whole text

pub document_read : (text : List ℕ) (j : json.Json) → depth j ≤ max_depth → lex between text ≡ onto j []
    → json.document text ≡ Some j
unfolding punctuate
document_read text j shallow read =
    let ts : tokens text ≡ json_tokens j ++ [] = ap (punctuate fresh) read ∙ punctuated false j [] refl in
    ap (λ l. option_and_then (λ p. if_last p.0 p.1) (value max_depth l)) ts
    ∙ ap (option_and_then (λ p. if_last p.0 p.1)) (value-json_tokens j max_depth [] shallow)
