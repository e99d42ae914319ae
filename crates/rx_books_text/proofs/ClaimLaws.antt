-- A claim line is read as what its spelling says.
use Rattle.std.proofs.Common.{◌≡◌, ℕ, Bool, true, false, cond, List, Some, None, refl, ap, subst, ◌∙◌}
use Rattle.std.specs.Option.{option_map}
use Rattle.rx_fields.specs.Digits.{digits_text}
use Rattle.rx_d0_values.specs.declared.pricing.Amounts.{Amounts}
use Rattle.rx_d0_values.specs.Priced.{is_priced}
use Rattle.rx_ledger.specs.declared.member.MemberKey.{MemberKey}
use Rattle.rx_ledger.specs.declared.row.Row.{Row}
use Rattle.rx_ledger.specs.Rows.{row_of}
use Rattle.rx_books_text.specs.declared.claim_line.Dispensed.{Dispensed}
use Rattle.rx_books_text.specs.declared.version.Version.{Version}
use Rattle.rx_books_text.specs.declared.version.Version.TheVariants.{One, Two, Three}
use Rattle.rx_books_text.specs.LineFits.{IsClaimLine}
use Rattle.rx_text.specs.Options.{◌>>=◌}
use Rattle.rx_books_text.specs.LineReading.{authorization_in, member_key_at, key_at, dispensed_at, amounts_at, claim_in}
use Rattle.rx_books_text.specs.LineText.{joined, claim_fields}
use Rattle.rx_text.proofs.Steps.{bind_some, some_same}
use Rattle.rx_books_text.proofs.NumberLaws.{authorization_takes, authorization_again}
use Rattle.rx_books_text.proofs.MemberLaws.{member_key_text, member_key_at_takes, member_key_at_again}
use Rattle.rx_books_text.proofs.ClaimParts.{key_text, key_at_takes, key_at_again, dispensed_text, dispensed_at_takes}
use Rattle.rx_books_text.proofs.ClaimParts.{dispensed_at_again, amounts_text, amounts_takes, amounts_again}

abbrev pub claim_text : Version → Row → List ℕ
claim_text v r =
    key_text r.key (member_key_text (record { family = r.family; person = r.person })
    (dispensed_text (record { product = r.product; quantity = r.quantity; days = r.days })
    (amounts_text v r.pricing (digits_text 15 r.number))))

pub claim_text_is : (v : Version) (r : Row) → claim_text v r ≡ joined (claim_fields v r)
claim_text_is One r = refl
claim_text_is Two r = refl
claim_text_is Three r = refl

pub mapped : {A B : Type 0} (f : A → B) (b : Bool) (a : A) (y : B) → option_map f (cond b (Some a) None) ≡ Some y
    → (b ≡ true) × (f a ≡ y)
mapped f true a y e = (refl, some_same e)
mapped f false a y e = absurd cc

pub claim_takes : (v : Version) (bs : List ℕ) (r : Row) → claim_in v bs ≡ Some r
    → (bs ≡ joined (claim_fields v r)) × IsClaimLine v r
unfolding claim_in
claim_takes v bs r e =
    let key' = bind_some (key_at bs)
    (λ key. member_key_at key.1 >>= λ member. dispensed_at member.1 >>= λ what. amounts_at v what.1 >>=
    λ amounts. authorization_in amounts.1 >>= λ number. row_of key.0 member.0.family member.0.person what.0.product what.0.quantity
    what.0.days amounts.0 number) r e in
    let member' = bind_some (member_key_at key'.0.1)
    (λ member. dispensed_at member.1 >>= λ what. amounts_at v what.1 >>= λ amounts. authorization_in amounts.1 >>=
    λ number. row_of key'.0.0 member.0.family member.0.person what.0.product what.0.quantity what.0.days amounts.0 number) r key'.2 in
    let what' = bind_some (dispensed_at member'.0.1)
    (λ what. amounts_at v what.1 >>= λ amounts. authorization_in amounts.1 >>=
    λ number. row_of key'.0.0 member'.0.0.family member'.0.0.person what.0.product what.0.quantity what.0.days amounts.0 number)
    r member'.2 in
    let amounts' = bind_some (amounts_at v what'.0.1)
    (λ amounts. authorization_in amounts.1 >>= λ number. row_of key'.0.0 member'.0.0.family member'.0.0.person what'.0.0.product
    what'.0.0.quantity what'.0.0.days amounts.0 number) r what'.2 in
    let number' = bind_some (authorization_in amounts'.0.1)
    (λ number. row_of key'.0.0 member'.0.0.family member'.0.0.person what'.0.0.product what'.0.0.quantity what'.0.0.days amounts'.0.0
    number) r amounts'.2 in
    let k = key_at_takes bs key'.0 key'.1 in
    let m = member_key_at_takes key'.0.1 member'.0 member'.1 in
    let w = dispensed_at_takes member'.0.1 what'.0 what'.1 in
    let a = amounts_takes v what'.0.1 amounts'.0 amounts'.1 in
    let n = authorization_takes amounts'.0.1 number'.0 number'.1 in
    let made : Row =
    record {
      key = key'.0.0;
      family = member'.0.0.family;
      person = member'.0.0.person;
      product = what'.0.0.product;
      quantity = what'.0.0.quantity;
      days = what'.0.0.days;
      pricing = amounts'.0.0;
      number = number'.0;
    } in
    let row = mapped (λ (p : Amounts). record made { pricing = p }) (is_priced amounts'.0.0) amounts'.0.0 r number'.2 in
    let text : bs ≡ claim_text v made =
    k.0 ∙ ap (key_text key'.0.0) (m.0 ∙ ap (member_key_text member'.0.0) (w.0 ∙ ap (dispensed_text what'.0.0)
    (a.0 ∙ ap (amounts_text v amounts'.0.0) n.0))) in
    subst (λ (s : Row). (bs ≡ joined (claim_fields v s)) × IsClaimLine v s) row.1 (
      text ∙ claim_text_is v made,
      record {
        provider = k.1.provider;
        reference = k.1.reference;
        date = k.1.date;
        family = m.1.0;
        person = m.1.1;
        product = w.1.product;
        quantity = w.1.quantity;
        days = w.1.days;
        pricing = row.0;
        coinsurance = a.1;
        number = n.1;
      },
    )

pub claim_again : (v : Version) (r : Row) → IsClaimLine v r → claim_in v (joined (claim_fields v r)) ≡ Some r
unfolding claim_in
claim_again v r is =
    let number = digits_text 15 r.number in
    let amounts = amounts_text v r.pricing number in
    let w : Dispensed = record { product = r.product; quantity = r.quantity; days = r.days } in
    let m : MemberKey = record { family = r.family; person = r.person } in
    rw (
      ← claim_text_is v r,
      key_at_again r.key (member_key_text m (dispensed_text w amounts))
          (record { provider = is.provider; reference = is.reference; date = is.date }),
      member_key_at_again m (dispensed_text w amounts) is.family is.person,
      dispensed_at_again w amounts (record { product = is.product; quantity = is.quantity; days = is.days }),
      amounts_again v r.pricing number is.coinsurance is.pricing,
      authorization_again r.number is.number,
      is.pricing,
    ) refl
