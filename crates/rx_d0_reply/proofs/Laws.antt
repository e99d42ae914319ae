-- Readers and texts: what is read is spelled so, and what is spelled so is read again.
use Rattle.std.proofs.Common.{◌≡◌, ℕ, zero, suc, Bool, ◌&&◌, true, false, cond, List, [], ◌∷◌, ◌++◌, length, take}
use Rattle.std.proofs.Common.{drop, Option, Some, None, refl, sym, ap, subst, ◌∙◌, append_assoc}
use Rattle.std.specs.Prelude.{nat_eq}
use Rattle.std.specs.List.{flat_map, AllByRecursion}
use Rattle.std.specs.Cmp.Lexicographic.{pointwise, same_text}
use Rattle.std.proofs.lemmas.Cmp.{nat_list_eq_equiv}
use Rattle.std.proofs.lemmas.List.{take_at, drop_at, take-append-drop}
use Rattle.std.proofs.lemmas.List.Concat.{flat_map-cons}
use Rattle.rx_text.proofs.Steps.{bind_some, chain, guarded, some_same}
use Rattle.rx_text.specs.Options.{◌>>=◌}
use Rattle.rx_d0_reply.specs.Readers.{after, labelled, pair, made, times}

-- ---- the two laws of a reader

-- The reader takes the text of a value that fits, and finds it again before bytes that end it.
pub record Reads {A : Type 0} (read : List ℕ → Option (A × List ℕ)) (text : A → List ℕ) (Fits : A → Type 0)
    (Ends : List ℕ → Type 0) : Type 0 where
  pub takes : (bs : List ℕ) (x : A × List ℕ) → read bs ≡ Some x → (bs ≡ text x.0 ++ x.1) × Fits x.0
  pub again : (v : A) (rest : List ℕ) → Fits v → Ends rest → read (text v ++ rest) ≡ Some (v, rest)

-- any bytes
abbrev pub Always : List ℕ → Type 0
Always rest = Unit {0}

pub after_takes : (text bs rest : List ℕ) → after text bs ≡ Some rest → bs ≡ text ++ rest
unfolding after
after_takes text bs rest e =
    let same = guarded (pointwise nat_eq (take (length text) bs) text) (Some (drop (length text) bs)) rest e in
    sym (take-append-drop (length text) bs)
    ∙ rw (same_text (take (length text) bs) text (sym same.0), some_same same.1) refl

-- one more test before those of two texts
both_again : (same p q : Bool) (x y : List ℕ) (f : List ℕ → Option (List ℕ))
    → cond p (Some x) None ≡ (cond q (Some y) None >>= f)
    → cond (same && p) (Some x) None ≡ (cond (same && q) (Some y) None >>= f)
both_again true p q x y f e = e
both_again false p q x y f e = refl

-- a text and another one after it
pub after_both : (text more bs : List ℕ) → after (text ++ more) bs ≡ (after text bs >>= after more)
unfolding after
after_both [] more bs = refl
after_both (t ∷ ts) more [] = refl
after_both (t ∷ ts) more (b ∷ bs) =
    both_again (nat_eq b t) (pointwise nat_eq (take (length (ts ++ more)) bs) (ts ++ more))
    (pointwise nat_eq (take (length ts) bs) ts) (drop (length (ts ++ more)) bs) (drop (length ts) bs) (after more)
    (after_both ts more bs)

pub after_again : (text rest : List ℕ) → after text (text ++ rest) ≡ Some rest
unfolding after
after_again text rest =
    rw (take_at text rest (length text) refl, drop_at text rest (length text) refl, nat_list_eq_equiv.refl text) refl

pub labelled-reads : {A : Type 0} {read : List ℕ → Option (A × List ℕ)} {text : A → List ℕ} {Fits : A → Type 0}
    {Ends : List ℕ → Type 0}
    (label : List ℕ) → Reads read text Fits Ends → Reads (labelled label read) (λ v. label ++ text v) Fits Ends
labelled-reads {A} {read} {text} {Fits} {Ends} label h = record {
  takes = λ bs x e.
      let a = bind_some (after label bs) read x e in
      let taken = h.takes a.0 x a.2 in (
        after_takes label bs a.0 a.1 ∙
            (ap (λ (t : List ℕ). label ++ t) taken.0 ∙ sym (append_assoc label (text x.0) x.1)),
        taken.1,
      );
  again = λ v rest fits ends.
      ap (labelled label read) (append_assoc label (text v) rest)
      ∙ chain (after label (label ++ (text v ++ rest))) read (text v ++ rest) (after_again label (text v ++ rest))
      (h.again v rest fits ends);
}

pub pair-reads : {A B : Type 0} {first : List ℕ → Option (A × List ℕ)} {second : List ℕ → Option (B × List ℕ)}
    {text_a : A → List ℕ} {text_b : B → List ℕ} {Fits_a : A → Type 0} {Fits_b : B → Type 0} {Ends : List ℕ → Type 0}
    → Reads first text_a Fits_a Always → Reads second text_b Fits_b Ends
    → Reads (pair first second) (λ p. text_a p.0 ++ text_b p.1) (λ p. Fits_a p.0 × Fits_b p.1) Ends
pair-reads {A} {B} {first} {second} {text_a} {text_b} {Fits_a} {Fits_b} {Ends} h k = record {
  takes = λ bs x e.
      let a = bind_some (first bs) (λ a. second a.1 >>= λ b. Some ((a.0, b.0), b.1)) x e in
      let b = bind_some (second a.0.1) (λ b. Some ((a.0.0, b.0), b.1)) x a.2 in
      let one = h.takes bs a.0 a.1 in
      let two = k.takes a.0.1 b.0 b.1 in
      let both : bs ≡ (text_a a.0.0 ++ text_b b.0.0) ++ b.0.1 =
      one.0 ∙ (ap (λ (t : List ℕ). text_a a.0.0 ++ t) two.0 ∙ sym (append_assoc (text_a a.0.0) (text_b b.0.0) b.0.1)) in
      subst (λ (y : (A × B) × List ℕ). (bs ≡ (text_a y.0.0 ++ text_b y.0.1) ++ y.1) ×
      (Fits_a y.0.0 × Fits_b y.0.1)) (some_same b.2)
      (both, (one.1, two.1));
  again = λ v rest fits ends.
      ap (pair first second) (append_assoc (text_a v.0) (text_b v.1) rest)
      ∙ chain (first (text_a v.0 ++ (text_b v.1 ++ rest))) (λ a. second a.1 >>= λ b. Some ((a.0, b.0), b.1))
      (v.0, text_b v.1 ++ rest)
      (h.again v.0 (text_b v.1 ++ rest) fits.0 tt)
      (chain (second (text_b v.1 ++ rest)) (λ b. Some ((v.0, b.0), b.1)) (v.1, rest)
      (k.again v.1 rest fits.1 ends) refl);
}

-- what is made of a value, and the value that it is made of
pub made-reads : {A B : Type 0} {read : List ℕ → Option (A × List ℕ)} {text_a : A → List ℕ} {Fits_a : A → Type 0}
    {Ends : List ℕ → Type 0}
    (make : A → Option B) (back : B → A) (text_b : B → List ℕ) (Fits_b : B → Type 0)
    → Reads read text_a Fits_a Ends
    → ((a : A) (b : B) → Fits_a a → make a ≡ Some b → (text_a a ≡ text_b b) × Fits_b b)
    → ((b : B) → Fits_b b → (make (back b) ≡ Some b) × Fits_a (back b) × (text_b b ≡ text_a (back b)))
    → Reads (made make read) text_b Fits_b Ends
made-reads {A} {B} {read} {text_a} {Fits_a} {Ends} make back text_b Fits_b h forth over = record {
  takes = λ bs x e.
      let a = bind_some (read bs) (λ a. make a.0 >>= λ b. Some (b, a.1)) x e in
      let b = bind_some (make a.0.0) (λ b. Some (b, a.0.1)) x a.2 in
      let taken = h.takes bs a.0 a.1 in
      let is = forth a.0.0 b.0 taken.1 b.1 in
      subst (λ (y : B × List ℕ). (bs ≡ text_b y.0 ++ y.1) × Fits_b y.0) (some_same b.2)
      (taken.0 ∙ ap (λ (t : List ℕ). t ++ a.0.1) is.0, is.1);
  again = λ v rest fits ends.
      let from = over v fits in
      ap (λ (t : List ℕ). made make read (t ++ rest)) from.2
      ∙ chain (read (text_a (back v) ++ rest)) (λ a. make a.0 >>= λ b. Some (b, a.1)) (back v, rest)
      (h.again (back v) rest from.1 ends)
      (chain (make (back v)) (λ b. Some (b, rest)) v from.0 refl);
}

-- the same, where each value makes one
pub shaped-reads : {A B : Type 0} {read : List ℕ → Option (A × List ℕ)} {text_a : A → List ℕ} {Fits_a : A → Type 0}
    {Ends : List ℕ → Type 0} (shape : A → B) (back : B → A) (text_b : B → List ℕ) (Fits_b : B → Type 0)
    → Reads read text_a Fits_a Ends
    → ((a : A) → Fits_a a → (text_a a ≡ text_b (shape a)) × Fits_b (shape a))
    → ((b : B) → Fits_b b → (shape (back b) ≡ b) × Fits_a (back b) × (text_b b ≡ text_a (back b)))
    → Reads (made (λ a. Some (shape a)) read) text_b Fits_b Ends
shaped-reads {A} {B} {read} {text_a} shape back text_b Fits_b h forth over =
    made-reads (λ a. Some (shape a)) back text_b Fits_b h
    (λ a b fits e. subst (λ (x : B). (text_a a ≡ text_b x) × Fits_b x) (some_same e) (forth a fits))
    (λ b fits. let from = over b fits in (ap (λ (x : B). Some x) from.0, from.1, from.2))

-- ---- one value after another

abbrev Taken : {A : Type 0} → (A → List ℕ) → (A → Type 0) → ℕ → List ℕ → List A × List ℕ → Type 0
Taken text Fits n bs x = (bs ≡ flat_map text x.0 ++ x.1) × ((length x.0 ≡ n) × AllByRecursion Fits x.0)

times_takes : {A : Type 0} (read : List ℕ → Option (A × List ℕ)) (text : A → List ℕ) (Fits : A → Type 0)
    (Ends : List ℕ → Type 0)
    → Reads read text Fits Ends → (n : ℕ) (bs : List ℕ) (x : List A × List ℕ) → times read n bs ≡ Some x
    → Taken text Fits n bs x
unfolding times
times_takes {A} read text Fits Ends h zero bs x e = subst (Taken text Fits 0 bs) (some_same e) (refl, (refl, tt))
times_takes {A} read text Fits Ends h (suc n) bs x e =
    let a = bind_some (read bs) (λ a. times read n a.1 >>= λ more. Some (a.0 ∷ more.0, more.1)) x e in
    let b = bind_some (times read n a.0.1) (λ more. Some (a.0.0 ∷ more.0, more.1)) x a.2 in
    let one = h.takes bs a.0 a.1 in
    let more = times_takes read text Fits Ends h n a.0.1 b.0 b.1 in
    let bytes : bs ≡ flat_map text (a.0.0 ∷ b.0.0) ++ b.0.1 =
    one.0 ∙ (ap (λ (t : List ℕ). text a.0.0 ++ t) more.0 ∙ (sym (append_assoc (text a.0.0) (flat_map text b.0.0) b.0.1)
    ∙ ap (λ (t : List ℕ). t ++ b.0.1) (sym (flat_map-cons text a.0.0 b.0.0)))) in
    subst (Taken text Fits (suc n) bs) (some_same b.2) (bytes, (ap (λ (k : ℕ). suc k) more.1.0, (one.1, more.1.1)))

begins : {A : Type 0} (text : A → List ℕ) (Ends : List ℕ → Type 0) → ((v : A) (rest : List ℕ) → Ends (text v ++ rest))
    → (vs : List A) (rest : List ℕ) → Ends rest → Ends (flat_map text vs ++ rest)
begins {A} text Ends next [] rest ends = ends
begins {A} text Ends next (v ∷ vs) rest ends =
    subst Ends (sym (append_assoc (text v) (flat_map text vs) rest)
    ∙ ap (λ (t : List ℕ). t ++ rest) (sym (flat_map-cons text v vs)))
    (next v (flat_map text vs ++ rest))

times_again : {A : Type 0} (read : List ℕ → Option (A × List ℕ)) (text : A → List ℕ) (Fits : A → Type 0)
    (Ends : List ℕ → Type 0)
    → Reads read text Fits Ends → ((v : A) (rest : List ℕ) → Ends (text v ++ rest)) → (vs : List A) (rest : List ℕ)
    → AllByRecursion Fits vs → Ends rest → times read (length vs) (flat_map text vs ++ rest) ≡ Some (vs, rest)
unfolding times
times_again {A} read text Fits Ends h next [] rest fits ends = refl
times_again {A} read text Fits Ends h next (v ∷ vs) rest fits ends =
    let bytes : flat_map text (v ∷ vs) ++ rest ≡ text v ++ (flat_map text vs ++ rest) =
    ap (λ (t : List ℕ). t ++ rest) (flat_map-cons text v vs) ∙ append_assoc (text v) (flat_map text vs) rest in
    let go_on = begins text Ends next vs rest ends in
    ap (times read (suc (length vs))) bytes
    ∙ chain (read (text v ++ (flat_map text vs ++ rest)))
    (λ a. times read (length vs) a.1 >>= λ more. Some (a.0 ∷ more.0, more.1))
    (v, flat_map text vs ++ rest) (h.again v (flat_map text vs ++ rest) fits.0 go_on)
    (chain (times read (length vs) (flat_map text vs ++ rest)) (λ more. Some (v ∷ more.0, more.1)) (vs, rest)
    (times_again read text Fits Ends h next vs rest fits.1 ends) refl)

-- n values, where the text of each ends the one before it
pub times-reads : {A : Type 0} {read : List ℕ → Option (A × List ℕ)} {text : A → List ℕ} {Fits : A → Type 0}
    {Ends : List ℕ → Type 0}
    → Reads read text Fits Ends → ((v : A) (rest : List ℕ) → Ends (text v ++ rest)) → (n : ℕ)
    → Reads (times read n) (flat_map text) (λ vs. (length vs ≡ n) × AllByRecursion Fits vs) Ends
times-reads {A} {read} {text} {Fits} {Ends} h next n = record {
  takes = times_takes read text Fits Ends h n;
  again = λ vs rest fits ends. ap (λ (k : ℕ). times read k (flat_map text vs ++ rest)) (sym fits.0)
      ∙ times_again read text Fits Ends h next vs rest fits.1 ends;
}
