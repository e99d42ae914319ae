-- The response file of a batch is read back as the batch that was answered.
use Rattle.std.proofs.Common.{◌≡◌, ◌<◌, ℕ, suc, ◌+◌, List, [], ◌∷◌, ◌++◌, None, get_or, length, take, refl, sym, ap, ◌∙◌, subst, arith}
use Rattle.std.specs.List.{All, AllByRecursion}
use Rattle.std.specs.Prelude.{IfErr, IfOk, Result, Ok, Err}
use Rattle.std.specs.declared.vec.Vec.{Vec}
use Rattle.std.proofs.lemmas.List.{append-nil, length-take-le, take_more}
use Rattle.std.proofs.lemmas.List.Elements.{All-nil, All-cons, All-head, All-tail}
use Rattle.rx_fields.specs.declared.stamp.Stamp.{Stamp}
use Rattle.rx_batch.specs.declared.detail.Detail.{Detail}
use Rattle.rx_batch.specs.declared.head.Head.{Head}
use Rattle.rx_batch.specs.Grammar.{IsFile, IsInside}
use Rattle.rx_batch.specs.Writing.{IsPlain, file_text}
use Rattle.rx_d0_values.specs.declared.reply.Reply.{Reply}
use Rattle.rx_d0_reply.specs.Limits.{IsReply}
use Rattle.rx_response.specs.Response.{response_detail, response_details, response_head, response_text}
use Rattle.rx_settle.specs.Settlement.{settlement_text}
use Rattle.rx_settle.proofs.Tallied.{one_run}
use Rattle.rx_show.specs.ResponseFile.{as_batch}
use Rattle.rx_commands.specs.declared.cycle.fault.CycleFault.{CycleFault}
use Rattle.rx_commands.specs.declared.cycle.fault.CycleFault.TheVariants as fault
use Rattle.rx_commands.specs.Cycle.{AreTexts, Answered, IsAnswered, IsSettledAs, cycle_text, run_of}
use Rattle.rx_commands.specs.CycleSteps.{IsSent, asked_back}
use Rattle.rx_commands.proofs.CycleInside.{reply_inside}

each_inside : (details : List Detail) (replies : List Reply) → All (λ d. IsInside d.reference) details
    → AllByRecursion IsReply replies → All (λ d. IsInside d.reference × IsInside d.text) (response_details details replies)
each_inside [] replies references within = All-nil (λ (d : Detail). IsInside d.reference × IsInside d.text)
each_inside (d ∷ details) [] references within = All-nil (λ (d : Detail). IsInside d.reference × IsInside d.text)
each_inside (d ∷ details) (r ∷ replies) references within =
    All-cons (λ (x : Detail). IsInside x.reference × IsInside x.text) _ _
    (All-head (λ (x : Detail). IsInside x.reference) d details references, reply_inside r within.0)
    (each_inside details replies (All-tail (λ (x : Detail). IsInside x.reference) d details references) within.1)

-- with the type exchanged the header and the details are plain ones
pub plain_back : (head : Head) (stamp : Stamp) (details : List Detail) (replies : List Reply) → IsSent head details
    → AllByRecursion IsReply replies → IsPlain (asked_back head stamp) (response_details details replies)
plain_back head stamp details replies sent within = record {
  kind = refl;
  sender = sent.receiver;
  receiver = sent.sender;
  each = each_inside details replies sent.references within;
}

texts_back : (details : List Detail) (replies : List Reply) → length details ≡ length replies
    → AllByRecursion IsReply replies → AreTexts (response_details details replies) replies
texts_back [] [] long within = tt
texts_back [] (r ∷ replies) long within = absurd (let never : ⊥ = omega arith in never)
texts_back (d ∷ details) [] long within = absurd (let never : ⊥ = omega arith in never)
texts_back (d ∷ details) (r ∷ replies) long within =
    ((within.0, refl), texts_back details replies (let less : length details ≡ length replies = omega arith in less) within.1)

exchanged_back : (head : Head) (stamp : Stamp) (details : List Detail)
    → as_batch (file_text (response_head head stamp) details) ≡ file_text (asked_back head stamp) details
exchanged_back head stamp details = refl

-- a batch that was answered, as its response file has it
abbrev pub answered : Head → Stamp → List Reply → Answered
answered head stamp replies = record { head = response_head head stamp; replies = replies }

pub is_answered : (head : Head) (stamp : Stamp) (details : List Detail) (replies : List Reply)
    → length details ≡ length replies → AllByRecursion IsReply replies
    → IsFile (file_text (asked_back head stamp) (response_details details replies)) (asked_back head stamp)
    (response_details details replies)
    → IsAnswered (response_text head stamp details replies) (answered head stamp replies)
is_answered head stamp details replies long within file = record {
  details = response_details details replies;
  file = record {
    asked = asked_back head stamp;
    file = subst (λ (bs : List ℕ). IsFile bs (asked_back head stamp) (response_details details replies))
        (sym (exchanged_back head stamp (response_details details replies))) file;
    head_is = refl;
  };
  texts = texts_back details replies long within;
}

-- what it comes to is its settlement
pub settled_alone : (head : Head) (stamp : Stamp) (replies : List Reply)
    → cycle_text None (answered head stamp replies ∷ []) ≡ settlement_text head.lot stamp replies
settled_alone head stamp replies =
    let run = run_of (response_head head stamp) in
    one_run run.lot run.stamp (replies ++ [])
    ∙ ap (settlement_text head.lot stamp) (append-nil replies)

-- ---- one detail more

one_longer : {X : Type 0} (xs : List X) (i : ℕ) (x : X) → i < length xs → x ≡ get_or xs i x
    → take (i + 1) xs ≡ take i xs ++ x ∷ []
one_longer xs i x lt is = take_more xs i x lt ∙ ap (λ z. take i xs ++ z ∷ []) (sym is)

answers_joined : (details : List Detail) (replies : List Reply) (d : Detail) (r : Reply) → length details ≡ length replies
    → response_details (details ++ d ∷ []) (replies ++ r ∷ []) ≡ response_details details replies ++ response_detail d r ∷ []
answers_joined [] [] d r long = refl
answers_joined [] (s ∷ replies) d r long = absurd (let never : ⊥ = omega arith in never)
answers_joined (e ∷ details) [] d r long = absurd (let never : ⊥ = omega arith in never)
answers_joined (e ∷ details) (s ∷ replies) d r long =
    ap (λ ds. response_detail e s ∷ ds)
    (answers_joined details replies d r (let less : length details ≡ length replies = omega arith in less))

within_joined : (replies : List Reply) (r : Reply) → AllByRecursion IsReply replies → IsReply r
    → AllByRecursion IsReply (replies ++ r ∷ [])
within_joined [] r all one = (one, tt)
within_joined (s ∷ replies) r all one = (all.0, within_joined replies r all.1 one)

module _ (details : List Detail) (replies : List Reply) (i : ℕ) (d : Detail) (r : Reply) where
  pub answer_more : (answers new : List Detail) (one : Detail) → i < length details → length details ≡ length replies
      → d ≡ get_or details i d → r ≡ get_or replies i r → answers ≡ response_details (take i details) (take i replies)
      → one ≡ response_detail d r → new ≡ answers ++ one ∷ []
      → new ≡ response_details (take (i + 1) details) (take (i + 1) replies)
  answer_more answers new one lt long d_is r_is so one_is joined =
      let few : i < length replies = omega arith in
      let fronts : length (take i details) ≡ length (take i replies) =
      length-take-le i details (omega arith) ∙ sym (length-take-le i replies (omega arith)) in
      joined ∙ (λ j. so j ++ one_is j ∷ []) ∙ sym (answers_joined (take i details) (take i replies) d r fronts)
      ∙ (λ j. response_details (sym (one_longer details i d lt d_is) j) (sym (one_longer replies i r few r_is) j))

  pub within_more : i < length replies → r ≡ get_or replies i r → AllByRecursion IsReply (take i replies) → IsReply r
      → AllByRecursion IsReply (take (i + 1) replies)
  within_more lt is all one = subst (AllByRecursion IsReply) (sym (one_longer replies i r lt is))
      (within_joined (take i replies) r all one)

-- ---- the law

-- the response file of these replies is read back
pub read_back : (head : Head) (stamp : Stamp) (details : List Detail) (replies : List Reply) (response batch : List ℕ)
    (asked : Head) (answers : List Detail) → IsSent head details → length details ≡ length replies
    → AllByRecursion IsReply replies → asked ≡ asked_back head stamp → answers ≡ response_details details replies
    → batch ≡ file_text asked answers → (IsPlain asked answers → IsFile batch asked answers)
    → response ≡ response_text head stamp details replies → IsAnswered response (answered head stamp replies)
read_back head stamp details replies response batch asked answers sent long within asked_is answers_are batch_is again is =
    let meant : Head = asked_back head stamp in
    let all : List Detail = response_details details replies in
    let by_head = subst (λ (h : Head). IsPlain h answers → IsFile batch h answers) asked_is again in
    let by_details = subst (λ (ds : List Detail). IsPlain meant ds → IsFile batch meant ds) answers_are by_head in
    let text : batch ≡ file_text meant all = batch_is ∙ (λ j. file_text (asked_is j) (answers_are j)) in
    let file = subst (λ (bs : List ℕ). IsFile bs meant all) text (by_details (plain_back head stamp details replies sent within)) in
    subst (λ (bs : List ℕ). IsAnswered bs (answered head stamp replies)) (sym is)
    (is_answered head stamp details replies long within file)

-- what is printed, unless memory ran out
pub settled_ok : {Z : Type 0} (result : Result (Vec ℕ Z) CycleFault) (meant text : List ℕ) → IsSettledAs result meant
    → meant ≡ text → IfOk result (λ t. t.items ≡ text)
settled_ok (Ok t) meant text is same = is ∙ same
settled_ok (Err f) meant text is same = tt

pub settled_err : {Z : Type 0} (result : Result (Vec ℕ Z) CycleFault) (meant : List ℕ) → IsSettledAs result meant
    → IfErr result (λ f. f ≡ fault.Memory)
settled_err (Ok t) meant is = tt
settled_err (Err f) meant is = is

-- there are as many details as before
pub as_many : (details : List Detail) (replies : List Reply) → length details ≡ length replies
    → length (response_details details replies) ≡ length details
as_many [] [] long = refl
as_many [] (s ∷ replies) long = absurd (let never : ⊥ = omega arith in never)
as_many (e ∷ details) [] long = absurd (let never : ⊥ = omega arith in never)
as_many (e ∷ details) (s ∷ replies) long =
    ap (λ n. suc n) (as_many details replies (let less : length details ≡ length replies = omega arith in less))
