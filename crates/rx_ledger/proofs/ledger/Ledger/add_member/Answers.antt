use Rattle.std.proofs.Common.{◌≡◌, refl, true, Err, sym, ap, ◌∙◌}
use Rattle.std.specs.Prelude.{List}
use Rattle.rx_sorted.specs.Ascending.{put}
use Rattle.rx_sorted.specs.InsertError.{is_there}
use Rattle.rx_ledger.specs.Ledger.{Ledger, IsLedger, is_listed}
use Rattle.rx_ledger.specs.Members.{member_cmp, member_key}
use Rattle.rx_ledger.specs.declared.ledger.AddError.TheVariants as errors
use Rattle.rx_ledger.specs.declared.member.Member.{Member}
use Rattle.rx_ledger.proofs.Ledgers.{IsLedger-with_member}
use Rattle.rx_ledger.proofs.Refusals.{either_way, fails, not_refused, refused_so}
use Rattle.rx_ledger.proofs.ledger.Ledger.add_member.Goals as goal
use Rattle.rx_ledger.proofs.ledger.Ledger.add_member.Goals.{in-Ok, in-Err-There, in-Err-Memory}

pub invariant_of-self : goal.invariant_of-self
invariant_of-self c =
    let L : Ledger = record { members = c.self.inside.members; rows = c.self.inside.rows } in
    let P : List Member → Type 0 = λ members. IsLedger (record { members = members; rows = c.self.inside.rows }) in
    either_way c.insert.result c.insert.new.self (put member_cmp member_key c.self.inside.members c.args.member)
    c.self.inside.members P c.insert.ensures.ok c.insert.ensures.err
    (IsLedger-with_member L c.args.member c.self.invariant) c.self.invariant

pub returns-clause-ok : goal.returns-clause-ok
returns-clause-ok c = elim c.match-insert.branch [
  | in-Ok w ↦ rw w.result-is (rw (w.in-Ok.ensures.ok, ← c.self.view_is) refl)
  | in-Err-There w ↦ rw w.result-is tt
  | in-Err-Memory w ↦ rw w.result-is tt
]

pub returns-clause-there : goal.returns-clause-there
returns-clause-there c =
    let listed = is_listed c.args.self.now c.args.member.key in
    let tells : is_there c.insert.result ≡ listed = rw (← c.self.view_is) c.insert.ensures.there in
    elim c.match-insert.branch [
      | in-Ok w ↦ not_refused c.match-insert.result errors.There (listed ≡ true) (λ h. cc)
          (fails listed (sym tells ∙ ap is_there w.in-Ok.is))
      | in-Err-There w ↦ refused_so c.match-insert.result errors.There (listed ≡ true) w.result-is
          (sym tells ∙ ap is_there (w.in-Err-There.is ∙ ap Err w.in-Err-There.field-0-is))
      | in-Err-Memory w ↦ not_refused c.match-insert.result errors.There (listed ≡ true) (λ h. cc)
          (fails listed (sym tells ∙ ap is_there (w.in-Err-Memory.is ∙ ap Err w.in-Err-Memory.field-0-is)))
    ]
