use Rattle.std.proofs.Common.{◌≡◌, Option, Some, subst, ap, ◌∙◌, MatchOption, sym}
use Rattle.rx_batch.specs.declared.fault.BatchFault.{BatchFault}
use Rattle.rx_batch.specs.Pieces.{Fed, IsRead, IsFaultOf}
use Rattle.rx_batch.proofs.Steps.{fault_here}
use Rattle.rx_batch.proofs.pieces.Pieces.finish.Goals as goal

pub returns-in-Some-clause-value : goal.returns-in-Some-clause-value
returns-in-Some-clause-value c text h =
    let fault : c.args.self.fault ≡ Some c.in-Some.fault = sym (ap (λ (fed : Fed). fed.fault) c.self.view_is) ∙ c.in-Some.is in
    let is : IsFaultOf c.in-Some.fault text =
    subst (λ (o : Option BatchFault). MatchOption o (IsRead c.args.self.reader text) (λ f. IsFaultOf f text)) fault h in
    fault_here c.in-Some.fault text is
