use Rattle.rx_tests.proofs.shelf.closed.Goals as goal

pub close-requires : goal.close-requires
close-requires g c = λ _. (c.agrees.ensures.0 c.if-not-agrees.false).1
