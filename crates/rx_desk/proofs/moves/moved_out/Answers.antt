use Rattle.std.proofs.Common.{◌≡◌, true, Err, ap, ◌∙◌}
use Rattle.rx_books_parcel.specs.Parcels.{named_in}
use Rattle.rx_books_shelf.specs.Taken.{has_all}
use Rattle.rx_desk.proofs.Shelved.{has_all_named, in_place_of, named_of_taken}
use Rattle.rx_desk.proofs.moves.moved_out.Goals as goal

pub unreachable-requires : goal.unreachable-requires
unreachable-requires c =
    let s = c.args.shelf.now in
    let all : has_all s c.args.footprint.now ≡ true =
    has_all_named s c.args.footprint.now (λ b n. in_place_of s b (c.requires.placed b n) (c.requires.inside b n)) in
    let none = c.take.ensures.absent.0 (c.in-Err-Absent.is ∙ ap Err c.in-Err-Absent.field-0-is) in
    cc

pub returns-in-Ok-clause-ok : goal.returns-in-Ok-clause-ok
returns-in-Ok-clause-ok c =
    let s = c.args.shelf.now in
    record {
      parcel = c.in-Ok.ensures.own;
      named = ap named_in c.in-Ok.ensures.parcel ∙ named_of_taken s c.in-Ok.ensures.within c.args.footprint.now
          (λ b n. in_place_of s b (c.requires.placed b n) (c.requires.inside b n));
      period = ap (λ p. p.period) c.in-Ok.ensures.parcel;
      values = c.in-Ok.ensures.values;
      shelf_period = ap (λ p. p.period) c.in-Ok.ensures.ok;
      beside = ap (λ p. p.rest) c.in-Ok.ensures.ok;
      left = c.in-Ok.ensures.left;
      slots = c.in-Ok.ensures.slots;
      out = c.in-Ok.ensures.out;
    }
