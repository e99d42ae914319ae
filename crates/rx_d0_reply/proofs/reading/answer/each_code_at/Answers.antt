use Rattle.std.proofs.Common.{◌≡◌, ◌<◌, ℕ, length, take, arith, subst, Some}
use Rattle.std.proofs.lemmas.List.{take_more_set, length-set}
use Rattle.rx_d0_reply.specs.Readers.{times}
use Rattle.rx_d0_reply.specs.Reading.{code_at}
use Rattle.rx_d0_reply.proofs.Loops.{times_goes_on, times_ends, times_is_done}
use Rattle.rx_d0_reply.proofs.reading.answer.each_code_at.Goals as goal

pub returns-in_err-code : goal.returns-in_err-code
returns-in_err-code c =
    let loop = c.loop-place in
    rw c.from_residual.ensures
    (times_ends code_at (take loop.place loop.codes) loop.rest.now c.args.count loop.place c.loop-place-test.true
    c.in_err-code.ensures loop.invariant.so_far)

pub loop-place-preserved : goal.loop-place-preserved
loop-place-preserved c =
    let loop = c.loop-place in
    let within : loop.place < length loop.codes = omega arith in
    record {
      room = omega (arith, length-set loop.codes loop.place c.in_ok-code.code);
      so_far =
          rw (take_more_set loop.codes loop.place c.in_ok-code.code within)
          (times_goes_on code_at (take loop.place loop.codes) loop.rest.now c.in_ok-code.code c.in_ok-code.more.now c.args.count
          loop.place c.loop-place-test.true c.in_ok-code.ensures loop.invariant.so_far);
    }

pub returns : goal.returns
returns c =
    let loop = c.loop-place in
    let all : loop.place ≡ c.args.count = omega arith in
    subst (λ (n : ℕ). Some (take n loop.codes, loop.rest.now) ≡ times code_at c.args.count c.args.bytes.now) all
    (times_is_done code_at (take loop.place loop.codes) loop.rest.now c.args.count loop.place c.loop-place-test.false
    loop.invariant.so_far)
