use Rattle.std.proofs.Common.{◌<◌, ◌≤◌, get_or, arith, rules}
use Rattle.fields.proofs.Values.{digit_step, digit_low, digit_high, digits_end, small, ten_more}
use Rattle.fields.proofs.reading.digits.Goals as goal

pub overflow_mul-value : goal.overflow_mul-value
overflow_mul-value c = omega (arith, small c.loop-d.value c.loop-d.d-index)

pub overflow_add-value : goal.overflow_add-value
overflow_add-value c = omega (arith, small c.loop-d.value c.loop-d.d-index)

pub returns-in_default : goal.returns-in_default
returns-in_default c = search (rules, digit_low)

pub returns-in_default-2 : goal.returns-in_default-2
returns-in_default-2 c = search (rules, digit_high)

pub loop-d-preserved : goal.loop-d-preserved
loop-d-preserved c =
    let v = c.loop-d.value in
    let i = c.loop-d.d-index in
    let d = c.from.result in
    let low : 48 ≤ get_or c.args.bytes.now i 0 = search rules in
    let high : get_or c.args.bytes.now i 0 < 58 = search rules in
    let step = digit_step v c.args.bytes.now i c.loop-d-test.true low high in
    (cc, ten_more v i d c.loop-d.invariant.1 (omega arith))

pub returns : goal.returns
returns c = search (rules, digits_end)
