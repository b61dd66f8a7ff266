-- The digits stand from the end of what was written on (`decimal_written`).
use Rattle.std.proofs.Common.{arith, refl, ap, length, ◌∙◌}
use Rattle.std.proofs.lemmas.Bool.Decides.{nat_tests}
use Rattle.listing.proofs.Writing.{digits_fit, decimal_written, length_written}
use Rattle.listing.proofs.numbers.Output.put_decimal.Goals as goal

pub overflow_add-end : goal.overflow_add-end
overflow_add-end c = omega (arith, c.requires, c.digit_count.ensures.few)

pub write_digits-requires : goal.write_digits-requires
write_digits-requires c =
    (digits_fit _ c.args.n _ c.ranges.n.fits (omega (arith, c.digit_count.ensures.count)) (grind (arith, nat_tests)), omega (arith, c.requires, c.digit_count.ensures.few))

pub returns : goal.returns
returns c =
    let o = c.args.self.now in
    let d = c.digit_count.ensures in
    let w = c.write_digits.ensures in
    let b = decimal_written o.bytes.now c.write_digits.new.buf _ c.args.n o.len _ c.write_digits.result c.ranges.n.fits (omega (arith, d.count)) (omega (arith, c.requires, d.few)) w.start w.written w.before (grind (arith, nat_tests)) in
    record {
      same = refl;
      bytes = b;
      len = omega (arith, d.count);
      size = ap length b ∙ length_written _ _ _;
      short = omega (arith, d.count, d.few);
    }
