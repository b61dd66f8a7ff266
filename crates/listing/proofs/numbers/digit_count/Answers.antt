-- Each arm has the digits of its powers of ten (`length_digits`).
use Rattle.std.proofs.Common.{arith}
use Rattle.listing.proofs.Writing.{length_digits}
use Rattle.listing.proofs.numbers.digit_count.Goals as goal

pub returns-in-0-to-9-clause-count : goal.returns-in-0-to-9-clause-count
returns-in-0-to-9-clause-count c = length_digits 9 0 c.args.n (omega arith) (λ p. omega arith) (omega arith)

pub returns-in-10-to-99-clause-count : goal.returns-in-10-to-99-clause-count
returns-in-10-to-99-clause-count c = length_digits 9 1 c.args.n (omega arith) (λ p. omega arith) (omega arith)

pub returns-in-100-to-999-clause-count : goal.returns-in-100-to-999-clause-count
returns-in-100-to-999-clause-count c = length_digits 9 2 c.args.n (omega arith) (λ p. omega arith) (omega arith)

pub returns-in-1000-to-9999-clause-count : goal.returns-in-1000-to-9999-clause-count
returns-in-1000-to-9999-clause-count c = length_digits 9 3 c.args.n (omega arith) (λ p. omega arith) (omega arith)

pub returns-in-10000-to-99999-clause-count : goal.returns-in-10000-to-99999-clause-count
returns-in-10000-to-99999-clause-count c = length_digits 9 4 c.args.n (omega arith) (λ p. omega arith) (omega arith)

pub returns-in-100000-to-999999-clause-count : goal.returns-in-100000-to-999999-clause-count
returns-in-100000-to-999999-clause-count c = length_digits 9 5 c.args.n (omega arith) (λ p. omega arith) (omega arith)

pub returns-in-1000000-to-9999999-clause-count : goal.returns-in-1000000-to-9999999-clause-count
returns-in-1000000-to-9999999-clause-count c = length_digits 9 6 c.args.n (omega arith) (λ p. omega arith) (omega arith)

pub returns-in-10000000-to-99999999-clause-count : goal.returns-in-10000000-to-99999999-clause-count
returns-in-10000000-to-99999999-clause-count c = length_digits 9 7 c.args.n (omega arith) (λ p. omega arith) (omega arith)

pub returns-in-100000000-to-999999999-clause-count : goal.returns-in-100000000-to-999999999-clause-count
returns-in-100000000-to-999999999-clause-count c = length_digits 9 8 c.args.n (omega arith) (λ p. omega arith) (omega arith)

pub returns-in_default-clause-count : goal.returns-in_default-clause-count
returns-in_default-clause-count c = length_digits 9 9 c.args.n (omega arith) (λ p. omega arith) (omega arith)
