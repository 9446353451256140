use Rattle.std.proofs.Common.{subst}
use Rattle.fancy_syntax.specs.View.{view, views}
use Rattle.backtracking.specs.Across.{IsAcross, IsPolynomial}
use Rattle.backtracking.proofs.sequences.witness_across.Goals as goal

pub returns-in-Polynomial-clause-three : goal.returns-in-Polynomial-clause-three
returns-in-Polynomial-clause-three c =
    let cut = c.args.cut in
    subst (IsAcross c.args.options.unicode (view cut.first.now) (views cut.between.now) (view cut.last.now)) c.in-Polynomial.is
    c.in_ok-witness.ensures.witnessed

pub returns-in-Polynomial-clause-many : goal.returns-in-Polynomial-clause-many
returns-in-Polynomial-clause-many c =
    let cut = c.args.cut in
    subst (IsPolynomial c.args.options.unicode (view cut.first.now) (views cut.between.now) (view cut.last.now)) c.in-Polynomial.is
    c.in_ok-witness.ensures.polynomial
