use mathlib.Core.Path.{transport}
use Rattle.std.proofs.Common.{sym}
use Rattle.formulas.proofs.Substituting.{truth_shift}
use Rattle.formulas.proofs.laws.truth_of_shift.Goals as goal

pub returns : goal.returns
returns c a state front new back =
    let same = truth_shift a state front new back in
    (transport same, transport (sym same))
