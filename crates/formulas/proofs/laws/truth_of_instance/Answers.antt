use mathlib.Core.Path.{transport}
use Rattle.std.proofs.Common.{[], sym}
use Rattle.formulas.proofs.Substituting.{truth_instance}
use Rattle.formulas.proofs.laws.truth_of_instance.Goals as goal

pub returns : goal.returns
returns c a inserted state environment =
    let same = truth_instance a inserted state [] environment in
    (transport same, transport (sym same))
