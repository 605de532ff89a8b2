use mathlib.Core.Path.{transport}
use Rattle.std.proofs.Common.{[], sym}
use Rattle.formulas.proofs.Substituting.{truth_replaced}
use Rattle.formulas.proofs.laws.truth_of_replacement.Goals as goal

pub returns : goal.returns
returns c a x inserted state environment h =
    let same = truth_replaced a x inserted state [] environment h in
    (transport same, transport (sym same))
