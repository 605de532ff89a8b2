use Rattle.derivation.proofs.Derived.{exports_are_valid}
use Rattle.derivation.proofs.laws.exports_are_valid.Goals as goal

pub returns : goal.returns
returns c = exports_are_valid
