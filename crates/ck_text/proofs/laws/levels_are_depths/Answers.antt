use Rattle.ck_text.proofs.Depths.{term_levels_are, formula_levels_are}
use Rattle.ck_text.proofs.laws.levels_are_depths.Goals as goal

pub returns-clause-term : goal.returns-clause-term
returns-clause-term c = term_levels_are

pub returns-clause-formula : goal.returns-clause-formula
returns-clause-formula c = formula_levels_are
