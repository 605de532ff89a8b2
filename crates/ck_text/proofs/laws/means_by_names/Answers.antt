use Rattle.ck_text.proofs.Meanings.{term_means, formula_means}
use Rattle.ck_text.proofs.laws.means_by_names.Goals as goal

pub returns-clause-term : goal.returns-clause-term
returns-clause-term c = term_means

pub returns-clause-formula : goal.returns-clause-formula
returns-clause-formula c = formula_means
