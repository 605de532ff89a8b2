use Rattle.ck_text.proofs.Returning.{term_reads_back, formula_reads_back}
use Rattle.ck_text.proofs.laws.reads_back.Goals as goal

pub returns-clause-term : goal.returns-clause-term
returns-clause-term c = term_reads_back

pub returns-clause-formula : goal.returns-clause-formula
returns-clause-formula c = formula_reads_back
