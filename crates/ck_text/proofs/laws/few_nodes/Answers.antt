use Rattle.ck_text.proofs.Nodes.{term_nodes, formula_nodes}
use Rattle.ck_text.proofs.laws.few_nodes.Goals as goal

pub returns-clause-term : goal.returns-clause-term
returns-clause-term c = term_nodes

pub returns-clause-formula : goal.returns-clause-formula
returns-clause-formula c = formula_nodes
