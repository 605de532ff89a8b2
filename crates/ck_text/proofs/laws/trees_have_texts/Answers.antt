use Rattle.ck_text.proofs.Fitting.{term_text_is, formula_text_is}
use Rattle.ck_text.proofs.Returning.{term_text_means, formula_text_means}
use Rattle.ck_text.proofs.Sorted.{sorted_term, sorted_formula}
use Rattle.ck_text.proofs.laws.trees_have_texts.Goals as goal

pub returns-clause-sorted_term : goal.returns-clause-sorted_term
returns-clause-sorted_term c = sorted_term

pub returns-clause-sorted_formula : goal.returns-clause-sorted_formula
returns-clause-sorted_formula c = sorted_formula

pub returns-clause-term : goal.returns-clause-term
returns-clause-term c = term_text_is

pub returns-clause-formula : goal.returns-clause-formula
returns-clause-formula c = formula_text_is

pub returns-clause-term_meaning : goal.returns-clause-term_meaning
returns-clause-term_meaning c = term_text_means

pub returns-clause-formula_meaning : goal.returns-clause-formula_meaning
returns-clause-formula_meaning c = formula_text_means
