use Rattle.std.proofs.lemmas.Result.{err_from_is_err_and}
use Rattle.std.proofs.Common.{sym, subst}
use Rattle.proof_terms.specs.Tree.{proof_tree}
use Rattle.formulas.specs.Context.{variables_of, hypotheses_of}
use Rattle.type_checker.specs.Found.{found_tree}
use Rattle.type_checker.specs.Typing.{Has}
use Rattle.type_checker.proofs.Exact.{has}
use Rattle.type_checker.proofs.Answered.{none_from, place_from}
use Rattle.type_checker.proofs.typing.type_of.Goals as goal

pub returns-in_err-found-clause-none : goal.returns-in_err-found-clause-none
returns-in_err-found-clause-none c =
    let p = err_from_is_err_and c.from_residual-in_err-found.result c.from_residual-in_err-found.ensures.1 in
    none_from c.in_ok-interner.interner c.args.decls.now (variables_of c.args.context.now) (hypotheses_of c.args.context.now) (proof_tree c.args.p.now) c.from_residual-in_err-found.result p.0 c.in_err-found.field-0.0 p.1 p.2 c.in_err-found.ensures.gives

pub returns-in_err-found-clause-place : goal.returns-in_err-found-clause-place
returns-in_err-found-clause-place c =
    let p = err_from_is_err_and c.from_residual-in_err-found.result c.from_residual-in_err-found.ensures.1 in
    place_from c.in_ok-interner.interner c.args.decls.now (variables_of c.args.context.now) (hypotheses_of c.args.context.now) (proof_tree c.args.p.now) c.from_residual-in_err-found.result p.0 c.in_err-found.field-0.0 p.1 p.2 c.in_err-found.ensures.gives

pub returns-clause-ok : goal.returns-clause-ok
returns-clause-ok c =
    let given = has c.args.decls.now (variables_of c.args.context.now) (hypotheses_of c.args.context.now) (proof_tree c.args.p.now) 0 (found_tree c.in_ok-interner.interner c.in_ok-found.found) c.in_ok-found.field-0-1 c.in_ok-found.ensures.gives in
    subst (λ a. Has c.args.decls.now (variables_of c.args.context.now) (hypotheses_of c.args.context.now) (proof_tree c.args.p.now) a) (sym c.in_ok-owned.ensures) given.0
