use Rattle.std.proofs.Common.{true, sym, subst}
use Rattle.ck_base.specs.declared.limits.TheConstants.{NESTING, FORMULA_DEPTH}
use Rattle.ck_text.specs.Texts.{whole_scope}
use Rattle.ck_text.specs.Reading.{of_term, Means}
use Rattle.ck_text.proofs.Sizes.{term_extent}
use Rattle.ck_text.proofs.Reported.{tree_means, syntax_fault, depth_fault, name_fault, the_error}
use Rattle.ck_text.proofs.reading.read_term.Goals as goal

pub returns-in-Ok-clause-means : goal.returns-in-Ok-clause-means
returns-in-Ok-clause-means c =
    subst (λ x. Means NESTING FORMULA_DEPTH true (whole_scope c.args.decls.now c.args.scope.sorts) c.args.text.now (of_term x)) (sym c.as_term.ensures)
    (tree_means true (whole_scope c.args.decls.now c.args.scope.sorts) c.args.text.now c.item.result c.item.ensures c.in-Ok.i c.in-Ok.is)

pub returns-in-Err-clause-syntax : goal.returns-in-Err-clause-syntax
returns-in-Err-clause-syntax c = λ column e. syntax_fault true (whole_scope c.args.decls.now c.args.scope.sorts) c.args.text.now c.item.result c.item.ensures c.in-Err.fault c.in-Err.is column (the_error _ _ e)

pub returns-in-Err-clause-deep : goal.returns-in-Err-clause-deep
returns-in-Err-clause-deep c = λ column e. depth_fault true (whole_scope c.args.decls.now c.args.scope.sorts) c.args.text.now c.item.result c.item.ensures c.in-Err.fault c.in-Err.is column (the_error _ _ e)

pub returns-in-Err-clause-unknown : goal.returns-in-Err-clause-unknown
returns-in-Err-clause-unknown c = λ column e. name_fault true (whole_scope c.args.decls.now c.args.scope.sorts) c.args.text.now c.item.result c.item.ensures c.in-Err.fault c.in-Err.is column (the_error _ _ e)

pub returns-in-Ok-clause-levels : goal.returns-in-Ok-clause-levels
returns-in-Ok-clause-levels c = (term_extent NESTING FORMULA_DEPTH (whole_scope c.args.decls.now c.args.scope.sorts) c.args.text.now _ (subst (λ x. Means NESTING FORMULA_DEPTH true (whole_scope c.args.decls.now c.args.scope.sorts) c.args.text.now (of_term x)) (sym c.as_term.ensures) (tree_means true (whole_scope c.args.decls.now c.args.scope.sorts) c.args.text.now c.item.result c.item.ensures c.in-Ok.i c.in-Ok.is))).1

pub returns-in-Ok-clause-nodes : goal.returns-in-Ok-clause-nodes
returns-in-Ok-clause-nodes c = (term_extent NESTING FORMULA_DEPTH (whole_scope c.args.decls.now c.args.scope.sorts) c.args.text.now _ (subst (λ x. Means NESTING FORMULA_DEPTH true (whole_scope c.args.decls.now c.args.scope.sorts) c.args.text.now (of_term x)) (sym c.as_term.ensures) (tree_means true (whole_scope c.args.decls.now c.args.scope.sorts) c.args.text.now c.item.result c.item.ensures c.in-Ok.i c.in-Ok.is))).0
