use Rattle.std.proofs.Common.{ap, ◌∙◌}
use Rattle.ck_base.proofs.Declarations.{decls_of, next_rule, next_fresh}
use Rattle.ck_base.proofs.decl.Decls.copy.Goals as goal

pub append-requires-clause-rule : goal.append-requires-clause-rule
append-requires-clause-rule c =
    next_rule c.loop-name.copy _ c.self.inside.table.entries c.self.invariant.1
    (c.loop-name.invariant.3 ∙ ap decls_of (c.into_iter-name-iterator.ensures.into_iter_gives ∙ c.iter-name-items.ensures.rest))
    c.loop-name.invariant.2 _ _ _ c.in-Some.ensures.steps _ c.as_str.ensures.value

pub append-requires-clause-fresh : goal.append-requires-clause-fresh
append-requires-clause-fresh c =
    next_fresh c.loop-name.copy _ c.self.inside.table.entries c.self.invariant.1
    (c.loop-name.invariant.3 ∙ ap decls_of (c.into_iter-name-iterator.ensures.into_iter_gives ∙ c.iter-name-items.ensures.rest))
    c.loop-name.invariant.2 _ _ _ c.in-Some.ensures.steps _ c.as_str.ensures.value
