use Rattle.std.proofs.Common.{ap, ◌∙◌}
use Rattle.ck_base.specs.Names.{number_of}
use Rattle.ck_base.proofs.Declarations.{number_at_key}
use Rattle.ck_base.proofs.decl.Decls.number.Goals as goal

pub returns-in_err-index : goal.returns-in_err-index
returns-in_err-index c = c.from_residual.ensures ∙ c.in_err-index.ensures.index ∙ number_at_key c.args.name.now c.self.inside.table.entries c.self.invariant.0 ∙ ap (number_of c.args.name.now) c.self.view_is

pub returns : goal.returns
returns c = c.in_ok-index.ensures.index ∙ number_at_key c.args.name.now c.self.inside.table.entries c.self.invariant.0 ∙ ap (number_of c.args.name.now) c.self.view_is
