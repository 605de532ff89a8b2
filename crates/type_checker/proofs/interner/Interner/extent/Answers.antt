use Rattle.std.proofs.Common.{ap, sym}
use Rattle.formulas.specs.Sorts.{size, depth}
use Rattle.type_checker.proofs.Linked.{extent_read, bottom_read}
use Rattle.type_checker.proofs.interner.Interner.extent.Goals as goal

pub returns-in-Some-clause-nodes : goal.returns-in-Some-clause-nodes
returns-in-Some-clause-nodes c =
    (extent_read c.args.self.now c.self.inside.table.entries c.args.number c.self.view_is (c.in-Some.field-0-0.now, c.in-Some.extent.now) c.self.invariant (sym c.in-Some.ensures.entry)).0

pub returns-in-Some-clause-levels : goal.returns-in-Some-clause-levels
returns-in-Some-clause-levels c =
    (extent_read c.args.self.now c.self.inside.table.entries c.args.number c.self.view_is (c.in-Some.field-0-0.now, c.in-Some.extent.now) c.self.invariant (sym c.in-Some.ensures.entry)).1

pub returns-in-None-clause-nodes : goal.returns-in-None-clause-nodes
returns-in-None-clause-nodes c =
    sym (ap size (bottom_read c.args.self.now c.self.inside.table.entries c.args.number c.self.view_is (sym c.in-None.ensures.entry)))

pub returns-in-None-clause-levels : goal.returns-in-None-clause-levels
returns-in-None-clause-levels c =
    sym (ap depth (bottom_read c.args.self.now c.self.inside.table.entries c.args.number c.self.view_is (sym c.in-None.ensures.entry)))
