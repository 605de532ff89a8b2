use Rattle.std.proofs.Common.{sym}
use Rattle.type_checker.proofs.Linked.{parts_read}
use Rattle.type_checker.proofs.interner.Interner.node.Goals as goal

pub returns-clause-parts : goal.returns-clause-parts
returns-clause-parts c =
    parts_read c.args.self.now c.self.inside.table.entries c.args.number c.self.view_is (c.in_ok-node.node.now, c.in_ok-node.field-0-1.now) c.self.invariant (sym c.in_ok-node.ensures.entry)
