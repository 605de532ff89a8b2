use Rattle.std.proofs.Common.{Some}
use Rattle.type_checker.specs.declared.hashed.Node.{Node}
use Rattle.type_checker.proofs.Linked.{found, kept_after, number_after, linked_after}
use Rattle.type_checker.proofs.interner.Interner.put.Goals as goal

pub returns-in-Some-clause-number : goal.returns-in-Some-clause-number
returns-in-Some-clause-number c =
    let q : Node = record { formula = c.args.a; left = c.args.left; right = c.args.right } in
    found c.args.self.now c.self.inside.table.entries c.self.view_is c.self.invariant q c.requires.parts (Some c.in-Some.number) c.in-Some.ensures.index

pub invariant_of-self-2 : goal.invariant_of-self-2
invariant_of-self-2 c =
    let q : Node = record { formula = c.args.a; left = c.args.left; right = c.args.right } in
    linked_after q c.extent_of-extent.result c.self.inside.table.entries c.insert_full.new.self.entries c.in_default.ensures.index c.in_ok-number.ensures.entries
    c.args.self.now c.self.view_is c.self.invariant (c.requires.parts, c.extent_of-extent.ensures.nodes, c.extent_of-extent.ensures.levels)

pub returns-clause-number : goal.returns-clause-number
returns-clause-number c =
    let q : Node = record { formula = c.args.a; left = c.args.left; right = c.args.right } in
    number_after q c.extent_of-extent.result c.self.inside.table.entries c.insert_full.new.self.entries c.in_default.ensures.index c.in_ok-number.ensures.entries
    c.in_ok-number.number c.in_ok-number.ensures.index

pub returns-clause-kept : goal.returns-clause-kept
returns-clause-kept c =
    let q : Node = record { formula = c.args.a; left = c.args.left; right = c.args.right } in
    kept_after q c.extent_of-extent.result c.self.inside.table.entries c.insert_full.new.self.entries c.in_default.ensures.index c.in_ok-number.ensures.entries
    c.args.self.now c.self.view_is
