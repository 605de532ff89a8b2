use Rattle.std.proofs.Common.{◌≡◌, ◌++◌, map}
use Rattle.ck_base.specs.Names.{AreKeyed}
use Rattle.ck_base.proofs.decl.Decls.copy.Given as goal

abbrev pub invariant-loop-name : goal.invariant-loop-name
invariant-loop-name l =
    (goal.iterator-loop-name).can_next l.name-iterator ×
    (goal.iterator-loop-name).is_finite l.name-iterator
    × AreKeyed l.name-iterator
    × (l.copy ++ map (λ e. e.1) l.name-iterator ≡ map (λ e. e.1) l.initial.name-iterator)
