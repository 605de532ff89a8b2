use Rattle.std.proofs.Common.{◌≡◌, ℕ, ◌+◌, true, List, ◌∷◌, Ok, ap, subst, arith}
use Rattle.ck_base.specs.declared.decl.Decl.{Decl}
use Rattle.ck_base.specs.declared.decl.Sort.{Sort}
use Rattle.sorted_terms.specs.Variables.{sorts_in}
use Rattle.formulas.specs.Tree.{FormulaTree, joined, or_else, quantified, there_is}
use Rattle.formulas.specs.Sorts.{fits}
use Rattle.formulas.specs.Context.{raised}
use Rattle.proof_terms.specs.Tree.{ProofTree, proof_tree}
use Rattle.proof_terms.specs.declared.proof.Proof.{Proof}
use Rattle.type_checker.specs.Found.{found_tree}
use Rattle.type_checker.specs.Place.{proof_nodes, is_assumable, AreAssumable}
use Rattle.type_checker.specs.Scope.{hypotheses_under}
use Rattle.type_checker.specs.Walk.{walked}
use Rattle.type_checker.proofs.Exact.{walked_assumable}
use Rattle.type_checker.proofs.Sorted.{assumable_fits, left_assumable, right_assumable, body_assumable, raised_assumable}
use Rattle.type_checker.proofs.walk.+walk.Goals as goal

-- what a walk found fits and is well-sorted, and so do its parts
module _ (names : List Decl) (variables : List Sort) (hypotheses : List FormulaTree) (p : ProofTree) (n : ℕ) (f : FormulaTree) (m : ℕ) (assumed : AreAssumable names variables hypotheses) (is : walked names variables hypotheses p n ≡ Ok (f, m)) where
  good : is_assumable names variables f ≡ true
  good = walked_assumable names variables hypotheses p n f m assumed is

  fitting : fits f ≡ true
  fitting = assumable_fits names variables f good

  left : (a b : FormulaTree) → f ≡ joined or_else a b → is_assumable names variables a ≡ true
  left a b e = left_assumable names variables or_else a b (subst (λ x. is_assumable names variables x ≡ true) e good)

  right : (a b : FormulaTree) → f ≡ joined or_else a b → is_assumable names variables b ≡ true
  right a b e = right_assumable names variables or_else a b (subst (λ x. is_assumable names variables x ≡ true) e good)

  under : (s : Sort) (a : FormulaTree) → f ≡ quantified there_is s a → AreAssumable names (s ∷ variables) (a ∷ raised hypotheses)
  under s a e = (body_assumable names variables there_is s a (subst (λ x. is_assumable names variables x ≡ true) e good), raised_assumable names s variables hypotheses assumed)

abbrev nodes : Proof → ℕ
nodes p = proof_nodes (proof_tree p)

pub walk-requires-in-Gen : goal.walk-requires-in-Gen
walk-requires-in-Gen t c =
    let whole : nodes c.args.p.now ≡ 1 + nodes c.in-Gen.part.value = ap nodes c.in-Gen.is in
    let part : nodes c.deref-in-Gen.result.now ≡ nodes c.in-Gen.part.value = ap nodes c.deref-in-Gen.ensures in (
      omega (arith, c.decreases, whole, part),
      (
        raised_assumable c.args.decls.now c.in-Gen.sort (sorts_in c.args.variables.now) (hypotheses_under c.args.interner.now c.args.scope.now) c.requires.assumed,
        (
          omega (arith, c.requires.over),
          (
            omega (arith, whole, part, c.requires.few),
            omega (arith, whole, part, c.requires.numbers),
          ),
        ),
      ),
    )

pub walk-requires-in-Cases-2 : goal.walk-requires-in-Cases-2
walk-requires-in-Cases-2 t c =
    let whole : nodes c.args.p.now ≡ 1 + nodes c.in-Cases.part.value + nodes c.in-Cases.left.value + nodes c.in-Cases.right.value = ap nodes c.in-Cases.is in
    let part : nodes c.deref-in-Cases.result.now ≡ nodes c.in-Cases.part.value = ap nodes c.deref-in-Cases.ensures in
    let next : nodes c.deref-in-Cases-2.result.now ≡ nodes c.in-Cases.left.value = ap nodes c.deref-in-Cases-2.ensures in (
      omega (arith, c.decreases, whole, next),
      (
        (
          left c.args.decls.now (sorts_in c.args.variables.now) (hypotheses_under c.args.interner.now c.args.scope.now) (proof_tree c.deref-in-Cases.result.now) c.args.n (found_tree c.args.interner.now c.in_ok-f-in-Cases.f) c.in_ok-f-in-Cases.n c.requires.assumed c.in_ok-f-in-Cases.ensures.gives
              (found_tree c.args.interner.now c.in-Some.a) (found_tree c.args.interner.now c.in-Some.b) c.in-Some.ensures.some,
          c.requires.assumed,
        ),
        (
          c.requires.over,
          (
            omega (arith, whole, next, c.requires.few),
            omega (arith, whole, part, next, c.in_ok-f-in-Cases.ensures.next, c.requires.numbers),
          ),
        ),
      ),
    )

pub walk-requires-in-Cases-3 : goal.walk-requires-in-Cases-3
walk-requires-in-Cases-3 t c =
    let whole : nodes c.args.p.now ≡ 1 + nodes c.in-Cases.part.value + nodes c.in-Cases.left.value + nodes c.in-Cases.right.value = ap nodes c.in-Cases.is in
    let part : nodes c.deref-in-Cases.result.now ≡ nodes c.in-Cases.part.value = ap nodes c.deref-in-Cases.ensures in
    let next : nodes c.deref-in-Cases-2.result.now ≡ nodes c.in-Cases.left.value = ap nodes c.deref-in-Cases-2.ensures in
    let last : nodes c.deref-in-Cases-3.result.now ≡ nodes c.in-Cases.right.value = ap nodes c.deref-in-Cases-3.ensures in (
      omega (arith, c.decreases, whole, last),
      (
        (
          right c.args.decls.now (sorts_in c.args.variables.now) (hypotheses_under c.args.interner.now c.args.scope.now) (proof_tree c.deref-in-Cases.result.now) c.args.n (found_tree c.args.interner.now c.in_ok-f-in-Cases.f) c.in_ok-f-in-Cases.n c.requires.assumed c.in_ok-f-in-Cases.ensures.gives
              (found_tree c.args.interner.now c.in-Some.a) (found_tree c.args.interner.now c.in-Some.b) c.in-Some.ensures.some,
          c.requires.assumed,
        ),
        (
          c.requires.over,
          (
            omega (arith, whole, last, c.requires.few),
            omega (arith, whole, part, next, last, c.in_ok-f-in-Cases.ensures.next, c.in_ok-c-in-Cases.ensures.next, c.requires.numbers),
          ),
        ),
      ),
    )

pub cases-requires-clause-fitting : goal.cases-requires-clause-fitting
cases-requires-clause-fitting t c =
    let assumed =
    left c.args.decls.now (sorts_in c.args.variables.now) (hypotheses_under c.args.interner.now c.args.scope.now) (proof_tree c.deref-in-Cases.result.now) c.args.n (found_tree c.args.interner.now c.in_ok-f-in-Cases.f) c.in_ok-f-in-Cases.n c.requires.assumed c.in_ok-f-in-Cases.ensures.gives
    (found_tree c.args.interner.now c.in-Some.a) (found_tree c.args.interner.now c.in-Some.b) c.in-Some.ensures.some in
    fitting c.args.decls.now (sorts_in c.args.variables.now) (found_tree c.args.interner.now c.in-Some.a ∷ hypotheses_under c.args.interner.now c.args.scope.now) (proof_tree c.deref-in-Cases-2.result.now) c.in_ok-f-in-Cases.n (found_tree c.args.interner.now c.in_ok-c-in-Cases.c) c.in_ok-c-in-Cases.n (assumed, c.requires.assumed)
    c.in_ok-c-in-Cases.ensures.gives

pub walk-requires-in-Unpack-2 : goal.walk-requires-in-Unpack-2
walk-requires-in-Unpack-2 t c =
    let whole : nodes c.args.p.now ≡ 1 + nodes c.in-Unpack.part.value + nodes c.in-Unpack.rest.value = ap nodes c.in-Unpack.is in
    let part : nodes c.deref-in-Unpack.result.now ≡ nodes c.in-Unpack.part.value = ap nodes c.deref-in-Unpack.ensures in
    let next : nodes c.deref-in-Unpack-2.result.now ≡ nodes c.in-Unpack.rest.value = ap nodes c.deref-in-Unpack-2.ensures in (
      omega (arith, c.decreases, whole, next),
      (
        under c.args.decls.now (sorts_in c.args.variables.now) (hypotheses_under c.args.interner.now c.args.scope.now) (proof_tree c.deref-in-Unpack.result.now) c.args.n (found_tree c.args.interner.now c.in_ok-f-in-Unpack.f) c.in_ok-f-in-Unpack.n c.requires.assumed c.in_ok-f-in-Unpack.ensures.gives
            c.in-Some-body.sort (found_tree c.args.interner.now c.in-Some-body.a) c.in-Some-body.ensures.some,
        (
          omega (arith, c.requires.over),
          (
            omega (arith, whole, next, c.requires.few),
            omega (arith, whole, part, next, c.in_ok-f-in-Unpack.ensures.next, c.requires.numbers),
          ),
        ),
      ),
    )

pub unpacked-requires-clause-fitting : goal.unpacked-requires-clause-fitting
unpacked-requires-clause-fitting t c =
    let assumed =
    under c.args.decls.now (sorts_in c.args.variables.now) (hypotheses_under c.args.interner.now c.args.scope.now) (proof_tree c.deref-in-Unpack.result.now) c.args.n (found_tree c.args.interner.now c.in_ok-f-in-Unpack.f) c.in_ok-f-in-Unpack.n c.requires.assumed c.in_ok-f-in-Unpack.ensures.gives
    c.in-Some-body.sort (found_tree c.args.interner.now c.in-Some-body.a) c.in-Some-body.ensures.some in
    fitting c.args.decls.now (c.in-Some-body.sort ∷ sorts_in c.args.variables.now) (found_tree c.args.interner.now c.in-Some-body.a ∷ raised (hypotheses_under c.args.interner.now c.args.scope.now)) (proof_tree c.deref-in-Unpack-2.result.now) c.in_ok-f-in-Unpack.n (found_tree c.args.interner.now c.in_ok-c-in-Unpack.c) c.in_ok-c-in-Unpack.n assumed
    c.in_ok-c-in-Unpack.ensures.gives
