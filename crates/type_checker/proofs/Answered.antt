-- What an answer without a formula tells.
use Rattle.std.proofs.Common.{◌≡◌, List, Result, Err, IfErr}
use Rattle.ck_base.specs.declared.decl.Sort.{Sort}
use Rattle.ck_base.specs.declared.decl.Decl.{Decl}
use Rattle.formulas.specs.Tree.{FormulaTree}
use Rattle.formulas.specs.declared.formula.Formula.{Formula}
use Rattle.proof_terms.specs.Tree.{ProofTree}
use Rattle.type_checker.specs.declared.untyped.Untyped.{Untyped}
use Rattle.type_checker.specs.declared.untyped.Untyped.TheVariants.{At, NoMemory}
use Rattle.type_checker.specs.Gives.{Gives}
use Rattle.type_checker.specs.Place.{IsFirstUntyped, IfAt}
use Rattle.type_checker.specs.Typing.{Has}
use Rattle.type_checker.specs.Walk.{walked}
use Rattle.type_checker.proofs.Exact.{none_at}
use Rattle.type_checker.proofs.Firsts.{place_from_zero}

module _ (formulas : List Formula) (names : List Decl) (variables : List Sort) (hypotheses : List FormulaTree) (p : ProofTree) where
  none_given : (e : Untyped) → Gives formulas (Err e) (walked names variables hypotheses p 0) → IfAt e (λ _. (a : FormulaTree) → Has names variables hypotheses p a → ⊥)
  none_given (At k) g = none_at names variables hypotheses p 0 k g
  none_given NoMemory g = tt

  place_given : (e : Untyped) → Gives formulas (Err e) (walked names variables hypotheses p 0) → IfAt e (IsFirstUntyped names variables hypotheses p)
  place_given (At k) g = place_from_zero names variables hypotheses p k g
  place_given NoMemory g = tt

module _ (formulas : List Formula) (names : List Decl) (variables : List Sort) (hypotheses : List FormulaTree) (p : ProofTree) (result : Result Formula Untyped) (answer e : Untyped)
    (is : result ≡ Err answer) (same : answer ≡ e) (g : Gives formulas (Err e) (walked names variables hypotheses p 0)) where
  pub none_from : IfErr result (λ e. IfAt e (λ _. (a : FormulaTree) → Has names variables hypotheses p a → ⊥))
  none_from = rw (is, same) (none_given formulas names variables hypotheses p e g)

  pub place_from : IfErr result (λ e. IfAt e (IsFirstUntyped names variables hypotheses p))
  place_from = rw (is, same) (place_given formulas names variables hypotheses p e g)
