-- Formulas and proofs as they are written: which tree each means, its tokens, and the limits on it.
use Rattle.std.specs.Prelude.{◌≡◌, ℕ, suc, ◌-◌, ◌≤◌, max, nat_lt, Bool, true, false, List, [], ◌∷◌, ◌++◌, Some, None, if◌then◌else◌}
use Rattle.std.specs.declared.option.Option.{Option}
use Rattle.std.specs.Option.{option_map}
use Rattle.sorted_terms.specs.Tree.{boolean}
use Rattle.formulas.specs.Tree.{FormulaTree, bottom, holds, joined, implies, not_so}
use Rattle.formulas.specs.Sorts.{fits}
use Rattle.proof_terms.specs.Tree.{ProofTree, hypothesis, lambda, application}
use Rattle.script_reader.specs.declared.token.Token.{Token}
use Rattle.script_reader.specs.declared.token.Token.TheVariants as token

-- `true` or `false`, `bottom`, a formula in parentheses, `~ a`, and `a => b`
pub data FormulaText : Type 0 where
  truth : (b : Bool) → FormulaText
  falsity : FormulaText
  closed : (a : FormulaText) → FormulaText
  denied : (a : FormulaText) → FormulaText
  implied : (a b : FormulaText) → FormulaText

abbrev pub formula_of : FormulaText → FormulaTree
formula_of (truth b) = holds (boolean b)
formula_of falsity = bottom
formula_of (closed a) = formula_of a
formula_of (denied a) = not_so (formula_of a)
formula_of (implied a b) = joined implies (formula_of a) (formula_of b)

abbrev pub formula_tokens : FormulaText → List Token
formula_tokens (truth true) = token.True ∷ []
formula_tokens (truth false) = token.False ∷ []
formula_tokens falsity = token.Bottom ∷ []
formula_tokens (closed a) = token.Open ∷ (formula_tokens a ++ (token.Close ∷ []))
formula_tokens (denied a) = token.Not ∷ formula_tokens a
formula_tokens (implied a b) = formula_tokens a ++ (token.Implies ∷ formula_tokens b)

-- how tightly a text binds
abbrev pub level : FormulaText → ℕ
level (implied a b) = 0
level (denied a) = 3
level a = 11

-- An implication stands in parentheses on the left of `=>` and behind `~`.
abbrev pub IsGrouped : FormulaText → Type 0
IsGrouped (closed a) = IsGrouped a
IsGrouped (denied a) = (3 ≤ level a) × IsGrouped a
IsGrouped (implied a b) = (1 ≤ level a) × IsGrouped a × IsGrouped b
IsGrouped a = Unit {0}

-- How many levels are open at most: `(`, `~` and `=>` open one around what follows them.
abbrev pub nesting : FormulaText → ℕ
nesting (closed a) = suc (nesting a)
nesting (denied a) = suc (nesting a)
nesting (implied a b) = max (nesting a) (suc (nesting b))
nesting a = 0

-- a formula as it may be written
pub record IsFormula (a : FormulaText) : Type 0 where
  pub grouped : IsGrouped a
  pub nested : nesting a ≤ 512
  pub fitting : fits (formula_of a) ≡ true

-- `#k`, `lam(a, p)` and `app(p, q)`
pub data ProofText : Type 0 where
  numbered : (k : ℕ) → ProofText
  abstraction : (a : FormulaText) (p : ProofText) → ProofText
  applied : (p q : ProofText) → ProofText

abbrev pub proof_tokens : ProofText → List Token
proof_tokens (numbered k) = token.Hash ∷ token.Number k ∷ []
proof_tokens (abstraction a p) = token.Lam ∷ token.Open ∷ (formula_tokens a ++ (token.Comma ∷ (proof_tokens p ++ (token.Close ∷ []))))
proof_tokens (applied p q) = token.App ∷ token.Open ∷ (proof_tokens p ++ (token.Comma ∷ (proof_tokens q ++ (token.Close ∷ []))))

abbrev pub both_applied : Option ProofTree → Option ProofTree → Option ProofTree
both_applied (Some p) (Some q) = Some (application p q)
both_applied p q = None

-- The proof under so many hypotheses: `#k` is the one with number k from the oldest, and `lam` adds one for
-- its part. There is none where a number means no hypothesis.
abbrev pub proof_of : ℕ → ProofText → Option ProofTree
proof_of hypotheses (numbered k) = if nat_lt k hypotheses then Some (hypothesis (hypotheses - 1 - k)) else None
proof_of hypotheses (abstraction a p) = option_map (λ q. lambda (formula_of a) q) (proof_of (suc hypotheses) p)
proof_of hypotheses (applied p q) = both_applied (proof_of hypotheses p) (proof_of hypotheses q)

abbrev pub proof_nesting : ProofText → ℕ
proof_nesting (numbered k) = 1
proof_nesting (abstraction a p) = suc (proof_nesting p)
proof_nesting (applied p q) = suc (max (proof_nesting p) (proof_nesting q))

abbrev pub HasFormulas : ProofText → Type 0
HasFormulas (numbered k) = Unit {0}
HasFormulas (abstraction a p) = IsFormula a × HasFormulas p
HasFormulas (applied p q) = HasFormulas p × HasFormulas q

-- a proof as it may be written: of at most 2,048 levels, and every formula in it may be written
pub record IsProof (p : ProofText) : Type 0 where
  pub nested : proof_nesting p ≤ 2048
  pub formulas : HasFormulas p
