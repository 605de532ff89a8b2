-- The reader of lines as functions on lists of tokens: a tree and the tokens after it, or none.
use Rattle.std.specs.Prelude.{◌≡◌, ℕ, zero, suc, ◌-◌, ◌+◌, nat_lt, true, false, List, [], ◌∷◌, Result, Ok, Err, Some, None, if◌then◌else◌}
use Rattle.std.specs.declared.option.Option.{Option}
use Rattle.sorted_terms.specs.Tree.{boolean}
use Rattle.formulas.specs.Tree.{FormulaTree, bottom, holds, joined, implies, not_so}
use Rattle.formulas.specs.Sorts.{fits}
use Rattle.proof_terms.specs.Tree.{ProofTree, hypothesis, lambda, application}
use Rattle.script_reader.specs.declared.stop.Stop.{Stop}
use Rattle.script_reader.specs.declared.stop.Stop.TheVariants as stops
use Rattle.script_reader.specs.declared.token.Token.{Token}
use Rattle.script_reader.specs.declared.token.Token.TheVariants as token
use Rattle.script_reader.specs.declared.lines.LineFault.{LineFault}
use Rattle.script_reader.specs.declared.lines.LineFault.TheVariants as faults
use Rattle.script_reader.specs.declared.lines.OpenHole.{OpenHole}
use Rattle.script_reader.specs.Lines.{LineTree, spec, skip, intro, exact, export, hypotheses_at}

abbrev pub Read : Type 0 → Type 0
Read A = Option (A × List Token)

infixl 10 ◌>>=◌
abbrev pub ◌>>=◌ : {A B : Type 0} → Option A → (A → Option B) → Option B
(Some x) >>= f = f x
None >>= f = None

-- what a function returned, seen by view, is what reading gives, unless memory ran out
abbrev pub Gives : {X Y : Type 0} → (X → Y) → Result X Stop → Option Y → Type 0
Gives view (Ok x) read = read ≡ Some (view x)
Gives view (Err stops.Unread) read = read ≡ None
Gives view (Err stops.NoMemory) read = Unit {0}

abbrev pub fault_of : Stop → LineFault
fault_of stops.Unread = faults.Unread
fault_of stops.NoMemory = faults.NoMemory

-- ---- one token

abbrev pub after_close : List Token → Option (List Token)
after_close (token.Close ∷ rest) = Some rest
after_close tokens = None

abbrev pub after_comma : List Token → Option (List Token)
after_comma (token.Comma ∷ rest) = Some rest
after_comma tokens = None

abbrev pub after_implies : List Token → Option (List Token)
after_implies (token.Implies ∷ rest) = Some rest
after_implies tokens = None

abbrev pub after_colon : List Token → Option (List Token)
after_colon (token.Colon ∷ rest) = Some rest
after_colon tokens = None

abbrev pub after_open : List Token → Option (List Token)
after_open (token.Open ∷ rest) = Some rest
after_open tokens = None

abbrev pub after_brace : List Token → Option (List Token)
after_brace (token.CloseBrace ∷ rest) = Some rest
after_brace tokens = None

abbrev pub after_open_brace : List Token → Option (List Token)
after_open_brace (token.OpenBrace ∷ rest) = Some rest
after_open_brace tokens = None

-- ---- formulas

-- no level is left
abbrev pub none : List Token → Read FormulaTree
none tokens = None

-- the formula whose left side is `a` where `=>` is next, else `a`
abbrev pub joined_by : (List Token → Read FormulaTree) → FormulaTree → List Token → Option (List Token) → Read FormulaTree
joined_by formula a tokens None = Some (a, tokens)
joined_by formula a tokens (Some rest) = formula rest >>= (λ r. Some (joined implies a r.0, r.1))

-- what binds more tightly than `=>`; the readers of a formula and an operand are those of one level less
abbrev pub operand_by : (List Token → Read FormulaTree) → (List Token → Read FormulaTree) → List Token → Read FormulaTree
operand_by formula operand (token.True ∷ rest) = Some (holds (boolean true), rest)
operand_by formula operand (token.False ∷ rest) = Some (holds (boolean false), rest)
operand_by formula operand (token.Bottom ∷ rest) = Some (bottom, rest)
operand_by formula operand (token.Open ∷ rest) = formula rest >>= (λ r. after_close r.1 >>= (λ more. Some (r.0, more)))
operand_by formula operand (token.Not ∷ rest) = operand rest >>= (λ r. Some (not_so r.0, r.1))
operand_by formula operand tokens = None

abbrev pub formula_by : (List Token → Read FormulaTree) → (List Token → Read FormulaTree) → List Token → Read FormulaTree
formula_by formula operand tokens = operand_by formula operand tokens >>= (λ r. joined_by formula r.0 r.1 (after_implies r.1))

unfoldable mutual
  -- a formula within so many levels of nesting
  pub formula_at : ℕ → List Token → Read FormulaTree
  formula_at zero = formula_by none none
  formula_at (suc levels) = formula_by (formula_at levels) (operand_at levels)

  -- an operand within so many levels of nesting
  pub operand_at : ℕ → List Token → Read FormulaTree
  operand_at zero = operand_by none none
  operand_at (suc levels) = operand_by (formula_at levels) (operand_at levels)

-- a formula that fits
unfoldable pub fitting_at : List Token → Read FormulaTree
fitting_at tokens = formula_at 512 tokens >>= (λ r. if fits r.0 then Some r else None)

-- ---- proofs

abbrev pub hypothesis_at : ℕ → List Token → Read ProofTree
hypothesis_at hypotheses (token.Number k ∷ rest) = if nat_lt k hypotheses then Some (hypothesis (hypotheses - 1 - k), rest) else None
hypothesis_at hypotheses tokens = None

-- the part of a lambda or application up to its end
abbrev pub ended : (ProofTree → ProofTree) → Read ProofTree → Read ProofTree
ended make read = read >>= (λ r. after_close r.1 >>= (λ more. Some (make r.0, more)))

abbrev pub lambda_by : (List Token → Read ProofTree) → List Token → Read ProofTree
lambda_by proof tokens =
    after_open tokens >>= (λ rest. fitting_at rest >>= (λ a. after_comma a.1 >>= (λ more. ended (λ p. lambda a.0 p) (proof more))))

abbrev pub application_by : (List Token → Read ProofTree) → List Token → Read ProofTree
application_by proof tokens =
    after_open tokens >>= (λ rest. proof rest >>= (λ p. after_comma p.1 >>= (λ more. ended (λ q. application p.0 q) (proof more))))

abbrev pub proof_by : ℕ → (List Token → Read ProofTree) → (List Token → Read ProofTree) → List Token → Read ProofTree
proof_by hypotheses under beside (token.Hash ∷ rest) = hypothesis_at hypotheses rest
proof_by hypotheses under beside (token.Lam ∷ rest) = lambda_by under rest
proof_by hypotheses under beside (token.App ∷ rest) = application_by beside rest
proof_by hypotheses under beside tokens = None

-- a proof of at most so many levels under so many hypotheses
unfoldable pub proof_at : ℕ → ℕ → List Token → Read ProofTree
proof_at zero hypotheses tokens = None
proof_at (suc levels) hypotheses tokens = proof_by hypotheses (proof_at levels (suc hypotheses)) (proof_at levels hypotheses) tokens

-- ---- lines

abbrev pub after_all : List Token → Option (Unit {0})
after_all [] = Some tt
after_all tokens = None

-- the value, where no token is left
abbrev pub whole : {A : Type 0} → A → List Token → Option A
whole a tokens = after_all tokens >>= (λ _. Some a)

abbrev pub spec_of : FormulaTree → Read FormulaTree → Option LineTree
spec_of pre read = read >>= (λ b. after_brace b.1 >>= (λ rest. whole (spec pre b.0) rest))

abbrev pub spec_at : List Token → Option LineTree
spec_at tokens =
    after_open_brace tokens >>= (λ rest. fitting_at rest >>= (λ a. after_brace a.1 >>= (λ more. after_open_brace more >>= (λ again. spec_of a.0 (fitting_at again)))))

abbrev pub step_at : ℕ → ℕ → List Token → Option LineTree
step_at hole hypotheses (token.Skip ∷ rest) = whole (skip hole) rest
step_at hole hypotheses (token.Intro ∷ rest) = whole (intro hole) rest
step_at hole hypotheses (token.Exact ∷ rest) = proof_at 2048 hypotheses rest >>= (λ p. whole (exact hole p.0) p.1)
step_at hole hypotheses tokens = None

abbrev pub line_at : Option OpenHole → List Token → Option LineTree
line_at opened (token.Spec ∷ rest) = spec_at rest
line_at opened (token.Number hole ∷ rest) = after_colon rest >>= (λ more. step_at hole (hypotheses_at opened hole) more)
line_at opened (token.Export ∷ rest) = whole export rest
line_at opened tokens = None
