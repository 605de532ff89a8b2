-- Words for what the parts of the printer write.
use Rattle.std.specs.Prelude.{◌≡◌, ℕ, Bool, true, false, List, ◌++◌}
use Rattle.sorted_terms.specs.Tree.{TermTree}
use Rattle.sorted_terms.specs.Tree as term
use Rattle.formulas.specs.Tree.{FormulaTree}
use Rattle.formulas.specs.Tree as formula
use Rattle.ck_text.specs.declared.token.Sign.{Sign}
use Rattle.ck_text.specs.declared.token.Sign.TheVariants as sign
use Rattle.ck_text.specs.Printing.{term_sign, connective_sign}

-- bytes were added at the end, or none
abbrev pub Extends : (old new : List ℕ) → Type 0
Extends old new = (more : List ℕ) × (new ≡ old ++ more)

-- the sign between the two parts of a term
abbrev pub sign_of_term : TermTree → Sign
sign_of_term (term.binary s t u) = term_sign s
sign_of_term t = sign.Plus

-- the sign between the two parts of a formula, where it is no denial
abbrev pub sign_of_formula : FormulaTree → Sign
sign_of_formula (formula.joined c a b) = connective_sign c
sign_of_formula a = sign.Implies

abbrev pub is_bottom : FormulaTree → Bool
is_bottom formula.bottom = true
is_bottom a = false

-- the level that is wanted after `-`; no text has level 12, so an integer is in parentheses there
abbrev pub minus_want : TermTree → ℕ
minus_want (term.integer n) = 12
minus_want t = 10
