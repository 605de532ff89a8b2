-- Proofs as they are written: the grammar by the table of rules, the tokens of a proof, and the proof term that it means.
use Rattle.std.specs.Prelude.{◌≡◌, ℕ, zero, suc, ◌+◌, ◌-◌, ◌<◌, ◌^◌, max, nat_lt, Bool, true, false, List, [], ◌∷◌, ◌++◌, length, Some, None, if◌then◌else◌, codes}
use Rattle.std.specs.declared.option.Option.{Option}
use Rattle.std.specs.Option.{option_map}
use Rattle.ck_base.specs.declared.decl.Sort.{Sort}
use Rattle.ck_base.specs.declared.decl.Decl.{Decl}
use Rattle.sorted_terms.specs.Tree.{TermTree}
use Rattle.formulas.specs.Tree.{FormulaTree}
use Rattle.proof_terms.specs.Tree.{ProofTree}
use Rattle.proof_terms.specs.Tree as proof
use Rattle.ck_text.specs.declared.head.Head.{Head}
use Rattle.ck_text.specs.declared.head.Head.TheVariants as heads
use Rattle.ck_text.specs.declared.token.Mark.TheVariants as marks
use Rattle.ck_text.specs.Tokens.{Token}
use Rattle.ck_text.specs.Tokens as token
use Rattle.ck_text.specs.Texts.{Text, tokens, IsText, Bindings, first_of, term_of, formula_of}
use Rattle.ck_text.specs.Reading.{text_levels, unknown_at}

-- # The table of rules

-- What an argument is: a sort, a number, a term, a formula, or a proof. A formula and a proof may stand under
-- further variables, and a proof under further hypotheses.
pub data Kind : Type 0 where
  a_sort : Kind
  a_number : Kind
  a_term : Kind
  a_formula : (variables : ℕ) → Kind
  a_proof : (variables hypotheses : ℕ) → Kind

-- the arguments of a rule
abbrev pub kinds : Head → List Kind
kinds heads.Lam = a_formula 0 ∷ a_proof 0 1 ∷ []
kinds heads.App = a_proof 0 0 ∷ a_proof 0 0 ∷ []
kinds heads.Gen = a_sort ∷ a_proof 1 0 ∷ []
kinds heads.Inst = a_proof 0 0 ∷ a_term ∷ []
kinds heads.Pair = a_proof 0 0 ∷ a_proof 0 0 ∷ []
kinds heads.First = a_proof 0 0 ∷ []
kinds heads.Second = a_proof 0 0 ∷ []
kinds heads.Left = a_formula 0 ∷ a_proof 0 0 ∷ []
kinds heads.Right = a_formula 0 ∷ a_proof 0 0 ∷ []
kinds heads.Cases = a_proof 0 0 ∷ a_proof 0 1 ∷ a_proof 0 1 ∷ []
kinds heads.Pack = a_sort ∷ a_formula 1 ∷ a_term ∷ a_proof 0 0 ∷ []
kinds heads.Unpack = a_proof 0 0 ∷ a_proof 1 1 ∷ []
kinds heads.Absurd = a_formula 0 ∷ a_proof 0 0 ∷ []
kinds heads.Stable = a_proof 0 0 ∷ []
kinds heads.Refl = a_term ∷ []
kinds heads.Rewrite = a_formula 1 ∷ a_proof 0 0 ∷ a_proof 0 0 ∷ []
kinds heads.Axiom = a_number ∷ []
kinds heads.Induct = a_formula 1 ∷ []
kinds heads.Compute = a_term ∷ []
kinds heads.Ring = a_term ∷ a_term ∷ []

-- the name of a rule
abbrev pub head_word : Head → List ℕ
head_word heads.Lam = codes "lam"
head_word heads.App = codes "app"
head_word heads.Gen = codes "gen"
head_word heads.Inst = codes "inst"
head_word heads.Pair = codes "pair"
head_word heads.First = codes "first"
head_word heads.Second = codes "second"
head_word heads.Left = codes "left"
head_word heads.Right = codes "right"
head_word heads.Cases = codes "cases"
head_word heads.Pack = codes "pack"
head_word heads.Unpack = codes "unpack"
head_word heads.Absurd = codes "absurd"
head_word heads.Stable = codes "stable"
head_word heads.Refl = codes "refl"
head_word heads.Rewrite = codes "rewrite"
head_word heads.Axiom = codes "axiom"
head_word heads.Induct = codes "induct"
head_word heads.Compute = codes "compute"
head_word heads.Ring = codes "ring"

-- # Texts

mutual
  -- A written proof: a hypothesis `#k`, a hole `?k`, or a rule and its arguments in parentheses.
  pub data ProofText : Type 0 where
    numbered : (k : ℕ) → ProofText
    open_hole : (k : ℕ) → ProofText
    headed : (h : Head) (arguments : Arguments) → ProofText

  -- one argument or more, with `,` between them
  pub data Arguments : Type 0 where
    last : (a : Argument) → Arguments
    more : (a : Argument) (others : Arguments) → Arguments

  -- a sort, a number, a term or a formula, or a proof
  pub data Argument : Type 0 where
    of_sort : (s : Sort) → Argument
    of_number : (n : ℕ) → Argument
    of_expression : (a : Text) → Argument
    of_proof : (p : ProofText) → Argument

-- # Tokens

abbrev mutual
  pub proof_tokens : ProofText → List Token
  proof_tokens (numbered k) = token.mark marks.Hash ∷ token.number k ∷ []
  proof_tokens (open_hole k) = token.mark marks.Question ∷ token.number k ∷ []
  proof_tokens (headed h arguments) =
      token.word (head_word h) ∷ token.mark marks.Open ∷ (arguments_tokens arguments ++ (token.mark marks.Close ∷ []))

  pub arguments_tokens : Arguments → List Token
  arguments_tokens (last a) = argument_tokens a
  arguments_tokens (more a others) = argument_tokens a ++ (token.mark marks.Comma ∷ arguments_tokens others)

  pub argument_tokens : Argument → List Token
  argument_tokens (of_sort s) = token.sort s ∷ []
  argument_tokens (of_number n) = token.number n ∷ []
  argument_tokens (of_expression a) = tokens a
  argument_tokens (of_proof p) = proof_tokens p

-- # Grammar
--
--     proof := '#' number | '?' number | head '(' arguments ')'
--
-- where the arguments are those of the table, and a hole stands only where holes are asked for.

abbrev mutual
  -- The proof is built by the grammar, with so many proofs open around it, and no more than `most` proofs are open
  -- at any place. Terms and formulas in it open at most `limit` levels of their own.
  pub IsProofText : (limit most : ℕ) (holes : Bool) (around : ℕ) → ProofText → Type 0
  IsProofText limit most holes around (numbered k) = (around < most) × (k < 2 ^ 32)
  IsProofText limit most holes around (open_hole k) = (around < most) × (holes ≡ true) × (k < 2 ^ 32)
  IsProofText limit most holes around (headed h arguments) = (around < most) × AreArguments limit most holes (suc around) (kinds h) arguments

  -- the arguments are of these kinds, one after the other
  pub AreArguments : (limit most : ℕ) (holes : Bool) (around : ℕ) → List Kind → Arguments → Type 0
  AreArguments limit most holes around [] arguments = ⊥
  AreArguments limit most holes around (k ∷ ks) (last a) = (ks ≡ []) × IsArgument limit most holes around k a
  AreArguments limit most holes around (k ∷ ks) (more a others) =
      IsArgument limit most holes around k a × AreArguments limit most holes around ks others

  -- the argument is of this kind
  pub IsArgument : (limit most : ℕ) (holes : Bool) (around : ℕ) → Kind → Argument → Type 0
  IsArgument limit most holes around a_sort (of_sort s) = Unit {0}
  IsArgument limit most holes around a_number (of_number n) = n < 2 ^ 32
  IsArgument limit most holes around a_term (of_expression a) = IsText limit true a
  IsArgument limit most holes around (a_formula v) (of_expression a) = IsText limit false a
  IsArgument limit most holes around (a_proof v h) (of_proof p) = IsProofText limit most holes around p
  IsArgument limit most holes around k a = ⊥

abbrev mutual
  -- how many proofs are open at once in the proofs that begin among the first n tokens
  pub reached : (n : ℕ) → ProofText → ℕ
  reached zero p = 0
  reached (suc n) (headed h arguments) = suc (reached_in_all (n - 1) arguments)
  reached (suc n) p = 1

  pub reached_in_all : (n : ℕ) → Arguments → ℕ
  reached_in_all n (last a) = reached_in n a
  reached_in_all n (more a others) = max (reached_in n a) (reached_in_all (n - suc (length (argument_tokens a))) others)

  pub reached_in : (n : ℕ) → Argument → ℕ
  reached_in n (of_proof p) = reached n p
  reached_in n a = 0

-- # Meaning

-- what names and `#k` stand for: the declared names, the numbers of variables and of hypotheses in scope
pub record ProofScope : Type 0 where
  pub names : List Decl
  pub variables : ℕ
  pub hypotheses : ℕ

-- the scope of a proof under declarations, so many variables and so many hypotheses
abbrev pub whole_proof_scope : List Decl → (variables hypotheses : ℕ) → ProofScope
whole_proof_scope names variables hypotheses = record { names = names; variables = variables; hypotheses = hypotheses }

-- the scope with further variables and hypotheses
abbrev pub grown : (variables hypotheses : ℕ) → ProofScope → ProofScope
grown v h scope = record { names = scope.names; variables = v + scope.variables; hypotheses = h + scope.hypotheses }

-- what names stand for in a term or formula under further variables
abbrev pub expression_scope : (variables : ℕ) → ProofScope → Bindings
expression_scope v scope = record { names = scope.names; variables = v + scope.variables; bound = [] }

-- what an argument means
pub data Part : Type 0 where
  sort : (s : Sort) → Part
  number : (n : ℕ) → Part
  term : (t : TermTree) → Part
  formula : (a : FormulaTree) → Part
  proof_term : (p : ProofTree) → Part

-- the proof term of a rule and what its arguments mean
abbrev pub built : Head → List Part → Option ProofTree
built heads.Lam (formula a ∷ proof_term p ∷ []) = Some (proof.lambda a p)
built heads.App (proof_term p ∷ proof_term q ∷ []) = Some (proof.application p q)
built heads.Gen (sort s ∷ proof_term p ∷ []) = Some (proof.general s p)
built heads.Inst (proof_term p ∷ term t ∷ []) = Some (proof.special p t)
built heads.Pair (proof_term p ∷ proof_term q ∷ []) = Some (proof.pair p q)
built heads.First (proof_term p ∷ []) = Some (proof.first p)
built heads.Second (proof_term p ∷ []) = Some (proof.second p)
built heads.Left (formula b ∷ proof_term p ∷ []) = Some (proof.left_of b p)
built heads.Right (formula a ∷ proof_term p ∷ []) = Some (proof.right_of a p)
built heads.Cases (proof_term p ∷ proof_term q ∷ proof_term r ∷ []) = Some (proof.by_cases p q r)
built heads.Pack (sort s ∷ formula a ∷ term t ∷ proof_term p ∷ []) = Some (proof.pack s a t p)
built heads.Unpack (proof_term p ∷ proof_term q ∷ []) = Some (proof.unpack p q)
built heads.Absurd (formula a ∷ proof_term p ∷ []) = Some (proof.from_bottom a p)
built heads.Stable (proof_term p ∷ []) = Some (proof.stable p)
built heads.Refl (term t ∷ []) = Some (proof.reflexive t)
built heads.Rewrite (formula a ∷ proof_term p ∷ proof_term q ∷ []) = Some (proof.rewriting a p q)
built heads.Axiom (number i ∷ []) = Some (proof.an_axiom i)
built heads.Induct (formula a ∷ []) = Some (proof.induction a)
built heads.Compute (term t ∷ []) = Some (proof.computing t)
built heads.Ring (term s ∷ term t ∷ []) = Some (proof.ring_equal s t)
built h parts = None

abbrev pub built_of : Head → Option (List Part) → Option ProofTree
built_of h (Some parts) = built h parts
built_of h None = None

-- the first and the others, where all mean something
abbrev pub parts_of : Option Part → Option (List Part) → Option (List Part)
parts_of (Some part) (Some parts) = Some (part ∷ parts)
parts_of part parts = None

abbrev mutual
  -- The proof term that a proof means in a scope; none where a name or a `#k` means nothing. `#k` counts the
  -- hypotheses from the oldest, and the index in the proof term from the newest.
  pub proof_of : ProofScope → ProofText → Option ProofTree
  proof_of scope (numbered k) = if nat_lt k scope.hypotheses then Some (proof.hypothesis (scope.hypotheses - 1 - k)) else None
  proof_of scope (open_hole k) = Some (proof.hole k)
  proof_of scope (headed h arguments) = built_of h (meanings_of scope (kinds h) arguments)

  pub meanings_of : ProofScope → List Kind → Arguments → Option (List Part)
  meanings_of scope [] arguments = None
  meanings_of scope (k ∷ ks) (last a) = parts_of (part_of scope k a) (Some [])
  meanings_of scope (k ∷ ks) (more a others) = parts_of (part_of scope k a) (meanings_of scope ks others)

  pub part_of : ProofScope → Kind → Argument → Option Part
  part_of scope a_sort (of_sort s) = Some (sort s)
  part_of scope a_number (of_number n) = Some (number n)
  part_of scope a_term (of_expression a) = option_map term (term_of (expression_scope 0 scope) a)
  part_of scope (a_formula v) (of_expression a) = option_map formula (formula_of (expression_scope v scope) a)
  part_of scope (a_proof v h) (of_proof p) = option_map proof_term (proof_of (grown v h scope) p)
  part_of scope k a = None

-- # Faults
--
-- Tokens are counted from the first one of the proof, which has the number `first`.

abbrev pub too_deep : (first most levels : ℕ) → Option ℕ
too_deep first most levels = if nat_lt most levels then Some first else None

abbrev mutual
  -- the number of the first token of the first term or formula of more than `most` levels
  pub deep_at : (first most : ℕ) → ProofText → Option ℕ
  deep_at first most (headed h arguments) = deep_among (2 + first) most (kinds h) arguments
  deep_at first most p = None

  pub deep_among : (first most : ℕ) → List Kind → Arguments → Option ℕ
  deep_among first most [] arguments = None
  deep_among first most (k ∷ ks) (last a) = deep_in first most k a
  deep_among first most (k ∷ ks) (more a others) =
      first_of (deep_in first most k a) (deep_among (suc (first + length (argument_tokens a))) most ks others)

  pub deep_in : (first most : ℕ) → Kind → Argument → Option ℕ
  deep_in first most a_term (of_expression a) = too_deep first most (text_levels true a)
  deep_in first most (a_formula v) (of_expression a) = too_deep first most (text_levels false a)
  deep_in first most (a_proof v h) (of_proof p) = deep_at first most p
  deep_in first most k a = None

abbrev mutual
  -- the number of the first name or `#k` that means nothing
  pub unknown_in_proof : (first : ℕ) → ProofScope → ProofText → Option ℕ
  unknown_in_proof first scope (numbered k) = if nat_lt k scope.hypotheses then None else Some first
  unknown_in_proof first scope (open_hole k) = None
  unknown_in_proof first scope (headed h arguments) = unknown_among (2 + first) scope (kinds h) arguments

  pub unknown_among : (first : ℕ) → ProofScope → List Kind → Arguments → Option ℕ
  unknown_among first scope [] arguments = None
  unknown_among first scope (k ∷ ks) (last a) = unknown_in first scope k a
  unknown_among first scope (k ∷ ks) (more a others) =
      first_of (unknown_in first scope k a) (unknown_among (suc (first + length (argument_tokens a))) scope ks others)

  pub unknown_in : (first : ℕ) → ProofScope → Kind → Argument → Option ℕ
  unknown_in first scope a_term (of_expression a) = unknown_at first (expression_scope 0 scope) a
  unknown_in first scope (a_formula v) (of_expression a) = unknown_at first (expression_scope v scope) a
  unknown_in first scope (a_proof v h) (of_proof p) = unknown_in_proof first (grown v h scope) p
  unknown_in first scope k a = None
