-- The written text of a proof term, and its bytes.
use Rattle.std.specs.Prelude.{ℕ, suc, ◌-◌, ◌≤◌, ◌<◌, ◌^◌, List, ◌++◌, codes, decimal}
use Rattle.ck_base.specs.declared.decl.Sort.{Sort}
use Rattle.ck_base.specs.declared.decl.Sort.TheVariants as sorts
use Rattle.ck_base.specs.declared.decl.Decl.{Decl}
use Rattle.sorted_terms.specs.Tree.{TermTree}
use Rattle.sorted_terms.specs.Sorts.{term_depth}
use Rattle.formulas.specs.Tree.{FormulaTree}
use Rattle.formulas.specs.Sorts.{depth}
use Rattle.proof_terms.specs.Tree.{ProofTree, hypothesis, lambda, application, general, special, pair, first, second, left_of, right_of, by_cases, pack, unpack, from_bottom, stable, reflexive, rewriting, an_axiom, induction, computing, ring_equal, hole}
use Rattle.ck_text.specs.declared.head.Head.TheVariants as heads
use Rattle.ck_text.specs.ProofTexts.{head_word, ProofText, numbered, open_hole, headed, Arguments, last, more, Argument, of_sort, of_number, of_expression, of_proof}
use Rattle.ck_text.specs.Printing.{term_text, formula_text, printed, TermHasText, FormulaHasText}

-- # The text of a proof term

abbrev pub term_argument : List Decl → (variables : ℕ) → TermTree → Argument
term_argument names v t = of_expression (term_text names v t)

abbrev pub formula_argument : List Decl → (variables : ℕ) → FormulaTree → Argument
formula_argument names v a = of_expression (formula_text names v a)

-- The text of a proof term under declarations, so many variables and so many hypotheses. The newest hypothesis has
-- the index 0, and its text the highest number. Each part stands under the variables and hypotheses that its rule adds.
abbrev pub proof_text : List Decl → (variables hypotheses : ℕ) → ProofTree → ProofText
proof_text names v h (hypothesis k) = numbered (h - 1 - k)
proof_text names v h (hole k) = open_hole k
proof_text names v h (lambda a p) =
    headed heads.Lam (more (formula_argument names v a) (last (of_proof (proof_text names v (suc h) p))))
proof_text names v h (application p q) =
    headed heads.App (more (of_proof (proof_text names v h p)) (last (of_proof (proof_text names v h q))))
proof_text names v h (general s p) = headed heads.Gen (more (of_sort s) (last (of_proof (proof_text names (suc v) h p))))
proof_text names v h (special p t) = headed heads.Inst (more (of_proof (proof_text names v h p)) (last (term_argument names v t)))
proof_text names v h (pair p q) =
    headed heads.Pair (more (of_proof (proof_text names v h p)) (last (of_proof (proof_text names v h q))))
proof_text names v h (first p) = headed heads.First (last (of_proof (proof_text names v h p)))
proof_text names v h (second p) = headed heads.Second (last (of_proof (proof_text names v h p)))
proof_text names v h (left_of b p) =
    headed heads.Left (more (formula_argument names v b) (last (of_proof (proof_text names v h p))))
proof_text names v h (right_of a p) =
    headed heads.Right (more (formula_argument names v a) (last (of_proof (proof_text names v h p))))
proof_text names v h (by_cases p q r) =
    headed heads.Cases (more (of_proof (proof_text names v h p))
    (more (of_proof (proof_text names v (suc h) q)) (last (of_proof (proof_text names v (suc h) r)))))
proof_text names v h (pack s a t p) =
    headed heads.Pack (more (of_sort s)
    (more (formula_argument names (suc v) a) (more (term_argument names v t) (last (of_proof (proof_text names v h p))))))
proof_text names v h (unpack p q) =
    headed heads.Unpack (more (of_proof (proof_text names v h p)) (last (of_proof (proof_text names (suc v) (suc h) q))))
proof_text names v h (from_bottom a p) =
    headed heads.Absurd (more (formula_argument names v a) (last (of_proof (proof_text names v h p))))
proof_text names v h (stable p) = headed heads.Stable (last (of_proof (proof_text names v h p)))
proof_text names v h (reflexive t) = headed heads.Refl (last (term_argument names v t))
proof_text names v h (rewriting a p q) =
    headed heads.Rewrite (more (formula_argument names (suc v) a)
    (more (of_proof (proof_text names v h p)) (last (of_proof (proof_text names v h q)))))
proof_text names v h (an_axiom i) = headed heads.Axiom (last (of_number i))
proof_text names v h (induction a) = headed heads.Induct (last (formula_argument names (suc v) a))
proof_text names v h (computing t) = headed heads.Compute (last (term_argument names v t))
proof_text names v h (ring_equal s t) = headed heads.Ring (more (term_argument names v s) (last (term_argument names v t)))

-- # Bytes

abbrev pub sort_word : Sort → List ℕ
sort_word sorts.Int = codes "int"
sort_word sorts.Bool = codes "bool"

abbrev mutual
  -- the bytes of a written proof: there is a space after each `,`, and none elsewhere but in terms and formulas
  pub proof_printed : ProofText → List ℕ
  proof_printed (numbered k) = codes "#" ++ decimal k
  proof_printed (open_hole k) = codes "?" ++ decimal k
  proof_printed (headed h arguments) = head_word h ++ (codes "(" ++ (arguments_printed arguments ++ codes ")"))

  pub arguments_printed : Arguments → List ℕ
  arguments_printed (last a) = argument_printed a
  arguments_printed (more a others) = argument_printed a ++ (codes ", " ++ arguments_printed others)

  pub argument_printed : Argument → List ℕ
  argument_printed (of_sort s) = sort_word s
  argument_printed (of_number n) = decimal n
  argument_printed (of_expression a) = printed a
  argument_printed (of_proof p) = proof_printed p

-- the printed bytes of a proof term under declarations, so many variables and so many hypotheses
abbrev pub proof_bytes : List Decl → (variables hypotheses : ℕ) → ProofTree → List ℕ
proof_bytes names v h p = proof_printed (proof_text names v h p)

-- # Which proof terms have a text

-- Every name is declared, every index is that of a variable or of a hypothesis in scope, and every integer and
-- every number of a hole or of an axiom can be written.
abbrev pub ProofHasText : (declared variables hypotheses : ℕ) → ProofTree → Type 0
ProofHasText n v h (hypothesis k) = k < h
ProofHasText n v h (hole k) = k < 2 ^ 32
ProofHasText n v h (lambda a p) = FormulaHasText n v a × ProofHasText n v (suc h) p
ProofHasText n v h (application p q) = ProofHasText n v h p × ProofHasText n v h q
ProofHasText n v h (general s p) = ProofHasText n (suc v) h p
ProofHasText n v h (special p t) = ProofHasText n v h p × TermHasText n v t
ProofHasText n v h (pair p q) = ProofHasText n v h p × ProofHasText n v h q
ProofHasText n v h (first p) = ProofHasText n v h p
ProofHasText n v h (second p) = ProofHasText n v h p
ProofHasText n v h (left_of b p) = FormulaHasText n v b × ProofHasText n v h p
ProofHasText n v h (right_of a p) = FormulaHasText n v a × ProofHasText n v h p
ProofHasText n v h (by_cases p q r) = ProofHasText n v h p × ProofHasText n v (suc h) q × ProofHasText n v (suc h) r
ProofHasText n v h (pack s a t p) = FormulaHasText n (suc v) a × TermHasText n v t × ProofHasText n v h p
ProofHasText n v h (unpack p q) = ProofHasText n v h p × ProofHasText n (suc v) (suc h) q
ProofHasText n v h (from_bottom a p) = FormulaHasText n v a × ProofHasText n v h p
ProofHasText n v h (stable p) = ProofHasText n v h p
ProofHasText n v h (reflexive t) = TermHasText n v t
ProofHasText n v h (rewriting a p q) = FormulaHasText n (suc v) a × ProofHasText n v h p × ProofHasText n v h q
ProofHasText n v h (an_axiom i) = i < 2 ^ 32
ProofHasText n v h (induction a) = FormulaHasText n (suc v) a
ProofHasText n v h (computing t) = TermHasText n v t
ProofHasText n v h (ring_equal s t) = TermHasText n v s × TermHasText n v t

-- each term and each formula of the proof term has at most so many levels
abbrev pub HasLowExpressions : (most : ℕ) → ProofTree → Type 0
HasLowExpressions m (hypothesis k) = Unit {0}
HasLowExpressions m (hole k) = Unit {0}
HasLowExpressions m (lambda a p) = (depth a ≤ m) × HasLowExpressions m p
HasLowExpressions m (application p q) = HasLowExpressions m p × HasLowExpressions m q
HasLowExpressions m (general s p) = HasLowExpressions m p
HasLowExpressions m (special p t) = HasLowExpressions m p × (term_depth t ≤ m)
HasLowExpressions m (pair p q) = HasLowExpressions m p × HasLowExpressions m q
HasLowExpressions m (first p) = HasLowExpressions m p
HasLowExpressions m (second p) = HasLowExpressions m p
HasLowExpressions m (left_of b p) = (depth b ≤ m) × HasLowExpressions m p
HasLowExpressions m (right_of a p) = (depth a ≤ m) × HasLowExpressions m p
HasLowExpressions m (by_cases p q r) = HasLowExpressions m p × HasLowExpressions m q × HasLowExpressions m r
HasLowExpressions m (pack s a t p) = (depth a ≤ m) × (term_depth t ≤ m) × HasLowExpressions m p
HasLowExpressions m (unpack p q) = HasLowExpressions m p × HasLowExpressions m q
HasLowExpressions m (from_bottom a p) = (depth a ≤ m) × HasLowExpressions m p
HasLowExpressions m (stable p) = HasLowExpressions m p
HasLowExpressions m (reflexive t) = term_depth t ≤ m
HasLowExpressions m (rewriting a p q) = (depth a ≤ m) × HasLowExpressions m p × HasLowExpressions m q
HasLowExpressions m (an_axiom i) = Unit {0}
HasLowExpressions m (induction a) = depth a ≤ m
HasLowExpressions m (computing t) = term_depth t ≤ m
HasLowExpressions m (ring_equal s t) = (term_depth s ≤ m) × (term_depth t ≤ m)
