-- The text of a proof term is one of the grammar, and its tokens can be written.
use Rattle.std.proofs.Common.{arith, ℕ, suc, ◌+◌, ◌^◌, ◌≤◌, max, true, List, [], ◌∷◌, length, refl}
use Rattle.std.proofs.Math.Nat.{le-max_left, le-max_right}
use Rattle.ck_base.specs.Names.{AreNames}
use Rattle.ck_base.specs.declared.decl.Decl.{Decl}
use Rattle.sorted_terms.specs.Tree.{TermTree}
use Rattle.formulas.specs.Tree.{FormulaTree}
use Rattle.formulas.specs.Sorts.{depth}
use Rattle.proof_terms.specs.Tree.{ProofTree}
use Rattle.proof_terms.specs.Tree as proof
use Rattle.proof_terms.specs.Size.{proof_depth}
use Rattle.ck_text.specs.declared.head.Head.{Head}
use Rattle.ck_text.specs.declared.head.Head.TheVariants as heads
use Rattle.ck_text.specs.declared.token.Mark.TheVariants as marks
use Rattle.ck_text.specs.Tokens.{AreTokens}
use Rattle.ck_text.specs.Tokens as token
use Rattle.ck_text.specs.Printing.{TermHasText, FormulaHasText}
use Rattle.ck_text.specs.ProofTexts.{headed, Arguments, last, more, Argument, of_sort, of_number, of_proof, proof_tokens, arguments_tokens, argument_tokens, IsProofText}
use Rattle.ck_text.specs.ProofPrinting.{term_argument, formula_argument, proof_text, ProofHasText, HasLowExpressions}
use Rattle.ck_text.specs.ProofPrintingLaws.{ProofTextIs}
use Rattle.ck_text.proofs.Fitting.{term_text_is, formula_text_is}
use Rattle.ck_text.proofs.Returning.{joined_are, term_are, formula_are}
use Rattle.ck_text.proofs.ProofTables.{head_is_word}

-- # Levels

-- what a node and its parts leave room for, one of them is within
pub left_part : (n x y limit : ℕ) → n + (1 + max x y) ≤ limit → suc n + x ≤ limit
left_part n x y limit h = omega (arith, h, le-max_left x y)

pub right_part : (n x y limit : ℕ) → n + (1 + max x y) ≤ limit → suc n + y ≤ limit
right_part n x y limit h = omega (arith, h, le-max_right x y)

pub middle_part : (n x y z limit : ℕ) → n + (1 + max x (max y z)) ≤ limit → suc n + y ≤ limit
middle_part n x y z limit h = omega (arith, h, le-max_right x (max y z), le-max_left y z)

pub last_part : (n x y z limit : ℕ) → n + (1 + max x (max y z)) ≤ limit → suc n + z ≤ limit
last_part n x y z limit h = omega (arith, h, le-max_right x (max y z), le-max_right y z)

pub less : (n x limit : ℕ) → suc n + x ≤ limit → n + x ≤ limit
less n x limit h = omega (arith, h)

-- # Grammar

module _ (names : List Decl) (most : ℕ) where
  text_is : (p : ProofTree) (v h around : ℕ) → around + proof_depth p ≤ most → h + proof_depth p ≤ 2 ^ 32 → HasLowExpressions 256 p → ProofHasText (length names) v h p
      → IsProofText 512 most true around (proof_text names v h p)
  text_is (proof.hypothesis k) v h around deep few low has = (omega (arith, deep), omega (arith, few, has))
  text_is (proof.hole k) v h around deep few low has = (omega (arith, deep), refl, has)
  text_is (proof.lambda a p) v h around deep few low has = (omega (arith, deep), (formula_text_is names v a low.0, (refl, text_is p v (suc h) (suc around) (omega (arith, deep)) (omega (arith, few)) low.1 has.1)))
  text_is (proof.application p q) v h around deep few low has =
      let m = proof_depth p in
      let n = proof_depth q in
      let x = text_is p v h (suc around) (left_part around m n most deep) (less h m (2 ^ 32) (left_part h m n (2 ^ 32) few)) low.0 has.0 in
      let y = text_is q v h (suc around) (right_part around m n most deep) (less h n (2 ^ 32) (right_part h m n (2 ^ 32) few)) low.1 has.1 in
      (omega (arith, deep), (x, (refl, y)))
  text_is (proof.general s p) v h around deep few low has = (omega (arith, deep), (tt, (refl, text_is p (suc v) h (suc around) (omega (arith, deep)) (omega (arith, few)) low has)))
  text_is (proof.special p t) v h around deep few low has = (omega (arith, deep), (text_is p v h (suc around) (omega (arith, deep)) (omega (arith, few)) low.0 has.0, (refl, term_text_is names v t low.1)))
  text_is (proof.pair p q) v h around deep few low has =
      let m = proof_depth p in
      let n = proof_depth q in
      let x = text_is p v h (suc around) (left_part around m n most deep) (less h m (2 ^ 32) (left_part h m n (2 ^ 32) few)) low.0 has.0 in
      let y = text_is q v h (suc around) (right_part around m n most deep) (less h n (2 ^ 32) (right_part h m n (2 ^ 32) few)) low.1 has.1 in
      (omega (arith, deep), (x, (refl, y)))
  text_is (proof.first p) v h around deep few low has = (omega (arith, deep), (refl, text_is p v h (suc around) (omega (arith, deep)) (omega (arith, few)) low has))
  text_is (proof.second p) v h around deep few low has = (omega (arith, deep), (refl, text_is p v h (suc around) (omega (arith, deep)) (omega (arith, few)) low has))
  text_is (proof.left_of b p) v h around deep few low has = (omega (arith, deep), (formula_text_is names v b low.0, (refl, text_is p v h (suc around) (omega (arith, deep)) (omega (arith, few)) low.1 has.1)))
  text_is (proof.right_of a p) v h around deep few low has = (omega (arith, deep), (formula_text_is names v a low.0, (refl, text_is p v h (suc around) (omega (arith, deep)) (omega (arith, few)) low.1 has.1)))
  text_is (proof.by_cases p q r) v h around deep few low has =
      let m = proof_depth p in
      let n = proof_depth q in
      let o = proof_depth r in
      let x = text_is p v h (suc around) (left_part around m (max n o) most deep) (less h m (2 ^ 32) (left_part h m (max n o) (2 ^ 32) few)) low.0 has.0 in
      let y = text_is q v (suc h) (suc around) (middle_part around m n o most deep) (middle_part h m n o (2 ^ 32) few) low.1 has.1 in
      let z = text_is r v (suc h) (suc around) (last_part around m n o most deep) (last_part h m n o (2 ^ 32) few) low.2 has.2 in
      (omega (arith, deep), (x, (y, (refl, z))))
  text_is (proof.pack s a t p) v h around deep few low has =
      let x = text_is p v h (suc around) (omega (arith, deep)) (omega (arith, few)) low.2 has.2 in
      (omega (arith, deep), (tt, (formula_text_is names (suc v) a low.0, (term_text_is names v t low.1, (refl, x)))))
  text_is (proof.unpack p q) v h around deep few low has =
      let m = proof_depth p in
      let n = proof_depth q in
      let x = text_is p v h (suc around) (left_part around m n most deep) (less h m (2 ^ 32) (left_part h m n (2 ^ 32) few)) low.0 has.0 in
      let y = text_is q (suc v) (suc h) (suc around) (right_part around m n most deep) (right_part h m n (2 ^ 32) few) low.1 has.1 in
      (omega (arith, deep), (x, (refl, y)))
  text_is (proof.from_bottom a p) v h around deep few low has = (omega (arith, deep), (formula_text_is names v a low.0, (refl, text_is p v h (suc around) (omega (arith, deep)) (omega (arith, few)) low.1 has.1)))
  text_is (proof.stable p) v h around deep few low has = (omega (arith, deep), (refl, text_is p v h (suc around) (omega (arith, deep)) (omega (arith, few)) low has))
  text_is (proof.reflexive t) v h around deep few low has = (omega (arith, deep), (refl, term_text_is names v t low))
  text_is (proof.rewriting a p q) v h around deep few low has =
      let m = proof_depth p in
      let n = proof_depth q in
      let x = text_is p v h (suc around) (left_part around m n most deep) (less h m (2 ^ 32) (left_part h m n (2 ^ 32) few)) low.1 has.1 in
      let y = text_is q v h (suc around) (right_part around m n most deep) (less h n (2 ^ 32) (right_part h m n (2 ^ 32) few)) low.2 has.2 in
      (omega (arith, deep), (formula_text_is names (suc v) a low.0, (x, (refl, y))))
  text_is (proof.an_axiom i) v h around deep few low has = (omega (arith, deep), (refl, has))
  text_is (proof.induction a) v h around deep few low has = (omega (arith, deep), (refl, formula_text_is names (suc v) a low))
  text_is (proof.computing t) v h around deep few low has = (omega (arith, deep), (refl, term_text_is names v t low))
  text_is (proof.ring_equal s t) v h around deep few low has = (omega (arith, deep), (term_text_is names v s low.0, (refl, term_text_is names v t low.1)))

pub proof_text_is : ProofTextIs
proof_text_is names variables hypotheses p few deep low has = text_is names 2048 p variables hypotheses 0 (omega (arith, deep)) (omega (arith, few, deep)) low has

-- # Tokens

headed_are : (g : Head) (arguments : Arguments) → AreTokens (arguments_tokens arguments) → AreTokens (proof_tokens (headed g arguments))
headed_are g arguments h = (head_is_word g, (tt, joined_are (arguments_tokens arguments) (token.mark marks.Close ∷ []) h (tt, tt)))

more_are : (a : Argument) (others : Arguments) → AreTokens (argument_tokens a) → AreTokens (arguments_tokens others) → AreTokens (arguments_tokens (more a others))
more_are a others h k = joined_are (argument_tokens a) (token.mark marks.Comma ∷ arguments_tokens others) h (tt, k)

-- a rule with one argument, and with two
one_are : (g : Head) (a : Argument) → AreTokens (argument_tokens a) → AreTokens (proof_tokens (headed g (last a)))
one_are g a h = headed_are g (last a) h

two_are : (g : Head) (a b : Argument) → AreTokens (argument_tokens a) → AreTokens (argument_tokens b) → AreTokens (proof_tokens (headed g (more a (last b))))
two_are g a b h k = headed_are g (more a (last b)) (more_are a (last b) h k)

three_are : (g : Head) (a b c : Argument) → AreTokens (argument_tokens a) → AreTokens (argument_tokens b) → AreTokens (argument_tokens c) → AreTokens (proof_tokens (headed g (more a (more b (last c)))))
three_are g a b c h k l = headed_are g (more a (more b (last c))) (more_are a (more b (last c)) h (more_are b (last c) k l))

module _ (names : List Decl) (are : AreNames names) where
  expression_are : (a : FormulaTree) (v : ℕ) → v ≤ 2 ^ 32 → depth a ≤ 256 → FormulaHasText (length names) v a → AreTokens (argument_tokens (formula_argument names v a))
  expression_are a v few low has = formula_are names are a v (omega (arith, few, low)) has

  inner_are : (t : TermTree) (v : ℕ) → v ≤ 2 ^ 32 → TermHasText (length names) v t → AreTokens (argument_tokens (term_argument names v t))
  inner_are t v few has = term_are names are t v (omega (arith, few)) has

  pub text_are : (p : ProofTree) (v h : ℕ) → v + proof_depth p ≤ 2 ^ 32 → h + proof_depth p ≤ 2 ^ 32 → HasLowExpressions 256 p → ProofHasText (length names) v h p
      → AreTokens (proof_tokens (proof_text names v h p))
  text_are (proof.hypothesis k) v h over few low has = (tt, (omega (arith, few, has), tt))
  text_are (proof.hole k) v h over few low has = (tt, (omega (arith, has), tt))
  text_are (proof.lambda a p) v h over few low has =
      two_are heads.Lam (formula_argument names v a) (of_proof (proof_text names v (suc h) p))
      (expression_are a v (omega (arith, over)) low.0 has.0) (text_are p v (suc h) (omega (arith, over)) (omega (arith, few)) low.1 has.1)
  text_are (proof.application p q) v h over few low has =
      let m = proof_depth p in let n = proof_depth q in
      two_are heads.App (of_proof (proof_text names v h p)) (of_proof (proof_text names v h q))
      (text_are p v h (less v m (2 ^ 32) (left_part v m n (2 ^ 32) over)) (less h m (2 ^ 32) (left_part h m n (2 ^ 32) few)) low.0 has.0)
      (text_are q v h (less v n (2 ^ 32) (right_part v m n (2 ^ 32) over)) (less h n (2 ^ 32) (right_part h m n (2 ^ 32) few)) low.1 has.1)
  text_are (proof.general s p) v h over few low has =
      two_are heads.Gen (of_sort s) (of_proof (proof_text names (suc v) h p)) (tt, tt) (text_are p (suc v) h (omega (arith, over)) (omega (arith, few)) low has)
  text_are (proof.special p t) v h over few low has =
      two_are heads.Inst (of_proof (proof_text names v h p)) (term_argument names v t)
      (text_are p v h (omega (arith, over)) (omega (arith, few)) low.0 has.0) (inner_are t v (omega (arith, over)) has.1)
  text_are (proof.pair p q) v h over few low has =
      let m = proof_depth p in let n = proof_depth q in
      two_are heads.Pair (of_proof (proof_text names v h p)) (of_proof (proof_text names v h q))
      (text_are p v h (less v m (2 ^ 32) (left_part v m n (2 ^ 32) over)) (less h m (2 ^ 32) (left_part h m n (2 ^ 32) few)) low.0 has.0)
      (text_are q v h (less v n (2 ^ 32) (right_part v m n (2 ^ 32) over)) (less h n (2 ^ 32) (right_part h m n (2 ^ 32) few)) low.1 has.1)
  text_are (proof.first p) v h over few low has =
      one_are heads.First (of_proof (proof_text names v h p)) (text_are p v h (omega (arith, over)) (omega (arith, few)) low has)
  text_are (proof.second p) v h over few low has =
      one_are heads.Second (of_proof (proof_text names v h p)) (text_are p v h (omega (arith, over)) (omega (arith, few)) low has)
  text_are (proof.left_of b p) v h over few low has =
      two_are heads.Left (formula_argument names v b) (of_proof (proof_text names v h p))
      (expression_are b v (omega (arith, over)) low.0 has.0) (text_are p v h (omega (arith, over)) (omega (arith, few)) low.1 has.1)
  text_are (proof.right_of a p) v h over few low has =
      two_are heads.Right (formula_argument names v a) (of_proof (proof_text names v h p))
      (expression_are a v (omega (arith, over)) low.0 has.0) (text_are p v h (omega (arith, over)) (omega (arith, few)) low.1 has.1)
  text_are (proof.by_cases p q r) v h over few low has =
      let m = proof_depth p in let n = proof_depth q in let o = proof_depth r in
      three_are heads.Cases (of_proof (proof_text names v h p)) (of_proof (proof_text names v (suc h) q)) (of_proof (proof_text names v (suc h) r))
      (text_are p v h (less v m (2 ^ 32) (left_part v m (max n o) (2 ^ 32) over)) (less h m (2 ^ 32) (left_part h m (max n o) (2 ^ 32) few)) low.0 has.0)
      (text_are q v (suc h) (less v n (2 ^ 32) (middle_part v m n o (2 ^ 32) over)) (middle_part h m n o (2 ^ 32) few) low.1 has.1)
      (text_are r v (suc h) (less v o (2 ^ 32) (last_part v m n o (2 ^ 32) over)) (last_part h m n o (2 ^ 32) few) low.2 has.2)
  text_are (proof.pack s a t p) v h over few low has =
      let b : Argument = formula_argument names (suc v) a in
      let c : Argument = term_argument names v t in
      let d : Argument = of_proof (proof_text names v h p) in
      headed_are heads.Pack (more (of_sort s) (more b (more c (last d))))
      (more_are (of_sort s) (more b (more c (last d))) (tt, tt)
      (more_are b (more c (last d)) (expression_are a (suc v) (omega (arith, over)) low.0 has.0)
      (more_are c (last d) (inner_are t v (omega (arith, over)) has.1) (text_are p v h (omega (arith, over)) (omega (arith, few)) low.2 has.2))))
  text_are (proof.unpack p q) v h over few low has =
      let m = proof_depth p in let n = proof_depth q in
      two_are heads.Unpack (of_proof (proof_text names v h p)) (of_proof (proof_text names (suc v) (suc h) q))
      (text_are p v h (less v m (2 ^ 32) (left_part v m n (2 ^ 32) over)) (less h m (2 ^ 32) (left_part h m n (2 ^ 32) few)) low.0 has.0)
      (text_are q (suc v) (suc h) (right_part v m n (2 ^ 32) over) (right_part h m n (2 ^ 32) few) low.1 has.1)
  text_are (proof.from_bottom a p) v h over few low has =
      two_are heads.Absurd (formula_argument names v a) (of_proof (proof_text names v h p))
      (expression_are a v (omega (arith, over)) low.0 has.0) (text_are p v h (omega (arith, over)) (omega (arith, few)) low.1 has.1)
  text_are (proof.stable p) v h over few low has =
      one_are heads.Stable (of_proof (proof_text names v h p)) (text_are p v h (omega (arith, over)) (omega (arith, few)) low has)
  text_are (proof.reflexive t) v h over few low has = one_are heads.Refl (term_argument names v t) (inner_are t v (omega (arith, over)) has)
  text_are (proof.rewriting a p q) v h over few low has =
      let m = proof_depth p in let n = proof_depth q in
      three_are heads.Rewrite (formula_argument names (suc v) a) (of_proof (proof_text names v h p)) (of_proof (proof_text names v h q))
      (expression_are a (suc v) (omega (arith, over)) low.0 has.0)
      (text_are p v h (less v m (2 ^ 32) (left_part v m n (2 ^ 32) over)) (less h m (2 ^ 32) (left_part h m n (2 ^ 32) few)) low.1 has.1)
      (text_are q v h (less v n (2 ^ 32) (right_part v m n (2 ^ 32) over)) (less h n (2 ^ 32) (right_part h m n (2 ^ 32) few)) low.2 has.2)
  text_are (proof.an_axiom i) v h over few low has = one_are heads.Axiom (of_number i) (omega (arith, has), tt)
  text_are (proof.induction a) v h over few low has = one_are heads.Induct (formula_argument names (suc v) a) (expression_are a (suc v) (omega (arith, over)) low has)
  text_are (proof.computing t) v h over few low has = one_are heads.Compute (term_argument names v t) (inner_are t v (omega (arith, over)) has)
  text_are (proof.ring_equal s t) v h over few low has =
      two_are heads.Ring (term_argument names v s) (term_argument names v t) (inner_are s v (omega (arith, over)) has.0) (inner_are t v (omega (arith, over)) has.1)
