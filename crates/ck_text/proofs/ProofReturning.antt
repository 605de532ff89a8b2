-- The text of a proof term means the proof term, and its printed bytes are read back.
use Rattle.std.proofs.Common.{arith, ◌≡◌, ℕ, suc, ◌+◌, ◌-◌, ◌^◌, ◌≤◌, ◌<◌, max, List, [], ◌∷◌, length, Some, None, refl, sym, ap, ap₂, ◌∙◌, subst}
use Rattle.std.specs.Option.{option_map}
use Rattle.std.proofs.lemmas.Bool.{lt-ltb, le-ltb}
use Rattle.ck_base.specs.Names.{AreNames}
use Rattle.ck_base.specs.declared.decl.Sort.{Sort}
use Rattle.ck_base.specs.declared.decl.Decl.{Decl}
use Rattle.sorted_terms.specs.Tree.{TermTree}
use Rattle.sorted_terms.specs.Sorts.{term_depth}
use Rattle.formulas.specs.Tree.{FormulaTree}
use Rattle.formulas.specs.Sorts.{depth}
use Rattle.proof_terms.specs.Tree.{ProofTree}
use Rattle.proof_terms.specs.Tree as proof
use Rattle.proof_terms.specs.Size.{proof_depth}
use Rattle.ck_text.specs.declared.head.Head.{Head}
use Rattle.ck_text.specs.declared.head.Head.TheVariants as heads
use Rattle.ck_text.specs.Texts.{Text, first_of, whole_scope, term_of, formula_of}
use Rattle.ck_text.specs.Reading.{term_levels, formula_levels}
use Rattle.ck_text.specs.Printing.{term_text, formula_text, TermHasText, FormulaHasText}
use Rattle.ck_text.specs.ProofTexts.{Kind, a_sort, a_number, a_term, a_formula, a_proof, kinds, ProofText, numbered, headed, Arguments, last, more, Argument, of_sort, of_number, of_proof, argument_tokens, Part, sort, number, term, formula, proof_term, built, built_of, parts_of, whole_proof_scope, proof_of, meanings_of, part_of, too_deep, deep_at, deep_among, deep_in}
use Rattle.ck_text.specs.ProofPrinting.{term_argument, formula_argument, proof_text, ProofHasText, HasLowExpressions}
use Rattle.ck_text.specs.ProofPrintingLaws.{ProofTextMeans, ProofReadsBack}
use Rattle.ck_text.proofs.Depths.{term_levels_are, formula_levels_are}
use Rattle.ck_text.proofs.Returning.{term_text_means, formula_text_means}
use Rattle.ck_text.proofs.ProofRescanning.{proof_printed_scans}
use Rattle.ck_text.proofs.ProofFitting.{left_part, right_part, middle_part, last_part, less, proof_text_is, text_are}

module _ (names : List Decl) (are : AreNames names) where
  -- # What is read back

  -- the written proof means the proof term in the scope, and no term or formula in it is too deep
  record Returns (v h : ℕ) (p : ProofTree) (a : ProofText) : Type 0 where
    means : proof_of (whole_proof_scope names v h) a ≡ Some p
    low : (first : ℕ) → deep_at first 256 a ≡ None

  -- the same of an argument
  record Gives (v h : ℕ) (k : Kind) (part : Part) (a : Argument) : Type 0 where
    means : part_of (whole_proof_scope names v h) k a ≡ Some part
    low : (first : ℕ) → deep_in first 256 k a ≡ None

  -- and of arguments
  record GiveAll (v h : ℕ) (ks : List Kind) (parts : List Part) (others : Arguments) : Type 0 where
    means : meanings_of (whole_proof_scope names v h) ks others ≡ Some parts
    low : (first : ℕ) → deep_among first 256 ks others ≡ None

  last_gives : (v h : ℕ) (k : Kind) (part : Part) (a : Argument) → Gives v h k part a → GiveAll v h (k ∷ []) (part ∷ []) (last a)
  last_gives v h k part a r = record { means = ap (λ o. parts_of o (Some [])) r.means; low = r.low }

  more_give : (v h : ℕ) (k : Kind) (part : Part) (a : Argument) (ks : List Kind) (parts : List Part) (others : Arguments) → Gives v h k part a → GiveAll v h ks parts others → GiveAll v h (k ∷ ks) (part ∷ parts) (more a others)
  more_give v h k part a ks parts others r q = record {
    means = ap₂ parts_of r.means q.means;
    low = (λ first. ap₂ first_of (r.low first) (q.low (suc (first + length (argument_tokens a)))));
  }

  headed_returns : (v h : ℕ) (g : Head) (parts : List Part) (others : Arguments) (p : ProofTree) → built g parts ≡ Some p → GiveAll v h (kinds g) parts others → Returns v h p (headed g others)
  headed_returns v h g parts others p e r = record { means = ap (built_of g) r.means ∙ e; low = (λ first. r.low (2 + first)) }

  -- a rule with one argument, with two, and with three
  one_returns : (v h : ℕ) (g : Head) (k : Kind) (part : Part) (a : Argument) (p : ProofTree) → kinds g ≡ k ∷ [] → built g (part ∷ []) ≡ Some p
      → Gives v h k part a → Returns v h p (headed g (last a))
  one_returns v h g k part a p same e r = headed_returns v h g (part ∷ []) (last a) p e (subst (λ ks. GiveAll v h ks (part ∷ []) (last a)) (sym same) (last_gives v h k part a r))

  two_return : (v h : ℕ) (g : Head) (k l : Kind) (part next : Part) (a b : Argument) (p : ProofTree) → kinds g ≡ k ∷ l ∷ [] → built g (part ∷ next ∷ []) ≡ Some p
      → Gives v h k part a → Gives v h l next b → Returns v h p (headed g (more a (last b)))
  two_return v h g k l part next a b p same e r q =
      headed_returns v h g (part ∷ next ∷ []) (more a (last b)) p e
      (subst (λ ks. GiveAll v h ks (part ∷ next ∷ []) (more a (last b))) (sym same)
      (more_give v h k part a (l ∷ []) (next ∷ []) (last b) r (last_gives v h l next b q)))

  three_return : (v h : ℕ) (g : Head) (k l m : Kind) (part next third : Part) (a b c : Argument) (p : ProofTree) → kinds g ≡ k ∷ l ∷ m ∷ [] → built g (part ∷ next ∷ third ∷ []) ≡ Some p
      → Gives v h k part a → Gives v h l next b → Gives v h m third c → Returns v h p (headed g (more a (more b (last c))))
  three_return v h g k l m part next third a b c p same e r q o =
      headed_returns v h g (part ∷ next ∷ third ∷ []) (more a (more b (last c))) p e
      (subst (λ ks. GiveAll v h ks (part ∷ next ∷ third ∷ []) (more a (more b (last c)))) (sym same)
      (more_give v h k part a (l ∷ m ∷ []) (next ∷ third ∷ []) (more b (last c)) r
      (more_give v h l next b (m ∷ []) (third ∷ []) (last c) q (last_gives v h m third c o))))

  -- # Arguments

  not_deep : (first levels : ℕ) → levels ≤ 256 → too_deep first 256 levels ≡ None
  not_deep first levels low = rw (le-ltb 256 levels low) refl

  sort_gives : (v h : ℕ) (s : Sort) → Gives v h a_sort (sort s) (of_sort s)
  sort_gives v h s = record { means = refl; low = (λ first. refl) }

  number_gives : (v h n : ℕ) → Gives v h a_number (number n) (of_number n)
  number_gives v h n = record { means = refl; low = (λ first. refl) }

  none_more : (n : ℕ) → 0 + n ≡ n
  none_more n = omega arith

  one_more : (n : ℕ) → 1 + n ≡ suc n
  one_more n = omega arith

  term_gives : (v h : ℕ) (t : TermTree) → v < 2 ^ 32 → term_depth t ≤ 256 → TermHasText (length names) v t → Gives v h a_term (term t) (term_argument names v t)
  term_gives v h t few low has =
      let a : Text = term_text names v t in
      let means : term_of (whole_scope names v) a ≡ Some t = term_text_means names v t are few has in
      let levels : term_levels a ≤ 256 = subst (λ n. n ≤ 256) (term_levels_are (whole_scope names v) a t means) low in
      record {
        means = ap (λ n. option_map term (term_of (whole_scope names n) a)) (none_more v) ∙ ap (option_map term) means;
        low = (λ first. not_deep first (term_levels a) levels);
      }

  formula_gives : (v h under w : ℕ) → under + v ≡ w → (a : FormulaTree) → w < 2 ^ 32 → depth a ≤ 256 → FormulaHasText (length names) w a → Gives v h (a_formula under) (formula a) (formula_argument names w a)
  formula_gives v h under w same a few low has =
      let x : Text = formula_text names w a in
      let means : formula_of (whole_scope names w) x ≡ Some a = formula_text_means names w a are few low has in
      let levels : formula_levels x ≤ 256 = subst (λ n. n ≤ 256) (formula_levels_are (whole_scope names w) x a means) low in
      record {
        means = ap (λ n. option_map formula (formula_of (whole_scope names n) x)) same ∙ ap (option_map formula) means;
        low = (λ first. not_deep first (formula_levels x) levels);
      }

  proof_gives : (v h over under w g : ℕ) → over + v ≡ w → under + h ≡ g → (p : ProofTree) (a : ProofText) → Returns w g p a → Gives v h (a_proof over under) (proof_term p) (of_proof a)
  proof_gives v h over under w g same equal p a r = record {
    means = ap₂ (λ x y. option_map proof_term (proof_of (whole_proof_scope names x y) a)) same equal ∙ ap (option_map proof_term) r.means;
    low = r.low;
  }

  -- # Proofs

  hypothesis_returns : (v h k : ℕ) → k < h → Returns v h (proof.hypothesis k) (numbered (h - 1 - k))
  hypothesis_returns v h k has =
      let back : h - 1 - (h - 1 - k) ≡ k = omega (arith, has) in
      record { means = rw (lt-ltb (h - 1 - k) h (omega (arith, has)), back) refl; low = (λ first. refl) }

  returns : (p : ProofTree) (v h : ℕ) → suc v + proof_depth p ≤ 2 ^ 32 → HasLowExpressions 256 p → ProofHasText (length names) v h p → Returns v h p (proof_text names v h p)
  returns (proof.hypothesis k) v h few low has = hypothesis_returns v h k has
  returns (proof.hole k) v h few low has = record { means = refl; low = (λ first. refl) }
  returns (proof.lambda a p) v h few low has =
      two_return v h heads.Lam (a_formula 0) (a_proof 0 1) (formula a) (proof_term p) (formula_argument names v a) (of_proof (proof_text names v (suc h) p)) (proof.lambda a p) refl refl
      (formula_gives v h 0 v (none_more v) a (omega (arith, few)) low.0 has.0) (proof_gives v h 0 1 v (suc h) (none_more v) (one_more h) p (proof_text names v (suc h) p) (returns p v (suc h) (omega (arith, few)) low.1 has.1))
  returns (proof.application p q) v h few low has =
      let m = proof_depth p in let n = proof_depth q in
      two_return v h heads.App (a_proof 0 0) (a_proof 0 0) (proof_term p) (proof_term q) (of_proof (proof_text names v h p)) (of_proof (proof_text names v h q)) (proof.application p q) refl refl
      (proof_gives v h 0 0 v h (none_more v) (none_more h) p (proof_text names v h p) (returns p v h (less (suc v) m (2 ^ 32) (left_part (suc v) m n (2 ^ 32) few)) low.0 has.0))
      (proof_gives v h 0 0 v h (none_more v) (none_more h) q (proof_text names v h q) (returns q v h (less (suc v) n (2 ^ 32) (right_part (suc v) m n (2 ^ 32) few)) low.1 has.1))
  returns (proof.general s p) v h few low has =
      two_return v h heads.Gen a_sort (a_proof 1 0) (sort s) (proof_term p) (of_sort s) (of_proof (proof_text names (suc v) h p)) (proof.general s p) refl refl
      (sort_gives v h s) (proof_gives v h 1 0 (suc v) h (one_more v) (none_more h) p (proof_text names (suc v) h p) (returns p (suc v) h (omega (arith, few)) low has))
  returns (proof.special p t) v h few low has =
      two_return v h heads.Inst (a_proof 0 0) a_term (proof_term p) (term t) (of_proof (proof_text names v h p)) (term_argument names v t) (proof.special p t) refl refl
      (proof_gives v h 0 0 v h (none_more v) (none_more h) p (proof_text names v h p) (returns p v h (omega (arith, few)) low.0 has.0)) (term_gives v h t (omega (arith, few)) low.1 has.1)
  returns (proof.pair p q) v h few low has =
      let m = proof_depth p in let n = proof_depth q in
      two_return v h heads.Pair (a_proof 0 0) (a_proof 0 0) (proof_term p) (proof_term q) (of_proof (proof_text names v h p)) (of_proof (proof_text names v h q)) (proof.pair p q) refl refl
      (proof_gives v h 0 0 v h (none_more v) (none_more h) p (proof_text names v h p) (returns p v h (less (suc v) m (2 ^ 32) (left_part (suc v) m n (2 ^ 32) few)) low.0 has.0))
      (proof_gives v h 0 0 v h (none_more v) (none_more h) q (proof_text names v h q) (returns q v h (less (suc v) n (2 ^ 32) (right_part (suc v) m n (2 ^ 32) few)) low.1 has.1))
  returns (proof.first p) v h few low has =
      one_returns v h heads.First (a_proof 0 0) (proof_term p) (of_proof (proof_text names v h p)) (proof.first p) refl refl
      (proof_gives v h 0 0 v h (none_more v) (none_more h) p (proof_text names v h p) (returns p v h (omega (arith, few)) low has))
  returns (proof.second p) v h few low has =
      one_returns v h heads.Second (a_proof 0 0) (proof_term p) (of_proof (proof_text names v h p)) (proof.second p) refl refl
      (proof_gives v h 0 0 v h (none_more v) (none_more h) p (proof_text names v h p) (returns p v h (omega (arith, few)) low has))
  returns (proof.left_of b p) v h few low has =
      two_return v h heads.Left (a_formula 0) (a_proof 0 0) (formula b) (proof_term p) (formula_argument names v b) (of_proof (proof_text names v h p)) (proof.left_of b p) refl refl
      (formula_gives v h 0 v (none_more v) b (omega (arith, few)) low.0 has.0) (proof_gives v h 0 0 v h (none_more v) (none_more h) p (proof_text names v h p) (returns p v h (omega (arith, few)) low.1 has.1))
  returns (proof.right_of a p) v h few low has =
      two_return v h heads.Right (a_formula 0) (a_proof 0 0) (formula a) (proof_term p) (formula_argument names v a) (of_proof (proof_text names v h p)) (proof.right_of a p) refl refl
      (formula_gives v h 0 v (none_more v) a (omega (arith, few)) low.0 has.0) (proof_gives v h 0 0 v h (none_more v) (none_more h) p (proof_text names v h p) (returns p v h (omega (arith, few)) low.1 has.1))
  returns (proof.by_cases p q r) v h few low has =
      let m = proof_depth p in let n = proof_depth q in let o = proof_depth r in
      three_return v h heads.Cases (a_proof 0 0) (a_proof 0 1) (a_proof 0 1) (proof_term p) (proof_term q) (proof_term r)
      (of_proof (proof_text names v h p)) (of_proof (proof_text names v (suc h) q)) (of_proof (proof_text names v (suc h) r)) (proof.by_cases p q r) refl refl
      (proof_gives v h 0 0 v h (none_more v) (none_more h) p (proof_text names v h p) (returns p v h (less (suc v) m (2 ^ 32) (left_part (suc v) m (max n o) (2 ^ 32) few)) low.0 has.0))
      (proof_gives v h 0 1 v (suc h) (none_more v) (one_more h) q (proof_text names v (suc h) q) (returns q v (suc h) (less (suc v) n (2 ^ 32) (middle_part (suc v) m n o (2 ^ 32) few)) low.1 has.1))
      (proof_gives v h 0 1 v (suc h) (none_more v) (one_more h) r (proof_text names v (suc h) r) (returns r v (suc h) (less (suc v) o (2 ^ 32) (last_part (suc v) m n o (2 ^ 32) few)) low.2 has.2))
  returns (proof.pack s a t p) v h few low has =
      let b : Argument = formula_argument names (suc v) a in
      let c : Argument = term_argument names v t in
      let d : Argument = of_proof (proof_text names v h p) in
      let e : v < 2 ^ 32 = omega (arith, few) in
      headed_returns v h heads.Pack (sort s ∷ formula a ∷ term t ∷ proof_term p ∷ []) (more (of_sort s) (more b (more c (last d)))) (proof.pack s a t p) refl
      (more_give v h a_sort (sort s) (of_sort s) (a_formula 1 ∷ a_term ∷ a_proof 0 0 ∷ []) (formula a ∷ term t ∷ proof_term p ∷ []) (more b (more c (last d))) (sort_gives v h s)
      (more_give v h (a_formula 1) (formula a) b (a_term ∷ a_proof 0 0 ∷ []) (term t ∷ proof_term p ∷ []) (more c (last d)) (formula_gives v h 1 (suc v) (one_more v) a (omega (arith, few)) low.0 has.0)
      (more_give v h a_term (term t) c (a_proof 0 0 ∷ []) (proof_term p ∷ []) (last d) (term_gives v h t e low.1 has.1)
      (last_gives v h (a_proof 0 0) (proof_term p) d (proof_gives v h 0 0 v h (none_more v) (none_more h) p (proof_text names v h p) (returns p v h (omega (arith, few)) low.2 has.2))))))
  returns (proof.unpack p q) v h few low has =
      let m = proof_depth p in let n = proof_depth q in
      two_return v h heads.Unpack (a_proof 0 0) (a_proof 1 1) (proof_term p) (proof_term q) (of_proof (proof_text names v h p)) (of_proof (proof_text names (suc v) (suc h) q)) (proof.unpack p q) refl refl
      (proof_gives v h 0 0 v h (none_more v) (none_more h) p (proof_text names v h p) (returns p v h (less (suc v) m (2 ^ 32) (left_part (suc v) m n (2 ^ 32) few)) low.0 has.0))
      (proof_gives v h 1 1 (suc v) (suc h) (one_more v) (one_more h) q (proof_text names (suc v) (suc h) q) (returns q (suc v) (suc h) (right_part (suc v) m n (2 ^ 32) few) low.1 has.1))
  returns (proof.from_bottom a p) v h few low has =
      two_return v h heads.Absurd (a_formula 0) (a_proof 0 0) (formula a) (proof_term p) (formula_argument names v a) (of_proof (proof_text names v h p)) (proof.from_bottom a p) refl refl
      (formula_gives v h 0 v (none_more v) a (omega (arith, few)) low.0 has.0) (proof_gives v h 0 0 v h (none_more v) (none_more h) p (proof_text names v h p) (returns p v h (omega (arith, few)) low.1 has.1))
  returns (proof.stable p) v h few low has =
      one_returns v h heads.Stable (a_proof 0 0) (proof_term p) (of_proof (proof_text names v h p)) (proof.stable p) refl refl
      (proof_gives v h 0 0 v h (none_more v) (none_more h) p (proof_text names v h p) (returns p v h (omega (arith, few)) low has))
  returns (proof.reflexive t) v h few low has =
      one_returns v h heads.Refl a_term (term t) (term_argument names v t) (proof.reflexive t) refl refl (term_gives v h t (omega (arith, few)) low has)
  returns (proof.rewriting a p q) v h few low has =
      let m = proof_depth p in let n = proof_depth q in
      three_return v h heads.Rewrite (a_formula 1) (a_proof 0 0) (a_proof 0 0) (formula a) (proof_term p) (proof_term q)
      (formula_argument names (suc v) a) (of_proof (proof_text names v h p)) (of_proof (proof_text names v h q)) (proof.rewriting a p q) refl refl
      (formula_gives v h 1 (suc v) (one_more v) a (omega (arith, few)) low.0 has.0)
      (proof_gives v h 0 0 v h (none_more v) (none_more h) p (proof_text names v h p) (returns p v h (less (suc v) m (2 ^ 32) (left_part (suc v) m n (2 ^ 32) few)) low.1 has.1))
      (proof_gives v h 0 0 v h (none_more v) (none_more h) q (proof_text names v h q) (returns q v h (less (suc v) n (2 ^ 32) (right_part (suc v) m n (2 ^ 32) few)) low.2 has.2))
  returns (proof.an_axiom i) v h few low has =
      one_returns v h heads.Axiom a_number (number i) (of_number i) (proof.an_axiom i) refl refl (number_gives v h i)
  returns (proof.induction a) v h few low has =
      one_returns v h heads.Induct (a_formula 1) (formula a) (formula_argument names (suc v) a) (proof.induction a) refl refl (formula_gives v h 1 (suc v) (one_more v) a (omega (arith, few)) low has)
  returns (proof.computing t) v h few low has =
      one_returns v h heads.Compute a_term (term t) (term_argument names v t) (proof.computing t) refl refl (term_gives v h t (omega (arith, few)) low has)
  returns (proof.ring_equal s t) v h few low has =
      two_return v h heads.Ring a_term a_term (term s) (term t) (term_argument names v s) (term_argument names v t) (proof.ring_equal s t) refl refl
      (term_gives v h s (omega (arith, few)) low.0 has.0) (term_gives v h t (omega (arith, few)) low.1 has.1)

pub proof_text_means : ProofTextMeans
proof_text_means names variables hypotheses p are few deep low has =
    let r = returns names are p variables hypotheses (omega (arith, few, deep)) low has in
    (r.means, r.low 0)

pub proof_reads_back : ProofReadsBack
proof_reads_back names variables hypotheses p are few under deep low has =
    let r = proof_text_means names variables hypotheses p are few deep low has in
    let written = text_are names are p variables hypotheses (omega (arith, few, deep)) (omega (arith, under, deep)) low has in
    let a : ProofText = proof_text names variables hypotheses p in
    (a, (proof_text_is names variables hypotheses p under deep low has, sym (proof_printed_scans a written)), r.1, r.0)
