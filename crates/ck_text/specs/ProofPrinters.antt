-- Words for what the parts of the printer of proofs write.
use Rattle.std.specs.Prelude.{ℕ, suc, ◌-◌, List, [], ◌++◌, codes, decimal}
use Rattle.ck_base.specs.declared.decl.Decl.{Decl}
use Rattle.proof_terms.specs.Tree.{ProofTree, hypothesis, lambda, application, general, special, pair, first, second, left_of, right_of, by_cases, pack, unpack, from_bottom, stable, reflexive, rewriting, an_axiom, induction, computing, ring_equal, hole}
use Rattle.ck_text.specs.Printing.{term_bytes, formula_bytes}
use Rattle.ck_text.specs.ProofPrinting.{sort_word}

-- what a proof begins with: `#`, `?`, or the name of a rule and `(`
abbrev pub opening : ProofTree → List ℕ
opening (hypothesis k) = codes "#"
opening (hole k) = codes "?"
opening (lambda a p) = codes "lam("
opening (application p q) = codes "app("
opening (general s p) = codes "gen("
opening (special p t) = codes "inst("
opening (pair p q) = codes "pair("
opening (first p) = codes "first("
opening (second p) = codes "second("
opening (left_of b p) = codes "left("
opening (right_of a p) = codes "right("
opening (by_cases p q r) = codes "cases("
opening (pack s a t p) = codes "pack("
opening (unpack p q) = codes "unpack("
opening (from_bottom a p) = codes "absurd("
opening (stable p) = codes "stable("
opening (reflexive t) = codes "refl("
opening (rewriting a p q) = codes "rewrite("
opening (an_axiom i) = codes "axiom("
opening (induction a) = codes "induct("
opening (computing t) = codes "compute("
opening (ring_equal s t) = codes "ring("

-- what stands between the opening and the first proof in it; the whole rest where there is none
abbrev pub before_parts : List Decl → (variables hypotheses : ℕ) → ProofTree → List ℕ
before_parts names v h (hypothesis k) = decimal (h - 1 - k)
before_parts names v h (hole k) = decimal k
before_parts names v h (lambda a p) = formula_bytes names v a ++ codes ", "
before_parts names v h (general s p) = sort_word s ++ codes ", "
before_parts names v h (left_of b p) = formula_bytes names v b ++ codes ", "
before_parts names v h (right_of a p) = formula_bytes names v a ++ codes ", "
before_parts names v h (pack s a t p) =
    sort_word s ++ (codes ", " ++ (formula_bytes names (suc v) a ++ (codes ", " ++ (term_bytes names v t ++ codes ", "))))
before_parts names v h (from_bottom a p) = formula_bytes names v a ++ codes ", "
before_parts names v h (rewriting a p q) = formula_bytes names (suc v) a ++ codes ", "
before_parts names v h (reflexive t) = term_bytes names v t ++ codes ")"
before_parts names v h (an_axiom i) = decimal i ++ codes ")"
before_parts names v h (induction a) = formula_bytes names (suc v) a ++ codes ")"
before_parts names v h (computing t) = term_bytes names v t ++ codes ")"
before_parts names v h (ring_equal s t) = term_bytes names v s ++ (codes ", " ++ (term_bytes names v t ++ codes ")"))
before_parts names v h p = []
