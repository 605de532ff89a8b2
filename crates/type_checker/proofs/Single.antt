-- A proof has at most one formula, by induction on the proof.
use Rattle.std.proofs.Common.{◌≡◌, List, ◌∷◌, sym, ap, subst, ◌∙◌}
use Rattle.ck_base.specs.declared.decl.Decl.{Decl}
use Rattle.ck_base.specs.declared.decl.Sort.{Sort}
use Rattle.sorted_terms.specs.Tree.{TermTree, binary, equal}
use Rattle.formulas.specs.Tree.{FormulaTree, bottom, Connective, implies, and_also, or_else, Quantifier, for_all, there_is, holds, joined, quantified, not_so}
use Rattle.formulas.specs.Substitution.{shift, instance}
use Rattle.formulas.specs.Context.{raised}
use Rattle.formulas.proofs.Substituting.{same_shifted}
use Rattle.proof_terms.specs.Tree.{ProofTree, hypothesis, lambda, application, general, special, pair, first, second, left_of, right_of, by_cases, pack, unpack, from_bottom, stable, reflexive, rewriting, an_axiom, induction, computing, ring_equal}
use Rattle.type_checker.specs.Typing.{Has}

pub left_side : (c : Connective) (a b d e : FormulaTree) → joined c a b ≡ joined c d e → a ≡ d
left_side c a b d e same = cc

pub right_side : (c : Connective) (a b d e : FormulaTree) → joined c a b ≡ joined c d e → b ≡ e
right_side c a b d e same = cc

pub sort_over : (q : Quantifier) (r s : Sort) (a b : FormulaTree) → quantified q r a ≡ quantified q s b → r ≡ s
sort_over q r s a b same = cc

pub body_of : (q : Quantifier) (r s : Sort) (a b : FormulaTree) → quantified q r a ≡ quantified q s b → a ≡ b
body_of q r s a b same = cc

right_term : (s t u v : TermTree) → holds (binary equal s t) ≡ holds (binary equal u v) → t ≡ v
right_term s t u v same = cc

pub one_formula : (names : List Decl) (variables : List Sort) (hypotheses : List FormulaTree) (p : ProofTree) (a b : FormulaTree)
    → Has names variables hypotheses p a → Has names variables hypotheses p b → a ≡ b
one_formula names variables hypotheses (hypothesis k) a b h g = cc (h.1, g.1)
one_formula names variables hypotheses (lambda c p) a b h g =
    h.4 ∙ ap (joined implies c) (one_formula names variables (c ∷ hypotheses) p h.2 g.2 h.3 g.3) ∙ sym g.4
one_formula names variables hypotheses (application p q) a b h g =
    right_side implies h.1 a g.1 b (one_formula names variables hypotheses p (joined implies h.1 a) (joined implies g.1 b) h.2 g.2)
one_formula names variables hypotheses (general s p) a b h g =
    h.3 ∙ ap (quantified for_all s) (one_formula names (s ∷ variables) (raised hypotheses) p h.1 g.1 h.2 g.2) ∙ sym g.3
one_formula names variables hypotheses (special p t) a b h g =
    h.5 ∙ ap (λ x. instance x t 0) (body_of for_all h.1 g.1 h.2 g.2 (one_formula names variables hypotheses p (quantified for_all h.1 h.2) (quantified for_all g.1 g.2) h.3 g.3)) ∙ sym g.5
one_formula names variables hypotheses (pair p q) a b h g =
    h.5 ∙ (λ i. joined and_also (one_formula names variables hypotheses p h.1 g.1 h.3 g.3 i) (one_formula names variables hypotheses q h.2 g.2 h.4 g.4 i)) ∙ sym g.5
one_formula names variables hypotheses (first p) a b h g =
    left_side and_also a h.1 b g.1 (one_formula names variables hypotheses p (joined and_also a h.1) (joined and_also b g.1) h.2 g.2)
one_formula names variables hypotheses (second p) a b h g =
    right_side and_also h.1 a g.1 b (one_formula names variables hypotheses p (joined and_also h.1 a) (joined and_also g.1 b) h.2 g.2)
one_formula names variables hypotheses (left_of c p) a b h g =
    h.4 ∙ ap (λ x. joined or_else x c) (one_formula names variables hypotheses p h.2 g.2 h.3 g.3) ∙ sym g.4
one_formula names variables hypotheses (right_of c p) a b h g =
    h.4 ∙ ap (joined or_else c) (one_formula names variables hypotheses p h.2 g.2 h.3 g.3) ∙ sym g.4
one_formula names variables hypotheses (by_cases p q r) a b h g =
    let same = left_side or_else h.1 h.2 g.1 g.2 (one_formula names variables hypotheses p (joined or_else h.1 h.2) (joined or_else g.1 g.2) h.3 g.3) in
    one_formula names variables (g.1 ∷ hypotheses) q a b (subst (λ x. Has names variables (x ∷ hypotheses) q a) same h.4) g.4
one_formula names variables hypotheses (pack s c t p) a b h g = h.4 ∙ sym g.4
one_formula names variables hypotheses (unpack p q) a b h g =
    let same = one_formula names variables hypotheses p (quantified there_is h.1 h.2) (quantified there_is g.1 g.2) h.3 g.3 in
    let body = subst (λ x. Has names (h.1 ∷ variables) (x ∷ raised hypotheses) q (shift a 1 0)) (body_of there_is h.1 g.1 h.2 g.2 same) h.4 in
    let left = subst (λ s. Has names (s ∷ variables) (g.2 ∷ raised hypotheses) q (shift a 1 0)) (sort_over there_is h.1 g.1 h.2 g.2 same) body in
    same_shifted a b 0 (one_formula names (g.1 ∷ variables) (g.2 ∷ raised hypotheses) q (shift a 1 0) (shift b 1 0) left g.4)
one_formula names variables hypotheses (from_bottom c p) a b h g = h.3 ∙ sym g.3
one_formula names variables hypotheses (stable p) a b h g =
    let same = one_formula names variables hypotheses p (not_so (not_so a)) (not_so (not_so b)) h.1 g.1 in
    left_side implies a bottom b bottom (left_side implies (not_so a) bottom (not_so b) bottom same)
one_formula names variables hypotheses (reflexive t) a b h g = h.2 ∙ sym g.2
one_formula names variables hypotheses (rewriting c p q) a b h g =
    h.6 ∙ ap (λ t. instance c t 0) (right_term h.2 h.3 g.2 g.3 (one_formula names variables hypotheses p (holds (binary equal h.2 h.3)) (holds (binary equal g.2 g.3)) h.4 g.4)) ∙ sym g.6
one_formula names variables hypotheses (an_axiom i) a b h g = cc (h.1, g.1)
one_formula names variables hypotheses (induction c) a b h g = h.2 ∙ sym g.2
one_formula names variables hypotheses (computing t) a b h g = h.3 ∙ sym g.3
one_formula names variables hypotheses (ring_equal s t) a b h g = h.4 ∙ sym g.4
one_formula names variables hypotheses p a b h g = absurd h
