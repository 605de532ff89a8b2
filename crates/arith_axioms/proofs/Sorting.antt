-- Axioms and induction forms are well-sorted.
use Rattle.std.proofs.Common.{◌≡◌, ℕ, zero, suc, true, List, [], ◌∷◌, Some, slice_get, subst, refl, ◌∙◌}
use Rattle.ck_base.specs.declared.decl.Sort.{Sort}
use Rattle.ck_base.specs.declared.decl.Sort.TheVariants as sort
use Rattle.ck_base.specs.declared.decl.Decl.{Decl}
use Rattle.sorted_terms.specs.Tree.{index}
use Rattle.formulas.specs.Tree.{FormulaTree}
use Rattle.formulas.specs.Sorts.{well_sorted}
use Rattle.formulas.specs.Substitution.{shift}
use Rattle.formulas.proofs.Substituting.{sorted_shift, sorted_instance}
use Rattle.arith_axioms.specs.Axioms.{axioms, axiom_at, induction, next_at, 0', 1', ◌+'◌}

abbrev AllSorted : List Decl → List Sort → List FormulaTree → Type 0
AllSorted names variables [] = Unit {0}
AllSorted names variables (a ∷ formulas) = (well_sorted names variables a ≡ true) × AllSorted names variables formulas

all_sorted : (names : List Decl) (variables : List Sort) → AllSorted names variables axioms
all_sorted names variables = (
  refl,
  (
    refl,
    (
      refl,
      (
        refl,
        (
          refl,
          (
            refl,
            (
              refl,
              (
                refl,
                (
                  refl,
                  (
                    refl,
                    (
                      refl,
                      (
                        refl,
                        (
                          refl,
                          (
                            refl,
                            (
                              refl,
                              (
                                refl,
                                (
                                  refl,
                                  (
                                    refl,
                                    (
                                      refl,
                                      (
                                        refl,
                                        (
                                          refl,
                                          (
                                            refl,
                                            (
                                              refl,
                                              (
                                                refl,
                                                (
                                                  refl,
                                                  (
                                                    refl,
                                                    tt,
                                                  ),
                                                ),
                                              ),
                                            ),
                                          ),
                                        ),
                                      ),
                                    ),
                                  ),
                                ),
                              ),
                            ),
                          ),
                        ),
                      ),
                    ),
                  ),
                ),
              ),
            ),
          ),
        ),
      ),
    ),
  ),
)

one_sorted : (names : List Decl) (variables : List Sort) (formulas : List FormulaTree) (i : ℕ) (a : FormulaTree) → AllSorted names variables formulas → slice_get formulas i ≡ Some a → well_sorted names variables a ≡ true
one_sorted names variables [] i a h e = absurd (cc)
one_sorted names variables (b ∷ formulas) zero a h e = let same : b ≡ a = cc in subst (λ x. well_sorted names variables x ≡ true) same h.0
one_sorted names variables (b ∷ formulas) (suc i) a h e = one_sorted names variables formulas i a h.1 e

pub axiom_sorted : (names : List Decl) (variables : List Sort) (i : ℕ) (a : FormulaTree) → axiom_at i ≡ Some a → well_sorted names variables a ≡ true
unfolding axiom_at
axiom_sorted names variables zero a e = absurd (cc)
axiom_sorted names variables (suc i) a e = one_sorted names variables axioms i a (all_sorted names variables) e

next_sorted : (names : List Decl) (variables : List Sort) (a : FormulaTree) → well_sorted names (sort.Int ∷ variables) (next_at 0 a) ≡ well_sorted names (sort.Int ∷ variables) a
next_sorted names variables a =
    sorted_instance names (index 0 +' 1') sort.Int (sort.Int ∷ variables) refl (shift a 1 1) []
    ∙ sorted_shift names a (sort.Int ∷ []) (sort.Int ∷ []) variables

pub induction_sorted : (names : List Decl) (variables : List Sort) (a : FormulaTree) → well_sorted names (sort.Int ∷ variables) a ≡ true → well_sorted names variables (induction a) ≡ true
induction_sorted names variables a h =
    rw (sorted_instance names 0' sort.Int variables refl a [] ∙ h, next_sorted names variables a ∙ h, h) refl
